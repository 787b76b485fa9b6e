-- Regions that claim nothing may be left out: winners, runs, hits and partitions stay, but for the regions' numbers.
use mathlib.Core.Path.{fun_ext}
use Rattle.std.proofs.Common.{◌≡◌, ◌<◌, ◌≤◌, ◌+◌, ◌==◌, ℕ, zero, suc, List, [], ◌∷◌, length, get_or, map, filter, drop, Bool, true, false, cond, not, ◌&&◌, ◌||◌, Option, Some, None, IsSome, ap, sym, ◌∙◌, refl, inl, inr, arith}
use Rattle.std.specs.List.{position, position_from, list_any}
use Rattle.std.specs.Option.{option_map, MatchOption}
use Rattle.std.proofs.lemmas.Bool.{cases_Bool, cases_lt, cond-true, cond-false, and_right, eq-eqb, ne_eqb, true≢false}
use Rattle.std.proofs.lemmas.List.{drop_more}
use Rattle.std.proofs.lemmas.Iterator.Adapters.{position_from-zero}
use Rattle.bool_weave.specs.declared.woven.Woven.{Woven}
use Rattle.bool_weave.specs.Claims.{intervals_of}
use Rattle.bool_weave.proofs.Sorted.{Has}
use Rattle.overlap_list.specs.declared.region.RegionClaims.{RegionClaims}
use Rattle.overlap_list.specs.declared.partition.Partition.{Partition}
use Rattle.overlap_list.specs.Winners.{claims_at, or_else, first_without_air, first_with_air, winner_of}
use Rattle.overlap_list.specs.Runs.{IntervalRun, runs_below, is_maximal}
use Rattle.overlap_list.specs.Hits.{has_end_at, differ, changes_at, is_of, is_candidate, lowest, hit_on, cut_at, hit_of}
use Rattle.overlap_list.specs.Partitions.{is_one_winner, is_won_as, won_runs, or_zero, or_no_hit, partition_of, partitions_of}
use Rattle.overlap_list.specs.Laws.{IsWinner}
use Rattle.overlap_list.proofs.LawProofs.{winners_are_right}
use Rattle.overlap_list.proofs.Parts.{won_run}
use Rattle.shot_core.specs.Steps.{marked_from, renumbered}

-- the marked ones of values
abbrev pub kept : {A : Type 0} → List Bool → List A → List A
kept [] xs = []
kept (m ∷ ms) [] = []
kept (m ∷ ms) (x ∷ xs) = cond m (x ∷ kept ms xs) (kept ms xs)

-- there is a mark for each value, and the values without one have the property
abbrev pub LeavesOut : {A : Type 0} → (A → Type 0) → List Bool → List A → Type 0
LeavesOut P [] [] = Unit {0}
LeavesOut P [] (x ∷ xs) = ⊥
LeavesOut P (true ∷ ms) [] = ⊥
LeavesOut P (false ∷ ms) [] = ⊥
LeavesOut P (true ∷ ms) (x ∷ xs) = LeavesOut P ms xs
LeavesOut P (false ∷ ms) (x ∷ xs) = P x × LeavesOut P ms xs

pub out_weaker : {A : Type 0} (P Q : A → Type 0) (ms : List Bool) (xs : List A) → ((x : A) → P x → Q x) → LeavesOut P ms xs → LeavesOut Q ms xs
out_weaker P Q [] [] f h = tt
out_weaker P Q [] (x ∷ xs) f h = absurd h
out_weaker P Q (true ∷ ms) [] f h = absurd h
out_weaker P Q (false ∷ ms) [] f h = absurd h
out_weaker P Q (true ∷ ms) (x ∷ xs) f h = out_weaker P Q ms xs f h
out_weaker P Q (false ∷ ms) (x ∷ xs) f h = (f x h.0, out_weaker P Q ms xs f h.1)

abbrev pub Fails : {A : Type 0} → (A → Bool) → A → Type 0
Fails t x = t x ≡ false

-- the number of the first value that passes, where values bring their numbers
abbrev pub first_number : {A : Type 0} → (A → Bool) → List A → List ℕ → Option ℕ
first_number t [] ns = None
first_number t (x ∷ xs) [] = None
first_number t (x ∷ xs) (n ∷ ns) = cond (t x) (Some n) (first_number t xs ns)

first_kept : {A : Type 0} (t : A → Bool) (ms : List Bool) (xs : List A) (n : ℕ) → LeavesOut (Fails t) ms xs → position_from t n xs ≡ first_number t (kept ms xs) (marked_from n ms)
first_kept t [] [] n h = refl
first_kept t [] (x ∷ xs) n h = absurd h
first_kept t (true ∷ ms) [] n h = absurd h
first_kept t (false ∷ ms) [] n h = absurd h
first_kept t (true ∷ ms) (x ∷ xs) n h = ap (cond (t x) (Some n)) (first_kept t ms xs (n + 1) h)
first_kept t (false ∷ ms) (x ∷ xs) n h = cond-false (t x) (Some n) (position_from t (n + 1) xs) h.0 ∙ first_kept t ms xs (n + 1) h.1

pub as_many : {A : Type 0} (P : A → Type 0) (ms : List Bool) (xs : List A) (n : ℕ) → LeavesOut P ms xs → length (kept ms xs) ≡ length (marked_from n ms)
as_many P [] [] n h = refl
as_many P [] (x ∷ xs) n h = absurd h
as_many P (true ∷ ms) [] n h = absurd h
as_many P (false ∷ ms) [] n h = absurd h
as_many P (true ∷ ms) (x ∷ xs) n h = ap (λ k. suc k) (as_many P ms xs (n + 1) h)
as_many P (false ∷ ms) (x ∷ xs) n h = as_many P ms xs (n + 1) h.1

first_is : {A : Type 0} (t : A → Bool) (ns : List ℕ) (xs : List A) (m : ℕ) → m + length xs ≤ length ns → first_number t xs (drop m ns) ≡ option_map (λ i. get_or ns i 0) (position_from t m xs)
first_is t ns [] m lt = refl
first_is t ns (x ∷ xs) m lt =
    ap (first_number t (x ∷ xs)) (drop_more ns m 0 (omega (arith, lt)))
    ∙ elim (cases_Bool (t x)) [
      | inl passed ↦ cond-true (t x) (Some (get_or ns m 0)) (first_number t xs (drop (m + 1) ns)) passed
          ∙ sym (ap (option_map (λ i. get_or ns i 0)) (cond-true (t x) (Some m) (position_from t (m + 1) xs) passed))
      | inr failed ↦ cond-false (t x) (Some (get_or ns m 0)) (first_number t xs (drop (m + 1) ns)) failed
          ∙ first_is t ns xs (m + 1) (omega (arith, lt))
          ∙ sym (ap (option_map (λ i. get_or ns i 0)) (cond-false (t x) (Some m) (position_from t (m + 1) xs) failed))
    ]

-- the first of all that passes is the first of the marked ones that does
pub position_kept : {A : Type 0} (t : A → Bool) (ms : List Bool) (xs : List A) → LeavesOut (Fails t) ms xs → position t xs ≡ option_map (λ i. get_or (marked_from 0 ms) i 0) (position t (kept ms xs))
position_kept t ms xs h =
    position_from-zero t xs ∙ first_kept t ms xs 0 h
    ∙ first_is t (marked_from 0 ms) (kept ms xs) 0 (omega (arith, as_many (Fails t) ms xs 0 h))
    ∙ ap (option_map (λ i. get_or (marked_from 0 ms) i 0)) (sym (position_from-zero t (kept ms xs)))

any_kept : {A : Type 0} (t : A → Bool) (ms : List Bool) (xs : List A) → LeavesOut (Fails t) ms xs → list_any t xs ≡ list_any t (kept ms xs)
any_kept t [] [] h = refl
any_kept t [] (x ∷ xs) h = absurd h
any_kept t (true ∷ ms) [] h = absurd h
any_kept t (false ∷ ms) [] h = absurd h
any_kept t (true ∷ ms) (x ∷ xs) h = ap (λ b. t x || b) (any_kept t ms xs h)
any_kept t (false ∷ ms) (x ∷ xs) h = ap (λ b. b || list_any t xs) h.0 ∙ any_kept t ms xs h.1

-- marked numbers rise
marked_least : (ms : List Bool) (n i : ℕ) → i < length (marked_from n ms) → n ≤ get_or (marked_from n ms) i 0
marked_least [] n i lt = absurd (omega (arith, lt))
marked_least (true ∷ ms) n zero lt = omega arith
marked_least (true ∷ ms) n (suc i) lt = omega (arith, marked_least ms (n + 1) i (omega (arith, lt)))
marked_least (false ∷ ms) n i lt = omega (arith, marked_least ms (n + 1) i lt)

marked_rise : (ms : List Bool) (n i j : ℕ) → i < j → j < length (marked_from n ms) → get_or (marked_from n ms) i 0 < get_or (marked_from n ms) j 0
marked_rise [] n i j lt within = absurd (omega (arith, within))
marked_rise (true ∷ ms) n i zero lt within = absurd (omega (arith, lt))
marked_rise (true ∷ ms) n zero (suc j) lt within = omega (arith, marked_least ms (n + 1) j (omega (arith, within)))
marked_rise (true ∷ ms) n (suc i) (suc j) lt within = marked_rise ms (n + 1) i j (omega (arith, lt)) (omega (arith, within))
marked_rise (false ∷ ms) n i j lt within = marked_rise ms (n + 1) i j lt within

marked_apart : (ms : List Bool) (i j : ℕ) → i < length (marked_from 0 ms) → j < length (marked_from 0 ms) → (get_or (marked_from 0 ms) i 0 == get_or (marked_from 0 ms) j 0) ≡ (i == j)
marked_apart ms i j li lj =
    elim (cases_lt i j) [
      | inl less ↦
          let rise = marked_rise ms 0 i j less lj in
          ne_eqb _ _ (λ e. omega (arith, rise, e)) ∙ sym (ne_eqb i j (λ e. omega (arith, less, e)))
      | inr le ↦ elim (cases_lt j i) [
        | inl more ↦
            let rise = marked_rise ms 0 j i more li in
            ne_eqb _ _ (λ e. omega (arith, rise, e)) ∙ sym (ne_eqb i j (λ e. omega (arith, more, e)))
        | inr ge ↦
            let e : i ≡ j = omega (arith, le, ge) in
            eq-eqb _ _ (ap (λ k. get_or (marked_from 0 ms) k 0) e) ∙ sym (eq-eqb i j e)
      ]
    ]

abbrev IsBelow : ℕ → Option ℕ → Type 0
IsBelow count None = Unit {0}
IsBelow count (Some i) = i < count

winner_below : (regions : List RegionClaims) (k : ℕ) (o : Option ℕ) → MatchOption o ((s : ℕ) (d : RegionClaims) → s < length regions → claims_at (get_or regions s d) k ≡ false) (IsWinner regions k) → IsBelow (length regions) o
winner_below regions k None h = tt
winner_below regions k (Some r) h = h.there

or_else_map : (f : ℕ → ℕ) (a b : Option ℕ) → or_else (option_map f a) (option_map f b) ≡ option_map f (or_else a b)
or_else_map f None b = refl
or_else_map f (Some i) b = refl

or_zero_map : (f : ℕ → ℕ) (o : Option ℕ) → IsSome o → or_zero (option_map f o) ≡ f (or_zero o)
or_zero_map f None h = absurd (true≢false (sym h))
or_zero_map f (Some i) h = refl

pub map_same_on : {X Y : Type 0} (f g : X → Y) (xs : List X) → ((x : X) → Has xs x → f x ≡ g x) → map f xs ≡ map g xs
map_same_on f g [] h = refl
map_same_on f g (x ∷ xs) h = ap (λ y. y ∷ map f xs) (h x (inl refl)) ∙ ap (λ ys. g x ∷ ys) (map_same_on f g xs (λ y there. h y (inr there)))

pub map_twice : {X Y Z : Type 0} (g : Y → Z) (f : X → Y) (xs : List X) → map g (map f xs) ≡ map (λ x. g (f x)) xs
map_twice g f [] = refl
map_twice g f (x ∷ xs) = ap (λ ys. g (f x) ∷ ys) (map_twice g f xs)

abbrev pub ClaimsNothing : RegionClaims → Type 0
ClaimsNothing r = (k : ℕ) → claims_at r k ≡ false

no_change : (r : RegionClaims) (k : ℕ) → ClaimsNothing r → changes_at k r ≡ false
no_change r zero none = ap (differ false) (none 0)
no_change r (suc k) none = ap (λ b. differ b (claims_at r (suc k))) (none k) ∙ ap (differ false) (none (suc k))

module _ (ms : List Bool) (all : List RegionClaims) (out : LeavesOut ClaimsNothing ms all) where
  winner_kept : (k : ℕ) → winner_of all k ≡ option_map (λ i. get_or (marked_from 0 ms) i 0) (winner_of (kept ms all) k)
  winner_kept k =
      let f : ℕ → ℕ = λ i. get_or (marked_from 0 ms) i 0 in
      let dry = position_kept (λ (r : RegionClaims). not r.air && claims_at r k) ms all (out_weaker ClaimsNothing (Fails (λ (r : RegionClaims). not r.air && claims_at r k)) ms all (λ r none. and_right (not r.air) (claims_at r k) (none k)) out) in
      let air = position_kept (λ (r : RegionClaims). r.air && claims_at r k) ms all (out_weaker ClaimsNothing (Fails (λ (r : RegionClaims). r.air && claims_at r k)) ms all (λ r none. and_right r.air (claims_at r k) (none k)) out) in
      ap (λ o. or_else o (first_with_air all k)) dry
      ∙ ap (or_else (option_map f (first_without_air (kept ms all) k))) air
      ∙ or_else_map f (first_without_air (kept ms all) k) (first_with_air (kept ms all) k)

  count_kept : length (kept ms all) ≡ length (marked_from 0 ms)
  count_kept = as_many ClaimsNothing ms all 0 out

  one_winner_kept : (a b : Option ℕ) → IsBelow (length (kept ms all)) a → IsBelow (length (kept ms all)) b
      → is_one_winner (option_map (λ i. get_or (marked_from 0 ms) i 0) a) (option_map (λ i. get_or (marked_from 0 ms) i 0) b) ≡ is_one_winner a b
  one_winner_kept None b p q = refl
  one_winner_kept (Some i) None p q = refl
  one_winner_kept (Some i) (Some j) p q = marked_apart ms i j (omega (arith, p, count_kept)) (omega (arith, q, count_kept))

  below : (k : ℕ) → IsBelow (length (kept ms all)) (winner_of (kept ms all) k)
  below k = winner_below (kept ms all) k (winner_of (kept ms all) k) (winners_are_right (kept ms all) k)

  won_kept : (from k : ℕ) → is_won_as all from k ≡ is_won_as (kept ms all) from k
  won_kept from k =
      ap (λ o. is_one_winner o (winner_of all k)) (winner_kept from)
      ∙ ap (is_one_winner (option_map (λ i. get_or (marked_from 0 ms) i 0) (winner_of (kept ms all) from))) (winner_kept k)
      ∙ one_winner_kept (winner_of (kept ms all) from) (winner_of (kept ms all) k) (below from) (below k)

  runs_kept : (count : ℕ) → won_runs all count ≡ won_runs (kept ms all) count
  runs_kept count =
      let same : is_won_as all ≡ is_won_as (kept ms all) = fun_ext (λ from. fun_ext (λ k. won_kept from k)) in
      ap (λ (g : ℕ → ℕ → Bool). filter (λ (run : IntervalRun). is_maximal (g run.from) run) (runs_below count)) same

  hit_kept : (woven : List Woven) (k : ℕ) → hit_of woven all k ≡ hit_of woven (kept ms all) k
  hit_kept woven k =
      let same : is_candidate all k (cut_at woven k) ≡ is_candidate (kept ms all) k (cut_at woven k) = fun_ext (λ w.
      ap (λ b. has_end_at (cut_at woven k) w && b)
      (any_kept (λ (r : RegionClaims). is_of r w && changes_at k r) ms all (out_weaker ClaimsNothing (Fails (λ (r : RegionClaims). is_of r w && changes_at k r)) ms all (λ r none. and_right (is_of r w) (changes_at k r) (no_change r k none)) out))) in
      ap (λ g. hit_on (cut_at woven k) (lowest (filter g woven))) same

  partition_kept : (woven : List Woven) (run : IntervalRun) → IsSome (winner_of (kept ms all) run.from) → partition_of woven all run ≡ renumbered (marked_from 0 ms) (partition_of woven (kept ms all) run)
  partition_kept woven run some =
      let region : or_zero (winner_of all run.from) ≡ get_or (marked_from 0 ms) (or_zero (winner_of (kept ms all) run.from)) 0 =
      ap or_zero (winner_kept run.from) ∙ or_zero_map (λ i. get_or (marked_from 0 ms) i 0) (winner_of (kept ms all) run.from) some in
      ap (λ r. let p : Partition = record { region = r; start = cut_at woven run.from; end = cut_at woven run.to; hit = or_no_hit (hit_of woven all run.from) } in p) region
      ∙ ap (λ h. let p : Partition = record { region = get_or (marked_from 0 ms) (or_zero (winner_of (kept ms all) run.from)) 0; start = cut_at woven run.from; end = cut_at woven run.to; hit = or_no_hit h } in p) (hit_kept woven run.from)

  -- the partitions of all regions are those of the marked ones
  pub partitions_kept : (woven : List Woven) → partitions_of woven all ≡ map (renumbered (marked_from 0 ms)) (partitions_of woven (kept ms all))
  partitions_kept woven =
      let count = length (intervals_of woven) in
      ap (map (partition_of woven all)) (runs_kept count)
      ∙ map_same_on (partition_of woven all) (λ run. renumbered (marked_from 0 ms) (partition_of woven (kept ms all) run)) (won_runs (kept ms all) count)
      (λ run there. partition_kept woven run (won_run (kept ms all) count run there).0.region)
      ∙ sym (map_twice (renumbered (marked_from 0 ms)) (partition_of woven (kept ms all)) (won_runs (kept ms all) count))
