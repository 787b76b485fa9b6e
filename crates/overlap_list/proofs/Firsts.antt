-- The first partition whose region has no air starts at the first place behind which such a region claims.
use Rattle.std.proofs.Common.{◌≡◌, ◌<◌, ◌≤◌, ◌+◌, ◌-◌, ◌⊎◌, ℕ, zero, suc, List, [], ◌∷◌, length, get_or, map, filter, find, flat_map, Bool, true, false, not, ◌&&◌, ◌||◌, cond, nat_le, nat_lt, Option, Some, None, IsSome, All, ap, sym, ◌∙◌, subst, refl, inl, inr, arith}
use Rattle.std.specs.List.{list_any, position, position_from, slice_get}
use Rattle.std.specs.Option.{option_map}
use Rattle.std.specs.Ordering.{is_lt}
use Rattle.std.specs.declared.cmp.Ordering.{Ordering}
use Rattle.std.specs.declared.cmp.Ordering.TheVariants.{Less, Equal, Greater}
use Rattle.std.proofs.lemmas.Bool.{cases_lt, cases_Bool, and_parts, and_from, cond-true, cond-false, true≢false, false_from_ne_true}
use Rattle.std.proofs.lemmas.List.{get_or-map, get_or_default, length-map}
use Rattle.std.proofs.lemmas.List.Elements.{All-map}
use Rattle.std.proofs.lemmas.List.Folds.{Any-from_list_any, list_any_at}
use Rattle.std.proofs.lemmas.List.Quantifiers.{position-Some}
use Rattle.std.proofs.lemmas.Iterator.Adapters.{position_from-zero}
use Rattle.std.proofs.lemmas.Map.Keys.{Less-from_sorted}
use Rattle.std.proofs.lemmas.Option.{slice_get-get_or}
use Rattle.tree_forms.specs.Trees.{Leaf}
use Rattle.surd_order.specs.declared.position.Pos.{Pos}
use Rattle.surd_order.specs.PlaceOrder.{place_cmp}
use Rattle.bool_weave.specs.declared.woven.Woven.{Woven}
use Rattle.bool_weave.specs.Cuts.{ray_start, places_of, cuts_of}
use Rattle.bool_weave.specs.Claims.{intervals_of, is_before, claims_interval}
use Rattle.bool_weave.specs.Tables.{interval_at}
use Rattle.bool_weave.specs.Behind.{claims_behind, claims_before, AreSpelled}
use Rattle.bool_weave.proofs.Sorted.{Has, has_from_contains}
use Rattle.bool_weave.proofs.Cutting.{cuts_sorted, tied_same, turned, start_is_place, end_is_place}
use Rattle.bool_weave.proofs.Claimed.{intervals_length, intervals_at}
use Rattle.bool_weave.proofs.Behind as beside
use Rattle.overlap_list.specs.declared.region.RegionClaims.{RegionClaims}
use Rattle.overlap_list.specs.Winners.{claims_at, or_else, first_without_air, first_with_air, winner_of}
use Rattle.overlap_list.specs.Runs.{IntervalRun, has_before}
use Rattle.overlap_list.specs.Hits.{has_end_at, differ, changes_at, is_of, is_candidate, lowest, hit_on, cut_at, hit_of}
use Rattle.overlap_list.specs.Partitions.{won_runs, or_zero, or_no_hit, partition_of}
use Rattle.overlap_list.specs.Firsts.{TreeRegion, claims_by, has_no_air, first_solid, Start, start_of, is_solid_behind, changes_over, is_hit_at, hit_by, start_by, start_at, some_solid_behind, IsFirstPlace, FirstStartsAtFirstPlace, NoneWithoutPlace}
use Rattle.overlap_list.proofs.LawProofs.{runs_are_maximal, none_pass}
use Rattle.overlap_list.proofs.Ordered.{Rises}
use Rattle.overlap_list.proofs.Parts.{won_run, AreApart, runs_rise}
use Rattle.overlap_list.proofs.Covering.{run_about, nobody_past}
use Rattle.overlap_list.proofs.Hitting.{position_same}

-- finds in lists
find_map_go : {X Y : Type 0} (f : Y → Bool) (g : X → Y) (x : X) (rest : Option X) (b : Bool) → cond b (Some (g x)) (option_map g rest) ≡ option_map g (cond b (Some x) rest)
find_map_go f g x rest true = refl
find_map_go f g x rest false = refl

pub find_mapped : {X Y : Type 0} (f : Y → Bool) (g : X → Y) (xs : List X) → find f (map g xs) ≡ option_map g (find (λ x. f (g x)) xs)
find_mapped f g [] = refl
find_mapped f g (x ∷ xs) = ap (λ o. cond (f (g x)) (Some (g x)) o) (find_mapped f g xs) ∙ find_map_go f g x (find (λ x. f (g x)) xs) (f (g x))

-- of a rising list the one that is found is y or stands before it, where y passes
pub record IsFoundAt {X : Type 0} (R : X → X → Type 0) (f : X → Bool) (xs : List X) (y x : X) : Type 0 where
  pub found : find f xs ≡ Some x
  pub there : Has xs x
  pub passes : f x ≡ true
  pub early : (x ≡ y) ⊎ R x y

find_early : {X : Type 0} (R : X → X → Type 0) (f : X → Bool) (xs : List X) (y : X) → Rises R xs → Has xs y → f y ≡ true → (x : X) × IsFoundAt R f xs y x
find_early R f [] y r h passed = absurd h
find_early R f (x ∷ xs) y r h passed =
    elim (cases_Bool (f x)) [
      | inl yes_ ↦ (
        x,
        record {
          found = cond-true (f x) (Some x) (find f xs) yes_;
          there = inl refl;
          passes = yes_;
          early = elim h [ inl e ↦ inl e | inr m ↦ inr (r.0 y m) ];
        },
      )
      | inr no_ ↦ elim h [
        | inl e ↦ absurd (true≢false (sym passed ∙ ap f (sym e) ∙ no_))
        | inr m ↦
            let more = find_early R f xs y r.1 m passed in (
              more.0,
              record { found = cond-false (f x) (Some x) (find f xs) no_ ∙ more.1.found; there = inr more.1.there; passes = more.1.passes; early = more.1.early },
            )
      ]
    ]

find_none : {X : Type 0} (f : X → Bool) (xs : List X) → ((x : X) → Has xs x → f x ≡ true → ⊥) → find f xs ≡ None
find_none f [] h = refl
find_none f (x ∷ xs) h = cond-false (f x) (Some x) (find f xs) (false_from_ne_true (f x) (λ is. h x (inl refl) is)) ∙ find_none f xs (λ y m. h y (inr m))

position_from_mapped : {X Y : Type 0} (f : Y → Bool) (g : X → Y) (n : ℕ) (xs : List X) → position_from f n (map g xs) ≡ position_from (λ x. f (g x)) n xs
position_from_mapped f g n [] = refl
position_from_mapped f g n (x ∷ xs) = ap (λ o. cond (f (g x)) (Some n) o) (position_from_mapped f g (n + 1) xs)

position_mapped : {X Y : Type 0} (f : Y → Bool) (g : X → Y) (xs : List X) → position f (map g xs) ≡ position (λ x. f (g x)) xs
position_mapped f g xs = position_from-zero f (map g xs) ∙ position_from_mapped f g 0 xs ∙ sym (position_from-zero (λ x. f (g x)) xs)

position_alike : {X : Type 0} (f g : X → Bool) (xs : List X) → ((x : X) → f x ≡ g x) → position f xs ≡ position g xs
position_alike f g xs h = position_from-zero f xs ∙ position_same f g 0 xs (λ x m. h x) ∙ sym (position_from-zero g xs)

pub any_mapped : {X Y : Type 0} (f : Y → Bool) (g : X → Y) (xs : List X) → list_any f (map g xs) ≡ list_any (λ x. f (g x)) xs
any_mapped f g [] = refl
any_mapped f g (x ∷ xs) = ap (λ b. f (g x) || b) (any_mapped f g xs)

filter_alike : {X : Type 0} (f g : X → Bool) (xs : List X) → ((x : X) → f x ≡ g x) → filter f xs ≡ filter g xs
filter_alike f g [] h = refl
filter_alike f g (x ∷ xs) h = ap (λ b. cond b (x ∷ filter f xs) (filter f xs)) (h x) ∙ ap (λ l. cond (g x) (x ∷ l) l) (filter_alike f g xs h)

found_any : {X : Type 0} (f : X → Bool) (xs : List X) (n : ℕ) (d : X) → position f xs ≡ Some n → list_any f xs ≡ true
found_any f xs n d e = let p = position-Some f xs n d e in list_any_at f xs n d p.0 p.1

abbrev no_region : TreeRegion
no_region = record { air = false; first = 0; count = 0; tree = Leaf None }

-- the test of airs at the region of some number
solid_at : (regions : List TreeRegion) (n : ℕ) → n < length regions → has_no_air (slice_get regions n) ≡ not (get_or regions n no_region).air
solid_at regions n lt = ap has_no_air (slice_get-get_or regions n no_region lt)

tied_by : (r : Ordering) (x y : Pos) → place_cmp x y ≡ r → is_before x y ≡ false → is_before y x ≡ false → place_cmp x y ≡ Equal
tied_by Less x y e a b = absurd (true≢false (sym (ap is_lt e) ∙ a))
tied_by Equal x y e a b = e
tied_by Greater x y e a b = absurd (true≢false (sym (ap is_lt (turned x y Greater e)) ∙ b))

pub tied_from : (x y : Pos) → is_before x y ≡ false → is_before y x ≡ false → place_cmp x y ≡ Equal
tied_from x y a b = tied_by (place_cmp x y) x y refl a b

module _ (woven : List Woven) (regions : List TreeRegion) (s : AreSpelled woven) where
  abbrev all : List RegionClaims
  all = map (claims_by woven) regions

  abbrev count : ℕ
  count = length (intervals_of woven)

  within_cuts : (k : ℕ) → k < count → k + 1 < length (cuts_of woven)
  within_cuts k lt = omega (arith, lt, intervals_length (cuts_of woven))

  -- what an interval's claim is
  claim_is : (r : TreeRegion) (k : ℕ) → k < count → claims_at (claims_by woven r) k ≡ claims_interval woven r.tree r.first (interval_at (cuts_of woven) k)
  claim_is r k lt =
      get_or-map (claims_interval woven r.tree r.first) (intervals_of woven) k (interval_at (cuts_of woven) k) false lt
      ∙ ap (claims_interval woven r.tree r.first) (intervals_at (cuts_of woven) k (interval_at (cuts_of woven) k) (within_cuts k lt))

  pub claim_behind : (r : TreeRegion) (k : ℕ) → k < count → claims_at (claims_by woven r) k ≡ claims_behind woven r.tree r.first (cut_at woven k)
  claim_behind r k lt = claim_is r k lt ∙ beside.claimed_behind woven s r.tree r.first k (within_cuts k lt)

  pub claim_before : (r : TreeRegion) (k : ℕ) → k < count → has_before (claims_at (claims_by woven r)) k ≡ claims_before woven r.tree r.first (cut_at woven k)
  claim_before r zero lt = sym (beside.before_first woven s r.tree r.first)
  claim_before r (suc j) lt =
      let e : j + 1 ≡ suc j = omega arith in
      claim_is r j (omega (arith, lt)) ∙ beside.claimed_before woven s r.tree r.first j (within_cuts j (omega (arith, lt))) ∙ ap (λ n. claims_before woven r.tree r.first (cut_at woven n)) e

  solid_winner : (k : ℕ) → k < count → first_without_air all k ≡ position (is_solid_behind woven (cut_at woven k)) regions
  solid_winner k lt =
      position_mapped (λ (r : RegionClaims). not r.air && claims_at r k) (claims_by woven) regions
      ∙ position_alike (λ r. not r.air && claims_at (claims_by woven r) k) (is_solid_behind woven (cut_at woven k)) regions (λ r. ap (λ b. not r.air && b) (claim_behind r k lt))

  pub hit_is : (k : ℕ) → k < count → or_no_hit (hit_of woven all k) ≡ hit_by woven regions (cut_at woven k)
  hit_is k lt =
      ap (λ l. or_no_hit (hit_on (cut_at woven k) (lowest l)))
      (filter_alike (is_candidate all k (cut_at woven k)) (is_hit_at woven regions (cut_at woven k)) woven (λ w.
      ap (λ b. has_end_at (cut_at woven k) w && b)
      (any_mapped (λ (r : RegionClaims). is_of r w && changes_at k r) (claims_by woven) regions
      ∙ beside.any_same (λ r. is_of (claims_by woven r) w && changes_at k (claims_by woven r)) (λ r. (nat_le r.first w.instance && nat_lt w.instance (r.first + r.count)) && changes_over woven (cut_at woven k) r) regions
      (λ r h. ap (λ b. is_of (claims_by woven r) w && differ b (claims_at (claims_by woven r) k)) (claim_before r k lt)
      ∙ ap (λ b. is_of (claims_by woven r) w && differ (claims_before woven r.tree r.first (cut_at woven k)) b) (claim_behind r k lt)))))

  -- whether the winner of the interval with which a run begins has no air
  abbrev passes : IntervalRun → Bool
  passes run = has_no_air (slice_get regions (partition_of woven all run).region)

  -- it has where a region without air claims the interval
  solid_passes : (run : IntervalRun) (r : ℕ) → run.from < count → position (is_solid_behind woven (cut_at woven run.from)) regions ≡ Some r → winner_of all run.from ≡ Some r → passes run ≡ true
  solid_passes run r lt e w =
      let p = position-Some (is_solid_behind woven (cut_at woven run.from)) regions r no_region e in
      ap (λ o. has_no_air (slice_get regions (or_zero o))) w ∙ solid_at regions r p.0
      ∙ (and_parts (not (get_or regions r no_region).air) (claims_behind woven (get_or regions r no_region).tree (get_or regions r no_region).first (cut_at woven run.from)) p.1).0

  -- and only there
  passes_solid_go : (run : IntervalRun) (o a : Option ℕ) → run.from < count → IsSome (or_else o a) → position (is_solid_behind woven (cut_at woven run.from)) regions ≡ o → first_without_air all run.from ≡ o → first_with_air all run.from ≡ a
      → passes run ≡ true → some_solid_behind woven regions (cut_at woven run.from) ≡ true
  passes_solid_go run (Some r) a lt i e w f passed = found_any (is_solid_behind woven (cut_at woven run.from)) regions r no_region e
  passes_solid_go run None None lt i e w f passed = absurd (true≢false (sym i))
  passes_solid_go run None (Some r) lt i e w f passed =
      let won : winner_of all run.from ≡ Some r = ap (λ o. or_else o (first_with_air all run.from)) w ∙ f in
      let p = position-Some (λ (x : TreeRegion). x.air && claims_at (claims_by woven x) run.from) regions r no_region (sym (position_mapped (λ (x : RegionClaims). x.air && claims_at x run.from) (claims_by woven) regions) ∙ f) in
      let air : (get_or regions r no_region).air ≡ true = (and_parts (get_or regions r no_region).air (claims_at (claims_by woven (get_or regions r no_region)) run.from) p.1).0 in
      absurd (true≢false (sym passed ∙ ap (λ o. has_no_air (slice_get regions (or_zero o))) won ∙ solid_at regions r p.0 ∙ ap not air))

  passes_solid : (run : IntervalRun) → run.from < count → IsSome (winner_of all run.from) → passes run ≡ true → some_solid_behind woven regions (cut_at woven run.from) ≡ true
  passes_solid run lt i passed = passes_solid_go run (first_without_air all run.from) (first_with_air all run.from) lt i (sym (solid_winner run.from lt)) refl refl passed

  found : first_solid woven regions ≡ option_map (partition_of woven all) (find passes (won_runs all count))
  found = find_mapped (λ p. has_no_air (slice_get regions p.region)) (partition_of woven all) (won_runs all count)

  pub none_there : ((x : Pos) → some_solid_behind woven regions x ≡ false) → first_solid woven regions ≡ None
  none_there none =
      found ∙ ap (option_map (partition_of woven all)) (find_none passes (won_runs all count) (λ run h is.
      let w = won_run all count run h in
      true≢false (sym (passes_solid run (omega (arith, w.0.some, w.1)) w.0.region is) ∙ none (cut_at woven run.from))))

  pub rows : All (λ x. length x.claims ≡ count) all
  rows = All-map (λ (x : RegionClaims). length x.claims ≡ count) (claims_by woven) regions (λ k d lt. length-map (intervals_of woven) (claims_interval woven (get_or regions k d).tree (get_or regions k d).first))

  -- the first place is where an interval starts
  place_cut : (x : Pos) → IsFirstPlace woven regions x → (k : ℕ) × (k < count) × (x ≡ cut_at woven k)
  place_cut x p =
      let a = Any-from_list_any (is_solid_behind woven x) regions p.solid in
      let parts = and_parts (not a.1.air) (claims_behind woven a.1.tree a.1.first x) a.4 in
      let end = beside.claims_begin_at_ends woven a.1.tree a.1.first x parts.1 in
      let solid : some_solid_behind woven regions end.end ≡ true =
      list_any_at (is_solid_behind woven end.end) regions a.0 a.1 a.2 (ap (is_solid_behind woven end.end) a.3 ∙ and_from (not a.1.air) _ parts.0 end.claimed) in
      let not_early : is_before end.end x ≡ false = false_from_ne_true _ (λ is. true≢false (sym solid ∙ p.first end.end is)) in
      let w = end.there in
      let h : Has woven w.1 = has_from_contains woven w.1 (w.0, w.2, w.3) in
      let place : Has (places_of woven) end.end = inr (inr (elim w.4 [
        | inl e ↦ subst (λ z. Has (flat_map (λ (v : Woven). v.seg.start ∷ v.seg.end ∷ []) woven) z) e (start_is_place woven w.1 h)
        | inr e ↦ subst (λ z. Has (flat_map (λ (v : Woven). v.seg.start ∷ v.seg.end ∷ []) woven) z) e (end_is_place woven w.1 h)
      ])) in
      let same : x ≡ end.end = tied_same x end.end p.spelled (beside.places_spelled woven end.end s place) (tied_from x end.end end.reached not_early) in
      let c = beside.among_cuts woven end.end s place in
      let at : cut_at woven c.0 ≡ end.end = get_or_default (cuts_of woven) c.0 ray_start end.end c.1 ∙ c.2 in (
        c.0,
        elim (cases_lt c.0 count) [
          | inl lt ↦ lt
          | inr ge ↦
              let last : c.0 ≡ length (cuts_of woven) - 1 = omega (arith, ge, c.1, intervals_length (cuts_of woven)) in
              absurd (true≢false (sym end.claimed ∙ ap (claims_behind woven a.1.tree a.1.first) (sym at ∙ ap (cut_at woven) last) ∙ beside.behind_last woven s a.1.tree a.1.first))
        ],
        same ∙ sym at,
      )

  -- no interval before it is claimed without air
  none_early : (k j : ℕ) → k < count → IsFirstPlace woven regions (cut_at woven k) → some_solid_behind woven regions (cut_at woven j) ≡ true → k ≤ j
  none_early k j lt p is =
      elim (cases_lt j k) [
        | inl early ↦ absurd (true≢false (sym is ∙ p.first (cut_at woven j) (ap is_lt (Less-from_sorted place_cmp (cuts_of woven) j k ray_start (cuts_sorted woven) early (omega (arith, within_cuts k lt))))))
        | inr le ↦ le
      ]

  first_run : (k r : ℕ) → k < count → IsFirstPlace woven regions (cut_at woven k) → position (is_solid_behind woven (cut_at woven k)) regions ≡ Some r
      → option_map start_of (first_solid woven regions) ≡ Some (start_by woven regions (cut_at woven k) r)
  first_run k r lt p e =
      let won : winner_of all k ≡ Some r = ap (λ o. or_else o (first_with_air all k)) (solid_winner k lt ∙ e) in
      let run = run_about all r count k lt won (nobody_past all count r rows) in
      let from_lt : run.0.from < count = omega (arith, run.3, lt) in
      let won_from : winner_of all run.0.from ≡ Some r = sym (run.1.won k run.3 run.4) ∙ won in
      let solid_k = position-Some (is_solid_behind woven (cut_at woven k)) regions r no_region e in
      let passed : passes run.0 ≡ true =
      ap (λ o. has_no_air (slice_get regions (or_zero o))) won_from ∙ solid_at regions r solid_k.0
      ∙ (and_parts (not (get_or regions r no_region).air) (claims_behind woven (get_or regions r no_region).tree (get_or regions r no_region).first (cut_at woven k)) solid_k.1).0 in
      let from_is : run.0.from ≡ k = omega (arith, run.3, none_early k run.0.from lt p (passes_solid run.0 from_lt run.1.region passed)) in
      let there : Has (won_runs all count) run.0 = has_from_contains (won_runs all count) run.0 ((runs_are_maximal all count run.0).1 (run.1, run.2)) in
      let first = find_early (AreApart all) passes (won_runs all count) run.0 (runs_rise all count) there passed in
      let w = won_run all count first.0 first.1.there in
      let late : k ≤ first.0.from = none_early k first.0.from lt p (passes_solid first.0 (omega (arith, w.0.some, w.1)) w.0.region first.1.passes) in
      let same : first.0 ≡ run.0 = elim first.1.early [ inl e ↦ e | inr apart ↦ absurd {A = first.0 ≡ run.0} (omega (arith, apart.order, w.0.some, late, from_is)) ] in
      ap (option_map start_of) (found ∙ ap (option_map (partition_of woven all)) (first.1.found ∙ ap (λ x. Some x) same))
      ∙ ap (λ x. Some x) (ap (λ n. let st : Start = record { region = or_zero (winner_of all n); start = cut_at woven n; hit = or_no_hit (hit_of woven all n) } in st) from_is
      ∙ ap (λ o. let st : Start = record { region = or_zero o; start = cut_at woven k; hit = or_no_hit (hit_of woven all k) } in st) won
      ∙ ap (λ h. let st : Start = record { region = r; start = cut_at woven k; hit = h } in st) (hit_is k lt))

  some_region : (x : Pos) (o : Option ℕ) → position (is_solid_behind woven x) regions ≡ o → some_solid_behind woven regions x ≡ true → (r : ℕ) × (position (is_solid_behind woven x) regions ≡ Some r)
  some_region x (Some r) e h = (r, e)
  some_region x None e h =
      let a = Any-from_list_any (is_solid_behind woven x) regions h in
      absurd (true≢false (sym a.4 ∙ ap (is_solid_behind woven x) (sym a.3) ∙ none_pass (is_solid_behind woven x) regions e a.0 a.1 a.2))

  pub first_there : (x : Pos) → IsFirstPlace woven regions x → option_map start_of (first_solid woven regions) ≡ start_at woven regions x
  first_there x p =
      let c = place_cut x p in
      let q : IsFirstPlace woven regions (cut_at woven c.0) = subst (IsFirstPlace woven regions) c.2 p in
      let r = some_region (cut_at woven c.0) (position (is_solid_behind woven (cut_at woven c.0)) regions) refl q.solid in
      first_run c.0 r.0 c.1 q r.1 ∙ sym (ap (option_map (start_by woven regions (cut_at woven c.0))) r.1) ∙ sym (ap (start_at woven regions) c.2)

pub first_starts_at_first_place : FirstStartsAtFirstPlace
first_starts_at_first_place woven regions x s p = first_there woven regions s x p

pub none_without_place : NoneWithoutPlace
none_without_place woven regions s none = none_there woven regions s none
