-- Each step keeps what the table keeps.
use Rattle.std.proofs.Common.{◌≡◌, ◌≢◌, ◌⊎◌, ◌≤◌, ◌<◌, ◌+◌, ◌-◌, ◌%◌, ◌^◌, ◌==◌, ℕ, zero, suc, Bool, true, false, cond, List, [], ◌∷◌, ◌++◌, length, ◌∙◌, refl, ap, sym, subst, arith, Some, None, slice_index, inl, inr, length-append}
use Rattle.std.proofs.Common as std
use Rattle.std.proofs.lemmas.Bool.{cases_lt, cases_eq}
use mathlib.Core.Option.{some, none}
use mathlib.Core.List.{IsPrefix}
use lib.ListN.{get_elem?, set}
use prog.Atomic.{either}
use Rattle.atomic_table.specs.Table.{State, Me, Act, step, Allows, Splits, Joins, Final, Seen, Valid, stepped, carried_after, takes, keeps, gives, put_back}
use Rattle.atomic_table.proofs.Lists.{at_set, set_again, at_snoc, at_last, set_else}
use Rattle.version_table.specs.declared.rule.View.{View}
use Rattle.version_table.specs.declared.rule.Noted.{Noted}
use Rattle.version_table.specs.Run.{Told, BookView}
use Rattle.version_table.specs.History.{IsKept, IsSound, state_of, book_of, home_of, holding, calls_left, claim_count, claims_of, AllBegin}
use Rattle.version_table.specs.Claims.{claim_of, places_of, AllMatch}
use Rattle.version_table.specs.Places.{total, times, IsRising, places_from}
use Rattle.version_table.specs.Steps.{with_turn, with_entry, at_rest, Takes, Counts, Gives, Learns, kept_part, given_part, joined, spent}
use Rattle.version_table.proofs.Totals.{total_set, total_one, total_two, prefix_refl, prefix_more, prefix_length, prefix_whole, total_append, longer_prefix, longer_length, longer_begins, total_none, total_sum}
use Rattle.version_table.proofs.Places.{choice, same_place, times_none, rising_more, all_places}
use Rattle.version_table.proofs.Claims.{length_places, places_more, times_claimed, times_claims, length_claims, rising_claims, match_longer, match_more, match_merged}

cases_bool : (b : Bool) → (b ≡ true) ⊎ (b ≡ false)
cases_bool true = inl refl
cases_bool false = inr refl

module _ {C : Type 0} where
  -- a fact of each view is kept where one view changes to one that has it
  still : (P : View C → Type 0) (views : List (View C)) (id : ℕ) (w : View C) → P w → ((j : ℕ) (v : View C) → get_elem? views j ≡ some v → P v) → (j : ℕ) (v : View C) → get_elem? (set views id w) j ≡ some v → P v
  still P views id w own all j v at = elim (at_set views id j w v at) [ inl p ↦ subst P p.1 own | inr p ↦ all j v p.1 ]

  -- the turn is taken
  taken : (calls id : ℕ) (v : View C) (h : List (Noted C)) (views : List (View C)) → v.holds ≡ false → get_elem? views id ≡ some v → 0 < v.left
      → IsSound calls 0 h views → IsSound calls 1 h (set views id (with_turn h v))
  taken calls id v h views idle here some_left sound =
      let w : View C = with_turn h v in record {
        small = sound.small;
        one_turn = omega arith;
        turns = omega (arith, total_set holding views id v w here, sound.turns, ap {B = ℕ} (λ b. cond b 1 0) idle);
        room = omega (arith, total_set calls_left views id v w here, sound.room);
        seen = still (λ x. IsPrefix x.seen h) views id w (prefix_refl h) sound.seen;
        claimed = omega (arith, total_set claim_count views id v w here, sound.claimed);
        once = λ k below. omega (arith, total_set (claims_of k) views id v w here, sound.once k below);
        own = still (λ x. (k : ℕ) → 0 < times k (places_of x.claims) → k < length x.seen) views id w (λ k has. omega (arith, sound.own id v here k has, prefix_length v.seen h (sound.seen id v here))) sound.own;
        matched = still (λ x. AllMatch h x.claims) views id w (sound.matched id v here) sound.matched;
        carrier = still (λ x. x.carries ≡ cond x.holds (0 ∷ []) []) views id w refl sound.carrier;
        met = still (λ x. AllBegin x.met x.seen) views id w tt sound.met;
        rising = still (λ x. IsRising (places_of x.claims)) views id w (sound.rising id v here) sound.rising;
        armed = still (λ x. x.holds ≡ true → 0 < x.left + length x.claims) views id w (λ _. omega (arith, some_left)) sound.armed;
        whole = λ j x at holds. elim (at_set views id j w x at) [
          | inl p ↦ ap (λ (y : View C). y.seen) (sym p.1)
          | inr p ↦ absurd (omega (arith, total_one holding views j x p.1, sound.turns, ap {B = ℕ} (λ b. cond b 1 0) holds))
        ];
      }

  -- a place of the history is claimed once, and one past it is not
  claimed_so_far : (calls turn : ℕ) (h : List (Noted C)) (views : List (View C)) → IsSound calls turn h views → (k : ℕ) → ((k < length h) × (total (claims_of k) views ≡ 1)) ⊎ ((length h ≤ k) × (total (claims_of k) views ≡ 0))
  claimed_so_far calls turn h views sound k =
      elim (cases_lt k (length h)) [
        | inl below ↦ inl (below, sound.once k below)
        | inr past ↦ inr (past, total_none (claims_of k) views (λ j v at. omega (arith, choice (times k (places_of v.claims)) k (length v.seen) (sound.own j v at k), prefix_length v.seen h (sound.seen j v at), past)))
      ]

  -- the entry is counted
  counted : (calls id : ℕ) (entry : Noted C) (v : View C) (views : List (View C)) → v.holds ≡ true → 0 < v.left → entry.session ≡ v.session → get_elem? views id ≡ some v
      → IsSound calls 1 v.seen views → IsSound calls 1 (v.seen ++ entry ∷ []) (set views id (with_entry entry v))
  counted calls id entry v views has some_left session here sound =
      let h = v.seen in
      let claim = claim_of v.session (length h) in
      let w : View C = with_entry entry v in record {
        small = sound.small;
        one_turn = omega arith;
        turns = omega (arith, total_set holding views id v w here, sound.turns, ap {B = ℕ} (λ b. cond b 1 0) has);
        room = omega (arith, total_set calls_left views id v w here, sound.room, length-append h (entry ∷ []), total_one calls_left views id v here);
        claimed = omega (arith, total_set claim_count views id v w here, sound.claimed, length-append h (entry ∷ []), length-append v.claims (claim ∷ []));
        once = λ k below. omega (arith, total_set (claims_of k) views id v w here, times_claimed k v.claims claim, same_place (length h) k, claimed_so_far calls 1 h views sound k, length-append h (entry ∷ []), below);
        matched = still (λ x. AllMatch (h ++ entry ∷ []) x.claims) views id w
            (match_more (h ++ entry ∷ []) v.claims claim (match_longer h (entry ∷ []) v.claims (sound.matched id v here)) (entry, at_last h entry (length h) refl, session)) (λ j x at. match_longer h (entry ∷ []) x.claims (sound.matched j x at));
        own = still (λ x. (k : ℕ) → 0 < times k (places_of x.claims) → k < length x.seen) views id w (λ k has. omega (arith, times_claimed k v.claims claim, same_place (length h) k, choice (times k (places_of v.claims)) k (length h) (sound.own id v here k), length-append h (entry ∷ []), has)) sound.own;
        met = still (λ x. AllBegin x.met x.seen) views id w tt sound.met;
        rising = still (λ x. IsRising (places_of x.claims)) views id w (subst IsRising (sym (places_more v.claims claim)) (rising_more (places_of v.claims) (length h) (sound.rising id v here) (sound.own id v here))) sound.rising;
        armed = still (λ x. x.holds ≡ true → 0 < x.left + length x.claims) views id w (λ _. omega (arith, length-append v.claims (claim ∷ []))) sound.armed;
        carrier = still (λ x. x.carries ≡ cond x.holds (0 ∷ []) []) views id w (sound.carrier id v here ∙ ap (λ b. cond b (0 ∷ []) []) has) sound.carrier;
        seen = still (λ x. IsPrefix x.seen (h ++ entry ∷ [])) views id w (prefix_refl (h ++ entry ∷ [])) (λ j x at. prefix_more x.seen h (entry ∷ []) (sound.seen j x at));
        whole = λ j x at holds. elim (at_set views id j w x at) [
          | inl p ↦ ap (λ (y : View C). y.seen) (sym p.1)
          | inr p ↦ absurd (omega (arith, total_two holding views j id x v p.0 p.1 here, sound.turns, ap {B = ℕ} (λ b. cond b 1 0) holds, ap {B = ℕ} (λ b. cond b 1 0) has))
        ];
      }

  -- the turn is given
  given : (calls id : ℕ) (v : View C) (h : List (Noted C)) (views : List (View C)) → v.holds ≡ true → get_elem? views id ≡ some v → v.seen ≡ h
      → IsSound calls 1 h views → IsSound calls 0 h (set views id (at_rest v))
  given calls id v h views has here full sound =
      let w : View C = at_rest v in record {
        small = sound.small;
        one_turn = omega arith;
        turns = omega (arith, total_set holding views id v w here, sound.turns, ap {B = ℕ} (λ b. cond b 1 0) has);
        room = omega (arith, total_set calls_left views id v w here, sound.room);
        claimed = omega (arith, total_set claim_count views id v w here, sound.claimed);
        once = λ k below. omega (arith, total_set (claims_of k) views id v w here, sound.once k below);
        own = still (λ x. (k : ℕ) → 0 < times k (places_of x.claims) → k < length x.seen) views id w (sound.own id v here) sound.own;
        matched = still (λ x. AllMatch h x.claims) views id w (sound.matched id v here) sound.matched;
        carrier = still (λ x. x.carries ≡ cond x.holds (0 ∷ []) []) views id w refl sound.carrier;
        met = still (λ x. AllBegin x.met x.seen) views id w tt sound.met;
        rising = still (λ x. IsRising (places_of x.claims)) views id w (sound.rising id v here) sound.rising;
        armed = still (λ x. x.holds ≡ true → 0 < x.left + length x.claims) views id w (λ e. cc) sound.armed;
        seen = still (λ x. IsPrefix x.seen h) views id w (sound.seen id v here) sound.seen;
        whole = λ j x at holds. elim (at_set views id j w x at) [
          | inl p ↦ absurd (let e : false ≡ true = ap (λ (y : View C). y.holds) p.1 ∙ holds in cc)
          | inr p ↦ absurd (omega (arith, total_two holding views j id x v p.0 p.1 here, sound.turns, ap {B = ℕ} (λ b. cond b 1 0) holds, ap {B = ℕ} (λ b. cond b 1 0) has))
        ];
      }

  -- what was met is no more told
  learned : (calls id turn : ℕ) (v : View C) (h : List (Noted C)) (views : List (View C)) → v.holds ≡ false → get_elem? views id ≡ some v
      → IsSound calls turn h views → IsSound calls turn h (set views id (at_rest v))
  learned calls id turn v h views idle here sound =
      let w : View C = at_rest v in record {
        small = sound.small;
        one_turn = sound.one_turn;
        turns = omega (arith, total_set holding views id v w here, sound.turns, ap {B = ℕ} (λ b. cond b 1 0) idle);
        room = omega (arith, total_set calls_left views id v w here, sound.room);
        claimed = omega (arith, total_set claim_count views id v w here, sound.claimed);
        once = λ k below. omega (arith, total_set (claims_of k) views id v w here, sound.once k below);
        own = still (λ x. (k : ℕ) → 0 < times k (places_of x.claims) → k < length x.seen) views id w (sound.own id v here) sound.own;
        matched = still (λ x. AllMatch h x.claims) views id w (sound.matched id v here) sound.matched;
        carrier = still (λ x. x.carries ≡ cond x.holds (0 ∷ []) []) views id w refl sound.carrier;
        met = still (λ x. AllBegin x.met x.seen) views id w tt sound.met;
        rising = still (λ x. IsRising (places_of x.claims)) views id w (sound.rising id v here) sound.rising;
        armed = still (λ x. x.holds ≡ true → 0 < x.left + length x.claims) views id w (λ e. cc) sound.armed;
        seen = still (λ x. IsPrefix x.seen h) views id w (sound.seen id v here) sound.seen;
        whole = still (λ x. x.holds ≡ true → x.seen ≡ h) views id w (λ e. cc) sound.whole;
      }

  -- a view is cut in two
  split_sound : (calls id session k turn : ℕ) (v : View C) (h : List (Noted C)) (views : List (View C)) → v.holds ≡ false → k ≤ v.left → get_elem? views id ≡ some v
      → IsSound calls turn h views → IsSound calls turn h (set views id (kept_part k v) ++ given_part session k v ∷ [])
  split_sound calls id session k turn v h views idle room here sound =
      let w : View C = kept_part k v in
      let x : View C = given_part session k v in
      let all : (P : View C → Type 0) → P w → P x → ((j : ℕ) (y : View C) → get_elem? views j ≡ some y → P y) → (j : ℕ) (y : View C) → get_elem? (set views id w ++ x ∷ []) j ≡ some y → P y =
      λ P pw px old j y at. elim (at_snoc (set views id w) x y j at) [ inl p ↦ still P views id w pw old j y p | inr p ↦ subst P p px ] in
      let sums : (f : View C → ℕ) → total f (set views id w ++ x ∷ []) + f v ≡ total f views + f w + f x = λ f. omega (arith, total_append f (set views id w) (x ∷ []), total_set f views id v w here) in record {
        small = sound.small;
        one_turn = sound.one_turn;
        turns = omega (arith, sums holding, sound.turns, ap {B = ℕ} (λ b. cond b 1 0) idle);
        room = omega (arith, sums calls_left, sound.room, room);
        seen = all (λ y. IsPrefix y.seen h) (sound.seen id v here) (sound.seen id v here) sound.seen;
        claimed = omega (arith, sums claim_count, sound.claimed);
        once = λ k below. omega (arith, sums (claims_of k), sound.once k below);
        own = all (λ y. (k : ℕ) → 0 < times k (places_of y.claims) → k < length y.seen) (sound.own id v here) (λ k has. absurd (omega arith)) sound.own;
        matched = all (λ y. AllMatch h y.claims) (sound.matched id v here) tt sound.matched;
        carrier = all (λ y. y.carries ≡ cond y.holds (0 ∷ []) []) refl refl sound.carrier;
        met = all (λ y. AllBegin y.met y.seen) tt tt sound.met;
        rising = all (λ y. IsRising (places_of y.claims)) (sound.rising id v here) tt sound.rising;
        armed = all (λ y. y.holds ≡ true → 0 < y.left + length y.claims) (λ e. cc) (λ e. cc) sound.armed;
        whole = all (λ y. y.holds ≡ true → y.seen ≡ h) (λ e. cc) (λ e. cc) sound.whole;
      }

  -- two views claim no place in common
  apart_claims : (calls id other turn : ℕ) (v w : View C) (h : List (Noted C)) (views : List (View C)) → other ≢ id → get_elem? views id ≡ some v → get_elem? views other ≡ some w
      → IsSound calls turn h views → (k : ℕ) → times k (places_of v.claims) + times k (places_of w.claims) ≤ 1
  apart_claims calls id other turn v w h views apart here there sound k = omega (arith, total_two (claims_of k) views other id w v apart there here, claimed_so_far calls turn h views sound k)

  -- two views become one
  join_sound : (calls id other turn : ℕ) (v w : View C) (h : List (Noted C)) (views : List (View C)) → v.holds ≡ false → w.holds ≡ false → get_elem? views id ≡ some v → other ≢ id → get_elem? (set views id (joined v w)) other ≡ some w
      → IsSound calls turn h views → IsSound calls turn h (set (set views id (joined v w)) other spent)
  join_sound calls id other turn v w h views idle other_idle here apart there sound =
      let b : View C = joined v w in
      let was : get_elem? views other ≡ some w = sym (set_else views id other b apart) ∙ there in
      let all : (P : View C → Type 0) → P b → P spent → ((j : ℕ) (y : View C) → get_elem? views j ≡ some y → P y) → (j : ℕ) (y : View C) → get_elem? (set (set views id b) other spent) j ≡ some y → P y =
      λ P pb pn old. still P (set views id b) other spent pn (still P views id b pb old) in
      let sums : (f : View C → ℕ) → total f (set (set views id b) other spent) + f v + f w ≡ total f views + f b + f spent = λ f. omega (arith, total_set f (set views id b) other w spent there, total_set f views id v b here) in record {
        small = sound.small;
        one_turn = sound.one_turn;
        turns = omega (arith, sums holding, sound.turns, ap {B = ℕ} (λ t. cond t 1 0) idle, ap {B = ℕ} (λ t. cond t 1 0) other_idle);
        room = omega (arith, sums calls_left, sound.room);
        seen = all (λ y. IsPrefix y.seen h) (longer_prefix v.seen w.seen h (sound.seen id v here) (sound.seen other w was)) (h, refl) sound.seen;
        claimed = omega (arith, sums claim_count, sound.claimed, length_claims v.claims w.claims);
        once = λ k below. omega (arith, sums (claims_of k), sound.once k below, times_claims k v.claims w.claims);
        own = all (λ y. (k : ℕ) → 0 < times k (places_of y.claims) → k < length y.seen)
            (λ k has. omega (arith, times_claims k v.claims w.claims, choice (times k (places_of v.claims)) k (length v.seen) (sound.own id v here k), choice (times k (places_of w.claims)) k (length w.seen) (sound.own other w was k), longer_length v.seen w.seen, has)) (λ k has. absurd (omega arith)) sound.own;
        matched = all (λ y. AllMatch h y.claims) (match_merged h v.claims w.claims (sound.matched id v here) (sound.matched other w was)) tt sound.matched;
        carrier = all (λ y. y.carries ≡ cond y.holds (0 ∷ []) []) refl refl sound.carrier;
        met = all (λ y. AllBegin y.met y.seen) (let both = longer_begins v.seen w.seen h (sound.seen id v here) (sound.seen other w was) in (both.0, (both.1, tt))) tt sound.met;
        rising = all (λ y. IsRising (places_of y.claims)) (rising_claims v.claims w.claims (sound.rising id v here) (sound.rising other w was) (apart_claims calls id other turn v w h views apart here was sound)) tt sound.rising;
        armed = all (λ y. y.holds ≡ true → 0 < y.left + length y.claims) (λ e. cc) (λ e. cc) sound.armed;
        whole = all (λ y. y.holds ≡ true → y.seen ≡ h) (λ e. cc) (λ e. cc) sound.whole;
      }

  holds_none : (x : View C) → (x.holds ≡ true → ⊥) → holding x ≡ 0
  holds_none x never = elim (cases_bool x.holds) [ inl is ↦ absurd (never is) | inr isnt ↦ ap {B = ℕ} (λ b. cond b 1 0) isnt ]

  same_view : (views : List (View C)) (id j : ℕ) (v x : View C) → get_elem? views id ≡ some v → get_elem? views j ≡ some x → j ≡ id → x ≡ v
  same_view views id j v x here at same = let q : some x ≡ some v = sym at ∙ ap (get_elem? views) same ∙ here in cc

  -- the last pass: nobody has the turn, it has seen all, and it claims each place once
  pub last_sound : (calls id turn : ℕ) (v : View C) (h : List (Noted C)) (views : List (View C)) → v.holds ≡ false → v.left + length v.claims ≡ calls → get_elem? views id ≡ some v → IsSound calls turn h views
      → (turn ≡ 0) × (v.seen ≡ h) × (places_of v.claims ≡ places_from 0 (length v.seen))
  last_sound calls id turn v h views idle all here sound =
      let both : total (λ (x : View C). x.left + length x.claims) views ≡ calls = omega (arith, total_sum calls_left claim_count views, sound.room, sound.claimed) in
      let others : (j : ℕ) (x : View C) → get_elem? views j ≡ some x → j ≢ id → x.left + length x.claims ≡ 0 = λ j x at ne. omega (arith, total_two (λ (y : View C). y.left + length y.claims) views j id x v ne at here) in
      let none_holds : (j : ℕ) (x : View C) → get_elem? views j ≡ some x → holding x ≡ 0 = λ j x at. holds_none x (λ e. elim (cases_eq j id) [
        | inl same ↦ let x_is : x ≡ v = same_view views id j v x here at same in cc
        | inr ne ↦ omega (arith, others j x at ne, sound.armed j x at e)
      ]) in
      let mine : (k : ℕ) → total (claims_of k) views ≡ times k (places_of v.claims) = λ k. alone (claims_of k) views id v here (λ j x at ne. times_none k (places_of x.claims) (omega (arith, others j x at ne, length_places x.claims))) in
      let long : length h ≤ length v.seen = elim (cases_lt (length v.seen) (length h)) [
        | inl short ↦ absurd (omega (arith, mine (length v.seen), sound.once (length v.seen) short, choice (times (length v.seen) (places_of v.claims)) (length v.seen) (length v.seen) (sound.own id v here (length v.seen))))
        | inr le ↦ le
      ] in (
        sym (sound.turns) ∙ total_none holding views none_holds,
        prefix_whole v.seen h (sound.seen id v here) long,
        all_places 0 (length v.seen) (places_of v.claims) (sound.rising id v here) (λ k from below. omega (arith, mine k, sound.once k (omega (arith, below, prefix_length v.seen h (sound.seen id v here)))))
            (λ k some. (omega arith, omega (arith, sound.own id v here k some))),
      )
    where
      -- a sum to which all but one add nothing
      alone : (f : View C → ℕ) (views : List (View C)) (id : ℕ) (v : View C) → get_elem? views id ≡ some v → ((j : ℕ) (x : View C) → get_elem? views j ≡ some x → j ≢ id → f x ≡ 0) → total f views ≡ f v
      alone f [] id v here zeros = cc
      alone f (x ∷ xs) zero v here zeros = let same : x ≡ v = cc in omega (arith, ap f same, total_none f xs (λ j y at. zeros (suc j) y at (λ e. omega arith)))
      alone f (x ∷ xs) (suc id) v here zeros = omega (arith, zeros 0 x refl (λ e. omega arith), alone f xs id v here (λ j y at ne. zeros (suc j) y at (λ e. ne (omega arith))))

module _ {S C : Type 0} where
  -- what a step owes at one state
  abbrev Goes : Told S → ℕ → Me (std.Option (BookView S C)) (View C) → ℕ → (ℕ → ℕ) → (ℕ → Me (std.Option (BookView S C)) (View C) → Type 0) → State (std.Option (BookView S C)) (View C) → Type 0
  Goes told id me i f then s = (w : View C) × (a : Act (std.Option (BookView S C))) × Valid s.homes me.1 a × IsKept told (stepped s i (f (slice_index s.words i)) id me.1 w a) × then (slice_index s.words i) (w, carried_after me.1 a)

  take_goes : (told : Told S) (id turn : ℕ) (me : Me (std.Option (BookView S C)) (View C)) (h : List (Noted C)) (views : List (View C)) → 0 < me.0.left → me.0.holds ≡ false → me.1 ≡ [] → get_elem? views id ≡ some me.0
      → IsSound told.calls turn h views → Goes told id me 1 (λ n. either (n == 0) 1 n) (Takes (Some told) (step 1 1 0 1 none) me) (state_of turn told h views)
  take_goes told id zero me h views some_left idle bare here sound = (
    with_turn h me.0,
    takes 0 (Some (book_of told h)),
    refl,
    record { turn = 1; history = h; views = set views id (with_turn h me.0); is = refl; sound = taken told.calls id me.0 h views idle here some_left sound },
    (h, sound.seen id me.0 here, omega (arith, sound.room, total_one calls_left views id me.0 here), ap (λ l. (with_turn h me.0, (0, Some (book_of told h)) ∷ l)) bare),
  )
  take_goes told id (suc zero) me h views some_left idle bare here sound =
      let same : set views id me.0 ≡ views = set_again views id me.0 here in (
        me.0,
        keeps,
        tt,
        record { turn = 1; history = h; views = views; is = ap (state_of 1 told h) same; sound = sound },
        refl,
      )
  take_goes told id (suc (suc n)) me h views some_left idle bare here sound = absurd (omega (arith, sound.one_turn))

  -- the view of a seat, where the state is known
  view_at : (told : Told S) (s : State (std.Option (BookView S C)) (View C)) (kept : IsKept told s) (id : ℕ) (v : View C) → get_elem? s.views id ≡ some v → get_elem? kept.views id ≡ some v
  view_at told s kept id v here = ap (λ (x : State (std.Option (BookView S C)) (View C)). get_elem? x.views id) (sym kept.is) ∙ here

  pub take_allows : (told : Told S) (id : ℕ) (me : Me (std.Option (BookView S C)) (View C)) → 0 < me.0.left → me.0.holds ≡ false → me.1 ≡ [] → Allows (IsKept told) 1 id me 1 (λ n. either (n == 0) 1 n) (Takes (Some told) (step 1 1 0 1 none) me)
  take_allows told id me some_left idle bare s kept len here below =
      subst (Goes told id me 1 (λ n. either (n == 0) 1 n) (Takes (Some told) (step 1 1 0 1 none) me)) (sym kept.is) (take_goes told id kept.turn me kept.history kept.views some_left idle bare (view_at told s kept id me.0 here) kept.sound)

  count_goes : (told : Told S) (id turn : ℕ) (entry : Noted C) (me : Me (std.Option (BookView S C)) (View C)) (views : List (View C)) → me.0.holds ≡ true → 0 < me.0.left → entry.session ≡ me.0.session → get_elem? views id ≡ some me.0
      → IsSound told.calls turn me.0.seen views → Goes told id me 0 (λ n. (n + 1) % 2 ^ 64) (Counts (Some entry) (step 1 0 1 0 none) me) (state_of turn told me.0.seen views)
  count_goes told id zero entry me views has some_left session here sound = absurd (omega (arith, total_one holding views id me.0 here, sound.turns, ap {B = ℕ} (λ b. cond b 1 0) has))
  count_goes told id (suc zero) entry me views has some_left session here sound =
      let h = me.0.seen in
      let w : View C = with_entry entry me.0 in
      let number : (length h + 1) % 2 ^ 64 ≡ length (h ++ entry ∷ []) = omega (arith, length-append h (entry ∷ []), sound.room, sound.small, total_one calls_left views id me.0 here) in (
        w,
        keeps,
        tt,
        record { turn = 1; history = h ++ entry ∷ []; views = set views id w; is = ap (λ n. let s : State (std.Option (BookView S C)) (View C) = record { words = n ∷ 1 ∷ []; homes = none ∷ []; views = set views id w } in s) number; sound = counted told.calls id entry me.0 views has some_left session here sound },
        (refl, refl),
      )
  count_goes told id (suc (suc n)) entry me views has some_left session here sound = absurd (omega (arith, sound.one_turn))

  pub count_allows : (told : Told S) (id : ℕ) (entry : Noted C) (me : Me (std.Option (BookView S C)) (View C)) → me.0.holds ≡ true → 0 < me.0.left → entry.session ≡ me.0.session → Allows (IsKept told) 1 id me 0 (λ n. (n + 1) % 2 ^ 64) (Counts (Some entry) (step 1 0 1 0 none) me)
  count_allows told id entry me has some_left session s kept len here below =
      let at = view_at told s kept id me.0 here in
      let full : me.0.seen ≡ kept.history = kept.sound.whole id me.0 at has in
      let G : List (Noted C) → Type 0 = λ h. Goes told id me 0 (λ n. (n + 1) % 2 ^ 64) (Counts (Some entry) (step 1 0 1 0 none) me) (state_of kept.turn told h kept.views) in
      subst (Goes told id me 0 (λ n. (n + 1) % 2 ^ 64) (Counts (Some entry) (step 1 0 1 0 none) me)) (sym kept.is)
      (subst G full (count_goes told id kept.turn entry me kept.views has some_left session at (subst (λ h. IsSound told.calls kept.turn h kept.views) (sym full) kept.sound)))

  give_goes : (told : Told S) (id turn : ℕ) (me : Me (std.Option (BookView S C)) (View C)) (h : List (Noted C)) (views : List (View C)) → me.0.holds ≡ true → me.1 ≡ (0, Some (book_of told me.0.seen)) ∷ [] → get_elem? views id ≡ some me.0
      → IsSound told.calls turn h views → Goes told id me 1 (λ _. 0) (λ _. Gives (step 1 1 0 0 none) me 0) (state_of turn told h views)
  give_goes told id zero me h views has back here sound = absurd (omega (arith, total_one holding views id me.0 here, sound.turns, ap {B = ℕ} (λ b. cond b 1 0) has))
  give_goes told id (suc zero) me h views has back here sound =
      let full : me.0.seen ≡ h = sound.whole id me.0 here has in
      let w : View C = at_rest me.0 in (
        w,
        gives,
        tt,
        record { turn = 0; history = h; views = set views id w; is = ap (λ l. let s : State (std.Option (BookView S C)) (View C) = record { words = length h ∷ 0 ∷ []; homes = put_back (none ∷ []) l; views = set views id w } in s) (back ∙ ap (λ xs. (0, Some (book_of told xs)) ∷ []) full); sound = given told.calls id me.0 h views has here full sound },
        refl,
      )
  give_goes told id (suc (suc n)) me h views has back here sound = absurd (omega (arith, sound.one_turn))

  pub give_allows : (told : Told S) (id : ℕ) (me : Me (std.Option (BookView S C)) (View C)) → me.0.holds ≡ true → me.1 ≡ (0, Some (book_of told me.0.seen)) ∷ [] → Allows (IsKept told) 1 id me 1 (λ _. 0) (λ _. Gives (step 1 1 0 0 none) me 0)
  give_allows told id me has back s kept len here below =
      subst (Goes told id me 1 (λ _. 0) (λ _. Gives (step 1 1 0 0 none) me 0)) (sym kept.is) (give_goes told id kept.turn me kept.history kept.views has back (view_at told s kept id me.0 here) kept.sound)

  learn_goes : (told : Told S) (id turn : ℕ) (me : Me (std.Option (BookView S C)) (View C)) (h : List (Noted C)) (views : List (View C)) → me.0.holds ≡ false → get_elem? views id ≡ some me.0
      → IsSound told.calls turn h views → Goes told id me 0 (λ n. n) (Learns (step 1 0 0 0 none) me) (state_of turn told h views)
  learn_goes told id turn me h views idle here sound =
      let w : View C = at_rest me.0 in (
        w,
        keeps,
        tt,
        record { turn = turn; history = h; views = set views id w; is = refl; sound = learned told.calls id turn me.0 h views idle here sound },
        (sound.met id me.0 here, sound.rising id me.0 here, refl),
      )

  pub learn_allows : (told : Told S) (id : ℕ) (me : Me (std.Option (BookView S C)) (View C)) → me.0.holds ≡ false → Allows (IsKept told) 1 id me 0 (λ n. n) (Learns (step 1 0 0 0 none) me)
  learn_allows told id me idle s kept len here below =
      subst (Goes told id me 0 (λ n. n) (Learns (step 1 0 0 0 none) me)) (sym kept.is) (learn_goes told id kept.turn me kept.history kept.views idle (view_at told s kept id me.0 here) kept.sound)

  pub split_allows : (told : Told S) (id session k : ℕ) (v : View C) → v.holds ≡ false → k ≤ v.left → Splits {S = std.Option (BookView S C)} (IsKept told) id v (kept_part k v) (given_part session k v)
  split_allows told id session k v idle room s kept here =
      let G : State (std.Option (BookView S C)) (View C) → Type 0 = λ s. IsKept told record { words = s.words; homes = s.homes; views = set s.views id (kept_part k v) ++ given_part session k v ∷ [] } in
      subst G (sym kept.is) record { turn = kept.turn; history = kept.history; views = set kept.views id (kept_part k v) ++ given_part session k v ∷ []; is = refl; sound = split_sound told.calls id session k kept.turn v kept.history kept.views idle room (view_at told s kept id v here) kept.sound }

  pub join_allows : (told : Told S) (id other : ℕ) (v w : View C) → v.holds ≡ false → w.holds ≡ false → Joins {S = std.Option (BookView S C)} (IsKept told) id v other w (joined v w) spent
  join_allows told id other v w idle other_idle s kept here apart there =
      let at_other : get_elem? (set kept.views id (joined v w)) other ≡ some w = ap (λ (x : State (std.Option (BookView S C)) (View C)). get_elem? (set x.views id (joined v w)) other) (sym kept.is) ∙ there in
      let G : State (std.Option (BookView S C)) (View C) → Type 0 = λ s. IsKept told record { words = s.words; homes = s.homes; views = set (set s.views id (joined v w)) other spent } in
      subst G (sym kept.is) record { turn = kept.turn; history = kept.history; views = set (set kept.views id (joined v w)) other spent; is = refl; sound = join_sound told.calls id other kept.turn v w kept.history kept.views idle other_idle (view_at told s kept id v here) apart at_other kept.sound }

  -- at the end, the book in the slot is that of all that the last pass had seen
  pub closed_sound : (told : Told S) (id : ℕ) (v : View C) (words : List ℕ) (slots : List (std.Option (BookView S C))) → v.holds ≡ false → v.left + length (places_of v.claims) ≡ told.calls → Final (Seen (IsKept told) id v) words slots
      → (get_elem? slots 0 ≡ some (Some (book_of told v.seen))) × (places_of v.claims ≡ places_from 0 (length v.seen))
  closed_sound told id v words slots idle all final =
      let s = final.0 in
      let kept = final.1.0 in
      let last = last_sound told.calls id kept.turn v kept.history kept.views idle (omega (arith, all, length_places v.claims)) (view_at told s kept id v final.1.1) kept.sound in
      let home : get_elem? s.homes 0 ≡ some (some (Some (book_of told kept.history))) = ap (λ (x : State (std.Option (BookView S C)) (View C)). get_elem? x.homes 0) kept.is ∙ ap (λ t. some (home_of t told kept.history)) last.0 in (
        final.4 0 (Some (book_of told kept.history)) home ∙ ap (λ h. some (Some (book_of told h))) (sym last.1),
        last.2,
      )

  pub closed_book : (told : Told S) (id : ℕ) (v : View C) (words : List ℕ) (slots : List (std.Option (BookView S C))) (book : std.Option (BookView S C)) → v.holds ≡ false → v.left + length (places_of v.claims) ≡ told.calls → Final (Seen (IsKept told) id v) words slots
      → get_elem? slots 0 ≡ some book → book ≡ Some (book_of told v.seen)
  closed_book told id v words slots book idle all final there =
      let both : some book ≡ some (Some (book_of told v.seen)) = sym there ∙ (closed_sound told id v words slots idle all final).0 in cc
