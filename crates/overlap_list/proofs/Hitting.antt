-- A hit always exists: where the winner changes some claim does, then some leaf of its tree, and there a segment starts or ends.
use Rattle.std.proofs.Common.{◌≡◌, ◌≢◌, ◌<◌, ◌≤◌, ◌+◌, ◌⊎◌, ℕ, zero, suc, List, [], ◌∷◌, length, get_or, filter, Bool, true, false, not, ◌&&◌, cond, eqb, nat_le, nat_lt, Option, Some, None, IsSome, IfSome, MatchOption, All, Any, Contains, ap, sym, ◌∙◌, subst, refl, inl, inr, arith}
use Rattle.std.specs.List.{list_any, position, position_from}
use Rattle.std.specs.Ordering.{is_lt, is_eq}
use Rattle.std.specs.List.Sorted.{IsStrictlySortedBy}
use Rattle.std.specs.declared.cmp.Ordering.TheVariants.{Less}
use Rattle.std.proofs.lemmas.Bool.{cases_lt, cases_order, cases_Bool, and_parts, and_from, and_right, or_cases, or_left, or_right, not_from_false, not-true, true≢false, leb-true, leb-false, ltb-true, lt-ltb, le-ltb, le-leb, eqb-true, eq-eqb, cond-true, cond-false, false_from_ne_true, true_from_ne_false}
use Rattle.std.proofs.lemmas.Cmp.{tied_itself}
use Rattle.std.proofs.lemmas.List.{get_or-map, get_or_default}
use Rattle.std.proofs.lemmas.List.Elements.{All-map, filter_passes}
use Rattle.std.proofs.lemmas.List.Folds.{Any-from_list_any, list_any-from_Any, list_any_at}
use Rattle.std.proofs.lemmas.Map.Keys.{Less-from_sorted}
use Rattle.std.proofs.lemmas.Iterator.Adapters.{position_from-zero}
use Rattle.tree_forms.specs.Trees.{Leaf, Join, joined, leaves}
use Rattle.surd_order.specs.declared.position.Pos.{Pos}
use Rattle.surd_order.specs.Order.{IsPlace, SamePlace}
use Rattle.surd_order.specs.PlaceOrder.{place_cmp}
use Rattle.surd_order.proofs.OrderLaws.{same_refl, same_symm, same_trans}
use Rattle.surd_order.proofs.PlaceOrderLaws.{place_cmp_total, places_are_compared}
use Rattle.bool_weave.specs.declared.woven.Woven.{Woven}
use Rattle.bool_weave.specs.Cuts.{ray_start, IsWoven, cuts_of}
use Rattle.bool_weave.specs.Masks.{Mask, mask_holds}
use Rattle.bool_weave.specs.Claims.{intervals_of, is_before, covers, spans, claims_interval, claims_of}
use Rattle.bool_weave.specs.Tables.{IsCutAt, interval_at}
use Rattle.bool_weave.proofs.Sorted.{Has, has_at, has_from_contains, contains_from_has}
use Rattle.bool_weave.proofs.Middles.{has_filtered}
use Rattle.bool_weave.proofs.Cutting.{turned, equal_from, place_from, segment_of}
use Rattle.bool_weave.proofs.Searching.{later_than}
use Rattle.bool_weave.proofs.Kept.{is_cut_at}
use Rattle.bool_weave.proofs.Claimed.{nothing_from_nothing, intervals_length, intervals_at}
use Rattle.overlap_list.specs.declared.region.RegionClaims.{RegionClaims}
use Rattle.overlap_list.specs.Winners.{claims_at, or_else, winner_of}
use Rattle.overlap_list.specs.Runs.{IntervalRun, has_before}
use Rattle.overlap_list.specs.Hits.{is_at, has_end_at, differ, changes_at, is_of, is_candidate, lower, lowest, hit_on, cut_at, hit_of}
use Rattle.overlap_list.specs.Partitions.{won_runs, or_no_hit, partition_of}
use Rattle.overlap_list.specs.Laws.{IsWonRun, HasTree, IsCandidate, IsHit, HasHit, HitsAreThere}
use Rattle.overlap_list.proofs.LawProofs.{filter_has}
use Rattle.overlap_list.proofs.Ordered.{all_from_has}
use Rattle.overlap_list.proofs.Trees.{all_left, all_right}
use Rattle.overlap_list.proofs.Parts.{won_run, cut_place}

same_or_not : (a b : Bool) → (a ≡ b) ⊎ (a ≢ b)
same_or_not true true = inl refl
same_or_not true false = inr true≢false
same_or_not false true = inr (λ e. true≢false (sym e))
same_or_not false false = inl refl

differ_from : (a b : Bool) → a ≢ b → differ a b ≡ true
differ_from true true ne = absurd (ne refl)
differ_from true false ne = refl
differ_from false true ne = refl
differ_from false false ne = absurd (ne refl)

differ_to : (a b : Bool) → differ a b ≡ true → a ≢ b
differ_to true true h e = true≢false (sym h)
differ_to true false h e = true≢false e
differ_to false true h e = true≢false (sym e)
differ_to false false h e = true≢false (sym h)

same_from : (a b : Bool) → differ a b ≡ false → a ≡ b
same_from a b h = elim (same_or_not a b) [ inl e ↦ e | inr ne ↦ absurd (true≢false (sym (differ_from a b ne) ∙ h)) ]

-- the first that passes is the same by two tests that agree on all elements
pub position_same : {X : Type 0} (f g : X → Bool) (n : ℕ) (xs : List X) → ((x : X) → Has xs x → f x ≡ g x) → position_from f n xs ≡ position_from g n xs
position_same f g n [] h = refl
position_same f g n (x ∷ xs) h =
    ap (λ b. cond b (Some n) (position_from f (n + 1) xs)) (h x (inl refl)) ∙ ap (λ o. cond (g x) (Some n) o) (position_same f g (n + 1) xs (λ y m. h y (inr m)))

positions_agree : {X : Type 0} (f g : X → Bool) (xs : List X) → ((x : X) → Has xs x → f x ≡ g x) → position f xs ≡ position g xs
positions_agree f g xs h = position_from-zero f xs ∙ position_same f g 0 xs h ∙ sym (position_from-zero g xs)

position_none : {X : Type 0} (f : X → Bool) (n : ℕ) (xs : List X) → ((x : X) → f x ≡ false) → position_from f n xs ≡ None
position_none f n [] h = refl
position_none f n (x ∷ xs) h = cond-false (f x) (Some n) (position_from f (n + 1) xs) (h x) ∙ position_none f (n + 1) xs h

-- who wins the interval before number k
abbrev winner_before : List RegionClaims → ℕ → Option ℕ
winner_before regions k = or_else (position (λ r. not r.air && has_before (claims_at r) k) regions) (position (λ r. r.air && has_before (claims_at r) k) regions)

none_first : (regions : List RegionClaims) → winner_before regions 0 ≡ None
none_first regions =
    ap (λ o. or_else o (position (λ r. r.air && false) regions)) (position_from-zero (λ r. not r.air && false) regions ∙ position_none (λ r. not r.air && false) 0 regions (λ r. and_right (not r.air) false refl))
    ∙ (position_from-zero (λ r. r.air && false) regions ∙ position_none (λ r. r.air && false) 0 regions (λ r. and_right r.air false refl))

-- where no claim changes the winner stays
winner_stays : (regions : List RegionClaims) (k : ℕ) → ((r : RegionClaims) → Has regions r → has_before (claims_at r) k ≡ claims_at r k) → winner_before regions k ≡ winner_of regions k
winner_stays regions k same =
    ap (λ o. or_else o (position (λ r. r.air && has_before (claims_at r) k) regions))
    (positions_agree (λ r. not r.air && has_before (claims_at r) k) (λ r. not r.air && claims_at r k) regions (λ r h. ap (λ b. not r.air && b) (same r h)))
    ∙ ap (λ o. or_else (position (λ r. not r.air && claims_at r k) regions) o)
    (positions_agree (λ r. r.air && has_before (claims_at r) k) (λ r. r.air && claims_at r k) regions (λ r h. ap (λ b. r.air && b) (same r h)))

abbrev nobody : Option ℕ
nobody = None

no_winner : IsSome nobody → ⊥
no_winner i = true≢false (sym i)

winner_changes : (regions : List RegionClaims) (k : ℕ) → IsSome (winner_of regions k) → ((j : ℕ) → j + 1 ≡ k → winner_of regions j ≢ winner_of regions k) → winner_before regions k ≢ winner_of regions k
winner_changes regions zero i begun e = no_winner (subst IsSome (sym e ∙ none_first regions) i)
winner_changes regions (suc j) i begun e = begun j (omega arith) e

-- so where a run begins some claim changes
pub some_change : (regions : List RegionClaims) (run : IntervalRun) → IsWonRun regions run → Any (λ r. changes_at run.from r ≡ true) regions
some_change regions run w =
    elim (cases_Bool (list_any (changes_at run.from) regions)) [
      | inl some ↦ Any-from_list_any (changes_at run.from) regions some
      | inr none ↦ absurd (winner_changes regions run.from w.region w.begun (winner_stays regions run.from (λ r h.
          same_from (has_before (claims_at r) run.from) (claims_at r run.from) (false_from_ne_true _ (λ c.
          let at = contains_from_has regions r h in
          true≢false (sym (list_any_at (changes_at run.from) regions at.0 r at.1 (ap (changes_at run.from) at.2 ∙ c)) ∙ none))))))
    ]

-- a tree that holds for one of two values has a leaf at which they differ
leaf_changes : (t : Mask) (f g : ℕ → Bool) (bound : ℕ) → All (λ leaf. IfSome leaf (λ i. i < bound)) (leaves t) → (mask_holds t f ≡ mask_holds t g) ⊎ ((i : ℕ) × (i < bound) × (f i ≢ g i))
leaf_changes (Leaf None) f g bound below = inl refl
leaf_changes (Leaf (Some i)) f g bound below =
    let small : i < bound = below zero (Some i) (omega arith) in
    elim (same_or_not (f i) (g i)) [ inl e ↦ inl e | inr ne ↦ inr (i, small, ne) ]
leaf_changes (Join op l r) f g bound below =
    elim (leaf_changes l f g bound (all_left (λ leaf. IfSome leaf (λ i. i < bound)) (leaves l) (leaves r) below)) [
      | inl left ↦ elim (leaf_changes r f g bound (all_right (λ leaf. IfSome leaf (λ i. i < bound)) (leaves l) (leaves r) below)) [
        | inl right ↦ inl (ap (λ b. joined op b (mask_holds r f)) left ∙ ap (λ b. joined op (mask_holds l g) b) right)
        | inr some ↦ inr some
      ]
      | inr some ↦ inr some
    ]

module _ (woven : List Woven) where
  -- whether an instance spans interval k
  abbrev spans_at : ℕ → ℕ → Bool
  spans_at instance k = spans woven (interval_at (cuts_of woven) k) instance

  claimed : (tree : Mask) (first k : ℕ) → k < length (intervals_of woven) → get_or (claims_of woven tree first) k false ≡ mask_holds tree (λ i. spans_at (first + i) k)
  claimed tree first k lt =
      get_or-map (claims_interval woven tree first) (intervals_of woven) k (interval_at (cuts_of woven) k) false lt
      ∙ ap (claims_interval woven tree first) (intervals_at (cuts_of woven) k (interval_at (cuts_of woven) k) (omega (arith, lt, intervals_length (cuts_of woven))))

  -- before the first interval nothing is claimed and nothing spans
  claimed_before : (tree : Mask) (first k : ℕ) → k < length (intervals_of woven) → has_before (λ j. get_or (claims_of woven tree first) j false) k ≡ mask_holds tree (λ i. has_before (spans_at (first + i)) k)
  claimed_before tree first zero lt = sym (nothing_from_nothing tree (λ i. false) (λ i. refl))
  claimed_before tree first (suc j) lt = claimed tree first j (omega (arith, lt))

  -- an instance of a region whose claim changes spans just one of the two intervals
  instance_changes : (region : RegionClaims) (k : ℕ) → HasTree woven region → k < length (intervals_of woven) → has_before (claims_at region) k ≢ claims_at region k
      → (i : ℕ) × (i < region.count) × (has_before (spans_at (region.first + i)) k ≢ spans_at (region.first + i) k)
  instance_changes region k h lt change =
      elim (leaf_changes h.tree (λ i. has_before (spans_at (region.first + i)) k) (λ i. spans_at (region.first + i) k) region.count h.below) [
        | inl same ↦ absurd (change (
            ap (λ l. has_before (λ j. get_or l j false) k) h.claims ∙ claimed_before h.tree region.first k lt ∙ same
            ∙ sym (claimed h.tree region.first k lt) ∙ sym (ap (λ l. get_or l k false) h.claims)))
        | inr some ↦ some
      ]

-- a place comes before a rising place of a higher number
below_number : (xs : List Pos) (x : Pos) (k : ℕ) (d : Pos) → IsStrictlySortedBy place_cmp xs → (c : Contains xs x) → k < length xs → is_before (get_or xs k d) x ≡ nat_lt k c.0
below_number xs x k d s c lt =
    let there : get_or xs c.0 d ≡ x = get_or_default xs c.0 d x c.1 ∙ c.2 in
    elim (cases_order k c.0) [
      | inl same ↦ ap (λ n. is_before (get_or xs n d) x) same ∙ ap (λ y. is_before y x) there ∙ ap is_lt (tied_itself place_cmp_total x) ∙ sym (le-ltb k c.0 (omega (arith, same)))
      | inr apart ↦ elim apart [
        | inl below ↦ ap is_lt (subst (λ y. place_cmp (get_or xs k d) y ≡ Less) there (Less-from_sorted place_cmp xs k c.0 d s below c.1)) ∙ sym (lt-ltb k c.0 below)
        | inr above ↦ ap is_lt (turned x (get_or xs k d) Less (subst (λ y. place_cmp y (get_or xs k d) ≡ Less) there (Less-from_sorted place_cmp xs c.0 k d s above lt))) ∙ sym (le-ltb k c.0 (omega (arith, above)))
      ]
    ]

-- a segment covers an interval by the numbers of its ends among the cuts
covers_number : (woven : List Woven) (w : Woven) (k : ℕ) (c : IsCutAt (cuts_of woven) w.seg) → k + 1 < length (cuts_of woven)
    → covers w.seg (interval_at (cuts_of woven) k) ≡ (not (nat_lt k c.start.0) && nat_lt k c.end.0)
covers_number woven w k c lt =
    ap (λ b. not b && not (is_before w.seg.end (get_or (cuts_of woven) (k + 1) ray_start))) (below_number (cuts_of woven) w.seg.start k ray_start c.searchable.rising c.start (omega (arith, lt)))
    ∙ ap (λ b. not (nat_lt k c.start.0) && b) (sym (later_than (cuts_of woven) w.seg.end k ray_start c.searchable.rising c.end lt))

covered : (k a b : ℕ) → (not (nat_lt k a) && nat_lt k b) ≡ true → (a ≤ k) × (k < b)
covered k a b h =
    let parts = and_parts (not (nat_lt k a)) (nat_lt k b) h in
    (elim (cases_lt k a) [ inl lt ↦ absurd (true≢false (sym (lt-ltb k a lt) ∙ not-true (nat_lt k a) parts.0)) | inr le ↦ le ], ltb-true k b parts.1)

cover : (k a b : ℕ) → a ≤ k → k < b → (not (nat_lt k a) && nat_lt k b) ≡ true
cover k a b le lt = and_from _ _ (not_from_false _ (le-ltb k a le)) (lt-ltb k b lt)

-- what covers interval k and not the one before starts at its start
begins_there : (k a b : ℕ) → (not (nat_lt (suc k) a) && nat_lt (suc k) b) ≡ true → (not (nat_lt k a) && nat_lt k b) ≡ false → a ≡ suc k
begins_there k a b is was =
    let now = covered (suc k) a b is in
    elim (cases_lt k a) [
      | inl lt ↦ omega (arith, lt, now.0)
      | inr le ↦ absurd (true≢false (sym (cover k a b le (omega (arith, now.1))) ∙ was))
    ]

-- and what covers the one before and not interval k ends there
ends_there : (k a b : ℕ) → (not (nat_lt k a) && nat_lt k b) ≡ true → (not (nat_lt (suc k) a) && nat_lt (suc k) b) ≡ false → b ≡ suc k
ends_there k a b was is =
    let before = covered k a b was in
    elim (cases_lt (suc k) b) [
      | inl lt ↦ absurd (true≢false (sym (cover (suc k) a b (omega (arith, before.0)) lt) ∙ is))
      | inr le ↦ omega (arith, le, before.1)
    ]

-- no element, or one of the lowest number
abbrev IsLowestOf : List Woven → Option Woven → Type 0
IsLowestOf ws o = MatchOption o ((x : Woven) → Has ws x → ⊥) (λ v. Has ws v × ((x : Woven) → Has ws x → v.instance ≤ x.instance))

lower_is : (w : Woven) (ws : List Woven) (o : Option Woven) → IsLowestOf ws o → IsLowestOf (w ∷ ws) (lower w o)
lower_is w ws None none = (inl refl, λ x h. elim h [ inl e ↦ omega (arith, ap (λ (y : Woven). y.instance) e) | inr m ↦ absurd (none x m) ])
lower_is w ws (Some v) low =
    elim (cases_Bool (nat_le w.instance v.instance)) [
      | inl less ↦ subst (IsLowestOf (w ∷ ws)) (sym (cond-true (nat_le w.instance v.instance) (Some w) (Some v) less))
          (inl refl, λ x h. elim h [ inl e ↦ omega (arith, ap (λ (y : Woven). y.instance) e) | inr m ↦ omega (arith, leb-true w.instance v.instance less, low.1 x m) ])
      | inr more ↦ subst (IsLowestOf (w ∷ ws)) (sym (cond-false (nat_le w.instance v.instance) (Some w) (Some v) more))
          (inr low.0, λ x h. elim h [ inl e ↦ omega (arith, ap (λ (y : Woven). y.instance) e, leb-false w.instance v.instance more) | inr m ↦ low.1 x m ])
    ]

lowest_is : (ws : List Woven) → IsLowestOf ws (lowest ws)
lowest_is [] = λ x h. h
lowest_is (w ∷ ws) = lower_is w ws (lowest ws) (lowest_is ws)

module _ (woven : List Woven) (s : IsWoven woven) where
  spanned : (instance k : ℕ) → spans_at woven instance k ≡ true → (w : Woven) × Has woven w × (w.instance ≡ instance) × (covers w.seg (interval_at (cuts_of woven) k) ≡ true)
  spanned instance k h =
      let a = Any-from_list_any (λ w. eqb w.instance instance && covers w.seg (interval_at (cuts_of woven) k)) woven h in
      let parts = and_parts (eqb a.1.instance instance) (covers a.1.seg (interval_at (cuts_of woven) k)) a.4 in
      (a.1, has_at woven a.1 a.1 a.0 a.2 a.3, eqb-true a.1.instance instance parts.0, parts.1)

  not_spanned : (instance k : ℕ) (w : Woven) → Has woven w → w.instance ≡ instance → spans_at woven instance k ≡ false → covers w.seg (interval_at (cuts_of woven) k) ≡ false
  not_spanned instance k w h e none =
      false_from_ne_true _ (λ c.
      let at = contains_from_has woven w h in
      let passed : (eqb (get_or woven at.0 w).instance instance && covers (get_or woven at.0 w).seg (interval_at (cuts_of woven) k)) ≡ true =
      ap (λ (v : Woven). eqb v.instance instance && covers v.seg (interval_at (cuts_of woven) k)) at.2 ∙ and_from _ _ (eq-eqb w.instance instance e) c in
      true≢false (sym (list_any_at (λ w. eqb w.instance instance && covers w.seg (interval_at (cuts_of woven) k)) woven at.0 w at.1 passed) ∙ none))

  at_cut : (x : Pos) (k : ℕ) (c : Contains (cuts_of woven) x) → c.0 ≡ k → x ≡ cut_at woven k
  at_cut x k c e = sym c.2 ∙ get_or_default (cuts_of woven) c.0 x ray_start c.1 ∙ ap (cut_at woven) e

  -- a segment with an end where interval k starts
  abbrev HasEnd : ℕ → ℕ → Type 0
  HasEnd instance k = (w : Woven) × Has woven w × (w.instance ≡ instance) × ((w.seg.start ≡ cut_at woven k) ⊎ (w.seg.end ≡ cut_at woven k))

  span_changes : (instance k : ℕ) → k + 1 < length (cuts_of woven) → has_before (spans_at woven instance) k ≢ spans_at woven instance k → HasEnd instance k
  span_changes instance zero lt ne =
      let w = spanned instance 0 (true_from_ne_false _ (λ e. ne (sym e))) in
      let c = is_cut_at woven w.0 s w.1 in
      let on = covered 0 c.start.0 c.end.0 (sym (covers_number woven w.0 0 c lt) ∙ w.3) in
      (w.0, w.1, w.2, inl (at_cut w.0.seg.start 0 c.start (omega (arith, on.0))))
  span_changes instance (suc j) lt ne =
      elim (cases_Bool (spans_at woven instance (suc j))) [
        | inl is ↦
            let w = spanned instance (suc j) is in
            let c = is_cut_at woven w.0 s w.1 in
            let was : spans_at woven instance j ≡ false = false_from_ne_true _ (λ e. ne (e ∙ sym is)) in (
              w.0,
              w.1,
              w.2,
              inl (at_cut w.0.seg.start (suc j) c.start
                  (begins_there j c.start.0 c.end.0 (sym (covers_number woven w.0 (suc j) c lt) ∙ w.3)
                  (sym (covers_number woven w.0 j c (omega (arith, lt))) ∙ not_spanned instance j w.0 w.1 w.2 was))),
            )
        | inr is ↦
            let was : spans_at woven instance j ≡ true = true_from_ne_false _ (λ e. ne (e ∙ sym is)) in
            let w = spanned instance j was in
            let c = is_cut_at woven w.0 s w.1 in (
              w.0,
              w.1,
              w.2,
              inr (at_cut w.0.seg.end (suc j) c.end
                  (ends_there j c.start.0 c.end.0 (sym (covers_number woven w.0 j c (omega (arith, lt))) ∙ w.3)
                  (sym (covers_number woven w.0 (suc j) c lt) ∙ not_spanned instance (suc j) w.0 w.1 w.2 is))),
            )
      ]

  at_same : (x : Pos) (k : ℕ) → IsPlace x → k < length (cuts_of woven) → is_at x (cut_at woven k) ≡ true → SamePlace x (cut_at woven k)
  at_same x k p lt h = (places_are_compared x (cut_at woven k) p (cut_place woven s k lt)).same.0 (equal_from _ h)

  same_at : (x : Pos) (k : ℕ) → IsPlace x → k < length (cuts_of woven) → SamePlace x (cut_at woven k) → is_at x (cut_at woven k) ≡ true
  same_at x k p lt h = ap is_eq ((places_are_compared x (cut_at woven k) p (cut_place woven s k lt)).same.1 h)

  start_place : (w : Woven) → Has woven w → IsPlace w.seg.start
  start_place w h = place_from w.seg.start (segment_of woven w s h).start_spelled

  end_place : (w : Woven) → Has woven w → IsPlace w.seg.end
  end_place w h = place_from w.seg.end (segment_of woven w s h).end_spelled

  module _ (regions : List RegionClaims) (k : ℕ) (inside : k < length (cuts_of woven)) where
    abbrev passes : Woven → Bool
    passes w = is_candidate regions k (cut_at woven k) w

    -- the test of candidates is right
    candidate_to : (w : Woven) → Has woven w → passes w ≡ true → IsCandidate woven regions k w
    candidate_to w h c =
        let parts = and_parts (has_end_at (cut_at woven k) w) (list_any (λ r. is_of r w && changes_at k r) regions) c in
        let a = Any-from_list_any (λ r. is_of r w && changes_at k r) regions parts.1 in
        let both = and_parts (is_of a.1 w) (changes_at k a.1) a.4 in
        let of = and_parts (nat_le a.1.first w.instance) (nat_lt w.instance (a.1.first + a.1.count)) both.0 in
        record {
          there = contains_from_has woven w h;
          ends = elim (or_cases (is_at w.seg.start (cut_at woven k)) (is_at w.seg.end (cut_at woven k)) parts.0) [
            | inl e ↦ inl (at_same w.seg.start k (start_place w h) inside e)
            | inr e ↦ inr (at_same w.seg.end k (end_place w h) inside e)
          ];
          changes = (
            a.0,
            a.1,
            a.2,
            a.3,
            record {
              first = leb-true a.1.first w.instance of.0;
              last = ltb-true w.instance (a.1.first + a.1.count) of.1;
              change = differ_to (has_before (claims_at a.1) k) (claims_at a.1 k) both.1;
            },
          );
        }

    candidate_from : (w : Woven) → IsCandidate woven regions k w → passes w ≡ true
    candidate_from w c =
        let h = has_from_contains woven w c.there in
        let a = c.changes in
        and_from _ _
        (elim c.ends [
          | inl e ↦ or_left _ _ (same_at w.seg.start k (start_place w h) inside e)
          | inr e ↦ or_right _ _ (same_at w.seg.end k (end_place w h) inside e)
        ])
        (list_any-from_Any (λ r. is_of r w && changes_at k r) regions (
          a.0,
          a.1,
          a.2,
          a.3,
          and_from _ _ (and_from _ _ (le-leb a.1.first w.instance a.4.first) (lt-ltb w.instance (a.1.first + a.1.count) a.4.last)) (differ_from (has_before (claims_at a.1) k) (claims_at a.1 k) a.4.change),
        ))

    -- of candidates, where there is one, the lowest gives the hit
    first_hit : (w : Woven) (o : Option Woven) → IsLowestOf (filter passes woven) o → Has (filter passes woven) w → IsHit woven regions k (or_no_hit (hit_on (cut_at woven k) o))
    first_hit w None none h = absurd (none w h)
    first_hit w (Some v) low h =
        let there : Has woven v = has_filtered passes woven v low.0 in
        let at = contains_from_has (filter passes woven) v low.0 in
        let passed : passes v ≡ true = subst (λ x. passes x ≡ true) at.2 (filter_passes passes woven at.0 v at.1) in
        record {
          one = v;
          candidate = candidate_to v there passed;
          lowest = λ x c. low.1 x (filter_has passes woven x (candidate_from x c) (has_from_contains woven x c.there));
          instance = refl;
          start_face = λ start. cond-true _ v.seg.start_face v.seg.end_face (same_at v.seg.start k (start_place v there) inside start);
          end_face = λ end. cond-false _ v.seg.start_face v.seg.end_face (false_from_ne_true _ (λ start.
              (same_trans v.seg.start (cut_at woven k) v.seg.end (at_same v.seg.start k (start_place v there) inside start) (same_symm v.seg.end (cut_at woven k) end)).not_before (segment_of woven v s there).ordered));
        }

    hit_from : (w : Woven) → IsCandidate woven regions k w → IsHit woven regions k (or_no_hit (hit_of woven regions k))
    hit_from w c = first_hit w (lowest (filter passes woven)) (lowest_is (filter passes woven)) (filter_has passes woven w (candidate_from w c) (has_from_contains woven w c.there))

  -- where a claim changes there is a candidate
  some_candidate : (regions : List RegionClaims) (k : ℕ) → All (HasTree woven) regions → k < length (intervals_of woven) → Any (λ r. changes_at k r ≡ true) regions → (w : Woven) × IsCandidate woven regions k w
  some_candidate regions k trees lt a =
      let change : has_before (claims_at a.1) k ≢ claims_at a.1 k = differ_to (has_before (claims_at a.1) k) (claims_at a.1 k) a.4 in
      let leaf = instance_changes woven a.1 k (subst (HasTree woven) a.3 (trees a.0 a.1 a.2)) lt change in
      let w = span_changes (a.1.first + leaf.0) k (omega (arith, lt, intervals_length (cuts_of woven))) leaf.2 in (
        w.0,
        record {
          there = contains_from_has woven w.0 w.1;
          ends = elim w.3 [
            | inl e ↦ inl (subst (SamePlace w.0.seg.start) e (same_refl w.0.seg.start))
            | inr e ↦ inr (subst (SamePlace w.0.seg.end) e (same_refl w.0.seg.end))
          ];
          changes = (a.0, a.1, a.2, a.3, record { first = omega (arith, w.2); last = omega (arith, w.2, leaf.1); change = change });
        },
      )

  hit_there : (regions : List RegionClaims) (run : IntervalRun) → All (HasTree woven) regions → IsWonRun regions run → run.to ≤ length (intervals_of woven) → HasHit woven regions (partition_of woven regions run)
  hit_there regions run trees w within =
      let lt : run.from < length (intervals_of woven) = omega (arith, w.some, within) in
      let c = some_candidate regions run.from trees lt (some_change regions run w) in
      record {
        k = run.from;
        within = lt;
        start = refl;
        hit = hit_from regions run.from (omega (arith, lt, intervals_length (cuts_of woven))) c.0 c.1;
      }

pub hits_are_there : HitsAreThere
hits_are_there woven regions s trees =
    All-map (HasHit woven regions) (partition_of woven regions) (won_runs regions (length (intervals_of woven)))
    (all_from_has (λ (r : IntervalRun). HasHit woven regions (partition_of woven regions r)) (won_runs regions (length (intervals_of woven)))
    (λ r h. let w = won_run regions (length (intervals_of woven)) r h in hit_there woven s regions r trees w.0 w.1))
