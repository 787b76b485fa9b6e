-- One more region beside the best so far.
use Rattle.std.proofs.Common.{◌≡◌, ◌<◌, ◌≤◌, ◌+◌, ◌⊎◌, ◌++◌, ◌∷◌, [], ℕ, List, length, get_or, true, false, nat_lt, Option, Some, None, Any, ap, sym, ◌∙◌, subst, refl, inl, inr, arith}
use Rattle.std.specs.Ordering.{is_lt}
use Rattle.std.specs.declared.cmp.Ordering.{Ordering}
use Rattle.std.specs.declared.cmp.Ordering.TheVariants.{Less, Equal, Greater}
use Rattle.std.proofs.lemmas.Bool.{cases_lt, cases_Bool, cond-true, cond-false, ltb-true, ltb-false}
use Rattle.lattice_core.specs.declared.boxes.Box3.{Box3}
use Rattle.lattice_core.specs.declared.ray.Ray.{Ray}
use Rattle.surd_order.specs.declared.position.Pos.{Pos}
use Rattle.surd_order.specs.PlaceOrder.{place_cmp}
use Rattle.surd_order.proofs.PlaceOrderLaws.{place_cmp_total}
use Rattle.bool_weave.specs.Claims.{is_before}
use Rattle.bool_weave.proofs.Behind.{never_itself}
use Rattle.bool_weave.proofs.Cutting.{turned, tied_same, less_from}
use Rattle.bool_weave.proofs.Sorted.{Has, has_from_contains, contains_from_has, has_append_left, has_append_right}
use Rattle.first_hit.specs.declared.front.Front.{Front}
use Rattle.first_hit.specs.declared.front.Part.{Part}
use Rattle.shot_core.specs.Regions.{Region, HaveInstances, HavePlacedSolids}
use Rattle.shot_core.specs.RegionBoxes.{near_side}
use Rattle.first_hit.specs.FirstSteps.{solid_no, front_at, better_by, better_of, IsFirstSolid, IsFirstSolidAt, IsTaken, IsFront, IsFrontAt, IsBeforeSide, BeginsBehind, IsPassed, box_no, IsMet, IsThrough}
use Rattle.first_hit.proofs.Passing.{not_behind, silent_none, silent_some}

not_later : (x y : Pos) → is_before x y ≡ true → is_before y x ≡ false
not_later x y before = ap is_lt (turned x y Less (less_from _ before))

-- a part of a region that is among some, or the next one
any_more : (n : ℕ) (before after : List Part) (next : Part) → after ≡ before ++ next ∷ [] → Any (λ (p : Part). p.region ≡ n) before → Any (λ (p : Part). p.region ≡ n) after
any_more n before after next e a =
    let h : Has after a.1 = subst (λ ps. Has ps a.1) (sym e) (has_append_left before (next ∷ []) a.1 (has_from_contains before a.1 (a.0, a.2, a.3))) in
    let c = contains_from_has after a.1 h in
    (c.0, a.1, c.1, c.2, a.4)

any_last : (n : ℕ) (before after : List Part) (next : Part) → after ≡ before ++ next ∷ [] → next.region ≡ n → Any (λ (p : Part). p.region ≡ n) after
any_last n before after next e is =
    let h : Has after next = subst (λ ps. Has ps next) (sym e) (has_append_right before (next ∷ []) next (inl refl)) in
    let c = contains_from_has after next h in
    (c.0, next, c.1, c.2, is)

module _ (regions : List Region) (ray : Ray) (order : List ℕ) (count : ℕ) (within : get_or order count 0 < length regions) where
  abbrev n : ℕ
  n = get_or order count 0

  -- what holds of the earlier ones and of the next
  with_next : (P : ℕ → Type 0) → ((k : ℕ) → k < count → P k) → P count → (k : ℕ) → k < count + 1 → P k
  with_next P before now k lt =
      elim (cases_lt k count) [ inl less ↦ before k less | inr le ↦ let e : count ≡ k = omega (arith, lt, le) in subst P e now ]

  -- the next region is the new one
  next_one : (x : Pos) → IsFirstSolidAt regions ray n x → ((k : ℕ) (y : Pos) → k < count → is_before y x ≡ true → solid_no regions ray (get_or order k 0) y ≡ false)
      → ((k : ℕ) → k < count → get_or order k 0 < n → solid_no regions ray (get_or order k 0) x ≡ false) → IsFront regions ray order (count + 1) (front_at x n)
  next_one x f early lowest = record {
    there = within;
    solid = f.solid;
    early = λ k y lt before. with_next (λ j. solid_no regions ray (get_or order j 0) y ≡ false) (λ j less. early j y less before) (f.early y before) k lt;
    lowest = λ k lt less. elim (cases_lt k count) [ inl low ↦ lowest k low less | inr le ↦ let e : count ≡ k = omega (arith, lt, le) in absurd (omega (arith, less, ap (λ j. get_or order j 0) e)) ];
    range = f.range;
    spelled = f.spelled;
  }

  -- the old one stays
  old_one : (b : Front) → IsFrontAt regions ray order count b → ((y : Pos) → is_before y b.start ≡ true → solid_no regions ray n y ≡ false) → (n < b.region → solid_no regions ray n b.start ≡ false)
      → IsFrontAt regions ray order (count + 1) b
  old_one b f early lowest = record {
    there = f.there;
    solid = f.solid;
    early = λ k y lt before. with_next (λ j. solid_no regions ray (get_or order j 0) y ≡ false) (λ j less. f.early j y less before) (early y before) k lt;
    lowest = λ k lt less. with_next (λ j. get_or order j 0 < b.region → solid_no regions ray (get_or order j 0) b.start ≡ false) (λ j low. f.lowest j low) lowest k lt less;
    range = f.range;
    spelled = f.spelled;
  }

  same_place : (b : Front) (x : Pos) → IsFrontAt regions ray order count b → IsFirstSolidAt regions ray n x → place_cmp x b.start ≡ Equal → x ≡ b.start
  same_place b x f g e = tied_same x b.start g.spelled f.spelled e

  beside_by : (r : Ordering) (b : Front) (x : Pos) → place_cmp x b.start ≡ r → IsFrontAt regions ray order count b → IsFirstSolidAt regions ray n x → IsFront regions ray order (count + 1) (better_by r b x n)
  beside_by Less b x e f g =
      next_one x g (λ k y lt before. f.early k y lt (ap is_lt (place_cmp_total.trans y x b.start (less_from _ before) e))) (λ k lt less. f.early k x lt (ap is_lt e))
  beside_by Equal b x e f g =
      let same = same_place b x f g e in
      elim (cases_Bool (nat_lt n b.region)) [
        | inl lower ↦
            let lt : n < b.region = ltb-true n b.region lower in
            subst (IsFront regions ray order (count + 1)) (sym (cond-true (nat_lt n b.region) (front_at x n) (Some b) lower))
            (next_one x g (λ k y less before. f.early k y less (ap (is_before y) (sym same) ∙ before)) (λ k less low. ap (solid_no regions ray (get_or order k 0)) same ∙ f.lowest k less (omega (arith, low, lt))))
        | inr higher ↦
            let ge : b.region ≤ n = ltb-false n b.region higher in
            subst (IsFront regions ray order (count + 1)) (sym (cond-false (nat_lt n b.region) (front_at x n) (Some b) higher))
            (old_one b f (λ y before. g.early y (ap (is_before y) same ∙ before)) (λ low. absurd (omega (arith, low, ge))))
      ]
  beside_by Greater b x e f g =
      let before : place_cmp b.start x ≡ Less = turned x b.start Greater e in
      old_one b f (λ y less. g.early y (ap is_lt (place_cmp_total.trans y b.start x (less_from _ less) before))) (λ low. g.early b.start (ap is_lt before))

  next_go : (best : Option Front) (start : Option Pos) → IsFront regions ray order count best → IsFirstSolid regions ray n start → IsFront regions ray order (count + 1) (better_of best start n)
  next_go None None f g = λ k x lt. with_next (λ j. solid_no regions ray (get_or order j 0) x ≡ false) (λ j less. f j x less) (g x) k lt
  next_go (Some b) None f g = old_one b f (λ y before. g y) (λ low. g b.start)
  next_go None (Some x) f g = next_one x g (λ k y lt before. f k y lt) (λ k lt low. f k x lt)
  next_go (Some b) (Some x) f g = beside_by (place_cmp x b.start) b x refl f g

  pub front_next : (best result : Option Front) → IsFront regions ray order count best → IsTaken regions ray n best result → IsFront regions ray order (count + 1) result
  front_next best result f t = subst (IsFront regions ray order (count + 1)) (sym t.is) (next_go best t.start f t.first)

  -- a region that is passed over doesn't change the best
  front_passed : HaveInstances regions → HavePlacedSolids regions → (best : Option Front) → IsFront regions ray order count best → IsPassed (box_no regions n) ray best → IsFront regions ray order (count + 1) best
  front_passed below placed None f p = λ k x lt. with_next (λ j. solid_no regions ray (get_or order j 0) x ≡ false) (λ j less. f j x less) (silent_none regions ray n below placed within p x) k lt
  front_passed below placed (Some b) f p =
      old_one b f (λ y early. silent_some regions ray n below placed within b f.spelled p y (not_later y b.start early)) (λ low. silent_some regions ray n below placed within b f.spelled p b.start (never_itself b.start))

  -- what was passed over still is
  still_by : (r : Ordering) (box : Box3) (b : Front) (x : Pos) → place_cmp x b.start ≡ r → IsFrontAt regions ray order count b → IsFirstSolidAt regions ray n x → IsBeforeSide (near_side box ray) b.start
      → BeginsBehind box ray (better_by r b x n)
  still_by Less box b x e f g early = not_behind (near_side box ray) b.start x f.spelled g.spelled early (not_later x b.start (ap is_lt e))
  still_by Equal box b x e f g early =
      let same = same_place b x f g e in
      elim (cases_Bool (nat_lt n b.region)) [
        | inl lower ↦ subst (BeginsBehind box ray) (sym (cond-true (nat_lt n b.region) (front_at x n) (Some b) lower)) (subst (IsBeforeSide (near_side box ray)) (sym same) early)
        | inr higher ↦ subst (BeginsBehind box ray) (sym (cond-false (nat_lt n b.region) (front_at x n) (Some b) higher)) early
      ]
  still_by Greater box b x e f g early = early

  still_go : (box : Box3) (best : Option Front) (start : Option Pos) → IsFront regions ray order count best → IsFirstSolid regions ray n start → IsPassed box ray best → IsPassed box ray (better_of best start n)
  still_go box None None f g p = p
  still_go box (Some b) None f g p = p
  still_go box None (Some x) f g p = elim p [ inl away ↦ inl away | inr never ↦ absurd never ]
  still_go box (Some b) (Some x) f g p = elim p [ inl away ↦ inl away | inr early ↦ inr (still_by (place_cmp x b.start) box b x refl f g early) ]

  still_passed : (box : Box3) (best result : Option Front) → IsFront regions ray order count best → IsTaken regions ray n best result → IsPassed box ray best → IsPassed box ray result
  still_passed box best result f t p = subst (IsPassed box ray) (sym t.is) (still_go box best t.start f t.first p)

  pub front_met : HaveInstances regions → HavePlacedSolids regions → (best result : Option Front) (before after : List Part) → IsFront regions ray order count best → IsMet regions ray n best before result after
      → IsFront regions ray order (count + 1) result
  front_met below placed best result before after f met =
      elim met [
        | inl t ↦ front_next best result f t.taken
        | inr p ↦ subst (IsFront regions ray order (count + 1)) (sym p.same) (front_passed below placed best f p.passed)
      ]

  pub through_next : (best result : Option Front) (before after : List Part) → IsFront regions ray order count best → IsThrough regions ray order count best before → IsMet regions ray n best before result after
      → IsThrough regions ray order (count + 1) result after
  through_next best result before after f through met =
      elim met [
        | inl t ↦ λ k lt. with_next (λ j. Any (λ (p : Part). p.region ≡ get_or order j 0) after ⊎ IsPassed (box_no regions (get_or order j 0)) ray result)
            (λ j less. elim (through j less) [
              | inl there ↦ inl (any_more (get_or order j 0) before after t.part t.added there)
              | inr p ↦ inr (still_passed (box_no regions (get_or order j 0)) best result f t.taken p)
            ])
            (inl (any_last n before after t.part t.added t.region)) k lt
        | inr p ↦ λ k lt. with_next (λ j. Any (λ (q : Part). q.region ≡ get_or order j 0) after ⊎ IsPassed (box_no regions (get_or order j 0)) ray result)
            (λ j less. subst (λ o. Any (λ (q : Part). q.region ≡ get_or order j 0) after ⊎ IsPassed (box_no regions (get_or order j 0)) ray o) (sym p.same)
            (subst (λ ps. Any (λ (q : Part). q.region ≡ get_or order j 0) ps ⊎ IsPassed (box_no regions (get_or order j 0)) ray best) (sym p.kept) (through j less)))
            (inr (subst (IsPassed (box_no regions n) ray) (sym p.same) p.passed)) k lt
      ]
