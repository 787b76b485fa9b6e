-- Where a ray lies in boxes: what a stretch keeps of it.
use Rattle.std.proofs.Common.{◌≡◌, ◌↔◌, ◌∙◌, zero, suc, ◌&&◌, ℤ, pos, negsuc, ◌+ℤ◌, ◌-ℤ◌, ◌*ℤ◌, ◌<ℤ◌, ◌≤ℤ◌, Bool, true, false, not, IsTrue, if◌then◌else◌, ap, sym, subst, refl, inl, inr, arith}
use Rattle.std.specs.Int.{int_min, int_max}
use Rattle.std.specs.Ordering.{int_cmp, is_lt}
use Rattle.std.specs.declared.cmp.Ordering.{Ordering}
use Rattle.std.specs.declared.cmp.Ordering.TheVariants.{Less, Equal, Greater}
use Rattle.std.proofs.Math.IntN.{*ℤ_comm, neg_ℤ}
use Rattle.std.proofs.lemmas.Bool.{and_parts, and_from, cases_Bool, cond-true, cond-false, true≢false}
use Rattle.std.proofs.lemmas.Int.{ints, clamps, by_lt_z}
use Rattle.std.proofs.lemmas.Cmp.{int_ranked}
use Rattle.lattice_core.specs.declared.vector.V3.{V3}
use Rattle.lattice_core.specs.Limits.{IsAtMost, IsWithin}
use Rattle.lattice_core.proofs.Boxing.{point_ordered}
use Rattle.slant_ray.specs.declared.ray.TheConstants.{STEP}
use Rattle.lattice_core.specs.declared.boxes.Side.{Side}
use Rattle.lattice_core.specs.declared.boxes.Side.TheVariants.{Open, At}
use Rattle.lattice_core.specs.declared.extent.Extent.{Extent}
use Rattle.lattice_core.specs.declared.boxes.Box3.{Box3}
use Rattle.lattice_core.specs.declared.boxes.Box3.TheVariants.{Empty, Span}
use Rattle.lattice_core.specs.Boxes.{IsFrom, IsUpTo, IsBetween, HasPoint}
use Rattle.lattice_core.proofs.Products.{mul_swap, mul_sub, mul_neg, mul_at_most, at_most_from_mul}
use Rattle.box_index.specs.declared.cut.Axis.{Axis}
use Rattle.box_index.specs.declared.cut.Axis.TheVariants.{X, Y, Z}
use Rattle.box_index.specs.declared.line.TheConstants.{PARTS}
use Rattle.box_index.specs.declared.line.Line.{Line}
use Rattle.box_index.specs.declared.line.Stretch.{Stretch}
use Rattle.box_index.specs.Cuts.{is_side_below, is_side_above}
use Rattle.box_index.specs.Lines.{slant_point, MeetsSlant, pace_of, line_of, whole_line, empty_stretch, has_some, holds, begun, ended, through, clipped_by, in_extent, in_box, is_crossed, IsPace, IsLine}
use Rattle.box_index.specs.Reaches.{has_points}
use Rattle.box_index.proofs.Bounding.{fails_too}
use Rattle.box_index.proofs.Touching.{not_over, points_tell}

-- the place after p / q steps is one of a stretch
pub record IsOn (s : Stretch) (p q : ℤ) : Type 0 where
  pub begins : (s.from *ℤ q) ≤ℤ (PARTS *ℤ p)
  pub ends : (PARTS *ℤ p) ≤ℤ (s.to *ℤ q)

none_on_empty : (p q : ℤ) → pos 0 <ℤ q → IsOn empty_stretch p q → ⊥
none_on_empty p q some on = omega (arith, ints, on.begins, on.ends, some)

-- ---- a product with a positive or a negative number
rising : (a b k : ℤ) → pos 0 <ℤ k → (a ≤ℤ b) ↔ ((a *ℤ k) ≤ℤ (b *ℤ k))
rising a b k some = (λ h. mul_at_most a b k (omega (arith, ints, some)) h, λ h. at_most_from_mul a b k some h)

falling : (a b k : ℤ) → k <ℤ pos 0 → (a ≤ℤ b) ↔ ((b *ℤ k) ≤ℤ (a *ℤ k))
falling a b k some =
    let r = rising a b (neg_ℤ k) (omega (arith, ints, some)) in
    (λ h. let m = r.0 h in omega (arith, ints, m, mul_neg a k, mul_neg b k), λ h. r.1 (omega (arith, ints, h, mul_neg a k, mul_neg b k)))

-- how far a coordinate is from the origin's, and how far the point is
apart : (at o k q : ℤ) → ((at *ℤ q) -ℤ (o *ℤ q)) *ℤ k ≡ ((at -ℤ o) *ℤ k) *ℤ q
apart at o k q =
    let split : (at -ℤ o) *ℤ q ≡ (at *ℤ q) -ℤ (o *ℤ q) = *ℤ_comm (at -ℤ o) q ∙ mul_sub q at o ∙ ap (λ (z : ℤ). z -ℤ (q *ℤ o)) (*ℤ_comm q at) ∙ ap (λ (z : ℤ). (at *ℤ q) -ℤ z) (*ℤ_comm q o) in
    ap (λ (z : ℤ). z *ℤ k) (sym split) ∙ mul_swap (at -ℤ o) q k

reached : (e k p : ℤ) → (e *ℤ k) ≡ PARTS → (e *ℤ p) *ℤ k ≡ PARTS *ℤ p
reached e k p is = mul_swap e p k ∙ ap (λ (z : ℤ). z *ℤ p) is

-- the crossing of a coordinate against a place on the ray, and the coordinate against the point there
record Crosses (e k o at p q : ℤ) : Type 0 where
  rising_from : pos 0 <ℤ k → ((((at -ℤ o) *ℤ k) *ℤ q) ≤ℤ (PARTS *ℤ p)) ↔ ((at *ℤ q) ≤ℤ ((o *ℤ q) +ℤ (e *ℤ p)))
  rising_to : pos 0 <ℤ k → ((PARTS *ℤ p) ≤ℤ (((at -ℤ o) *ℤ k) *ℤ q)) ↔ (((o *ℤ q) +ℤ (e *ℤ p)) ≤ℤ (at *ℤ q))
  falling_from : k <ℤ pos 0 → ((((at -ℤ o) *ℤ k) *ℤ q) ≤ℤ (PARTS *ℤ p)) ↔ (((o *ℤ q) +ℤ (e *ℤ p)) ≤ℤ (at *ℤ q))
  falling_to : k <ℤ pos 0 → ((PARTS *ℤ p) ≤ℤ (((at -ℤ o) *ℤ k) *ℤ q)) ↔ ((at *ℤ q) ≤ℤ ((o *ℤ q) +ℤ (e *ℤ p)))

same_order : (a b c d x y : ℤ) → a ≡ c → b ≡ d → (x ≤ℤ y) ↔ (a ≤ℤ b) → (c ≤ℤ d) ↔ (x ≤ℤ y)
same_order a b c d x y one two r = (λ h. r.1 (omega (arith, ints, h, one, two)), λ h. let m = r.0 h in omega (arith, ints, m, one, two))

crosses : (e k o at p q : ℤ) → (e *ℤ k) ≡ PARTS → Crosses e k o at p q
crosses e k o at p q is =
    let d = (at *ℤ q) -ℤ (o *ℤ q) in
    let f = e *ℤ p in
    let one : d *ℤ k ≡ ((at -ℤ o) *ℤ k) *ℤ q = apart at o k q in
    let two : f *ℤ k ≡ PARTS *ℤ p = reached e k p is in
    let low : (d ≤ℤ f) ↔ ((at *ℤ q) ≤ℤ ((o *ℤ q) +ℤ f)) = (λ h. omega (arith, ints, h), λ h. omega (arith, ints, h)) in
    let high : (f ≤ℤ d) ↔ (((o *ℤ q) +ℤ f) ≤ℤ (at *ℤ q)) = (λ h. omega (arith, ints, h), λ h. omega (arith, ints, h)) in
    record {
      rising_from = λ some. let s = same_order (d *ℤ k) (f *ℤ k) _ _ d f one two (rising d f k some) in (λ h. low.0 (s.0 h), λ h. s.1 (low.1 h));
      rising_to = λ some. let s = same_order (f *ℤ k) (d *ℤ k) _ _ f d two one (rising f d k some) in (λ h. high.0 (s.0 h), λ h. s.1 (high.1 h));
      falling_from = λ some. let s = same_order (d *ℤ k) (f *ℤ k) _ _ f d one two (falling f d k some) in (λ h. high.0 (s.0 h), λ h. s.1 (high.1 h));
      falling_to = λ some. let s = same_order (f *ℤ k) (d *ℤ k) _ _ d f two one (falling d f k some) in (λ h. low.0 (s.0 h), λ h. s.1 (low.1 h));
    }

-- ---- sides
max_times : (a b q x : ℤ) → pos 0 <ℤ q → ((int_max a b *ℤ q) ≤ℤ x) ↔ (((a *ℤ q) ≤ℤ x) × ((b *ℤ q) ≤ℤ x))
max_times a b q x some =
    let half : pos 0 ≤ℤ q = omega (arith, ints, some) in
    by_lt_z a b
    (λ lt.
    let is : int_max a b ≡ b = omega (arith, ints, clamps, lt) in
    let more = mul_at_most a b q half (omega (arith, ints, lt)) in
    (λ h. let k = subst (λ (z : ℤ). (z *ℤ q) ≤ℤ x) is h in (omega (arith, ints, k, more), k), λ h. subst (λ (z : ℤ). (z *ℤ q) ≤ℤ x) (sym is) h.1))
    (λ le.
    let is : int_max a b ≡ a = omega (arith, ints, clamps, le) in
    let more = mul_at_most b a q half le in
    (λ h. let k = subst (λ (z : ℤ). (z *ℤ q) ≤ℤ x) is h in (k, omega (arith, ints, k, more)), λ h. subst (λ (z : ℤ). (z *ℤ q) ≤ℤ x) (sym is) h.0))

min_times : (a b q x : ℤ) → pos 0 <ℤ q → (x ≤ℤ (int_min a b *ℤ q)) ↔ ((x ≤ℤ (a *ℤ q)) × (x ≤ℤ (b *ℤ q)))
min_times a b q x some =
    let half : pos 0 ≤ℤ q = omega (arith, ints, some) in
    by_lt_z a b
    (λ lt.
    let is : int_min a b ≡ a = omega (arith, ints, clamps, lt) in
    let more = mul_at_most a b q half (omega (arith, ints, lt)) in
    (λ h. let k = subst (λ (z : ℤ). x ≤ℤ (z *ℤ q)) is h in (k, omega (arith, ints, k, more)), λ h. subst (λ (z : ℤ). x ≤ℤ (z *ℤ q)) (sym is) h.0))
    (λ le.
    let is : int_min a b ≡ b = omega (arith, ints, clamps, le) in
    let more = mul_at_most b a q half le in
    (λ h. let k = subst (λ (z : ℤ). x ≤ℤ (z *ℤ q)) is h in (omega (arith, ints, k, more), k), λ h. subst (λ (z : ℤ). x ≤ℤ (z *ℤ q)) (sym is) h.1))

-- a side that the ray enters or leaves through, where it rises or falls
enters_rising : (side : Side) (e k o from p q : ℤ) → pos 0 <ℤ q → pos 0 <ℤ k → (e *ℤ k) ≡ PARTS → ((begun side o k from *ℤ q) ≤ℤ (PARTS *ℤ p)) ↔ (((from *ℤ q) ≤ℤ (PARTS *ℤ p)) × IsFrom side ((o *ℤ q) +ℤ (e *ℤ p)) q)
enters_rising Open e k o from p q some up is = (λ h. (h, tt), λ h. h.0)
enters_rising (At at) e k o from p q some up is =
    let m = max_times from ((at -ℤ o) *ℤ k) q (PARTS *ℤ p) some in
    let c = (crosses e k o at p q is).rising_from up in
    (λ h. let r = m.0 h in (r.0, c.0 r.1), λ h. m.1 (h.0, c.1 h.1))

enters_falling : (side : Side) (e k o from p q : ℤ) → pos 0 <ℤ q → k <ℤ pos 0 → (e *ℤ k) ≡ PARTS → ((begun side o k from *ℤ q) ≤ℤ (PARTS *ℤ p)) ↔ (((from *ℤ q) ≤ℤ (PARTS *ℤ p)) × IsUpTo side ((o *ℤ q) +ℤ (e *ℤ p)) q)
enters_falling Open e k o from p q some down is = (λ h. (h, tt), λ h. h.0)
enters_falling (At at) e k o from p q some down is =
    let m = max_times from ((at -ℤ o) *ℤ k) q (PARTS *ℤ p) some in
    let c = (crosses e k o at p q is).falling_from down in
    (λ h. let r = m.0 h in (r.0, c.0 r.1), λ h. m.1 (h.0, c.1 h.1))

leaves_rising : (side : Side) (e k o to p q : ℤ) → pos 0 <ℤ q → pos 0 <ℤ k → (e *ℤ k) ≡ PARTS → ((PARTS *ℤ p) ≤ℤ (ended side o k to *ℤ q)) ↔ (((PARTS *ℤ p) ≤ℤ (to *ℤ q)) × IsUpTo side ((o *ℤ q) +ℤ (e *ℤ p)) q)
leaves_rising Open e k o to p q some up is = (λ h. (h, tt), λ h. h.0)
leaves_rising (At at) e k o to p q some up is =
    let m = min_times to ((at -ℤ o) *ℤ k) q (PARTS *ℤ p) some in
    let c = (crosses e k o at p q is).rising_to up in
    (λ h. let r = m.0 h in (r.0, c.0 r.1), λ h. m.1 (h.0, c.1 h.1))

leaves_falling : (side : Side) (e k o to p q : ℤ) → pos 0 <ℤ q → k <ℤ pos 0 → (e *ℤ k) ≡ PARTS → ((PARTS *ℤ p) ≤ℤ (ended side o k to *ℤ q)) ↔ (((PARTS *ℤ p) ≤ℤ (to *ℤ q)) × IsFrom side ((o *ℤ q) +ℤ (e *ℤ p)) q)
leaves_falling Open e k o to p q some down is = (λ h. (h, tt), λ h. h.0)
leaves_falling (At at) e k o to p q some down is =
    let m = min_times to ((at -ℤ o) *ℤ k) q (PARTS *ℤ p) some in
    let c = (crosses e k o at p q is).falling_to down in
    (λ h. let r = m.0 h in (r.0, c.0 r.1), λ h. m.1 (h.0, c.1 h.1))

-- ---- a coordinate that stays
is_up : (at x : ℤ) (r : Ordering) → r ≡ int_cmp x at → IsTrue (not (is_lt r)) ↔ (at ≤ℤ x)
is_up at x Less is = let lt : x <ℤ at = int_ranked x at Less is in (λ h. absurd (true≢false (sym h)), λ h. absurd (omega (arith, ints, lt, h)))
is_up at x Equal is = let e : x ≡ at = int_ranked x at Equal is in (λ h. omega (arith, ints, e), λ h. refl)
is_up at x Greater is = let lt : at <ℤ x = int_ranked x at Greater is in (λ h. omega (arith, ints, lt), λ h. refl)

stays_from : (side : Side) (o p q : ℤ) → pos 0 <ℤ q → IsTrue (not (is_side_above o side)) ↔ IsFrom side ((o *ℤ q) +ℤ (pos 0 *ℤ p)) q
stays_from Open o p q some = (λ h. tt, λ h. refl)
stays_from (At at) o p q some =
    let t = not_over at o (int_cmp at o) refl in
    let r = rising at o q some in
    (λ h. let m = r.0 (t.0 h) in omega (arith, ints, m), λ h. t.1 (r.1 (omega (arith, ints, h))))

stays_to : (side : Side) (o p q : ℤ) → pos 0 <ℤ q → IsTrue (not (is_side_below o side)) ↔ IsUpTo side ((o *ℤ q) +ℤ (pos 0 *ℤ p)) q
stays_to Open o p q some = (λ h. tt, λ h. refl)
stays_to (At at) o p q some =
    let t = is_up o at (int_cmp at o) refl in
    let r = rising o at q some in
    (λ h. let m = r.0 (t.0 h) in omega (arith, ints, m), λ h. t.1 (r.1 (omega (arith, ints, h))))

stays : (extent : Extent) (o p q : ℤ) → pos 0 <ℤ q → IsTrue (holds extent o) ↔ IsBetween extent ((o *ℤ q) +ℤ (pos 0 *ℤ p)) q
stays extent o p q some =
    let low = stays_from extent.low o p q some in
    let high = stays_to extent.high o p q some in (
      λ h. let both = and_parts (not (is_side_above o extent.low)) (not (is_side_below o extent.high)) h in (low.0 both.0, high.0 both.1),
      λ h. and_from _ _ (low.1 h.0) (high.1 h.1),
    )

-- ---- an extent
Keeps : Stretch → Stretch → Extent → ℤ → ℤ → ℤ → Type 0
Keeps new old extent c p q = IsOn new p q ↔ (IsOn old p q × IsBetween extent c q)

kept_rising : (extent : Extent) (e k o : ℤ) (s : Stretch) (p q : ℤ) → pos 0 <ℤ q → pos 0 <ℤ k → (e *ℤ k) ≡ PARTS → Keeps (through extent.low extent.high o k s) s extent ((o *ℤ q) +ℤ (e *ℤ p)) p q
unfolding Keeps
kept_rising extent e k o s p q some up is =
    let low = enters_rising extent.low e k o s.from p q some up is in
    let high = leaves_rising extent.high e k o s.to p q some up is in (
      λ on. let a = low.0 on.begins in let b = high.0 on.ends in (record { begins = a.0; ends = b.0 }, (a.1, b.1)),
      λ h. record { begins = low.1 (h.0.begins, h.1.0); ends = high.1 (h.0.ends, h.1.1) },
    )

kept_falling : (extent : Extent) (e k o : ℤ) (s : Stretch) (p q : ℤ) → pos 0 <ℤ q → k <ℤ pos 0 → (e *ℤ k) ≡ PARTS → Keeps (through extent.high extent.low o k s) s extent ((o *ℤ q) +ℤ (e *ℤ p)) p q
unfolding Keeps
kept_falling extent e k o s p q some down is =
    let low = leaves_falling extent.low e k o s.to p q some down is in
    let high = enters_falling extent.high e k o s.from p q some down is in (
      λ on. let a = low.0 on.ends in let b = high.0 on.begins in (record { begins = b.0; ends = a.0 }, (a.1, b.1)),
      λ h. record { begins = high.1 (h.0.begins, h.1.1); ends = low.1 (h.0.ends, h.1.0) },
    )

kept_still : (extent : Extent) (o : ℤ) (s : Stretch) (p q : ℤ) → pos 0 <ℤ q → Keeps (clipped_by Equal extent o (pos 0) s) s extent ((o *ℤ q) +ℤ (pos 0 *ℤ p)) p q
unfolding Keeps
kept_still extent o s p q some =
    let t = stays extent o p q some in
    elim (cases_Bool (holds extent o)) [
      | inl held ↦
          let is : clipped_by Equal extent o (pos 0) s ≡ s = cond-true (holds extent o) s empty_stretch held in
          (λ on. (subst (λ (r : Stretch). IsOn r p q) is on, t.0 held), λ h. subst (λ (r : Stretch). IsOn r p q) (sym is) h.0)
      | inr off ↦
          let is : clipped_by Equal extent o (pos 0) s ≡ empty_stretch = cond-false (holds extent o) s empty_stretch off in
          (λ on. absurd (none_on_empty p q some (subst (λ (r : Stretch). IsOn r p q) is on)), λ h. absurd (true≢false (sym (t.1 h.1) ∙ off)))
    ]

clip_keeps : (r : Ordering) (extent : Extent) (e k o : ℤ) (s : Stretch) (p q : ℤ) → r ≡ int_cmp k (pos 0) → pos 0 <ℤ q → IsPace e k → Keeps (clipped_by r extent o k s) s extent ((o *ℤ q) +ℤ (e *ℤ p)) p q
clip_keeps Less extent e k o s p q rank some (inl is) = kept_falling extent e k o s p q some (int_ranked k (pos 0) Less rank) is
clip_keeps Less extent e k o s p q rank some (inr still) = let lt : k <ℤ pos 0 = int_ranked k (pos 0) Less rank in absurd (omega (arith, ints, lt, still.1))
clip_keeps Greater extent e k o s p q rank some (inl is) = kept_rising extent e k o s p q some (int_ranked k (pos 0) Greater rank) is
clip_keeps Greater extent e k o s p q rank some (inr still) = let lt : pos 0 <ℤ k = int_ranked k (pos 0) Greater rank in absurd (omega (arith, ints, lt, still.1))
clip_keeps Equal extent e k o s p q rank some (inl is) =
    let zero : k ≡ pos 0 = int_ranked k (pos 0) Equal rank in
    let product : e *ℤ pos 0 ≡ PARTS = ap (λ (z : ℤ). e *ℤ z) (sym zero) ∙ is in
    absurd (omega (arith, ints, product))
clip_keeps Equal extent e k o s p q rank some (inr still) =
    subst (λ (z : ℤ). Keeps (clipped_by Equal extent o z s) s extent ((o *ℤ q) +ℤ (e *ℤ p)) p q) (sym still.1)
    (subst (λ (z : ℤ). Keeps (clipped_by Equal extent o (pos 0) s) s extent ((o *ℤ q) +ℤ (z *ℤ p)) p q) (sym still.0) (kept_still extent o s p q some))

-- ---- boxes and halves
abbrev along_axis : V3 → Axis → ℤ
along_axis v X = v.x
along_axis v Y = v.y
along_axis v Z = v.z

abbrev point_of : (line : Line) → IsLine line → ℤ → ℤ → V3
point_of line is p q = slant_point line.origin is.direction p q

extent_keeps : (line : Line) (is : IsLine line) (extent : Extent) (axis : Axis) (s : Stretch) (p q : ℤ) → pos 0 <ℤ q → Keeps (in_extent line extent axis s) s extent (along_axis (point_of line is p q) axis) p q
extent_keeps line is extent X s p q some = clip_keeps (int_cmp line.pace.x (pos 0)) extent is.direction.x line.pace.x line.origin.x s p q refl some is.x
extent_keeps line is extent Y s p q some = clip_keeps (int_cmp line.pace.y (pos 0)) extent is.direction.y line.pace.y line.origin.y s p q refl some is.y
extent_keeps line is extent Z s p q some = clip_keeps (int_cmp line.pace.z (pos 0)) extent is.direction.z line.pace.z line.origin.z s p q refl some is.z

pub box_keeps : (line : Line) (is : IsLine line) (b : Box3) (s : Stretch) (p q : ℤ) → pos 0 <ℤ q → IsOn (in_box line b s) p q ↔ (IsOn s p q × HasPoint b (point_of line is p q) q)
unfolding Keeps
box_keeps line is Empty s p q some = (λ on. absurd (none_on_empty p q some on), λ h. absurd h.1)
box_keeps line is (Span x y z) s p q some =
    let in_x = in_extent line x X s in
    let in_y = in_extent line y Y in_x in
    let a = extent_keeps line is x X s p q some in
    let b = extent_keeps line is y Y in_x p q some in
    let c = extent_keeps line is z Z in_y p q some in (
      λ on. let k = c.0 on in let j = b.0 k.0 in let i = a.0 j.0 in (i.0, (i.1, j.1, k.1)),
      λ h. c.1 (b.1 (a.1 (h.0, h.1.0), h.1.1), h.1.2),
    )

-- ---- which boxes a stretch crosses
pub record IsMet (line : Line) (is : IsLine line) (s : Stretch) (b : Box3) : Type 0 where
  pub p : ℤ
  pub q : ℤ
  pub some : pos 0 <ℤ q
  pub on : IsOn s p q
  pub inside : HasPoint b (point_of line is p q) q

some_from : (s : Stretch) (p q : ℤ) → pos 0 <ℤ q → IsOn s p q → IsTrue (has_some s)
some_from s p q some on = (not_over s.from s.to (int_cmp s.from s.to) refl).1 (at_most_from_mul s.from s.to q some (omega (arith, ints, on.begins, on.ends)))

first_on : (s : Stretch) → IsTrue (has_some s) → IsOn s s.from PARTS
first_on s h =
    let le = (not_over s.from s.to (int_cmp s.from s.to) refl).0 h in
    record { begins = omega (arith, ints); ends = omega (arith, ints, le) }

pub crossed_tells : (line : Line) (is : IsLine line) (s : Stretch) (b : Box3) → IsTrue (is_crossed line s b) ↔ IsMet line is s b
crossed_tells line is s b = (
  λ h.
      let r = in_box line b s in
      let some : pos 0 <ℤ PARTS = omega (arith, ints) in
      let k = (box_keeps line is b s r.from PARTS some).0 (first_on r h) in
      record { p = r.from; q = PARTS; some = some; on = k.0; inside = k.1 },
  λ m. some_from (in_box line b s) m.p m.q m.some ((box_keeps line is b s m.p m.q m.some).1 (m.on, m.inside)),
)

-- a line that crosses no point of some bounds crosses no box whose points are theirs
pub missed_within : (line : Line) → IsLine line → (bounds b : Box3) → ((v : V3) (q : ℤ) → pos 0 <ℤ q → HasPoint b v q → HasPoint bounds v q) → is_crossed line whole_line bounds ≡ false → is_crossed line whole_line b ≡ false
missed_within line is bounds b within none =
    fails_too (is_crossed line whole_line bounds) (is_crossed line whole_line b)
    (λ h.
    let m = (crossed_tells line is whole_line b).0 h in
    (crossed_tells line is whole_line bounds).1 (record { p = m.p; q = m.q; some = m.some; on = m.on; inside = within (point_of line is m.p m.q) m.q m.some m.inside }))
    none

-- ---- a stretch without places has none in any extent
begun_later : (side : Side) (o k from : ℤ) → from ≤ℤ begun side o k from
begun_later Open o k from = omega (arith, ints)
begun_later (At at) o k from = omega (arith, ints, clamps)

ended_sooner : (side : Side) (o k to : ℤ) → ended side o k to ≤ℤ to
ended_sooner Open o k to = omega (arith, ints)
ended_sooner (At at) o k to = omega (arith, ints, clamps)

some_before : (near far : Side) (o k : ℤ) (s : Stretch) → IsTrue (has_some (through near far o k s)) → IsTrue (has_some s)
some_before near far o k s h =
    let from = begun near o k s.from in
    let to = ended far o k s.to in
    let le : from ≤ℤ to = (not_over from to (int_cmp from to) refl).0 h in
    let a : s.from ≤ℤ from = begun_later near o k s.from in
    let b : to ≤ℤ s.to = ended_sooner far o k s.to in
    (not_over s.from s.to (int_cmp s.from s.to) refl).1 (omega (arith, ints, le, a, b))

none_clipped : (r : Ordering) (extent : Extent) (o k : ℤ) (s : Stretch) → has_some s ≡ false → has_some (clipped_by r extent o k s) ≡ false
none_clipped Less extent o k s none = fails_too (has_some s) (has_some (through extent.high extent.low o k s)) (some_before extent.high extent.low o k s) none
none_clipped Greater extent o k s none = fails_too (has_some s) (has_some (through extent.low extent.high o k s)) (some_before extent.low extent.high o k s) none
none_clipped Equal extent o k s none = elim (holds extent o) as (λ (t : Bool). has_some (if t then s else empty_stretch) ≡ false) [ true ↦ none | false ↦ refl ]

pub none_in_extent : (line : Line) (extent : Extent) (axis : Axis) (s : Stretch) → has_some s ≡ false → has_some (in_extent line extent axis s) ≡ false
none_in_extent line extent X s none = none_clipped (int_cmp line.pace.x (pos 0)) extent line.origin.x line.pace.x s none
none_in_extent line extent Y s none = none_clipped (int_cmp line.pace.y (pos 0)) extent line.origin.y line.pace.y s none
none_in_extent line extent Z s none = none_clipped (int_cmp line.pace.z (pos 0)) extent line.origin.z line.pace.z s none

-- ---- the line of a ray
pub pace_fits : (e : ℤ) → IsAtMost STEP e → IsPace e (pace_of e)
pace_fits (pos zero) size = inr (refl, refl)
pace_fits (pos (suc zero)) size = inl refl
pace_fits (pos (suc (suc zero))) size = inl refl
pace_fits (pos (suc (suc (suc zero)))) size = inl refl
pace_fits (pos (suc (suc (suc (suc zero))))) size = inl refl
pace_fits (pos (suc (suc (suc (suc (suc n)))))) size = absurd (omega (arith, ints, size.1))
pace_fits (negsuc zero) size = inl refl
pace_fits (negsuc (suc zero)) size = inl refl
pace_fits (negsuc (suc (suc zero))) size = inl refl
pace_fits (negsuc (suc (suc (suc zero)))) size = inl refl
pace_fits (negsuc (suc (suc (suc (suc n))))) size = absurd (omega (arith, ints, size.0))

abbrev pub is_line_of : (origin direction : V3) → IsWithin STEP direction → IsLine (line_of origin direction)
is_line_of origin direction size = record { direction = direction; x = pace_fits direction.x size.x; y = pace_fits direction.y size.y; z = pace_fits direction.z size.z }

-- the boxes with points that the whole line crosses are those that the ray meets
pub slant_tells : (origin direction : V3) → IsWithin STEP direction → (b : Box3) → IsTrue (has_points b && is_crossed (line_of origin direction) whole_line b) ↔ MeetsSlant b origin direction
slant_tells origin direction size b =
    let t = crossed_tells (line_of origin direction) (is_line_of origin direction size) whole_line b in (
      λ h.
          let m = t.0 (and_parts (has_points b) (is_crossed (line_of origin direction) whole_line b) h).1 in
          record { p = m.p; q = m.q; on_ray = record { positive = m.some; begun = omega (arith, ints, m.on.begins); not_ended = omega (arith, ints, m.on.ends) }; inside = m.inside },
      λ m.
          let points = (points_tell b).1 (point_ordered b (slant_point origin direction m.p m.q) m.q m.on_ray.positive m.inside) in
          let on : IsOn whole_line m.p m.q = record { begins = omega (arith, ints, m.on_ray.begun); ends = omega (arith, ints, m.on_ray.not_ended) } in
          and_from _ _ points (t.1 (record { p = m.p; q = m.q; some = m.on_ray.positive; on = on; inside = m.inside })),
    )
