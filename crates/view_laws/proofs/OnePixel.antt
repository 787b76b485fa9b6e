-- No other colour is true of the points of a ray.
use Rattle.std.proofs.Common.{◌≡◌, ◌⊎◌, ◌<◌, ◌≤◌, ℕ, List, slice_get, Some, ap, sym, ◌∙◌, subst, inl, inr, arith}
use Rattle.lattice_core.specs.declared.ray.Ray.{Ray}
use Rattle.region_attr.specs.declared.attr.Rgb.{Rgb}
use Rattle.surd_order.specs.declared.position.Pos.{Pos}
use Rattle.surd_order.specs.declared.position.Seg.{Seg}
use Rattle.surd_order.specs.Order.{Precedes}
use Rattle.surd_order.proofs.OrderLaws.{same_refl}
use Rattle.solid_set.specs.Levels.{level_at}
use Rattle.solid_set.specs.Segments.{segment_of}
use Rattle.shot_core.specs.Laws.{HasEndWith}
use Rattle.shot_core.specs.Regions.{Instance, Region}
use Rattle.shot_core.proofs.OnRay.{segment_on_ray}
use Rattle.tile_shot.specs.Pixels.{pixel_of, shaded}
use Rattle.tile_shot.specs.Reports.{HaveRisingPlaces}
use Rattle.view_laws.specs.PixelPoints.{TurnsWith, ShowsFirst, IsTruePixel, PixelsTellPoints}
use Rattle.view_laws.proofs.FirstRegion.{not_nothing, same_start, same_region}
use Rattle.view_laws.proofs.Pixels.{same_some, pixel_told}

-- a segment has a place at one of its ends alone
one_face : (surface_ray : Ray) (i : Instance) (seg : Seg) (x : Pos) (f g : ℕ) → segment_of i.surface surface_ray ≡ Some seg → HasEndWith seg x f → HasEndWith seg x g → f ≡ g
one_face ray i seg x f g is (inl h) (inl k) = h.1 ∙ sym k.1
one_face ray i seg x f g is (inr h) (inr k) = h.1 ∙ sym k.1
one_face ray i seg x f g is (inl h) (inr k) = absurd ((same_refl seg.end).not_before (subst (λ y. Precedes y seg.end) (sym h.0 ∙ k.0) (segment_on_ray i.surface ray seg is).ordered))
one_face ray i seg x f g is (inr h) (inl k) = absurd ((same_refl seg.end).not_before (subst (λ y. Precedes y seg.end) (sym k.0 ∙ h.0) (segment_on_ray i.surface ray seg is).ordered))

module _ (regions : List Region) (ray : Ray) (rising : HaveRisingPlaces regions) where
  same_number : (n i m j : ℕ) → (n < m) ⊎ ((n ≡ m) × (i ≤ j)) → (m < n) ⊎ ((m ≡ n) × (j ≤ i)) → (n ≡ m) × (i ≡ j)
  same_number n i m j (inl h) (inl k) = absurd (omega (arith, h, k))
  same_number n i m j (inl h) (inr k) = absurd (omega (arith, h, k.0))
  same_number n i m j (inr h) (inl k) = absurd (omega (arith, h.0, k))
  same_number n i m j (inr h) (inr k) = (h.0, omega (arith, h.1, k.1))

  same_level : {c d : Rgb} (s : ShowsFirst regions ray c) (t : ShowsFirst regions ray d) → s.first.lit.level ≡ t.first.lit.level
  same_level s t =
      let a = s.level in
      let b = t.level in
      let start = same_start regions ray rising s.first t.first in
      let at : TurnsWith regions ray s.first.lit.start b.number b.instance = subst (λ y. TurnsWith regions ray y b.number b.instance) (sym start) b.at in
      let numbers = same_number a.number a.instance b.number b.instance (a.first b.number b.instance at) (b.first a.number a.instance (subst (λ y. TurnsWith regions ray y a.number a.instance) start a.at)) in
      let region : a.at.region ≡ b.at.region = same_some a.at.region b.at.region (sym a.at.listed ∙ ap (slice_get regions) numbers.0 ∙ b.at.listed) in
      let one : a.at.one ≡ b.at.one =
      same_some a.at.one b.at.one (sym a.at.there ∙ ap (λ (r : Region). slice_get r.body.instances a.instance) region ∙ ap (slice_get b.at.region.body.instances) numbers.1 ∙ b.at.there) in
      let seg : a.at.seg ≡ b.at.seg = same_some a.at.seg b.at.seg (sym a.at.segment ∙ ap (λ (i : Instance). segment_of i.surface ray) one ∙ b.at.segment) in
      let face : HasEndWith a.at.seg s.first.lit.start t.first.lit.hit.face =
      subst (λ (g : Seg). HasEndWith g s.first.lit.start t.first.lit.hit.face) (sym seg) (subst (λ y. HasEndWith b.at.seg y t.first.lit.hit.face) (sym start) b.face) in
      let faces : s.first.lit.hit.face ≡ t.first.lit.hit.face =
      one_face ray a.at.one a.at.seg s.first.lit.start s.first.lit.hit.face t.first.lit.hit.face a.at.segment a.face face in
      a.level ∙ ap (λ (i : Instance). level_at i.surface s.first.lit.hit.face ray) one ∙ ap (λ g. level_at b.at.one.surface g ray) faces ∙ sym b.level

  same_colour : (c d : Rgb) (s : ShowsFirst regions ray c) (t : ShowsFirst regions ray d) → c ≡ d
  same_colour c d s t =
      let region : s.first.seen.region ≡ t.first.seen.region = same_region regions ray rising s.first t.first in
      s.is ∙ ap (λ n. shaded n s.first.seen.region.body.rgb) (same_level s t) ∙ ap (λ (r : Region). shaded t.first.lit.level r.body.rgb) region ∙ sym t.is

  one_colour : (c d : Rgb) → IsTruePixel regions ray c → IsTruePixel regions ray d → c ≡ d
  one_colour c d (inl s) (inl t) = same_colour c d s t
  one_colour c d (inl s) (inr none) = absurd (not_nothing regions ray rising s.first none.1)
  one_colour c d (inr none) (inl t) = absurd (not_nothing regions ray rising t.first none.1)
  one_colour c d (inr none) (inr none') = none.0 ∙ sym none'.0

pub pixels_tell_points : PixelsTellPoints
pixels_tell_points regions ray rising below =
    let own = pixel_told regions ray rising below in
    record { told = own; alone = λ other told. one_colour regions ray rising other (pixel_of regions ray) told own }
