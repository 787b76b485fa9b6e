-- What a solid that was made and placed keeps.
use Rattle.std.proofs.Common.{◌≡◌, ℕ, zero, suc, All, List, [], ◌∷◌, replicate, Option, Some, None, subst, arith}
use Rattle.std.proofs.Common.{FitsSigned, w64, lit<}
use Rattle.std.proofs.Common.{refl}
use mir.Val.{to_z, of_z}
use Rattle.std.proofs.lemmas.Int.{ints, to_z-of_z}
use Rattle.plane_geom.proofs.Sizes.{fits64}
use Rattle.prim_sphere.specs.Spheres.{IsRadius}
use Rattle.std.specs.Option.{ForSome}
use Rattle.plane_geom.specs.declared.plane.Plane.{Plane}
use Rattle.plane_geom.specs.Planes.{IsWorldPlane}
use Rattle.std.proofs.Common.{ℤ}
use Rattle.lattice_core.specs.declared.vector.V3.{V3}
use Rattle.std.specs.Prelude.{Result, Ok, Err}
use Rattle.plane_geom.specs.declared.fault.ShapeFault.{ShapeFault}
use Rattle.prim_arb8.specs.Rpps.{IsMadeOf, rpp_vertices}
use Rattle.prim_arb8.specs.Solids.{EightVertices}
use Rattle.solid_set.specs.declared.solid.Solid.TheVariants as solids
use Rattle.solid_set.specs.Rpps.{IsArb8Of}
use Rattle.solid_set.specs.declared.surface.Surface.TheVariants.{Planes, HalfSpace, Ball, Cylinder}
use Rattle.prim_rcc.specs.declared.rcc.RccFaces.{RccFaces}
use Rattle.prim_rcc.specs.Cylinders.{AreFacesSized}
use Rattle.prim_rcc.specs.Sides.{IsSideSized}
use Rattle.solid_set.specs.declared.surface.Round.{Round}
use Rattle.solid_set.specs.PlacedFaces.{IsRoundSized}
use Rattle.solid_set.specs.Surfaces.{IsBallSize, IsBallSized, HasSizedSide}
use Rattle.lattice_core.specs.declared.limit.TheConstants.{COORD, PLACED}
use Rattle.lattice_core.specs.Limits.{IsWithin}

pub one_side : (plane : Plane) → IsWorldPlane plane → All (λ (side : Option Plane). ForSome side IsWorldPlane) (Some plane ∷ [])
one_side plane h zero d lt x e = let same : plane ≡ x = cc in subst IsWorldPlane same h
one_side plane h (suc k) d lt x e = absurd (omega arith)

pub no_ball_planes : (sides : List (Option Plane)) → IsBallSized (Planes sides)
no_ball_planes sides centre radius e = absurd (let different : Planes sides ≡ Ball centre radius = e in cc)

pub no_ball_half : (plane : Plane) → IsBallSized (HalfSpace plane)
no_ball_half plane centre radius e = absurd (let different : HalfSpace plane ≡ Ball centre radius = e in cc)

pub ball_sized : (c : V3) (r : ℤ) → IsBallSize c r → IsBallSized (Ball c r)
ball_sized c r h centre radius e =
    let same : c ≡ centre = cc in
    let same' : r ≡ radius = cc in
    subst (λ (v : V3). IsBallSize v radius) same (subst (λ (z : ℤ). IsBallSize c z) same' h)

pub no_side : (c : V3) (r : ℤ) → All (λ (side : Option Plane). ForSome side IsWorldPlane) []
no_side c r k d lt x e = absurd (omega arith)

pub radius_fits : (r : ℤ) → IsRadius r → FitsSigned w64 r
radius_fits r h = fits64 COORD r (lit< tt) (omega (arith, ints, h.some), h.size)

pub arb8_made : (r : Result EightVertices ShapeFault) (a : EightVertices) (v : List V3) → IsMadeOf r v → r ≡ Ok a → IsArb8Of (Ok (solids.Arb8 a)) v
arb8_made r a v made is = subst (λ (x : Result EightVertices ShapeFault). IsMadeOf x v) is made

pub arb8_fault : (r : Result EightVertices ShapeFault) (e : ShapeFault) (v : List V3) → IsMadeOf r v → r ≡ Err e → IsArb8Of (Err e) v
arb8_fault r e v made is = subst (λ (x : Result EightVertices ShapeFault). IsMadeOf x v) is made

pub rpp_same : {a b c d e f a' b' c' d' e' f' : ℤ} → a ≡ a' → b ≡ b' → c ≡ c' → d ≡ d' → e ≡ e' → f ≡ f' → rpp_vertices a b c d e f ≡ rpp_vertices a' b' c' d' e' f'
rpp_same h i j k l m = cc

pub fitted : (z : ℤ) → FitsSigned w64 z → to_z w64 (of_z w64 z) ≡ z
fitted z f = simp to_z-of_z refl

pub no_side_planes : (sides : List (Option Plane)) → HasSizedSide (Planes sides)
no_side_planes sides faces e = absurd (let different : Planes sides ≡ Cylinder faces = e in cc)

pub no_side_half : (plane : Plane) → HasSizedSide (HalfSpace plane)
no_side_half plane faces e = absurd (let different : HalfSpace plane ≡ Cylinder faces = e in cc)

pub no_side_ball : (c : V3) (r : ℤ) → HasSizedSide (Ball c r)
no_side_ball c r faces e = absurd (let different : Ball c r ≡ Cylinder faces = e in cc)

pub no_ball_cylinder : (faces : RccFaces) → IsBallSized (Cylinder faces)
no_ball_cylinder faces centre radius e = absurd (let different : Cylinder faces ≡ Ball centre radius = e in cc)

pub cylinder_sized : (faces : RccFaces) → IsSideSized faces.side → HasSizedSide (Cylinder faces)
cylinder_sized faces h other e = let same : faces ≡ other = cc in subst (λ (f : RccFaces). IsSideSized f.side) same h

pub two_sides : (a b : Plane) → IsWorldPlane a → IsWorldPlane b → All (λ (side : Option Plane). ForSome side IsWorldPlane) (Some a ∷ Some b ∷ [])
two_sides a b h g zero d lt x e = let same : a ≡ x = cc in subst IsWorldPlane same h
two_sides a b h g (suc zero) d lt x e = let same : b ≡ x = cc in subst IsWorldPlane same g
two_sides a b h g (suc (suc k)) d lt x e = absurd (omega arith)

-- the sizes of the faces of a placed cylinder
pub faces_sized : (faces : RccFaces) → All (λ (side : Option Plane). ForSome side IsWorldPlane) (Some faces.base ∷ Some faces.top ∷ []) → IsSideSized faces.side → AreFacesSized faces
faces_sized faces all h = record { base_size = all 0 (Some faces.base) (omega arith) faces.base refl; top_size = all 1 (Some faces.base) (omega arith) faces.top refl; side_size = h }

pub none_sized : ForSome None IsWorldPlane
none_sized x e = absurd (let different : (None ≡ Some x) = e in cc)

none_sides : (n : ℕ) → All (λ (side : Option Plane). ForSome side IsWorldPlane) (replicate n None)
none_sides zero k d lt = absurd (omega (arith, lt))
none_sides (suc n) zero d lt = none_sized
none_sides (suc n) (suc k) d lt = none_sides n k d (omega (arith, lt))

-- two sides, and none behind them
pub padded_sides : (first second : Option Plane) → ForSome first IsWorldPlane → ForSome second IsWorldPlane
    → All (λ (side : Option Plane). ForSome side IsWorldPlane) (first ∷ second ∷ replicate 10 None)
padded_sides first second h g zero d lt = h
padded_sides first second h g (suc zero) d lt = g
padded_sides first second h g (suc (suc k)) d lt = none_sides 10 k d (omega (arith, lt))

pub round_sized : (round : Round) → IsWithin PLACED round.centre → IsRadius round.radius → ForSome (Some round) IsRoundSized
round_sized round h g x e = let same : round ≡ x = cc in subst IsRoundSized same (record { centre = h; radius = g })
