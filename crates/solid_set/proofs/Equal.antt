-- `==` on surfaces and boxes says whether they are one.
use Rattle.std.proofs.Common.{◌≡◌, ◌∙◌, ℤ, List, Option, Some, None, refl, ap}
use Rattle.std.specs.Bool.{Decides}
use Rattle.std.specs.Option.{option_eq}
use Rattle.std.specs.Cmp.Lexicographic.{pointwise}
use Rattle.std.proofs.lemmas.Bool.Decides.{Decides-int_eq, Decides-and, Decides-like}
use Rattle.std.proofs.lemmas.Slice.Eq.{slice_eq-Decides}
use Rattle.lattice_core.specs.declared.vector.V3.{V3}
use Rattle.lattice_core.specs.declared.boxes.Side.{Side}
use Rattle.lattice_core.specs.declared.boxes.Side.TheVariants.{Open, At}
use Rattle.lattice_core.specs.declared.extent.Extent.{Extent}
use Rattle.lattice_core.specs.declared.boxes.Box3.{Box3}
use Rattle.lattice_core.specs.declared.boxes.Box3.TheVariants.{Empty, Span}
use Rattle.lattice_core.specs.contracts.vector.V3PartialEq.TheImpl as vectors
use Rattle.lattice_core.specs.contracts.boxes.SidePartialEq.TheImpl as sides
use Rattle.lattice_core.specs.contracts.extent.ExtentPartialEq.TheImpl as extents
use Rattle.lattice_core.specs.contracts.boxes.Box3PartialEq.TheImpl as boxes
use Rattle.plane_geom.specs.declared.plane.Plane.{Plane}
use Rattle.plane_geom.specs.contracts.plane.PlanePartialEq.TheImpl as planes
use Rattle.prim_rcc.specs.declared.axis.Axis.{Axis}
use Rattle.prim_rcc.specs.declared.axis.Axis.TheVariants.{X, Y, Z}
use Rattle.prim_rcc.specs.declared.rcc.RccFaces.{RccFaces}
use Rattle.prim_rcc.specs.declared.side.RoundSide.{RoundSide}
use Rattle.prim_rcc.specs.contracts.axis.AxisPartialEq.TheImpl as axes
use Rattle.prim_rcc.specs.contracts.rcc.RccFacesPartialEq.TheImpl as cylinders
use Rattle.prim_rcc.specs.contracts.side.RoundSidePartialEq.TheImpl as rounds
use Rattle.solid_set.specs.declared.surface.Surface.{Surface}
use Rattle.solid_set.specs.declared.surface.Surface.TheVariants.{Planes, HalfSpace, Ball, Cylinder}
use Rattle.solid_set.specs.contracts.surface.SurfacePartialEq.TheImpl as surfaces

same_vector : (a b : V3) → a.x ≡ b.x → a.y ≡ b.y → a.z ≡ b.z → a ≡ b
same_vector a b p q r = λ i. record { x = p i; y = q i; z = r i }

pub vector_decides : (a b : V3) → Decides (vectors.eq-value.it a b) (a ≡ b)
vector_decides a b =
    Decides-like _ (λ h. same_vector a b h.0 h.1.0 h.1.1) (λ e. (ap (λ (v : V3). v.x) e, (ap (λ (v : V3). v.y) e, ap (λ (v : V3). v.z) e)))
    (Decides-and _ _ (Decides-int_eq a.x b.x) (Decides-and _ _ (Decides-int_eq a.y b.y) (Decides-int_eq a.z b.z)))

same_plane : (a b : Plane) → a.n ≡ b.n → a.d ≡ b.d → a ≡ b
same_plane a b p q = λ i. record { n = p i; d = q i }

plane_decides : (a b : Plane) → Decides (planes.eq-value.it a b) (a ≡ b)
plane_decides a b =
    Decides-like _ (λ h. same_plane a b h.0 h.1) (λ e. (ap (λ (p : Plane). p.n) e, ap (λ (p : Plane). p.d) e))
    (Decides-and _ _ (vector_decides a.n b.n) (Decides-int_eq a.d b.d))

face_decides : (a b : Option Plane) → Decides (option_eq planes.eq-value.it a b) (a ≡ b)
face_decides None None = (λ h. refl, λ e. refl)
face_decides None (Some q) = (λ h. cc, λ e. cc)
face_decides (Some p) None = (λ h. cc, λ e. cc)
face_decides (Some p) (Some q) = Decides-like _ (λ e. ap Some e) (λ e. cc) (plane_decides p q)

abbrev faces_in : List (Option Plane) → Surface → List (Option Plane)
faces_in other (Planes faces) = faces
faces_in other (HalfSpace plane) = other
faces_in other (Ball centre radius) = other
faces_in other (Cylinder faces) = other

abbrev plane_in : Plane → Surface → Plane
plane_in other (Planes faces) = other
plane_in other (HalfSpace plane) = plane
plane_in other (Ball centre radius) = other
plane_in other (Cylinder faces) = other

abbrev centre_in : V3 → Surface → V3
centre_in other (Planes faces) = other
centre_in other (HalfSpace plane) = other
centre_in other (Ball centre radius) = centre
centre_in other (Cylinder faces) = other

abbrev radius_in : ℤ → Surface → ℤ
radius_in other (Planes faces) = other
radius_in other (HalfSpace plane) = other
radius_in other (Ball centre radius) = radius
radius_in other (Cylinder faces) = other

abbrev cylinder_in : RccFaces → Surface → RccFaces
cylinder_in other (Planes faces) = other
cylinder_in other (HalfSpace plane) = other
cylinder_in other (Ball centre radius) = other
cylinder_in other (Cylinder faces) = faces

axis_decides : (a b : Axis) → Decides (axes.eq-value.it a b) (a ≡ b)
axis_decides X X = (λ h. refl, λ e. refl)
axis_decides X Y = (λ h. cc, λ e. cc)
axis_decides X Z = (λ h. cc, λ e. cc)
axis_decides Y X = (λ h. cc, λ e. cc)
axis_decides Y Y = (λ h. refl, λ e. refl)
axis_decides Y Z = (λ h. cc, λ e. cc)
axis_decides Z X = (λ h. cc, λ e. cc)
axis_decides Z Y = (λ h. cc, λ e. cc)
axis_decides Z Z = (λ h. refl, λ e. refl)

same_round : (a b : RoundSide) → a.centre ≡ b.centre → a.axis ≡ b.axis → a.radius ≡ b.radius → a ≡ b
same_round a b p q r = λ i. record { centre = p i; axis = q i; radius = r i }

round_decides : (a b : RoundSide) → Decides (rounds.eq-value.it a b) (a ≡ b)
round_decides a b =
    Decides-like _ (λ h. same_round a b h.0 h.1.0 h.1.1) (λ e. (ap (λ (s : RoundSide). s.centre) e, (ap (λ (s : RoundSide). s.axis) e, ap (λ (s : RoundSide). s.radius) e)))
    (Decides-and _ _ (vector_decides a.centre b.centre) (Decides-and _ _ (axis_decides a.axis b.axis) (Decides-int_eq a.radius b.radius)))

same_cylinder : (a b : RccFaces) → a.base ≡ b.base → a.top ≡ b.top → a.side ≡ b.side → a ≡ b
same_cylinder a b p q r = λ i. record { base = p i; top = q i; side = r i }

cylinder_decides : (a b : RccFaces) → Decides (cylinders.eq-value.it a b) (a ≡ b)
cylinder_decides a b =
    Decides-like _ (λ h. same_cylinder a b h.0 h.1.0 h.1.1) (λ e. (ap (λ (s : RccFaces). s.base) e, (ap (λ (s : RccFaces). s.top) e, ap (λ (s : RccFaces). s.side) e)))
    (Decides-and _ _ (plane_decides a.base b.base) (Decides-and _ _ (plane_decides a.top b.top) (round_decides a.side b.side)))

pub surface_decides : (a b : Surface) → Decides (surfaces.eq-value.it a b) (a ≡ b)
surface_decides (Planes xs) (Planes ys) =
    Decides-like _ (λ e. ap Planes e) (λ e. ap (faces_in xs) e) (slice_eq-Decides face_decides xs ys (pointwise (option_eq planes.eq-value.it) xs ys) refl)
surface_decides (Planes xs) (HalfSpace q) = (λ h. cc, λ e. cc)
surface_decides (Planes xs) (Ball d s) = (λ h. cc, λ e. cc)
surface_decides (Planes xs) (Cylinder g) = (λ h. cc, λ e. cc)
surface_decides (HalfSpace p) (Planes ys) = (λ h. cc, λ e. cc)
surface_decides (HalfSpace p) (HalfSpace q) = Decides-like _ (λ e. ap HalfSpace e) (λ e. ap (plane_in p) e) (plane_decides p q)
surface_decides (HalfSpace p) (Ball d s) = (λ h. cc, λ e. cc)
surface_decides (HalfSpace p) (Cylinder g) = (λ h. cc, λ e. cc)
surface_decides (Ball c r) (Planes ys) = (λ h. cc, λ e. cc)
surface_decides (Ball c r) (HalfSpace q) = (λ h. cc, λ e. cc)
surface_decides (Ball c r) (Cylinder g) = (λ h. cc, λ e. cc)
surface_decides (Ball c r) (Ball d s) =
    Decides-like _ (λ h. ap (λ (x : V3). Ball x r) h.0 ∙ ap (λ (x : ℤ). Ball d x) h.1) (λ e. (ap (centre_in c) e, ap (radius_in r) e))
    (Decides-and _ _ (vector_decides c d) (Decides-int_eq r s))
surface_decides (Cylinder f) (Planes ys) = (λ h. cc, λ e. cc)
surface_decides (Cylinder f) (HalfSpace q) = (λ h. cc, λ e. cc)
surface_decides (Cylinder f) (Ball d s) = (λ h. cc, λ e. cc)
surface_decides (Cylinder f) (Cylinder g) = Decides-like _ (λ e. ap Cylinder e) (λ e. ap (cylinder_in f) e) (cylinder_decides f g)

abbrev height_in : ℤ → Side → ℤ
height_in other Open = other
height_in other (At z) = z

side_decides : (a b : Side) → Decides (sides.eq-value.it a b) (a ≡ b)
side_decides Open Open = (λ h. refl, λ e. refl)
side_decides Open (At y) = (λ h. cc, λ e. cc)
side_decides (At x) Open = (λ h. cc, λ e. cc)
side_decides (At x) (At y) = Decides-like _ (λ e. ap At e) (λ e. ap (height_in x) e) (Decides-int_eq x y)

same_extent : (a b : Extent) → a.low ≡ b.low → a.high ≡ b.high → a ≡ b
same_extent a b p q = λ i. record { low = p i; high = q i }

extent_decides : (a b : Extent) → Decides (extents.eq-value.it a b) (a ≡ b)
extent_decides a b =
    Decides-like _ (λ h. same_extent a b h.0 h.1) (λ e. (ap (λ (x : Extent). x.low) e, ap (λ (x : Extent). x.high) e))
    (Decides-and _ _ (side_decides a.low b.low) (side_decides a.high b.high))

abbrev x_in : Extent → Box3 → Extent
x_in other Empty = other
x_in other (Span x y z) = x

abbrev y_in : Extent → Box3 → Extent
y_in other Empty = other
y_in other (Span x y z) = y

abbrev z_in : Extent → Box3 → Extent
z_in other Empty = other
z_in other (Span x y z) = z

pub box_decides : (a b : Box3) → Decides (boxes.eq-value.it a b) (a ≡ b)
box_decides Empty Empty = (λ h. refl, λ e. refl)
box_decides Empty (Span x y z) = (λ h. cc, λ e. cc)
box_decides (Span x y z) Empty = (λ h. cc, λ e. cc)
box_decides (Span x y z) (Span x' y' z') =
    Decides-like _ (λ p. λ i. Span (p.0 i) (p.1.0 i) (p.1.1 i)) (λ e. (ap (x_in x) e, (ap (y_in y) e, ap (z_in z) e)))
    (Decides-and _ _ (extent_decides x x') (Decides-and _ _ (extent_decides y y') (extent_decides z z')))
