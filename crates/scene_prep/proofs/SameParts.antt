-- `==` on solids, and on the parts of bodies, says whether they are one.
use Rattle.std.proofs.Common.{◌≡◌, ◌∙◌, ◌&&◌, true, ℕ, ℤ, List, [], ◌∷◌, Bool, refl, ap, sym, map}
use Rattle.std.specs.Bool.{Decides}
use Rattle.std.specs.Cmp.Lexicographic.{pointwise}
use Rattle.std.proofs.lemmas.Bool.Decides.{Decides-eqb, Decides-int_eq, Decides-and, Decides-like, same_from_decides}
use Rattle.std.proofs.lemmas.Slice.Eq.{slice_eq-Decides}
use Rattle.lattice_core.specs.declared.vector.V3.{V3}
use Rattle.lattice_core.specs.contracts.vector.V3PartialEq.TheImpl as vectors
use Rattle.prim_arb8.specs.Solids.{EightVertices}
use Rattle.prim_sphere.specs.Spheres.{Ball}
use Rattle.prim_sphere.specs.contracts.sphere.SpherePartialEq.TheImpl as spheres
use Rattle.prim_half.specs.Halves.{HalfSpace}
use Rattle.prim_half.specs.contracts.half.HalfPartialEq.TheImpl as halves
use Rattle.prim_rcc.specs.Cylinders.{Cylinder}
use Rattle.prim_rcc.specs.contracts.rcc.RccPartialEq.TheImpl as cylinders
use Rattle.region_attr.specs.declared.attr.Rgb.{Rgb}
use Rattle.solid_set.proofs.Equal.{vector_decides, surface_decides, box_decides}
use Rattle.solid_set.specs.contracts.surface.SurfacePartialEq.TheImpl as surfaces
use Rattle.lattice_core.specs.contracts.boxes.Box3PartialEq.TheImpl as boxes
use Rattle.solid_set.specs.declared.placed.Placed.{Placed}
use Rattle.solid_set.specs.contracts.placed.PlacedPartialEq.TheImpl as placeds
use Rattle.bool_weave.specs.declared.mask.MaskNode.{MaskNode}
use Rattle.bool_weave.specs.declared.mask.MaskNode.TheVariants as node
use Rattle.bool_weave.specs.contracts.mask.MaskNodePartialEq.TheImpl as nodes
use Rattle.bool_weave.specs.Masks.{Mask, mask_of, mask_nodes}
use Rattle.bool_weave.proofs.Held.{mask_back}
use Rattle.shot_core.specs.Regions.{Instance, RegionBody}
use Rattle.shot_core.specs.Prepared.{instance_of}

pub list_decides : {A : Type 0} {E : A → A → Bool} → ((a b : A) → Decides (E a b) (a ≡ b)) → (xs ys : List A) → Decides (pointwise E xs ys) (xs ≡ ys)
list_decides each xs ys = slice_eq-Decides each xs ys _ refl

abbrev pub same_instance : Instance → Instance → Bool
same_instance a b = surfaces.eq-value.it a.surface b.surface && boxes.eq-value.it a.bounds b.bounds

pub same_vertices : (a b : EightVertices) → pointwise vectors.eq-value.it a.vertices b.vertices ≡ true → a ≡ b
same_vertices a b h = let e = (list_decides vector_decides a.vertices b.vertices).0 h in λ i. record { vertices = e i }

both_balls : (a b : Ball) → a.centre ≡ b.centre → a.radius ≡ b.radius → a ≡ b
both_balls a b p q = λ i. record { centre = p i; radius = q i }

ball_decides : (a b : Ball) → Decides (spheres.eq-value.it a b) (a ≡ b)
ball_decides a b =
    Decides-like _ (λ h. both_balls a b h.0 h.1) (λ e. (ap (λ (x : Ball). x.centre) e, ap (λ (x : Ball). x.radius) e))
    (Decides-and _ _ (vector_decides a.centre b.centre) (Decides-int_eq a.radius b.radius))

pub same_ball : (a b : Ball) → spheres.eq-value.it a b ≡ true → a ≡ b
same_ball a b h = (ball_decides a b).0 h

both_halves : (a b : HalfSpace) → a.normal ≡ b.normal → a.distance ≡ b.distance → a ≡ b
both_halves a b p q = λ i. record { normal = p i; distance = q i }

half_decides : (a b : HalfSpace) → Decides (halves.eq-value.it a b) (a ≡ b)
half_decides a b =
    Decides-like _ (λ h. both_halves a b h.0 h.1) (λ e. (ap (λ (x : HalfSpace). x.normal) e, ap (λ (x : HalfSpace). x.distance) e))
    (Decides-and _ _ (vector_decides a.normal b.normal) (Decides-int_eq a.distance b.distance))

pub same_half : (a b : HalfSpace) → halves.eq-value.it a b ≡ true → a ≡ b
same_half a b h = (half_decides a b).0 h

both_cylinders : (a b : Cylinder) → a.base ≡ b.base → a.height ≡ b.height → a.radius ≡ b.radius → a ≡ b
both_cylinders a b p q r = λ i. record { base = p i; height = q i; radius = r i }

cylinder_decides : (a b : Cylinder) → Decides (cylinders.eq-value.it a b) (a ≡ b)
cylinder_decides a b =
    Decides-like _ (λ h. both_cylinders a b h.0 h.1.0 h.1.1) (λ e. (ap (λ (x : Cylinder). x.base) e, (ap (λ (x : Cylinder). x.height) e, ap (λ (x : Cylinder). x.radius) e)))
    (Decides-and _ _ (vector_decides a.base b.base) (Decides-and _ _ (vector_decides a.height b.height) (Decides-int_eq a.radius b.radius)))

pub same_cylinder : (a b : Cylinder) → cylinders.eq-value.it a b ≡ true → a ≡ b
same_cylinder a b h = (cylinder_decides a b).0 h

number_in : ℕ → MaskNode → ℕ
number_in other (node.Leaf n) = n
number_in other node.Never = other
number_in other node.U = other
number_in other node.N = other
number_in other node.Minus = other
number_in other node.X = other

leaf_decides : (n m : ℕ) → Decides (nodes.eq-value.it (node.Leaf n) (node.Leaf m)) (node.Leaf n ≡ node.Leaf m)
unfolding number_in
leaf_decides n m = Decides-like _ (λ e. ap node.Leaf e) (λ e. ap (number_in n) e) (Decides-eqb n m)

node_decides : (a b : MaskNode) → Decides (nodes.eq-value.it a b) (a ≡ b)
node_decides (node.Leaf n) (node.Leaf m) = leaf_decides n m
node_decides (node.Leaf n) node.Never = (λ h. cc, λ e. cc)
node_decides (node.Leaf n) node.U = (λ h. cc, λ e. cc)
node_decides (node.Leaf n) node.N = (λ h. cc, λ e. cc)
node_decides (node.Leaf n) node.Minus = (λ h. cc, λ e. cc)
node_decides (node.Leaf n) node.X = (λ h. cc, λ e. cc)
node_decides node.Never (node.Leaf m) = (λ h. cc, λ e. cc)
node_decides node.Never node.Never = (λ h. cc, λ e. cc)
node_decides node.Never node.U = (λ h. cc, λ e. cc)
node_decides node.Never node.N = (λ h. cc, λ e. cc)
node_decides node.Never node.Minus = (λ h. cc, λ e. cc)
node_decides node.Never node.X = (λ h. cc, λ e. cc)
node_decides node.U (node.Leaf m) = (λ h. cc, λ e. cc)
node_decides node.U node.Never = (λ h. cc, λ e. cc)
node_decides node.U node.U = (λ h. cc, λ e. cc)
node_decides node.U node.N = (λ h. cc, λ e. cc)
node_decides node.U node.Minus = (λ h. cc, λ e. cc)
node_decides node.U node.X = (λ h. cc, λ e. cc)
node_decides node.N (node.Leaf m) = (λ h. cc, λ e. cc)
node_decides node.N node.Never = (λ h. cc, λ e. cc)
node_decides node.N node.U = (λ h. cc, λ e. cc)
node_decides node.N node.N = (λ h. cc, λ e. cc)
node_decides node.N node.Minus = (λ h. cc, λ e. cc)
node_decides node.N node.X = (λ h. cc, λ e. cc)
node_decides node.Minus (node.Leaf m) = (λ h. cc, λ e. cc)
node_decides node.Minus node.Never = (λ h. cc, λ e. cc)
node_decides node.Minus node.U = (λ h. cc, λ e. cc)
node_decides node.Minus node.N = (λ h. cc, λ e. cc)
node_decides node.Minus node.Minus = (λ h. cc, λ e. cc)
node_decides node.Minus node.X = (λ h. cc, λ e. cc)
node_decides node.X (node.Leaf m) = (λ h. cc, λ e. cc)
node_decides node.X node.Never = (λ h. cc, λ e. cc)
node_decides node.X node.U = (λ h. cc, λ e. cc)
node_decides node.X node.N = (λ h. cc, λ e. cc)
node_decides node.X node.Minus = (λ h. cc, λ e. cc)
node_decides node.X node.X = (λ h. cc, λ e. cc)

pub tree_decides : (a b : Mask) → Decides (pointwise nodes.eq-value.it (mask_nodes a) (mask_nodes b)) (a ≡ b)
tree_decides a b =
    Decides-like _ (λ e. sym (mask_back a) ∙ ap mask_of e ∙ mask_back b) (λ e. ap mask_nodes e) (list_decides node_decides (mask_nodes a) (mask_nodes b))

same_parts : (a b : Instance) → a.surface ≡ b.surface → a.bounds ≡ b.bounds → a ≡ b
same_parts a b p q = λ i. record { surface = p i; bounds = q i }

pub instance_decides : (a b : Instance) → Decides (same_instance a b) (a ≡ b)
instance_decides a b =
    Decides-like _ (λ h. same_parts a b h.0 h.1) (λ e. (ap (λ (x : Instance). x.surface) e, ap (λ (x : Instance). x.bounds) e))
    (Decides-and _ _ (surface_decides a.surface b.surface) (box_decides a.bounds b.bounds))

pub instances_are : (xs ys : List Placed) → pointwise placeds.eq-value.it xs ys ≡ pointwise same_instance (map instance_of xs) (map instance_of ys)
instances_are [] [] = refl
instances_are [] (y ∷ ys) = refl
instances_are (x ∷ xs) [] = refl
instances_are (x ∷ xs) (y ∷ ys) = ap (λ (b : Bool). same_instance (instance_of x) (instance_of y) && b) (instances_are xs ys)
