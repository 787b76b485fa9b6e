-- `==` on names of tiles says whether they are one.
use Rattle.std.proofs.Common.{◌≡◌, ◌∙◌, ◌&&◌, ℕ, List, [], ◌∷◌, Bool, IsTrue, refl, ap, sym, map}
use Rattle.std.specs.Bool.{Decides}
use Rattle.std.specs.Cmp.{IsEquivalence, IsPartialEquivalence, partial_equiv_from_equiv}
use Rattle.std.specs.Cmp.Lexicographic.{pointwise}
use Rattle.std.proofs.lemmas.Bool.Decides.{Decides-eqb, Decides-int_eq, Decides-and, Decides-like, same_from_decides}
use Rattle.std.proofs.lemmas.Slice.Eq.{slice_eq-Decides}
use Rattle.region_attr.specs.declared.attr.Rgb.{Rgb}
use Rattle.region_attr.specs.contracts.attr.RgbPartialEq.TheImpl as colours
use Rattle.lattice_core.specs.declared.ray.Dir.{Dir}
use Rattle.lattice_core.specs.declared.ray.Dir.TheVariants.{PlusX, MinusX, PlusY, MinusY, PlusZ, MinusZ}
use Rattle.lattice_core.specs.declared.view.View.{View}
use Rattle.lattice_core.specs.contracts.ray.DirPartialEq.TheImpl as dirs
use Rattle.lattice_core.specs.contracts.view.ViewPartialEq.TheImpl as views
use Rattle.solid_set.specs.declared.placed.Placed.{Placed}
use Rattle.solid_set.specs.contracts.placed.PlacedPartialEq.TheImpl as placeds
use Rattle.solid_set.proofs.Equal.{vector_decides, surface_decides, box_decides}
use Rattle.bool_weave.specs.declared.mask.MaskNode.{MaskNode}
use Rattle.bool_weave.specs.declared.mask.MaskNode.TheVariants as node
use Rattle.bool_weave.specs.contracts.mask.MaskNodePartialEq.TheImpl as nodes
use Rattle.bool_weave.specs.Masks.{Mask, mask_of, mask_nodes}
use Rattle.bool_weave.proofs.Held.{mask_back}
use Rattle.shot_core.specs.Regions.{Instance, RegionBody}
use Rattle.shot_core.specs.Prepared.{instance_of}
use Rattle.tile_shot.specs.Named.{TileName}
use Rattle.tile_shot.specs.Same.{same_instance, same_body, same_name, digest_input}

same_rgb : (a b : Rgb) → a.r ≡ b.r → a.g ≡ b.g → a.b ≡ b.b → a ≡ b
same_rgb a b p q r = λ i. record { r = p i; g = q i; b = r i }

rgb_decides : (a b : Rgb) → Decides (colours.eq-value.it a b) (a ≡ b)
rgb_decides a b =
    Decides-like _ (λ h. same_rgb a b h.0 h.1.0 h.1.1) (λ e. (ap (λ (c : Rgb). c.r) e, (ap (λ (c : Rgb). c.g) e, ap (λ (c : Rgb). c.b) e)))
    (Decides-and _ _ (Decides-eqb a.r b.r) (Decides-and _ _ (Decides-eqb a.g b.g) (Decides-eqb a.b b.b)))

number_in : ℕ → MaskNode → ℕ
number_in other (node.Leaf n) = n
number_in other node.Never = other
number_in other node.U = other
number_in other node.N = other
number_in other node.Minus = other
number_in other node.X = other

leaf_decides : (n m : ℕ) → Decides (nodes.eq-value.it (node.Leaf n) (node.Leaf m)) (node.Leaf n ≡ node.Leaf m)
unfolding number_in
leaf_decides n m = Decides-like _ (λ e. ap node.Leaf e) (λ e. ap (number_in n) e) (Decides-eqb n m)

node_decides : (a b : MaskNode) → Decides (nodes.eq-value.it a b) (a ≡ b)
node_decides (node.Leaf n) (node.Leaf m) = leaf_decides n m
node_decides (node.Leaf n) node.Never = (λ h. cc, λ e. cc)
node_decides (node.Leaf n) node.U = (λ h. cc, λ e. cc)
node_decides (node.Leaf n) node.N = (λ h. cc, λ e. cc)
node_decides (node.Leaf n) node.Minus = (λ h. cc, λ e. cc)
node_decides (node.Leaf n) node.X = (λ h. cc, λ e. cc)
node_decides node.Never (node.Leaf m) = (λ h. cc, λ e. cc)
node_decides node.Never node.Never = (λ h. cc, λ e. cc)
node_decides node.Never node.U = (λ h. cc, λ e. cc)
node_decides node.Never node.N = (λ h. cc, λ e. cc)
node_decides node.Never node.Minus = (λ h. cc, λ e. cc)
node_decides node.Never node.X = (λ h. cc, λ e. cc)
node_decides node.U (node.Leaf m) = (λ h. cc, λ e. cc)
node_decides node.U node.Never = (λ h. cc, λ e. cc)
node_decides node.U node.U = (λ h. cc, λ e. cc)
node_decides node.U node.N = (λ h. cc, λ e. cc)
node_decides node.U node.Minus = (λ h. cc, λ e. cc)
node_decides node.U node.X = (λ h. cc, λ e. cc)
node_decides node.N (node.Leaf m) = (λ h. cc, λ e. cc)
node_decides node.N node.Never = (λ h. cc, λ e. cc)
node_decides node.N node.U = (λ h. cc, λ e. cc)
node_decides node.N node.N = (λ h. cc, λ e. cc)
node_decides node.N node.Minus = (λ h. cc, λ e. cc)
node_decides node.N node.X = (λ h. cc, λ e. cc)
node_decides node.Minus (node.Leaf m) = (λ h. cc, λ e. cc)
node_decides node.Minus node.Never = (λ h. cc, λ e. cc)
node_decides node.Minus node.U = (λ h. cc, λ e. cc)
node_decides node.Minus node.N = (λ h. cc, λ e. cc)
node_decides node.Minus node.Minus = (λ h. cc, λ e. cc)
node_decides node.Minus node.X = (λ h. cc, λ e. cc)
node_decides node.X (node.Leaf m) = (λ h. cc, λ e. cc)
node_decides node.X node.Never = (λ h. cc, λ e. cc)
node_decides node.X node.U = (λ h. cc, λ e. cc)
node_decides node.X node.N = (λ h. cc, λ e. cc)
node_decides node.X node.Minus = (λ h. cc, λ e. cc)
node_decides node.X node.X = (λ h. cc, λ e. cc)

list_decides : {A : Type 0} {E : A → A → Bool} → ((a b : A) → Decides (E a b) (a ≡ b)) → (xs ys : List A) → Decides (pointwise E xs ys) (xs ≡ ys)
list_decides each xs ys = slice_eq-Decides each xs ys _ refl

tree_decides : (a b : Mask) → Decides (pointwise nodes.eq-value.it (mask_nodes a) (mask_nodes b)) (a ≡ b)
tree_decides a b =
    Decides-like _ (λ e. sym (mask_back a) ∙ ap mask_of e ∙ mask_back b) (λ e. ap mask_nodes e) (list_decides node_decides (mask_nodes a) (mask_nodes b))

same_parts : (a b : Instance) → a.surface ≡ b.surface → a.bounds ≡ b.bounds → a ≡ b
same_parts a b p q = λ i. record { surface = p i; bounds = q i }

instance_decides : (a b : Instance) → Decides (same_instance a b) (a ≡ b)
instance_decides a b =
    Decides-like _ (λ h. same_parts a b h.0 h.1) (λ e. (ap (λ (x : Instance). x.surface) e, ap (λ (x : Instance). x.bounds) e))
    (Decides-and _ _ (surface_decides a.surface b.surface) (box_decides a.bounds b.bounds))

same_bodies : (a b : RegionBody) → a.id ≡ b.id → a.air ≡ b.air → a.rgb ≡ b.rgb → a.tree ≡ b.tree → a.instances ≡ b.instances → a ≡ b
same_bodies a b p q r s t = λ i. record { id = p i; air = q i; rgb = r i; tree = s i; instances = t i }

pub body_decides : (a b : RegionBody) → Decides (same_body a b) (a ≡ b)
body_decides a b =
    Decides-like _ (λ h. same_bodies a b h.0 h.1.0 h.1.1.0 h.1.1.1.0 h.1.1.1.1)
    (λ e. (ap (λ (x : RegionBody). x.id) e, (ap (λ (x : RegionBody). x.air) e, (ap (λ (x : RegionBody). x.rgb) e, (ap (λ (x : RegionBody). x.tree) e, ap (λ (x : RegionBody). x.instances) e)))))
    (Decides-and _ _ (Decides-eqb a.id b.id)
    (Decides-and _ _ (Decides-eqb a.air b.air) (Decides-and _ _ (rgb_decides a.rgb b.rgb) (Decides-and _ _ (tree_decides a.tree b.tree) (list_decides instance_decides a.instances b.instances)))))

dir_decides : (a b : Dir) → Decides (dirs.eq-value.it a b) (a ≡ b)
dir_decides PlusX PlusX = (λ h. cc, λ e. cc)
dir_decides PlusX MinusX = (λ h. cc, λ e. cc)
dir_decides PlusX PlusY = (λ h. cc, λ e. cc)
dir_decides PlusX MinusY = (λ h. cc, λ e. cc)
dir_decides PlusX PlusZ = (λ h. cc, λ e. cc)
dir_decides PlusX MinusZ = (λ h. cc, λ e. cc)
dir_decides MinusX PlusX = (λ h. cc, λ e. cc)
dir_decides MinusX MinusX = (λ h. cc, λ e. cc)
dir_decides MinusX PlusY = (λ h. cc, λ e. cc)
dir_decides MinusX MinusY = (λ h. cc, λ e. cc)
dir_decides MinusX PlusZ = (λ h. cc, λ e. cc)
dir_decides MinusX MinusZ = (λ h. cc, λ e. cc)
dir_decides PlusY PlusX = (λ h. cc, λ e. cc)
dir_decides PlusY MinusX = (λ h. cc, λ e. cc)
dir_decides PlusY PlusY = (λ h. cc, λ e. cc)
dir_decides PlusY MinusY = (λ h. cc, λ e. cc)
dir_decides PlusY PlusZ = (λ h. cc, λ e. cc)
dir_decides PlusY MinusZ = (λ h. cc, λ e. cc)
dir_decides MinusY PlusX = (λ h. cc, λ e. cc)
dir_decides MinusY MinusX = (λ h. cc, λ e. cc)
dir_decides MinusY PlusY = (λ h. cc, λ e. cc)
dir_decides MinusY MinusY = (λ h. cc, λ e. cc)
dir_decides MinusY PlusZ = (λ h. cc, λ e. cc)
dir_decides MinusY MinusZ = (λ h. cc, λ e. cc)
dir_decides PlusZ PlusX = (λ h. cc, λ e. cc)
dir_decides PlusZ MinusX = (λ h. cc, λ e. cc)
dir_decides PlusZ PlusY = (λ h. cc, λ e. cc)
dir_decides PlusZ MinusY = (λ h. cc, λ e. cc)
dir_decides PlusZ PlusZ = (λ h. cc, λ e. cc)
dir_decides PlusZ MinusZ = (λ h. cc, λ e. cc)
dir_decides MinusZ PlusX = (λ h. cc, λ e. cc)
dir_decides MinusZ MinusX = (λ h. cc, λ e. cc)
dir_decides MinusZ PlusY = (λ h. cc, λ e. cc)
dir_decides MinusZ MinusY = (λ h. cc, λ e. cc)
dir_decides MinusZ PlusZ = (λ h. cc, λ e. cc)
dir_decides MinusZ MinusZ = (λ h. cc, λ e. cc)

same_view : (a b : View) → a.corner ≡ b.corner → a.dir ≡ b.dir → a.cell ≡ b.cell → a.w ≡ b.w → a.h ≡ b.h → a ≡ b
same_view a b p q r s t = λ i. record { corner = p i; dir = q i; cell = r i; w = s i; h = t i }

view_decides : (a b : View) → Decides (views.eq-value.it a b) (a ≡ b)
view_decides a b =
    Decides-like _ (λ h. same_view a b h.0 h.1.0 h.1.1.0 h.1.1.1.0 h.1.1.1.1)
    (λ e. (ap (λ (x : View). x.corner) e, (ap (λ (x : View). x.dir) e, (ap (λ (x : View). x.cell) e, (ap (λ (x : View). x.w) e, ap (λ (x : View). x.h) e)))))
    (Decides-and _ _ (vector_decides a.corner b.corner)
    (Decides-and _ _ (dir_decides a.dir b.dir) (Decides-and _ _ (Decides-int_eq a.cell b.cell) (Decides-and _ _ (Decides-eqb a.w b.w) (Decides-eqb a.h b.h)))))

same_key : (a b : TileName) → a.view ≡ b.view → a.tile ≡ b.tile → a.bodies ≡ b.bodies → a ≡ b
same_key a b p q r = λ i. record { view = p i; tile = q i; bodies = r i }

pub name_decides : (a b : TileName) → Decides (same_name a b) (a ≡ b)
name_decides a b =
    Decides-like _ (λ h. same_key a b h.0 h.1.0 h.1.1)
    (λ e. (ap (λ (x : TileName). x.view) e, (ap (λ (x : TileName). x.tile) e, ap (λ (x : TileName). x.bodies) e)))
    (Decides-and _ _ (view_decides a.view b.view) (Decides-and _ _ (Decides-eqb a.tile b.tile) (list_decides body_decides a.bodies b.bodies)))

pub name_equiv : IsEquivalence same_name
name_equiv = record {
  refl = λ a. (name_decides a a).1 refl;
  symm = λ a b. same_from_decides _ _ (name_decides a b) (Decides-like _ sym sym (name_decides b a));
  congr = λ a b c h. ap (λ (k : TileName). same_name k c) ((name_decides a b).0 h);
}

pub name_partial : IsPartialEquivalence same_name
name_partial = partial_equiv_from_equiv name_equiv

pub input_same : (a b : TileName) → IsTrue (same_name a b) → digest_input a ≡ digest_input b
input_same a b h = ap digest_input ((name_decides a b).0 h)

-- placed solids are compared as instances
pub instances_are : (xs ys : List Placed) → pointwise placeds.eq-value.it xs ys ≡ pointwise same_instance (map instance_of xs) (map instance_of ys)
instances_are [] [] = refl
instances_are [] (y ∷ ys) = refl
instances_are (x ∷ xs) [] = refl
instances_are (x ∷ xs) (y ∷ ys) = ap (λ (b : Bool). same_instance (instance_of x) (instance_of y) && b) (instances_are xs ys)
