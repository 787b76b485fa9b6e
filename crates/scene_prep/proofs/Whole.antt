-- The number of levels cuts nothing off in a sound directory.
use Rattle.std.proofs.Common.{◌≡◌, ◌∙◌, ◌+◌, ◌≤◌, ℕ, zero, suc, List, [], ◌∷◌, ◌++◌, map, refl, ap, sym, subst, arith, Bool, true, false}
use Rattle.std.specs.Prelude.{None, Some, Option, cond, sum_by, Contains}
use Rattle.std.proofs.lemmas.List.{map-append}
use Rattle.std.proofs.lemmas.List.Elements.{Contains-append_left, Contains-append_right}
use Rattle.std.proofs.lemmas.List.Sums.{sum_by-append}
use Rattle.tree_forms.specs.declared.Op.TheVariants.{U, N, Minus, X}
use Rattle.tree_forms.specs.Trees.{Tree, Leaf, Join, leaves}
use Rattle.name_core.specs.declared.name.Name.{Name}
use Rattle.region_attr.specs.declared.attr.Attr.{Attr}
use Rattle.comb_tree.specs.Nodes.{Member}
use Rattle.object_set.specs.declared.object.Body.{Body}
use Rattle.object_set.specs.declared.object.Body.TheVariants as bodies
use Rattle.object_set.specs.Objects.{Parts, member_names}
use Rattle.directory.specs.Walks.{Entries, object_of, members_of, body_weight, comb_weight, Refers, combinations, IsSound}
use Rattle.scene_prep.specs.Levels.{IsShallow}
use Rattle.scene_prep.specs.Solids.{Expanded, placed_tree}
use Rattle.scene_prep.specs.Expanding.{expanded, expanded_within, expanded_tree, expanded_body, expanded_object}
use Rattle.scene_prep.specs.Regions.{NamedRegion, within_comb, placed_region, whole_region, node_region, united_parts, regions_united, regions_of_body, regions_of_object, regions_within, regions_of_name}
use Rattle.scene_prep.specs.Sizes.{size_of_name, size_within, body_size, object_size}

pub member_shallow : (n : ℕ) (directory : Entries) (name : Name) (o : Parts) (b : Name) → object_of directory name ≡ Some o → body_weight o.body ≡ 1 → IsShallow directory (suc n) name → Contains (member_names o.body) b → IsShallow directory n b
member_shallow n directory name o b is weight shallow has w walk =
    let refers : Refers directory name b = subst (λ (p : Option Parts). Contains (members_of p) b) (sym is) has in
    let whole : comb_weight (object_of directory name) + combinations directory (b ∷ w) ≤ suc n = shallow (b ∷ w) (refers, walk) in
    let one : comb_weight (object_of directory name) ≡ 1 = ap comb_weight is ∙ weight in
    omega (arith, whole, one)

-- something holds of the name of each leaf
abbrev EachName : (Name → Type 0) → Tree Member → Type 0
EachName P (Leaf member) = P member.name
EachName P (Join op l r) = EachName P l × EachName P r

each_name : (P : Name → Type 0) (t : Tree Member) → ((b : Name) → Contains (map (λ m. m.name) (leaves t)) b → P b) → EachName P t
each_name P (Leaf member) h = h member.name (0, omega arith, refl)
each_name P (Join op l r) h =
    let parts : map (λ (m : Member). m.name) (leaves l ++ leaves r) ≡ map (λ m. m.name) (leaves l) ++ map (λ m. m.name) (leaves r) = map-append (λ m. m.name) (leaves l) (leaves r) in (
      each_name P l (λ b has. h b (subst (λ (xs : List Name). Contains xs b) (sym parts) (Contains-append_left (map (λ m. m.name) (leaves l)) (map (λ m. m.name) (leaves r)) b has))),
      each_name P r (λ b has. h b (subst (λ (xs : List Name). Contains xs b) (sym parts) (Contains-append_right (map (λ m. m.name) (leaves l)) (map (λ m. m.name) (leaves r)) b has))),
    )

-- so many levels and so many give a name the same tree, the same regions and the same size
pub record AreSame (directory : Entries) (n m : ℕ) (name : Name) : Type 0 where
  pub tree : expanded_within n directory name ≡ expanded_within m directory name
  pub regions : regions_within n directory name ≡ regions_within m directory name
  pub size : size_within n directory name ≡ size_within m directory name

tree_same : (directory : Entries) (n m : ℕ) (t : Tree Member) → EachName (AreSame directory n m) t → expanded_tree (expanded_within n directory) t ≡ expanded_tree (expanded_within m directory) t
tree_same directory n m (Leaf member) h = ap (placed_tree member.placement) h.tree
tree_same directory n m (Join op l r) h =
    ap (λ x. Join op x (expanded_tree (expanded_within n directory) r)) (tree_same directory n m l h.0)
    ∙ ap (λ x. Join op (expanded_tree (expanded_within m directory) l) x) (tree_same directory n m r h.1)

size_same : (directory : Entries) (n m : ℕ) (t : Tree Member) → EachName (AreSame directory n m) t → sum_by (λ member. size_within n directory member.name) (leaves t) ≡ sum_by (λ member. size_within m directory member.name) (leaves t)
size_same directory n m (Leaf member) h = ap (λ x. 0 + x) h.size
size_same directory n m (Join op l r) h =
    sum_by-append (λ member. size_within n directory member.name) (leaves l) (leaves r)
    ∙ ap (λ x. x + sum_by (λ member. size_within n directory member.name) (leaves r)) (size_same directory n m l h.0)
    ∙ ap (λ x. sum_by (λ member. size_within m directory member.name) (leaves l) + x) (size_same directory n m r h.1)
    ∙ sym (sum_by-append (λ member. size_within m directory member.name) (leaves l) (leaves r))

abbrev EachPart : (Name → Type 0) → List (Tree Member) → Type 0
EachPart P [] = Unit {0}
EachPart P (part ∷ parts) = EachName P part × EachPart P parts

parts-append : (P : Name → Type 0) (xs ys : List (Tree Member)) → EachPart P xs → EachPart P ys → EachPart P (xs ++ ys)
parts-append P [] ys h k = k
parts-append P (x ∷ xs) ys h k = (h.0, parts-append P xs ys h.1 k)

each_part : (P : Name → Type 0) (t : Tree Member) → EachName P t → EachPart P (united_parts t)
each_part P (Leaf member) h = (h, tt)
each_part P (Join U l r) h = parts-append P (united_parts l) (united_parts r) (each_part P l h.0) (each_part P r h.1)
each_part P (Join N l r) h = (h, tt)
each_part P (Join Minus l r) h = (h, tt)
each_part P (Join X l r) h = (h, tt)

parts_same : (directory : Entries) (n m number : ℕ) (parts : List (Tree Member)) → EachPart (AreSame directory n m) parts
    → regions_united (expanded_within n directory) (regions_within n directory) number parts ≡ regions_united (expanded_within m directory) (regions_within m directory) number parts
parts_same directory n m number [] h = refl
parts_same directory n m number (Leaf member ∷ parts) h =
    ap (λ xs. map (placed_region member.placement) xs ++ regions_united (expanded_within n directory) (regions_within n directory) number parts) h.0.regions
    ∙ ap (λ xs. map (placed_region member.placement) (regions_within m directory member.name) ++ xs) (parts_same directory n m number parts h.1)
parts_same directory n m number (Join op l r ∷ parts) h =
    ap (λ (t : Expanded). let region : NamedRegion = record { names = []; node = Some number; id = 0; air = 0; attrs = []; tree = t } in region ∷ regions_united (expanded_within n directory) (regions_within n directory) (number + 1) parts) (tree_same directory n m (Join op l r) h.0)
    ∙ ap (λ xs. node_region (expanded_within m directory) number (Join op l r) ∷ xs) (parts_same directory n m (number + 1) parts h.1)

choice_same : (directory : Entries) (n m : ℕ) (attr : Attr) (t : Tree Member) (marked : Bool) → EachName (AreSame directory n m) t
    → cond marked (whole_region (expanded_within n directory) attr t ∷ []) (regions_united (expanded_within n directory) (regions_within n directory) 1 (united_parts t))
    ≡ cond marked (whole_region (expanded_within m directory) attr t ∷ []) (regions_united (expanded_within m directory) (regions_within m directory) 1 (united_parts t))
choice_same directory n m attr t true h = ap (λ (x : Expanded). let region : NamedRegion = record { names = []; node = None; id = attr.id; air = attr.air; attrs = []; tree = x } in region ∷ []) (tree_same directory n m t h)
choice_same directory n m attr t false h = parts_same directory n m 1 (united_parts t) (each_part (AreSame directory n m) t h)

comb_same : (directory : Entries) (n m : ℕ) (name : Name) (attr : Attr) (t : Tree Member) (o : Parts) → object_of directory name ≡ Some o → o.body ≡ bodies.Comb attr (Some t) → EachName (AreSame directory n m) t → AreSame directory (suc n) (suc m) name
comb_same directory n m name attr t o is body h = record {
  tree = ap (expanded_object (expanded_within n directory)) is ∙ ap (expanded_body (expanded_within n directory)) body ∙ tree_same directory n m t h
      ∙ sym (ap (expanded_object (expanded_within m directory)) is ∙ ap (expanded_body (expanded_within m directory)) body);
  regions = ap (regions_of_object (expanded_within n directory) (regions_within n directory) name) is ∙ ap (regions_of_body (expanded_within n directory) (regions_within n directory) name) body
      ∙ ap (map (within_comb name attr)) (choice_same directory n m attr t attr.region h)
      ∙ sym (ap (regions_of_object (expanded_within m directory) (regions_within m directory) name) is ∙ ap (regions_of_body (expanded_within m directory) (regions_within m directory) name) body);
  size = ap (object_size (size_within n directory)) is ∙ ap (body_size (size_within n directory)) body ∙ size_same directory n m t h
      ∙ sym (ap (object_size (size_within m directory)) is ∙ ap (body_size (size_within m directory)) body);
}

-- where an object has no members the levels below it do not matter
plain_same : (directory : Entries) (n m : ℕ) (name : Name) (o : Option Parts) → object_of directory name ≡ o
    → expanded_object (expanded_within n directory) o ≡ expanded_object (expanded_within m directory) o
    → regions_of_object (expanded_within n directory) (regions_within n directory) name o ≡ regions_of_object (expanded_within m directory) (regions_within m directory) name o
    → object_size (size_within n directory) o ≡ object_size (size_within m directory) o → AreSame directory (suc n) (suc m) name
plain_same directory n m name o is tree regions size = record {
  tree = ap (expanded_object (expanded_within n directory)) is ∙ tree ∙ sym (ap (expanded_object (expanded_within m directory)) is);
  regions = ap (regions_of_object (expanded_within n directory) (regions_within n directory) name) is ∙ regions ∙ sym (ap (regions_of_object (expanded_within m directory) (regions_within m directory) name) is);
  size = ap (object_size (size_within n directory)) is ∙ size ∙ sym (ap (object_size (size_within m directory)) is);
}

body_same : (directory : Entries) (n m : ℕ) (name : Name) (o : Parts) (body : Body) → object_of directory name ≡ Some o → o.body ≡ body
    → ((b : Name) → Contains (member_names body) b → AreSame directory n m b) → AreSame directory (suc n) (suc m) name
body_same directory n m name o (bodies.Solid solid) is body h =
    plain_same directory n m name (Some o) is
    (ap (expanded_body (expanded_within n directory)) body ∙ sym (ap (expanded_body (expanded_within m directory)) body))
    (ap (regions_of_body (expanded_within n directory) (regions_within n directory) name) body ∙ sym (ap (regions_of_body (expanded_within m directory) (regions_within m directory) name) body))
    (ap (body_size (size_within n directory)) body ∙ sym (ap (body_size (size_within m directory)) body))
body_same directory n m name o (bodies.Comb attr None) is body h =
    plain_same directory n m name (Some o) is
    (ap (expanded_body (expanded_within n directory)) body ∙ sym (ap (expanded_body (expanded_within m directory)) body))
    (ap (regions_of_body (expanded_within n directory) (regions_within n directory) name) body ∙ sym (ap (regions_of_body (expanded_within m directory) (regions_within m directory) name) body))
    (ap (body_size (size_within n directory)) body ∙ sym (ap (body_size (size_within m directory)) body))
body_same directory n m name o (bodies.Comb attr (Some t)) is body h = comb_same directory n m name attr t o is body (each_name (AreSame directory n m) t h)

-- with no level left nothing is a combination
bottom_same : (directory : Entries) (m : ℕ) (name : Name) (o : Parts) (body : Body) → IsShallow directory 0 name → object_of directory name ≡ Some o → o.body ≡ body → AreSame directory 1 (suc m) name
bottom_same directory m name o (bodies.Solid solid) shallow is body = body_same directory 0 m name o (bodies.Solid solid) is body (λ b has. absurd (omega (arith, has.1)))
bottom_same directory m name o (bodies.Comb attr tree) shallow is body =
    let weight : comb_weight (object_of directory name) ≡ 1 = ap comb_weight is ∙ ap body_weight body in
    let none : comb_weight (object_of directory name) + 0 ≤ 0 = shallow [] (tt, tt) in
    absurd (omega (arith, weight, none))

-- a combination is one deeper than its members
below_same : (directory : Entries) (n m : ℕ) (name : Name) (o : Parts) (body : Body) → IsShallow directory (suc n) name → object_of directory name ≡ Some o → o.body ≡ body
    → ((b : Name) → IsShallow directory n b → AreSame directory (suc n) (suc m) b) → AreSame directory (suc (suc n)) (suc (suc m)) name
below_same directory n m name o (bodies.Solid solid) shallow is body h = body_same directory (suc n) (suc m) name o (bodies.Solid solid) is body (λ b has. absurd (omega (arith, has.1)))
below_same directory n m name o (bodies.Comb attr tree) shallow is body h =
    body_same directory (suc n) (suc m) name o (bodies.Comb attr tree) is body
    (λ b has. h b (member_shallow n directory name o b is (ap body_weight body) shallow (subst (λ (x : Body). Contains (member_names x) b) (sym body) has)))

of_object : (directory : Entries) (n m : ℕ) (name : Name) (o : Option Parts) → object_of directory name ≡ o → ((p : Parts) → object_of directory name ≡ Some p → AreSame directory (suc n) (suc m) name) → AreSame directory (suc n) (suc m) name
of_object directory n m name None is h = plain_same directory n m name None is refl refl refl
of_object directory n m name (Some o) is h = h o is

levels_same : (n m : ℕ) (directory : Entries) → n ≤ m → (name : Name) → IsShallow directory n name → AreSame directory (suc n) (suc m) name
levels_same zero m directory le name shallow = of_object directory 0 m name (object_of directory name) refl (λ o is. bottom_same directory m name o o.body shallow is refl)
levels_same (suc n) zero directory le name shallow = absurd (omega (arith, le))
levels_same (suc n) (suc m) directory le name shallow =
    of_object directory (suc n) (suc m) name (object_of directory name) refl (λ o is. below_same directory n m name o o.body shallow is refl (λ b h. levels_same n m directory (omega (arith, le)) b h))

sound_same : (directory : Entries) → IsSound directory → (name : Name) → AreSame directory 17 18 name
sound_same directory sound name = levels_same 16 17 directory (omega arith) name (λ w walk. sound.shallow (name ∷ w) walk)

pub trees_whole : (directory : Entries) → IsSound directory → (name : Name) → expanded directory name ≡ expanded_object (expanded directory) (object_of directory name)
unfolding expanded
trees_whole directory sound name = (sound_same directory sound name).tree

pub regions_whole : (directory : Entries) → IsSound directory → (name : Name) → regions_of_name directory name ≡ regions_of_object (expanded directory) (regions_of_name directory) name (object_of directory name)
unfolding expanded regions_of_name
regions_whole directory sound name = (sound_same directory sound name).regions

pub sizes_whole : (directory : Entries) → IsSound directory → (name : Name) → size_of_name directory name ≡ object_size (size_of_name directory) (object_of directory name)
unfolding size_of_name
sizes_whole directory sound name = (sound_same directory sound name).size
