-- What the tree of a combination unites, one part after the other.
use Rattle.std.proofs.Common.{◌≡◌, ◌∙◌, ◌+◌, ◌≤◌, ◌<◌, ◌-◌, ◌==◌, ℕ, List, [], ◌∷◌, ◌++◌, length, map, refl, ap, sym, subst, arith, length-append, get_or, true}
use Rattle.std.specs.Prelude.{Some, All, cond}
use Rattle.std.specs.Option.{option_map}
use Rattle.std.proofs.lemmas.Bool.{ne_eqb}
use Rattle.std.proofs.lemmas.Bool.Decides.{Decides-eqb}
use Rattle.std.proofs.lemmas.List.{append-nil, get_or_append_left, get_or-append_right}
use Rattle.tree_forms.specs.declared.Op.TheVariants.{U, N, Minus, X}
use Rattle.tree_forms.specs.Trees.{Tree, Leaf, Join, postfix}
use Rattle.comb_tree.proofs.Reading.{comb_back}
use Rattle.name_core.specs.declared.name.Name.{Name}
use Rattle.region_attr.specs.declared.attr.Attr.{Attr}
use Rattle.comb_tree.specs.declared.node.CombNode.{CombNode}
use Rattle.comb_tree.specs.Nodes.{Member, comb_nodes, comb_of, leaf, apply}
use Rattle.object_set.specs.declared.object.Body.TheVariants as bodies
use Rattle.directory.specs.Walks.{Entries}
use Rattle.scene_prep.specs.declared.part.Part.{Part}
use Rattle.scene_prep.specs.Expanding.{expanded}
use Rattle.scene_prep.specs.Regions.{NamedRegion, node_region, placed_region, united_parts, regions_united, regions_of_name}
use Rattle.scene_prep.specs.Parts.{parts_from}
use Rattle.scene_prep.specs.Walking.{HasBody, node_of, own_of_object, own_of_body, own_region}

-- ---- what it unites
abbrev pub regions_from : Entries → ℕ → List (Tree Member) → List NamedRegion
regions_from directory number parts = regions_united (expanded directory) (regions_of_name directory) number parts

abbrev pub part_regions : Entries → ℕ → Tree Member → List NamedRegion
part_regions directory number part = regions_from directory number (part ∷ [])

abbrev pub united_regions : Entries → Tree Member → List NamedRegion
united_regions directory tree = regions_from directory 1 (united_parts tree)

-- a leaf has no number, and a node is the combination's of its number
abbrev pub IsNumbered : Entries → Name → Tree Member → ℕ → Type 0
IsNumbered directory comb (Leaf member) number = number ≡ 0
IsNumbered directory comb (Join op l r) number = (0 < number) × (own_region directory comb (Some number) ≡ Some (node_region (expanded directory) number (Join op l r)))

pub record IsPartOf (directory : Entries) (comb : Name) (part : Part) : Type 0 where
  pub tree : Tree Member
  pub nodes_are : comb_nodes (Some tree) ≡ part.nodes.now
  pub numbered : IsNumbered directory comb tree part.number

-- ---- lists
pub all_left : {A : Type 0} (P : A → Type 0) (xs ys : List A) → All P (xs ++ ys) → All P xs
all_left P xs ys h = λ k d lt. subst P (get_or_append_left xs ys d k lt) (h k d (omega (arith, length-append xs ys, lt)))

pub all_right : {A : Type 0} (P : A → Type 0) (xs ys : List A) → All P (xs ++ ys) → All P ys
all_right P xs ys h = λ k d lt.
    let less : length xs + k - length xs ≡ k = omega arith in
    subst P (get_or-append_right xs ys (length xs) (length xs + k) d refl (omega arith) ∙ ap (λ n. get_or ys n d) less) (h (length xs + k) d (omega (arith, length-append xs ys, lt)))

-- the nodes of each of the trees
abbrev pub EachTree : (CombNode → Type 0) → List (Tree Member) → Type 0
EachTree P [] = Unit {0}
EachTree P (part ∷ parts) = All P (comb_nodes (Some part)) × EachTree P parts

each-append : (P : CombNode → Type 0) (xs ys : List (Tree Member)) → EachTree P xs → EachTree P ys → EachTree P (xs ++ ys)
each-append P [] ys h k = k
each-append P (x ∷ xs) ys h k = (h.0, each-append P xs ys h.1 k)

pub each_united : (P : CombNode → Type 0) (t : Tree Member) → All P (postfix leaf apply t) → EachTree P (united_parts t)
each_united P (Leaf member) h = (h, tt)
each_united P (Join U l r) h =
    let right : All P (postfix leaf apply r ++ apply U ∷ []) = all_right P (postfix leaf apply l) (postfix leaf apply r ++ apply U ∷ []) h in
    each-append P (united_parts l) (united_parts r) (each_united P l (all_left P (postfix leaf apply l) (postfix leaf apply r ++ apply U ∷ []) h))
    (each_united P r (all_left P (postfix leaf apply r) (apply U ∷ []) right))
each_united P (Join N l r) h = (h, tt)
each_united P (Join Minus l r) h = (h, tt)
each_united P (Join X l r) h = (h, tt)

-- ---- one part
abbrev pub number_of : ℕ → Tree Member → ℕ
number_of number (Leaf member) = 0
number_of number (Join op l r) = number

abbrev pub number_after : ℕ → Tree Member → ℕ
number_after number (Leaf member) = number
number_after number (Join op l r) = number + 1

pub from_first : (number : ℕ) (part : Tree Member) (parts : List (Tree Member)) → parts_from number (part ∷ parts) ≡ (comb_nodes (Some part), number_of number part) ∷ parts_from (number_after number part) parts
from_first number (Leaf member) parts = refl
from_first number (Join op l r) parts = refl

pub after_more : (number : ℕ) (part : Tree Member) → number ≤ number_after number part
after_more number (Leaf member) = omega arith
after_more number (Join op l r) = omega arith

pub after_positive : (number : ℕ) (part : Tree Member) → 0 < number → 0 < number_after number part
after_positive number part some = omega (arith, after_more number part, some)

-- the nodes tell the tree
pub same_tree : (a b : Tree Member) → comb_nodes (Some a) ≡ comb_nodes (Some b) → a ≡ b
same_tree a b e =
    let same : Some a ≡ Some b = sym (comb_back (Some a)) ∙ ap comb_of e ∙ comb_back (Some b) in
    cc

pub regions_first : (directory : Entries) (number own : ℕ) (part : Tree Member) (parts : List (Tree Member)) → own ≡ number_of number part
    → regions_from directory number (part ∷ parts) ≡ part_regions directory own part ++ regions_from directory (number_after number part) parts
regions_first directory number own (Leaf member) parts is =
    ap (λ (rs : List NamedRegion). rs ++ regions_from directory number parts) (sym (append-nil (map (placed_region member.placement) (regions_of_name directory member.name))))
regions_first directory number own (Join op l r) parts is =
    ap (λ (n : ℕ). node_region (expanded directory) n (Join op l r) ∷ regions_from directory (number + 1) parts) (sym is)

pub own_first : (number : ℕ) (part : Tree Member) (parts : List (Tree Member)) (k : ℕ) → number_after number part ≤ k → node_of k number (part ∷ parts) ≡ node_of k (number_after number part) parts
own_first number (Leaf member) parts k le = refl
own_first number (Join op l r) parts k le = ap (λ b. cond b (Some (Join op l r)) (node_of k (number + 1) parts)) (ne_eqb k number (λ e. absurd (omega (arith, le, e))))

-- the region of a node is the combination's own
own_is : (directory : Entries) (comb : Name) (attr : Attr) (tree : Tree Member) (number : ℕ) → HasBody directory comb (bodies.Comb attr (Some tree))
    → (part : Tree Member) → node_of number 1 (united_parts tree) ≡ Some part → own_region directory comb (Some number) ≡ Some (node_region (expanded directory) number part)
own_is directory comb attr tree number there part is =
    ap (λ o. own_of_object (expanded directory) comb o (Some number)) there.there
    ∙ ap (λ b. own_of_body (expanded directory) comb b (Some number)) there.body_is
    ∙ ap (option_map (node_region (expanded directory) number)) is

pub numbered_part : (directory : Entries) (comb : Name) (attr : Attr) (tree : Tree Member) (number : ℕ) → HasBody directory comb (bodies.Comb attr (Some tree)) → (part : Tree Member) (rest : List (Tree Member))
    → ((k : ℕ) → number ≤ k → node_of k 1 (united_parts tree) ≡ node_of k number (part ∷ rest)) → 0 < number → (own : ℕ) → own ≡ number_of number part → IsNumbered directory comb part own
numbered_part directory comb attr tree number there (Leaf member) rest all positive own is = is
numbered_part directory comb attr tree number there (Join op l r) rest all positive own is =
    let same : (number == number) ≡ true = (Decides-eqb number number).1 refl in
    let here : node_of number 1 (united_parts tree) ≡ Some (Join op l r) = all number (omega arith) ∙ ap (λ b. cond b (Some (Join op l r)) (node_of number (number + 1) rest)) same in
    subst (λ (n : ℕ). IsNumbered directory comb (Join op l r) n) (sym is) (positive, own_is directory comb attr tree number there (Join op l r) here)
