-- What the definitions come to at small objects, proved by computation. A name is one byte.
use Rattle.std.specs.Prelude.{◌≡◌, refl, ℕ, [], ◌∷◌, Some, true, false}
use Rattle.tree_forms.specs.declared.Op.TheVariants.{U, Minus}
use Rattle.tree_forms.specs.Trees.{Leaf, Join}
use Rattle.lattice_core.specs.declared.placement.Placement.{Placement}
use Rattle.tcl_words.specs.GroupText.{is_group_text}
use Rattle.comb_tree.specs.Nodes.{Comb, Member}
use Rattle.region_attr.specs.Attrs.{region_attr}
use Rattle.object_set.specs.declared.kept.KeptAttr.{KeptAttr}
use Rattle.object_set.specs.declared.object.Body.TheVariants.{Comb as Combination}
use Rattle.object_set.specs.Objects.{member_names}
use Rattle.object_set.specs.Keeping.{kept_after}
use Rattle.object_set.specs.Renaming.{renamed_body}

abbrev pair : ℕ → ℕ → KeptAttr
pair key value = record { name = key ∷ []; value = value ∷ [] }

-- a key that is there keeps its place and takes the new value, and another goes to the end
one_key_there : kept_after (pair 1 5 ∷ pair 2 6 ∷ []) (pair 3 7 ∷ pair 1 8 ∷ []) ≡ pair 1 8 ∷ pair 2 6 ∷ pair 3 7 ∷ []
one_key_there = refl

-- of one key that is given twice the later value stands, in the place of the first
one_key_twice : kept_after [] (pair 1 5 ∷ pair 2 6 ∷ pair 1 7 ∷ []) ≡ pair 1 7 ∷ pair 2 6 ∷ []
one_key_twice = refl

nothing_to_keep : kept_after (pair 1 5 ∷ []) [] ≡ pair 1 5 ∷ []
nothing_to_keep = refl

abbrev at : Placement → ℕ → Member
at p n = record { name = n ∷ []; placement = p }

-- 1 and 2 without 1
abbrev tree : Placement → ℕ → Comb
tree p n = Some (Join Minus (Join U (Leaf (at p n)) (Leaf (at p 2))) (Leaf (at p n)))

-- every leaf of the name is renamed, and no other
each_leaf_renamed : (p : Placement) → renamed_body (1 ∷ []) (3 ∷ []) (Combination region_attr (tree p 1)) ≡ Combination region_attr (tree p 3)
each_leaf_renamed p = refl

no_leaf_renamed : (p : Placement) → renamed_body (4 ∷ []) (3 ∷ []) (Combination region_attr (tree p 1)) ≡ Combination region_attr (tree p 1)
no_leaf_renamed p = refl

its_member_names : (p : Placement) → member_names (Combination region_attr (tree p 1)) ≡ (1 ∷ []) ∷ (2 ∷ []) ∷ (1 ∷ []) ∷ []
its_member_names p = refl

-- { a }, a group in it, and one that is not closed
blanks_are_text : is_group_text (32 ∷ 97 ∷ 32 ∷ []) ≡ true
blanks_are_text = refl

a_group_is_text : is_group_text (123 ∷ 97 ∷ 125 ∷ []) ≡ true
a_group_is_text = refl

an_open_group_is_none : is_group_text (123 ∷ 97 ∷ []) ≡ false
an_open_group_is_none = refl
