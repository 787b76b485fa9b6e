-- The words of the code: combinations.
use Rattle.std.specs.Prelude.{◌≡◌, ◌≤◌, ◌&&◌, length, ℕ, Bool, true, false, List, [], ◌∷◌, All, Option, None, Some, Result, Ok, Err, if◌then◌else◌}
use Rattle.std.specs.List.{list_all}
use Rattle.tcl_words.specs.declared.token.Token.{Token}
use Rattle.tcl_words.specs.declared.token.Word.{Word}
use Rattle.region_attr.specs.Attrs.{with_value}
use Rattle.region_attr.specs.Keys.{key_of}
use Rattle.region_attr.specs.Ranges.{HasRanges}
use Rattle.region_attr.specs.declared.attr.Attr.{Attr}
use Rattle.region_attr.specs.declared.key.Key.{Key}
use Rattle.region_attr.specs.declared.key.Key.TheVariants.{Region, Id, Air, Los, Mater, Rgb, Inherit}
use Rattle.comb_tree.specs.Nodes.{Comb, Member, members}
use Rattle.lattice_core.specs.declared.limit.TheConstants.{COORD}
use Rattle.lattice_core.specs.Limits.{IsWithin}
use Rattle.word_values.specs.declared.tree.TreeFault.{TreeFault}
use Rattle.object_set.specs.declared.object.Body.TheVariants as bodies
use Rattle.put_form.specs.Pairs.{Pair, are_distinct}
use Rattle.put_form.specs.Combs.{is_comb_key, group_value, with_word, tree_at, has_numbers, attr_of, bad_pair}
use Rattle.put_form.specs.Puts.{Put, unless_fault, name_fault, number_fault, name_of}
use Rattle.put_form.specs.declared.fault.PutFault.{PutFault}
use Rattle.put_form.specs.declared.fault.PutFault.TheVariants.{Name}

-- each key is known, and none is given twice
abbrev pub are_keys : List Pair → Bool
are_keys pairs = list_all (λ (p : Pair). is_comb_key p.key) pairs && are_distinct pairs

-- the attributes with the one of a key set to an atom, or to a group
abbrev pub atom_set : Option Key → List ℕ → Attr → Option Attr
atom_set None atom attr = None
atom_set (Some key) atom attr = with_value key atom attr

abbrev pub group_set : Option Key → Option (List (List ℕ)) → Attr → Option Attr
group_set None words attr = None
group_set (Some key) words attr = group_value key words attr

abbrev pub word_set : List ℕ → List Token → Option Key → Word → Attr → Option Attr
word_set text tokens None value attr = None
word_set text tokens (Some key) value attr = with_word text tokens key value attr

-- the same of any pair: a tree changes nothing, where its numbers are fine
abbrev pub known_set : List ℕ → List Token → Bool → Option Key → Word → Attr → Option Attr
known_set text tokens fine None value attr = if fine then Some attr else None
known_set text tokens fine (Some key) value attr = with_word text tokens key value attr

abbrev pub pair_set : List ℕ → List Token → Bool → Option (List ℕ) → Word → Attr → Option Attr
pair_set text tokens fine None value attr = Some attr
pair_set text tokens fine (Some key) value attr = known_set text tokens fine (key_of key) value attr

-- whether the numbers of the tree of a pair are fine, where it is one
abbrev pub IsFine : List ℕ → List Token → Bool → Pair → Type 0
IsFine text tokens fine p = (key : List ℕ) → p.key ≡ Some key → key_of key ≡ None → has_numbers (tree_at text tokens p.value) ≡ fine

abbrev pub AreFine : List ℕ → List Token → Bool → List Pair → Type 0
AreFine text tokens fine pairs = All (IsFine text tokens fine) pairs

-- what a call gave is this tree or this fault, unless memory ran out
abbrev pub IsTreeFound : Result Comb TreeFault → Result Comb TreeFault → Type 0
IsTreeFound (Err TreeFault.Memory) found = Unit {0}
IsTreeFound (Ok tree) found = found ≡ Ok tree
IsTreeFound (Err fault) found = found ≡ Err fault

-- what a call gave are these attributes, or the first pair that is bad, unless memory ran out
abbrev pub AreAttrs : Result Attr PutFault → Option Pair → Attr → Type 0
AreAttrs (Err PutFault.Memory) bad attr = Unit {0}
AreAttrs (Ok made) bad attr = (bad ≡ None) × (made ≡ attr) × HasRanges made
AreAttrs (Err fault) bad attr = number_fault bad ≡ Some fault

-- the combination of a tree, where no word is bad
abbrev pub comb_put : List ℕ → List Token → Option (List ℕ) → List Pair → Comb → Put
comb_put text tokens name pairs tree =
    unless_fault (name_fault name ∷ number_fault (bad_pair text tokens pairs) ∷ []) (Ok (name_of name, record { body = bodies.Comb (attr_of text tokens pairs) tree; kept = [] }))

abbrev pub is_colour : Option Key → Bool
is_colour None = false
is_colour (Some Region) = false
is_colour (Some Id) = false
is_colour (Some Air) = false
is_colour (Some Los) = false
is_colour (Some Mater) = false
is_colour (Some Rgb) = true
is_colour (Some Inherit) = false

-- a tree whose leaves are few and near
pub record IsLawfulTree (tree : Comb) : Type 0 where
  pub few : length (members tree) ≤ 4096
  pub near : All (λ (m : Member). IsWithin COORD m.placement.shift) (members tree)

-- a tree with a name that is none
abbrev pub bad_member : Option (List ℕ) → ℕ → Put
bad_member name place = unless_fault (name_fault name ∷ Some (Name place) ∷ []) (Err (Name place))
