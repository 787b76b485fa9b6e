-- Combinations that are put: their attributes and their tree.
use Rattle.std.specs.Prelude.{ℕ, Bool, true, false, not, ◌&&◌, ◌||◌, ◌==◌, ◌+◌, List, [], ◌∷◌, length, Option, None, Some, is_some, Result, Ok, Err, codes, bytes_eq, find, if◌then◌else◌}
use Rattle.std.specs.List.{list_all, slice_range}
use Rattle.std.specs.Option.{option_map}
use Rattle.tcl_words.specs.TopWords.{atom_of}
use Rattle.tcl_words.specs.declared.token.Token.{Token}
use Rattle.tcl_words.specs.declared.token.Word.{Word}
use Rattle.region_attr.specs.Attrs.{with_value, group_attr}
use Rattle.region_attr.specs.Colours.{colour_of_parts}
use Rattle.region_attr.specs.Keys.{key_of}
use Rattle.region_attr.specs.declared.attr.Attr.{Attr}
use Rattle.region_attr.specs.declared.attr.Rgb.{Rgb as Colour}
use Rattle.region_attr.specs.declared.key.Key.{Key}
use Rattle.region_attr.specs.declared.key.Key.TheVariants.{Region, Id, Air, Los, Mater, Rgb, Inherit}
use Rattle.comb_tree.specs.Nodes.{Comb}
use Rattle.word_values.specs.Atoms.{words_in}
use Rattle.word_values.specs.Groups.{words_of_tokens}
use Rattle.word_values.specs.Trees.{tree_of}
use Rattle.word_values.specs.declared.tree.TreeFault.{TreeFault}
use Rattle.word_values.specs.declared.tree.TreeFault.TheVariants.{Form, Name, Number}
use Rattle.put_form.specs.Pairs.{Pair, pair_of, are_distinct}

abbrev pub is_tree_key : List ℕ → Bool
is_tree_key key = bytes_eq key (codes "tree")

abbrev pub is_comb_key : Option (List ℕ) → Bool
is_comb_key None = false
is_comb_key (Some key) = is_some (key_of key) || is_tree_key key

-- at least one key, each is known, and none is given twice
abbrev pub has_keys : List Pair → Bool
has_keys pairs = not (length pairs == 0) && list_all (λ (p : Pair). is_comb_key p.key) pairs && are_distinct pairs

-- a colour of three words
abbrev pub coloured : Option (List (List ℕ)) → Option Colour
coloured None = None
coloured (Some parts) = colour_of_parts parts

-- a value that is a group of other than one atom: only a colour has such ones
abbrev pub group_value : Key → Option (List (List ℕ)) → Attr → Option Attr
group_value Rgb words attr = option_map (λ v. record attr { rgb = Some v }) (coloured words)
group_value Region words attr = None
group_value Id words attr = None
group_value Air words attr = None
group_value Los words attr = None
group_value Mater words attr = None
group_value Inherit words attr = None

abbrev pub valued : Key → Option (List ℕ) → Option (List (List ℕ)) → Attr → Option Attr
valued key (Some atom) words attr = with_value key atom attr
valued key None words attr = group_value key words attr

-- the attributes with the one of a key set to a word's value, if it is a value of that one
abbrev pub with_word : List ℕ → List Token → Key → Word → Attr → Option Attr
with_word text tokens key value attr = valued key (atom_of text tokens value) (words_in text tokens value) attr

abbrev pub attr_or : Attr → Option Attr → Attr
attr_or attr None = attr
attr_or attr (Some changed) = changed

abbrev pub known_word : List ℕ → List Token → Option Key → Word → Attr → Attr
known_word text tokens None value attr = attr
known_word text tokens (Some key) value attr = attr_or attr (with_word text tokens key value attr)

abbrev pub with_key : List ℕ → List Token → Option (List ℕ) → Word → Attr → Attr
with_key text tokens None value attr = attr
with_key text tokens (Some key) value attr = known_word text tokens (key_of key) value attr

-- each attribute that is given, set in turn
abbrev pub attr_from : List ℕ → List Token → List Pair → Attr → Attr
attr_from text tokens [] attr = attr
attr_from text tokens (p ∷ rest) attr = attr_from text tokens rest (with_key text tokens p.key p.value attr)

-- the attributes that are given, and else region no, id, air, los and mater 0, no colour, inherit no
abbrev pub attr_of : List ℕ → List Token → List Pair → Attr
attr_of text tokens pairs = attr_from text tokens pairs group_attr

-- the tree of a value, which has to be a group
abbrev pub tree_at : List ℕ → List Token → Word → Result Comb TreeFault
tree_at text tokens w = if w.first == w.last then Err Form else tree_of (words_of_tokens text (slice_range tokens (w.first + 1) w.last))

-- the tree, the empty one where none is given
abbrev pub tree_given : List ℕ → List Token → Option Pair → Result Comb TreeFault
tree_given text tokens None = Ok None
tree_given text tokens (Some p) = tree_at text tokens p.value

abbrev pub tree_pair : List Pair → Option Pair
tree_pair pairs = pair_of (codes "tree") pairs

abbrev pub tree_in : List ℕ → List Token → List Pair → Result Comb TreeFault
tree_in text tokens pairs = tree_given text tokens (tree_pair pairs)

-- its matrices are placements; a tree with another fault is told by that one
abbrev pub has_numbers : Result Comb TreeFault → Bool
has_numbers (Ok tree) = true
has_numbers (Err Form) = true
has_numbers (Err Name) = true
has_numbers (Err Number) = false
has_numbers (Err TreeFault.Memory) = true

abbrev pub is_value : List ℕ → List Token → Option Key → Word → Bool
is_value text tokens None value = has_numbers (tree_at text tokens value)
is_value text tokens (Some key) value = is_some (with_word text tokens key value group_attr)

abbrev pub has_value : List ℕ → List Token → Option (List ℕ) → Word → Bool
has_value text tokens None value = true
has_value text tokens (Some key) value = is_value text tokens (key_of key) value

-- the first pair whose value is none of its attribute, or is a tree with a number out of its range, with a matrix that is no
-- placement, or with a shift over `COORD` in size
abbrev pub bad_pair : List ℕ → List Token → List Pair → Option Pair
bad_pair text tokens pairs = find (λ (p : Pair). not (has_value text tokens p.key p.value)) pairs
