-- One object as words: `put NAME TYPE KEY VALUE ..`. The first fault that holds is answered: the type, a key without a value,
-- and then in the order of the lists.
use Rattle.std.specs.Prelude.{◌≡◌, ℕ, ℤ, Bool, false, not, List, [], ◌∷◌, take, Option, None, Some, is_ok, Result, Ok, Err, codes, bytes_eq, if◌then◌else◌}
use Rattle.tcl_words.specs.TopWords.{atom_of}
use Rattle.tcl_words.specs.declared.token.Token.{Token}
use Rattle.tcl_words.specs.declared.token.Word.{Word}
use Rattle.name_core.specs.NameText.{read_name}
use Rattle.name_core.specs.declared.name.Name.{Name as NameOf}
use Rattle.plane_geom.specs.declared.fault.ShapeFault.{ShapeFault}
use Rattle.solid_set.specs.declared.solid.Solid.{Solid}
use Rattle.comb_tree.specs.Nodes.{Comb}
use Rattle.object_set.specs.Objects.{Parts}
use Rattle.object_set.specs.declared.object.Body.TheVariants as bodies
use Rattle.word_values.specs.Solids.{number_count, solid_made}
use Rattle.word_values.specs.SolidForms.{made_as}
use Rattle.word_values.specs.declared.solid_form.SolidForm.{SolidForm}
use Rattle.word_values.specs.declared.tree.TreeFault.{TreeFault}
use Rattle.word_values.specs.declared.tree.TreeFault.TheVariants as tree
use Rattle.put_form.specs.Kinds.{kind_of}
use Rattle.put_form.specs.Pairs.{Pair, pairs_of}
use Rattle.put_form.specs.Solids as solids
use Rattle.put_form.specs.Combs as combs
use Rattle.put_form.specs.declared.fault.PutFault.{PutFault}
use Rattle.put_form.specs.declared.fault.PutFault.TheVariants.{NoType, Attr, Tree, Name, Number, Shape}
use Rattle.put_form.specs.declared.kind.Kind.{Kind}
use Rattle.put_form.specs.declared.kind.Kind.TheVariants as kinds

-- a name and its object, or why there is none
abbrev pub Put : Type 0
Put = Result (NameOf × Parts) PutFault

-- the first fault that holds, else what was read
abbrev pub unless_fault : List (Option PutFault) → Put → Put
unless_fault [] put = put
unless_fault (Some fault ∷ rest) put = Err fault
unless_fault (None ∷ rest) put = unless_fault rest put

abbrev pub when : Bool → PutFault → Option PutFault
when holds fault = if holds then Some fault else None

-- the second word is no name, a group among them
abbrev pub name_fault : Option (List ℕ) → Option PutFault
name_fault None = Some (Name 2)
name_fault (Some name) = when (not (is_ok (read_name name))) (Name 2)

abbrev pub name_of : Option (List ℕ) → List ℕ
name_of None = []
name_of (Some name) = name

-- the number of a pair's value
abbrev pub number_fault : Option Pair → Option PutFault
number_fault None = None
number_fault (Some p) = Some (Number p.place)

abbrev pub solid_put : Option (List ℕ) → Result Solid ShapeFault → Put
solid_put name (Err fault) = Err (Shape fault)
solid_put name (Ok solid) = Ok (name_of name, record { body = bodies.Solid solid; kept = [] })

-- the numbers by the keys: of an ellipsoid, V and the first number of A are those of a sphere
abbrev pub solid_with : List ℕ → List Token → SolidForm → Option (List ℕ) → List Pair → Option (List (Option ℤ)) → Put
solid_with text tokens form name pairs None = Err Attr
solid_with text tokens form name pairs (Some numbers) =
    unless_fault (name_fault name ∷ number_fault (solids.bad_pair text tokens form pairs) ∷ [])
    (solid_put name (solid_made (made_as form) (take (number_count (made_as form)) numbers)))

-- a solid: its keys and the form of their values, its name, its numbers, its shape
abbrev pub solid_of : List ℕ → List Token → SolidForm → Option (List ℕ) → List Pair → Put
solid_of text tokens form name pairs = solid_with text tokens form name pairs (solids.numbers_of text tokens form pairs)

abbrev pub tree_fault : Result Comb TreeFault → Option PutFault
tree_fault (Err tree.Form) = Some Tree
tree_fault (Err tree.Name) = None
tree_fault (Err tree.Number) = None
tree_fault (Err TreeFault.Memory) = None
tree_fault (Ok comb) = None

abbrev pub place_of : Option Pair → ℕ
place_of None = 0
place_of (Some p) = p.place

-- a name in the tree, which is the word of this number, is none
abbrev pub member_fault : Result Comb TreeFault → ℕ → Option PutFault
member_fault (Err tree.Form) place = None
member_fault (Err tree.Name) place = Some (Name place)
member_fault (Err tree.Number) place = None
member_fault (Err TreeFault.Memory) place = None
member_fault (Ok comb) place = None

abbrev pub tree_or_none : Result Comb TreeFault → Comb
tree_or_none (Err fault) = None
tree_or_none (Ok comb) = comb

-- the tree that was found, in the word of this number
abbrev pub comb_with : List ℕ → List Token → Option (List ℕ) → List Pair → Result Comb TreeFault → ℕ → Put
comb_with text tokens name pairs found place =
    unless_fault (when (not (combs.has_keys pairs)) Attr ∷ tree_fault found ∷ name_fault name ∷ member_fault found place ∷ number_fault (combs.bad_pair text tokens pairs) ∷ [])
    (Ok (name_of name, record { body = bodies.Comb (combs.attr_of text tokens pairs) (tree_or_none found); kept = [] }))

-- a combination: its keys, its tree, its name, the names in its tree, its numbers
abbrev pub comb_of : List ℕ → List Token → Option (List ℕ) → List Pair → Put
comb_of text tokens name pairs = comb_with text tokens name pairs (combs.tree_in text tokens pairs) (place_of (combs.tree_pair pairs))

-- a type that is not known, then a key without a value, then what the type wants
abbrev pub kind_put : List ℕ → List Token → Option (List ℕ) → Option Kind → Option (List Pair) → Put
kind_put text tokens name None pairs = Err NoType
kind_put text tokens name (Some kind) None = Err Attr
kind_put text tokens name (Some (kinds.Solid form)) (Some pairs) = solid_of text tokens form name pairs
kind_put text tokens name (Some kinds.Comb) (Some pairs) = comb_of text tokens name pairs

abbrev pub kind_named : Option (List ℕ) → Option Kind
kind_named None = None
kind_named (Some word) = kind_of word

abbrev pub is_put : Option (List ℕ) → Bool
is_put None = false
is_put (Some word) = bytes_eq word (codes "put")

-- the words of a command: `put`, a name, a type, and then keys and values, whose first word is the fourth
abbrev pub put_of : List ℕ → List Token → List Word → Put
put_of text tokens (word ∷ name ∷ kind ∷ rest) =
    if is_put (atom_of text tokens word) then kind_put text tokens (atom_of text tokens name) (kind_named (atom_of text tokens kind)) (pairs_of text tokens 4 rest)
    else Err NoType
put_of text tokens _ = Err NoType

-- what a call gave is that object or that fault, unless memory ran out
abbrev pub IsPut : Put → List ℕ → List Token → List Word → Type 0
IsPut (Err PutFault.Memory) text tokens words = Unit {0}
IsPut (Ok put) text tokens words = put_of text tokens words ≡ Ok put
IsPut (Err fault) text tokens words = put_of text tokens words ≡ Err fault
