-- What the words that are still to be read add to what was read.
use Rattle.std.proofs.Common.{◌≡◌, ◌∙◌, ◌+◌, ◌==◌, ℕ, ℤ, suc, Bool, true, false, cond, List, [], ◌∷◌, ◌++◌, length, Option, Some, None, refl, ap, sym, arith, append_assoc, append-nil, length-append, zero-add, nat_lt}
use Rattle.std.specs.Option.{option_map}
use Rattle.std.specs.Result.{result_ok}
use Rattle.std.proofs.lemmas.Bool.{ltb-false, ne_eqb}
use Rattle.name_core.specs.declared.name.Name.{Name}
use Rattle.name_core.specs.NameText.{read_name}
use Rattle.tree_forms.specs.declared.Op.{Op}
use Rattle.tree_forms.specs.Stacks.{and_then}
use Rattle.tree_forms.specs.Trees.{Tree, postfix}
use Rattle.tcl_words.specs.declared.token.Kind.{Kind}
use Rattle.tcl_words.specs.declared.token.Kind.TheVariants as kinds
use Rattle.word_values.specs.Kinds.{number_as, kind_at, numbers_from, numbers_as}
use Rattle.word_values.specs.declared.atoms.NumberList.TheVariants as lists
use Rattle.word_values.specs.Groups.{Words, End, Atom, Group, atoms_of, with_token, innermost}
use Rattle.word_values.specs.Matrices.{identity, placement_read}
use Rattle.word_values.specs.Trees.{Given, is_leaf_word, operator_of, first_atom, given, given_if, leaf_after, joined_by, node_of, tree_in}
use Rattle.word_values.specs.Reading.{leaf_node, join_node, given_nodes, State, start, first_word, atom_at, open_at, close_at, side_ended, closing, token_at, next, nodes_at}
use Rattle.word_values.specs.declared.given.GivenNode.{GivenNode}
use Rattle.word_values.specs.declared.given.GivenNode.TheVariants as nodes
use Rattle.word_values.specs.declared.reading.Side.{Side}
use Rattle.word_values.specs.declared.reading.Side.TheVariants as sides
use Rattle.word_values.specs.declared.reading.Place.{Place}
use Rattle.word_values.specs.declared.reading.Place.TheVariants as places
use Rattle.word_values.specs.declared.reading.Lone.{Lone}
use Rattle.word_values.specs.declared.reading.Lone.TheVariants as lone

abbrev pub written : Tree Given → List GivenNode
written t = postfix leaf_node join_node t

-- the nodes where the sides that are open end as they must
abbrev pub resume : List GivenNode → List Side → List Words → Option (List GivenNode)
resume ns [] [] = Some ns
resume ns [] (w ∷ ws) = None
resume ns (side ∷ ss) [] = None
resume ns (sides.Left op ∷ ss) (Group right End ∷ ws) = and_then (λ t. resume ((ns ++ written t) ++ join_node op ∷ []) ss ws) (node_of right)
resume ns (sides.Left op ∷ ss) (w ∷ ws) = None
resume ns (sides.Right op ∷ ss) (End ∷ ws) = resume (ns ++ join_node op ∷ []) ss ws
resume ns (sides.Right op ∷ ss) (w ∷ ws) = None

abbrev pub after_node : List GivenNode → List Side → List Words → Option (Tree Given) → Option (List GivenNode)
after_node ns ss ws node = and_then (λ t. resume (ns ++ written t) ss ws) node

-- an atom as the number behind these
abbrev pub one_behind : List (Option ℤ) → List ℕ → Option ℤ
one_behind numbers atom = number_as (kind_at lists.Matrix (length numbers)) atom

-- behind a matrix, of which these numbers and these atoms were left
abbrev pub matrix_ends : List GivenNode → List Side → Option Name → List (Option ℤ) → Words → List Words → List (List ℕ) → Option (List GivenNode)
matrix_ends ns ss name numbers End ws atoms = cond (length numbers + length atoms == 16) (resume (ns ++ nodes.Leaf name (placement_read (numbers ++ numbers_from lists.Matrix (length numbers) atoms)) ∷ []) ss ws) None
matrix_ends ns ss name numbers (Atom atom rest) ws atoms = None
matrix_ends ns ss name numbers (Group inner rest) ws atoms = None

abbrev pub plain : Place → List GivenNode → List Side → Option Name → List (Option ℤ) → List Words → Option (List GivenNode)
plain places.Node ns ss name numbers [] = None
plain places.Node ns ss name numbers (w ∷ ws) = after_node ns ss ws (node_of w)
plain places.Name ns ss name numbers [] = None
plain places.Name ns ss name numbers (w ∷ ws) = after_node ns ss ws (leaf_after (first_atom w))
plain (places.Group side) ns ss name numbers [] = None
plain (places.Group side) ns ss name numbers (End ∷ ws) = None
plain (places.Group side) ns ss name numbers (Atom atom rest ∷ ws) = None
plain (places.Group side) ns ss name numbers (Group inner rest ∷ ws) = after_node ns (side ∷ ss) (rest ∷ ws) (node_of inner)
plain places.Matrix ns ss name numbers [] = None
plain places.Matrix ns ss name numbers (End ∷ ws) = resume (ns ++ nodes.Leaf name (Some identity) ∷ []) ss ws
plain places.Matrix ns ss name numbers (Atom atom rest ∷ ws) = None
plain places.Matrix ns ss name numbers (Group inner rest ∷ ws) = and_then (matrix_ends ns ss name [] rest ws) (atoms_of inner)
plain places.Number ns ss name numbers [] = None
plain places.Number ns ss name numbers (inner ∷ []) = None
plain places.Number ns ss name numbers (inner ∷ rest ∷ ws) = and_then (matrix_ends ns ss name numbers rest ws) (atoms_of inner)
plain places.End ns ss name numbers [] = None
plain places.End ns ss name numbers (End ∷ ws) = resume ns ss ws
plain places.End ns ss name numbers (Atom atom rest ∷ ws) = None
plain places.End ns ss name numbers (Group inner rest ∷ ws) = None

abbrev pub plain_of : State → List Words → Option (List GivenNode)
plain_of s levels = plain s.place s.nodes s.sides s.name s.numbers levels

-- a group of one atom counts as that atom
abbrev pub meaning : Lone → State → List Words → Option (List GivenNode)
meaning lone.No s levels = plain_of s levels
meaning lone.Opened s (Atom atom End ∷ w ∷ ws) = plain_of s (Atom atom w ∷ ws)
meaning lone.Opened s levels = None
meaning lone.Read s (End ∷ ws) = plain_of s ws
meaning lone.Read s levels = None

-- the nodes that are read in all, where so much was read and these levels are left
abbrev pub means : State → List Words → Option (List GivenNode)
means s levels = meaning s.lone s levels

abbrev st : List GivenNode → List Side → Option Name → List (Option ℤ) → Place → Lone → State
st ns ss name numbers place l = record { nodes = ns; sides = ss; name = name; numbers = numbers; place = place; lone = l }

never : {X Y : Type 0} (o : Option X) → and_then (λ (x : X). let y : Option Y = None in y) o ≡ None
never None = refl
never (Some x) = refl

then_mapped : {X Y Z : Type 0} (f : Y → Option Z) (g : X → Y) (o : Option X) → and_then f (option_map g o) ≡ and_then (λ x. f (g x)) o
then_mapped f g None = refl
then_mapped f g (Some x) = refl

then_if : {X Y : Type 0} (f : X → Option Y) (b : Bool) (x : X) → and_then f (cond b (Some x) None) ≡ cond b (f x) None
then_if f true x = refl
then_if f false x = refl

both_none : {X : Type 0} (b : Bool) → cond b (let o : Option X = None in o) None ≡ None
both_none true = refl
both_none false = refl

nothing_left : (p : Place) (ns : List GivenNode) (ss : List Side) (name : Option Name) (numbers : List (Option ℤ)) → plain p ns ss name numbers [] ≡ None
nothing_left places.Node ns ss name numbers = refl
nothing_left places.Name ns ss name numbers = refl
nothing_left (places.Group side) ns ss name numbers = refl
nothing_left places.Matrix ns ss name numbers = refl
nothing_left places.Number ns ss name numbers = refl
nothing_left places.End ns ss name numbers = refl

-- a closing brace ends the innermost side
side_closed : (ns : List GivenNode) (ss : List Side) (name : Option Name) (numbers : List (Option ℤ)) (p : Place) (w : Words) (ws : List Words)
    → resume ns ss (w ∷ ws) ≡ and_then (λ t. means t (w ∷ ws)) (side_ended ss (st ns ss name numbers p lone.No))
side_closed ns [] name numbers p w ws = refl
side_closed ns (sides.Left op ∷ ss) name numbers p End ws = refl
side_closed ns (sides.Left op ∷ ss) name numbers p (Atom atom rest) ws = refl
side_closed ns (sides.Left op ∷ ss) name numbers p (Group right End) ws = refl
side_closed ns (sides.Left op ∷ ss) name numbers p (Group right (Atom atom rest)) ws = sym (never (node_of right))
side_closed ns (sides.Left op ∷ ss) name numbers p (Group right (Group inner rest)) ws = sym (never (node_of right))
side_closed ns (sides.Right op ∷ ss) name numbers p End ws = refl
side_closed ns (sides.Right op ∷ ss) name numbers p (Atom atom rest) ws = refl
side_closed ns (sides.Right op ∷ ss) name numbers p (Group inner rest) ws = refl

-- the same of sixteen numbers
test_same : (b : Bool) (n k : ℕ) → nat_lt n 16 ≡ b → (n + suc k == 16) ≡ cond b ((n + 1) + k == 16) false
test_same true n k e = ap (λ (m : ℕ). m == 16) (let same : n + suc k ≡ (n + 1) + k = omega arith in same)
test_same false n k e = ne_eqb (n + suc k) 16 (λ h. omega (arith, h, ltb-false n 16 e))

-- a closing brace
closed : (p : Place) (ns : List GivenNode) (ss : List Side) (name : Option Name) (numbers : List (Option ℤ)) (w : Words) (ws : List Words)
    → plain p ns ss name numbers (End ∷ w ∷ ws) ≡ and_then (λ t. means t (w ∷ ws)) (close_at p (st ns ss name numbers p lone.No))
closed places.Node ns ss name numbers w ws = refl
closed places.Name ns ss name numbers w ws = refl
closed (places.Group side) ns ss name numbers w ws = refl
closed places.Matrix ns ss name numbers w ws = side_closed (ns ++ nodes.Leaf name (Some identity) ∷ []) ss name numbers places.Matrix w ws
closed places.End ns ss name numbers w ws = side_closed ns ss name numbers places.End w ws
closed places.Number ns ss name numbers End ws =
    ap (λ (n : ℕ). cond (n == 16) (resume (ns ++ nodes.Leaf name (placement_read (numbers ++ [])) ∷ []) ss ws) None) (let same : length numbers + 0 ≡ length numbers = omega arith in same)
    ∙ ap (λ (all : List (Option ℤ)). cond (length numbers == 16) (resume (ns ++ nodes.Leaf name (placement_read all) ∷ []) ss ws) None) (append-nil numbers)
    ∙ sym (then_if (λ t. means t (End ∷ ws)) (length numbers == 16) (st (ns ++ nodes.Leaf name (placement_read numbers) ∷ []) ss name numbers places.End lone.No))
closed places.Number ns ss name numbers (Atom atom rest) ws =
    sym (then_if (λ t. means t (Atom atom rest ∷ ws)) (length numbers == 16) (st (ns ++ nodes.Leaf name (placement_read numbers) ∷ []) ss name numbers places.End lone.No) ∙ both_none (length numbers == 16))
closed places.Number ns ss name numbers (Group inner rest) ws =
    sym (then_if (λ t. means t (Group inner rest ∷ ws)) (length numbers == 16) (st (ns ++ nodes.Leaf name (placement_read numbers) ∷ []) ss name numbers places.End lone.No) ∙ both_none (length numbers == 16))

-- an opening brace, with no group around it
opened_last : (s : State) (w : Words) → meaning lone.Opened s (w ∷ []) ≡ None
opened_last s End = refl
opened_last s (Atom atom End) = refl
opened_last s (Atom atom (Atom other rest)) = refl
opened_last s (Atom atom (Group inner rest)) = refl
opened_last s (Group inner rest) = refl

opened_alone : (p : Place) (ns : List GivenNode) (ss : List Side) (name : Option Name) (numbers : List (Option ℤ)) (w : Words)
    → None ≡ and_then (λ t. means t (w ∷ [])) (open_at p (st ns ss name numbers p lone.No))
opened_alone places.Node ns ss name numbers w = sym (opened_last (st ns ss name numbers places.Node lone.Opened) w)
opened_alone places.Name ns ss name numbers w = sym (opened_last (st ns ss name numbers places.Name lone.Opened) w)
opened_alone places.Number ns ss name numbers w = sym (opened_last (st ns ss name numbers places.Number lone.Opened) w)
opened_alone (places.Group side) ns ss name numbers w = sym (never (node_of w))
opened_alone places.Matrix ns ss name numbers w = refl
opened_alone places.End ns ss name numbers w = refl

-- a group of one atom is a node's first word as the atom is
lone_word : (atom : List ℕ) (w : Words) → node_of (Group (Atom atom End) w) ≡ node_of (Atom atom w)
lone_word atom End = refl
lone_word atom (Atom other rest) = refl
lone_word atom (Group left End) = refl
lone_word atom (Group left (Atom other rest)) = refl
lone_word atom (Group left (Group right End)) = refl
lone_word atom (Group left (Group right (Atom other rest))) = refl
lone_word atom (Group left (Group right (Group inner rest))) = refl

opened_node : (ns : List GivenNode) (ss : List Side) (name : Option Name) (numbers : List (Option ℤ)) (w v : Words) (ws : List Words)
    → after_node ns ss ws (node_of (Group w v)) ≡ meaning lone.Opened (st ns ss name numbers places.Node lone.Opened) (w ∷ v ∷ ws)
opened_node ns ss name numbers End v ws = refl
opened_node ns ss name numbers (Atom atom End) v ws = ap (after_node ns ss ws) (lone_word atom v)
opened_node ns ss name numbers (Atom atom (Atom other rest)) v ws = refl
opened_node ns ss name numbers (Atom atom (Group inner rest)) v ws = refl
opened_node ns ss name numbers (Group inner rest) v ws = refl

opened_name : (ns : List GivenNode) (ss : List Side) (name : Option Name) (numbers : List (Option ℤ)) (w v : Words) (ws : List Words)
    → after_node ns ss ws (leaf_after (first_atom (Group w v))) ≡ meaning lone.Opened (st ns ss name numbers places.Name lone.Opened) (w ∷ v ∷ ws)
opened_name ns ss name numbers End v ws = refl
opened_name ns ss name numbers (Atom atom End) v ws = refl
opened_name ns ss name numbers (Atom atom (Atom other rest)) v ws = refl
opened_name ns ss name numbers (Atom atom (Group inner rest)) v ws = refl
opened_name ns ss name numbers (Group inner rest) v ws = refl

opened_number : (ns : List GivenNode) (ss : List Side) (name : Option Name) (numbers : List (Option ℤ)) (w v : Words) (ws : List Words)
    → plain places.Number ns ss name numbers (Group w v ∷ ws) ≡ meaning lone.Opened (st ns ss name numbers places.Number lone.Opened) (w ∷ v ∷ ws)
opened_number ns ss name numbers End v [] = refl
opened_number ns ss name numbers End v (u ∷ ws) = refl
opened_number ns ss name numbers (Atom atom End) v [] = refl
opened_number ns ss name numbers (Atom atom End) v (u ∷ ws) = refl
opened_number ns ss name numbers (Atom atom (Atom other rest)) v [] = refl
opened_number ns ss name numbers (Atom atom (Atom other rest)) v (u ∷ ws) = refl
opened_number ns ss name numbers (Atom atom (Group inner rest)) v [] = refl
opened_number ns ss name numbers (Atom atom (Group inner rest)) v (u ∷ ws) = refl
opened_number ns ss name numbers (Group inner rest) v [] = refl
opened_number ns ss name numbers (Group inner rest) v (u ∷ ws) = refl

opened : (p : Place) (ns : List GivenNode) (ss : List Side) (name : Option Name) (numbers : List (Option ℤ)) (w v : Words) (ws : List Words)
    → plain p ns ss name numbers (Group w v ∷ ws) ≡ and_then (λ t. means t (w ∷ v ∷ ws)) (open_at p (st ns ss name numbers p lone.No))
opened places.Node ns ss name numbers w v ws = opened_node ns ss name numbers w v ws
opened places.Name ns ss name numbers w v ws = opened_name ns ss name numbers w v ws
opened places.Number ns ss name numbers w v ws = opened_number ns ss name numbers w v ws
opened (places.Group side) ns ss name numbers w v ws = refl
opened places.Matrix ns ss name numbers w v ws = refl
opened places.End ns ss name numbers w v ws = refl

-- an atom as the first word of a node
abbrev sides_of : Option Op → Words → Option (Tree Given)
sides_of op (Group left (Group right End)) = joined_by op (node_of left) (node_of right)
sides_of op w = None

twice : {X : Type 0} (b : Bool) (x y z : X) → cond b (cond b x y) z ≡ cond b x z
twice true x y z = refl
twice false x y z = refl

first_is : (atom : List ℕ) (w : Words) → node_of (Atom atom w) ≡ cond (is_leaf_word atom) (leaf_after (first_atom w)) (sides_of (operator_of atom) w)
first_is atom End = refl
first_is atom (Atom other rest) = refl
first_is atom (Group left End) = refl
first_is atom (Group left (Atom other rest)) = refl
first_is atom (Group left (Group right End)) = twice (is_leaf_word atom) (leaf_after (first_atom (Group left (Group right End)))) None (joined_by (operator_of atom) (node_of left) (node_of right))
first_is atom (Group left (Group right (Atom other rest))) = refl
first_is atom (Group left (Group right (Group inner rest))) = refl

no_sides : (w : Words) → sides_of None w ≡ None
no_sides End = refl
no_sides (Atom other rest) = refl
no_sides (Group left End) = refl
no_sides (Group left (Atom other rest)) = refl
no_sides (Group left (Group right End)) = refl
no_sides (Group left (Group right (Atom other rest))) = refl
no_sides (Group left (Group right (Group inner rest))) = refl

both_sides : (ns : List GivenNode) (ss : List Side) (op : Op) (ws : List Words) (left right : Option (Tree Given))
    → after_node ns ss ws (joined_by (Some op) left right) ≡ and_then (λ t. and_then (λ u. resume (((ns ++ written t) ++ written u) ++ join_node op ∷ []) ss ws) right) left
both_sides ns ss op ws None right = refl
both_sides ns ss op ws (Some t) None = refl
both_sides ns ss op ws (Some t) (Some u) =
    ap (λ (all : List GivenNode). resume all ss ws) (sym (append_assoc (ns ++ written t) (written u) (join_node op ∷ []) ∙ append_assoc ns (written t) (written u ++ join_node op ∷ [])))

two_sides : (ns : List GivenNode) (ss : List Side) (name : Option Name) (numbers : List (Option ℤ)) (op : Op) (w : Words) (ws : List Words)
    → after_node ns ss ws (sides_of (Some op) w) ≡ plain (places.Group (sides.Left op)) ns ss name numbers (w ∷ ws)
two_sides ns ss name numbers op End ws = refl
two_sides ns ss name numbers op (Atom other rest) ws = refl
two_sides ns ss name numbers op (Group left End) ws = sym (never (node_of left))
two_sides ns ss name numbers op (Group left (Atom other rest)) ws = sym (never (node_of left))
two_sides ns ss name numbers op (Group left (Group right End)) ws = both_sides ns ss op ws (node_of left) (node_of right)
two_sides ns ss name numbers op (Group left (Group right (Atom other rest))) ws = sym (never (node_of left))
two_sides ns ss name numbers op (Group left (Group right (Group inner rest))) ws = sym (never (node_of left))

node_by : (b : Bool) (op : Option Op) (ns : List GivenNode) (ss : List Side) (name : Option Name) (numbers : List (Option ℤ)) (w : Words) (ws : List Words) (p : Place) (l : Lone)
    → after_node ns ss ws (cond b (leaf_after (first_atom w)) (sides_of op w))
    ≡ and_then (λ t. plain_of t (w ∷ ws)) (option_map (λ place. st ns ss name numbers place l) (cond b (Some places.Name) (option_map (λ o. places.Group (sides.Left o)) op)))
node_by true op ns ss name numbers w ws p l = refl
node_by false None ns ss name numbers w ws p l = ap (after_node ns ss ws) (no_sides w)
node_by false (Some op) ns ss name numbers w ws p l = two_sides ns ss name numbers op w ws

-- an atom as a leaf's name
matrix_given : (o : Option (List (List ℕ))) (atom : List ℕ) (ns : List GivenNode) (ss : List Side) (ws : List Words)
    → after_node ns ss ws (given_if atom o) ≡ and_then (matrix_ends ns ss (result_ok (read_name atom)) [] End ws) o
matrix_given None atom ns ss ws = refl
matrix_given (Some atoms) atom ns ss ws =
    then_if (λ t. resume (ns ++ written t) ss ws) (length atoms == 16) (given atom (Some atoms))
    ∙ ap (λ (n : ℕ). cond (n == 16) (resume (ns ++ nodes.Leaf (result_ok (read_name atom)) (placement_read (numbers_as lists.Matrix atoms)) ∷ []) ss ws) None) (sym (zero-add (length atoms)))

named : (atom : List ℕ) (ns : List GivenNode) (ss : List Side) (name : Option Name) (numbers : List (Option ℤ)) (w : Words) (ws : List Words)
    → after_node ns ss ws (leaf_after (Some (atom, w))) ≡ plain places.Matrix ns ss (result_ok (read_name atom)) numbers (w ∷ ws)
named atom ns ss name numbers End ws = refl
named atom ns ss name numbers (Atom other rest) ws = refl
named atom ns ss name numbers (Group inner End) ws = matrix_given (atoms_of inner) atom ns ss ws
named atom ns ss name numbers (Group inner (Atom other rest)) ws = sym (never (atoms_of inner))
named atom ns ss name numbers (Group inner (Group next rest)) ws = sym (never (atoms_of inner))

-- an atom as a number
nested : {X : Type 0} (b t : Bool) (x : Option X) → cond (cond b t false) x None ≡ cond b (cond t x None) None
nested true t x = refl
nested false t x = refl

one_more : (xs : List (Option ℤ)) (x : Option ℤ) (k : ℕ) → (length xs + 1) + k ≡ length (xs ++ x ∷ []) + k
one_more xs x k = let more = length-append xs (x ∷ []) in omega (arith, more)

one_moved : (xs : List (Option ℤ)) (x : Option ℤ) (atoms : List (List ℕ)) → xs ++ (x ∷ numbers_from lists.Matrix (length xs + 1) atoms) ≡ (xs ++ x ∷ []) ++ numbers_from lists.Matrix (length (xs ++ x ∷ [])) atoms
one_moved xs x atoms =
    sym (append_assoc xs (x ∷ []) (numbers_from lists.Matrix (length xs + 1) atoms))
    ∙ ap (λ (n : ℕ). (xs ++ x ∷ []) ++ numbers_from lists.Matrix n atoms) (sym (length-append xs (x ∷ [])))

one_number : (b : Bool) (ns : List GivenNode) (ss : List Side) (name : Option Name) (numbers : List (Option ℤ)) (atom : List ℕ) (v : Words) (ws : List Words) (atoms : List (List ℕ))
    → nat_lt (length numbers) 16 ≡ b
    → matrix_ends ns ss name numbers v ws (atom ∷ atoms) ≡ cond b (matrix_ends ns ss name (numbers ++ one_behind numbers atom ∷ []) v ws atoms) None
one_number b ns ss name numbers atom End ws atoms e =
    let rest : Option (List GivenNode) = resume (ns ++ nodes.Leaf name (placement_read (numbers ++ numbers_from lists.Matrix (length numbers) (atom ∷ atoms))) ∷ []) ss ws in
    ap (λ (t : Bool). cond t rest None) (test_same b (length numbers) (length atoms) e)
    ∙ nested b ((length numbers + 1) + length atoms == 16) rest
    ∙ ap (λ (n : ℕ). cond b (cond (n == 16) rest None) None) (one_more numbers (one_behind numbers atom) (length atoms))
    ∙ ap (λ (all : List (Option ℤ)). cond b (cond (length (numbers ++ one_behind numbers atom ∷ []) + length atoms == 16) (resume (ns ++ nodes.Leaf name (placement_read all) ∷ []) ss ws) None) None)
    (one_moved numbers (one_behind numbers atom) atoms)
one_number b ns ss name numbers atom (Atom other rest) ws atoms e = sym (both_none b)
one_number b ns ss name numbers atom (Group inner rest) ws atoms e = sym (both_none b)

numbered : (o : Option (List (List ℕ))) (ns : List GivenNode) (ss : List Side) (name : Option Name) (numbers : List (Option ℤ)) (atom : List ℕ) (v : Words) (ws : List Words)
    → and_then (matrix_ends ns ss name numbers v ws) (option_map (λ atoms. atom ∷ atoms) o)
    ≡ cond (nat_lt (length numbers) 16) (and_then (matrix_ends ns ss name (numbers ++ one_behind numbers atom ∷ []) v ws) o) None
numbered None ns ss name numbers atom v ws = sym (both_none (nat_lt (length numbers) 16))
numbered (Some atoms) ns ss name numbers atom v ws = one_number (nat_lt (length numbers) 16) ns ss name numbers atom v ws atoms refl

-- an atom
atom_read : (p : Place) (ns : List GivenNode) (ss : List Side) (name : Option Name) (numbers : List (Option ℤ)) (l : Lone) (atom : List ℕ) (w : Words) (ws : List Words)
    → plain p ns ss name numbers (Atom atom w ∷ ws) ≡ and_then (λ t. plain_of t (w ∷ ws)) (atom_at p (st ns ss name numbers p l) atom)
atom_read places.Node ns ss name numbers l atom w ws = ap (after_node ns ss ws) (first_is atom w) ∙ node_by (is_leaf_word atom) (operator_of atom) ns ss name numbers w ws places.Node l
atom_read places.Name ns ss name numbers l atom w ws = named atom ns ss name numbers w ws
atom_read (places.Group side) ns ss name numbers l atom w ws = refl
atom_read places.Matrix ns ss name numbers l atom w ws = refl
atom_read places.End ns ss name numbers l atom w ws = refl
atom_read places.Number ns ss name numbers l atom w [] =
    sym (then_if (λ t. plain_of t (w ∷ [])) (nat_lt (length numbers) 16) (st ns ss name (numbers ++ one_behind numbers atom ∷ []) places.Number l) ∙ both_none (nat_lt (length numbers) 16))
atom_read places.Number ns ss name numbers l atom w (v ∷ ws) =
    numbered (atoms_of w) ns ss name numbers atom v ws
    ∙ sym (then_if (λ t. plain_of t (w ∷ v ∷ ws)) (nat_lt (length numbers) 16) (st ns ss name (numbers ++ one_behind numbers atom ∷ []) places.Number l))

-- an atom leaves open what is open
kept_if : {X Y : Type 0} (f g : X → Option Y) (b : Bool) (x : X) → f x ≡ g x → and_then f (cond b (Some x) None) ≡ and_then g (cond b (Some x) None)
kept_if f g true x e = e
kept_if f g false x e = refl

kept_mapped : {W X Y : Type 0} (f g : X → Option Y) (h : W → X) (o : Option W) → ((w : W) → f (h w) ≡ g (h w)) → and_then f (option_map h o) ≡ and_then g (option_map h o)
kept_mapped f g h None e = refl
kept_mapped f g h (Some w) e = e w

kept : {Y : Type 0} (p : Place) (s : State) (atom : List ℕ) (f g : State → Option Y) → ((t : State) → t.lone ≡ s.lone → f t ≡ g t) → and_then f (atom_at p s atom) ≡ and_then g (atom_at p s atom)
kept places.Node s atom f g e = kept_mapped f g (λ place. record s { place = place }) (first_word atom) (λ place. e (record s { place = place }) refl)
kept places.Name s atom f g e = e (record s { name = result_ok (read_name atom); place = places.Matrix }) refl
kept places.Number s atom f g e = kept_if f g (nat_lt (length s.numbers) 16) (record s { numbers = s.numbers ++ one_behind s.numbers atom ∷ [] }) (e (record s { numbers = s.numbers ++ one_behind s.numbers atom ∷ [] }) refl)
kept (places.Group side) s atom f g e = refl
kept places.Matrix s atom f g e = refl
kept places.End s atom f g e = refl

atom_plain : (s : State) (atom : List ℕ) (w : Words) (ws : List Words) → s.lone ≡ lone.No
    → plain_of s (Atom atom w ∷ ws) ≡ and_then (λ t. means t (w ∷ ws)) (atom_at s.place s atom)
atom_plain s atom w ws e =
    atom_read s.place s.nodes s.sides s.name s.numbers s.lone atom w ws
    ∙ kept s.place s atom (λ t. plain_of t (w ∷ ws)) (λ t. means t (w ∷ ws)) (λ t same. sym (ap (λ (l : Lone). meaning l t (w ∷ ws)) (same ∙ e)))

atom_lone : (s : State) (atom : List ℕ) (w : Words) (ws : List Words)
    → meaning lone.Opened s (Atom atom w ∷ ws) ≡ and_then (λ t. means (closing t) (w ∷ ws)) (atom_at s.place s atom)
atom_lone s atom End [] = sym (kept s.place s atom (λ t. means (closing t) (End ∷ [])) (λ t. None) (λ t same. nothing_left t.place t.nodes t.sides t.name t.numbers) ∙ never (atom_at s.place s atom))
atom_lone s atom End (v ∷ ws) = atom_read s.place s.nodes s.sides s.name s.numbers s.lone atom v ws
atom_lone s atom (Atom other rest) [] = sym (never (atom_at s.place s atom))
atom_lone s atom (Atom other rest) (v ∷ ws) = sym (never (atom_at s.place s atom))
atom_lone s atom (Group inner rest) [] = sym (never (atom_at s.place s atom))
atom_lone s atom (Group inner rest) (v ∷ ws) = sym (never (atom_at s.place s atom))

-- a token
step_by : (l : Lone) (k : Kind) (s : State) (bytes : List ℕ) (w : Words) (ws : List Words) → s.lone ≡ l
    → meaning l s (with_token k bytes (w ∷ ws)) ≡ and_then (λ t. means t (w ∷ ws)) (token_at l k s bytes)
step_by lone.No kinds.Atom s bytes w ws e = atom_plain s bytes w ws e
step_by lone.No kinds.Open s bytes w [] e =
    nothing_left s.place s.nodes s.sides s.name s.numbers ∙ opened_alone s.place s.nodes s.sides s.name s.numbers w
    ∙ ap (λ (l : Lone). and_then (λ t. means t (w ∷ [])) (open_at s.place (st s.nodes s.sides s.name s.numbers s.place l))) (sym e)
step_by lone.No kinds.Open s bytes w (v ∷ ws) e =
    opened s.place s.nodes s.sides s.name s.numbers w v ws
    ∙ ap (λ (l : Lone). and_then (λ t. means t (w ∷ v ∷ ws)) (open_at s.place (st s.nodes s.sides s.name s.numbers s.place l))) (sym e)
step_by lone.No kinds.Close s bytes w ws e =
    closed s.place s.nodes s.sides s.name s.numbers w ws
    ∙ ap (λ (l : Lone). and_then (λ t. means t (w ∷ ws)) (close_at s.place (st s.nodes s.sides s.name s.numbers s.place l))) (sym e)
step_by lone.Opened kinds.Atom s bytes w ws e = atom_lone s bytes w ws ∙ sym (then_mapped (λ t. means t (w ∷ ws)) closing (atom_at s.place s bytes))
step_by lone.Opened kinds.Open s bytes w [] e = refl
step_by lone.Opened kinds.Open s bytes w (v ∷ ws) e = refl
step_by lone.Opened kinds.Close s bytes w ws e = refl
step_by lone.Read kinds.Atom s bytes w ws e = refl
step_by lone.Read kinds.Open s bytes w [] e = refl
step_by lone.Read kinds.Open s bytes w (v ∷ ws) e = refl
step_by lone.Read kinds.Close s bytes w ws e = refl

pub step : (s : State) (k : Kind) (bytes : List ℕ) (w : Words) (ws : List Words) → means s (with_token k bytes (w ∷ ws)) ≡ and_then (λ t. means t (w ∷ ws)) (next s k bytes)
step s k bytes w ws = step_by s.lone k s bytes w ws refl

-- behind all tokens
ended_by : (l : Lone) (p : Place) (ss : List Side) (s : State) → meaning l (record s { place = p; sides = ss }) (End ∷ []) ≡ nodes_at l p ss s
ended_by lone.No places.Node ss s = refl
ended_by lone.No places.Name ss s = refl
ended_by lone.No (places.Group side) ss s = refl
ended_by lone.No places.Number ss s = refl
ended_by lone.No places.Matrix [] s = refl
ended_by lone.No places.Matrix (side ∷ ss) s = refl
ended_by lone.No places.End [] s = refl
ended_by lone.No places.End (side ∷ ss) s = refl
ended_by lone.Opened p ss s = refl
ended_by lone.Read p ss s = nothing_left p s.nodes ss s.name s.numbers

pub ended : (s : State) → means s (End ∷ []) ≡ nodes_at s.lone s.place s.sides s
ended s = ended_by s.lone s.place s.sides s

-- before all tokens
begun_by : (o : Option (Tree Given)) → and_then (λ t. resume ([] ++ written t) [] []) o ≡ option_map given_nodes (option_map (λ t. Some t) o)
begun_by None = refl
begun_by (Some t) = refl

begun : (w : Words) → ¬ (w ≡ End) → means start (w ∷ []) ≡ option_map given_nodes (tree_in w)
begun End some = absurd (some refl)
begun (Atom atom rest) some = begun_by (node_of (Atom atom rest))
begun (Group inner rest) some = begun_by (node_of (Group inner rest))

pub begun_one : (ws : List Words) → length ws ≡ 1 → ¬ (innermost ws ≡ End) → means start ws ≡ option_map given_nodes (tree_in (innermost ws))
begun_one [] one some = absurd (omega (arith, one))
begun_one (w ∷ []) one some = begun w some
begun_one (w ∷ v ∷ ws) one some = absurd (omega (arith, one))
