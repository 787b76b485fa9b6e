-- The name and the members of an object that was read, and the attributes that are kept, have no line feed.
use Rattle.std.proofs.Common.{All, ◌≡◌, ◌≢◌, ◌==◌, ◌&&◌, ◌+◌, ◌∷◌, ◌++◌, [], ℕ, ℤ, Bool, true, false, not, cond, find, nat_lt, List, length, map, take, Option, Some, None, is_some, Result, Ok, Err, is_ok, refl}
use Rattle.std.specs.List.{AllByRecursion, list_all, slice_range}
use Rattle.std.proofs.lemmas.Bool.{and_parts}
use Rattle.std.proofs.lemmas.List.Elements.{All-head, All-tail}
use Rattle.name_core.specs.NameText.{read_name}
use Rattle.name_core.proofs.NameLaws.{accepted}
use Rattle.transcript.specs.Lines.{Lacks}
use Rattle.tcl_words.specs.TopWords.{atom_of}
use Rattle.tcl_words.specs.declared.token.Token.{Token}
use Rattle.tcl_words.specs.declared.token.Word.{Word}
use Rattle.plane_geom.specs.declared.fault.ShapeFault.{ShapeFault}
use Rattle.solid_set.specs.declared.solid.Solid.{Solid}
use Rattle.tree_forms.specs.Trees.{Tree, Leaf, Join, leaves, map_leaves}
use Rattle.comb_tree.specs.Nodes.{Comb, members}
use Rattle.object_set.specs.declared.kept.KeptAttr.{KeptAttr}
use Rattle.object_set.specs.declared.object.Body.TheVariants as bodies
use Rattle.word_values.specs.Solids.{number_count, solid_made}
use Rattle.word_values.specs.SolidForms.{made_as}
use Rattle.word_values.specs.declared.solid_form.SolidForm.{SolidForm}
use Rattle.word_values.specs.Groups.{words_of_tokens}
use Rattle.word_values.specs.Trees as trees
use Rattle.word_values.specs.Trees.{Given, given_leaves, has_name, has_placement, member_of, members_in, most_leaves, tree_if, tree_of}
use Rattle.word_values.specs.declared.tree.TreeFault.{TreeFault}
use Rattle.word_values.specs.declared.tree.TreeFault.TheVariants as tree
use Rattle.put_form.specs.Keeps.{is_text, word_text, key_text, kept_attr, has_form, is_named, unnamed_at, kept_or, kept_of}
use Rattle.put_form.specs.Pairs.{Pair, pairs_of}
use Rattle.put_form.specs.Solids as solids
use Rattle.put_form.specs.Combs as combs
use Rattle.put_form.specs.Puts as puts
use Rattle.put_form.specs.Puts.{Put, unless_fault, when, name_of, solid_put, solid_with, comb_with, kind_named, kind_put, is_put, put_of}
use Rattle.put_form.specs.declared.fault.PutFault.{PutFault}
use Rattle.put_form.specs.declared.fault.PutFault.TheVariants as faults
use Rattle.put_form.specs.declared.kind.Kind.{Kind}
use Rattle.put_form.specs.declared.kind.Kind.TheVariants as kinds
use Rattle.put_form.proofs.ListLaws.{both}
use Rattle.put_form.proofs.KeepLaws.{text_value}
use Rattle.mged_words.specs.Readable.{ArePlainPairs, IsPlainObject}
use Rattle.put_form.proofs.MemberLaws.{AreNamed, both_named}
use Rattle.put_form.proofs.OneLine.{name_lacks}

-- the names in a tree that was read are names
abbrev IsNamedTree : Result Comb TreeFault → Type 0
IsNamedTree (Ok comb) = AreNamed (members comb)
IsNamedTree (Err fault) = Unit {0}

name_of_given : (g : Given) → has_name g ≡ true → Lacks 10 g.name
name_of_given g h = name_lacks g.name ((accepted g.name).0 h)

all_first : (xs ys : List Given) → list_all has_name (xs ++ ys) ≡ true → list_all has_name xs ≡ true
all_first [] ys h = refl
all_first (x ∷ xs) ys h = let e = and_parts (has_name x) (list_all has_name (xs ++ ys)) h in both (has_name x) (list_all has_name xs) e.0 (all_first xs ys e.1)

all_rest : (xs ys : List Given) → list_all has_name (xs ++ ys) ≡ true → list_all has_name ys ≡ true
all_rest [] ys h = h
all_rest (x ∷ xs) ys h = all_rest xs ys (and_parts (has_name x) (list_all has_name (xs ++ ys)) h).1

leaves_plain : (t : Tree Given) → list_all has_name (leaves t) ≡ true → AreNamed (leaves (map_leaves member_of t))
leaves_plain (Leaf g) h = (name_of_given g (and_parts (has_name g) true h).0, tt)
leaves_plain (Join op l r) h =
    both_named (leaves (map_leaves member_of l)) (leaves (map_leaves member_of r)) (leaves_plain l (all_first (leaves l) (leaves r) h)) (leaves_plain r (all_rest (leaves l) (leaves r) h))

given_plain : (t : Option (Tree Given)) → list_all has_name (given_leaves t) ≡ true → IsNamedTree (Ok (members_in t))
given_plain None h = tt
given_plain (Some t) h = leaves_plain t h

tree_by : (many named placed : Bool) (comb : Comb) → (named ≡ true → IsNamedTree (Ok comb))
    → IsNamedTree (cond many (Err tree.Form) (cond (not named) (Err tree.Name) (cond (not placed) (Err tree.Number) (Ok comb))))
tree_by true named placed comb k = tt
tree_by false false placed comb k = tt
tree_by false true false comb k = tt
tree_by false true true comb k = k refl

words_named : (t : Option (Option (Tree Given))) → IsNamedTree (tree_if t)
words_named None = tt
words_named (Some t) = tree_by (nat_lt most_leaves (length (given_leaves t))) (list_all has_name (given_leaves t)) (list_all has_placement (given_leaves t)) (members_in t) (given_plain t)

group_named : (t : Bool) (found : Result Comb TreeFault) → IsNamedTree found → IsNamedTree (cond t (Err tree.Form) found)
group_named true found h = tt
group_named false found h = h

pair_named : (text : List ℕ) (tokens : List Token) (pair : Option Pair) → IsNamedTree (combs.tree_given text tokens pair)
pair_named text tokens None = tt
pair_named text tokens (Some p) =
    let inner = words_of_tokens text (slice_range tokens ((p.value).first + 1) (p.value).last) in
    group_named ((p.value).first == (p.value).last) (tree_of inner) (words_named (trees.tree_in inner))

members_plain : (found : Result Comb TreeFault) → IsNamedTree found → AreNamed (members (puts.tree_or_none found))
members_plain (Ok comb) h = h
members_plain (Err fault) h = tt

-- where there is an object, its name and its members have no line feed
abbrev pub IsNamedPut : Put → Type 0
IsNamedPut (Ok made) = Lacks 10 made.0 × IsPlainObject made.1
IsNamedPut (Err fault) = Unit {0}

unless_named : (list : List (Option PutFault)) (put : Put) → (AllByRecursion (λ (f : Option PutFault). f ≡ None) list → IsNamedPut put) → IsNamedPut (unless_fault list put)
unless_named [] put k = k tt
unless_named (Some fault ∷ rest) put k = tt
unless_named (None ∷ rest) put k = unless_named rest put (λ all. k (refl, all))

fine : (t : Bool) (fault : PutFault) → when (not t) fault ≡ None → t ≡ true
fine true fault h = refl
fine false fault h = absurd cc

name_lines : (name : Option (List ℕ)) → puts.name_fault name ≡ None → Lacks 10 (name_of name)
name_lines None h = absurd cc
name_lines (Some name) h = name_lacks name ((accepted name).0 (fine (is_ok (read_name name)) (faults.Name 2) h))

made_named : (name : Option (List ℕ)) (made : Result Solid ShapeFault) → Lacks 10 (name_of name) → IsNamedPut (solid_put name made)
made_named name (Ok solid) h = (h, record { members = tt; kept = tt })
made_named name (Err fault) h = tt

numbers_named : (text : List ℕ) (tokens : List Token) (form : SolidForm) (name : Option (List ℕ)) (pairs : List Pair) (numbers : Option (List (Option ℤ))) → IsNamedPut (solid_with text tokens form name pairs numbers)
numbers_named text tokens form name pairs None = tt
numbers_named text tokens form name pairs (Some numbers) =
    let made : Result Solid ShapeFault = solid_made (made_as form) (take (number_count (made_as form)) numbers) in
    unless_named (puts.name_fault name ∷ puts.number_fault (solids.bad_pair text tokens form pairs) ∷ []) (solid_put name made) (λ all. made_named name made (name_lines name all.0))

comb_named : (text : List ℕ) (tokens : List Token) (name : Option (List ℕ)) (pairs : List Pair) (found : Result Comb TreeFault) (place : ℕ) → IsNamedTree found → IsNamedPut (comb_with text tokens name pairs found place)
comb_named text tokens name pairs found place named =
    let put : Put = Ok (name_of name, record { body = bodies.Comb (combs.attr_of text tokens pairs) (puts.tree_or_none found); kept = [] }) in
    unless_named
    (when (not (combs.has_keys pairs)) faults.Attr ∷ puts.tree_fault found ∷ puts.name_fault name ∷ puts.member_fault found place ∷ puts.number_fault (combs.bad_pair text tokens pairs) ∷ []) put
    (λ all. (name_lines name all.1.1.0, record { members = members_plain found named; kept = tt }))

kind_put_named : (text : List ℕ) (tokens : List Token) (name : Option (List ℕ)) (kind : Option Kind) (pairs : Option (List Pair)) → IsNamedPut (kind_put text tokens name kind pairs)
kind_put_named text tokens name None pairs = tt
kind_put_named text tokens name (Some kind) None = tt
kind_put_named text tokens name (Some (kinds.Solid form)) (Some pairs) = numbers_named text tokens form name pairs (solids.numbers_of text tokens form pairs)
kind_put_named text tokens name (Some kinds.Comb) (Some pairs) = comb_named text tokens name pairs (combs.tree_in text tokens pairs) (puts.place_of (combs.tree_pair pairs)) (pair_named text tokens (combs.tree_pair pairs))

if_named : (t : Bool) (put : Put) (fault : PutFault) → IsNamedPut put → IsNamedPut (cond t put (Err fault))
if_named true put fault h = h
if_named false put fault h = tt

pub put_named : (text : List ℕ) (tokens : List Token) (words : List Word) → IsNamedPut (put_of text tokens words)
put_named text tokens [] = tt
put_named text tokens (word ∷ []) = tt
put_named text tokens (word ∷ name ∷ []) = tt
put_named text tokens (word ∷ name ∷ kind ∷ rest) =
    if_named (is_put (atom_of text tokens word)) (kind_put text tokens (atom_of text tokens name) (kind_named (atom_of text tokens kind)) (pairs_of text tokens 4 rest)) faults.NoType
    (kind_put_named text tokens (atom_of text tokens name) (kind_named (atom_of text tokens kind)) (pairs_of text tokens 4 rest))

-- attributes to be kept are texts under names
abbrev pub IsPlainKept : Result (List KeptAttr) PutFault → Type 0
IsPlainKept (Ok kept) = ArePlainPairs kept
IsPlainKept (Err fault) = Unit {0}

bytes_lack : (bytes : List ℕ) → All (λ b. b ≢ 10) bytes → Lacks 10 bytes
bytes_lack [] h = tt
bytes_lack (b ∷ bs) h = (All-head (λ x. x ≢ 10) b bs h, bytes_lack bs (All-tail (λ x. x ≢ 10) b bs h))

value_lacks : (text : List ℕ) (tokens : List Token) (p : Pair) → has_form text tokens p ≡ true → Lacks 10 (word_text text tokens p.value)
value_lacks text tokens p h =
    let value : List ℕ = word_text text tokens p.value in
    bytes_lack value (text_value value (and_parts (is_some p.key) (is_text value) h).1).one_line

key_lacks : (p : Pair) → is_named p ≡ true → Lacks 10 (key_text p.key)
key_lacks p h = name_lacks (key_text p.key) ((accepted (key_text p.key)).0 h)

no_more : (t : Bool) (p : Pair) (rest : Option Pair) → cond (not t) (Some p) rest ≡ None → (t ≡ true) × (rest ≡ None)
no_more true p rest h = (refl, h)
no_more false p rest h = absurd cc

pairs_plain : (text : List ℕ) (tokens : List Token) (pairs : List Pair) → list_all (has_form text tokens) pairs ≡ true → find (λ (p : Pair). not (is_named p)) pairs ≡ None → ArePlainPairs (map (kept_attr text tokens) pairs)
pairs_plain text tokens [] h k = tt
pairs_plain text tokens (p ∷ pairs) h k =
    let form = and_parts (has_form text tokens p) (list_all (has_form text tokens) pairs) h in
    let named = no_more (is_named p) p (find (λ (q : Pair). not (is_named q)) pairs) k in
    ((key_lacks p named.0, value_lacks text tokens p form.0), pairs_plain text tokens pairs form.1 named.1)

kept_by : (unnamed : Option Pair) (kept : List KeptAttr) → (unnamed ≡ None → ArePlainPairs kept) → IsPlainKept (kept_or (unnamed_at unnamed) kept)
kept_by None kept k = k refl
kept_by (Some p) kept k = tt

kept_if : (some formed : Bool) (kept : Result (List KeptAttr) PutFault) → (formed ≡ true → IsPlainKept kept) → IsPlainKept (cond (some && formed) kept (Err faults.Attr))
kept_if true true kept k = k refl
kept_if true false kept k = tt
kept_if false formed kept k = tt

pub kept_plain : (text : List ℕ) (tokens : List Token) (pairs : Option (List Pair)) → IsPlainKept (kept_of text tokens pairs)
kept_plain text tokens None = tt
kept_plain text tokens (Some pairs) =
    kept_if (not (length pairs == 0)) (list_all (has_form text tokens) pairs) (kept_or (unnamed_at (find (λ (p : Pair). not (is_named p)) pairs)) (map (kept_attr text tokens) pairs))
    (λ h. kept_by (find (λ (p : Pair). not (is_named p)) pairs) (map (kept_attr text tokens) pairs) (pairs_plain text tokens pairs h))
