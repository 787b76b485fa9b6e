-- Names, and lists of operators and members, among the words of a line.
use Rattle.std.proofs.Common.{◌≡◌, ◌<◌, ◌≤◌, ◌+◌, ◌++◌, ◌==◌, ◌∷◌, [], ◌∙◌, ℕ, Bool, true, false, cond, List, take, length, get_or, drop, map, Option, Some, None, is_some, is_ok, arith, ap, sym, refl, eqb-true, length-drop, append_assoc}
use Rattle.std.specs.Borrow.{Bor}
use Rattle.std.specs.Option.{option_map}
use Rattle.std.specs.Coded.{le_prop}
use mathlib.Core.HLevel.{Σ_prop_path}
use Rattle.std.proofs.lemmas.Bool.{cond-true, eqb-false}
use Rattle.std.proofs.lemmas.List.{drop_more, take_more, map-append, append-nil}
use Rattle.std.proofs.lemmas.List.Elements.{All-cons, All-append}
use Rattle.std.proofs.lemmas.Int.{ints}
use Rattle.lattice_core.specs.declared.turn.Turn.{Turn}
use Rattle.lattice_core.specs.declared.placement.Placement.{Placement}
use Rattle.lattice_core.specs.declared.limit.TheConstants.{COORD}
use Rattle.lattice_core.specs.Limits.{IsWithin}
use Rattle.lattice_core.specs.Vectors.{zero_vector}
use Rattle.name_core.specs.NameText.{read_name}
use Rattle.tree_forms.specs.declared.Op.{Op}
use Rattle.comb_tree.specs.declared.node.ListEntry.{ListEntry}
use Rattle.command_set.specs.Lawful.{AreNear}
use Rattle.command_set.specs.declared.refusal.Refusal.{Refusal}
use Rattle.command_set.specs.declared.refusal.Refusal.TheVariants.{Name}
use Rattle.mged_words.specs.Commands.{name_fault, names_fault, members_fault, operator_of, entry_of, entry_before, entries_of}
use Rattle.word_values.specs.Matrices.{identity}

pub named : (t : Bool) (refusal : Refusal) → cond t None (Some refusal) ≡ None → t ≡ true
named true refusal h = refl
named false refusal h = absurd cc

-- names
pub names_more : (atoms : List (Bor (List ℕ))) (word i : ℕ) (d : Bor (List ℕ)) → i < length atoms → name_fault (word + i) (get_or atoms i d).now ≡ None
    → names_fault (word + (i + 1)) 1 (map (λ (a : Bor (List ℕ)). a.now) (drop (i + 1) atoms)) ≡ names_fault (word + i) 1 (map (λ (a : Bor (List ℕ)). a.now) (drop i atoms))
names_more atoms word i d lt fine =
    let rest : List (List ℕ) = map (λ (a : Bor (List ℕ)). a.now) (drop (i + 1) atoms) in
    let atom : List ℕ = (get_or atoms i d).now in
    let sum : word + (i + 1) ≡ (word + i) + 1 = omega arith in
    let good : is_ok (read_name atom) ≡ true = named (is_ok (read_name atom)) (Name (word + i)) fine in
    ap (λ w. names_fault w 1 rest) sum
    ∙ sym (ap (λ (xs : List (Bor (List ℕ))). names_fault (word + i) 1 (map (λ (a : Bor (List ℕ)). a.now) xs)) (drop_more atoms i d lt)
    ∙ cond-true (is_ok (read_name atom)) (names_fault ((word + i) + 1) 1 rest) (Some (Name (word + i))) good)

pub names_read : (atoms : List (Bor (List ℕ))) (names : List (List ℕ)) (name : List ℕ) (i : ℕ) (d : Bor (List ℕ)) → i < length atoms → name ≡ (get_or atoms i d).now
    → names ≡ map (λ (a : Bor (List ℕ)). a.now) (take i atoms) → names ++ name ∷ [] ≡ map (λ (a : Bor (List ℕ)). a.now) (take (i + 1) atoms)
names_read atoms names name i d lt is h =
    let now : Bor (List ℕ) → List ℕ = λ a. a.now in
    ap (λ (xs : List (List ℕ)). xs ++ name ∷ []) h ∙ ap (λ (n : List ℕ). map now (take i atoms) ++ n ∷ []) is
    ∙ sym (ap (map now) (take_more atoms i d lt) ∙ map-append now (take i atoms) (get_or atoms i d ∷ []))

-- new members
turn_made : (n : ℕ) × (n < 48) → Turn
turn_made u = record { number = u.0; in_range = u.1 }

pub same_turn : (a b : Turn) → a.number ≡ b.number → a ≡ b
unfolding turn_made
same_turn a b e = ap turn_made (Σ_prop_path {B = λ n. n < 48} (λ n. le_prop) {u = (a.number, a.in_range)} {v = (b.number, b.in_range)} e)

pub same_placement : (a b : Placement) → a.turn ≡ b.turn → a.shift ≡ b.shift → a ≡ b
same_placement a b p q = λ i. record { turn = p i; shift = q i }

pub still : (by : Placement) → by.turn.number ≡ 0 → by.shift ≡ zero_vector → by ≡ identity
still by turn shift = same_placement by identity (same_turn by.turn identity.turn turn) shift

zero_near : IsWithin COORD zero_vector
zero_near = record { x = (omega (arith, ints), omega (arith, ints)); y = (omega (arith, ints), omega (arith, ints)); z = (omega (arith, ints), omega (arith, ints)) }

pub near_one : (op : Op) (name : List ℕ) → AreNear (entry_of op name ∷ [])
near_one op name = All-cons (λ (e : ListEntry). IsWithin COORD e.placement.shift) (entry_of op name) [] zero_near (λ i d lt. absurd (omega (arith, lt)))

pub near_more : (entries : List ListEntry) (op : Op) (name : List ℕ) → AreNear entries → AreNear (entries ++ entry_of op name ∷ [])
near_more entries op name near = All-append (λ (e : ListEntry). IsWithin COORD e.placement.shift) entries (entry_of op name ∷ []) near (near_one op name)

-- operators and members by turns
pub two_more : (ws : List (Bor (List ℕ))) (at : ℕ) (d : Bor (List ℕ)) → at + 1 < length ws
    → entries_of (map (λ (a : Bor (List ℕ)). a.now) (drop at ws))
    ≡ entry_before (operator_of (get_or ws at d).now) (get_or ws (at + 1) d).now (entries_of (map (λ (a : Bor (List ℕ)). a.now) (drop (at + 2) ws)))
two_more ws at d lt =
    let words : List (Bor (List ℕ)) → List (List ℕ) = map (λ (a : Bor (List ℕ)). a.now) in
    let sum : (at + 1) + 1 ≡ at + 2 = omega arith in
    let cut : drop at ws ≡ get_or ws at d ∷ get_or ws (at + 1) d ∷ drop (at + 2) ws =
    drop_more ws at d (omega (arith, lt)) ∙ ap (λ (xs : List (Bor (List ℕ))). get_or ws at d ∷ xs) (drop_more ws (at + 1) d lt)
    ∙ ap (λ n. get_or ws at d ∷ get_or ws (at + 1) d ∷ drop n ws) sum in
    ap (λ (xs : List (Bor (List ℕ))). entries_of (words xs)) cut

some_before : (o : Option Op) (name : List ℕ) (rest : Option (List ListEntry)) (op : Op) → o ≡ Some op → is_some (entry_before o name rest) ≡ is_some rest
some_before o name None op e = ap (λ (x : Option Op). is_some (entry_before x name None)) e
some_before o name (Some list) op e = ap (λ (x : Option Op). is_some (entry_before x name (Some list))) e

pub known_operator : (ws : List (Bor (List ℕ))) (at : ℕ) (d : Bor (List ℕ)) (op : Op) → at + 1 < length ws → operator_of (get_or ws at d).now ≡ Some op
    → is_some (entries_of (map (λ (a : Bor (List ℕ)). a.now) (drop (at + 2) ws))) ≡ is_some (entries_of (map (λ (a : Bor (List ℕ)). a.now) (drop at ws)))
known_operator ws at d op lt e =
    sym (ap is_some (two_more ws at d lt) ∙ some_before (operator_of (get_or ws at d).now) (get_or ws (at + 1) d).now (entries_of (map (λ (a : Bor (List ℕ)). a.now) (drop (at + 2) ws))) op e)

pub some_operator : (o : Option Op) → is_some o ≡ true → (op : Op) × (o ≡ Some op)
some_operator (Some op) h = (op, refl)
some_operator None h = absurd cc

pub none_operator : (o : Option Op) → is_some o ≡ false → o ≡ None
none_operator (Some op) h = absurd cc
none_operator None h = refl

pub unknown_operator : (ws : List (Bor (List ℕ))) (at : ℕ) (d : Bor (List ℕ)) → at + 1 < length ws → operator_of (get_or ws at d).now ≡ None
    → is_some (entries_of (map (λ (a : Bor (List ℕ)). a.now) (drop at ws))) ≡ false
unknown_operator ws at d lt e =
    let rest : Option (List ListEntry) = entries_of (map (λ (a : Bor (List ℕ)). a.now) (drop (at + 2) ws)) in
    ap is_some (two_more ws at d lt) ∙ ap (λ (o : Option Op). is_some (entry_before o (get_or ws (at + 1) d).now rest)) e

-- at most one word is left
few_left : (xs : List (Bor (List ℕ))) → length xs ≤ 1 → is_some (entries_of (map (λ (a : Bor (List ℕ)). a.now) xs)) ≡ (length xs == 0)
few_left [] h = refl
few_left (a ∷ []) h = refl
few_left (a ∷ b ∷ rest) h = absurd (omega (arith, h))

nothing_left : (xs : List (Bor (List ℕ))) → length xs ≤ 1 → is_some (entries_of (map (λ (a : Bor (List ℕ)). a.now) xs)) ≡ true → xs ≡ []
nothing_left [] h some = refl
nothing_left (a ∷ []) h some = absurd cc
nothing_left (a ∷ b ∷ rest) h some = absurd (omega (arith, h))

pub last_left : (ws : List (Bor (List ℕ))) (at : ℕ) → at ≤ length ws → length ws ≤ at + 1
    → (at == length ws) ≡ is_some (entries_of (map (λ (a : Bor (List ℕ)). a.now) (drop at ws)))
last_left ws at within end =
    let len : length (drop at ws) + at ≡ length ws = omega (arith, length-drop {A = Bor (List ℕ)} at ws, within) in
    same (at == length ws) (length (drop at ws) == 0) len refl refl ∙ sym (few_left (drop at ws) (omega (arith, len, end)))
  where
    same : (t u : Bool) → length (drop at ws) + at ≡ length ws → (at == length ws) ≡ t → (length (drop at ws) == 0) ≡ u → t ≡ u
    same true true len p q = refl
    same false false len p q = refl
    same true false len p q = absurd (omega (arith, len, eqb-true _ _ p, eqb-false _ _ q))
    same false true len p q = absurd (omega (arith, len, eqb-false _ _ p, eqb-true _ _ q))

pub all_left : (ws : List (Bor (List ℕ))) (at : ℕ) → at ≤ length ws → length ws ≤ at + 1 → is_some (entries_of (map (λ (a : Bor (List ℕ)). a.now) (drop at ws))) ≡ true → drop at ws ≡ []
all_left ws at within end some = nothing_left (drop at ws) (omega (arith, length-drop {A = Bor (List ℕ)} at ws, within, end)) some

-- one entry more
onto : List ListEntry → Option (List ListEntry) → Option (List ListEntry)
onto done rest = option_map (λ list. done ++ list) rest

entry_onto : (o : Option Op) (op : Op) (name : List ℕ) (rest : Option (List ListEntry)) (done : List ListEntry) → o ≡ Some op
    → option_map (λ list. (done ++ entry_of op name ∷ []) ++ list) rest ≡ option_map (λ list. done ++ list) (entry_before o name rest)
entry_onto o op name None done e = sym (ap (λ (x : Option Op). option_map (λ (list : List ListEntry). done ++ list) (entry_before x name None)) e)
entry_onto o op name (Some list) done e =
    ap (λ (l : List ListEntry). Some l) (append_assoc done (entry_of op name ∷ []) list)
    ∙ sym (ap (λ (x : Option Op). option_map (λ (l : List ListEntry). done ++ l) (entry_before x name (Some list))) e)

pub entries_more : (ws : List (Bor (List ℕ))) (at : ℕ) (d : Bor (List ℕ)) (op : Op) (name : List ℕ) (done : List ListEntry) → at + 1 < length ws → operator_of (get_or ws at d).now ≡ Some op → name ≡ (get_or ws (at + 1) d).now
    → option_map (λ list. (done ++ entry_of op name ∷ []) ++ list) (entries_of (map (λ (a : Bor (List ℕ)). a.now) (drop (at + 2) ws))) ≡ option_map (λ list. done ++ list) (entries_of (map (λ (a : Bor (List ℕ)). a.now) (drop at ws)))
entries_more ws at d op name done lt e is =
    let rest : Option (List ListEntry) = entries_of (map (λ (a : Bor (List ℕ)). a.now) (drop (at + 2) ws)) in
    entry_onto (operator_of (get_or ws at d).now) op name rest done e
    ∙ ap (λ (n : List ℕ). option_map (λ (l : List ListEntry). done ++ l) (entry_before (operator_of (get_or ws at d).now) n rest)) is
    ∙ sym (ap (λ (o : Option (List ListEntry)). option_map (λ (l : List ListEntry). done ++ l) o) (two_more ws at d lt))

pub entries_end : (ws : List (Bor (List ℕ))) (at : ℕ) (done : List ListEntry) (all : Option (List ListEntry)) → drop at ws ≡ []
    → option_map (λ list. done ++ list) (entries_of (map (λ (a : Bor (List ℕ)). a.now) (drop at ws))) ≡ all → all ≡ Some done
entries_end ws at done all none h =
    sym h ∙ ap (λ (xs : List (Bor (List ℕ))). option_map (λ (l : List ListEntry). done ++ l) (entries_of (map (λ (a : Bor (List ℕ)). a.now) xs))) none ∙ ap (λ (l : List ListEntry). Some l) (append-nil done)

fault_before : (word : ℕ) (o : Option Op) (op : Op) (name : List ℕ) (rest : Option (List ListEntry)) → o ≡ Some op → is_some rest ≡ true
    → members_fault word (entry_before o name rest) ≡ cond (is_ok (read_name name)) (members_fault (word + 2) rest) (Some (Name word))
fault_before word o op name None e some = absurd cc
fault_before word o op name (Some list) e some = ap (λ (x : Option Op). members_fault word (entry_before x name (Some list))) e

pub fault_here : (ws : List (Bor (List ℕ))) (at : ℕ) (d : Bor (List ℕ)) (op : Op) → at + 1 < length ws → operator_of (get_or ws at d).now ≡ Some op → is_some (entries_of (map (λ (a : Bor (List ℕ)). a.now) (drop at ws))) ≡ true
    → members_fault (at + 4) (entries_of (map (λ (a : Bor (List ℕ)). a.now) (drop at ws)))
    ≡ cond (is_ok (read_name (get_or ws (at + 1) d).now)) (members_fault ((at + 4) + 2) (entries_of (map (λ (a : Bor (List ℕ)). a.now) (drop (at + 2) ws)))) (Some (Name (at + 4)))
fault_here ws at d op lt e some =
    let rest : Option (List ListEntry) = entries_of (map (λ (a : Bor (List ℕ)). a.now) (drop (at + 2) ws)) in
    ap (members_fault (at + 4)) (two_more ws at d lt)
    ∙ fault_before (at + 4) (operator_of (get_or ws at d).now) op (get_or ws (at + 1) d).now rest e (known_operator ws at d op lt e ∙ some)

pub fault_more : (ws : List (Bor (List ℕ))) (at : ℕ) (d : Bor (List ℕ)) (op : Op) → at + 1 < length ws → operator_of (get_or ws at d).now ≡ Some op → is_some (entries_of (map (λ (a : Bor (List ℕ)). a.now) (drop at ws))) ≡ true
    → name_fault (at + 4) (get_or ws (at + 1) d).now ≡ None
    → members_fault ((at + 2) + 4) (entries_of (map (λ (a : Bor (List ℕ)). a.now) (drop (at + 2) ws))) ≡ members_fault (at + 4) (entries_of (map (λ (a : Bor (List ℕ)). a.now) (drop at ws)))
fault_more ws at d op lt e some fine =
    let rest : Option (List ListEntry) = entries_of (map (λ (a : Bor (List ℕ)). a.now) (drop (at + 2) ws)) in
    let atom : List ℕ = (get_or ws (at + 1) d).now in
    let sum : (at + 2) + 4 ≡ (at + 4) + 2 = omega arith in
    ap (λ w. members_fault w rest) sum
    ∙ sym (fault_here ws at d op lt e some ∙ cond-true (is_ok (read_name atom)) (members_fault ((at + 4) + 2) rest) (Some (Name (at + 4))) (named (is_ok (read_name atom)) (Name (at + 4)) fine))

pub unnamed : (t : Bool) (word : ℕ) (x : Option Refusal) (refusal : Refusal) → cond t None (Some (Name word)) ≡ Some refusal → cond t x (Some (Name word)) ≡ Some refusal
unnamed true word x refusal h = absurd cc
unnamed false word x refusal h = h

pub fault_found : (ws : List (Bor (List ℕ))) (at : ℕ) (d : Bor (List ℕ)) (op : Op) (refusal : Refusal) → at + 1 < length ws → operator_of (get_or ws at d).now ≡ Some op → is_some (entries_of (map (λ (a : Bor (List ℕ)). a.now) (drop at ws))) ≡ true
    → name_fault (at + 4) (get_or ws (at + 1) d).now ≡ Some refusal → members_fault (at + 4) (entries_of (map (λ (a : Bor (List ℕ)). a.now) (drop at ws))) ≡ Some refusal
fault_found ws at d op refusal lt e some bad =
    fault_here ws at d op lt e some ∙ unnamed (is_ok (read_name (get_or ws (at + 1) d).now)) (at + 4) _ refusal bad

pub fault_end : (ws : List (Bor (List ℕ))) (at : ℕ) → drop at ws ≡ [] → members_fault (at + 4) (entries_of (map (λ (a : Bor (List ℕ)). a.now) (drop at ws))) ≡ None
fault_end ws at none = ap (λ (xs : List (Bor (List ℕ))). members_fault (at + 4) (entries_of (map (λ (a : Bor (List ℕ)). a.now) xs))) none
