-- A line of words that are parted by single blanks has these words, and so each command of names alone has a line.
use Rattle.std.proofs.Common.{◌≡◌, ◌+◌, ◌-◌, ◌==◌, ◌∙◌, ◌++◌, ℕ, zero, suc, Bool, true, false, not, cond, List, [], ◌∷◌, length, take, drop, map, flat_map, get_or, codes, Option, Some, None, Ok, arith, refl, ap, sym, subst, get_or-drop, drop-drop}
use Rattle.std.specs.Prelude.{count_by, filter_map}
use Rattle.std.specs.List.{AllByRecursion, cons_option, prefix_len, range_with_len, slice_range}
use Rattle.std.specs.Option.{option_map}
use Rattle.std.proofs.lemmas.Bool.{eq-eqb}
use Rattle.std.proofs.lemmas.List.Sums.{sum_by-cons}
use Rattle.name_core.specs.NameText.{IsName}
use Rattle.name_core.proofs.NameLaws.{accepted}
use Rattle.tcl_words.specs.Pieces.{pieces, written_after}
use Rattle.tcl_words.specs.Reading.{reading, words_of}
use Rattle.tcl_words.specs.Tokens.{token, tokens_of}
use Rattle.tcl_words.specs.TopWords.{is_open_kind, opens, level, nth, word_last, word_at, top_words, atom_of}
use Rattle.tcl_words.specs.declared.token.Kind.TheVariants.{Open, Atom}
use Rattle.tcl_words.specs.declared.token.Token.{Token}
use Rattle.tcl_words.specs.declared.token.Word.{Word}
use Rattle.tcl_words.proofs.Fine.{fine_words}
use Rattle.tcl_words.proofs.Scan.{Piece, scanned}
use Rattle.tcl_words.proofs.Written.{Again, Good, GoodPiece, read_again}
use Rattle.tree_forms.specs.declared.Op.{Op}
use Rattle.tree_forms.specs.declared.Op.TheVariants.{U, N, Minus, X}
use Rattle.comb_tree.specs.Changes.{names_of}
use Rattle.comb_tree.specs.declared.node.ListEntry.{ListEntry}
use Rattle.word_values.specs.Atoms.{all_atoms, atoms_in}
use Rattle.command_set.specs.declared.command.Command.{Command}
use Rattle.command_set.specs.declared.command.Command.TheVariants.{Edit, Query}
use Rattle.command_set.specs.declared.command.Edit.TheVariants.{Region, Group, Remove, Kill, RenameAll}
use Rattle.command_set.specs.declared.command.Query.TheVariants.{List as Lines, Names, Tree, Save}
use Rattle.command_set.specs.declared.refusal.Refusal.{Refusal}
use Rattle.command_set.specs.declared.refusal.Refusal.TheVariants.{Name}
use Rattle.put_form.proofs.NameWords.{name_word, word_good}
use Rattle.mged_words.specs.Commands.{unless_refused, name_fault, names_fault, operator_of, entry_of, entry_before, entries_of, region_command, atom_command, with_atoms, named_command, worded_command, command_of_words, command_read, command_of}
use Rattle.mged_words.specs.OneLine.{AreNames, line_of, operator_word, Member, AreMembers, member_words, new_entry}

-- ---- names and operators are atoms

-- a word that is an atom
abbrev pub IsAtomWord : List ℕ → Type 0
IsAtomWord word = GoodPiece Atom word 0

pub name_good : (name : List ℕ) → IsName name → IsAtomWord name
name_good name is = word_good name 0 (name_word name is)

pub names_good : (names : List (List ℕ)) → AreNames names → AllByRecursion IsAtomWord names
names_good [] are = tt
names_good (name ∷ names) are = (name_good name are.0, names_good names are.1)

operator_good : (op : Op) → IsAtomWord (operator_word op)
operator_good U = (omega arith, (refl, refl, tt))
operator_good N = (omega arith, (refl, refl, tt))
operator_good Minus = (omega arith, (refl, refl, tt))
operator_good X = (omega arith, (refl, refl, tt))

members_good : (members : List Member) → AreMembers members → AllByRecursion IsAtomWord (member_words members)
members_good [] are = tt
members_good (m ∷ members) are = (operator_good m.0, (name_good m.1 are.0, members_good members are.1))

-- ---- such a line is read

abbrev pub atoms : List (List ℕ) → List Piece
atoms words = map (λ (w : List ℕ). (Atom, w)) words

all_good : (words : List (List ℕ)) → AllByRecursion IsAtomWord words → Good 0 (atoms words)
all_good [] h = refl
all_good (w ∷ words) h = (h.0, all_good words h.1)

behind_is : (words : List (List ℕ)) → flat_map (λ (other : List ℕ). 32 ∷ other) words ≡ written_after Atom (atoms words)
behind_is [] = refl
behind_is (w ∷ words) = ap (λ (xs : List ℕ). 32 ∷ (w ++ xs)) (behind_is words)

pub line_is : (word : List ℕ) (others : List (List ℕ)) → line_of word others ≡ written_after Open (atoms (word ∷ others))
line_is word others = ap (λ (xs : List ℕ). word ++ xs) (behind_is others)

pub record HasAtoms (line : List ℕ) (words : List (List ℕ)) : Type 0 where
  pub tokens : List Token
  pub read : words_of line ≡ Ok tokens
  pub are : pieces line tokens ≡ atoms words

pub line_read : (line : List ℕ) (words : List (List ℕ)) → line ≡ written_after Open (atoms words) → AllByRecursion IsAtomWord words → HasAtoms line words
line_read line words is good =
    let again : Again 32 0 line (atoms words) = subst (λ (text : List ℕ). Again 32 0 text (atoms words)) (sym is) (read_again Open 32 0 (atoms words) (refl, refl) (all_good words good)) in
    record { tokens = tokens_of line; read = ap (λ f. reading f (tokens_of line)) (fine_words line again.0); are = scanned line ∙ again.1 }

-- ---- each atom is a word

abbrev no_piece : Piece
no_piece = (Open, [])

kind_here : (line : List ℕ) (t : Token) (ts : List Token) (w : List ℕ) (words : List (List ℕ)) → pieces line (t ∷ ts) ≡ atoms (w ∷ words) → t.kind ≡ Atom
kind_here line t ts w words are = ap (λ (ps : List Piece). (get_or ps 0 no_piece).0) are

pub text_here : (line : List ℕ) (t : Token) (ts : List Token) (w : List ℕ) (words : List (List ℕ)) → pieces line (t ∷ ts) ≡ atoms (w ∷ words) → slice_range line t.start t.end ≡ w
text_here line t ts w words are = ap (λ (ps : List Piece). (get_or ps 0 no_piece).1) are

pub rest_here : (line : List ℕ) (t : Token) (ts : List Token) (w : List ℕ) (words : List (List ℕ)) → pieces line (t ∷ ts) ≡ atoms (w ∷ words) → pieces line ts ≡ atoms words
rest_here line t ts w words are = ap (λ (ps : List Piece). drop 1 ps) are

none_open : (line : List ℕ) (ts : List Token) (words : List (List ℕ)) (i : ℕ) → pieces line ts ≡ atoms words → count_by opens (take i ts) ≡ 0
none_open line [] words zero are = refl
none_open line [] words (suc i) are = refl
none_open line (t ∷ ts) [] i are = absurd cc
none_open line (t ∷ ts) (w ∷ words) zero are = refl
none_open line (t ∷ ts) (w ∷ words) (suc i) are =
    let here : is_open_kind t.kind ≡ false = ap is_open_kind (kind_here line t ts w words are) in
    sum_by-cons (λ (x : Token). cond (opens x) 1 0) t (take i ts) ∙ ap (λ (b : Bool). cond b 1 0 + count_by opens (take i ts)) here ∙ ap (λ (n : ℕ). 0 + n) (none_open line ts words i (rest_here line t ts w words are))

level_none : (line : List ℕ) (ts : List Token) (words : List (List ℕ)) (i : ℕ) → pieces line ts ≡ atoms words → level ts i ≡ 0
level_none line ts words i are = omega (arith, none_open line ts words i are)

no_longer : (p : ℕ → Bool) (xs : List ℕ) → ((x : ℕ) → p x ≡ false) → prefix_len p xs ≡ 0
no_longer p [] h = refl
no_longer p (x ∷ xs) h = ap (λ (b : Bool). cond b (1 + prefix_len p xs) 0) (h x)

abbrev pub one_word : ℕ → Word
one_word i = record { first = i; last = i }

pub word_here : (line : List ℕ) (ts : List Token) (words : List (List ℕ)) (i : ℕ) → pieces line ts ≡ atoms words → word_at ts i ≡ Some (one_word i)
word_here line ts words i are =
    let last : word_last ts i ≡ i = ap (λ (n : ℕ). i + n) (no_longer (λ j. not (level ts (j + 1) == 0)) (range_with_len i (length ts - i)) (λ j. ap (λ (n : ℕ). not (n == 0)) (level_none line ts words (j + 1) are))) ∙ (let e : i + 0 ≡ i = omega arith in e) in
    ap (λ (n : ℕ). cond (n == 0) (Some (record { first = i; last = word_last ts i })) None) (level_none line ts words i are) ∙ ap (λ (n : ℕ). Some (record { first = i; last = n })) last

token_here : (ts : List Token) (i : ℕ) (t : Token) (rest : List Token) → drop i ts ≡ t ∷ rest → nth ts i ≡ t
token_here ts i t rest is = ap (λ (m : ℕ). get_or ts m (token Open 0 0)) (let e : i ≡ i + 0 = omega arith in e) ∙ sym (get_or-drop i ts 0 (token Open 0 0)) ∙ ap (λ (xs : List Token). get_or xs 0 (token Open 0 0)) is

atom_here : (line : List ℕ) (ts : List Token) (i : ℕ) (t : Token) (rest : List Token) → drop i ts ≡ t ∷ rest → atom_of line ts (one_word i) ≡ Some (slice_range line t.start t.end)
atom_here line ts i t rest is =
    let same : (i == i) ≡ true = eq-eqb i i refl in
    ap (λ (b : Bool). option_map (λ (u : Token). slice_range line u.start u.end) (cond b (Some (nth ts i)) (cond (i == i + 2) (Some (nth ts (i + 1))) None))) same
    ∙ ap (λ (u : Token). Some (slice_range line u.start u.end)) (token_here ts i t rest is)

pub atoms_from : (line : List ℕ) (all ts : List Token) (every words : List (List ℕ)) (i : ℕ) → pieces line all ≡ atoms every → drop i all ≡ ts → pieces line ts ≡ atoms words
    → map (atom_of line all) (filter_map (word_at all) (range_with_len i (length ts))) ≡ map (λ (w : List ℕ). Some w) words
atoms_from line all [] every [] i whole is are = refl
atoms_from line all [] every (w ∷ words) i whole is are = absurd cc
atoms_from line all (t ∷ ts) every [] i whole is are = absurd cc
atoms_from line all (t ∷ ts) every (w ∷ words) i whole is are =
    let others : List Word = filter_map (word_at all) (range_with_len (i + 1) (length ts)) in
    let next : drop (i + 1) all ≡ ts = sym (drop-drop 1 i all) ∙ ap (drop 1) is in
    ap (λ (o : Option Word). map (atom_of line all) (cons_option o others)) (word_here line all every i whole)
    ∙ ap (λ (o : Option (List ℕ)). o ∷ map (atom_of line all) others) (atom_here line all i t ts is ∙ ap (λ (x : List ℕ). Some x) (text_here line t ts w words are))
    ∙ ap (λ (os : List (Option (List ℕ))). Some w ∷ os) (atoms_from line all ts every words (i + 1) whole next (rest_here line t ts w words are))

pub all_there : (words : List (List ℕ)) → all_atoms (map (λ (w : List ℕ). Some w) words) ≡ Some words
all_there [] = refl
all_there (w ∷ words) = ap (option_map (λ (others : List (List ℕ)). w ∷ others)) (all_there words)

-- a command whose words are all atoms
abbrev IsPlainWord : List ℕ → Type 0
IsPlainWord word = (line : List ℕ) (tokens : List Token) (w : Word) (rest : List Word) → named_command line tokens w rest word ≡ with_atoms (atom_command word) (atoms_in line tokens rest)

by_words : (line : List ℕ) (tokens : List Token) (ws : List Word) (word : List ℕ) (others : List (List ℕ)) → IsPlainWord word → map (atom_of line tokens) ws ≡ map (λ (w : List ℕ). Some w) (word ∷ others)
    → command_of_words line tokens ws ≡ atom_command word others
by_words line tokens [] word others plain are = absurd cc
by_words line tokens (w ∷ ws) word others plain are =
    let first : atom_of line tokens w ≡ Some word = ap (λ (os : List (Option (List ℕ))). get_or os 0 None) are in
    let rest : map (atom_of line tokens) ws ≡ map (λ (x : List ℕ). Some x) others = ap (λ (os : List (Option (List ℕ))). drop 1 os) are in
    ap (λ (o : Option (List ℕ)). worded_command line tokens w ws o) first
    ∙ plain line tokens w ws
    ∙ ap (λ (os : List (Option (List ℕ))). with_atoms (atom_command word) (all_atoms os)) rest
    ∙ ap (with_atoms (atom_command word)) (all_there others)

pub line_command : (word : List ℕ) (others : List (List ℕ)) → IsPlainWord word → IsAtomWord word → AllByRecursion IsAtomWord others → command_of (line_of word others) ≡ atom_command word others
line_command word others plain first good =
    let line : List ℕ = line_of word others in
    let had : HasAtoms line (word ∷ others) = line_read line (word ∷ others) (line_is word others) (first, good) in
    ap (command_read line) had.read
    ∙ by_words line had.tokens (top_words had.tokens) word others plain (atoms_from line had.tokens had.tokens (word ∷ others) (word ∷ others) 0 had.are refl had.are)

-- ---- names that are names are not refused

pub fine_names : (word step : ℕ) (names : List (List ℕ)) → AreNames names → names_fault word step names ≡ None
fine_names word step [] are = refl
fine_names word step (name ∷ names) are =
    ap (λ (t : Bool). cond t (names_fault (word + step) step names) (Some (Name word))) ((accepted name).1 are.0) ∙ fine_names (word + step) step names are.1

pub unless_none : (fault : Option Refusal) (command : Command) → fault ≡ None → unless_refused (fault ∷ []) command ≡ command
unless_none fault command h = ap (λ (o : Option Refusal). unless_refused (o ∷ []) command) h

pub kill_line : (name : List ℕ) (names : List (List ℕ)) → AreNames (name ∷ names) → command_of (line_of (codes "kill") (name ∷ names)) ≡ Edit (Kill (name ∷ names))
kill_line name names are =
    line_command (codes "kill") (name ∷ names) (λ line tokens w rest. refl) (omega arith, (refl, refl, (refl, refl, (refl, refl, (refl, refl, tt))))) (names_good (name ∷ names) are)
    ∙ unless_none (names_fault 2 1 (name ∷ names)) (Edit (Kill (name ∷ names))) (fine_names 2 1 (name ∷ names) are)

pub rm_line : (comb member : List ℕ) (members : List (List ℕ)) → AreNames (comb ∷ member ∷ members) → command_of (line_of (codes "rm") (comb ∷ member ∷ members)) ≡ Edit (Remove comb (member ∷ members))
rm_line comb member members are =
    line_command (codes "rm") (comb ∷ member ∷ members) (λ line tokens w rest. refl) (omega arith, (refl, refl, (refl, refl, tt))) (names_good (comb ∷ member ∷ members) are)
    ∙ unless_none (names_fault 2 1 (comb ∷ member ∷ members)) (Edit (Remove comb (member ∷ members))) (fine_names 2 1 (comb ∷ member ∷ members) are)

pub g_line : (name member : List ℕ) (members : List (List ℕ)) → AreNames (name ∷ member ∷ members) → command_of (line_of (codes "g") (name ∷ member ∷ members)) ≡ Edit (Group name (map (entry_of U) (member ∷ members)))
g_line name member members are =
    line_command (codes "g") (name ∷ member ∷ members) (λ line tokens w rest. refl) (omega arith, (refl, refl, tt)) (names_good (name ∷ member ∷ members) are)
    ∙ unless_none (names_fault 2 1 (name ∷ member ∷ members)) (Edit (Group name (map (entry_of U) (member ∷ members)))) (fine_names 2 1 (name ∷ member ∷ members) are)

pub mvall_line : (old new : List ℕ) → IsName old → IsName new → command_of (line_of (codes "mvall") (old ∷ new ∷ [])) ≡ Edit (RenameAll old new)
mvall_line old new h k =
    let are : AreNames (old ∷ new ∷ []) = (h, (k, tt)) in
    line_command (codes "mvall") (old ∷ new ∷ []) (λ line tokens w rest. refl) (omega arith, (refl, refl, (refl, refl, (refl, refl, (refl, refl, (refl, refl, tt)))))) (names_good (old ∷ new ∷ []) are)
    ∙ unless_none (names_fault 2 1 (old ∷ new ∷ [])) (Edit (RenameAll old new)) (fine_names 2 1 (old ∷ new ∷ []) are)

pub ls_line : command_of (line_of (codes "ls") []) ≡ Query Names
ls_line = refl

pub l_line : (name : List ℕ) (names : List (List ℕ)) → AreNames (name ∷ names) → command_of (line_of (codes "l") (name ∷ names)) ≡ Query (Lines (name ∷ names))
l_line name names are =
    line_command (codes "l") (name ∷ names) (λ line tokens w rest. refl) (omega arith, (refl, refl, tt)) (names_good (name ∷ names) are)
    ∙ unless_none (names_fault 2 1 (name ∷ names)) (Query (Lines (name ∷ names))) (fine_names 2 1 (name ∷ names) are)

pub tree_line : (name : List ℕ) (names : List (List ℕ)) → AreNames (name ∷ names) → command_of (line_of (codes "tree") (name ∷ names)) ≡ Query (Tree (name ∷ names))
tree_line name names are =
    line_command (codes "tree") (name ∷ names) (λ line tokens w rest. refl) (omega arith, (refl, refl, (refl, refl, (refl, refl, (refl, refl, tt))))) (names_good (name ∷ names) are)
    ∙ unless_none (names_fault 2 1 (name ∷ names)) (Query (Tree (name ∷ names))) (fine_names 2 1 (name ∷ names) are)

pub save_line : (file : List ℕ) → IsName file → command_of (line_of (codes "save") (file ∷ [])) ≡ Query (Save file)
save_line file h =
    let are : AreNames (file ∷ []) = (h, tt) in
    line_command (codes "save") (file ∷ []) (λ line tokens w rest. refl) (omega arith, (refl, refl, (refl, refl, (refl, refl, (refl, refl, tt))))) (names_good (file ∷ []) are)
    ∙ unless_none (name_fault 2 file) (Query (Save file)) (fine_names 2 1 (file ∷ []) are)

-- ---- a list of members

operator_again : (op : Op) → operator_of (operator_word op) ≡ Some op
operator_again U = refl
operator_again N = refl
operator_again Minus = refl
operator_again X = refl

entries_again : (members : List Member) → entries_of (member_words members) ≡ Some (map new_entry members)
entries_again [] = refl
entries_again (m ∷ members) =
    ap (λ (o : Option Op). entry_before o m.1 (entries_of (member_words members))) (operator_again m.0)
    ∙ ap (λ (o : Option (List ListEntry)). option_map (λ (list : List ListEntry). entry_of m.0 m.1 ∷ list) o) (entries_again members)

fine_members : (word : ℕ) (members : List Member) → AreMembers members → names_fault word 2 (names_of (map new_entry members)) ≡ None
fine_members word [] are = refl
fine_members word (m ∷ members) are =
    ap (λ (t : Bool). cond t (names_fault (word + 2) 2 (names_of (map new_entry members))) (Some (Name word))) ((accepted m.1).1 are.0) ∙ fine_members (word + 2) members are.1

pub unless_both : (one two : Option Refusal) (command : Command) → one ≡ None → two ≡ None → unless_refused (one ∷ two ∷ []) command ≡ command
unless_both one two command h k = ap (λ (o : Option Refusal). unless_refused (o ∷ two ∷ []) command) h ∙ unless_none two command k

pub r_line : (name : List ℕ) (m : Member) (members : List Member) → IsName name → AreMembers (m ∷ members) → command_of (line_of (codes "r") (name ∷ member_words (m ∷ members))) ≡ Edit (Region name (map new_entry (m ∷ members)))
r_line name m members h are =
    let list : List ListEntry = map new_entry (m ∷ members) in
    let named : AreNames (name ∷ []) = (h, tt) in
    line_command (codes "r") (name ∷ member_words (m ∷ members)) (λ line tokens w rest. refl) (omega arith, (refl, refl, tt)) (name_good name h, members_good (m ∷ members) are)
    ∙ ap (region_command name) (entries_again (m ∷ members))
    ∙ unless_both (name_fault 2 name) (names_fault 4 2 (names_of list)) (Edit (Region name list)) (fine_names 2 1 (name ∷ []) named) (fine_members 4 (m ∷ members) are)
