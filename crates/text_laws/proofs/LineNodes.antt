-- The written text of a tree reads as that tree.
use Rattle.std.proofs.Common.{◌≡◌, ◌∙◌, ◌+◌, ◌-◌, ◌<◌, ◌≤◌, ◌==◌, ◌&&◌, ℕ, ℤ, pos, negsuc, Bool, true, false, not, cond, List, [], ◌∷◌, ◌++◌, length, map, Option, Some, None, Result, Ok, Err, is_some, is_ok, IsOk, unwrap_or, codes, refl, ap, ap₂, sym, subst, arith, append-nil, append_assoc, length-append, ne_eqb, eqb-true, ◌↔◌}
use Rattle.std.specs.Int.RustNames.{unsigned_abs}
use Rattle.std.specs.List.{list_all, slice_range}
use Rattle.std.specs.Option.{option_map}
use Rattle.std.proofs.lemmas.Bool.{and_parts, le-ltb}
use Rattle.std.proofs.lemmas.List.Folds.{list_all-append}
use Rattle.lattice_core.specs.declared.limit.TheConstants.{COORD}
use Rattle.lattice_core.specs.declared.placement.MatrixFault.{MatrixFault}
use Rattle.lattice_core.specs.declared.placement.MatrixFault.TheVariants.{NotLattice, TooFar}
use Rattle.lattice_core.specs.declared.placement.Placement.{Placement}
use Rattle.lattice_core.specs.Limits.{IsWithin}
use Rattle.lattice_core.specs.Placements.{matrix_of, IsPlacementMatrix, IsFarMatrix}
use Rattle.lattice_core.specs.Turns.{column_of, is_negated, entry_of}
use Rattle.lattice_core.proofs.Placing.{one_shift}
use Rattle.name_core.specs.NameText.{read_name}
use Rattle.name_core.proofs.NameLaws.{accepted}
use Rattle.tree_forms.specs.declared.Op.{Op}
use Rattle.tree_forms.specs.declared.Op.TheVariants.{U, N, Minus, X}
use Rattle.tree_forms.specs.Trees.{Tree, Leaf, Join, leaves, map_leaves}
use Rattle.comb_tree.specs.Nodes.{Comb, Member}
use Rattle.tcl_words.specs.Pieces.{pieces, written_after}
use Rattle.tcl_words.specs.declared.token.Kind.TheVariants.{Open, Close, Atom as AtomKind}
use Rattle.tcl_words.specs.declared.token.Token.{Token}
use Rattle.std.proofs.lemmas.Bool.Decides.{nat_tests}
use Rattle.tcl_words.specs.Faults.{is_bad_at}
use Rattle.tcl_words.proofs.Scan.{Piece}
use Rattle.tcl_words.proofs.Written.{GoodPiece}
use Rattle.word_values.specs.Kinds.{kind_at, plain_kind, numbers_from}
use Rattle.word_values.specs.declared.atoms.NumberList.{NumberList}
use Rattle.word_values.specs.declared.atoms.NumberList.TheVariants as lists
use Rattle.word_values.specs.Groups.{Words, End, Atom, Group, with_atom, with_group, with_token, levels_of, innermost, words_of_tokens, atoms_of}
use Rattle.word_values.specs.Matrices.{identity, placement_in, placement_read, placement_of_all}
use Rattle.word_values.specs.Solids.{is_zero}
use Rattle.word_values.specs.Trees.{Given, given, given_if, node_of, joined_by, tree_in, tree_if, tree_of, tree_with, placement_of, has_name, has_placement, member_of}
use Rattle.word_values.specs.declared.tree.TreeFault.{TreeFault}
use Rattle.word_values.specs.declared.tree.TreeFault.TheVariants as faults
use Rattle.word_values.proofs.MatrixLaws.{of_read, all_there, still}
use Rattle.put_form.specs.Written.{words_text, number_words, operator_text, node_text}
use Rattle.text_laws.specs.Fits.{IsFit}
use Rattle.put_form.proofs.NameWords.{is_word, word_good, name_word}
use Rattle.text_laws.proofs.LineNumbers.{IsOf, of_kind_again, of_kind_word, shift_of}
use Rattle.text_laws.proofs.LinePieces.{atom, opening, closing}
use Rattle.text_laws.proofs.LineSolids.{zero_all}
use Rattle.text_laws.proofs.LineWords.{Stretch, stretch_append}

both_true : (a b : Bool) → a ≡ true → b ≡ true → (a && b) ≡ true
both_true a b p q = cc

-- ---- the pieces of a tree

abbrev atoms : List (List ℕ) → List Piece
atoms [] = []
atoms (w ∷ ws) = atom w ∷ atoms ws

abbrev is_still : Placement → Bool
is_still p = (p.turn.number == 0) && is_zero p.shift

abbrev group_of : Bool → List (List ℕ) → List Piece
group_of none ws = cond none [] (opening ∷ (atoms ws ++ (closing ∷ [])))

abbrev matrix_words : Placement → List (List ℕ)
matrix_words p = number_words lists.Matrix 0 (matrix_of p)

abbrev pub node_pieces : Tree Member → List Piece
node_pieces (Leaf m) = atom (codes "l") ∷ atom m.name ∷ group_of (is_still m.placement) (matrix_words m.placement)
node_pieces (Join op l r) = atom (operator_text op) ∷ opening ∷ (node_pieces l ++ (closing ∷ opening ∷ (node_pieces r ++ (closing ∷ []))))

-- ---- they are written

words_written : (ws : List (List ℕ)) (rest : List Piece) → words_text ws ++ (125 ∷ written_after Close rest) ≡ written_after Open (atoms ws ++ (closing ∷ rest))
words_written [] rest = refl
words_written (w ∷ []) rest = refl
words_written (w ∷ v ∷ ws) rest = append_assoc w (32 ∷ words_text (v ∷ ws)) (125 ∷ written_after Close rest) ∙ ap (λ (text : List ℕ). w ++ (32 ∷ text)) (words_written (v ∷ ws) rest)

leaf_written : (name : List ℕ) (none : Bool) (ws : List (List ℕ)) (rest : List Piece)
    → (codes "l " ++ (name ++ cond none [] (codes " {" ++ (words_text ws ++ codes "}")))) ++ (125 ∷ written_after Close rest)
    ≡ written_after Open ((atom (codes "l") ∷ atom name ∷ group_of none ws) ++ (closing ∷ rest))
leaf_written name true ws rest = ap (λ (text : List ℕ). 108 ∷ 32 ∷ (text ++ (125 ∷ written_after Close rest))) (append-nil name)
leaf_written name false ws rest =
    ap (λ (text : List ℕ). 108 ∷ 32 ∷ text)
    (append_assoc name (32 ∷ 123 ∷ (words_text ws ++ codes "}")) (125 ∷ written_after Close rest)
    ∙ ap (λ (text : List ℕ). name ++ (32 ∷ 123 ∷ text))
    (append_assoc (words_text ws) (codes "}") (125 ∷ written_after Close rest) ∙ words_written ws (closing ∷ rest) ∙ ap (written_after Open) (sym (append_assoc (atoms ws) (closing ∷ []) (closing ∷ rest)))))

join_text : (o l r w : List ℕ) → (o ++ (32 ∷ 123 ∷ (l ++ (125 ∷ 32 ∷ 123 ∷ (r ++ (125 ∷ [])))))) ++ w ≡ o ++ (32 ∷ 123 ∷ (l ++ (125 ∷ 32 ∷ 123 ∷ (r ++ (125 ∷ w)))))
join_text o l r w = simp append_assoc

join_pieces : (l r rest : List Piece) → (l ++ (closing ∷ opening ∷ (r ++ (closing ∷ [])))) ++ rest ≡ l ++ (closing ∷ opening ∷ (r ++ (closing ∷ rest)))
join_pieces l r rest = simp append_assoc

pub node_written : (t : Tree Member) (rest : List Piece) → node_text t ++ (125 ∷ written_after Close rest) ≡ written_after Open (node_pieces t ++ (closing ∷ rest))
node_written (Leaf m) rest = leaf_written m.name (is_still m.placement) (matrix_words m.placement) rest
node_written (Join op l r) rest =
    let right : List Piece = node_pieces r ++ (closing ∷ closing ∷ rest) in
    join_text (operator_text op) (node_text l) (node_text r) (125 ∷ written_after Close rest)
    ∙ ap (λ (text : List ℕ). operator_text op ++ (32 ∷ 123 ∷ (node_text l ++ (125 ∷ 32 ∷ 123 ∷ text)))) (node_written r (closing ∷ rest))
    ∙ ap (λ (text : List ℕ). operator_text op ++ (32 ∷ 123 ∷ text)) (node_written l (opening ∷ right) ∙ ap (written_after Open) (sym (join_pieces (node_pieces l) (node_pieces r) (closing ∷ rest))))

-- ---- they are good

-- numbers from a place of a list on, each as large as its kind allows
abbrev AreFrom : NumberList → ℕ → List ℤ → Type 0
AreFrom list place [] = Unit {0}
AreFrom list place (n ∷ ns) = IsOf (kind_at list place) n × AreFrom list (place + 1) ns

one_or_none : (is negative : Bool) → unsigned_abs (cond is (cond negative (negsuc 0) (pos 1)) (pos 0)) ≤ 1
one_or_none true true = omega arith
one_or_none true false = omega arith
one_or_none false negative = omega arith

entry_is : (turn row column : ℕ) → IsOf plain_kind (entry_of turn row column)
entry_is turn row column = (omega arith, omega (arith, one_or_none (column_of turn row == column) (is_negated turn row)))

plain_is : (n : ℕ) → n ≤ 1 → IsOf plain_kind (pos n)
plain_is n small = (omega arith, omega (arith, small))

matrix_is : (p : Placement) → IsWithin COORD p.shift → AreFrom lists.Matrix 0 (matrix_of p)
matrix_is p near =
    let t : ℕ = p.turn.number in (
      entry_is t 1 1,
      (
        entry_is t 1 2,
        (
          entry_is t 1 3,
          (
            shift_of p.shift.x near.x,
            (
              entry_is t 2 1,
              (
                entry_is t 2 2,
                (
                  entry_is t 2 3,
                  (
                    shift_of p.shift.y near.y,
                    (
                      entry_is t 3 1,
                      (
                        entry_is t 3 2,
                        (
                          entry_is t 3 3,
                          (shift_of p.shift.z near.z, (plain_is 0 (omega arith), (plain_is 0 (omega arith), (plain_is 0 (omega arith), (plain_is 1 (omega arith), tt))))),
                        ),
                      ),
                    ),
                  ),
                ),
              ),
            ),
          ),
        ),
      ),
    )

are_words : (list : NumberList) (place : ℕ) (ns : List ℤ) → AreFrom list place ns → list_all is_word (number_words list place ns) ≡ true
are_words list place [] are = refl
are_words list place (n ∷ ns) are = both_true _ _ (of_kind_word (kind_at list place) n are.0) (are_words list (place + 1) ns are.1)

words_stretch : (ws : List (List ℕ)) (g : ℕ) → list_all is_word ws ≡ true → 0 < g → Stretch g (atoms ws) g
words_stretch [] g good some = refl
words_stretch (w ∷ ws) g good some = let both = and_parts (is_word w) (list_all is_word ws) good in (word_good w g both.0, some, words_stretch ws g both.1 some)

open_good : (g : ℕ) → g < 4100 → GoodPiece Open (123 ∷ []) g
open_good g few = (refl, ne_eqb g 4100 (λ e. omega (arith, e, few)))

close_good : (g : ℕ) → 0 < g → GoodPiece Close (125 ∷ []) g
close_good g some = (refl, some)

group_stretch : (none : Bool) (ws : List (List ℕ)) (g : ℕ) → list_all is_word ws ≡ true → 0 < g → g < 4100 → Stretch g (group_of none ws) g
group_stretch true ws g good some few = refl
group_stretch false ws g good some few = (
  open_good g few,
  omega arith,
  stretch_append (atoms ws) (closing ∷ []) (g + 1) (g + 1) g (words_stretch ws (g + 1) good (omega arith)) (close_good (g + 1) (omega arith), omega (arith, some), omega arith),
)

-- no name has a caret, and a word may
caret_good : (g : ℕ) → is_bad_at 94 g ≡ false
caret_good g = grind (arith, nat_tests)

operator_good : (op : Op) (g : ℕ) → GoodPiece AtomKind (operator_text op) g
operator_good U g = word_good (codes "u") g refl
operator_good N g = word_good (codes "n") g refl
operator_good Minus g = word_good (codes "-") g refl
operator_good X g = (omega arith, (refl, caret_good g, tt))

some_leaves : (t : Tree Member) → 0 < length (leaves t)
some_leaves (Leaf m) = omega arith
some_leaves (Join op l r) = omega (arith, length-append (leaves l) (leaves r), some_leaves l)

pub node_stretch : (t : Tree Member) (g : ℕ) → IsFit t → 0 < g → g + length (leaves t) < 4100 → Stretch g (node_pieces t) g
node_stretch (Leaf m) g fit some few = (
  word_good (codes "l") g refl,
  some,
  (word_good m.name g (name_word m.name fit.0), some, group_stretch (is_still m.placement) (matrix_words m.placement) g (are_words lists.Matrix 0 (matrix_of m.placement) (matrix_is m.placement fit.1)) some (omega (arith, few))),
)
node_stretch (Join op l r) g fit some few =
    let h : ℕ = (g + 1) - 1 in
    let bound : g + (length (leaves l) + length (leaves r)) < 4100 = omega (arith, few, length-append (leaves l) (leaves r)) in
    let left : 0 < length (leaves l) = some_leaves l in
    let right : 0 < length (leaves r) = some_leaves r in (
      operator_good op g,
      some,
      (
        open_good g (omega (arith, bound)),
        omega arith,
        stretch_append (node_pieces l) (closing ∷ opening ∷ (node_pieces r ++ (closing ∷ []))) (g + 1) (g + 1) g (node_stretch l (g + 1) fit.0 (omega arith) (omega (arith, bound, right))) (
          close_good (g + 1) (omega arith),
          omega (arith, some),
          (
            open_good h (omega (arith, bound)),
            omega arith,
            stretch_append (node_pieces r) (closing ∷ []) (h + 1) (h + 1) g (node_stretch r (h + 1) fit.1 (omega arith) (omega (arith, bound, left))) (close_good (h + 1) (omega arith), omega (arith, some), omega (arith, some)),
          ),
        ),
      ),
    )

-- ---- they are the words of the tree

abbrev levels_in : List Piece → List Words
levels_in [] = End ∷ []
levels_in (p ∷ ps) = with_token p.0 p.1 (levels_in ps)

levels_are : (text : List ℕ) (ts : List Token) → levels_of text ts ≡ levels_in (pieces text ts)
levels_are text [] = refl
levels_are text (t ∷ ts) = ap (λ (levels : List Words). with_token t.kind (slice_range text t.start t.end) levels) (levels_are text ts)

abbrev atom_words : List (List ℕ) → Words
atom_words [] = End
atom_words (w ∷ ws) = Atom w (atom_words ws)

abbrev leaf_words : List ℕ → Bool → List (List ℕ) → Words
leaf_words name none ws = Atom (codes "l") (Atom name (cond none End (Group (atom_words ws) End)))

abbrev node_words : Tree Member → Words
node_words (Leaf m) = leaf_words m.name (is_still m.placement) (matrix_words m.placement)
node_words (Join op l r) = Atom (operator_text op) (Group (node_words l) (Group (node_words r) End))

atoms_levels : (given : List (List ℕ)) (ps : List Piece) (ws : List Words) → levels_in ps ≡ End ∷ ws → levels_in (atoms given ++ ps) ≡ atom_words given ∷ ws
atoms_levels [] ps ws h = h
atoms_levels (w ∷ given) ps ws h = ap (with_atom w) (atoms_levels given ps ws h)

leaf_levels : (name : List ℕ) (none : Bool) (given : List (List ℕ)) (ps : List Piece) (ws : List Words) → levels_in ps ≡ End ∷ ws
    → levels_in ((atom (codes "l") ∷ atom name ∷ group_of none given) ++ ps) ≡ leaf_words name none given ∷ ws
leaf_levels name true given ps ws h = ap (λ (levels : List Words). with_atom (codes "l") (with_atom name levels)) h
leaf_levels name false given ps ws h =
    ap (λ (levels : List Words). with_atom (codes "l") (with_atom name (with_group levels)))
    (ap levels_in (append_assoc (atoms given) (closing ∷ []) ps) ∙ atoms_levels given (closing ∷ ps) (End ∷ ws) (ap (λ (levels : List Words). End ∷ levels) h))

node_levels : (t : Tree Member) (ps : List Piece) (ws : List Words) → levels_in ps ≡ End ∷ ws → levels_in (node_pieces t ++ ps) ≡ node_words t ∷ ws
node_levels (Leaf m) ps ws h = leaf_levels m.name (is_still m.placement) (matrix_words m.placement) ps ws h
node_levels (Join op l r) ps ws h =
    let right : levels_in (node_pieces r ++ (closing ∷ ps)) ≡ node_words r ∷ End ∷ ws = node_levels r (closing ∷ ps) (End ∷ ws) (ap (λ (levels : List Words). End ∷ levels) h) in
    ap (λ (levels : List Words). with_atom (operator_text op) (with_group levels))
    (ap levels_in (join_pieces (node_pieces l) (node_pieces r) ps)
    ∙ node_levels l (closing ∷ opening ∷ (node_pieces r ++ (closing ∷ ps))) (Group (node_words r) End ∷ ws) (ap (λ (levels : List Words). End ∷ with_group levels) right))

-- ---- and the tree that they spell

abbrev given_of : Member → Given
given_of m = record { name = m.name; matrix = cond (is_still m.placement) None (Some (matrix_words m.placement)) }

words_atoms : (ws : List (List ℕ)) → atoms_of (atom_words ws) ≡ Some ws
words_atoms [] = refl
words_atoms (w ∷ ws) = ap (option_map (λ (found : List (List ℕ)). w ∷ found)) (words_atoms ws)

leaf_given : (name : List ℕ) (none : Bool) (ws : List (List ℕ)) → (length ws == 16) ≡ true → node_of (leaf_words name none ws) ≡ Some (given name (cond none None (Some ws)))
leaf_given name true ws len = refl
leaf_given name false ws len = ap (given_if name) (words_atoms ws) ∙ ap (λ b. cond b (Some (given name (Some ws))) None) len

node_given : (t : Tree Member) → node_of (node_words t) ≡ Some (map_leaves given_of t)
node_given (Leaf m) = leaf_given m.name (is_still m.placement) (matrix_words m.placement) refl
node_given (Join U l r) = ap₂ (joined_by (Some U)) (node_given l) (node_given r)
node_given (Join N l r) = ap₂ (joined_by (Some N)) (node_given l) (node_given r)
node_given (Join Minus l r) = ap₂ (joined_by (Some Minus)) (node_given l) (node_given r)
node_given (Join X l r) = ap₂ (joined_by (Some X)) (node_given l) (node_given r)

tree_spelled : (t : Tree Member) → tree_in (node_words t) ≡ Some (Some (map_leaves given_of t))
tree_spelled (Leaf m) = ap (option_map (λ (g : Tree Given). Some g)) (node_given (Leaf m))
tree_spelled (Join op l r) = ap (option_map (λ (g : Tree Given). Some g)) (node_given (Join op l r))

numbers_read : (list : NumberList) (place : ℕ) (ns : List ℤ) → AreFrom list place ns → numbers_from list place (number_words list place ns) ≡ map (λ (n : ℤ). Some n) ns
numbers_read list place [] are = refl
numbers_read list place (n ∷ ns) are = ap₂ (λ (x : Option ℤ) (xs : List (Option ℤ)). x ∷ xs) (of_kind_again (kind_at list place) n are.0) (numbers_read list (place + 1) ns are.1)

near_read : (p : Placement) → IsWithin COORD p.shift → placement_in (matrix_of p) ≡ Some p
near_read p near =
    let read : Result Placement MatrixFault = Ok p in
    let none : (read ≡ Err NotLattice) ↔ (¬ IsPlacementMatrix (matrix_of p)) = (λ e. absurd cc, λ h. absurd (h (p, refl))) in
    let far : (read ≡ Err TooFar) ↔ IsFarMatrix COORD (matrix_of p) = (λ e. absurd cc, λ f. absurd (f.2 (subst (IsWithin COORD) (one_shift p f.0 f.1) near))) in
    sym (of_read (matrix_of p) read refl (refl, near) none far)

placement_by : (p : Placement) (none : Bool) → is_still p ≡ none → IsWithin COORD p.shift → placement_of (cond none None (Some (matrix_words p))) ≡ Some p
placement_by p true is near =
    let parts = and_parts (p.turn.number == 0) (is_zero p.shift) is in
    ap (λ (q : Placement). Some q) (sym (still p (eqb-true p.turn.number 0 parts.0) (zero_all p.shift parts.1)))
placement_by p false is near = ap placement_read (numbers_read lists.Matrix 0 (matrix_of p) (matrix_is p near)) ∙ ap placement_of_all (all_there (matrix_of p)) ∙ near_read p near

placement_again : (m : Member) → IsWithin COORD m.placement.shift → placement_of (given_of m).matrix ≡ Some m.placement
placement_again m near = placement_by m.placement (is_still m.placement) refl near

given_count : (t : Tree Member) → length (leaves (map_leaves given_of t)) ≡ length (leaves t)
given_count (Leaf m) = refl
given_count (Join op l r) = omega (arith, length-append (leaves (map_leaves given_of l)) (leaves (map_leaves given_of r)), length-append (leaves l) (leaves r), given_count l, given_count r)

all_named : (t : Tree Member) → IsFit t → list_all has_name (leaves (map_leaves given_of t)) ≡ true
all_named (Leaf m) fit = let ok : IsOk (read_name m.name) = (accepted m.name).1 fit.0 in both_true (is_ok (read_name m.name)) true ok refl
all_named (Join op l r) fit = list_all-append has_name (leaves (map_leaves given_of l)) (leaves (map_leaves given_of r)) ∙ both_true _ _ (all_named l fit.0) (all_named r fit.1)

all_placed : (t : Tree Member) → IsFit t → list_all has_placement (leaves (map_leaves given_of t)) ≡ true
all_placed (Leaf m) fit = both_true (has_placement (given_of m)) true (ap is_some (placement_again m fit.1)) refl
all_placed (Join op l r) fit = list_all-append has_placement (leaves (map_leaves given_of l)) (leaves (map_leaves given_of r)) ∙ both_true _ _ (all_placed l fit.0) (all_placed r fit.1)

members_again : (t : Tree Member) → IsFit t → map_leaves member_of (map_leaves given_of t) ≡ t
members_again (Leaf m) fit = ap (λ (o : Option Placement). Leaf (record { name = m.name; placement = unwrap_or o identity })) (placement_again m fit.1)
members_again (Join op l r) fit = ap₂ (Join op) (members_again l fit.0) (members_again r fit.1)

whole_tree : (t : Tree Member) → IsFit t → length (leaves t) ≤ 4096 → tree_with (Some (map_leaves given_of t)) ≡ Ok (Some t)
whole_tree t fit few =
    let g : Tree Given = map_leaves given_of t in
    let answer : Comb → Result Comb TreeFault = λ c. Ok c in
    ap (λ b. cond b (Err faults.Form) (cond (not (list_all has_name (leaves g))) (Err faults.Name) (cond (not (list_all has_placement (leaves g))) (Err faults.Number) (answer (Some (map_leaves member_of g)))))) (le-ltb 4096 (length (leaves g)) (omega (arith, few, given_count t)))
    ∙ ap (λ b. cond (not b) (Err faults.Name) (cond (not (list_all has_placement (leaves g))) (Err faults.Number) (answer (Some (map_leaves member_of g))))) (all_named t fit)
    ∙ ap (λ b. cond (not b) (Err faults.Number) (answer (Some (map_leaves member_of g)))) (all_placed t fit)
    ∙ ap (λ (s : Tree Member). answer (Some s)) (members_again t fit)

-- tokens with the pieces of a tree spell that tree
pub tree_again : (text : List ℕ) (tokens : List Token) (t : Tree Member) → pieces text tokens ≡ node_pieces t → IsFit t → length (leaves t) ≤ 4096 → tree_of (words_of_tokens text tokens) ≡ Ok (Some t)
tree_again text tokens t are fit few =
    ap (λ (levels : List Words). tree_of (innermost levels)) (levels_are text tokens ∙ ap levels_in (are ∙ sym (append-nil (node_pieces t))) ∙ node_levels t [] [] refl)
    ∙ ap tree_if (tree_spelled t)
    ∙ whole_tree t fit few
