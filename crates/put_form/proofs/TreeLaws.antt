-- Trees that are given as words.
use Rattle.std.proofs.Common.{All, ◌≡◌, ◌≤◌, ◌+◌, ◌&&◌, ◌++◌, ◌==◌, ◌∙◌, ℕ, ℤ, Bool, true, false, not, cond, nat_lt, unwrap_or, List, get_or, length, map, Option, Some, None, Ok, Err, arith, ap, sym, refl, subst}
use Rattle.std.specs.List.{list_all, slice_range}
use Rattle.std.specs.Option.{option_map}
use Rattle.std.specs.Int.RustNames.{unsigned_abs}
use Rattle.std.proofs.lemmas.Int.{ints}
use Rattle.std.proofs.lemmas.Bool.{and_parts, leb-true, ltb-false}
use Rattle.std.proofs.lemmas.List.{length-map, map-append}
use Rattle.lattice_core.specs.declared.limit.TheConstants.{COORD}
use Rattle.lattice_core.specs.declared.placement.Placement.{Placement}
use Rattle.lattice_core.specs.declared.turn.Turn.{Turn}
use Rattle.lattice_core.specs.declared.vector.V3.{V3}
use Rattle.lattice_core.specs.Limits.{IsAtMost, IsWithin}
use Rattle.lattice_core.specs.Matrices.{fourth_column}
use Rattle.lattice_core.specs.Vectors.{zero_vector}
use Rattle.tree_forms.specs.Trees.{Tree, Leaf, Join, leaves, map_leaves}
use Rattle.comb_tree.specs.Nodes.{Comb, Member, members}
use Rattle.tcl_words.specs.declared.token.Token.{Token}
use Rattle.word_values.specs.Atoms.{all_numbers}
use Rattle.word_values.specs.Kinds.{numbers_as}
use Rattle.word_values.specs.declared.atoms.NumberList.TheVariants as lists
use Rattle.word_values.specs.Groups.{Words, words_of_tokens}
use Rattle.word_values.specs.Matrices.{identity, has_last_row, is_near_number, is_near, placement_by, turn_number, turn_numbered, placement_in, placement_of_all}
use Rattle.word_values.specs.Trees.{Given, given_leaves, placement_of, has_name, has_placement, member_of, members_in, tree_if, tree_in, tree_of}
use Rattle.word_values.specs.declared.tree.TreeFault.TheVariants as faults
use Rattle.put_form.specs.Pairs.{Pair}
use Rattle.put_form.specs.Combs.{tree_given}
use Rattle.put_form.specs.CombSteps.{IsLawfulTree}
use Rattle.put_form.proofs.ListLaws.{all_none, all_mapped}

-- the placements that are read are near
near_component : (c : ℤ) → is_near_number c ≡ true → IsAtMost COORD c
near_component c h = let small : unsigned_abs c ≤ unsigned_abs COORD = leb-true (unsigned_abs c) (unsigned_abs COORD) h in (omega (arith, ints, small), omega (arith, ints, small))

near_shift : (s : V3) → is_near s ≡ true → IsWithin COORD s
near_shift s h =
    let a = and_parts (is_near_number s.x && is_near_number s.y) (is_near_number s.z) h in
    let b = and_parts (is_near_number s.x) (is_near_number s.y) a.0 in
    record { x = near_component s.x b.0; y = near_component s.y b.1; z = near_component s.z a.1 }

abbrev IsNearBy : Option Placement → Type 0
IsNearBy None = Unit {0}
IsNearBy (Some p) = IsWithin COORD p.shift

near_by : (shift : V3) (turn : Option Turn) → IsWithin COORD shift → IsNearBy (option_map (placement_by shift) turn)
near_by shift None h = tt
near_by shift (Some turn) h = h

near_if : (last : Bool) (near : Bool) (shift : V3) (turn : Option Turn) → (near ≡ true → IsWithin COORD shift) → IsNearBy (cond (last && near) (option_map (placement_by shift) turn) None)
near_if true true shift turn h = near_by shift turn (h refl)
near_if true false shift turn h = tt
near_if false near shift turn h = tt

near_in : (numbers : List ℤ) → IsNearBy (placement_in numbers)
near_in numbers = near_if (has_last_row numbers) (is_near (fourth_column numbers)) (fourth_column numbers) (turn_numbered (turn_number numbers)) (near_shift (fourth_column numbers))

near_all : (t : Bool) (numbers : List ℤ) → IsNearBy (cond t (placement_in numbers) None)
near_all true numbers = near_in numbers
near_all false numbers = tt

near_read : (numbers : Option (List ℤ)) → IsNearBy (placement_of_all numbers)
near_read None = tt
near_read (Some numbers) = near_all (length numbers == 16) numbers

zero_near : IsWithin COORD zero_vector
zero_near = record { x = (omega (arith, ints), omega (arith, ints)); y = (omega (arith, ints), omega (arith, ints)); z = (omega (arith, ints), omega (arith, ints)) }

near_matrix : (matrix : Option (List (List ℕ))) → IsNearBy (placement_of matrix)
near_matrix None = zero_near
near_matrix (Some atoms) = near_read (all_numbers (numbers_as lists.Matrix atoms))

near_or : (o : Option Placement) → IsNearBy o → IsWithin COORD (unwrap_or o identity).shift
near_or None h = zero_near
near_or (Some p) h = h

-- the members of a tree
leaves_mapped : (t : Tree Given) → leaves (map_leaves member_of t) ≡ map member_of (leaves t)
leaves_mapped (Leaf g) = refl
leaves_mapped (Join op l r) =
    ap (λ (xs : List Member). xs ++ leaves (map_leaves member_of r)) (leaves_mapped l) ∙ ap (λ (xs : List Member). map member_of (leaves l) ++ xs) (leaves_mapped r)
    ∙ sym (map-append member_of (leaves l) (leaves r))

members_mapped : (t : Option (Tree Given)) → members (members_in t) ≡ map member_of (given_leaves t)
members_mapped None = refl
members_mapped (Some t) = leaves_mapped t

lawful_members : (t : Option (Tree Given)) → length (given_leaves t) ≤ 4096 → IsLawfulTree (members_in t)
lawful_members t few = record {
  few = omega (arith, ap length (members_mapped t), length-map (given_leaves t) member_of, few);
  near = subst (All (λ (m : Member). IsWithin COORD m.placement.shift)) (sym (members_mapped t))
      (all_mapped (λ (m : Member). IsWithin COORD m.placement.shift) member_of (given_leaves t) (λ i d lt. near_or (placement_of (get_or (given_leaves t) i d).matrix) (near_matrix (get_or (given_leaves t) i d).matrix)));
}

lawful_by : (t : Option (Tree Given)) (many unnamed unplaced : Bool) (tree : Comb) → nat_lt 4096 (length (given_leaves t)) ≡ many
    → cond many (Err faults.Form) (cond unnamed (Err faults.Name) (cond unplaced (Err faults.Number) (Ok (members_in t)))) ≡ Ok tree → IsLawfulTree tree
lawful_by t true unnamed unplaced tree e h = absurd cc
lawful_by t false true unplaced tree e h = absurd cc
lawful_by t false false true tree e h = absurd cc
lawful_by t false false false tree e h =
    let same : members_in t ≡ tree = cc in subst IsLawfulTree same (lawful_members t (ltb-false 4096 (length (given_leaves t)) e))

lawful_if : (t : Option (Option (Tree Given))) (tree : Comb) → tree_if t ≡ Ok tree → IsLawfulTree tree
lawful_if None tree h = absurd cc
lawful_if (Some t) tree h =
    lawful_by t (nat_lt 4096 (length (given_leaves t))) (not (list_all has_name (given_leaves t))) (not (list_all has_placement (given_leaves t))) tree refl h

lawful_at : (t : Bool) (words : Words) (tree : Comb) → cond t (Err faults.Form) (tree_of words) ≡ Ok tree → IsLawfulTree tree
lawful_at true words tree h = absurd cc
lawful_at false words tree h = lawful_if (tree_in words) tree h

pub tree_lawful : (text : List ℕ) (tokens : List Token) (pair : Option Pair) (tree : Comb) → tree_given text tokens pair ≡ Ok tree → IsLawfulTree tree
tree_lawful text tokens None tree h =
    let none : Comb = None in
    let same : none ≡ tree = cc in
    subst IsLawfulTree same (record { few = omega arith; near = all_none (λ (m : Member). IsWithin COORD m.placement.shift) })
tree_lawful text tokens (Some p) tree h =
    lawful_at (p.value.first == p.value.last) (words_of_tokens text (slice_range tokens (p.value.first + 1) p.value.last)) tree h
