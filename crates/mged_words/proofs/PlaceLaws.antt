-- Reading a placement of members.
use Rattle.std.proofs.Common.{◌≡◌, ◌+◌, ◌∷◌, [], ◌==◌, ◌∙◌, ℕ, ℤ, Bool, true, false, cond, List, length, map, Option, Some, None, is_ok, unwrap_or, Result, Ok, Err, ap, sym, refl, eq-eqb, ne_eqb}
use Rattle.std.specs.Borrow.{Bor}
use Rattle.std.proofs.lemmas.Bool.{cond-true, cond-false}
use Rattle.std.proofs.lemmas.List.{length-map}
use Rattle.lattice_core.specs.declared.placement.Placement.{Placement}
use Rattle.name_core.specs.NameText.{read_name}
use Rattle.command_set.specs.declared.command.Command.{Command}
use Rattle.command_set.specs.declared.command.Command.TheVariants.{Bad, Edit}
use Rattle.command_set.specs.declared.command.Edit.TheVariants.{Place}
use Rattle.command_set.specs.declared.refusal.Refusal.{Refusal}
use Rattle.command_set.specs.declared.refusal.Refusal.TheVariants.{Syntax, Number}
use Rattle.word_values.specs.Matrices.{placement_in, placement_of_all, placement_read, identity}
use Rattle.word_values.specs.Atoms.{all_numbers}
use Rattle.word_values.specs.Kinds.{numbers_as}
use Rattle.word_values.specs.declared.atoms.NumberList.TheVariants as lists
use Rattle.mged_words.specs.Commands.{name_fault, numbers_fault, placement_fault, matrix_command, sixteen_command, unless_refused}
use Rattle.mged_words.specs.Readings.{matrix_read, or_refused}
use Rattle.mged_words.proofs.ListLaws.{unnamed}
use Rattle.mged_words.proofs.CommandLaws.{bad_first, bad_rest, good_first}
use Rattle.word_values.proofs.MatrixLaws.{all_there}

-- all numbers of a group have its word
group_refused : (word : ℕ) (numbers : List (Option ℤ)) (refusal : Refusal) → numbers_fault word 1 numbers ≡ Some refusal → numbers_fault 4 0 numbers ≡ Some (Number 4)
group_refused word [] refusal h = absurd cc
group_refused word (None ∷ rest) refusal h = refl
group_refused word (Some n ∷ rest) refusal h = group_refused (word + 1) rest refusal h

group_fine : (word : ℕ) (numbers : List (Option ℤ)) → numbers_fault word 1 numbers ≡ None → numbers_fault 4 0 numbers ≡ None
group_fine word [] h = refl
group_fine word (None ∷ rest) h = absurd cc
group_fine word (Some n ∷ rest) h = group_fine (word + 1) rest h

abbrev after : List (Option ℤ) → Option Refusal → Result Placement Refusal
after numbers fault = or_refused (fault ∷ placement_fault 4 (placement_read numbers) ∷ []) (unwrap_or (placement_read numbers) identity)

pub given_refused : (is_group : Bool) (numbers : List (Option ℤ)) (refusal : Refusal) → numbers_fault 4 1 numbers ≡ Some refusal → matrix_read (cond is_group 0 1) numbers ≡ Err (cond is_group (Number 4) refusal)
given_refused true numbers refusal h = ap (after numbers) (group_refused 4 numbers refusal h)
given_refused false numbers refusal h = ap (after numbers) h

fine_fault : (is_group : Bool) (numbers : List (Option ℤ)) → numbers_fault 4 1 numbers ≡ None → numbers_fault 4 (cond is_group 0 1) numbers ≡ None
fine_fault true numbers h = group_fine 4 numbers h
fine_fault false numbers h = h

-- the placement that was found, or the refusal where there is none
abbrev found_or : Option Placement → Result Placement Refusal
found_or o = or_refused (placement_fault 4 o ∷ []) (unwrap_or o identity)

pub given_is : (is_group : Bool) (numbers : List (Option ℤ)) (out : List ℤ) (o : Option Placement) → numbers_fault 4 1 numbers ≡ None → numbers ≡ map (λ (n : ℤ). Some n) out → length numbers ≡ 16 → placement_in out ≡ o
    → matrix_read (cond is_group 0 1) numbers ≡ or_refused (placement_fault 4 o ∷ []) (unwrap_or o identity)
given_is is_group numbers out o h read len is =
    let all : all_numbers numbers ≡ Some out = ap all_numbers read ∙ all_there out in
    let found : placement_read numbers ≡ o = ap placement_of_all all ∙ cond-true (length out == 16) (placement_in out) None (eq-eqb _ _ (sym (length-map out (λ (n : ℤ). Some n)) ∙ sym (ap length read) ∙ len)) ∙ is in
    ap (after numbers) (fine_fault is_group numbers h) ∙ ap found_or found

pub six_wrong : (comb member : List ℕ) (step : ℕ) (atoms : List (Bor (List ℕ))) → (length atoms ≡ 16 → ⊥) → Bad Syntax ≡ sixteen_command comb member step (Some (map (λ (a : Bor (List ℕ)). a.now) atoms))
six_wrong comb member step atoms n =
    sym (cond-false (length (map (λ (a : Bor (List ℕ)). a.now) atoms) == 16) _ _ (ne_eqb _ _ (λ e. n (sym (length-map atoms (λ (a : Bor (List ℕ)). a.now)) ∙ e))))

six_is : (comb member : List ℕ) (step : ℕ) (atoms : List (Bor (List ℕ))) → length atoms ≡ 16
    → sixteen_command comb member step (Some (map (λ (a : Bor (List ℕ)). a.now) atoms)) ≡ matrix_command comb member step (numbers_as lists.Matrix (map (λ (a : Bor (List ℕ)). a.now) atoms))
six_is comb member step atoms n =
    cond-true (length (map (λ (a : Bor (List ℕ)). a.now) atoms) == 16) _ _ (eq-eqb _ _ (length-map atoms (λ (a : Bor (List ℕ)). a.now) ∙ n))

-- what is looked at after the names
abbrev later_faults : ℕ → List (Option ℤ) → List (Option Refusal)
later_faults step numbers = numbers_fault 4 step numbers ∷ placement_fault 4 (placement_read numbers) ∷ []

abbrev placed : List ℕ → List ℕ → List (Option ℤ) → Command
placed comb member numbers = Edit (Place comb member (unwrap_or (placement_read numbers) identity))

pub six_bad_comb : (comb member : List ℕ) (step : ℕ) (atoms : List (Bor (List ℕ))) (refusal : Refusal) → length atoms ≡ 16 → name_fault 2 comb ≡ Some refusal
    → Bad refusal ≡ sixteen_command comb member step (Some (map (λ (a : Bor (List ℕ)). a.now) atoms))
six_bad_comb comb member step atoms refusal n h =
    let numbers : List (Option ℤ) = numbers_as lists.Matrix (map (λ (a : Bor (List ℕ)). a.now) atoms) in
    bad_first 2 1 comb (member ∷ []) (later_faults step numbers) (placed comb member numbers) refusal h ∙ sym (six_is comb member step atoms n)

pub six_bad_member : (comb member : List ℕ) (step : ℕ) (atoms : List (Bor (List ℕ))) (refusal : Refusal) → length atoms ≡ 16 → name_fault 2 comb ≡ None → name_fault 3 member ≡ Some refusal
    → Bad refusal ≡ sixteen_command comb member step (Some (map (λ (a : Bor (List ℕ)). a.now) atoms))
six_bad_member comb member step atoms refusal n fine h =
    let numbers : List (Option ℤ) = numbers_as lists.Matrix (map (λ (a : Bor (List ℕ)). a.now) atoms) in
    bad_rest 2 1 comb (member ∷ []) (later_faults step numbers) (placed comb member numbers) refusal fine (unnamed (is_ok (read_name member)) 3 None refusal h) ∙ sym (six_is comb member step atoms n)

-- after the names were read
six_named : (comb member : List ℕ) (step : ℕ) (atoms : List (Bor (List ℕ))) → length atoms ≡ 16 → name_fault 2 comb ≡ None → name_fault 3 member ≡ None
    → sixteen_command comb member step (Some (map (λ (a : Bor (List ℕ)). a.now) atoms))
    ≡ unless_refused (later_faults step (numbers_as lists.Matrix (map (λ (a : Bor (List ℕ)). a.now) atoms))) (placed comb member (numbers_as lists.Matrix (map (λ (a : Bor (List ℕ)). a.now) atoms)))
six_named comb member step atoms n fine good =
    let numbers : List (Option ℤ) = numbers_as lists.Matrix (map (λ (a : Bor (List ℕ)). a.now) atoms) in
    six_is comb member step atoms n ∙ ap (λ (o : Option Refusal). unless_refused (o ∷ later_faults step numbers) (placed comb member numbers)) (good_first 2 1 comb (member ∷ []) fine ∙ good_first 3 1 member [] good)

placed_by : (one two : Option Refusal) (comb member : List ℕ) (p q : Placement) → or_refused (one ∷ two ∷ []) q ≡ Ok p → Edit (Place comb member p) ≡ unless_refused (one ∷ two ∷ []) (Edit (Place comb member q))
placed_by (Some refusal) two comb member p q h = absurd cc
placed_by None (Some refusal) comb member p q h = absurd cc
placed_by None None comb member p q h = let same : p ≡ q = cc in ap (λ (x : Placement). Edit (Place comb member x)) same

refused_by : (one two : Option Refusal) (command : Command) (q : Placement) (refusal : Refusal) → or_refused (one ∷ two ∷ []) q ≡ Err refusal → Bad refusal ≡ unless_refused (one ∷ two ∷ []) command
refused_by (Some x) two command q refusal h = let same : refusal ≡ x = cc in ap (λ (r : Refusal). Bad r) same
refused_by None (Some x) command q refusal h = let same : refusal ≡ x = cc in ap (λ (r : Refusal). Bad r) same
refused_by None None command q refusal h = absurd cc

pub six_placed : (comb member : List ℕ) (step : ℕ) (atoms : List (Bor (List ℕ))) (p : Placement) → length atoms ≡ 16 → name_fault 2 comb ≡ None → name_fault 3 member ≡ None
    → matrix_read step (numbers_as lists.Matrix (map (λ (a : Bor (List ℕ)). a.now) atoms)) ≡ Ok p → Edit (Place comb member p) ≡ sixteen_command comb member step (Some (map (λ (a : Bor (List ℕ)). a.now) atoms))
six_placed comb member step atoms p n fine good is =
    let numbers : List (Option ℤ) = numbers_as lists.Matrix (map (λ (a : Bor (List ℕ)). a.now) atoms) in
    placed_by (numbers_fault 4 step numbers) (placement_fault 4 (placement_read numbers)) comb member p (unwrap_or (placement_read numbers) identity) is ∙ sym (six_named comb member step atoms n fine good)

pub six_refused : (comb member : List ℕ) (step : ℕ) (atoms : List (Bor (List ℕ))) (refusal : Refusal) → length atoms ≡ 16 → name_fault 2 comb ≡ None → name_fault 3 member ≡ None
    → matrix_read step (numbers_as lists.Matrix (map (λ (a : Bor (List ℕ)). a.now) atoms)) ≡ Err refusal → Bad refusal ≡ sixteen_command comb member step (Some (map (λ (a : Bor (List ℕ)). a.now) atoms))
six_refused comb member step atoms refusal n fine good is =
    let numbers : List (Option ℤ) = numbers_as lists.Matrix (map (λ (a : Bor (List ℕ)). a.now) atoms) in
    refused_by (numbers_fault 4 step numbers) (placement_fault 4 (placement_read numbers)) (placed comb member numbers) (unwrap_or (placement_read numbers) identity) refusal is
    ∙ sym (six_named comb member step atoms n fine good)
