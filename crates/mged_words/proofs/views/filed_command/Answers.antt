use Rattle.std.proofs.Common.{ap, sym, subst, ◌∙◌, [], List, ℕ, Option, Some, get_or, drop, map, take, arith}
use Rattle.std.specs.Borrow.{Bor}
use Rattle.lattice_core.specs.declared.ray.Dir.{Dir}
use Rattle.command_set.specs.declared.command.Command.{Command}
use Rattle.mged_words.specs.Commands.{file_command}
use Rattle.mged_words.specs.Readings.{IsRead, six_numbers}
use Rattle.mged_words.specs.declared.views.FileShoot.{FileShoot}
use Rattle.mged_words.proofs.ViewLines.{filed_short, filed_long}
use Rattle.mged_words.proofs.CommandLaws.{rest_from}
use Rattle.mged_words.proofs.views.filed_command.Goals as goal

-- the command of a direction and of these names
abbrev view_with : FileShoot → List (Bor (List ℕ)) → Option Dir → List (Bor (List ℕ)) → Command
view_with what atoms dir names =
    file_command what (get_or atoms 0 (record { ref_ptr = (0, 0); now = [] })).now dir (six_numbers (map (λ (a : Bor (List ℕ)). a.now) (take 6 (drop 2 atoms)))) (map (λ (a : Bor (List ℕ)). a.now) names)

pub returns-then-atoms-lt9 : goal.returns-then-atoms-lt9
returns-then-atoms-lt9 c = filed_short c.args.what c.args.atoms.now c.if-atoms-lt9.true

pub returns-in-Some : goal.returns-in-Some
returns-in-Some c =
    let atoms : List (Bor (List ℕ)) = c.args.atoms.now in
    let none : Bor (List ℕ) = record { ref_ptr = (0, 0); now = [] } in
    let same = ap (view_with c.args.what atoms (Some c.in-Some.dir)) (rest_from 8 atoms) ∙ ap (λ (o : Option Dir). view_with c.args.what atoms o (drop 8 atoms)) c.in-Some.ensures ∙ sym (filed_long c.args.what atoms none (omega (arith, c.if-atoms-lt9.false))) in
    subst (λ (command : Command). IsRead c.file_command.result command) same c.file_command.ensures

pub returns-in-None : goal.returns-in-None
returns-in-None c =
    let atoms : List (Bor (List ℕ)) = c.args.atoms.now in
    let none : Bor (List ℕ) = record { ref_ptr = (0, 0); now = [] } in
    ap (λ (o : Option Dir). view_with c.args.what atoms o (drop 8 atoms)) c.in-None.ensures ∙ sym (filed_long c.args.what atoms none (omega (arith, c.if-atoms-lt9.false)))
