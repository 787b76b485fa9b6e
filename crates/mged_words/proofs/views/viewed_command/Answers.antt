use Rattle.std.proofs.Common.{ap, sym, subst, ◌∙◌, [], List, ℕ, Option, Some, drop, map, take, arith}
use Rattle.std.specs.Borrow.{Bor}
use Rattle.lattice_core.specs.declared.ray.Dir.{Dir}
use Rattle.command_set.specs.declared.command.Command.{Command}
use Rattle.mged_words.specs.Commands.{view_command}
use Rattle.mged_words.specs.Readings.{IsRead, six_numbers}
use Rattle.mged_words.specs.declared.views.LineShoot.{LineShoot}
use Rattle.mged_words.proofs.ViewLines.{viewed_short, viewed_long}
use Rattle.mged_words.proofs.CommandLaws.{rest_from}
use Rattle.mged_words.proofs.views.viewed_command.Goals as goal

-- the command of a direction and of these names
abbrev view_with : LineShoot → List (Bor (List ℕ)) → Option Dir → List (Bor (List ℕ)) → Command
view_with what atoms dir names =
    view_command what dir (six_numbers (map (λ (a : Bor (List ℕ)). a.now) (take 6 (drop 1 atoms)))) (map (λ (a : Bor (List ℕ)). a.now) names)

pub returns-then-atoms-lt8 : goal.returns-then-atoms-lt8
returns-then-atoms-lt8 c = viewed_short c.args.what c.args.atoms.now c.if-atoms-lt8.true

pub returns-in-Some : goal.returns-in-Some
returns-in-Some c =
    let atoms : List (Bor (List ℕ)) = c.args.atoms.now in
    let none : Bor (List ℕ) = record { ref_ptr = (0, 0); now = [] } in
    let same = ap (view_with c.args.what atoms (Some c.in-Some.dir)) (rest_from 7 atoms) ∙ ap (λ (o : Option Dir). view_with c.args.what atoms o (drop 7 atoms)) c.in-Some.ensures ∙ sym (viewed_long c.args.what atoms none (omega (arith, c.if-atoms-lt8.false))) in
    subst (λ (command : Command). IsRead c.view_command.result command) same c.view_command.ensures

pub returns-in-None : goal.returns-in-None
returns-in-None c =
    let atoms : List (Bor (List ℕ)) = c.args.atoms.now in
    let none : Bor (List ℕ) = record { ref_ptr = (0, 0); now = [] } in
    ap (λ (o : Option Dir). view_with c.args.what atoms o (drop 7 atoms)) c.in-None.ensures ∙ sym (viewed_long c.args.what atoms none (omega (arith, c.if-atoms-lt8.false)))
