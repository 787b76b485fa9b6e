use Rattle.std.proofs.Common.{ap, sym, subst, ◌∙◌, [], List, ℕ, Option, Some, drop, map, take, arith}
use Rattle.std.specs.Borrow.{Bor}
use Rattle.lattice_core.specs.declared.ray.Dir.{Dir}
use Rattle.command_set.specs.declared.command.Command.{Command}
use Rattle.word_values.specs.Kinds.{numbers_as}
use Rattle.word_values.specs.declared.atoms.NumberList.TheVariants as lists
use Rattle.mged_words.specs.Commands.{shot_command}
use Rattle.mged_words.specs.Readings.{IsRead}
use Rattle.mged_words.proofs.LineLaws.{nirt_short, nirt_long}
use Rattle.mged_words.proofs.CommandLaws.{rest_from}
use Rattle.mged_words.proofs.shot.nirt_command.Goals as goal

-- the command of a direction and of these names
abbrev shot_with : List (Bor (List ℕ)) → Option Dir → List (Bor (List ℕ)) → Command
shot_with atoms dir names = shot_command (numbers_as lists.Point (map (λ (a : Bor (List ℕ)). a.now) (take 3 atoms))) dir (map (λ (a : Bor (List ℕ)). a.now) names)

pub returns-then-atoms-lt5 : goal.returns-then-atoms-lt5
returns-then-atoms-lt5 c = nirt_short c.args.atoms.now c.if-atoms-lt5.true

pub returns-in-Some : goal.returns-in-Some
returns-in-Some c =
    let atoms : List (Bor (List ℕ)) = c.args.atoms.now in
    let none : Bor (List ℕ) = record { ref_ptr = (0, 0); now = [] } in
    let same = ap (shot_with atoms (Some c.in-Some.dir)) (rest_from 4 atoms) ∙ ap (λ (o : Option Dir). shot_with atoms o (drop 4 atoms)) c.in-Some.ensures ∙ sym (nirt_long atoms none (omega (arith, c.if-atoms-lt5.false))) in
    subst (λ (command : Command). IsRead c.shot_command.result command) same c.shot_command.ensures

pub returns-in-None : goal.returns-in-None
returns-in-None c =
    let atoms : List (Bor (List ℕ)) = c.args.atoms.now in
    let none : Bor (List ℕ) = record { ref_ptr = (0, 0); now = [] } in
    ap (λ (o : Option Dir). shot_with atoms o (drop 4 atoms)) c.in-None.ensures ∙ sym (nirt_long atoms none (omega (arith, c.if-atoms-lt5.false)))
