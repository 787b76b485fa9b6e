use Rattle.edit_core.specs.Steps.{Exchanges}
use Rattle.std.proofs.Common.{subst, sym, Result}
use Rattle.command_set.specs.declared.refusal.Refusal.{Refusal}
use Rattle.edit_core.proofs.Answered.{less_fault, exchanges}
use Rattle.edit_core.proofs.objects.exchange.Goals as goal

pub returns : goal.returns
returns c =
    let d = c.args.directory.now in
    let none = less_fault d.objects c.args.name.now c.args.object c.len-count.ensures.sound c.requires.there c.requires.weight c.requires.names in
    let R : Result (Unit {0}) Refusal → Type 0 = λ r. Exchanges d c.args.name.now c.args.object r c.replace-replaced.new.self in
    subst R (sym c.directory_answer.ensures) (exchanges d c.replace-replaced.new.self c.args.name.now c.args.object c.replace-replaced.result none c.replace-replaced.ensures.exact c.replace-replaced.ensures.means c.replace-replaced.ensures.title)
