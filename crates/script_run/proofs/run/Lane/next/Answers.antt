use Rattle.std.proofs.Common.{◌≡◌, ◌<◌, ◌∷◌, ◌∙◌, List, ap, ap₂, arith, drop, get_or, length, map, sym}
use Rattle.std.proofs.lemmas.List.{length-drop, length-map}
use Rattle.std.specs.Arc.{arc_value}
use Rattle.command_set.specs.declared.command.Command.{Command}
use Rattle.session_run.specs.declared.answer.Answer.{Answer}
use Rattle.script_run.proofs.LaneLaws.{first_left}
use Rattle.script_run.proofs.run.Lane.next.Goals as goal

pub returns-clause-answered : goal.returns-clause-answered
returns-clause-answered g c =
    let commands = c.args.self.now.commands.items in
    let answers : List Answer = c.args.self.now.answers in
    let next = c.index-command.result.now in
    let within : length answers < length commands = omega (arith, c.requires.some, length-drop (length answers) (map arc_value commands), length-map commands arc_value) in
    let at : next ≡ get_or commands (length answers) next = c.index-command.ensures ∙ ap (λ (l : List Answer). get_or commands (length l) next) c.items-next.ensures in
    record {
      command = c.deref.result.now;
      answer = c.answer_command-answer.result;
      left = first_left arc_value commands answers c.answer_command-answer.result next within at
          ∙ ap₂ (λ (d : Command) (l : List Answer). d ∷ drop (length l) (map arc_value commands)) (sym c.deref.ensures) (sym c.in_ok-push.ensures.ok);
      answers = c.in_ok-push.ensures.ok;
      answer_is = c.answer_command-answer.ensures.answer;
      book = c.answer_command-answer.ensures.book;
      own = c.answer_command-answer.ensures.own;
    }
