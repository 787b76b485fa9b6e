use Rattle.std.proofs.Common.{◌≡◌, subst, sym}
use Rattle.transcript.specs.Run.{answer_of}
use Rattle.command_set.specs.declared.command.Command.{Command}
use Rattle.session_merge.specs.Answered.{shown_as}
use Rattle.session_run.specs.Answers.{core_answer, core_book}
use Rattle.session_run.specs.Replies.{core_rules}
use Rattle.session_run.proofs.answer.answer_command.Goals as goal

pub returns-in-Edit-clause-answer : goal.returns-in-Edit-clause-answer
returns-in-Edit-clause-answer g c =
    subst (λ (command : Command). core_answer c.answer_edit.result ≡ answer_of core_rules (core_book c.args.book.now) c.args.own.now (shown_as command (core_answer c.answer_edit.result)))
    (sym c.in-Edit.is) (c.answer_edit.ensures.answer c.args.own.now)
