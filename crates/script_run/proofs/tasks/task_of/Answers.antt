use Rattle.std.proofs.Common.{ap, arith, map, length}
use Rattle.std.proofs.lemmas.List.{length-map}
use Rattle.std.specs.Arc.{arc_value}
use Rattle.transcript.proofs.Readable.{lane_no_longer}
use Rattle.mged_words.specs.Entries.{command_entry}
use Rattle.script_run.proofs.tasks.task_of.Goals as goal

pub overflow_cast-calls : goal.overflow_cast-calls
overflow_cast-calls c =
    omega (
      arith,
      c.len-calls.ensures,
      ap length c.in_ok-commands.ensures,
      length-map c.in_ok-commands.commands.items arc_value,
      lane_no_longer (map command_entry c.args.script.now) c.args.number,
      length-map c.args.script.now command_entry,
      c.requires.few,
    )
