use Rattle.std.proofs.Common.{◌≡◌, Some, None, arith, rules}
use Rattle.std.specs.List.{slice_get}
use Rattle.asc_form.proofs.WritingLaws.{there_is}
use Rattle.text_laws.specs.TextAgain.{IsEntryAgain}
use Rattle.object_set.proofs.Each.{all_found, all_done}
use Rattle.text_laws.proofs.text.recall_lines.Goals as goal
use Rattle.text_laws.proofs.text.recall_lines.Goals.{in-Some, in_default}

pub loop-place-preserved : goal.loop-place-preserved
loop-place-preserved c =
    elim c.match-at.branch [
      | in-Some w ↦
          let there : slice_get c.args.directory.now.objects c.loop-place.place ≡ Some (w.in-Some.name.now, w.in-Some.object.now) = search rules in
          all_found IsEntryAgain c.args.directory.now.objects c.loop-place.place (w.in-Some.name.now, w.in-Some.object.now) there c.loop-place.invariant w.put_line_reads_again.ensures
      | in_default w ↦
          let gone : slice_get c.args.directory.now.objects c.loop-place.place ≡ None = search rules in
          absurd (there_is c.args.directory.now.objects c.loop-place.place (omega (arith, c.loop-place-test.true, c.len-place-end.ensures.value)) gone)
    ]

pub returns : goal.returns
returns c = all_done IsEntryAgain c.args.directory.now.objects c.loop-place.place (omega (arith, c.loop-place-test.false, c.len-place-end.ensures.value, c.loop-place.auto.place-end)) c.loop-place.invariant
