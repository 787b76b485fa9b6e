use Rattle.std.proofs.Common.{◌≡◌, ◌≤◌, ◌++◌, ◌∙◌, ℕ, Some, None, ap, sym, length, arith, rules}
use Rattle.std.specs.List.{slice_get}
use Rattle.transcript.specs.Lines.{text_of}
use Rattle.put_form.specs.Written.{object_lines}
use Rattle.asc_form.specs.Written.{written}
use Rattle.asc_form.proofs.WritingLaws.{text_more, text_first, there_is}
use Rattle.asc_form.proofs.writing.write_asc.Goals as goal
use Rattle.asc_form.proofs.writing.write_asc.Goals.{in-Some+in_ok-write_put, in_default}

pub returns-then-len-room-clause-none : goal.returns-then-len-room-clause-none
returns-then-len-room-clause-none c =
    let begun : length c.loop-place.text.items ≤ length (written c.args.directory.now) =
    omega (arith, ap (length {A = ℕ}) c.loop-place.invariant, text_first c.args.directory.now.title c.args.directory.now.objects c.loop-place.place) in
    omega (arith, begun, c.len.ensures, c.if-len-room.true)

pub loop-place-preserved : goal.loop-place-preserved
loop-place-preserved c =
    elim c.match-at.branch [
      | in-Some+in_ok-write_put w ↦
          let there : slice_get c.args.directory.now.objects c.loop-place.place ≡ Some (w.in-Some.name.now, w.in-Some.object.now) = search rules in
          let new : c.match-at.text.items ≡ c.loop-place.text.items ++ text_of (object_lines w.in-Some.name.now w.in-Some.object.now) = search rules in
          new
          ∙ ap (λ text. text ++ text_of (object_lines w.in-Some.name.now w.in-Some.object.now)) c.loop-place.invariant
          ∙ sym (text_more c.args.directory.now.title c.args.directory.now.objects c.loop-place.place w.in-Some.name.now w.in-Some.object.now there)
      | in_default w ↦
          let gone : slice_get c.args.directory.now.objects c.loop-place.place ≡ None = search rules in
          absurd (there_is c.args.directory.now.objects c.loop-place.place (omega (arith, c.loop-place-test.true, c.len-place-end.ensures.value)) gone)
    ]
