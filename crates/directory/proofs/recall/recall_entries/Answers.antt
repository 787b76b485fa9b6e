use Rattle.std.proofs.Common.{◌≡◌, ◌∙◌, Some, None, sym, arith, rules}
use Rattle.std.specs.List.{slice_get}
use Rattle.std.proofs.lemmas.Option.{none-some}
use Rattle.object_set.specs.Named.{IsNamedEntry}
use Rattle.object_set.proofs.Each.{all_found, all_done}
use Rattle.directory.proofs.FindLemmas.{some_at}
use Rattle.directory.proofs.recall.recall_entries.Goals as goal
use Rattle.directory.proofs.recall.recall_entries.Goals.{in-Some, in_default}

pub loop-place-preserved : goal.loop-place-preserved
loop-place-preserved c =
    elim c.match-at.branch [
      | in-Some w ↦
          let there : slice_get c.args.directory.now.objects c.loop-place.place ≡ Some (w.in-Some.name.now, w.in-Some.object.now) = search rules in
          all_found IsNamedEntry c.args.directory.now.objects c.loop-place.place (w.in-Some.name.now, w.in-Some.object.now) there c.loop-place.invariant w.recall_entry.ensures
      | in_default w ↦
          let gone : slice_get c.args.directory.now.objects c.loop-place.place ≡ None = search rules in
          let one = some_at c.args.directory.now.objects c.loop-place.place (omega (arith, c.loop-place-test.true, c.len-place-end.ensures.value)) in
          absurd (none-some (one.0, one.1) (sym gone ∙ one.2))
    ]

pub returns : goal.returns
returns c = all_done IsNamedEntry c.args.directory.now.objects c.loop-place.place (omega (arith, c.loop-place-test.false, c.len-place-end.ensures.value, c.loop-place.auto.place-end)) c.loop-place.invariant
