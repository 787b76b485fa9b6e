use Rattle.std.proofs.Common.{◌≡◌, ◌<◌, length, arith, None, Some}
use Rattle.std.specs.Prelude.{slice_get}
use Rattle.directory.specs.Depths.{depth_kept}
use Rattle.directory.proofs.RoundLemmas.{names_more, not_past}
use Rattle.directory.proofs.relax.greatest_among.Goals as goal
use Rattle.directory.proofs.relax.greatest_among.Goals.{in-Some, in_default}

pub loop-place-preserved : goal.loop-place-preserved
loop-place-preserved c =
    elim c.match-at.branch [
      | in-Some w ↦ let at : Some w.in-Some.name.now ≡ slice_get c.args.names.now c.loop-place.place = w.in-Some.ensures in
          omega (arith, w.most-is, w.larger-most.ensures, w.of.ensures, c.loop-place.invariant, names_more (depth_kept c.args.depths.now) c.args.names.now c.loop-place.place w.in-Some.name.now at)
      | in_default w ↦ let none : None ≡ slice_get c.args.names.now c.loop-place.place = w.in_default.ensures in
          let less : c.loop-place.place < length c.args.names.now = omega (arith, c.loop-place-test.true, c.len-place-end.ensures) in
          absurd (not_past c.args.names.now c.loop-place.place none less)
    ]
