use Rattle.std.proofs.Common.{◌∙◌, sym, ap, arith}
use Rattle.object_pages.specs.Tallies.{count_on}
use Rattle.object_pages.proofs.TallyLemmas.{joined_room, joined_more, no_place, Counts}
use Rattle.object_pages.proofs.tally.Tally.and.Goals as goal
use Rattle.object_pages.proofs.tally.Tally.and.Goals.{in-Some+in_ok-joined, in_default}

pub add-requires : goal.add-requires
add-requires c =
    joined_room c.args.more.now c.loop-place.place c.in-Some.page c.in-Some.leaves (count_on c.loop-place.joined) (count_on c.args.self) c.len-place-end.ensures.distinct (sym c.in-Some.ensures) c.loop-place.invariant c.requires.room

pub loop-place-preserved : goal.loop-place-preserved
loop-place-preserved c =
    elim c.match-at.branch [
      | in-Some+in_ok-joined w ↦
          joined_more c.args.more.now c.loop-place.place w.in-Some.page w.in-Some.leaves (count_on c.loop-place.joined) (count_on c.args.self) (count_on c.match-at.joined)
          c.len-place-end.ensures.distinct (sym w.in-Some.ensures) c.loop-place.invariant (λ n. ap (λ (t : Counts). count_on t n) w.joined-is ∙ w.in_ok-joined.ensures n)
      | in_default w ↦ absurd (no_place c.args.more.now c.loop-place.place (sym w.in_default.ensures) (omega (arith, c.loop-place-test.true, c.len-place-end.ensures.value)))
    ]
