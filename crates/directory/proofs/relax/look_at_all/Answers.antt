use Rattle.std.proofs.Common.{◌≡◌, ◌<◌, ◌+◌, List, [], ◌∷◌, drop, length, sym, subst, arith, None, Some}
use Rattle.std.specs.Prelude.{slice_get}
use Rattle.std.proofs.lemmas.List.{drop_all}
use Rattle.name_core.specs.declared.name.Name.{Name}
use Rattle.directory.specs.declared.relax.Round.{Round}
use Rattle.directory.specs.Depths.{depth_kept, IsRound, IsTraced, IsTracedIf}
use Rattle.directory.proofs.RoundLemmas.{name_next, not_past}
use Rattle.directory.proofs.TracedLemmas.{known_on}
use Rattle.directory.proofs.relax.look_at_all.Goals as goal
use Rattle.directory.proofs.relax.look_at_all.Goals.{in-Some+in_ok-round, in_default}

pub loop-place-preserved : goal.loop-place-preserved
loop-place-preserved c =
    elim c.match-at.branch [
      | in-Some+in_ok-round w ↦
          let at : Some w.in-Some.name.now ≡ slice_get c.args.names.now c.loop-place.place = w.in-Some.ensures in
          let next = name_next c.args.names.now c.loop-place.place w.in-Some.name.now at in
          record {
            round = λ turns few known h.
                subst (λ (r : Round). IsRound c.args.list.now turns (depth_kept r.depths) (drop (c.loop-place.place + 1) c.args.names.now) r.next r.high) (sym w.round-is)
                (w.in_ok-round.ensures.round turns (drop (c.loop-place.place + 1) c.args.names.now) few (c.loop-place.invariant.known known)
                (subst (λ (l : List Name). IsRound c.args.list.now turns (depth_kept c.loop-place.round.depths) l c.loop-place.round.next c.loop-place.round.high) next (c.loop-place.invariant.round turns few known h)));
            known = λ known.
                subst (λ (r : Round). IsTracedIf c.args.list.now c.args.edited.now (depth_kept r.depths)) (sym w.round-is)
                (known_on c.args.list.now c.args.edited.now (w.in-Some.name.now ∷ []) (depth_kept c.loop-place.round.depths) (depth_kept w.in_ok-round.round.depths)
                (λ e h. w.in_ok-round.ensures.traced e [] (c.loop-place.invariant.known known) h) (c.loop-place.invariant.known known));
            traced = λ e known h.
                subst (λ (r : Round). IsTraced c.args.list.now e (drop (c.loop-place.place + 1) c.args.names.now) (depth_kept r.depths)) (sym w.round-is)
                (w.in_ok-round.ensures.traced e (drop (c.loop-place.place + 1) c.args.names.now) (c.loop-place.invariant.known known)
                (subst (λ (l : List Name). IsTraced c.args.list.now e l (depth_kept c.loop-place.round.depths)) next (c.loop-place.invariant.traced e known h)));
          }
      | in_default w ↦
          let none : None ≡ slice_get c.args.names.now c.loop-place.place = w.in_default.ensures in
          let less : c.loop-place.place < length c.args.names.now = omega (arith, c.loop-place-test.true, c.len-place-end.ensures) in
          absurd (not_past c.args.names.now c.loop-place.place none less)
    ]

pub returns-clause-round : goal.returns-clause-round
returns-clause-round c turns few known h =
    subst (λ (l : List Name). IsRound c.args.list.now turns (depth_kept c.loop-place.round.depths) l c.loop-place.round.next c.loop-place.round.high)
    (drop_all c.loop-place.place c.args.names.now (omega (arith, c.loop-place-test.false, c.len-place-end.ensures))) (c.loop-place.invariant.round turns few known h)

pub returns-clause-traced : goal.returns-clause-traced
returns-clause-traced c e known h =
    subst (λ (l : List Name). IsTraced c.args.list.now e l (depth_kept c.loop-place.round.depths))
    (drop_all c.loop-place.place c.args.names.now (omega (arith, c.loop-place-test.false, c.len-place-end.ensures))) (c.loop-place.invariant.traced e known h)
