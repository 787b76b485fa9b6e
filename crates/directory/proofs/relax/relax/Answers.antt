use Rattle.std.proofs.Common.{◌≡◌, ◌+◌, ◌∙◌, ℕ, suc, List, [], ap, sym, subst, arith}
use Rattle.name_core.specs.declared.name.Name.{Name}
use Rattle.directory.specs.Edits.{judged_by}
use Rattle.directory.specs.Depths.{depth_kept, IsRound}
use Rattle.directory.proofs.RoundLemmas.{begin, next_round, none_left, all_turns, judged_round}
use Rattle.directory.proofs.TracedLemmas.{known_after, known_on}
use Rattle.directory.proofs.relax.relax.Goals as goal
use Rattle.directory.proofs.relax.relax.Goals.{else-loop-turn-test, then-loop-turn-test+then-len-eq0-2}

pub returns-then-len-eq0-clause-known : goal.returns-then-len-eq0-clause-known
returns-then-len-eq0-clause-known c =
    none_left c.args.list.now 0 (depth_kept c.args.depths) c.args.touched [] (begin c.args.list.now (depth_kept c.args.depths) c.args.touched c.requires.begins) (omega (arith, c.len.ensures, c.if-len-eq0.true))

pub returns-then-len-eq0-clause-judged : goal.returns-then-len-eq0-clause-judged
returns-then-len-eq0-clause-judged c edited =
    judged_round c.args.list.now 0 (depth_kept c.args.depths) c.args.touched [] [] (begin c.args.list.now (depth_kept c.args.depths) c.args.touched c.requires.begins) (returns-then-len-eq0-clause-known c) edited

pub loop-turn-init : goal.loop-turn-init
loop-turn-init c =
    let first = subst (λ (l : List Name). IsRound c.args.list.now 0 (depth_kept c.args.depths) c.args.touched [] l) (sym c.new.ensures)
    (begin c.args.list.now (depth_kept c.args.depths) c.args.touched c.requires.begins) in
    record {
      round = next_round c.args.list.now 0 (depth_kept c.in_ok-round.round.depths) c.in_ok-round.round.next c.in_ok-round.round.high (c.in_ok-round.ensures.round 0 (omega arith) tt first) (omega arith);
      known = known_after c.args.list.now c.only_name-edited.result c.args.touched (depth_kept c.args.depths) (depth_kept c.in_ok-round.round.depths) c.only_name-edited.ensures c.requires.begins
          (λ e h. c.in_ok-round.ensures.traced e tt h);
    }

pub loop-turn-preserved : goal.loop-turn-preserved
loop-turn-preserved c =
    let next : suc c.loop-turn._turn ≡ c.loop-turn._turn + 1 = omega arith in
    record {
      round = subst (λ (n : ℕ). IsRound c.args.list.now n (depth_kept c.in_ok-round-2.round.depths) c.in_ok-round-2.round.next [] c.in_ok-round-2.round.high) next
          (next_round c.args.list.now c.loop-turn._turn (depth_kept c.in_ok-round-2.round.depths) c.in_ok-round-2.round.next c.in_ok-round-2.round.high
          (c.in_ok-round-2.ensures.round c.loop-turn._turn c.loop-turn-test.true c.loop-turn.invariant.known c.loop-turn.invariant.round) c.loop-turn-test.true);
      known = known_on c.args.list.now c.only_name-edited.result c.loop-turn.round.next (depth_kept c.loop-turn.round.depths) (depth_kept c.in_ok-round-2.round.depths)
          (λ e h. c.in_ok-round-2.ensures.traced e c.loop-turn.invariant.known h) c.loop-turn.invariant.known;
    }

pub returns-clause-known : goal.returns-clause-known
returns-clause-known c =
    elim c.loop-turn-test.branch [
      | else-loop-turn-test w ↦ all_turns c.args.list.now c.loop-turn._turn (depth_kept c.loop-turn.round.depths) c.loop-turn.round.next c.loop-turn.round.high c.loop-turn.invariant.round
          (omega (arith, w.loop-turn-test.false, c.loop-turn.auto._turn-end))
      | then-loop-turn-test+then-len-eq0-2 w ↦ none_left c.args.list.now c.loop-turn._turn (depth_kept c.loop-turn.round.depths) c.loop-turn.round.next c.loop-turn.round.high c.loop-turn.invariant.round
          (omega (arith, w.len-in-loop-turn.ensures, w.if-len-eq0-2.true))
    ]

pub returns-clause-judged : goal.returns-clause-judged
returns-clause-judged c edited =
    judged_round c.args.list.now c.loop-turn._turn (depth_kept c.loop-turn.round.depths) c.loop-turn.round.next [] c.loop-turn.round.high c.loop-turn.invariant.round (returns-clause-known c) edited
    ∙ ap (λ (n : ℕ). judged_by n edited) (sym c.greatest_among-most.ensures)
