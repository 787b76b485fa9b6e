use Rattle.std.proofs.Common.{rules, ◌≤◌, ◌⊎◌, inl, inr, length, drop}
use Rattle.std.proofs.lemmas.Result.{IfOk-weaker, IfErr-weaker}
use Rattle.std.proofs.lemmas.List.{take_rest}
use Rattle.tile_shot.proofs.Merging.{rest_of_both, rest_is, rest_too_many}
use Rattle.tile_shot.specs.Merges.{merged}
use Rattle.tile_shot.proofs.merge.merged.Goals as goal
use Rattle.tile_shot.proofs.merge.merged.Goals.{then-loop-i-test+else-j-more, else-loop-i-test}

pub returns-clause-merged : goal.returns-clause-merged
returns-clause-merged c =
    let ended : (length c.args.pairs.now ≤ c.loop-i.i) ⊎ (length c.args.more.now ≤ c.loop-i.j) = elim c.loop-i-test.branch [ then-loop-i-test+else-j-more w ↦ inr (search rules) | else-loop-i-test w ↦ inl (search rules) ] in
    let rest = rest_of_both c.args.pairs.now c.args.more.now c.loop-i.i c.loop-i.j ended in
    IfOk-weaker c.with_rest.result _ _ (λ v h. rest_is (merged c.args.pairs.now c.args.more.now) c.loop-i.all.items (drop c.loop-i.i c.args.pairs.now) (drop c.loop-i.j c.args.more.now) _ c.loop-i.invariant.is rest v.items (simp take_rest at h)) c.with_rest.ensures.added

pub returns-clause-fault : goal.returns-clause-fault
returns-clause-fault c =
    let ended : (length c.args.pairs.now ≤ c.loop-i.i) ⊎ (length c.args.more.now ≤ c.loop-i.j) = elim c.loop-i-test.branch [ then-loop-i-test+else-j-more w ↦ inr (search rules) | else-loop-i-test w ↦ inl (search rules) ] in
    let rest = rest_of_both c.args.pairs.now c.args.more.now c.loop-i.i c.loop-i.j ended in
    IfErr-weaker c.with_rest.result _ _ (λ fault h. rest_too_many (merged c.args.pairs.now c.args.more.now) c.loop-i.all.items (drop c.loop-i.i c.args.pairs.now) (drop c.loop-i.j c.args.more.now) _ c.loop-i.invariant.is rest fault (simp take_rest at h)) c.with_rest.ensures.fault
