use Rattle.std.proofs.Common.{rules, ◌≡◌, ◌∙◌, ◌++◌, sym}
use Rattle.std.proofs.lemmas.Result.{IfOk-weaker}
use Rattle.tile_shot.specs.Merges.{merged}
use Rattle.tile_shot.proofs.Reporting.{adds_up}
use Rattle.tile_shot.proofs.merge.merge_pairs.Goals as goal

pub returns-then-comes_behind-clause-merged : goal.returns-then-comes_behind-clause-merged
returns-then-comes_behind-clause-merged c =
    let behind : merged c.args.into.now.items c.args.more.now ≡ c.args.into.now.items ++ c.args.more.now = search rules in
    IfOk-weaker c.add_all.result (λ _. c.add_all.new.pairs.items ≡ c.args.into.now.items ++ c.args.more.now) (λ _. c.add_all.new.pairs.items ≡ merged c.args.into.now.items c.args.more.now) (λ v h. h ∙ sym behind) c.add_all.ensures.added

pub returns-then-comes_behind-clause-adds : goal.returns-then-comes_behind-clause-adds
returns-then-comes_behind-clause-adds c =
    let behind : merged c.args.into.now.items c.args.more.now ≡ c.args.into.now.items ++ c.args.more.now = search rules in
    IfOk-weaker c.add_all.result (λ _. c.add_all.new.pairs.items ≡ c.args.into.now.items ++ c.args.more.now) _ (λ v h. adds_up c.args.into.now.items c.args.more.now c.add_all.new.pairs.items (h ∙ sym behind)) c.add_all.ensures.added

pub returns-clause-adds : goal.returns-clause-adds
returns-clause-adds c = adds_up c.args.into.now.items c.args.more.now c.in_ok-into.field-0.items (search rules)
