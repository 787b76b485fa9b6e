use Rattle.std.proofs.Common.{arith}
use Rattle.std.proofs.lemmas.Result.{IfOk-weaker}
use Rattle.scene_prep.proofs.Finishing.{one_solid, written_first}
use Rattle.scene_prep.proofs.body.solid_body.Goals as goal

pub finish-requires : goal.finish-requires
finish-requires c = (
  one_solid c.args.solid.now c.args.key.now.by,
  written_first c.new-out.result c.push_solid.new.self (one_solid c.args.solid.now c.args.key.now.by) c.new-out.ensures.nodes c.new-out.ensures.solids c.in_ok-push_solid.ensures,
  omega arith,
)

pub returns : goal.returns
returns c =
    IfOk-weaker c.finish.result _ _
    (λ body h. h (one_solid c.args.solid.now c.args.key.now.by)
    (written_first c.new-out.result c.push_solid.new.self (one_solid c.args.solid.now c.args.key.now.by) c.new-out.ensures.nodes c.new-out.ensures.solids c.in_ok-push_solid.ensures))
    c.finish.ensures
