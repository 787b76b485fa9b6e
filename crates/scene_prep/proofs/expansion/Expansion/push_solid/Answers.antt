use Rattle.std.proofs.Common.{rules}
use Rattle.scene_prep.proofs.Expansions.{one_more}
use Rattle.scene_prep.proofs.expansion.Expansion.push_solid.Goals as goal

pub returns : goal.returns
returns c = record {
  nodes = search rules;
  solids = one_more c.args.self.now.solids.items c.push.new.self.items c.in_ok-placed.placed _ (search rules) c.in_ok-placed.ensures;
}
