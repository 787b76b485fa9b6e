use Rattle.session_run.proofs.PresentLaws.{edges_told, taken_back}
use Rattle.std.proofs.Common.{◌∙◌, arith, rules}
use Rattle.session_run.proofs.present.edges_of.Goals as goal

pub returns-clause-pixels : goal.returns-clause-pixels
returns-clause-pixels c =
    taken_back c.edges-white.new.picture c.in_ok-pixels.pixels.items c.in_ok-pixels.pixels.len (search rules) (omega (arith, c.edges-white.ensures.picture.size, c.in_ok-pixels.ensures.len))
    ∙ c.edges-white.ensures.bytes ∙ (edges_told c.args.scene.now c.args.view.now c.args.all.now (c.tile_laws.ensures.whole c.args.view.now) c.requires.all c.edge_laws.ensures.same).1
