use Rattle.std.proofs.Common.{All, subst}
use Rattle.object_set.specs.Named.{HasName}
use Rattle.text_laws.proofs.LineFits.{fit_tree}
use Rattle.text_laws.proofs.line.recall_tree.Goals as goal

pub returns : goal.returns
returns c = fit_tree c.args.tree.now (subst (All HasName) c.nodes.ensures.tree c.recall_names.ensures) c.requires.near c.nodes.ensures.few
