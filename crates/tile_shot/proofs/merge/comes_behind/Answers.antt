use Rattle.std.proofs.Common.{rules}
use Rattle.tile_shot.proofs.Merging.{put_behind, behind_none, before_none}
use Rattle.tile_shot.proofs.merge.comes_behind.Goals as goal

pub returns-then-is_empty : goal.returns-then-is_empty
returns-then-is_empty c = λ e. behind_none c.args.pairs.now c.args.more.now (search rules)

pub returns-then-is_empty-2 : goal.returns-then-is_empty-2
returns-then-is_empty-2 c = λ e. before_none c.args.pairs.now c.args.more.now (search rules)

pub returns : goal.returns
returns c = put_behind c.args.pairs.now c.args.more.now _ _ c.comes_before.result c.requires.rising c.comes_before.ensures
