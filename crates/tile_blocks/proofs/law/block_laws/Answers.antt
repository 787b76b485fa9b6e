use Rattle.tile_blocks.proofs.WholeLaws.{made_of_tiles}
use Rattle.tile_blocks.proofs.BlockLaws.{tiles_of_blocks, are_blocks, made_of_blocks}
use Rattle.tile_blocks.proofs.law.block_laws.Goals as goal

pub returns-clause-made : goal.returns-clause-made
returns-clause-made c = λ depth. made_of_tiles 0 depth c.args.view.now c.tiles-tiles.ensures.tiled

pub returns-clause-tiles : goal.returns-clause-tiles
returns-clause-tiles c = λ depth. tiles_of_blocks 0 depth c.args.view.now

pub returns-clause-whole : goal.returns-clause-whole
returns-clause-whole c = λ depth. are_blocks 0 depth c.args.view.now

pub returns-clause-blocks : goal.returns-clause-blocks
returns-clause-blocks c = λ depth. made_of_blocks 0 depth c.args.view.now (made_of_tiles 0 depth c.args.view.now c.tiles-tiles.ensures.tiled)
