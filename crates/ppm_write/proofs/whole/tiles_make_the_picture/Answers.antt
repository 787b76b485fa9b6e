use Rattle.ppm_write.proofs.whole.tiles_make_the_picture.Goals as goal

pub returns-clause-made : goal.returns-clause-made
returns-clause-made c = c.block_laws.ensures.made 3

pub returns-clause-tiles : goal.returns-clause-tiles
returns-clause-tiles c = c.block_laws.ensures.tiles 3

pub returns-clause-whole : goal.returns-clause-whole
returns-clause-whole c = c.block_laws.ensures.whole 3

pub returns-clause-bytes : goal.returns-clause-bytes
returns-clause-bytes c = c.block_laws.ensures.blocks 3
