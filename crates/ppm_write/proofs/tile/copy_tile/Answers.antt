use Rattle.ppm_write.proofs.tile.copy_tile.Goals as goal

pub returns : goal.returns
returns c = c.copy_tile.ensures 0
