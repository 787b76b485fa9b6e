use Rattle.area_tool.proofs.copy.copy_present.Goals as goal

pub returns : goal.returns
returns c = c.copy_tile.ensures 0
