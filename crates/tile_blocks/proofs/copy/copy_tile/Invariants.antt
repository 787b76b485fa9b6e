use Rattle.tile_blocks.specs.Steps.{AreRowsCopied}
use Rattle.tile_blocks.proofs.copy.copy_tile.Given as goal

abbrev pub invariant-loop-row : goal.invariant-loop-row
invariant-loop-row g l = (z : _) → AreRowsCopied z l.depth l.view.w l.span l.row l.part l.initial.all l.all
