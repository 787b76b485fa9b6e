use Rattle.std.proofs.Common.{◌≡◌}
use Rattle.ppm_write.specs.Pictures.{block_bytes}
use Rattle.tile_shot.specs.Pixels.{parts_of}
use Rattle.tile_shot.proofs.pixel.pixels.Given as goal

abbrev pub invariant-loop-down : goal.invariant-loop-down
invariant-loop-down l = l.bytes.items ≡ block_bytes (parts_of l.scene l.view) (record { column = l.span.column; row = l.span.row; w = l.span.w; h = l.down })
