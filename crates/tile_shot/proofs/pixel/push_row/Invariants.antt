use Rattle.std.proofs.Common.{◌≡◌, ◌++◌}
use Rattle.ppm_write.specs.Pictures.{row_bytes}
use Rattle.tile_shot.specs.Pixels.{parts_of}
use Rattle.tile_shot.proofs.pixel.push_row.Given as goal

abbrev pub invariant-loop-across : goal.invariant-loop-across
invariant-loop-across l = l.bytes.items ≡ l.initial.bytes.items ++ row_bytes (parts_of l.scene l.view) l.span.column l.across l.row
