use Rattle.std.proofs.Common.{arith}
use Rattle.std.proofs.lemmas.Int.{ints}
use Rattle.std.specs.Int.RustNames.{unsigned_abs}
use Rattle.lattice_core.specs.declared.limit.TheConstants.{FAR}
use Rattle.surd_order.proofs.SquareLaws.{gcd_one}
use Rattle.plain_shot.proofs.cut.ray_end.Goals as goal

pub new-requires : goal.new-requires
new-requires c = record {
  in_range = record { over = omega (arith, ints); positive = omega (arith, ints); under = omega (arith, ints) };
  spelled = (omega (arith, ints), gcd_one (unsigned_abs FAR));
}
