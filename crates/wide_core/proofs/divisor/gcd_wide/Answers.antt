use Rattle.std.proofs.lemmas.Nat.Gcd.{IsGcd-from_mod, IsGcd-from_zero}
use Rattle.wide_core.proofs.divisor.gcd_wide.Goals as goal

pub loop-y-preserved : goal.loop-y-preserved
loop-y-preserved c = λ g h. c.loop-y.invariant g (IsGcd-from_mod c.loop-y.x c.loop-y.y g h)

pub returns-then-y-eq0 : goal.returns-then-y-eq0
returns-then-y-eq0 c = c.loop-y.invariant c.loop-y.x (IsGcd-from_zero c.loop-y.x c.loop-y.y c.if-y-eq0.true)

pub returns-else-y-eq0 : goal.returns-else-y-eq0
returns-else-y-eq0 c = c.loop-y.invariant c.gcd_small.result (IsGcd-from_mod c.loop-y.x c.loop-y.y c.gcd_small.result c.gcd_small.ensures)
