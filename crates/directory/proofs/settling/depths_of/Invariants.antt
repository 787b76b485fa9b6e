use Rattle.directory.proofs.SettleLemmas.{HaveDepths}
use Rattle.directory.proofs.settling.depths_of.Given as goal

abbrev pub invariant-loop-place : goal.invariant-loop-place
invariant-loop-place l = HaveDepths l.objects l.place l.levels
