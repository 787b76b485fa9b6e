use Rattle.std.proofs.Common.{◌≡◌, take}
use Rattle.directory.proofs.settling.list_of.Given as goal

abbrev pub invariant-loop-place : goal.invariant-loop-place
invariant-loop-place l = l.list ≡ take l.place l.objects
