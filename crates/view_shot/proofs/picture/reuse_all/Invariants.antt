use Rattle.std.proofs.Common.{◌≡◌, drop, take}
use Rattle.view_shot.specs.Kept.{in_turn, moved}
use Rattle.view_shot.specs.Steps.{AreKept, found, names_of}
use Rattle.view_shot.proofs.picture.reuse_all.Given as goal

abbrev pub invariant-loop-i : goal.invariant-loop-i
invariant-loop-i l = record {
  named : names_of l.slots.items ≡ take l.i l.plan.names.items;
  kept : AreKept l.kept (found (drop l.i l.plan.names.items));
  moves : in_turn moved l.kept (found (drop l.i l.plan.names.items)) ≡ in_turn moved l.initial.kept (found l.plan.names.items);
  so_far : l.kept ≡ in_turn moved l.initial.kept (found (take l.i l.plan.names.items));
}
