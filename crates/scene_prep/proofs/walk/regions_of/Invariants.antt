use Rattle.std.proofs.Common.{◌≡◌, [], take}
use Rattle.scene_prep.specs.Regions.{regions_of}
use Rattle.scene_prep.specs.Walking.{AreBodies, Adds, contents_in}
use Rattle.scene_prep.proofs.walk.regions_of.Given as goal

abbrev pub invariant-loop-name : goal.invariant-loop-name
invariant-loop-name l = record {
  regions : Adds l.initial.walk l.walk (contents_in l.top (regions_of l.directory.objects (take l.name-index l.names)));
  none : l.tasks.items ≡ [];
  known : AreBodies l.directory.objects l.walk.bodies;
}
