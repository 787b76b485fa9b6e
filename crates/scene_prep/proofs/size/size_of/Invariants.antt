use Rattle.std.proofs.Common.{◌≡◌, take}
use Rattle.std.specs.HashMap.{get}
use Rattle.name_core.specs.Same.{same_name}
use Rattle.scene_prep.specs.Sizes.{told_size, names_size}
use Rattle.scene_prep.specs.Levels.{AreSizes}
use Rattle.scene_prep.proofs.size.size_of.Given as goal

abbrev pub invariant-loop-name : goal.invariant-loop-name
invariant-loop-name l = record {
  size : l.total ≡ told_size (names_size l.directory.objects (take l.name-index l.names));
  known : AreSizes l.directory.objects (get same_name l.sizes);
}
