use Rattle.std.proofs.Common.{◌≡◌}
use Rattle.std.specs.List.{IsDistinct}
use Rattle.std.specs.Map.{keys_of}
use Rattle.name_core.specs.Same.{same_name}
use Rattle.asc_form.specs.Gathering.{settled, IsGathered}
use Rattle.asc_form.proofs.settle.keep_all.Given as goal

abbrev pub invariant-loop-name : goal.invariant-loop-name
invariant-loop-name l = record {
  title : l.directory.title ≡ l.fn.directory.title;
  objects : settled l.directory.objects l.name-iterator ≡ settled l.fn.directory.objects l.fn.gathered.entries;
  gathered : IsGathered l.directory.objects l.name-iterator;
  distinct : IsDistinct same_name (keys_of l.name-iterator);
}
