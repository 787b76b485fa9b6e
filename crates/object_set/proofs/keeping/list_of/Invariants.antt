use Rattle.std.proofs.Common.{◌≡◌, ◌++◌, map}
use Rattle.object_set.specs.Noting.{attribute_of}
use Rattle.object_set.proofs.keeping.list_of.Given as goal

abbrev pub invariant-loop-name : goal.invariant-loop-name
invariant-loop-name l = l.list ++ map attribute_of l.name-iterator ≡ map attribute_of l.fn.noted.entries
