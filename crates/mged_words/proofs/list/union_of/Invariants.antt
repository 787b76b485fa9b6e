use Rattle.std.proofs.Common.{◌≡◌, map, take}
use Rattle.tree_forms.specs.declared.Op.TheVariants.{U}
use Rattle.command_set.specs.Lawful.{AreNear}
use Rattle.mged_words.specs.Commands.{entry_of}
use Rattle.mged_words.proofs.list.union_of.Given as goal

abbrev pub invariant-loop-name : goal.invariant-loop-name
invariant-loop-name l = record {
  read : l.entries.items ≡ map (entry_of U) (take l.name-index l.names);
  near : AreNear l.entries.items;
}
