use Rattle.std.proofs.Common.{◌≡◌, [], take}
use Rattle.directory.specs.Closed.{IsRelaxing}
use Rattle.directory.specs.Depths.{depth_kept}
use Rattle.directory.specs.Edits.{without_all}
use Rattle.directory.proofs.contents.Contents.remove_all.Given as goal

abbrev pub invariant-loop-name : goal.invariant-loop-name
invariant-loop-name l = record {
  list : l.edit.list ≡ without_all l.self (take l.name-index l.names);
  relaxing : IsRelaxing l.edit.list (depth_kept l.edit.depths) l.edit.touched [];
}
