use Rattle.std.proofs.Common.{◌≡◌, drop, length}
use Rattle.mged_top.specs.Stages.{ArePut, files_among, files_left}
use Rattle.mged_top.proofs.put.put_files.Given as goal

abbrev pub invariant-loop-session : goal.invariant-loop-session
invariant-loop-session g l = record {
  numbers : length l.taken ≡ 8;
  put : ArePut (g.F.Shelf.files l.initial.shelf) (g.F.Shelf.files l.shelf) (g.F.Shelf.puts l.initial.shelf) (g.F.Shelf.puts l.shelf) (files_among l.order l.lists) (files_left (drop l.session-index l.order) l.taken l.lists);
  steady : g.F.Shelf.faults l.shelf ≡ g.F.Shelf.faults l.initial.shelf;
}
