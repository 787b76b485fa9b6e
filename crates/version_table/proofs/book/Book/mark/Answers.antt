use Rattle.std.proofs.Common.{arith}
use Rattle.version_table.proofs.Runs.{run_more}
use Rattle.version_table.proofs.book.Book.mark.Goals as goal

pub invariant_of-self : goal.invariant_of-self
invariant_of-self g c = (run_more _ _ _ _ _ _ _ _ _ _ c.push_entry.ensures.items c.self.invariant.0 c.self.invariant.0.state_is (omega arith), omega (arith, c.push_entry.ensures.room, c.self.invariant.1), c.self.invariant.2)
