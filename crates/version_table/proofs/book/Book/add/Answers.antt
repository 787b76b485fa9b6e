use Rattle.std.proofs.Common.{◌∙◌, arith, sym, ap, cond, ℕ}
use Rattle.version_table.specs.Entries.{noted}
use Rattle.version_table.proofs.Runs.{run_more, commits_below}
use Rattle.version_table.proofs.book.Book.add.Goals as goal

pub overflow_add-self : goal.overflow_add-self
overflow_add-self g c =
    let room = rw (← c.self.view_is) at c.requires.room in
    omega (arith, c.self.invariant.0.version_is, commits_below g.M.Machine.next g.M.Machine.commits c.self.inside.opening.state (noted c.self.inside.entries.items), room, c.self.invariant.2)

pub invariant_of-self : goal.invariant_of-self
invariant_of-self g c =
    let state = rw (← c.self.view_is) at c.requires.state in
    let commits = rw (← c.self.view_is) at c.requires.commits in
    (run_more _ _ _ _ _ _ _ _ _ _ c.push_entry.ensures.items c.self.invariant.0 state (omega (arith, ap {B = ℕ} (λ b. cond b 1 0) (sym commits ∙ c.if-commits.true))), omega (arith, c.push_entry.ensures.room, c.self.invariant.1), c.self.invariant.2)

pub invariant_of-self-else-commits : goal.invariant_of-self-else-commits
invariant_of-self-else-commits g c =
    let state = rw (← c.self.view_is) at c.requires.state in
    let commits = rw (← c.self.view_is) at c.requires.commits in
    (run_more _ _ _ _ _ _ _ _ _ _ c.push_entry.ensures.items c.self.invariant.0 state (omega (arith, ap {B = ℕ} (λ b. cond b 1 0) (sym commits ∙ c.if-commits.false))), omega (arith, c.push_entry.ensures.room, c.self.invariant.1), c.self.invariant.2)
