use Rattle.std.proofs.Common.{◌∙◌, arith, sym, ap, cond, ℕ}
use Rattle.std.specs.Arc.{arc_value}
use Rattle.version_table.specs.Run.{state_after}
use Rattle.version_table.specs.Entries.{noted}
use Rattle.version_table.proofs.Runs.{run_more}
use Rattle.version_table.proofs.book.Book.look.Goals as goal

pub invariant_of-self : goal.invariant_of-self
invariant_of-self g c =
    let before = state_after g.M.Machine.next c.self.inside.opening.state (noted c.self.inside.entries.items) in
    let command = arc_value c.args.command in
    let stays = g.M.Machine.look_stays before command c.requires.looks in
    let keeps = g.M.Machine.look_keeps_version before command c.requires.looks in
    (run_more _ _ _ _ _ _ _ _ _ _ c.push_entry.ensures.items c.self.invariant.0 (c.self.invariant.0.state_is ∙ sym stays) (omega (arith, ap {B = ℕ} (λ b. cond b 1 0) keeps)), omega (arith, c.push_entry.ensures.room, c.self.invariant.1), c.self.invariant.2)
