use Rattle.std.proofs.Common.{rules, ap, sym, ◌∙◌, ◌+◌, ◌-◌, take, drop, length}
use Rattle.outside_core.proofs.Pieces.{read_takes}
use Rattle.outside_core.proofs.source.VecSourceSource.read.Goals as goal

pub returns-clause-front : goal.returns-clause-front
returns-clause-front c =
    let at = c.self.inside.at in
    let n = c.min-count.result in
    let bytes = c.self.inside.bytes.items in
    read_takes bytes c.args.self.now.rest c.copy_from_slice.new.self (drop n c.args.buf.now) at n (length c.args.buf.now)
    (ap (λ v. v.rest) (sym c.self.view_is))
    (c.copy_from_slice.ensures.after ∙ ap (λ xs. take (at + n - at) (drop at xs)) c.deref.ensures.value)
    (search rules)
    (search rules)
