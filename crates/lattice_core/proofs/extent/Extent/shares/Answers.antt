use Rattle.std.proofs.Common.{refl}
use Rattle.std.proofs.lemmas.Bool.{false≢true}
use Rattle.lattice_core.proofs.Extending.{share}
use Rattle.lattice_core.proofs.extent.Extent.shares.Goals as goal

pub returns-then-not-are_ordered : goal.returns-then-not-are_ordered
returns-then-not-are_ordered c =
    let all = share c.args.self c.args.other c.requires in
    (λ t. absurd (false≢true t), λ m. c.if-not-are_ordered.ensures.1 (all.1 m).0)

pub returns-then-not-are_ordered-2 : goal.returns-then-not-are_ordered-2
returns-then-not-are_ordered-2 c =
    let all = share c.args.self c.args.other c.requires in
    (λ t. absurd (false≢true t), λ m. c.if-not-are_ordered-2.ensures.1 (all.1 m).1)

pub returns : goal.returns
returns c =
    let all = share c.args.self c.args.other c.requires in
    let ends = c.if-not-are_ordered.ensures in
    let begins = c.if-not-are_ordered-2.ensures in
    let own = c.is_ordered.ensures in
    (λ t. all.0 (ends.0 refl, begins.0 refl, own.0 t), λ m. own.1 (all.1 m).2)
