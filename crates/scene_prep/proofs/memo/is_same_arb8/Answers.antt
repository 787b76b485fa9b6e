use Rattle.std.proofs.Common.{◌≡◌, true, rules}
use Rattle.std.specs.Cmp.Lexicographic.{pointwise}
use Rattle.lattice_core.specs.contracts.vector.V3PartialEq.TheImpl as vectors
use Rattle.scene_prep.proofs.SameParts.{same_vertices}
use Rattle.scene_prep.proofs.memo.is_same_arb8.Goals as goal

pub returns : goal.returns
returns c = λ h.
    let same : pointwise vectors.eq-value.it c.args.one.now.vertices c.args.two.now.vertices ≡ true = search (rules, h) in
    same_vertices c.args.one.now c.args.two.now same
