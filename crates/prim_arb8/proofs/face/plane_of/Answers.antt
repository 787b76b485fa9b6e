use Rattle.std.proofs.Common.{◌≡◌, ◌∙◌, ap, sym, arith, Some, ℕ}
use Rattle.prim_arb8.specs.Faces.{plane_at}
use Rattle.prim_arb8.proofs.face.plane_of.Goals as goal

pub returns-in_default-clause-value : goal.returns-in_default-clause-value
returns-in_default-clause-value c =
    let last : c.args.face ≡ 12 = omega (arith, c.requires.face.1, c.in_default) in
    ap Some c.box_plane-in_default.ensures.value ∙ ap (λ (n : ℕ). plane_at c.args.v.now n) (sym last)
