use Rattle.std.proofs.Common.{FitsSigned, w64, refl, rules}
use Rattle.std.proofs.lemmas.Int.{to_z-of_z}
use Rattle.lattice_core.proofs.vector.V3.is_within.Goals as goal

pub returns : goal.returns
returns c =
    let fl : FitsSigned w64 c.args.limit = search rules in
    let fx : FitsSigned w64 c.args.self.x = search rules in
    let fy : FitsSigned w64 c.args.self.y = search rules in
    let fz : FitsSigned w64 c.args.self.z = search rules in
    let x = simp to_z-of_z at c.if-not-is_at_most.ensures in
    let y = simp to_z-of_z at c.if-not-is_at_most-2.ensures in
    let z = simp to_z-of_z at c.is_at_most-3.ensures in
    (λ t. record { x = x.0 refl; y = y.0 refl; z = z.0 t }, λ near. z.1 near.z)
