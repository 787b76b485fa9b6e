use Rattle.std.proofs.Common.{refl, FitsSigned, w64, rules}
use Rattle.std.proofs.lemmas.Int.{to_z-of_z}
use Rattle.std.proofs.lemmas.Bool.{false≢true}
use Rattle.lattice_core.proofs.Meeting.{meets_with}
use Rattle.lattice_core.proofs.boxes.box_meets_ray.Goals as goal

pub returns-then-not-meets_ray : goal.returns-then-not-meets_ray
returns-then-not-meets_ray c =
    let ox : FitsSigned w64 c.args.ray.now.origin.x = search rules in
    let sx : FitsSigned w64 c.unit-step.result.x = search rules in
    let s = c.in-Span in
    let all = meets_with s.x s.y s.z c.args.ray.now c.args.b.now c.unit-step.result s.is c.unit-step.ensures.value in
    let x = simp to_z-of_z at c.if-not-meets_ray.ensures in
    (λ t. absurd (false≢true t), λ m. x.1 (all.1 m).0)

pub returns-then-not-meets_ray-2 : goal.returns-then-not-meets_ray-2
returns-then-not-meets_ray-2 c =
    let oy : FitsSigned w64 c.args.ray.now.origin.y = search rules in
    let sy : FitsSigned w64 c.unit-step.result.y = search rules in
    let s = c.in-Span in
    let all = meets_with s.x s.y s.z c.args.ray.now c.args.b.now c.unit-step.result s.is c.unit-step.ensures.value in
    let y = simp to_z-of_z at c.if-not-meets_ray-2.ensures in
    (λ t. absurd (false≢true t), λ m. y.1 (all.1 m).1)

pub returns : goal.returns
returns c =
    let ox : FitsSigned w64 c.args.ray.now.origin.x = search rules in
    let oy : FitsSigned w64 c.args.ray.now.origin.y = search rules in
    let oz : FitsSigned w64 c.args.ray.now.origin.z = search rules in
    let sx : FitsSigned w64 c.unit-step.result.x = search rules in
    let sy : FitsSigned w64 c.unit-step.result.y = search rules in
    let sz : FitsSigned w64 c.unit-step.result.z = search rules in
    let s = c.in-Span in
    let all = meets_with s.x s.y s.z c.args.ray.now c.args.b.now c.unit-step.result s.is c.unit-step.ensures.value in
    let x = simp to_z-of_z at c.if-not-meets_ray.ensures in
    let y = simp to_z-of_z at c.if-not-meets_ray-2.ensures in
    let z = simp to_z-of_z at c.meets_ray-3.ensures in
    (λ t. all.0 (x.0 refl, y.0 refl, z.0 t), λ m. z.1 (all.1 m).2)
