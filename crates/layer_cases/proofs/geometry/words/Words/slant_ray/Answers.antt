use Rattle.std.proofs.Common.{◌∙◌, ℤ, FitsSigned, w8, w64, sym, arith}
use Rattle.std.proofs.lemmas.Bool.{true≢false}
use Rattle.std.proofs.lemmas.Int.{ints, fits_signed_from_abs, to_z-of_z}
use Rattle.lattice_core.specs.Limits.{IsAtMost}
use Rattle.slant_ray.specs.declared.ray.TheConstants.{STEP}
use Rattle.slant_ray.specs.declared.ray.SlantRay.{SlantRay}
use Rattle.slant_ray.specs.Rays.{IsSlantRay}
use Rattle.layer_cases.proofs.geometry.words.Words.slant_ray.Goals as goal

fits8 : (z : ℤ) → IsAtMost STEP z → FitsSigned w8 z
fits8 z h = fits_signed_from_abs w8 z (omega (arith, ints, h.0, h.1))

fits64 : (z : ℤ) → IsAtMost STEP z → FitsSigned w64 z
fits64 z h = fits_signed_from_abs w64 z (omega (arith, ints, h.0, h.1))

pub returns : goal.returns
returns c =
    let step = c.point-step.result in
    let size = c.point-step.ensures in
    let x8 : FitsSigned w8 c.point-step.result.x = fits8 step.x size.x in
    let y8 : FitsSigned w8 c.point-step.result.y = fits8 step.y size.y in
    let z8 : FitsSigned w8 c.point-step.result.z = fits8 step.z size.z in
    let x64 : FitsSigned w64 c.point-step.result.x = fits64 step.x size.x in
    let y64 : FitsSigned w64 c.point-step.result.y = fits64 step.y size.y in
    let z64 : FitsSigned w64 c.point-step.result.z = fits64 step.z size.z in
    let ray : SlantRay = record { origin = c.point-origin.result; x = c.point-step.result.x; y = c.point-step.result.y; z = c.point-step.result.z } in
    let is : IsSlantRay ray = record { origin = c.point-origin.ensures; direction = size; some = λ e. true≢false (sym (c.is_zero.ensures.1 e) ∙ c.if-is_zero.false) } in
    simp to_z-of_z is
