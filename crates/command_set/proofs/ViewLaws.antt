-- A view's check told as the view or its fault.
use Rattle.std.proofs.Common.{◌≡◌, Option, Some, None, Ok, Err, refl}
use Rattle.lattice_core.specs.declared.view.View.{View}
use Rattle.lattice_core.specs.declared.view.ViewFault.{ViewFault}
use Rattle.lattice_core.specs.Views.{answer_of}
use Rattle.slant_ray.specs.declared.ray.SlantRay.{SlantRay}
use Rattle.command_set.specs.Lawful.{slant_or_fault, view_or_fault}

pub taken : (view : View) (found : Option ViewFault) → Ok tt ≡ answer_of found → Ok view ≡ view_or_fault view found
taken view None e = refl
taken view (Some fault) e = absurd cc

pub refused : (view : View) (fault : ViewFault) (found : Option ViewFault) → Err fault ≡ answer_of found → Err fault ≡ view_or_fault view found
refused view fault None e = absurd cc
refused view fault (Some other) e = cc

pub slant_taken : (ray : SlantRay) (found : Option ViewFault) → Ok tt ≡ answer_of found → Ok ray ≡ slant_or_fault ray found
slant_taken ray None e = refl
slant_taken ray (Some fault) e = absurd cc

pub slant_refused : (ray : SlantRay) (fault : ViewFault) (found : Option ViewFault) → Err fault ≡ answer_of found → Err fault ≡ slant_or_fault ray found
slant_refused ray fault None e = absurd cc
slant_refused ray fault (Some other) e = cc
