use Rattle.std.proofs.Common.{◌∙◌, ap, sym, subst, map, ℤ, Some, FitsSigned, w64, rules}
use Rattle.std.proofs.lemmas.Int.{to_z-of_z}
use Rattle.lattice_core.specs.declared.limit.TheConstants.{COORD, HALF_NORMAL}
use Rattle.lattice_core.specs.Limits.{IsAtMost, IsWithin}
use Rattle.word_values.specs.Kinds.{AllWithinKinds}
use Rattle.word_values.specs.Solids.{arb8_made, solid_made, number_count}
use Rattle.word_values.specs.declared.atoms.NumberList.TheVariants as lists
use Rattle.word_values.specs.declared.solid.SolidKind.{SolidKind}
use Rattle.word_values.proofs.KindLaws.{solid_within, normal_within}
use Rattle.word_values.proofs.solid.SolidKind.make.Goals as goal

pub half-requires-clause-normal : goal.half-requires-clause-normal
half-requires-clause-normal c =
    subst (IsWithin HALF_NORMAL) (sym c.vector_at.ensures.value)
    (normal_within c.args.numbers.now (c.requires.count ∙ ap number_count c.in-Half.is) (subst (λ (kind : SolidKind). AllWithinKinds (lists.Solid kind) c.args.numbers.now) c.in-Half.is c.requires.sizes))

pub half-requires-clause-distance : goal.half-requires-clause-distance
half-requires-clause-distance c =
    let is : FitsSigned w64 c.number_at.result = search rules in
    subst (IsAtMost COORD) (sym (to_z-of_z w64 _ is)) (c.number_at.ensures.size (solid_within c.args.self c.args.numbers.now c.requires.sizes))

pub box_of-requires-clause-size : goal.box_of-requires-clause-size
box_of-requires-clause-size c = solid_within c.args.self c.args.numbers.now c.requires.sizes

pub vertices-requires-clause-size : goal.vertices-requires-clause-size
vertices-requires-clause-size c = solid_within c.args.self c.args.numbers.now c.requires.sizes

pub sphere-requires-clause-centre : goal.sphere-requires-clause-centre
sphere-requires-clause-centre c = c.vector_at-in-Sphere.ensures.size (solid_within c.args.self c.args.numbers.now c.requires.sizes)

pub sphere-requires-clause-radius : goal.sphere-requires-clause-radius
sphere-requires-clause-radius c =
    let is : FitsSigned w64 c.number_at-in-Sphere.result = search rules in
    subst (IsAtMost COORD) (sym (to_z-of_z w64 _ is)) (c.number_at-in-Sphere.ensures.size (solid_within c.args.self c.args.numbers.now c.requires.sizes))

pub rcc-requires-clause-base : goal.rcc-requires-clause-base
rcc-requires-clause-base c = c.vector_at-in-Rcc.ensures.size (solid_within c.args.self c.args.numbers.now c.requires.sizes)

pub rcc-requires-clause-height : goal.rcc-requires-clause-height
rcc-requires-clause-height c = c.vector_at-in-Rcc-2.ensures.size (solid_within c.args.self c.args.numbers.now c.requires.sizes)

pub rcc-requires-clause-radius : goal.rcc-requires-clause-radius
rcc-requires-clause-radius c =
    let is : FitsSigned w64 c.number_at-in-Rcc.result = search rules in
    subst (IsAtMost COORD) (sym (to_z-of_z w64 _ is)) (c.number_at-in-Rcc.ensures.size (solid_within c.args.self c.args.numbers.now c.requires.sizes))

pub returns-in-Arb8 : goal.returns-in-Arb8
returns-in-Arb8 c =
    c.arb8.ensures ∙ ap arb8_made c.vertices.ensures.value ∙ sym (ap (λ kind. solid_made kind (map (λ (n : ℤ). Some n) c.args.numbers.now)) c.in-Arb8.is)

pub returns-in-Rpp : goal.returns-in-Rpp
returns-in-Rpp c =
    c.box_of.ensures ∙ sym (ap (λ kind. solid_made kind (map (λ (n : ℤ). Some n) c.args.numbers.now)) c.in-Rpp.is)
