use Rattle.std.proofs.Common.{FitsSigned, w64, rules, ◌∙◌}
use Rattle.std.proofs.lemmas.Int.{to_z-of_z}
use Rattle.word_values.proofs.SolidLaws.{of_vertices, same_box}
use Rattle.word_values.proofs.solid.box_of.Goals as goal

pub returns : goal.returns
returns c =
    let a : FitsSigned w64 c.number_at.result = search rules in
    let b : FitsSigned w64 c.number_at-2.result = search rules in
    let d : FitsSigned w64 c.number_at-3.result = search rules in
    let e : FitsSigned w64 c.number_at-4.result = search rules in
    let f : FitsSigned w64 c.number_at-5.result = search rules in
    let g : FitsSigned w64 c.number_at-6.result = search rules in
    let made = simp to_z-of_z at c.rpp.ensures in
    of_vertices c.rpp.result _ made
    ∙ same_box c.number_at.ensures.value c.number_at-2.ensures.value c.number_at-3.ensures.value c.number_at-4.ensures.value c.number_at-5.ensures.value c.number_at-6.ensures.value
