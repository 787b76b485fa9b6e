use Rattle.std.proofs.Common.{FitsSigned, w64, rules, ◌∙◌, ap, sym}
use Rattle.std.proofs.lemmas.Int.{to_z-of_z}
use Rattle.word_values.proofs.SolidLaws.{as_solid, fault_of, rcc_of}
use Rattle.word_values.proofs.solid.rcc.Goals as goal

pub returns-in_err-new : goal.returns-in_err-new
returns-in_err-new c =
    let fits : FitsSigned w64 c.args.radius = search rules in
    let less = simp to_z-of_z at c.new.ensures.radius in
    let parts = simp to_z-of_z at c.new.ensures.value in
    fault_of c.from_residual.result c.in_err-new.field-0.0 c.from_residual.ensures (λ e same. same) ∙ ap as_solid (sym c.in_err-new.was)
    ∙ rcc_of c.new.result c.args.base c.args.height c.args.radius c.new.ensures.axis less parts

pub returns : goal.returns
returns c =
    let fits : FitsSigned w64 c.args.radius = search rules in
    let less = simp to_z-of_z at c.new.ensures.radius in
    let parts = simp to_z-of_z at c.new.ensures.value in
    ap as_solid (sym c.in_ok-new.was) ∙ rcc_of c.new.result c.args.base c.args.height c.args.radius c.new.ensures.axis less parts
