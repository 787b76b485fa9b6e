use Rattle.std.proofs.Common.{◌≡◌, ◌∙◌, All, List, None, ap, sym, length, subst}
use Rattle.lattice_core.specs.declared.limit.TheConstants.{COORD}
use Rattle.lattice_core.specs.declared.vector.V3.{V3}
use Rattle.lattice_core.specs.Limits.{IsWithin}
use Rattle.prim_arb8.specs.Faces.{first_fault, cases_of}
use Rattle.text_laws.proofs.LineArb8.{arb8_again}
use Rattle.text_laws.proofs.line.arb8_line_reads_again.Goals as goal

-- src/line.rt:31:1
pub returns : goal.returns
returns c =
    let same = c.vertices-vertices.ensures.value in
    arb8_again c.args.name.now c.args.arb8.now c.bytes-bytes.ensures.named
    (sym (ap length same) ∙ c.vertices-vertices.ensures.eight)
    (subst (All (IsWithin COORD)) same c.vertices-vertices.ensures.size)
    (subst (λ (vs : List V3). first_fault (cases_of vs) ≡ None) same c.vertices-vertices.ensures.sound)
