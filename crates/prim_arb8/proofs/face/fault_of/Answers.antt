use Rattle.std.proofs.Common.{◌∙◌, sym}
use Rattle.prim_arb8.proofs.Faults.{faults_start, faults_next, faults_found, faults_end}
use Rattle.prim_arb8.proofs.face.fault_of.Goals as goal

pub loop-face-init : goal.loop-face-init
loop-face-init c = faults_start c.args.v.now (sym c.if-is_flat.ensures)

pub loop-face-preserved : goal.loop-face-preserved
loop-face-preserved c =
    c.loop-face.invariant ∙ faults_next c.args.v.now c.loop-face.face c.loop-face-test.true (sym c.in_default.ensures)

pub returns-in-Some : goal.returns-in-Some
returns-in-Some c =
    sym (c.loop-face.invariant ∙ faults_found c.args.v.now c.loop-face.face c.in-Some.fault c.loop-face-test.true (sym c.in-Some.ensures))

pub returns : goal.returns
returns c = sym (c.loop-face.invariant ∙ faults_end c.args.v.now c.loop-face.face c.loop-face-test.false)
