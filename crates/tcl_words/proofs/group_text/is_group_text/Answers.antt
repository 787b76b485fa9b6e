use Rattle.std.proofs.Common.{ap, sym, ◌∙◌, arith}
use Rattle.std.specs.Prelude.{is_some}
use Rattle.tcl_words.proofs.GroupTexts.{group_is, bad_here, out_here, on_here, end_here}
use Rattle.tcl_words.proofs.group_text.is_group_text.Goals as goal

pub returns-then-is_some : goal.returns-then-is_some
returns-then-is_some c =
    sym (sym (group_is c.args.value.now) ∙ c.loop-byte.invariant.same ∙ bad_here c.args.value.now c.loop-byte.last c.loop-byte.groups c.loop-byte.byte-index c.loop-byte-test.true (ap is_some (sym c.fault_of.ensures) ∙ sym c.is_some.ensures ∙ c.if-is_some.true))

pub returns-then-groups-eq0 : goal.returns-then-groups-eq0
returns-then-groups-eq0 c =
    sym (sym (group_is c.args.value.now) ∙ c.loop-byte.invariant.same ∙ out_here c.args.value.now c.loop-byte.last c.loop-byte.groups c.loop-byte.byte-index c.groups_after-groups.result c.loop-byte-test.true (ap is_some (sym c.fault_of.ensures) ∙ sym c.is_some.ensures ∙ c.if-is_some.false) c.groups_after-groups.ensures.counted c.if-groups-eq0.true)

pub returns : goal.returns
returns c = sym (sym (group_is c.args.value.now) ∙ c.loop-byte.invariant.same ∙ end_here c.args.value.now c.loop-byte.last c.loop-byte.groups c.loop-byte.byte-index c.loop-byte-test.false)

pub loop-byte-preserved : goal.loop-byte-preserved
loop-byte-preserved c = record {
  few = c.groups_after-groups.ensures.few;
  inside = omega (arith, c.if-groups-eq0.false);
  same = c.loop-byte.invariant.same ∙ on_here c.args.value.now c.loop-byte.last c.loop-byte.groups c.loop-byte.byte-index c.groups_after-groups.result c.loop-byte-test.true (ap is_some (sym c.fault_of.ensures) ∙ sym c.is_some.ensures ∙ c.if-is_some.false) c.groups_after-groups.ensures.counted c.if-groups-eq0.false;
}
