use Rattle.std.proofs.Common.{◌<◌, ◌∙◌, ℕ, List, length, get_or, arith, sym, ne_eqb}
use Rattle.asc_form.proofs.CutLaws.{ends_here, ends_later, feed_ends, no_feed, pound_from, other_from, blank_more}
use Rattle.asc_form.proofs.cut.end_of.Goals as goal

pub returns-then-byte-eq10-clause-end : goal.returns-then-byte-eq10-clause-end
returns-then-byte-eq10-clause-end c =
    let text : List ℕ = c.args.text.now in
    let i : ℕ = c.loop-place.place in
    let h = c.loop-place.invariant in
    let lt : i < length text = omega arith in
    sym (ends_here text i lt (feed_ends text i 0 0 c.if-byte-eq10.true (sym h.opened) (sym h.closed) (omega arith))) ∙ h.rest

pub end_of_line-requires-clause-pound : goal.end_of_line-requires-clause-pound
end_of_line-requires-clause-pound c = pound_from c.args.text.now c.loop-place.place c.loop-place.invariant.first c.if-byte-eq35.true

pub end_outside-requires-clause-first : goal.end_outside-requires-clause-first
end_outside-requires-clause-first c =
    let h = c.loop-place.invariant in
    other_from c.args.text.now c.loop-place.place h.opened h.closed h.first (sym c.is_blank.ensures ∙ c.if-not-is_blank.true) (ne_eqb (get_or c.args.text.now c.loop-place.place 0) 35 c.if-byte-eq35.false)

pub loop-place-preserved : goal.loop-place-preserved
loop-place-preserved c =
    let text : List ℕ = c.args.text.now in
    let i : ℕ = c.loop-place.place in
    let h = c.loop-place.invariant in
    let lt : i < length text = omega arith in
    let more = blank_more text i lt (sym c.is_blank.ensures ∙ c.if-not-is_blank.false) h.opened h.closed h.first in
    record {
      opened = more.0;
      closed = more.1;
      first = more.2;
      rest = sym (ends_later text i lt (no_feed text i c.if-byte-eq10.false)) ∙ h.rest;
    }
