use Rattle.std.proofs.Common.{◌≡◌, ◌<◌, ◌≤◌, ◌+◌, ◌==◌, ◌∙◌, ℕ, List, false, cond, length, get_or, arith, ap, sym}
use Rattle.std.proofs.lemmas.List.Sums.{sum_by_more}
use Rattle.tcl_words.specs.Bytes.{is_open, is_close}
use Rattle.asc_form.specs.Commands.{ends_at}
use Rattle.asc_form.proofs.CutLaws.{at_most, ends_here, ends_later, feed_ends, feed_stays, no_feed}
use Rattle.asc_form.proofs.cut.end_outside.Goals as goal
use Rattle.asc_form.proofs.cut.end_outside.Goals.{else-byte-eq10-via-then-byte-eq10+else-opened-closed, else-byte-eq10-via-else-byte-eq10}

pub returns-then-opened-closed-clause-end : goal.returns-then-opened-closed-clause-end
returns-then-opened-closed-clause-end c =
    let text : List ℕ = c.args.text.now in
    let i : ℕ = c.loop-place.place in
    let h = c.loop-place.invariant in
    let lt : i < length text = omega arith in
    sym (ends_here text i lt (feed_ends text i c.loop-place.opened c.loop-place.closed c.if-byte-eq10.true h.opened h.closed c.if-opened-closed.true)) ∙ h.rest

pub loop-place-preserved : goal.loop-place-preserved
loop-place-preserved c =
    let text : List ℕ = c.args.text.now in
    let i : ℕ = c.loop-place.place in
    let h = c.loop-place.invariant in
    let lt : i < length text = omega arith in
    let low : c.args.start ≤ c.loop-place.place = omega arith in
    let later : ends_at text i ≡ false = elim c.else-byte-eq10.branch [
      | else-byte-eq10-via-then-byte-eq10+else-opened-closed w ↦ feed_stays text i c.loop-place.opened c.loop-place.closed h.opened h.closed (c.requires.first.later i low lt) (omega (arith, w.if-opened-closed.false))
      | else-byte-eq10-via-else-byte-eq10 w ↦ no_feed text i w.if-byte-eq10.false
    ] in
    record {
      few_opened = at_most (get_or text i 0 == 123) _ i _ c.counted-opened.ensures h.few_opened;
      few_closed = at_most (get_or text i 0 == 125) _ i _ c.counted-closed.ensures h.few_closed;
      opened = c.counted-opened.ensures ∙ ap (λ (n : ℕ). n + cond (is_open (get_or text i 0)) 1 0) h.opened ∙ sym (sum_by_more (λ x. cond (is_open x) 1 0) text i 0 lt);
      closed = c.counted-closed.ensures ∙ ap (λ (n : ℕ). n + cond (is_close (get_or text i 0)) 1 0) h.closed ∙ sym (sum_by_more (λ x. cond (is_close x) 1 0) text i 0 lt);
      rest = sym (ends_later text i lt later) ∙ h.rest;
    }
