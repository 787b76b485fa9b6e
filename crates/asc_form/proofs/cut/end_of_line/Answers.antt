use Rattle.std.proofs.Common.{◌<◌, ◌≤◌, ◌∙◌, ℕ, List, length, arith, sym}
use Rattle.asc_form.proofs.CutLaws.{ends_here, ends_later, pound_feed, no_feed}
use Rattle.asc_form.proofs.cut.end_of_line.Goals as goal

pub returns-then-text-place-eq10-clause-end : goal.returns-then-text-place-eq10-clause-end
returns-then-text-place-eq10-clause-end c =
    let text : List ℕ = c.args.text.now in
    let i : ℕ = c.loop-place.place in
    let low : c.args.start ≤ c.loop-place.place = omega arith in
    let lt : i < length text = omega arith in
    sym (ends_here text i lt (pound_feed text c.args.start i c.requires.pound low lt c.if-text-place-eq10.true)) ∙ c.loop-place.invariant

pub loop-place-preserved : goal.loop-place-preserved
loop-place-preserved c =
    let text : List ℕ = c.args.text.now in
    let i : ℕ = c.loop-place.place in
    let lt : i < length text = omega arith in
    sym (ends_later text i lt (no_feed text i c.if-text-place-eq10.false)) ∙ c.loop-place.invariant
