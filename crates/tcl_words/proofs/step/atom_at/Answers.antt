use Rattle.std.proofs.Common.{◌≡◌, ◌<◌, ◌∙◌, ℕ, false, get_or, arith, sym, subst}
use Rattle.tcl_words.specs.ReadingSteps.{is_good}
use Rattle.tcl_words.proofs.Steps.{atom_step, bad_first, extra_first, bad_later}
use Rattle.tcl_words.proofs.step.atom_at.Goals as goal
use Rattle.tcl_words.proofs.step.atom_at.Goals.{else-end-text-via-then-end-text+else-is_atom, else-end-text-via-else-end-text}

pub returns-then-end-place-clause-fault : goal.returns-then-end-place-clause-fault
returns-then-end-place-clause-fault c =
    let same : c.good_end-end.result ≡ c.args.place = c.if-end-place.true in
    bad_first c.args.text.now c.args.place c.args.groups c.args.last c.requires.within c.requires.at c.requires.atom
    (subst (λ (m : ℕ). is_good c.args.groups (get_or c.args.text.now m 0) ≡ false) same (c.good_end-end.ensures.end (omega (arith, same, c.requires.within))))

pub returns-then-is_close-clause-fault : goal.returns-then-is_close-clause-fault
returns-then-is_close-clause-fault c =
    let some : c.args.place < c.good_end-end.result = omega (arith, c.if-end-place.false, c.good_end-end.ensures.from) in
    extra_first c.args.text.now c.args.place c.args.groups c.args.last c.requires.within c.requires.at (c.good_end-end.ensures.run c.args.place (omega arith) some) (sym c.is_close.ensures ∙ c.if-is_close.true)

pub returns-then-is_atom-clause-fault : goal.returns-then-is_atom-clause-fault
returns-then-is_atom-clause-fault c =
    bad_later c.args.text.now c.args.place c.good_end-end.result c.args.groups c.args.last c.good_end-end.ensures.from c.if-end-text.true c.requires.at (sym c.is_close.ensures ∙ c.if-is_close.false) c.good_end-end.ensures.run
    (sym c.is_atom.ensures ∙ c.if-is_atom.true) (c.good_end-end.ensures.end c.if-end-text.true)

pub returns-clause-token : goal.returns-clause-token
returns-clause-token c =
    let some : c.args.place < c.good_end-end.result = omega (arith, c.if-end-place.false, c.good_end-end.ensures.from) in
    atom_step c.args.text.now c.args.place c.args.groups c.args.last c.good_end-end.result c.requires.within c.requires.at c.requires.atom (sym c.is_close.ensures ∙ c.if-is_close.false) some c.good_end-end.ensures.within c.good_end-end.ensures.run
    (λ lt. elim c.else-end-text.branch [
      | else-end-text-via-then-end-text+else-is_atom w ↦ sym w.is_atom.ensures ∙ w.if-is_atom.false
      | else-end-text-via-else-end-text w ↦ absurd (omega (arith, lt, w.if-end-text.false))
    ])
