use Rattle.std.proofs.Common.{◌+◌, ◌-◌, ◌==◌, ◌∷◌, ◌∙◌, ℕ, List, length, take, drop, ap, sym, arith, add-one, eqb-true, length-drop}
use Rattle.std.proofs.lemmas.Bool.{eqb-false}
use Rattle.std.proofs.lemmas.List.Quantifiers.{position-Some}
use Rattle.transcript.specs.Lines.{lines_in}
use Rattle.transcript.proofs.LineLaws.{lines_cut, lines_one}
use Rattle.mged_words.proofs.ScriptLaws.{no_line_feed, take_all, take_none}
use Rattle.mged_words.proofs.script.cut_line.Goals as goal

pub returns-in-Some-clause-lines : goal.returns-in-Some-clause-lines
returns-in-Some-clause-lines c =
    let text : List ℕ = c.args.text.now in
    let end : ℕ = c.in-Some.end in
    let at = position-Some (λ (b : ℕ). b == 10) text end 0 (sym c.in-Some.ensures) in
    lines_cut text end at.0 (eqb-true _ _ at.1) (λ k lt. eqb-false _ _ (at.2 k lt))
    ∙ ap (λ (r : List ℕ). take end text ∷ lines_in r) (ap (λ n. drop n text) (sym (add-one end)) ∙ sym (take_all (length text - (end + 1)) (drop (end + 1) text) (omega (arith, length-drop {A = ℕ} (end + 1) text))))

pub returns-in-None-clause-lines : goal.returns-in-None-clause-lines
returns-in-None-clause-lines c =
    let text : List ℕ = c.args.text.now in
    lines_one text c.requires (no_line_feed text (sym c.in-None.ensures)) ∙ ap (λ (r : List ℕ). text ∷ lines_in r) (sym (take_none text (length text - length text) (length text) (omega arith)))
