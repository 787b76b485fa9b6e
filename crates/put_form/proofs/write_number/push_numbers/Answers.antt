use Rattle.std.proofs.Common.{◌++◌, ◌+◌, ◌∙◌, ℕ, ℤ, pos, List, ap, sym, get_or, drop, append_assoc, append-nil, rules, arith}
use Rattle.std.proofs.lemmas.Int.{to_z-of_z}
use Rattle.std.proofs.lemmas.List.{drop_more, drop_all}
use mir.Val.{SFits}
use mir.Syntax.{w64}
use Rattle.put_form.specs.WritingSteps.{placed_text, placed_texts}
use Rattle.put_form.proofs.WritingLaws.{all_placed}
use Rattle.put_form.proofs.write_number.push_numbers.Goals as goal

pub loop-place-preserved : goal.loop-place-preserved
loop-place-preserved c =
    let line : List ℕ = c.loop-place.line.items in
    let place : ℕ = c.loop-place.place in
    let number : ℤ = get_or c.args.numbers.now place (pos 0) in
    let rest : List ℕ = placed_texts c.args.list (place + 1) (drop (place + 1) c.args.numbers.now) in
    let fits : SFits w64 number = search rules in
    ap (λ (text : List ℕ). text ++ rest) (c.in_ok-push_placed.ensures ∙ ap (λ n. line ++ placed_text c.args.list place n) (to_z-of_z w64 number fits))
    ∙ append_assoc line (placed_text c.args.list place number) rest
    ∙ ap (λ (ns : List ℤ). line ++ placed_texts c.args.list place ns) (sym (drop_more c.args.numbers.now place (pos 0) c.loop-place-test.true))
    ∙ c.loop-place.invariant

pub returns : goal.returns
returns c =
    let line : List ℕ = c.loop-place.line.items in
    sym (append-nil line)
    ∙ ap (λ (ns : List ℤ). line ++ placed_texts c.args.list c.loop-place.place ns) (sym (drop_all c.loop-place.place c.args.numbers.now (omega (arith, c.loop-place-test.false))))
    ∙ c.loop-place.invariant
    ∙ ap (λ (text : List ℕ). c.args.line.now.items ++ text) (all_placed c.args.list c.args.numbers.now)
