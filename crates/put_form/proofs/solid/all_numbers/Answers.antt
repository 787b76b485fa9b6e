use Rattle.std.proofs.Common.{◌≡◌, ◌∙◌, ◌<◌, ◌+◌, ◌++◌, List, ℤ, Option, Some, length, drop, ap, arith}
use Rattle.word_values.specs.SolidForms.{keys_of}
use Rattle.put_form.specs.Solids.{appended, all_numbers, key_numbers}
use Rattle.put_form.proofs.SolidLaws.{numbers_more, numbers_missing}
use Rattle.put_form.proofs.solid.all_numbers.Goals as goal

pub returns-in_default : goal.returns-in_default
returns-in_default c =
    let lt : c.loop-place.place < length (keys_of c.args.form) = omega (arith, c.loop-place-test.true, c.key_count-place-end.ensures) in
    let found = rw c.in_default.is at c.in_ok-found.ensures in
    numbers_missing c.args.text.now c.args.tokens.now c.args.pairs.now c.args.form c.loop-place.place c.loop-place.numbers.items lt
    (found ∙ ap (key_numbers c.args.text.now c.args.tokens.now c.args.pairs.now) c.key_at-key.ensures)
    ∙ c.loop-place.invariant

pub loop-place-preserved : goal.loop-place-preserved
loop-place-preserved c =
    let lt : c.loop-place.place < length (keys_of c.args.form) = omega (arith, c.loop-place-test.true, c.key_count-place-end.ensures) in
    let found = rw c.in-Some.is at c.in_ok-found.ensures in
    let rest : Option (List (Option ℤ)) = all_numbers c.args.text.now c.args.tokens.now c.args.pairs.now (drop (c.loop-place.place + 1) (keys_of c.args.form)) in
    let grown : c.extend_from_slice.new.self.items ≡ c.loop-place.numbers.items ++ c.in-Some.found.items = c.in_ok-extend_from_slice.ensures.items ∙ ap (λ (xs : List (Option ℤ)). c.loop-place.numbers.items ++ xs) c.deref.ensures.value in
    ap (λ (xs : List (Option ℤ)). appended (Some xs) rest) grown
    ∙ numbers_more c.args.text.now c.args.tokens.now c.args.pairs.now c.args.form c.loop-place.place c.loop-place.numbers.items c.in-Some.found.items lt
    (found ∙ ap (key_numbers c.args.text.now c.args.tokens.now c.args.pairs.now) c.key_at-key.ensures)
    ∙ c.loop-place.invariant
