use Rattle.std.proofs.Common.{◌≡◌, ◌∙◌, ◌<◌, List, ℕ, bytes_eq, length, ap, sym, false, arith}
use Rattle.word_values.specs.SolidForms.{Key, keys_of, key_at}
use Rattle.word_values.proofs.FormLaws.{other_key}
use Rattle.word_values.proofs.solid_form.SolidForm.key_in.Goals as goal

pub loop-place-preserved : goal.loop-place-preserved
loop-place-preserved c =
    let lt : c.loop-place.place < length (keys_of c.args.self) = omega (arith, c.loop-place-test.true, c.key_count-place-end.ensures) in
    let named : c.name.result.now ≡ (key_at c.args.self c.loop-place.place).name = c.name.ensures ∙ ap (λ (k : Key). k.name) c.key_at-key.ensures in
    let other : bytes_eq (key_at c.args.self c.loop-place.place).name c.args.name.now ≡ false =
    ap (λ (n : List ℕ). bytes_eq n c.args.name.now) (sym named) ∙ sym c.eq.ensures ∙ c.if-eq.false in
    other_key c.args.self c.loop-place.place c.args.name.now lt other ∙ c.loop-place.invariant
