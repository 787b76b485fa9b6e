use Rattle.std.proofs.Common.{◌∙◌, List, ℤ, Option, Some, ap, sym}
use Rattle.std.specs.Option.{option_copied}
use Rattle.put_form.proofs.SolidLaws.{numbers_enough, numbers_of_kinds, solid_read}
use Rattle.put_form.proofs.solid.read_solid.Goals as goal

pub named_solid-requires-clause-count : goal.named_solid-requires-clause-count
named_solid-requires-clause-count c =
    numbers_enough c.args.text.now c.args.tokens.now c.args.form c.args.pairs.now c.deref.result.now (sym (ap (λ (xs : List (Option ℤ)). Some xs) c.deref.ensures.value ∙ rw c.in-Some.is at c.in_ok-numbers.ensures))

pub named_solid-requires-clause-sizes : goal.named_solid-requires-clause-sizes
named_solid-requires-clause-sizes c =
    numbers_of_kinds c.args.text.now c.args.tokens.now c.args.form c.args.pairs.now c.deref.result.now (sym (ap (λ (xs : List (Option ℤ)). Some xs) c.deref.ensures.value ∙ rw c.in-Some.is at c.in_ok-numbers.ensures))

pub returns-in_ok-bad-in-Some : goal.returns-in_ok-bad-in-Some
returns-in_ok-bad-in-Some c =
    solid_read c.named_solid.result c.args.text.now c.args.tokens.now c.args.form (option_copied c.args.name) c.args.pairs.now c.deref.result.now c.in_ok-bad-in-Some.bad
    (ap (λ (xs : List (Option ℤ)). Some xs) c.deref.ensures.value ∙ rw c.in-Some.is at c.in_ok-numbers.ensures) c.in_ok-bad-in-Some.ensures c.named_solid.ensures
