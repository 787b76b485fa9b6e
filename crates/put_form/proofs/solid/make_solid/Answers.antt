use Rattle.std.proofs.Common.{◌≡◌, ◌∙◌, ℤ, Some, map, take, ap, sym, subst, arith}
use Rattle.word_values.specs.Solids.{number_count, solid_made}
use Rattle.word_values.specs.declared.solid.SolidKind.{SolidKind}
use Rattle.word_values.specs.SolidForms.{made_as}
use Rattle.word_values.specs.Kinds.{AllWithinKinds}
use Rattle.word_values.specs.declared.atoms.NumberList.TheVariants as lists
use Rattle.put_form.proofs.SolidLaws.{filled, filled_within}
use Rattle.put_form.proofs.solid.make_solid.Goals as goal

pub make-requires-clause-sizes : goal.make-requires-clause-sizes
make-requires-clause-sizes c =
    let kind : c.made_as-kind.result ≡ made_as c.args.form = c.made_as-kind.ensures in
    let count = c.number_count-count.ensures.exact ∙ ap number_count kind in
    subst (λ (k : SolidKind). AllWithinKinds (lists.Solid k) (take c.number_count-count.result c.whole_numbers-numbers.result)) (sym kind)
    (filled_within (lists.Solid (made_as c.args.form)) c.args.numbers.now c.whole_numbers-numbers.result c.number_count-count.result (omega (arith, count, c.requires.count)) c.whole_numbers-numbers.ensures c.requires.sizes)

pub returns : goal.returns
returns c =
    let kind : c.made_as-kind.result ≡ made_as c.args.form = c.made_as-kind.ensures in
    let count = c.number_count-count.ensures.exact ∙ ap number_count kind in
    c.make.ensures
    ∙ ap (λ (k : SolidKind). solid_made k (map (λ (n : ℤ). Some n) (take c.number_count-count.result c.whole_numbers-numbers.result))) kind
    ∙ filled (made_as c.args.form) c.args.numbers.now c.whole_numbers-numbers.result c.number_count-count.result count (omega (arith, count, c.requires.count)) c.whole_numbers-numbers.ensures
