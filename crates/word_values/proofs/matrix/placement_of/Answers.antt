use Rattle.std.proofs.Common.{◌∙◌, sym, subst, ◌↔◌}
use Rattle.std.specs.Option.{IsSome}
use Rattle.lattice_core.specs.declared.placement.Placement.{Placement}
use Rattle.std.specs.Prelude.{Option}
use Rattle.word_values.specs.Matrices.{IsNearMatrix}
use Rattle.word_values.proofs.MatrixLaws.{of_read, some_near}
use Rattle.word_values.proofs.matrix.placement_of.Goals as goal

pub returns-clause-exact : goal.returns-clause-exact
returns-clause-exact c =
    c.ok.ensures.value ∙ of_read c.args.numbers.now c.of_matrix.result c.told-numbers c.of_matrix.ensures.value c.of_matrix.ensures.not_lattice c.of_matrix.ensures.too_far

pub returns-clause-some : goal.returns-clause-some
returns-clause-some c =
    subst (λ (o : Option Placement). IsSome o ↔ IsNearMatrix c.args.numbers.now) (sym c.ok.ensures.value)
    (some_near c.args.numbers.now c.of_matrix.result c.of_matrix.ensures.value c.of_matrix.ensures.not_lattice c.of_matrix.ensures.too_far)
