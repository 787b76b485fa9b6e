use Rattle.std.proofs.Common.{◌++◌, ◌∙◌, ℕ, List, ap, codes, rules}
use Rattle.std.proofs.lemmas.Int.{to_z-of_z}
use Rattle.std.proofs.lemmas.Result.{on_ok_weaker}
use mir.Val.{SFits, to_z, of_z}
use mir.Syntax.{w64}
use Rattle.word_values.specs.Kinds.{coordinate_kind}
use Rattle.put_form.specs.Written.{vector_text}
use Rattle.put_form.specs.WritingSteps.{keyed_text}
use Rattle.put_form.proofs.WritingLaws.{three_more}
use Rattle.put_form.proofs.write_solid.push_rcc.Goals as goal

pub returns : goal.returns
returns c =
    let fits : SFits w64 c.args.radius = search rules in
    let between : List ℕ = c.push_vector.new.line.items in
    on_ok_weaker c.push_keyed.result
    (λ e.
    three_more c.args.line.now.items (codes "rcc V ") (vector_text coordinate_kind c.args.base) (keyed_text (codes " H ") coordinate_kind c.args.height (codes " r ") c.args.radius) _ _ _ c.in_ok-extend_from_slice.ensures.items
    (c.in_ok-push_vector.ensures ∙ ap (λ kind. c.extend_from_slice.new.self.items ++ vector_text kind c.args.base) c.coordinate_kind.ensures)
    (e ∙ ap (λ kind. between ++ keyed_text (codes " H ") kind c.args.height (codes " r ") (to_z w64 (of_z w64 c.args.radius))) c.coordinate_kind-2.ensures
    ∙ ap (λ n. between ++ keyed_text (codes " H ") coordinate_kind c.args.height (codes " r ") n) (to_z-of_z w64 c.args.radius fits)))
    c.push_keyed.ensures
