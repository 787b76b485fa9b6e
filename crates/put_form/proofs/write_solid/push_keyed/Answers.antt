use Rattle.std.proofs.Common.{◌++◌, ◌∙◌, ap, rules}
use Rattle.std.proofs.lemmas.Int.{to_z-of_z}
use Rattle.std.proofs.lemmas.Result.{on_ok_weaker}
use mir.Val.{SFits}
use mir.Syntax.{w64}
use Rattle.put_form.specs.Written.{length_text, vector_text}
use Rattle.put_form.proofs.WritingLaws.{four_more}
use Rattle.put_form.proofs.write_solid.push_keyed.Goals as goal

pub returns : goal.returns
returns c =
    let fits : SFits w64 c.args.length = search rules in
    on_ok_weaker c.push_length.result
    (λ e.
    four_more c.args.line.now.items c.args.before.now (vector_text c.args.kind c.args.vector) c.args.between.now (length_text c.args.length) _ _ _ _ c.in_ok-extend_from_slice.ensures.items c.in_ok-push_vector.ensures c.in_ok-extend_from_slice-2.ensures.items
    (e ∙ ap (λ n. c.extend_from_slice-2.new.self.items ++ length_text n) (to_z-of_z w64 c.args.length fits)))
    c.push_length.ensures
