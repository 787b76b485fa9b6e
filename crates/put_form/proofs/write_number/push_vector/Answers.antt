use Rattle.std.proofs.Common.{rules}
use Rattle.std.proofs.lemmas.Int.{to_z-of_z}
use mir.Val.{SFits}
use mir.Syntax.{w64}
use Rattle.put_form.specs.Written.{number_text}
use Rattle.put_form.proofs.WritingLaws.{braced}
use Rattle.put_form.proofs.write_number.push_vector.Goals as goal

pub returns : goal.returns
returns c =
    let fits_x : SFits w64 c.args.vector.x = search rules in
    let fits_y : SFits w64 c.args.vector.y = search rules in
    let fits_z : SFits w64 c.args.vector.z = search rules in
    let x = simp to_z-of_z at c.in_ok-push_by_kind.ensures in
    let y = simp to_z-of_z at c.in_ok-push_by_kind-2.ensures in
    let z = simp to_z-of_z at c.in_ok-push_by_kind-3.ensures in
    braced c.args.line.now.items _ _ _ _ _ _ _ (number_text c.args.kind c.args.vector.x) (number_text c.args.kind c.args.vector.y) (number_text c.args.kind c.args.vector.z)
    c.in_ok-push.ensures.items x c.in_ok-push-2.ensures.items y c.in_ok-push-3.ensures.items z c.in_ok-push-4.ensures.items
