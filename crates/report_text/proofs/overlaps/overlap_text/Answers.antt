use Rattle.std.proofs.Common.{◌≡◌, ◌<◌, ◌+◌, ◌∙◌, ℕ, pos, Err, length, get_or, ap, sym, subst, arith, rules}
use Rattle.surd_order.specs.declared.position.Pos.TheVariants.{Frac}
use Rattle.shot_core.specs.declared.pair.Pair.{Pair}
use Rattle.report_text.specs.Overlaps.{pair_line, overlap_lines}
use Rattle.report_text.specs.Texts.{IsText}
use Rattle.report_text.proofs.LineLaws.{few_lines, too_long, refused}
use Rattle.report_text.proofs.ShotLaws.{get_at}
use Rattle.report_text.proofs.overlaps.overlap_text.Goals as goal

abbrev no_pair : Pair
no_pair = record { one = 0; two = 0; rays = 0; column = 0; row = 0; start = Frac (pos 0) (pos 0); end = Frac (pos 0) (pos 0) }

pub push_line-requires-clause-few : goal.push_line-requires-clause-few
push_line-requires-clause-few c = omega (arith, few_lines c.loop-pair.body, c.loop-pair.invariant.1, c.requires)

pub returns-in_err-left : goal.returns-in_err-left
returns-in_err-left c =
    let pair : Pair = get_or c.args.pairs.now c.loop-pair.pair-index no_pair in
    let line : c.deref.result.now ≡ pair_line c.args.scene.now pair = search rules in
    let same : c.from_residual-in_err-left.result ≡ Err c.in_err-left.field-0.0 = search rules in
    subst (λ r. IsText r (overlap_lines c.args.scene.now c.args.pairs.now) c.args.room) (sym same)
    (refused c.in_err-left.field-0.0 (overlap_lines c.args.scene.now c.args.pairs.now) c.args.room
    (λ e. let short : c.loop-pair.left < length c.deref.result.now + 1 = c.push_line.ensures.room (c.in_err-left.was ∙ ap Err e) in
    too_long (pair_line c.args.scene.now) c.args.pairs.now c.loop-pair.pair-index pair c.loop-pair.body c.loop-pair.left c.args.room
    (get_at c.args.pairs.now c.loop-pair.pair-index no_pair c.loop-pair-test.true) c.loop-pair.invariant.0 c.loop-pair.invariant.1 (omega (arith, short, ap (length {A = ℕ}) line))))
