use Rattle.std.proofs.Common.{◌≡◌, ◌<◌, ◌+◌, ◌∙◌, ◌∷◌, ◌++◌, [], ℕ, pos, List, Err, length, get_or, ap, sym, subst, arith, rules}
use Rattle.surd_order.specs.declared.position.Pos.TheVariants.{Frac}
use Rattle.shot_core.specs.declared.shot.Lit.{Lit}
use Rattle.transcript.specs.Lines.{Lacks}
use Rattle.report_text.specs.Shots.{shot_lines}
use Rattle.report_text.specs.Texts.{IsText}
use Rattle.report_text.proofs.LineLaws.{few_lines, one_more, too_long, refused}
use Rattle.report_text.proofs.ShotLaws.{get_at, lit_line, lit_line_is}
use Rattle.report_text.proofs.shots.shot_text.Goals as goal

abbrev no_lit : Lit
no_lit = record { region = 0; start = Frac (pos 0) (pos 0); end = Frac (pos 0) (pos 0); hit = record { instance = 0; face = 0 }; level = 0 }

pub push_line-requires-clause-one_line : goal.push_line-requires-clause-one_line
push_line-requires-clause-one_line c = subst (Lacks 10) (sym (c.deref.ensures.value ∙ c.in_ok-line.ensures.value)) c.in_ok-line.ensures.one_line

pub push_line-requires-clause-few : goal.push_line-requires-clause-few
push_line-requires-clause-few c = omega (arith, few_lines c.loop-part.body, c.loop-part.invariant.1, c.requires.room)

pub returns-in_err-left : goal.returns-in_err-left
returns-in_err-left c =
    let part : Lit = get_or c.args.lit.now c.loop-part.part-index no_lit in
    let line : c.deref.result.now ≡ lit_line c.args.scene.now part =
    lit_line_is c.args.scene.now c.regions.result.now part c.index-regions-part.result c.deref.result.now
    (c.requires.regions c.loop-part.part-index no_lit c.loop-part-test.true) c.regions.ensures.value c.index-regions-part.is (c.deref.ensures.value ∙ c.in_ok-line.ensures.value) in
    let same : c.from_residual-in_err-left.result ≡ Err c.in_err-left.field-0.0 = search rules in
    subst (λ r. IsText r (shot_lines c.args.scene.now c.args.lit.now) c.args.room) (sym same)
    (refused c.in_err-left.field-0.0 (shot_lines c.args.scene.now c.args.lit.now) c.args.room
    (λ e. let short : c.loop-part.left < length c.deref.result.now + 1 = c.push_line.ensures.room (c.in_err-left.was ∙ ap Err e) in
    too_long (lit_line c.args.scene.now) c.args.lit.now c.loop-part.part-index part c.loop-part.body c.loop-part.left c.args.room
    (get_at c.args.lit.now c.loop-part.part-index no_lit c.loop-part-test.true) c.loop-part.invariant.0 c.loop-part.invariant.1 (omega (arith, short, ap (length {A = ℕ}) line))))

pub loop-part-preserved : goal.loop-part-preserved
loop-part-preserved c =
    let part : Lit = get_or c.args.lit.now c.loop-part.part-index no_lit in
    let line : c.deref.result.now ≡ lit_line c.args.scene.now part =
    lit_line_is c.args.scene.now c.regions.result.now part c.index-regions-part.result c.deref.result.now
    (c.requires.regions c.loop-part.part-index no_lit c.loop-part-test.true) c.regions.ensures.value c.index-regions-part.is (c.deref.ensures.value ∙ c.in_ok-line.ensures.value) in
    let told = c.in_ok-left.ensures.ok in
    one_more (lit_line c.args.scene.now) c.args.lit.now c.loop-part.part-index part c.loop-part.body c.push_line.new.body c.loop-part.left c.in_ok-left.left c.args.room
    (get_at c.args.lit.now c.loop-part.part-index no_lit c.loop-part-test.true) c.loop-part.invariant.0 c.loop-part.invariant.1
    (told.0 ∙ ap (λ (l : List ℕ). c.loop-part.body ++ l ∷ []) line) (omega (arith, told.1, ap (length {A = ℕ}) line))
