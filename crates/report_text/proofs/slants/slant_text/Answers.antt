use Rattle.std.proofs.Common.{◌≡◌, ◌<◌, ◌+◌, ◌∙◌, ◌∷◌, ◌++◌, [], ℕ, pos, List, Err, length, get_or, ap, sym, subst, arith, rules}
use Rattle.surd_quot.specs.declared.position.QPos.TheVariants.{Frac}
use Rattle.oblique_ray.specs.declared.slab.Slab.{Slab}
use Rattle.transcript.specs.Lines.{Lacks}
use Rattle.report_text.specs.Slants.{slant_lines}
use Rattle.report_text.specs.Texts.{IsText}
use Rattle.report_text.proofs.LineLaws.{few_lines, one_more, too_long, refused}
use Rattle.report_text.proofs.ShotLaws.{get_at}
use Rattle.report_text.proofs.SlantLaws.{line_of_slab, line_of_slab_is}
use Rattle.report_text.proofs.slants.slant_text.Goals as goal

abbrev no_slab : Slab
no_slab = record { region = 0; start = Frac (pos 0) (pos 0); end = Frac (pos 0) (pos 0) }

pub push_line-requires-clause-one_line : goal.push_line-requires-clause-one_line
push_line-requires-clause-one_line c = subst (Lacks 10) (sym (c.deref.ensures.value ∙ c.in_ok-line.ensures.value)) c.in_ok-line.ensures.one_line

pub push_line-requires-clause-few : goal.push_line-requires-clause-few
push_line-requires-clause-few c = omega (arith, few_lines c.loop-slab.body, c.loop-slab.invariant.1, c.requires.room)

pub returns-in_err-left : goal.returns-in_err-left
returns-in_err-left c =
    let slab : Slab = get_or c.args.slabs.now c.loop-slab.slab-index no_slab in
    let line : c.deref.result.now ≡ line_of_slab c.args.scene.now slab =
    line_of_slab_is c.args.scene.now c.regions.result.now slab c.index-regions-slab.result c.deref.result.now
    (c.requires.regions c.loop-slab.slab-index no_slab c.loop-slab-test.true) c.regions.ensures.value c.index-regions-slab.is (c.deref.ensures.value ∙ c.in_ok-line.ensures.value) in
    let same : c.from_residual-in_err-left.result ≡ Err c.in_err-left.field-0.0 = search rules in
    subst (λ r. IsText r (slant_lines c.args.scene.now c.args.slabs.now) c.args.room) (sym same)
    (refused c.in_err-left.field-0.0 (slant_lines c.args.scene.now c.args.slabs.now) c.args.room
    (λ e. let short : c.loop-slab.left < length c.deref.result.now + 1 = c.push_line.ensures.room (c.in_err-left.was ∙ ap Err e) in
    too_long (line_of_slab c.args.scene.now) c.args.slabs.now c.loop-slab.slab-index slab c.loop-slab.body c.loop-slab.left c.args.room
    (get_at c.args.slabs.now c.loop-slab.slab-index no_slab c.loop-slab-test.true) c.loop-slab.invariant.0 c.loop-slab.invariant.1 (omega (arith, short, ap (length {A = ℕ}) line))))

pub loop-slab-preserved : goal.loop-slab-preserved
loop-slab-preserved c =
    let slab : Slab = get_or c.args.slabs.now c.loop-slab.slab-index no_slab in
    let line : c.deref.result.now ≡ line_of_slab c.args.scene.now slab =
    line_of_slab_is c.args.scene.now c.regions.result.now slab c.index-regions-slab.result c.deref.result.now
    (c.requires.regions c.loop-slab.slab-index no_slab c.loop-slab-test.true) c.regions.ensures.value c.index-regions-slab.is (c.deref.ensures.value ∙ c.in_ok-line.ensures.value) in
    let told = c.in_ok-left.ensures.ok in
    one_more (line_of_slab c.args.scene.now) c.args.slabs.now c.loop-slab.slab-index slab c.loop-slab.body c.push_line.new.body c.loop-slab.left c.in_ok-left.left c.args.room
    (get_at c.args.slabs.now c.loop-slab.slab-index no_slab c.loop-slab-test.true) c.loop-slab.invariant.0 c.loop-slab.invariant.1
    (told.0 ∙ ap (λ (l : List ℕ). c.loop-slab.body ++ l ∷ []) line) (omega (arith, told.1, ap (length {A = ℕ}) line))
