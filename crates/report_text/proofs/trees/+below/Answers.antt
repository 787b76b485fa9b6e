use Rattle.std.proofs.Common.{◌≡◌, ◌<◌, ◌-◌, Err, sym, subst, arith, rules, flat_map}
use Rattle.report_text.specs.Listings.{with_below, lines_below}
use Rattle.report_text.specs.Steps.{IsPushed}
use Rattle.report_text.proofs.PushLaws.{pushed_few, each_fault}
use Rattle.report_text.proofs.trees.+below.Goals as goal

pub push_below-push_with_below-requires : goal.push_below-push_with_below-requires
push_below-push_with_below-requires t c =
    let some : 0 < c.args.levels = omega (arith, c.if-levels-eq0.false) in (
      omega (arith, c.decreases, some),
      (omega (arith, c.requires.few, pushed_few c.loop-leaf.left c.args.body.now c.loop-leaf.body _ c.args.room c.loop-leaf.invariant), omega (arith, c.requires.deep, some)),
    )

pub push_below-returns-in_err-left : goal.push_below-returns-in_err-left
push_below-returns-in_err-left t c =
    let some : 0 < c.args.levels = omega (arith, c.if-levels-eq0.false) in
    let same : c.from_residual-in_err-left.result ≡ Err c.in_err-left.field-0.0 = search rules in
    let lines_for = with_below c.args.directory.now.objects c.args.level (lines_below (c.args.levels - 1) c.args.directory.now.objects) in
    let leaves = c.deref-leaf-items.result.now in
    let whole : flat_map lines_for leaves ≡ lines_below c.args.levels c.args.directory.now.objects c.args.level c.args.name.now = search rules in
    subst (λ r. IsPushed r c.args.body.now c.push_with_below.new.body (lines_below c.args.levels c.args.directory.now.objects c.args.level c.args.name.now) c.args.room) (sym same)
    (subst (λ lines. IsPushed (Err c.in_err-left.field-0.0) c.args.body.now c.push_with_below.new.body lines c.args.room) whole
    (each_fault lines_for leaves c.loop-leaf.leaf-index c.leaf-item.result c.in_err-left.field-0.0 c.loop-leaf.left c.args.body.now c.loop-leaf.body c.push_with_below.new.body c.args.body.now c.push_with_below.new.body c.args.room
    c.loop-leaf-test.true c.leaf-item.is c.loop-leaf.invariant c.in_err-left.ensures))
