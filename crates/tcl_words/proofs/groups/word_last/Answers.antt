use Rattle.std.proofs.Common.{◌∙◌, sym}
use Rattle.tcl_words.specs.Tokens.{token}
use Rattle.tcl_words.specs.declared.token.Kind.TheVariants.{Open}
use Rattle.tcl_words.proofs.LevelSteps.{level_next, last_at, last_past}
use Rattle.tcl_words.proofs.groups.word_last.Goals as goal

pub returns-then-groups-eq0 : goal.returns-then-groups-eq0
returns-then-groups-eq0 c =
    let ts = c.args.tokens.now in
    let level = level_next ts c.loop-last.last c.loop-last.groups c.level_after-groups.result (token Open 0 0) c.loop-last-test.true c.loop-last.invariant.counted c.level_after-groups.ensures in
    sym (c.loop-last.invariant.later ∙ last_at ts c.loop-last.last c.level_after-groups.result c.loop-last-test.true level c.if-groups-eq0.true)

pub loop-last-preserved : goal.loop-last-preserved
loop-last-preserved c =
    let ts = c.args.tokens.now in
    let level = level_next ts c.loop-last.last c.loop-last.groups c.level_after-groups.result (token Open 0 0) c.loop-last-test.true c.loop-last.invariant.counted c.level_after-groups.ensures in
    record { counted = level; later = c.loop-last.invariant.later ∙ last_past ts c.loop-last.last c.level_after-groups.result c.loop-last-test.true level c.if-groups-eq0.false }
