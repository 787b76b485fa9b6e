use Rattle.std.proofs.Common.{◌∙◌, arith, sym}
use Rattle.directory.specs.Depths.{depth_kept}
use Rattle.directory.proofs.ContentsLemmas.{set_begins, zero_begins}
use Rattle.directory.proofs.contents.begun.Goals as goal

pub returns-then-depth-eq0-clause-begins : goal.returns-then-depth-eq0-clause-begins
returns-then-depth-eq0-clause-begins c =
    zero_begins c.args.list (depth_kept c.args.depths) c.args.name.now c.new-users.result c.requires.begins c.requires.missed (sym c.if-depth-eq0.true ∙ c.requires.due)

pub returns-clause-begins : goal.returns-clause-begins
returns-clause-begins c =
    set_begins c.args.list (depth_kept c.args.depths) (depth_kept c.in_ok-depths.depths) c.args.name.now c.args.depth c.put_users.new.names c.requires.begins c.requires.due
    (omega (arith, c.if-depth-gt-DEPTH.false)) c.in_ok-put_users.ensures.users (omega (arith, c.len.ensures.value, c.if-len-gt0.false)) c.in_ok-depths.ensures
