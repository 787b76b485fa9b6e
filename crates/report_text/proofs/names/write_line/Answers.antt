use Rattle.std.proofs.Common.{◌≡◌, ◌++◌, subst, sym, rules}
use Rattle.transcript.specs.Lines.{Lacks}
use Rattle.report_text.specs.Names.{mark_of}
use Rattle.report_text.proofs.LineLaws.{line_lacks}
use Rattle.report_text.proofs.names.write_line.Goals as goal

pub returns-clause-one_line : goal.returns-clause-one_line
returns-clause-one_line c =
    let whole : c.push-2.new.self ≡ c.args.name.now ++ mark_of c.args.object.now.body = search rules in
    subst (Lacks 10) (sym whole) (line_lacks c.args.name.now c.args.object.now.body c.bytes.ensures.named)
