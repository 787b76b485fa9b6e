use Rattle.std.proofs.Common.{◌≡◌, subst, sym, rules}
use Rattle.transcript.specs.Lines.{Lacks}
use Rattle.report_text.specs.Listings.{marked}
use Rattle.report_text.proofs.LeafLaws.{marked_lacks}
use Rattle.report_text.proofs.trees.write_name.Goals as goal

pub returns-clause-one_line : goal.returns-clause-one_line
returns-clause-one_line c =
    let whole : c.push_marked.new.line ≡ marked c.args.directory.now.objects c.args.name.now = search rules in
    subst (Lacks 10) (sym whole) (marked_lacks c.args.directory.now.objects c.args.name.now c.push_marked.ensures.named)
