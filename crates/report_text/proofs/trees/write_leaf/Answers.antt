use Rattle.std.proofs.Common.{◌≡◌, ◌*◌, ◌++◌, codes, replicate, subst, sym, rules}
use Rattle.transcript.specs.Lines.{Lacks}
use Rattle.name_core.specs.NameText.{IsName}
use Rattle.report_text.specs.Listings.{operator_text, marked}
use Rattle.report_text.proofs.LeafLaws.{leaf_lacks, leaf_written}
use Rattle.report_text.proofs.trees.write_leaf.Goals as goal

pub returns-clause-one_line : goal.returns-clause-one_line
returns-clause-one_line c =
    let objects = c.args.directory.now.objects in
    let first : c.push_blanks.new.line ≡ replicate (2 * c.args.level) 32 = search rules in
    let second : c.push.new.self ≡ c.push_blanks.new.line ++ operator_text c.args.leaf.now.op = search rules in
    let third : c.push-2.new.self ≡ c.push.new.self ++ codes " " = search rules in
    let fourth : c.push_marked.new.line ≡ c.push-2.new.self ++ marked objects c.args.leaf.now.name = search rules in
    subst (Lacks 10) (sym (leaf_written objects c.args.level c.args.leaf.now c.push_blanks.new.line c.push.new.self c.push-2.new.self c.push_marked.new.line first second third fourth))
    (leaf_lacks objects c.args.level c.args.leaf.now (subst IsName c.name.ensures c.push_marked.ensures.named))
