use Rattle.std.proofs.Common.{◌≡◌, ◌∙◌, true, ap, rules}
use Rattle.std.specs.Prelude.{is_some}
use Rattle.name_core.specs.declared.name.Name.{Name}
use Rattle.object_set.specs.Objects.{Parts}
use Rattle.directory.specs.Walks.{Entries, object_of}
use Rattle.directory.specs.Edits.{replaced, replace_fault, judged}
use Rattle.directory.proofs.ContentsLemmas.{makes_by}
use Rattle.directory.proofs.TellLemmas.{replace_rest}
use Rattle.directory.proofs.contents.Contents.replace.Goals as goal

pub returns-in-Ok : goal.returns-in-Ok
returns-in-Ok c =
    let es : Entries = c.args.self.now in
    let a : Name = c.args.name.now in
    let o : Parts = c.args.object in
    let there : is_some (object_of es a) ≡ true = search rules in
    makes_by (judged c.in-Ok.edit.list a) (replace_fault es a o) (replaced es a o) c.in-Ok.edit.list c.settle.result (ap (λ (l : Entries). judged l a) c.in-Ok.ensures.list ∙ replace_rest es a o there) c.in-Ok.ensures.list
    c.settle.ensures
