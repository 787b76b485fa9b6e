use Rattle.std.proofs.Common.{◌∙◌, IsSome, ap, subst, rules}
use Rattle.name_core.specs.declared.name.Name.{Name}
use Rattle.directory.specs.Walks.{Entries, IsSound, object_of}
use Rattle.directory.specs.Edits.{removed, remove_fault, judged}
use Rattle.directory.proofs.ContentsLemmas.{makes_by, removed_judged}
use Rattle.directory.proofs.contents.Contents.remove.Goals as goal

pub returns-in-Ok : goal.returns-in-Ok
returns-in-Ok c =
    let es : Entries = c.args.self.now in
    let a : Name = c.args.name.now in
    let there : IsSome (object_of es a) = search rules in
    let sound : IsSound es = subst (λ (l : Entries). IsSound l) c.self.view_is c.self.invariant.sound in
    makes_by (judged c.in-Ok.edit.list a) (remove_fault es a) (removed es a) c.in-Ok.edit.list c.settle.result (ap (λ (l : Entries). judged l a) c.in-Ok.ensures.list ∙ removed_judged es a there sound) c.in-Ok.ensures.list
    c.settle.ensures
