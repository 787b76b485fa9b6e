use Rattle.std.proofs.Common.{◌≡◌, ◌<◌, ◌∙◌, false, length, ap, sym, rules}
use Rattle.std.specs.Prelude.{is_some}
use Rattle.std.specs.Arc.{arc_value}
use Rattle.std.specs.Option.{option_copied}
use Rattle.name_core.specs.declared.name.Name.{Name}
use Rattle.object_set.specs.Objects.{Parts}
use Rattle.directory.specs.Walks.{Entries, object_of, most_objects}
use Rattle.directory.specs.Edits.{appended, put_fault, judged}
use Rattle.directory.proofs.ContentsLemmas.{makes_by, none_got}
use Rattle.directory.proofs.TellLemmas.{put_rest}
use Rattle.directory.proofs.contents.Contents.put.Goals as goal

pub returns-in-Ok : goal.returns-in-Ok
returns-in-Ok c =
    let es : Entries = c.args.self.now in
    let a : Name = c.args.name.now in
    let o : Parts = arc_value c.args.object in
    let got : option_copied c.get.result ≡ object_of es a = c.get.ensures ∙ ap (λ (l : Entries). object_of l a) c.self.view_is in
    let none : is_some (object_of es a) ≡ false = none_got c.get.result (object_of es a) got (sym c.if-is_some.ensures) in
    let room : length es < most_objects = search rules in
    makes_by (judged c.in-Ok.edit.list a) (put_fault es a o) (appended es a o) c.in-Ok.edit.list c.settle.result (ap (λ (l : Entries). judged l a) c.in-Ok.ensures.list ∙ put_rest es a o none room) c.in-Ok.ensures.list
    c.settle.ensures
