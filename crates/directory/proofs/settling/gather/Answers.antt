use Rattle.std.proofs.Common.{◌≡◌, ◌<◌, ◌∙◌, false, length, sym, subst, rules}
use Rattle.std.specs.Prelude.{is_some}
use Rattle.name_core.specs.declared.name.Name.{Name}
use Rattle.object_pages.specs.Entries.{AreFew}
use Rattle.object_pages.proofs.ReferenceLemmas.{few_appended}
use Rattle.directory.specs.Walks.{Entries, object_of, most_objects}
use Rattle.directory.specs.Edits.{appended}
use Rattle.directory.proofs.ContentsLemmas.{none_got}
use Rattle.directory.proofs.DraftLemmas.{gather_none}
use Rattle.directory.proofs.TellLemmas.{missing_then}
use Rattle.directory.proofs.settling.gather.Goals as goal

pub returns-in-Ok-clause-answer : goal.returns-in-Ok-clause-answer
returns-in-Ok-clause-answer c =
    let es : Entries = c.args.objects.now in
    let a : Name = c.args.name.now in
    let none : is_some (object_of es a) ≡ false = none_got c.get.result (object_of es a) c.get.ensures (sym c.if-is_some.ensures) in
    let room : length es < most_objects = search rules in
    (gather_none es a none room, c.in-Ok.ensures.ok)

pub returns-in-Ok-clause-few : goal.returns-in-Ok-clause-few
returns-in-Ok-clause-few c =
    let es : Entries = c.args.objects.now in
    let a : Name = c.args.name.now in
    subst (λ (l : Entries). AreFew l) (sym c.in-Ok.ensures.ok) (few_appended es a c.args.object c.nodes_of-nodes.ensures.few c.requires.few)

pub push-requires : goal.push-requires
push-requires c = missing_then (object_of c.args.objects.now c.args.name.now) (none_got c.get.result (object_of c.args.objects.now c.args.name.now) c.get.ensures (sym c.if-is_some.ensures))
