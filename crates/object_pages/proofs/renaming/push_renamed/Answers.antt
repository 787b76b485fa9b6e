use Rattle.std.proofs.Common.{◌≡◌, ◌∙◌, ◌+◌, ap, rules, subst, Some, take, OnOk}
use Rattle.std.specs.Prelude.{slice_get}
use Rattle.std.specs.Arc.{arc_value}
use Rattle.indexmap.specs.IndexMap.{insert_entry}
use Rattle.name_core.specs.declared.name.Name.{Name}
use Rattle.name_core.specs.Same.{same_name}
use Rattle.object_set.specs.Objects.{Parts}
use Rattle.object_set.specs.Renaming.{new_name, renamed_object}
use Rattle.object_pages.specs.Entries.{Entries}
use Rattle.object_pages.specs.Changes.{renamed_all}
use Rattle.object_pages.proofs.RenamingLemmas.{inserted_next}
use Rattle.object_pages.proofs.renaming.push_renamed.Goals as goal

pub returns : goal.returns
returns c =
    let name : Name = c.in-Some-Some.name.now in
    let object : Parts = c.in-Some-Some._object.now in
    let at : slice_get c.args.pairs.now c.args.place ≡ Some (name, object) = search rules in
    let share : arc_value c.in_ok-share-in-Some-Some.share ≡ renamed_object c.args.old.now c.args.new.now object = search rules in
    let made : insert_entry same_name c.args.renamed.now c.renamed_name.result (arc_value c.in_ok-share-in-Some-Some.share) ≡ renamed_all (take (c.args.place + 1) c.args.pairs.now) c.args.old.now c.args.new.now =
    ap (λ (l : Entries). insert_entry same_name l c.renamed_name.result (arc_value c.in_ok-share-in-Some-Some.share)) c.requires.before
    ∙ ap (λ (x : Name). insert_entry same_name (renamed_all (take c.args.place c.args.pairs.now) c.args.old.now c.args.new.now) x (arc_value c.in_ok-share-in-Some-Some.share)) c.renamed_name.ensures
    ∙ ap (λ (o : Parts). insert_entry same_name (renamed_all (take c.args.place c.args.pairs.now) c.args.old.now c.args.new.now) (new_name c.args.old.now c.args.new.now name) o) share
    ∙ inserted_next c.args.pairs.now c.args.place name object c.args.old.now c.args.new.now at c.len-count.ensures.distinct c.requires.absent in
    let P : Entries → Type 0 = λ l. OnOk c.insert.result (c.insert.new.self ≡ l) in
    subst P made c.insert.ensures.ok
