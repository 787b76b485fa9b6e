-- The names and texts that a directory's objects have by their types have no line feed.
use Rattle.std.proofs.Common.{[], ◌∷◌, All}
use Rattle.std.specs.List.{AllByRecursion}
use Rattle.name_core.specs.declared.name.Name.{Name}
use Rattle.object_set.specs.Named.{IsNamedEntry}
use Rattle.object_set.specs.Objects.{Parts}
use Rattle.object_set.proofs.Each.{by_each}
use Rattle.directory.specs.Walks.{Entries}
use Rattle.mged_words.specs.Readable.{IsPlainObject}
use Rattle.put_form.proofs.OneLine.{name_lacks, members_plain, attrs_plain}
use Rattle.session_run.proofs.EditLaws.{AreEntriesPlain}

object_named : (e : Name × Parts) → IsNamedEntry e → IsPlainObject e.1
object_named e h = record { members = members_plain e.1.body h.members; kept = attrs_plain e.1.kept h.keys h.kept }

entries_by : (es : Entries) → AllByRecursion IsNamedEntry es → AreEntriesPlain es
entries_by [] h = tt
entries_by (e ∷ es) h = ((name_lacks e.0 h.0.name, object_named e h.0), entries_by es h.1)

pub named_plain : (es : Entries) → All IsNamedEntry es → AreEntriesPlain es
named_plain es h = entries_by es (by_each IsNamedEntry es h)
