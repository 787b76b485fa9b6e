use Rattle.std.proofs.Common.{◌∙◌, ap}
use Rattle.std.specs.Arc.{arc_value}
use Rattle.indexmap.specs.IndexMap.{insert_entry}
use Rattle.name_core.specs.Same.{same_name}
use Rattle.shared_pages.specs.Sharing.{values_shared}
use Rattle.shared_pages.proofs.SharingLemmas.{values_inserted}
use Rattle.shared_pages.proofs.pairs.Pairs.insert.Goals as goal

pub returns-clause-ok : goal.returns-clause-ok
returns-clause-ok g c =
    ap (λ l. values_shared l) c.in_ok-_old.ensures.entries ∙ values_inserted same_name c.self.inside.entries.entries c.args.name.now c.args.value
    ∙ ap (λ l. insert_entry same_name l c.args.name.now (arc_value c.args.value)) c.self.view_is
