use Rattle.std.proofs.Common.{◌∙◌, ap}
use Rattle.std.specs.Map.{remove_entry}
use Rattle.name_core.specs.Same.{same_name}
use Rattle.shared_pages.specs.Sharing.{values_shared}
use Rattle.shared_pages.proofs.SharingLemmas.{values_removed}
use Rattle.shared_pages.proofs.pairs.Pairs.remove.Goals as goal

pub returns : goal.returns
returns g c =
    ap (λ l. values_shared l) c.shift_remove-value.ensures.entries ∙ values_removed (same_name c.args.name.now) c.self.inside.entries.entries
    ∙ ap (λ l. remove_entry (same_name c.args.name.now) l) c.self.view_is
