use Rattle.std.proofs.Common.{◌∙◌, nat_eq, ap, sym, subst}
use Rattle.std.specs.List.{IsDistinct}
use Rattle.std.specs.Map.{keys_of}
use Rattle.object_pages.specs.Tallies.{counts_shared}
use Rattle.object_pages.proofs.TallyLemmas.{Counts, one_distinct}
use Rattle.object_pages.proofs.shared_tally.SharedTally.len.Goals as goal

pub returns-in-None-clause-distinct : goal.returns-in-None-clause-distinct
returns-in-None-clause-distinct c =
    subst (λ (t : Counts). IsDistinct nat_eq (keys_of t)) (sym (ap (counts_shared c.self.inside.page c.self.inside.leaves) c.in-None.is) ∙ c.self.view_is) (one_distinct c.self.inside.page c.self.inside.leaves)
