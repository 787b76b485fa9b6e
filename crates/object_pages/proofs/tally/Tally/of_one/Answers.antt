use Rattle.std.proofs.Common.{◌∙◌, ◌∷◌, [], ◌++◌, nat_eq, ap, sym, subst}
use Rattle.std.specs.List.{IsDistinct}
use Rattle.std.specs.Map.{keys_of}
use Rattle.object_pages.proofs.TallyLemmas.{Counts, one_distinct}
use Rattle.object_pages.proofs.tally.Tally.of_one.Goals as goal

pub invariant_of-result : goal.invariant_of-result
invariant_of-result c =
    subst (λ (t : Counts). IsDistinct nat_eq (keys_of t)) (sym (c.in_ok-push.ensures.items ∙ ap (λ (t : Counts). t ++ (c.args.page, c.args.leaves) ∷ []) c.in_ok-counts.ensures.items)) (one_distinct c.args.page c.args.leaves)
