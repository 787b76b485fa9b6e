use Rattle.std.proofs.Common.{◌∙◌, cond, ap, sym}
use Rattle.std.specs.Map.{lookup}
use Rattle.name_core.specs.Same.{same_name}
use Rattle.shared_pages.proofs.NameLemmas.{lookup_inserted, lookup_removed}
use Rattle.shared_pages.proofs.bucket.Bucket.change.Goals as goal

pub returns-in_ok-insert-in-Some : goal.returns-in_ok-insert-in-Some
returns-in_ok-insert-in-Some g c a =
    ap (λ l. lookup (same_name a) l) c.in_ok-insert-in-Some.ensures.ok ∙ lookup_inserted c.args.self.now c.args.name.now c.in-Some.value a
    ∙ ap (λ o. cond (same_name c.args.name.now a) o (lookup (same_name a) c.args.self.now)) (sym c.in-Some.is)

pub returns-in-None : goal.returns-in-None
returns-in-None g c a =
    ap (λ l. lookup (same_name a) l) c.take-old.ensures.pairs ∙ lookup_removed c.args.self.now c.args.name.now a c.take-old.ensures.distinct
    ∙ ap (λ o. cond (same_name c.args.name.now a) o (lookup (same_name a) c.args.self.now)) (sym c.in-None.is)
