use Rattle.std.proofs.Common.{◌≡◌, ◌∙◌, ap, sym, subst, arith}
use Rattle.std.specs.Prelude.{None}
use Rattle.std.specs.Map.{lookup}
use Rattle.name_core.specs.Same.{same_name}
use Rattle.shared_pages.specs.Named.{IsFirst}
use Rattle.shared_pages.proofs.BucketLemmas.{first_within, first_value}
use Rattle.shared_pages.proofs.bucket.Bucket.get.Goals as goal

pub index-requires : goal.index-requires
index-requires g c =
    let first = subst (λ l. IsFirst (same_name c.args.name.now) l c.in-Some.place) c.deref.ensures.value c.in-Some.ensures in
    omega (arith, c.deref.ensures.len, first_within (same_name c.args.name.now) c.self.inside.entries.items c.in-Some.place first)

pub returns-in-Some : goal.returns-in-Some
returns-in-Some g c =
    let first = subst (λ l. IsFirst (same_name c.args.name.now) l c.in-Some.place) c.deref.ensures.value c.in-Some.ensures in
    first_value (same_name c.args.name.now) c.self.inside.entries.items c.in-Some.place c.index.result.now first c.index.ensures
    ∙ ap (λ l. lookup (same_name c.args.name.now) l) c.self.view_is

pub returns-in-None : goal.returns-in-None
returns-in-None g c =
    sym (subst (λ l. lookup (same_name c.args.name.now) l ≡ None) c.deref.ensures.value c.in-None.ensures)
    ∙ ap (λ l. lookup (same_name c.args.name.now) l) c.self.view_is
