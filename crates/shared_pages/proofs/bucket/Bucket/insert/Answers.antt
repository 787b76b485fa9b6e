use Rattle.std.proofs.Common.{◌≡◌, ◌∙◌, ap, sym, subst, arith, None}
use Rattle.std.specs.List.{IsDistinct}
use Rattle.std.specs.Map.{lookup, keys_of}
use Rattle.indexmap.specs.IndexMap.{insert_entry}
use Rattle.name_core.specs.Same.{same_name}
use Rattle.shared_pages.specs.Named.{IsFirst}
use Rattle.shared_pages.proofs.BucketLemmas.{first_within, first_inserted, distinct_inserted}
use Rattle.shared_pages.proofs.NameLemmas.{inserted_new}
use Rattle.shared_pages.proofs.bucket.Bucket.insert.Goals as goal

pub index_mut-requires : goal.index_mut-requires
index_mut-requires g c =
    let first = subst (λ l. IsFirst (same_name c.args.name.now) l c.in-Some.place) c.deref.ensures.value c.in-Some.ensures in
    omega (arith, c.deref.ensures.len, first_within (same_name c.args.name.now) c.self.inside.entries.items c.in-Some.place first)

pub invariant_of-self : goal.invariant_of-self
invariant_of-self g c =
    let first = subst (λ l. IsFirst (same_name c.args.name.now) l c.in-Some.place) c.deref.ensures.value c.in-Some.ensures in
    let put = first_inserted c.self.inside.entries.items c.in-Some.place c.args.name.now c.args.value first in
    subst (λ l. IsDistinct same_name (keys_of l)) (sym put) (distinct_inserted c.self.inside.entries.items c.args.name.now c.args.value c.self.invariant)

pub returns-in-Some-clause-ok : goal.returns-in-Some-clause-ok
returns-in-Some-clause-ok g c =
    let first = subst (λ l. IsFirst (same_name c.args.name.now) l c.in-Some.place) c.deref.ensures.value c.in-Some.ensures in
    first_inserted c.self.inside.entries.items c.in-Some.place c.args.name.now c.args.value first
    ∙ ap (λ l. insert_entry same_name l c.args.name.now c.args.value) c.self.view_is

pub invariant_of-self-2 : goal.invariant_of-self-2
invariant_of-self-2 g c =
    let none = subst (λ l. lookup (same_name c.args.name.now) l ≡ None) c.deref.ensures.value c.in_default.ensures in
    let put = c.in_ok-push.ensures.items ∙ sym (inserted_new c.self.inside.entries.items c.args.name.now c.args.value none) in
    subst (λ l. IsDistinct same_name (keys_of l)) (sym put) (distinct_inserted c.self.inside.entries.items c.args.name.now c.args.value c.self.invariant)

pub returns-clause-ok : goal.returns-clause-ok
returns-clause-ok g c =
    let none = subst (λ l. lookup (same_name c.args.name.now) l ≡ None) c.deref.ensures.value c.in_default.ensures in
    c.in_ok-push.ensures.items ∙ sym (inserted_new c.self.inside.entries.items c.args.name.now c.args.value none)
    ∙ ap (λ l. insert_entry same_name l c.args.name.now c.args.value) c.self.view_is
