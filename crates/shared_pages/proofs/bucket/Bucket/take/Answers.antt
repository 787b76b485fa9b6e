use Rattle.std.proofs.Common.{◌≡◌, ◌∙◌, ap, sym, subst, arith, None}
use Rattle.std.specs.List.{IsDistinct}
use Rattle.std.specs.Map.{lookup, keys_of, remove_entry}
use Rattle.name_core.specs.Same.{same_name}
use Rattle.shared_pages.specs.Named.{IsFirst}
use Rattle.shared_pages.proofs.BucketLemmas.{first_within, first_value, first_removed, none_removed, distinct_removed}
use Rattle.shared_pages.proofs.bucket.Bucket.take.Goals as goal

pub remove-name-requires : goal.remove-name-requires
remove-name-requires g c =
    let first = subst (λ l. IsFirst (same_name c.args.name.now) l c.in-Some.place) c.deref.ensures.value c.in-Some.ensures in
    omega (arith, c.deref.ensures.len, first_within (same_name c.args.name.now) c.self.inside.entries.items c.in-Some.place first)

pub invariant_of-self : goal.invariant_of-self
invariant_of-self g c =
    let first = subst (λ l. IsFirst (same_name c.args.name.now) l c.in-Some.place) c.deref.ensures.value c.in-Some.ensures in
    let left = c.remove-name.ensures.items ∙ first_removed (same_name c.args.name.now) c.self.inside.entries.items c.in-Some.place first in
    subst (λ l. IsDistinct same_name (keys_of l)) (sym left) (distinct_removed (same_name c.args.name.now) c.self.inside.entries.items c.self.invariant)

pub returns-in-Some-clause-value : goal.returns-in-Some-clause-value
returns-in-Some-clause-value g c =
    let first = subst (λ l. IsFirst (same_name c.args.name.now) l c.in-Some.place) c.deref.ensures.value c.in-Some.ensures in
    first_value (same_name c.args.name.now) c.self.inside.entries.items c.in-Some.place c.remove-name.result first c.remove-name.ensures.value
    ∙ ap (λ l. lookup (same_name c.args.name.now) l) c.self.view_is

pub returns-in-Some-clause-pairs : goal.returns-in-Some-clause-pairs
returns-in-Some-clause-pairs g c =
    let first = subst (λ l. IsFirst (same_name c.args.name.now) l c.in-Some.place) c.deref.ensures.value c.in-Some.ensures in
    c.remove-name.ensures.items ∙ first_removed (same_name c.args.name.now) c.self.inside.entries.items c.in-Some.place first
    ∙ ap (λ l. remove_entry (same_name c.args.name.now) l) c.self.view_is

pub returns-in-None-clause-pairs : goal.returns-in-None-clause-pairs
returns-in-None-clause-pairs g c =
    let none = subst (λ l. lookup (same_name c.args.name.now) l ≡ None) c.deref.ensures.value c.in-None.ensures in
    sym c.self.view_is ∙ none_removed (same_name c.args.name.now) c.self.inside.entries.items none
    ∙ ap (λ l. remove_entry (same_name c.args.name.now) l) c.self.view_is
