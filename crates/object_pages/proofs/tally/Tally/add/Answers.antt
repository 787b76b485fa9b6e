use Rattle.std.proofs.Common.{◌≡◌, ◌+◌, ◌∙◌, ℕ, None, cond, nat_eq, ap, sym, subst, arith}
use Rattle.std.specs.List.{IsDistinct}
use Rattle.std.specs.Map.{lookup, keys_of}
use Rattle.shared_pages.specs.Named.{IsFirst}
use Rattle.shared_pages.proofs.BucketLemmas.{first_within}
use Rattle.object_pages.specs.Tallies.{count_on}
use Rattle.object_pages.proofs.TallyLemmas.{Counts, found_count, count_set, distinct_set, count_pushed, distinct_pushed, added_at, none_counted}
use Rattle.object_pages.proofs.tally.Tally.add.Goals as goal

pub index-requires : goal.index-requires
index-requires c =
    let first = subst (λ l. IsFirst (nat_eq c.args.page) l c.in-Some.place) c.deref.ensures.value c.in-Some.ensures in
    omega (arith, c.deref.ensures.len, first_within (nat_eq c.args.page) c.self.inside.counts.items c.in-Some.place first)

pub overflow_add-sum : goal.overflow_add-sum
overflow_add-sum c =
    let first = subst (λ l. IsFirst (nat_eq c.args.page) l c.in-Some.place) c.deref.ensures.value c.in-Some.ensures in
    let at : c.index.result.now.1 ≡ count_on c.args.self c.args.page = found_count c.self.inside.counts.items c.in-Some.place c.args.page c.index.result.now first c.index.ensures ∙ ap (λ l. count_on l c.args.page) c.self.view_is in
    omega (arith, at, c.requires)

pub index_mut-requires : goal.index_mut-requires
index_mut-requires c =
    let first = subst (λ l. IsFirst (nat_eq c.args.page) l c.in-Some.place) c.deref.ensures.value c.in-Some.ensures in
    omega (arith, c.deref.ensures.len, first_within (nat_eq c.args.page) c.self.inside.counts.items c.in-Some.place first)

pub invariant_of-result : goal.invariant_of-result
invariant_of-result c =
    let first = subst (λ l. IsFirst (nat_eq c.args.page) l c.in-Some.place) c.deref.ensures.value c.in-Some.ensures in
    distinct_set c.self.inside.counts.items c.in-Some.place c.args.page (c.index.result.now.1 + c.args.leaves) first c.self.invariant

pub returns-in-Some : goal.returns-in-Some
returns-in-Some c =
    let first = subst (λ l. IsFirst (nat_eq c.args.page) l c.in-Some.place) c.deref.ensures.value c.in-Some.ensures in
    let at : c.index.result.now.1 ≡ count_on c.args.self c.args.page = found_count c.self.inside.counts.items c.in-Some.place c.args.page c.index.result.now first c.index.ensures ∙ ap (λ l. count_on l c.args.page) c.self.view_is in
    let set = count_set c.self.inside.counts.items c.in-Some.place c.args.page (c.index.result.now.1 + c.args.leaves) first in
    added_at (count_on c.args.self) _ c.args.page (c.index.result.now.1 + c.args.leaves) c.args.leaves
    (λ n. set n ∙ ap (λ (l : Counts). cond (nat_eq c.args.page n) (c.index.result.now.1 + c.args.leaves) (count_on l n)) c.self.view_is) (ap (λ (m : ℕ). m + c.args.leaves) at)

pub invariant_of-result-2 : goal.invariant_of-result-2
invariant_of-result-2 c =
    let none = subst (λ l. lookup (nat_eq c.args.page) l ≡ None) c.deref.ensures.value c.in_default.ensures in
    subst (λ l. IsDistinct nat_eq (keys_of l)) (sym c.in_ok-push.ensures.items) (distinct_pushed c.self.inside.counts.items c.args.page c.args.leaves none c.self.invariant)

pub returns : goal.returns
returns c =
    let none = subst (λ l. lookup (nat_eq c.args.page) l ≡ None) c.deref.ensures.value c.in_default.ensures in
    let is = ap (λ (l : Counts). count_on l c.args.page) c.self.view_is in
    added_at (count_on c.args.self) _ c.args.page c.args.leaves c.args.leaves
    (λ n. ap (λ (l : Counts). count_on l n) c.in_ok-push.ensures.items ∙ count_pushed c.self.inside.counts.items c.args.page c.args.leaves none n ∙ ap (λ (l : Counts). cond (nat_eq c.args.page n) c.args.leaves (count_on l n)) c.self.view_is)
    (omega (arith, is, none_counted c.self.inside.counts.items c.args.page none))
