use Rattle.std.proofs.Common.{◌≡◌, ◌-◌, ◌∙◌, cond, nat_eq, ap, sym, subst, arith}
use Rattle.std.specs.List.{IsDistinct}
use Rattle.std.specs.Map.{keys_of}
use Rattle.shared_pages.specs.Named.{IsFirst}
use Rattle.shared_pages.proofs.BucketLemmas.{first_within}
use Rattle.object_pages.specs.Tallies.{count_on}
use Rattle.object_pages.proofs.TallyLemmas.{Counts, found_count, count_set, distinct_set, count_removed, distinct_removed, taken_at}
use Rattle.object_pages.proofs.tally.Tally.take.Goals as goal

pub index-requires : goal.index-requires
index-requires c =
    let first = subst (λ l. IsFirst (nat_eq c.args.page) l c.in-Some.place) c.deref.ensures.value c.in-Some.ensures in
    omega (arith, c.deref.ensures.len, first_within (nat_eq c.args.page) c.self.inside.counts.items c.in-Some.place first)

pub overflow_sub-rest : goal.overflow_sub-rest
overflow_sub-rest c =
    let first = subst (λ l. IsFirst (nat_eq c.args.page) l c.in-Some.place) c.deref.ensures.value c.in-Some.ensures in
    let at : c.index.result.now.1 ≡ count_on c.args.self c.args.page = found_count c.self.inside.counts.items c.in-Some.place c.args.page c.index.result.now first c.index.ensures ∙ ap (λ l. count_on l c.args.page) c.self.view_is in
    omega (arith, at, c.requires)

pub remove-count-requires : goal.remove-count-requires
remove-count-requires c =
    let first = subst (λ l. IsFirst (nat_eq c.args.page) l c.in-Some.place) c.deref.ensures.value c.in-Some.ensures in
    omega (arith, c.deref.ensures.len, first_within (nat_eq c.args.page) c.self.inside.counts.items c.in-Some.place first)

pub index_mut-requires : goal.index_mut-requires
index_mut-requires c =
    let first = subst (λ l. IsFirst (nat_eq c.args.page) l c.in-Some.place) c.deref.ensures.value c.in-Some.ensures in
    omega (arith, c.deref.ensures.len, first_within (nat_eq c.args.page) c.self.inside.counts.items c.in-Some.place first)

pub invariant_of-result-then-rest-eq0 : goal.invariant_of-result-then-rest-eq0
invariant_of-result-then-rest-eq0 c =
    subst (λ l. IsDistinct nat_eq (keys_of l)) (sym c.remove-count.ensures.items) (distinct_removed c.self.inside.counts.items c.in-Some.place c.self.invariant)

pub returns-then-rest-eq0 : goal.returns-then-rest-eq0
returns-then-rest-eq0 c =
    let first = subst (λ l. IsFirst (nat_eq c.args.page) l c.in-Some.place) c.deref.ensures.value c.in-Some.ensures in
    let at : c.index.result.now.1 ≡ count_on c.args.self c.args.page = found_count c.self.inside.counts.items c.in-Some.place c.args.page c.index.result.now first c.index.ensures ∙ ap (λ l. count_on l c.args.page) c.self.view_is in
    let left = count_removed c.self.inside.counts.items c.in-Some.place c.args.page first c.self.invariant in
    taken_at (count_on c.args.self) (count_on c.remove-count.new.self.items) c.args.page 0 c.args.leaves
    (λ n. ap (λ (l : Counts). count_on l n) c.remove-count.ensures.items ∙ left n ∙ ap (λ (l : Counts). cond (nat_eq c.args.page n) 0 (count_on l n)) c.self.view_is) (omega (arith, at, c.requires, c.if-rest-eq0.true))

pub invariant_of-result-2 : goal.invariant_of-result-2
invariant_of-result-2 c =
    let first = subst (λ l. IsFirst (nat_eq c.args.page) l c.in-Some.place) c.deref.ensures.value c.in-Some.ensures in
    distinct_set c.self.inside.counts.items c.in-Some.place c.args.page (c.index.result.now.1 - c.args.leaves) first c.self.invariant

pub returns : goal.returns
returns c =
    let first = subst (λ l. IsFirst (nat_eq c.args.page) l c.in-Some.place) c.deref.ensures.value c.in-Some.ensures in
    let at : c.index.result.now.1 ≡ count_on c.args.self c.args.page = found_count c.self.inside.counts.items c.in-Some.place c.args.page c.index.result.now first c.index.ensures ∙ ap (λ l. count_on l c.args.page) c.self.view_is in
    let set = count_set c.self.inside.counts.items c.in-Some.place c.args.page (c.index.result.now.1 - c.args.leaves) first in
    taken_at (count_on c.args.self) _ c.args.page (c.index.result.now.1 - c.args.leaves) c.args.leaves
    (λ n. set n ∙ ap (λ (l : Counts). cond (nat_eq c.args.page n) (c.index.result.now.1 - c.args.leaves) (count_on l n)) c.self.view_is) (omega (arith, at, c.requires))
