use Rattle.std.proofs.Common.{rules, ◌≡◌, ◌≤◌, ◌<◌, ◌+◌, ◌-◌, ◌∙◌, ◌++◌, ℕ, List, false, length, replicate, filter, All, AllPairs, vec_len, ap, sym, subst, arith}
use Rattle.std.proofs.lemmas.List.Kept.{AllPairs-filter}
use Rattle.surd_order.specs.declared.position.Pos.{Pos}
use Rattle.bool_weave.specs.declared.span.Span.{Span}
use Rattle.bool_weave.specs.declared.woven.Woven.{Woven}
use Rattle.bool_weave.specs.Cuts.{cuts_of}
use Rattle.bool_weave.specs.Masks.{mask_holds}
use Rattle.bool_weave.specs.Claims.{spans}
use Rattle.bool_weave.specs.Tables.{is_from_to, at_leaf, interval_at}
use Rattle.bool_weave.proofs.Claimed.{cut_all, first_all, claims_are}
use Rattle.bool_weave.proofs.claim.claims.Goals as goal

pub spans_of-requires-clause-cuts : goal.spans_of-requires-clause-cuts
spans_of-requires-clause-cuts c =
    cut_all c.args.weave.now c.woven_within-woven.result.now (is_from_to c.args.first (c.args.first + c.leaf_end.result)) c.cuts-cuts.result.now c.woven_within-woven.ensures.sound c.cuts-cuts.ensures.cuts c.woven_within-woven.ensures.woven

pub spans_of-requires-clause-order : goal.spans_of-requires-clause-order
spans_of-requires-clause-order c =
    subst (λ l. AllPairs (λ (v w : Woven). v.instance < w.instance) l) (sym c.woven_within-woven.ensures.woven)
    (AllPairs-filter (λ (v w : Woven). v.instance < w.instance) (is_from_to c.args.first (c.args.first + c.leaf_end.result)) c.args.weave.now c.woven_within-woven.ensures.sound.rising)

pub spans_of-requires-clause-first : goal.spans_of-requires-clause-first
spans_of-requires-clause-first c =
    first_all c.args.weave.now c.woven_within-woven.result.now c.args.first (c.args.first + c.leaf_end.result) c.woven_within-woven.ensures.woven

few : (c : goal.In_ok-row) → length c.cuts-cuts.result.now ≤ 4294967296
few c = omega (arith, c.cuts-cuts.ensures.few, c.woven_within-woven.ensures.few)

within : (c : goal.In_ok-row) → c.hull_of-hull.result.to ≤ length c.cuts-cuts.result.now - 1
within c = c.hull_of-hull.ensures.bound (length c.cuts-cuts.result.now - 1) (subst (λ l. All (λ (s : Span). s.to ≤ length c.cuts-cuts.result.now - 1) l) (sym c.deref.ensures.value) c.in_ok-table.ensures.bound)

long : (c : goal.In_ok-row) → length c.in_ok-row.row.items ≡ c.hull_of-hull.result.to - c.min-start.result
long c = let counted : vec_len c.in_ok-row.row ≡ length c.in_ok-row.row.items = search rules in sym counted ∙ c.in_ok-row.ensures.len

pub overflow_cast-result : goal.overflow_cast-result
overflow_cast-result c = omega (arith, few c, c.cuts-cuts.ensures.some)

pub overflow_cast-result-2 : goal.overflow_cast-result-2
overflow_cast-result-2 c = omega (arith, few c, within c, c.min-start.ensures, c.cuts-cuts.ensures.some)

pub invariant_of-result : goal.invariant_of-result
invariant_of-result c = (omega (arith, within c, long c, c.min-start.ensures), omega (arith, few c, c.cuts-cuts.ensures.some))

pub returns : goal.returns
returns c =
    let mine = filter (is_from_to c.args.first (c.args.first + c.leaf_end.result)) c.args.weave.now in
    let leaves : (k i : ℕ) → k + 1 < length (cuts_of c.args.weave.now) → at_leaf c.in_ok-table.table.items k i ≡ spans mine (interval_at (cuts_of c.args.weave.now) k) (c.args.first + i) =
    subst (λ (l : List Pos). (k i : ℕ) → k + 1 < length l → at_leaf c.in_ok-table.table.items k i ≡ spans mine (interval_at l k) (c.args.first + i)) c.cuts-cuts.ensures.cuts
    (subst (λ (m : List Woven). (k i : ℕ) → k + 1 < length c.cuts-cuts.result.now → at_leaf c.in_ok-table.table.items k i ≡ spans m (interval_at c.cuts-cuts.result.now k) (c.args.first + i)) c.woven_within-woven.ensures.woven c.in_ok-table.ensures.leaves) in
    let hull : All (λ (s : Span). (c.hull_of-hull.result.from ≤ s.from) × (s.to ≤ c.hull_of-hull.result.to)) c.in_ok-table.table.items =
    subst (λ l. All (λ (s : Span). (c.hull_of-hull.result.from ≤ s.from) × (s.to ≤ c.hull_of-hull.result.to)) l) c.deref.ensures.value c.hull_of-hull.ensures.hull in
    let within : c.hull_of-hull.result.to ≤ length (cuts_of c.args.weave.now) - 1 =
    subst (λ (l : List Pos). c.hull_of-hull.result.to ≤ length l - 1) c.cuts-cuts.ensures.cuts
    (c.hull_of-hull.ensures.bound (length c.cuts-cuts.result.now - 1) (subst (λ l. All (λ (s : Span). s.to ≤ length c.cuts-cuts.result.now - 1) l) (sym c.deref.ensures.value) c.in_ok-table.ensures.bound)) in
    let counted : vec_len c.in_ok-row.row ≡ length c.in_ok-row.row.items = search rules in
    ap (λ (l : List Pos). replicate c.min-start.result false ++ (c.in_ok-row.row.items ++ replicate ((length l - 1) - (c.min-start.result + length c.in_ok-row.row.items)) false)) c.cuts-cuts.ensures.cuts
    ∙ claims_are c.args.weave.now c.args.tree.now c.args.first c.leaf_end.result c.in_ok-table.table.items c.hull_of-hull.result c.min-start.result c.in_ok-row.row.items
    c.leaf_end.ensures.all leaves hull within c.min-start.ensures (sym counted ∙ c.in_ok-row.ensures.len)
    (λ k lt. c.in_ok-row.ensures.each k lt ∙ ap (λ l. mask_holds c.args.tree.now (at_leaf l (c.min-start.result + k))) c.deref-2.ensures.value)
