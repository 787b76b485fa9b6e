use Rattle.std.proofs.Common.{◌≡◌, ◌≤◌, ◌+◌, ◌-◌, ◌<◌, ◌∙◌, inl, inr, ℕ, Bool, true, false, cond, nat_eq, List, take, drop, length, get_or, refl, ap, sym, arith}
use Rattle.std.proofs.lemmas.List.{take-append-drop}
use Rattle.std.proofs.lemmas.List.Folds.{drop_split}
use Rattle.std.specs.List.{slice_range}
use Rattle.name_core.specs.declared.name.Name.{Name}
use Rattle.comb_tree.specs.declared.node.CombNode.{CombNode}
use Rattle.object_pages.specs.Members.{name_of_node, node_names, times}
use Rattle.object_pages.proofs.MemberLemmas.{names_append, times_append, node_times, node_next, node_whole}
use Rattle.object_pages.proofs.PageLemmas.{number_tells}

-- ---- front, middle and end
pub parted : (ns : List CombNode) (front end : ℕ) (a : Name) → front ≤ end
    → times (node_names ns) a ≡ times (node_names (take front ns)) a + times (node_names (slice_range ns front end)) a + times (node_names (drop end ns)) a
parted ns front end a le =
    let whole : times (node_names ns) a ≡ times (node_names (take front ns)) a + times (node_names (drop front ns)) a =
    ap (λ (l : List CombNode). times (node_names l) a) (sym (take-append-drop front ns)) ∙ ap (λ (l : List Name). times l a) (names_append (take front ns) (drop front ns))
    ∙ times_append (node_names (take front ns)) (node_names (drop front ns)) a in
    let rest : times (node_names (drop front ns)) a ≡ times (node_names (slice_range ns front end)) a + times (node_names (drop end ns)) a =
    ap (λ (l : List CombNode). times (node_names l) a) (drop_split ns front end le) ∙ ap (λ (l : List Name). times l a) (names_append (slice_range ns front end) (drop end ns))
    ∙ times_append (node_names (slice_range ns front end)) (node_names (drop end ns)) a in
    omega (arith, whole, rest)

-- the names between the ends, and how the counts of the whole lists follow from theirs
pub between : (ns ms : List CombNode) (front back : ℕ) (a : Name) → front + back ≤ length ns → front + back ≤ length ms
    → node_names (take front ns) ≡ node_names (take front ms) → node_names (drop (length ns - back) ns) ≡ node_names (drop (length ms - back) ms)
    → (times (node_names ns) a + times (node_names (slice_range ms front (length ms - back))) a ≡ times (node_names ms) a + times (node_names (slice_range ns front (length ns - back))) a)
    × (times (node_names (slice_range ns front (length ns - back))) a ≤ times (node_names ns) a)
between ns ms front back a fits holds first last =
    let one : times (node_names (take front ns)) a ≡ times (node_names (take front ms)) a = ap (λ (l : List Name). times l a) first in
    let other : times (node_names (drop (length ns - back) ns)) a ≡ times (node_names (drop (length ms - back) ms)) a = ap (λ (l : List Name). times l a) last in
    let here = parted ns front (length ns - back) a (omega (arith, fits)) in
    let there = parted ms front (length ms - back) a (omega (arith, holds)) in
    (omega (arith, one, other, here, there), omega (arith, here))

-- ---- the nodes counted one by one on a page
pub on_page : (page k : ℕ) → cond (nat_eq page page) k 0 ≡ k
on_page page k = elim (number_tells page page) [ inl t ↦ ap (λ b. cond b k 0) t.0 | inr t ↦ absurd (t.1 refl) ]

chosen_sum : (b : Bool) (k m : ℕ) → cond b (k + m) 0 ≡ cond b k 0 + cond b m 0
chosen_sum true k m = refl
chosen_sum false k m = refl

pub chosen_more : (ns : List CombNode) (i : ℕ) (item : CombNode) (a : Name) (b : Bool) → i < length ns → item ≡ get_or ns i item
    → cond b (node_times (take (i + 1) ns) a) 0 ≡ cond b (node_times (take i ns) a) 0 + cond b (times (name_of_node item) a) 0
chosen_more ns i item a b lt is = ap (λ k. cond b k 0) (node_next ns i item a lt is) ∙ chosen_sum b (node_times (take i ns) a) (times (name_of_node item) a)

pub chosen_all : (ns : List CombNode) (i : ℕ) (a : Name) (b : Bool) → i ≡ length ns → cond b (node_times (take i ns) a) 0 ≡ cond b (times (node_names ns) a) 0
chosen_all ns i a b end = ap (λ k. cond b k 0) (node_whole ns (node_names ns) i a end refl)

pub exchanged : (b : Bool) (before after out into : ℕ) (old mid new : ℕ) → before + into ≡ after + out → mid + cond b out 0 ≡ old → new ≡ mid + cond b into 0 → new + cond b before 0 ≡ old + cond b after 0
exchanged true before after out into old mid new h taken added = omega (arith, h, taken, added)
exchanged false before after out into old mid new h taken added = omega (arith, taken, added)
