-- What a tree claims, from the spans of its leaves.
use Rattle.std.proofs.Common.{◌≡◌, ◌<◌, ◌≤◌, ◌+◌, ◌-◌, ℕ, zero, suc, List, [], ◌∷◌, ◌++◌, length, get_or, filter, replicate, Bool, true, false, ◌&&◌, eqb, nat_le, nat_lt, All, Some, None, min, ap, sym, ◌∙◌, subst, refl, inl, inr, arith}
use Rattle.std.specs.List.{list_any}
use Rattle.std.proofs.lemmas.Bool.{cases_lt, cases_Bool, and_parts, and_from, leb-true, ltb-true, eqb-true, le-leb, lt-ltb, true≢false}
use Rattle.std.proofs.lemmas.List.{get_or_append_left, get_or-append-add, get_or-append_right, get_or_past, get_or-map, get_or-replicate, length-append, length-map, length-replicate, ext_get_or}
use Rattle.std.proofs.lemmas.List.Elements.{All-weaker, filter_passes}
use Rattle.std.proofs.lemmas.List.Folds.{list_any_at}
use Rattle.tree_forms.specs.declared.Op.{Op}
use Rattle.tree_forms.specs.declared.Op.TheVariants.{U, N, Minus, X}
use Rattle.tree_forms.specs.Trees.{Leaf, Join, joined}
use Rattle.surd_order.specs.declared.position.Pos.{Pos}
use Rattle.bool_weave.specs.declared.span.Span.{Span}
use Rattle.bool_weave.specs.declared.woven.Woven.{Woven}
use Rattle.bool_weave.specs.Cuts.{ray_start, IsWoven, cuts_of}
use Rattle.bool_weave.specs.Masks.{Mask, mask_holds, mask_nodes, leaf, apply}
use Rattle.bool_weave.specs.Claims.{Interval, intervals_between, covers, spans, claims_interval, claims_of}
use Rattle.bool_weave.specs.Laws.{NothingFromNothing}
use Rattle.bool_weave.specs.Tables.{interval_at, reaches, no_span, at_leaf, leaf_end, AreLeavesBelow, is_from_to, IsCutAt}
use Rattle.bool_weave.proofs.Filling.{reaches_none}
use Rattle.bool_weave.proofs.Middles.{any_filtered, has_filtered}
use Rattle.bool_weave.proofs.Sorted.{Has, has_at}
use Rattle.bool_weave.proofs.Kept.{is_cut_at}

joined_none : (op : Op) → joined op false false ≡ false
joined_none U = refl
joined_none N = refl
joined_none Minus = refl
joined_none X = refl

pub nothing_from_nothing : NothingFromNothing
nothing_from_nothing (Leaf None) values h = refl
nothing_from_nothing (Leaf (Some i)) values h = h i
nothing_from_nothing (Join op l r) values h =
    ap (λ b. joined op b (mask_holds r values)) (nothing_from_nothing l values h) ∙ ap (λ b. joined op false b) (nothing_from_nothing r values h) ∙ joined_none op

pub all_left : {A : Type 0} (P : A → Type 0) (xs ys : List A) → All P (xs ++ ys) → All P xs
all_left P xs ys all k d lt = subst P (get_or_append_left xs ys d k lt) (all k d (omega (arith, lt, length-append xs ys)))

pub all_right : {A : Type 0} (P : A → Type 0) (xs ys : List A) → All P (xs ++ ys) → All P ys
all_right P xs ys all k d lt = subst P (get_or-append-add xs ys k d) (all (length xs + k) d (omega (arith, lt, length-append xs ys)))

-- a tree holds alike for two values that agree at its leaves
pub mask_same : (t : Mask) (f g : ℕ → Bool) (bound : ℕ) → AreLeavesBelow bound (mask_nodes t) → ((i : ℕ) → i < bound → f i ≡ g i) → mask_holds t f ≡ mask_holds t g
mask_same (Leaf None) f g bound below same = refl
mask_same (Leaf (Some i)) f g bound below same = same i (omega (arith, below zero (leaf None) (omega arith)))
mask_same (Join op l r) f g bound below same =
    let left = all_left (λ n. leaf_end n ≤ bound) (mask_nodes l) (mask_nodes r ++ apply op ∷ []) below in
    let right = all_left (λ n. leaf_end n ≤ bound) (mask_nodes r) (apply op ∷ []) (all_right (λ n. leaf_end n ≤ bound) (mask_nodes l) (mask_nodes r ++ apply op ∷ []) below) in
    ap (λ b. joined op b (mask_holds r f)) (mask_same l f g bound left same) ∙ ap (λ b. joined op (mask_holds l g) b) (mask_same r f g bound right same)

-- where no span reaches an interval, no leaf is true
pub no_leaf : (table : List Span) (k : ℕ) → ((i : ℕ) → i < length table → reaches (get_or table i no_span) k ≡ false) → (i : ℕ) → at_leaf table k i ≡ false
no_leaf table k none i =
    elim (cases_lt i (length table)) [
      | inl within ↦ none i within
      | inr past ↦ ap (λ s. reaches s k) (get_or_past table i no_span past) ∙ reaches_none k
    ]

pub not_spanned : (t : Mask) (table : List Span) (k : ℕ) → list_any (λ s. reaches s k) table ≡ false → false ≡ mask_holds t (at_leaf table k)
not_spanned t table k none =
    sym (nothing_from_nothing t (at_leaf table k) (no_leaf table k (λ i within.
    elim (cases_Bool (reaches (get_or table i no_span) k)) [
      | inl there ↦ absurd (true≢false (sym (list_any_at (λ s. reaches s k) table i no_span within there) ∙ none))
      | inr away ↦ away
    ])))

-- outside the hull of all spans no leaf is true
pub outside : (t : Mask) (table : List Span) (from to k : ℕ) → All (λ s. (from ≤ s.from) × (s.to ≤ to)) table → (from ≤ k → k < to → ⊥) → mask_holds t (at_leaf table k) ≡ false
outside t table from to k all away =
    nothing_from_nothing t (at_leaf table k) (no_leaf table k (λ i within.
    elim (cases_Bool (reaches (get_or table i no_span) k)) [
      | inl there ↦
          let parts = and_parts (nat_le (get_or table i no_span).from k) (nat_lt k (get_or table i no_span).to) there in
          let h = all i no_span within in
          absurd (away (omega (arith, h.0, leb-true (get_or table i no_span).from k parts.0)) (omega (arith, h.1, ltb-true k (get_or table i no_span).to parts.1)))
      | inr none ↦ none
    ]))

pub intervals_length : (cuts : List Pos) → length (intervals_between cuts) ≡ length cuts - 1
intervals_length [] = refl
intervals_length (x ∷ []) = refl
intervals_length (x ∷ y ∷ ys) = omega (arith, intervals_length (y ∷ ys))

pub intervals_at : (cuts : List Pos) (k : ℕ) (d : Interval) → k + 1 < length cuts → get_or (intervals_between cuts) k d ≡ interval_at cuts k
intervals_at [] k d lt = absurd (omega (arith, lt))
intervals_at (x ∷ []) k d lt = absurd (omega (arith, lt))
intervals_at (x ∷ y ∷ ys) zero d lt = refl
intervals_at (x ∷ y ∷ ys) (suc k) d lt =
    let e : suc (k + 1) ≡ suc k + 1 = omega arith in
    intervals_at (y ∷ ys) k d (omega (arith, lt))
    ∙ ap (λ n. let i : Interval = record { start = get_or (y ∷ ys) k ray_start; end = get_or (x ∷ y ∷ ys) n ray_start } in i) e

-- an instance in a range of numbers spans as it does among the instances of the range
pub spans_within : (woven : List Woven) (interval : Interval) (first bound i : ℕ) → i < bound
    → spans (filter (is_from_to first (first + bound)) woven) interval (first + i) ≡ spans woven interval (first + i)
spans_within woven interval first bound i lt =
    any_filtered (λ w. eqb w.instance (first + i) && covers w.seg interval) (is_from_to first (first + bound)) woven (λ w passed.
    let e : w.instance ≡ first + i = eqb-true w.instance (first + i) (and_parts (eqb w.instance (first + i)) (covers w.seg interval) passed).0 in
    and_from _ _ (le-leb first w.instance (omega (arith, e))) (lt-ltb w.instance (first + bound) (omega (arith, e, lt))))

pub claimed_at : (woven : List Woven) (tree : Mask) (first bound k : ℕ) (table : List Span) → AreLeavesBelow bound (mask_nodes tree) → k + 1 < length (cuts_of woven)
    → ((i : ℕ) → at_leaf table k i ≡ spans (filter (is_from_to first (first + bound)) woven) (interval_at (cuts_of woven) k) (first + i))
    → get_or (claims_of woven tree first) k false ≡ mask_holds tree (at_leaf table k)
claimed_at woven tree first bound k table below lt leaves =
    let within : k < length (intervals_between (cuts_of woven)) = omega (arith, lt, intervals_length (cuts_of woven)) in
    get_or-map (claims_interval woven tree first) (intervals_between (cuts_of woven)) k (interval_at (cuts_of woven) k) false within
    ∙ ap (claims_interval woven tree first) (intervals_at (cuts_of woven) k (interval_at (cuts_of woven) k) lt)
    ∙ mask_same tree (λ i. spans woven (interval_at (cuts_of woven) k) (first + i)) (at_leaf table k) bound below (λ i small. sym (spans_within woven (interval_at (cuts_of woven) k) first bound i small) ∙ sym (leaves i))

-- a row that is false outside a range
pub row_is : (xs row : List Bool) (start to count : ℕ) → length xs ≡ count → start ≤ to → to ≤ count → length row ≡ to - start
    → ((k : ℕ) → k < to - start → get_or row k false ≡ get_or xs (start + k) false)
    → ((k : ℕ) → k < count → (start ≤ k → k < to → ⊥) → get_or xs k false ≡ false)
    → replicate start false ++ (row ++ replicate (count - (start + length row)) false) ≡ xs
row_is xs row start to count len order within long same none =
    let tail = replicate {A = Bool} (count - (start + length row)) false in
    let all : length (replicate {A = Bool} start false ++ (row ++ tail)) ≡ count =
    omega (arith, length-append (replicate {A = Bool} start false) (row ++ tail), length-append row tail, length-replicate {A = Bool} start false, length-replicate {A = Bool} (count - (start + length row)) false, long, order, within) in
    ext_get_or false (replicate start false ++ (row ++ tail)) xs (omega (arith, all, len)) (λ k lt.
    elim (cases_lt k start) [
      | inl before ↦ get_or_append_left (replicate start false) (row ++ tail) false k (omega (arith, before, length-replicate {A = Bool} start false))
          ∙ get_or-replicate start k false false before ∙ sym (none k (omega (arith, lt, all)) (λ a b. omega (arith, a, before)))
      | inr behind ↦
          get_or-append_right (replicate start false) (row ++ tail) start k false (length-replicate {A = Bool} start false) behind
          ∙ elim (cases_lt k to) [
            | inl inside ↦ get_or_append_left row tail false (k - start) (omega (arith, long, inside, behind)) ∙ same (k - start) (omega (arith, inside, behind))
                ∙ (let e : start + (k - start) ≡ k = omega (arith, behind) in ap (λ n. get_or xs n false) e)
            | inr past ↦ get_or-append_right row tail (length row) (k - start) false refl (omega (arith, long, past, order))
                ∙ get_or-replicate (count - (start + length row)) (k - start - length row) false false (omega (arith, lt, all, long, past, order))
                ∙ sym (none k (omega (arith, lt, all)) (λ a b. omega (arith, b, past)))
          ]
    ])

pub cut_all : (woven mine : List Woven) (q : Woven → Bool) (cuts : List Pos) → IsWoven woven → cuts ≡ cuts_of woven → mine ≡ filter q woven → All (λ w. IsCutAt cuts w.seg) mine
cut_all woven mine q cuts s e f k d lt =
    let there : Has woven (get_or mine k d) = has_filtered q woven (get_or mine k d) (subst (λ l. Has l (get_or mine k d)) f (has_at mine (get_or mine k d) d k lt refl)) in
    subst (λ l. IsCutAt l (get_or mine k d).seg) (sym e) (is_cut_at woven (get_or mine k d) s there)

pub first_all : (woven mine : List Woven) (from to : ℕ) → mine ≡ filter (is_from_to from to) woven → All (λ w. from ≤ w.instance) mine
first_all woven mine from to f =
    subst (λ l. All (λ (w : Woven). from ≤ w.instance) l) (sym f)
    (All-weaker (λ (w : Woven). is_from_to from to w ≡ true) (λ (w : Woven). from ≤ w.instance) (λ w h. leb-true from w.instance (and_parts (nat_le from w.instance) (nat_lt w.instance to) h).0) (filter (is_from_to from to) woven) (filter_passes (is_from_to from to) woven))

-- the row between the hull's ends is all that a tree claims
pub claims_are : (woven : List Woven) (tree : Mask) (first bound : ℕ) (table : List Span) (hull : Span) (start : ℕ) (row : List Bool) → AreLeavesBelow bound (mask_nodes tree)
    → ((k i : ℕ) → k + 1 < length (cuts_of woven) → at_leaf table k i ≡ spans (filter (is_from_to first (first + bound)) woven) (interval_at (cuts_of woven) k) (first + i))
    → All (λ s. (hull.from ≤ s.from) × (s.to ≤ hull.to)) table → hull.to ≤ length (cuts_of woven) - 1 → start ≡ min hull.from hull.to
    → length row ≡ hull.to - start → ((k : ℕ) → k < hull.to - start → get_or row k false ≡ mask_holds tree (at_leaf table (start + k)))
    → replicate start false ++ (row ++ replicate ((length (cuts_of woven) - 1) - (start + length row)) false) ≡ claims_of woven tree first
claims_are woven tree first bound table hull start row below leaves all within begin long held =
    let count : length (claims_of woven tree first) ≡ length (cuts_of woven) - 1 =
    length-map (intervals_between (cuts_of woven)) (claims_interval woven tree first) ∙ intervals_length (cuts_of woven) in
    row_is (claims_of woven tree first) row start hull.to (length (cuts_of woven) - 1) count (omega (arith, begin)) within long
    (λ k lt. held k lt ∙ sym (claimed_at woven tree first bound (start + k) table below (omega (arith, lt, within)) (λ i. leaves (start + k) i (omega (arith, lt, within)))))
    (λ k lt away. claimed_at woven tree first bound k table below (omega (arith, lt)) (λ i. leaves k i (omega (arith, lt)))
    ∙ outside tree table hull.from hull.to k all (λ a b. away (omega (arith, a, b, begin)) b))
