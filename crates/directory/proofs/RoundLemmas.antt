use Rattle.std.proofs.Common.{◌≡◌, ◌≢◌, ◌⊎◌, inl, inr, ◌<◌, ◌≤◌, ◌+◌, ◌∙◌, ℕ, zero, suc, min, max, Bool, true, false, List, [], ◌∷◌, map, take, drop, length, refl, ap, sym, subst, arith, None, Some, add-one, true≢false}
use Rattle.std.specs.Prelude.{◌||◌, slice_get}
use Rattle.std.proofs.lemmas.Option.{slice_get_within, get_or_from_slice_get}
use Rattle.std.proofs.Math.Seq.{drop-cons}
use Rattle.name_core.specs.declared.name.Name.{Name}
use Rattle.comb_tree.specs.declared.node.CombNode.{CombNode}
use Rattle.comb_tree.specs.Nodes.{Comb as AnyTree, comb_nodes}
use Rattle.region_attr.specs.declared.attr.Attr.{Attr}
use Rattle.object_set.specs.Objects.{Parts}
use Rattle.object_set.specs.declared.object.Body.TheVariants.{Comb}
use Rattle.object_pages.specs.Members.{node_names}
use Rattle.name_core.specs.Same.{same_name}
use Rattle.directory.specs.Walks.{Entries, object_of, depth_over, greatest_of, depth_within, most_depth, unbounded}
use Rattle.directory.specs.Edits.{judged_by, judged}
use Rattle.comb_tree.specs.Changes.{is_among}
use Rattle.directory.specs.Closed.{depth_step, relaxed, IsRelaxing}
use Rattle.directory.specs.Depths.{IsRound, IsSettledAt, IsDue}
use Rattle.object_pages.specs.Entries.{HoldsUsers}
use Rattle.shared_pages.proofs.NameLemmas.{name_tells}
use Rattle.object_pages.proofs.EntryLemmas.{same_or_apart}
use Rattle.object_pages.proofs.NamesLemmas.{not_in_cons, in_or_not}
use Rattle.directory.proofs.PlaceLemmas.{over_tree}
use Rattle.directory.proofs.ClosedLemmas.{over_min, within_less, closed_if, relaxed_here, relaxed_away, step_apart, free_if}
use Rattle.directory.proofs.WalkLemmas.{cycle_deep}
use Rattle.directory.proofs.HighLemmas.{judged_high}

-- ---- the depth that the members of a combination give
over_nodes : (depths : Name → ℕ) (o : Parts) (attr : Attr) (t : AnyTree) (nodes : List CombNode) (below : ℕ) → o.body ≡ Comb attr t → nodes ≡ comb_nodes t → below ≡ greatest_of (map depths (node_names nodes))
    → min unbounded (depth_over (Some o) depths) ≡ min unbounded (below + 1)
over_nodes depths o attr t nodes below is at most = ap (min unbounded) (sym (over_tree o attr t nodes depths below is at most))

pub over_below : (depths : Name → ℕ) (o : Parts) (attr : Attr) (t : AnyTree) (nodes : List CombNode) (below : ℕ) → o.body ≡ Comb attr t → nodes ≡ comb_nodes t → below ≡ greatest_of (map depths (node_names nodes))
    → below < unbounded → below + 1 ≡ min unbounded (depth_over (Some o) depths)
over_below depths o attr t nodes below is at most few = omega (arith, few, over_nodes depths o attr t nodes below is at most)

pub over_deep : (depths : Name → ℕ) (o : Parts) (attr : Attr) (t : AnyTree) (nodes : List CombNode) (below : ℕ) → o.body ≡ Comb attr t → nodes ≡ comb_nodes t → below ≡ greatest_of (map depths (node_names nodes))
    → unbounded ≤ below → unbounded ≡ min unbounded (depth_over (Some o) depths)
over_deep depths o attr t nodes below is at most many = omega (arith, many, over_nodes depths o attr t nodes below is at most)

-- ---- one name more
pub name_next : (names : List Name) (i : ℕ) (a : Name) → Some a ≡ slice_get names i → drop i names ≡ a ∷ drop (i + 1) names
name_next names i a is =
    let next : suc i ≡ i + 1 = omega arith in
    drop-cons names i a (slice_get_within names i a (sym is))
    ∙ ap (λ (x : Name). x ∷ drop (suc i) names) (get_or_from_slice_get names i a a (sym is))
    ∙ ap (λ (k : ℕ). a ∷ drop k names) next

pub not_past : (names : List Name) (i : ℕ) → None ≡ slice_get names i → i < length names → ⊥
not_past [] i none lt = omega (arith, lt)
not_past (x ∷ names) zero none lt = cc
not_past (x ∷ names) (suc i) none lt = not_past names i none (omega (arith, lt))

or_true : (b c : Bool) → c ≡ true → (b || c) ≡ true
or_true true c e = refl
or_true false c e = e

pub insert_keeps : (old new : List Name) (a : Name) → ((x : Name) → is_among new x ≡ (same_name x a || is_among old x)) → (x : Name) → is_among old x ≡ true → is_among new x ≡ true
insert_keeps old new a h x inside = h x ∙ or_true (same_name x a) (is_among old x) inside

pub insert_puts : (old new : List Name) (a : Name) → ((x : Name) → is_among new x ≡ (same_name x a || is_among old x)) → is_among new a ≡ true
insert_puts old new a h = h a ∙ elim (name_tells a a) [ inl t ↦ ap (λ b. b || is_among old a) t.0 | inr t ↦ absurd (t.1 refl) ]

pub names_more : (f : Name → ℕ) (names : List Name) (i : ℕ) (a : Name) → Some a ≡ slice_get names i → greatest_of (map f (take (i + 1) names)) ≡ max (greatest_of (map f (take i names))) (f a)
names_more f [] i a is = cc
names_more f (x ∷ names) zero a is = let same : x ≡ a = cc in omega (arith, ap f same)
names_more f (x ∷ names) (suc i) a is =
    let rest : greatest_of (map f (take (suc i) names)) ≡ max (greatest_of (map f (take i names))) (f a) = rw add-one at (names_more f names i a is) in rw add-one (omega arith)

-- ---- the depth that the members give is right one level further than theirs
pub step_further : (es : Entries) (depths : Name → ℕ) (turns : ℕ) → turns < unbounded → ((x : Name) → min turns (depths x) ≡ depth_within turns es x) → (a : Name)
    → min (suc turns) (depth_step es depths a) ≡ depth_within (suc turns) es a
step_further es depths turns few least a = omega (arith, few, over_min (depth_within turns es) depths turns (λ x. sym (least x)) (object_of es a))

-- and so is what is due
due_further : (es : Entries) (depths : Name → ℕ) (turns : ℕ) → turns < unbounded → ((x : Name) → min turns (depths x) ≡ depth_within turns es x) → (a : Name) (depth : ℕ) → IsDue es depths a depth
    → min (suc turns) depth ≡ depth_within (suc turns) es a
due_further es depths turns few least a depth (inl is) = ap (min (suc turns)) is ∙ step_further es depths turns few least a
due_further es depths turns few least a depth (inr deep) = ap (min (suc turns)) (deep.0 ∙ sym (cycle_deep unbounded es a deep.1)) ∙ sym (within_less es (suc turns) unbounded few a)

due_bounded : (es : Entries) (depths : Name → ℕ) (a : Name) (depth : ℕ) → IsDue es depths a depth → depth ≤ unbounded
due_bounded es depths a depth (inl is) = omega (arith, is)
due_bounded es depths a depth (inr deep) = omega (arith, deep.0)

-- as far as the depths themselves
as_far : (es : Entries) (turns : ℕ) (a : Name) (depth : ℕ) → min (suc turns) depth ≡ depth_within (suc turns) es a → min turns depth ≡ depth_within turns es a
as_far es turns a depth h = omega (arith, h, within_less es turns (suc turns) (omega arith) a)

settled_further : (es : Entries) (depths : Name → ℕ) (turns : ℕ) → turns < unbounded → ((x : Name) → min turns (depths x) ≡ depth_within turns es x) → (a : Name) → IsSettledAt es depths a
    → min (suc turns) (depths a) ≡ depth_within (suc turns) es a
settled_further es depths turns few least a (inl is) = ap (min (suc turns)) is ∙ step_further es depths turns few least a
settled_further es depths turns few least a (inr right) = ap (min (suc turns)) right ∙ sym (within_less es (suc turns) unbounded few a)

-- ---- where the first round begins
pub begin : (es : Entries) (depths : Name → ℕ) (dirty : List Name) → IsRelaxing es depths dirty [] → IsRound es 0 depths dirty [] []
begin es depths dirty h = record {
  settled = λ a out _. inl (h.closed a out);
  least = λ a. omega arith;
  ahead = λ few a out. settled_further es depths 0 few (λ x. omega arith) a (inl (h.closed a out));
  low = h.low;
  bounded = λ a. omega (arith, h.low a refl);
}

-- ---- how a round goes on, with the first of its names
-- its depth is due
pub step_same : (es : Entries) (turns : ℕ) (depths : Name → ℕ) (a : Name) (depth : ℕ) (rest next high : List Name) → IsRound es turns depths (a ∷ rest) next high → turns < unbounded → IsDue es depths a depth → depths a ≡ depth
    → IsRound es turns depths rest next high
step_same es turns depths a depth rest next high h few due same = record {
  settled = λ x out away. elim (same_or_apart x a) [
    | inl e ↦ elim due [
      | inl is ↦ inl (ap depths e ∙ same ∙ is ∙ ap (depth_step es depths) (sym e))
      | inr deep ↦ inr (ap depths e ∙ same ∙ deep.0 ∙ sym (cycle_deep unbounded es a deep.1) ∙ ap (depth_within unbounded es) (sym e))
    ]
    | inr apart ↦ h.settled x (not_in_cons a rest x apart out) away
  ];
  least = h.least;
  ahead = λ less x out. elim (same_or_apart x a) [
    | inl e ↦ ap (λ y. min (suc turns) (depths y)) e ∙ ap (min (suc turns)) same ∙ due_further es depths turns few h.least a depth due ∙ ap (depth_within (suc turns) es) (sym e)
    | inr apart ↦ h.ahead less x (not_in_cons a rest x apart out)
  ];
  low = h.low;
  bounded = h.bounded;
}

-- another one is: depths that are the old ones but there
pub step_set : (es : Entries) (turns : ℕ) (depths others : Name → ℕ) (a : Name) (depth : ℕ) (rest next more high higher : List Name) → IsRound es turns depths (a ∷ rest) next high → turns < unbounded
    → IsDue es depths a depth → ((x : Name) → others x ≡ relaxed depths a depth x) → HoldsUsers es a more → ((x : Name) → is_among next x ≡ true → is_among more x ≡ true)
    → ((x : Name) → is_among high x ≡ true → is_among higher x ≡ true) → (is_among higher a ≡ true) ⊎ (depth ≤ most_depth) → IsRound es turns others rest more higher
step_set es turns depths others a depth rest next more high higher h few due set holds kept keeps found = record {
  settled = λ x out away. elim (same_or_apart x a) [
    | inl e ↦ elim due [
      | inl is ↦ inl (here x e ∙ is ∙ ap (depth_step es depths) (sym e) ∙ sym (step x away))
      | inr deep ↦ inr (here x e ∙ deep.0 ∙ sym (cycle_deep unbounded es a deep.1) ∙ ap (depth_within unbounded es) (sym e))
    ]
    | inr apart ↦ elim (h.settled x (not_in_cons a rest x apart out) (not_kept next more kept x away)) [
      | inl is ↦ inl (there x apart ∙ is ∙ sym (step x away))
      | inr right ↦ inr (there x apart ∙ right)
    ]
  ];
  least = λ x. elim (same_or_apart x a) [
    | inl e ↦ ap (min turns) (here x e) ∙ as_far es turns a depth (due_further es depths turns few h.least a depth due) ∙ ap (depth_within turns es) (sym e)
    | inr apart ↦ ap (min turns) (there x apart) ∙ h.least x
  ];
  ahead = λ less x out. elim (same_or_apart x a) [
    | inl e ↦ ap (min (suc turns)) (here x e) ∙ due_further es depths turns few h.least a depth due ∙ ap (depth_within (suc turns) es) (sym e)
    | inr apart ↦ ap (min (suc turns)) (there x apart) ∙ h.ahead less x (not_in_cons a rest x apart out)
  ];
  low = λ x out. elim (same_or_apart x a) [
    | inl e ↦ elim found [ inl inside ↦ absurd (true≢false (sym inside ∙ ap (is_among higher) (sym e) ∙ out)) | inr le ↦ omega (arith, here x e, le) ]
    | inr apart ↦ omega (arith, there x apart, h.low x (not_kept high higher keeps x out))
  ];
  bounded = λ x. elim (same_or_apart x a) [ inl e ↦ omega (arith, here x e, due_bounded es depths a depth due) | inr apart ↦ omega (arith, there x apart, h.bounded x) ];
}
  where
    here : (x : Name) → x ≡ a → others x ≡ depth
    here x e = set x ∙ relaxed_here depths a depth x e

    there : (x : Name) → x ≢ a → others x ≡ depths x
    there x apart = set x ∙ relaxed_away depths a depth x apart

    step : (x : Name) → is_among more x ≡ false → depth_step es others x ≡ depth_step es depths x
    step x away = step_apart es depths others a depth set x (free_if es a more x holds away)

    not_kept : (some all : List Name) → ((y : Name) → is_among some y ≡ true → is_among all y ≡ true) → (x : Name) → is_among all x ≡ false → is_among some x ≡ false
    not_kept some all within x out = elim (in_or_not some x) [ inl inside ↦ absurd (true≢false (sym (within x inside) ∙ out)) | inr away ↦ away ]

-- ---- the next round
pub next_round : (es : Entries) (turns : ℕ) (depths : Name → ℕ) (next high : List Name) → IsRound es turns depths [] next high → turns < unbounded → IsRound es (suc turns) depths next [] high
next_round es turns depths next high h few = record {
  settled = λ a out _. h.settled a refl out;
  least = λ a. h.ahead few a refl;
  ahead = λ less a out. settled_further es depths (suc turns) less (λ x. h.ahead few x refl) a (h.settled a refl out);
  low = h.low;
  bounded = h.bounded;
}

-- ---- where the rounds end
settled_within : (es : Entries) (depths : Name → ℕ) → ((a : Name) → IsSettledAt es depths a) → (most : ℕ) → most ≤ unbounded → (a : Name) → depth_within most es a ≡ min most (depths a)
settled_within es depths h zero le a = omega arith
settled_within es depths h (suc most) le a =
    elim (h a) [
      | inl is ↦ omega (arith, over_min (depth_within most es) depths most (settled_within es depths h most (omega (arith, le))) (object_of es a), is)
      | inr right ↦ within_less es (suc most) unbounded le a ∙ ap (min (suc most)) (sym right)
    ]

settled_depths : (es : Entries) (depths : Name → ℕ) → ((a : Name) → IsSettledAt es depths a) → (a : Name) → depths a ≡ depth_within unbounded es a
settled_depths es depths h a = elim (h a) [ inl is ↦ omega (arith, settled_within es depths h unbounded (omega arith) a, is) | inr right ↦ right ]

no_names : (names : List Name) → length names ≡ 0 → names ≡ []
no_names [] e = refl
no_names (x ∷ names) e = absurd (omega (arith, e))

-- nothing is left to be looked at
pub none_left : (es : Entries) (turns : ℕ) (depths : Name → ℕ) (next high : List Name) → IsRound es turns depths next [] high → length next ≡ 0 → (a : Name) → depths a ≡ depth_within unbounded es a
none_left es turns depths next high h none = settled_depths es depths (λ a. h.settled a (ap (λ (l : List Name). is_among l a) (no_names next none)) refl)

-- or there were 34 rounds
pub all_turns : (es : Entries) (turns : ℕ) (depths : Name → ℕ) (next high : List Name) → IsRound es turns depths next [] high → turns ≡ unbounded → (a : Name) → depths a ≡ depth_within unbounded es a
all_turns es turns depths next high h all a = let last = subst (λ (n : ℕ). IsRound es n depths next [] high) all h in omega (arith, last.least a, last.bounded a)

pub judged_round : (es : Entries) (turns : ℕ) (depths : Name → ℕ) (rest next high : List Name) → IsRound es turns depths rest next high → ((a : Name) → depths a ≡ depth_within unbounded es a)
    → (edited : Name) → judged es edited ≡ judged_by (greatest_of (map depths high)) edited
judged_round es turns depths rest next high h are edited = judged_high es edited depths high (closed_if es depths are) h.low
