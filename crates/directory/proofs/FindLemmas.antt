use Rattle.std.proofs.Common.{◌≡◌, ◌⊎◌, inl, inr, ◌<◌, ◌≤◌, ◌+◌, ◌∙◌, ℕ, zero, suc, max, cond, false, List, [], ◌∷◌, map, take, length, get_or, refl, ap, sym, subst, arith, Option, None, Some}
use Rattle.std.specs.Prelude.{is_some, position, nat_lt, slice_get, slice_index, slice_set}
use Rattle.std.specs.List.{position_or_len, IsDistinct}
use Rattle.std.specs.Map.{keys_of}
use Rattle.std.proofs.lemmas.Bool.{cases_eq, le-ltb}
use Rattle.std.proofs.lemmas.List.{get_or-set_same, get_or-set_other, length-map}
use Rattle.std.proofs.lemmas.List.Concat.{flat_map-cons}
use Rattle.std.proofs.lemmas.Map.Entries.{lookup_from_place}
use Rattle.name_core.specs.declared.name.Name.{Name}
use Rattle.name_core.specs.Same.{same_name, same_name_equiv}
use Rattle.comb_tree.specs.declared.node.CombNode.{CombNode}
use Rattle.comb_tree.specs.Nodes.{Comb as AnyTree, comb_nodes}
use Rattle.region_attr.specs.declared.attr.Attr.{Attr}
use Rattle.object_set.specs.Objects.{Parts}
use Rattle.object_set.specs.declared.object.Body.TheVariants.{Comb}
use Rattle.directory.specs.Walks.{Entries, object_of, greatest_of, depth_over, depth_within, unbounded, deepest}
use Rattle.object_pages.specs.Members.{name_of_node, node_names}
use Rattle.directory.specs.Places.{names_within, object_within, known_depths, Finds, AreFound}
use Rattle.shared_pages.proofs.NameLemmas.{name_tells}
use Rattle.directory.proofs.WalkLemmas.{depth_bounds, depth_met, missing_zero, within_all}
use Rattle.directory.proofs.PlaceLemmas.{over_tree, nodes_more, greatest_append, place_is}

-- ---- places and names
next_place : (e : Name × Parts) (es : Entries) (i : ℕ) → slice_get (e ∷ es) (1 + i) ≡ slice_get es i
next_place e es i = let one : 1 + i ≡ suc i = omega arith in rw one

pub found : (es : Entries) (a : Name) (o : Parts) → object_of es a ≡ Some o → slice_get es (position_or_len (same_name a) (keys_of es)) ≡ Some (a, o)
found [] a o h = cc
found ((k, p) ∷ es) a o h =
    elim (name_tells a k) [
      | inl t ↦ let same : Some p ≡ Some o = rw t.0 at h in let is : p ≡ o = cc in rw t.0 (ap (λ (x : Name). Some (x, p)) (sym t.1) ∙ ap (λ (x : Parts). Some (a, x)) is)
      | inr t ↦ rw t.0 (next_place (k, p) es (position_or_len (same_name a) (keys_of es)) ∙ found es a o (rw t.0 at h))
    ]

pub look_at : (es : Entries) (j : ℕ) (k : Name) (o : Parts) → IsDistinct same_name (keys_of es) → slice_get es j ≡ Some (k, o) → object_of es k ≡ Some o
look_at es j k o h at = lookup_from_place same_name_equiv es j k o h at

pub none_or : (o : Option Parts) → (o ≡ None) ⊎ ((p : Parts) × (o ≡ Some p))
none_or None = inl refl
none_or (Some p) = inr (p, refl)

missing_place : (es : Entries) (a : Name) → object_of es a ≡ None → position (same_name a) (keys_of es) ≡ None
missing_place es a h = past_end (position_or_len (same_name a) (keys_of es)) (length (keys_of es)) (omega (arith, at_end es a h, length-map es (λ (e : Name × Parts). e.0)))
  where
    past_end : (i n : ℕ) → n ≤ i → cond (nat_lt i n) (Some i) None ≡ None
    past_end i n le = ap (λ b. cond b (Some i) None) (le-ltb i n le)

    at_end : (es : Entries) (a : Name) → object_of es a ≡ None → position_or_len (same_name a) (keys_of es) ≡ length es
    at_end [] a h = refl
    at_end ((k, p) ∷ es) a h =
        elim (name_tells a k) [
          | inl t ↦ let wrong : Some p ≡ None = rw t.0 at h in cc
          | inr t ↦ rw t.0 (omega (arith, at_end es a (rw t.0 at h)))
        ]

-- the pair at a name's place
pub found_at : (es : Entries) (a : Name) (i : ℕ) → position (same_name a) (keys_of es) ≡ Some i → (o : Parts) × (slice_get es i ≡ Some (a, o))
found_at es a i at =
    elim (none_or (object_of es a)) [
      | inl gone ↦ let wrong : None ≡ Some i = sym (missing_place es a gone) ∙ at in cc
      | inr p ↦ (p.0, ap (slice_get es) (place_is a i (keys_of es) at) ∙ found es a p.0 p.1)
    ]

pub some_at : (es : Entries) (i : ℕ) → i < length es → (k : Name) × (o : Parts) × (slice_get es i ≡ Some (k, o))
some_at [] i lt = absurd (omega arith)
some_at ((k, o) ∷ es) zero lt = (k, o, refl)
some_at ((k, o) ∷ es) (suc i) lt = some_at es i (omega arith)

pub at_within : (es : Entries) (j : ℕ) (k : Name) (o : Parts) → slice_get es j ≡ Some (k, o) → j < length es
at_within [] j k o at = cc
at_within (e ∷ es) zero k o at = omega arith
at_within (e ∷ es) (suc j) k o at = omega (arith, at_within es j k o at)

same_at_each : (f : Name → ℕ) (es : Entries) (xs : List ℕ) → length xs ≡ length es
    → ((j : ℕ) (k : Name) (o : Parts) → slice_get es j ≡ Some (k, o) → slice_index xs j ≡ f k) → xs ≡ map f (keys_of es)
same_at_each f [] [] len h = refl
same_at_each f [] (x ∷ xs) len h = absurd (omega (arith, len))
same_at_each f ((k, o) ∷ es) [] len h = absurd (omega (arith, len))
same_at_each f ((k, o) ∷ es) (x ∷ xs) len h =
    ap (λ (y : ℕ). y ∷ xs) (h 0 k o refl) ∙ ap (λ (l : List ℕ). f k ∷ l) (same_at_each f es xs (omega (arith, len)) (λ j k o at. h (suc j) k o at))

pub known_length : (es : Entries) (depths : List ℕ) → depths ≡ known_depths es → length depths ≡ length es
known_length es depths known = ap (length {A = ℕ}) known ∙ length-map (keys_of es) (depth_within unbounded es) ∙ length-map es (λ (e : Name × Parts). e.0)

-- ---- what is found
pub finds_same : (f g : ℕ → ℕ) (levels : ℕ) (r : Option ℕ) → ((n : ℕ) → f n ≡ g n) → Finds f levels r → Finds g levels r
finds_same f g levels (Some d) e h = (h.0, λ n le. sym (e n) ∙ h.1 n le)
finds_same f g levels None e h = omega (arith, h, e (suc levels))

-- ---- a name
pub missing_found : (es : Entries) (a : Name) (levels : ℕ) → object_of es a ≡ None → Finds (λ n. depth_within n es a) levels (Some 0)
missing_found es a levels none = (omega arith, λ n le. missing_zero n es a none)

pub kept_found : (es : Entries) (xs : List ℕ) (j : ℕ) (k : Name) (o : Parts) (levels : ℕ) → AreFound es xs → slice_get es j ≡ Some (k, o) → slice_index xs j < unbounded → slice_index xs j ≤ levels
    → Finds (λ n. depth_within n es k) levels (Some (slice_index xs j))
kept_found es xs j k o levels found at lt le = (le, found j k o at lt)

pub kept_deep : (es : Entries) (xs : List ℕ) (j : ℕ) (k : Name) (o : Parts) (levels : ℕ) → AreFound es xs → slice_get es j ≡ Some (k, o) → slice_index xs j < unbounded → levels < slice_index xs j
    → Finds (λ n. depth_within n es k) levels None
kept_deep es xs j k o levels found at lt more =
    let m = depth_met (slice_index xs j) es k in
    omega (arith, found j k o at lt (slice_index xs j) (omega arith), m.2, depth_bounds (suc levels) es k m.0 m.1, more)

-- ---- an object
pub object_is : (n : ℕ) (es : Entries) (k : Name) (o : Parts) → object_of es k ≡ Some o → object_within n es o ≡ depth_within n es k
object_is zero es k o is = refl
object_is (suc n) es k o is = ap (λ (p : Option Parts). depth_over p (depth_within n es)) (sym is)

-- what is found of the object at a place is found of its name
pub place_found : (es : Entries) (i : ℕ) (k q : Name) (o p : Parts) (levels : ℕ) (r : Option ℕ) → IsDistinct same_name (keys_of es) → slice_get es i ≡ Some (k, o) → slice_get es i ≡ Some (q, p)
    → Finds (λ n. object_within n es o) levels r → Finds (λ n. depth_within n es q) levels r
place_found es i k q o p levels r distinct at at_too h =
    finds_same (λ n. object_within n es o) (λ n. depth_within n es q) levels r
    (λ n. ap (object_within n es) (one_object k q o p (slice_get es i) at at_too) ∙ object_is n es q p (look_at es i q p distinct at_too)) h
  where
    one_object : (k q : Name) (o p : Parts) (x : Option (Name × Parts)) → x ≡ Some (k, o) → x ≡ Some (q, p) → o ≡ p
    one_object k q o p x e f = let pairs : ◌≡◌ {A = Name × Parts} (k, o) (q, p) = cc in ap (λ (r : Name × Parts). r.1) pairs

comb_next : (n : ℕ) (es : Entries) (o : Parts) (attr : Attr) (t : AnyTree) (nodes : List CombNode) → o.body ≡ Comb attr t → nodes ≡ comb_nodes t → object_within (suc n) es o ≡ names_within n es (node_names nodes) + 1
comb_next n es o attr t nodes is at = sym (over_tree o attr t nodes (depth_within n es) (names_within n es (node_names nodes)) is at refl)

pub comb_found : (es : Entries) (o : Parts) (attr : Attr) (t : AnyTree) (nodes : List CombNode) (levels l d : ℕ) → o.body ≡ Comb attr t → nodes ≡ comb_nodes t → levels ≡ suc l
    → Finds (λ n. names_within n es (node_names nodes)) l (Some d) → Finds (λ n. object_within n es o) levels (Some (d + 1))
comb_found es o attr t nodes levels l d is at e h = (omega (arith, e, h.0), each)
  where
    each : (n : ℕ) → d + 1 ≤ n → object_within n es o ≡ d + 1
    each zero le = absurd (omega (arith, le))
    each (suc n) le = comb_next n es o attr t nodes is at ∙ ap (λ k. k + 1) (h.1 n (omega (arith, le)))

pub comb_lost : (es : Entries) (o : Parts) (attr : Attr) (t : AnyTree) (nodes : List CombNode) (levels l : ℕ) → o.body ≡ Comb attr t → nodes ≡ comb_nodes t → levels ≡ suc l
    → Finds (λ n. names_within n es (node_names nodes)) l None → Finds (λ n. object_within n es o) levels None
comb_lost es o attr t nodes levels l is at e h =
    subst (λ (m : ℕ). Finds (λ n. object_within n es o) m None) (sym e) (omega (arith, h, comb_next (suc l) es o attr t nodes is at))

-- ---- nodes
-- the nodes so far
abbrev pub NodesFound : Entries → List CombNode → ℕ → ℕ → Type 0
NodesFound es ns levels most = Finds (λ n. names_within n es (node_names ns)) levels (Some most)

pub nodes_next : (es : Entries) (ns : List CombNode) (i levels most d next : ℕ) (item : CombNode) → i < length ns → item ≡ get_or ns i item → NodesFound es (take i ns) levels most
    → Finds (λ n. names_within n es (name_of_node item)) levels (Some d) → next ≡ max most d → NodesFound es (take (i + 1) ns) levels next
nodes_next es ns i levels most d next item lt is before here e = (
  omega (arith, before.0, here.0, e),
  λ n le.
      let same : names_within n es (name_of_node (get_or ns i item)) ≡ names_within n es (name_of_node item) = ap (λ (m : CombNode). names_within n es (name_of_node m)) (sym is) in
      omega (arith, before.1 n (omega (arith, le, e)), here.1 n (omega (arith, le, e)), same, e, nodes_more (depth_within n es) ns i item lt),
)

node_split : (f : Name → ℕ) (n : CombNode) (ns : List CombNode) → greatest_of (map f (node_names (n ∷ ns))) ≡ max (greatest_of (map f (name_of_node n))) (greatest_of (map f (node_names ns)))
node_split f n ns = ap (λ (l : List Name). greatest_of (map f l)) (flat_map-cons name_of_node n ns) ∙ greatest_append f (name_of_node n) (node_names ns)

node_least : (f : Name → ℕ) (ns : List CombNode) (i : ℕ) (item : CombNode) → i < length ns → greatest_of (map f (name_of_node (get_or ns i item))) ≤ greatest_of (map f (node_names ns))
node_least f [] i item lt = absurd (omega (arith, lt))
node_least f (n ∷ ns) zero item lt =
    let whole : greatest_of (map f (node_names (n ∷ ns))) ≡ max (greatest_of (map f (name_of_node n))) (greatest_of (map f (node_names ns))) = node_split f n ns in
    omega (arith, whole)
node_least f (n ∷ ns) (suc i) item lt =
    let whole : greatest_of (map f (node_names (n ∷ ns))) ≡ max (greatest_of (map f (name_of_node n))) (greatest_of (map f (node_names ns))) = node_split f n ns in
    omega (arith, whole, node_least f ns i item (omega (arith, lt)))

pub nodes_lost : (es : Entries) (ns : List CombNode) (i levels : ℕ) (item : CombNode) → i < length ns → item ≡ get_or ns i item
    → Finds (λ n. names_within n es (name_of_node item)) levels None → Finds (λ n. names_within n es (node_names ns)) levels None
nodes_lost es ns i levels item lt is h =
    let same : names_within (suc levels) es (name_of_node (get_or ns i item)) ≡ names_within (suc levels) es (name_of_node item) = ap (λ (m : CombNode). names_within (suc levels) es (name_of_node m)) (sym is) in
    omega (arith, h, same, node_least (depth_within (suc levels) es) ns i item lt)

-- ---- the depths that are kept
pub found_set : (es : Entries) (xs : List ℕ) (i d levels : ℕ) (k : Name) (o : Parts) → length xs ≡ length es → i < length es → slice_get es i ≡ Some (k, o) → AreFound es xs
    → Finds (λ n. depth_within n es k) levels (Some d) → AreFound es (slice_set xs i d)
found_set es xs i d levels k o len lt at found h j q p at_j less n le =
    elim (cases_eq j i) [
      | inl e ↦
          let now : slice_index (slice_set xs i d) i ≡ d = get_or-set_same xs i d 0 (omega (arith, len, lt)) in
          let here : slice_index (slice_set xs i d) j ≡ d = ap (slice_index (slice_set xs i d)) e ∙ now in
          let at_i : slice_get es i ≡ Some (q, p) = subst (λ (m : ℕ). slice_get es m ≡ Some (q, p)) e at_j in
          let same : k ≡ q = one_name k q o p (slice_get es i) at at_i in
          ap (depth_within n es) (sym same) ∙ h.1 n (omega (arith, here, le)) ∙ sym here
      | inr apart ↦
          let other : slice_index (slice_set xs i d) j ≡ slice_index xs j = get_or-set_other xs i j d 0 apart in
          found j q p at_j (omega (arith, other, less)) n (omega (arith, other, le)) ∙ sym other
    ]
  where
    one_name : (k q : Name) (o p : Parts) (x : Option (Name × Parts)) → x ≡ Some (k, o) → x ≡ Some (q, p) → k ≡ q
    one_name k q o p x e f = let pairs : ◌≡◌ {A = Name × Parts} (k, o) (q, p) = cc in ap (λ (r : Name × Parts). r.0) pairs

pub all_found : (es : Entries) (xs : List ℕ) → length xs ≡ length es → AreFound es xs → ((j : ℕ) → j < length es → slice_index xs j < unbounded) → xs ≡ known_depths es
all_found es xs len found below =
    same_at_each (depth_within unbounded es) es xs len
    (λ j k o at. let lt = below j (at_within es j k o at) in sym (found j k o at lt unbounded (omega (arith, lt))))

greatest_less : (n : ℕ) (xs : List ℕ) → ((j : ℕ) → j < length xs → slice_index xs j < suc n) → greatest_of xs < suc n
greatest_less n [] h = omega arith
greatest_less n (x ∷ xs) h = omega (arith, h 0 (omega arith), greatest_less n xs (λ j lt. h (suc j) (omega (arith, lt))))

pub all_shallow : (es : Entries) (xs : List ℕ) → length xs ≡ length es → AreFound es xs → ((j : ℕ) → j < length es → slice_index xs j < unbounded) → deepest es < unbounded
all_shallow es xs len found below =
    let same : greatest_of xs ≡ deepest es = ap greatest_of (all_found es xs len found below) in
    omega (arith, same, greatest_less 33 xs (λ j lt. below j (omega (arith, lt, len))))

pub lost : (f : ℕ → ℕ) (levels : ℕ) (r : Option ℕ) → is_some r ≡ false → Finds f levels r → Finds f levels None
lost f levels None e h = h
lost f levels (Some d) e h = cc

pub deep_found : (es : Entries) (k : Name) → Finds (λ n. depth_within n es k) 33 None → unbounded ≤ deepest es
deep_found es k h = omega (arith, h, within_all unbounded es k)
