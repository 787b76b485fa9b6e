-- The directory of a demo is sound: its names differ, and it has no cycle and is not deep.
use Rattle.std.proofs.Common.{◌≡◌, ◌∙◌, ◌<◌, ◌≤◌, ◌+◌, ◌*◌, ◌==◌, ℕ, zero, suc, Bool, true, false, cond, List, [], ◌∷◌, ◌++◌, Option, Some, None, map, length, length-append, decimal, refl, ap, sym, subst, arith, drop, if◌then◌else◌}
use Rattle.std.specs.Prelude.{slice_index_or}
use Rattle.std.specs.List.{AllByRecursion, Contains, IsDistinct}
use Rattle.std.specs.Map.{keys_of}
use Rattle.std.specs.Str.Parse.{digits_value}
use Rattle.std.proofs.lemmas.Fmt.{digits_value-decimal}
use Rattle.std.proofs.lemmas.Map.Keys.{IsDistinct-cons, IsDistinct-head, IsDistinct-tail}
use Rattle.name_core.specs.Same.{same_name, same_name_decides}
use Rattle.name_core.specs.declared.name.Name.{Name}
use Rattle.object_set.specs.Objects.{Parts, member_names}
use Rattle.object_set.specs.declared.object.Body.{Body}
use Rattle.object_set.specs.declared.object.Body.TheVariants as bodies
use Rattle.tree_forms.specs.Trees.{leaves}
use Rattle.comb_tree.specs.Nodes.{Member}
use Rattle.directory.specs.Walks.{Entries, HasCycleThrough, IsSound, IsWalk, Refers, body_weight, comb_weight, combinations, members_of, object_of}
use Rattle.scene_make.specs.Draws.{after}
use Rattle.scene_make.specs.Demo as demo
use Rattle.scene_make.specs.Demo.{all, all_name, cut, cut_name, drawn_colour, drawn_radius, drawn_turn, pair_of, pairs, region_name, region_of, sphere_name, sphere_of, union_to}
use Rattle.scene_make.proofs.NameLaws.{model}

-- ---- what holds of each object

both_hold : {X : Type 0} (P : X → Type 0) (xs ys : List X) → AllByRecursion P xs → AllByRecursion P ys → AllByRecursion P (xs ++ ys)
both_hold P [] ys one two = two
both_hold P (x ∷ xs) ys one two = (one.0, both_hold P xs ys one.1 two)

module _ (P : Name × Parts → Type 0) (of_sphere : (x i : ℕ) → i < 1000 → P (sphere_name i, sphere_of i (drawn_radius x)))
    (of_region : (x i : ℕ) → i < 1000 → P (region_name i, region_of i (drawn_turn x) (drawn_colour x))) where
  of_pairs : (n i : ℕ) → i ≤ 1000 → AllByRecursion P (pairs n i)
  unfolding pairs
  of_pairs n zero few = tt
  of_pairs n (suc i) few = both_hold P (pairs n i) (pair_of (after n (5 * i)) i) (of_pairs n i (omega (arith, few))) (of_sphere (after n (5 * i)) i (omega (arith, few)), (of_region (after n (5 * i)) i (omega (arith, few)), tt))

  pub of_each : P (cut_name, cut) → P (all_name, all) → (n : ℕ) → AllByRecursion P (demo.demo n).objects
  of_each of_cut of_all n = (of_cut, both_hold P (pairs n 1000) ((all_name, all) ∷ []) (of_pairs n 1000 (omega arith)) (of_all, tt))

-- ---- the names differ

-- the place of an object by its name
abbrev place : Name → ℕ
place a =
    if slice_index_or a 0 0 == 115 then 1 + 2 * digits_value 10 (drop 1 a)
    else (if slice_index_or a 0 0 == 114 then 2 + 2 * digits_value 10 (drop 1 a)
    else (if slice_index_or a 0 0 == 99 then 0 else 2001))

number_back : (i : ℕ) → i < 1000 → digits_value 10 (decimal i) ≡ i
number_back i small = digits_value-decimal model i (omega (arith, small))

place_sphere : (i : ℕ) → i < 1000 → place (sphere_name i) ≡ 1 + 2 * i
place_sphere i small = ap (λ (n : ℕ). 1 + 2 * n) (number_back i small)

place_region : (i : ℕ) → i < 1000 → place (region_name i) ≡ 2 + 2 * i
place_region i small = ap (λ (n : ℕ). 2 + 2 * n) (number_back i small)

record Apart (names : List Name) (most : ℕ) : Type 0 where
  distinct : IsDistinct same_name names
  below : AllByRecursion (λ a. place a < most) names

other_name : (a b : Name) → place a < place b → same_name a b ≡ false
other_name a b lt = by (same_name a b) refl
  where
    by : (t : Bool) → same_name a b ≡ t → same_name a b ≡ false
    by true is = let same : place a ≡ place b = ap place ((same_name_decides a b).0 is) in absurd (omega (arith, same, lt))
    by false is = is

pushed : (names : List Name) (most more : ℕ) (a : Name) → Apart names most → most ≤ place a → place a < more → Apart (names ++ a ∷ []) more
unfolding IsDistinct
pushed [] most more a apart le lt = record { distinct = (tt, tt); below = (lt, tt) }
pushed (b ∷ names) most more a apart le lt =
    let rest : Apart (names ++ a ∷ []) more = pushed names most more a (record { distinct = IsDistinct-tail same_name b names apart.distinct; below = apart.below.1 }) le lt in
    record {
      distinct = IsDistinct-cons same_name b (names ++ a ∷ [])
          (both_hold (λ y. same_name b y ≡ false) names (a ∷ []) (IsDistinct-head same_name b names apart.distinct) (other_name b a (omega (arith, apart.below.0, le)), tt))
          rest.distinct;
      below = (omega (arith, apart.below.0, le, lt), rest.below);
    }

keys_both : (one two : Entries) → keys_of (one ++ two) ≡ keys_of one ++ keys_of two
keys_both [] two = refl
keys_both (e ∷ one) two = ap (λ (l : List Name). e.0 ∷ l) (keys_both one two)

one_more : (xs : List Name) (a b : Name) → xs ++ a ∷ b ∷ [] ≡ (xs ++ a ∷ []) ++ b ∷ []
one_more [] a b = refl
one_more (x ∷ xs) a b = ap (λ (l : List Name). x ∷ l) (one_more xs a b)

front : (n i : ℕ) → i ≤ 1000 → Apart (cut_name ∷ keys_of (pairs n i)) (1 + 2 * i)
unfolding pairs IsDistinct
front n zero few = record { distinct = (tt, tt); below = (omega arith, tt) }
front n (suc i) few =
    let before : Apart (cut_name ∷ keys_of (pairs n i)) (1 + 2 * i) = front n i (omega (arith, few)) in
    let small : i < 1000 = omega (arith, few) in
    let first : Apart ((cut_name ∷ keys_of (pairs n i)) ++ sphere_name i ∷ []) (2 + 2 * i) =
    pushed (cut_name ∷ keys_of (pairs n i)) (1 + 2 * i) (2 + 2 * i) (sphere_name i) before (omega (arith, place_sphere i small)) (omega (arith, place_sphere i small)) in
    let second : Apart (((cut_name ∷ keys_of (pairs n i)) ++ sphere_name i ∷ []) ++ region_name i ∷ []) (1 + 2 * suc i) =
    pushed ((cut_name ∷ keys_of (pairs n i)) ++ sphere_name i ∷ []) (2 + 2 * i) (1 + 2 * suc i) (region_name i) first (omega (arith, place_region i small)) (omega (arith, place_region i small)) in
    subst (λ (names : List Name). Apart names (1 + 2 * suc i))
    (sym (ap (λ (l : List Name). cut_name ∷ l) (keys_both (pairs n i) (pair_of (after n (5 * i)) i)) ∙ one_more (cut_name ∷ keys_of (pairs n i)) (sphere_name i) (region_name i))) second

names_apart : (n : ℕ) → IsDistinct same_name (keys_of (demo.demo n).objects)
names_apart n =
    let whole : Apart ((cut_name ∷ keys_of (pairs n 1000)) ++ all_name ∷ []) 2002 = pushed (cut_name ∷ keys_of (pairs n 1000)) 2001 2002 all_name (front n 1000 (omega arith)) (omega arith) (omega arith) in
    subst (IsDistinct same_name) (sym (ap (λ (l : List Name). cut_name ∷ l) (keys_both (pairs n 1000) ((all_name, all) ∷ [])))) whole.distinct

pairs_count : (n i : ℕ) → length (pairs n i) ≡ 2 * i
unfolding pairs
pairs_count n zero = refl
pairs_count n (suc i) = omega (arith, pairs_count n i, length-append (pairs n i) (pair_of (after n (5 * i)) i))

-- ---- what refers to something stands over it

abbrev rank : Name → ℕ
rank a = if slice_index_or a 0 0 == 97 then 2 else (if slice_index_or a 0 0 == 114 then 1 else 0)

rank_most : (a : Name) → rank a ≤ 2
rank_most a = by (slice_index_or a 0 0 == 97) (slice_index_or a 0 0 == 114)
  where
    by : (s t : Bool) → cond s 2 (cond t 1 0) ≤ 2
    by true t = omega arith
    by false true = omega arith
    by false false = omega arith

abbrev Descends : Name × Parts → Type 0
Descends e = (m : Name) → Contains (member_names e.1.body) m → rank m < rank e.0

module _ (es : Entries) (down : AllByRecursion Descends es) where
  refers_down : (a b : Name) → Refers es a b → rank b < rank a
  refers_down a b = among es down
    where
      at_head : (e : Name × Parts) (rest : Entries) → Descends e → (Contains (members_of (object_of rest a)) b → rank b < rank a) → (t : Bool) → same_name a e.0 ≡ t → Contains (members_of (cond t (Some e.1) (object_of rest a))) b → rank b < rank a
      at_head e rest here more true is has = let same : rank a ≡ rank e.0 = ap rank ((same_name_decides a e.0).0 is) in omega (arith, same, here b has)
      at_head e rest here more false is has = more has

      among : (rest : Entries) → AllByRecursion Descends rest → Contains (members_of (object_of rest a)) b → rank b < rank a
      among [] _ has = absurd (omega (arith, has.1))
      among (e ∷ rest) h has = at_head e rest h.0 (among rest h.1) (same_name a e.0) refl has

  walk_short : (w : List Name) (a : Name) → IsWalk es (a ∷ w) → length w ≤ rank a
  walk_short [] a walk = omega arith
  walk_short (b ∷ rest) a walk = omega (arith, walk_short rest b walk.1, refers_down a b walk.0)

  no_more_weight : (o : Option Parts) → comb_weight o ≤ 1
  no_more_weight None = omega arith
  no_more_weight (Some o) = by o.body
    where
      by : (b : Body) → body_weight b ≤ 1
      by (bodies.Solid s) = omega arith
      by (bodies.Comb attr tree) = omega arith

  few_combinations : (w : List Name) → combinations es w ≤ length w
  few_combinations [] = omega arith
  few_combinations (a ∷ rest) = omega (arith, few_combinations rest, no_more_weight (object_of es a))

  shallow : (w : List Name) → IsWalk es w → combinations es w ≤ 16
  shallow [] walk = omega arith
  shallow (a ∷ rest) walk = omega (arith, few_combinations (a ∷ rest), walk_short rest a walk, rank_most a)

  walk_down : (between : List Name) (a b : Name) → IsWalk es (a ∷ (between ++ b ∷ [])) → rank b < rank a
  walk_down [] a b walk = refers_down a b walk.0
  walk_down (c ∷ more) a b walk = omega (arith, refers_down a c walk.0, walk_down more c b walk.1)

  no_cycle : (a : Name) → ¬ (HasCycleThrough es a)
  no_cycle a cycle = let low : rank a < rank a = walk_down cycle.0 a a cycle.1 in omega (arith, low)

-- ---- the members of each object

none_contained : (m : Name) → ¬ (Contains [] m)
none_contained m has = omega (arith, has.1)

sphere_down : (x i : ℕ) → i < 1000 → Descends (sphere_name i, sphere_of i (drawn_radius x))
sphere_down x i small m has = absurd (none_contained m has)

contained : (P : Name → Type 0) (names : List Name) (m : Name) → AllByRecursion P names → Contains names m → P m
contained P [] m each has = absurd (omega (arith, has.1))
contained P (a ∷ names) m each (zero, lt, is) = subst P is each.0
contained P (a ∷ names) m each (suc k, lt, is) = contained P names m each.1 (k, omega (arith, lt), is)

region_down : (x i : ℕ) → i < 1000 → Descends (region_name i, region_of i (drawn_turn x) (drawn_colour x))
region_down x i small m has = contained (λ a. rank a < 1) (sphere_name i ∷ cut_name ∷ []) m (omega arith, (omega arith, tt)) has

names_both : (one two : List Member) → map (λ (m : Member). m.name) (one ++ two) ≡ map (λ (m : Member). m.name) one ++ map (λ (m : Member). m.name) two
names_both [] two = refl
names_both (m ∷ one) two = ap (λ (l : List Name). m.name ∷ l) (names_both one two)

union_low : (i : ℕ) → AllByRecursion (λ a. rank a < 2) (map (λ (m : Member). m.name) (leaves (union_to i)))
unfolding union_to
union_low zero = (omega arith, tt)
union_low (suc i) =
    subst (AllByRecursion (λ a. rank a < 2)) (sym (names_both (leaves (union_to i)) _))
    (both_hold (λ a. rank a < 2) (map (λ (m : Member). m.name) (leaves (union_to i))) (region_name (suc i) ∷ []) (union_low i) (omega arith, tt))

all_down : Descends (all_name, all)
all_down m has = contained (λ a. rank a < 2) (map (λ (l : Member). l.name) (leaves (union_to 999))) m (union_low 999) has

pub demo_sound : (n : ℕ) → IsSound (demo.demo n).objects
demo_sound n =
    let down : AllByRecursion Descends (demo.demo n).objects = of_each Descends sphere_down region_down (λ m has. absurd (none_contained m has)) all_down n in
    record {
      acyclic = no_cycle (demo.demo n).objects down;
      shallow = shallow (demo.demo n).objects down;
      small = omega (arith, pairs_count n 1000, length-append (pairs n 1000) ((all_name, all) ∷ []));
      distinct = names_apart n;
    }
