use Rattle.object_pages.proofs.EntryLemmas.{same_or_apart}
use Rattle.std.proofs.Common.{◌≡◌, ◌≢◌, ◌⊎◌, inl, inr, ◌<◌, ◌≤◌, ◌+◌, ◌∙◌, ℕ, zero, suc, min, Bool, true, false, List, [], ◌∷◌, ◌++◌, map, refl, ap, sym, subst, arith, append_assoc, Option, None, Some}
use Rattle.std.specs.List.{Contains}
use Rattle.std.specs.Map.{keys_of}
use Rattle.std.proofs.lemmas.Bool.{cases_lt}
use Rattle.name_core.specs.declared.name.Name.{Name}
use Rattle.name_core.specs.Same.{same_name, same_name_decides}
use Rattle.object_set.specs.Objects.{Parts, member_names}
use Rattle.object_set.specs.declared.object.Body.{Body}
use Rattle.object_set.specs.declared.object.Body.TheVariants.{Solid, Comb}
use Rattle.directory.specs.Walks.{Entries, members_of, body_weight, comb_weight, object_of, Refers, IsWalk, combinations, HasCycleThrough, IsDepth, IsGreatestDepth, IsSound, greatest_of, body_depth, depth_over, depth_within, most_depth, unbounded}

-- ---- names
tells_by : (b : Bool) (x y : Name) → ((b ≡ true → x ≡ y) × (x ≡ y → b ≡ true)) → ((b ≡ true) × (x ≡ y)) ⊎ ((b ≡ false) × (x ≢ y))
tells_by true x y h = inl (refl, h.0 refl)
tells_by false x y h = inr (refl, λ e. let wrong : false ≡ true = h.1 e in cc)

pub name_tells : (x y : Name) → ((same_name x y ≡ true) × (x ≡ y)) ⊎ ((same_name x y ≡ false) × (x ≢ y))
name_tells x y = tells_by (same_name x y) x y (same_name_decides x y)

-- away from the name a, `new` has no combination and no reference that `old` has not
pub record AddsOnlyAt (a : Name) (old new : Entries) : Type 0 where
  pub weight : (x : Name) → x ≢ a → comb_weight (object_of new x) ≤ comb_weight (object_of old x)
  pub refers : (x y : Name) → x ≢ a → y ≢ a → Refers new x y → Refers old x y

-- ---- the greatest of a list
pub greatest_least : (f : Name → ℕ) (xs : List Name) (b : Name) → Contains xs b → f b ≤ greatest_of (map f xs)
greatest_least f [] b h = absurd (omega (arith, h.1))
greatest_least f (x ∷ xs) b (zero, lt, is) = let e : f x ≡ f b = ap f is in omega arith
greatest_least f (x ∷ xs) b (suc k, lt, is) = let below : f b ≤ greatest_of (map f xs) = greatest_least f xs b (k, omega arith, is) in omega arith

-- of some names the greatest is that of one of them
pub greatest_met : (f : Name → ℕ) (x : Name) (xs : List Name) → (b : Name) × Contains (x ∷ xs) b × (greatest_of (map f (x ∷ xs)) ≡ f b)
greatest_met f x [] = (x, (0, omega arith, refl), omega arith)
greatest_met f x (y ∷ ys) =
    let r = greatest_met f y ys in
    elim (cases_lt (f x) (f r.0)) [
      | inl lt ↦ (r.0, (suc r.1.0, omega (arith, r.1.1), r.1.2), omega (arith, r.2))
      | inr le ↦ (x, (0, omega arith, refl), omega (arith, r.2))
    ]

-- ---- walks, taken apart and put together
pub walk_front : (dir : Entries) (u v : List Name) → IsWalk dir (u ++ v) → IsWalk dir u
walk_front dir [] v h = tt
walk_front dir (a ∷ []) v h = (tt, tt)
walk_front dir (a ∷ b ∷ u) v h = (h.0, walk_front dir (b ∷ u) v h.1)

pub walk_back : (dir : Entries) (u v : List Name) → IsWalk dir (u ++ v) → IsWalk dir v
walk_back dir [] v h = h
walk_back dir (a ∷ u) v h = walk_back dir u v h.1

-- a walk that ends where another begins
pub walk_joined : (dir : Entries) (u : List Name) (a : Name) (v : List Name) → IsWalk dir (u ++ a ∷ []) → IsWalk dir (a ∷ v) → IsWalk dir (u ++ a ∷ v)
walk_joined dir [] a v h k = k
walk_joined dir (x ∷ []) a v h k = (h.0, k)
walk_joined dir (x ∷ y ∷ u) a v h k = (h.0, walk_joined dir (y ∷ u) a v h.1 k)

pub combinations-append : (dir : Entries) (u v : List Name) → combinations dir (u ++ v) ≡ combinations dir u + combinations dir v
combinations-append dir [] v = omega arith
combinations-append dir (a ∷ u) v = omega (arith, combinations-append dir u v)

-- ---- the bounded depth and walks
weight_one_in : (o : Body) (b : Name) → Contains (member_names o) b → body_weight o ≡ 1
weight_one_in (Solid s) b h = absurd (omega (arith, h.1))
weight_one_in (Comb attr tree) b h = refl

pub weight_one : (o : Option Parts) (b : Name) → Contains (members_of o) b → comb_weight o ≡ 1
weight_one None b h = absurd (omega (arith, h.1))
weight_one (Some o) b h = weight_one_in o.body b h

pub greatest_bound : (f : Name → ℕ) (n : ℕ) → ((x : Name) → f x ≤ n) → (xs : List Name) → greatest_of (map f xs) ≤ n
greatest_bound f n h [] = omega arith
greatest_bound f n h (x ∷ xs) = omega (arith, h x, greatest_bound f n h xs)

body_at_most : (f : Name → ℕ) (n : ℕ) → ((x : Name) → f x ≤ n) → (o : Body) → body_depth o f ≤ suc n
body_at_most f n h (Solid s) = omega arith
body_at_most f n h (Comb attr tree) = omega (arith, greatest_bound f n h (member_names (Comb attr tree)))

over_at_most : (f : Name → ℕ) (n : ℕ) → ((x : Name) → f x ≤ n) → (o : Option Parts) → depth_over o f ≤ suc n
over_at_most f n h None = omega arith
over_at_most f n h (Some o) = body_at_most f n h o.body

pub depth_at_most : (most : ℕ) (dir : Entries) (a : Name) → depth_within most dir a ≤ most
depth_at_most zero dir a = omega arith
depth_at_most (suc most) dir a = over_at_most (depth_within most dir) most (depth_at_most most dir) (object_of dir a)

first_same : (c b : Name) (u v : List Name) → c ∷ u ≡ b ∷ v → c ≡ b
first_same c b u v e = cc

-- no walk has more, up to the bound
body_bounds : (most : ℕ) (dir : Entries) (o : Body) (w : List Name)
    → ((b : Name) (v : List Name) → w ≡ b ∷ v → Contains (member_names o) b × (min (combinations dir w) most ≤ depth_within most dir b))
    → min (body_weight o + combinations dir w) (suc most) ≤ body_depth o (depth_within most dir)
body_bounds most dir (Solid s) [] h = omega arith
body_bounds most dir (Comb attr tree) [] h = omega arith
body_bounds most dir (Solid s) (b ∷ v) h = absurd (omega (arith, (h b v refl).0.1))
body_bounds most dir (Comb attr tree) (b ∷ v) h =
    let at = h b v refl in
    omega (arith, greatest_least (depth_within most dir) (member_names (Comb attr tree)) b at.0, at.1)

over_bounds : (most : ℕ) (dir : Entries) (o : Option Parts) (w : List Name)
    → ((b : Name) (v : List Name) → w ≡ b ∷ v → Contains (members_of o) b × (min (combinations dir w) most ≤ depth_within most dir b))
    → min (comb_weight o + combinations dir w) (suc most) ≤ depth_over o (depth_within most dir)
over_bounds most dir None [] h = omega arith
over_bounds most dir None (b ∷ v) h = absurd (omega (arith, (h b v refl).0.1))
over_bounds most dir (Some o) w h = body_bounds most dir o.body w h

pub depth_bounds : (most : ℕ) (dir : Entries) (a : Name) (w : List Name) → IsWalk dir (a ∷ w) → min (combinations dir (a ∷ w)) most ≤ depth_within most dir a
depth_bounds zero dir a w h = omega arith
depth_bounds (suc most) dir a [] h = over_bounds most dir (object_of dir a) [] (λ b v e. cc)
depth_bounds (suc most) dir a (c ∷ u) h =
    over_bounds most dir (object_of dir a) (c ∷ u) (λ b v e. (subst (λ (x : Name). Refers dir a x) (first_same c b u v e) h.0, subst (λ (x : Name). min (combinations dir (c ∷ u)) most ≤ depth_within most dir x) (first_same c b u v e) (depth_bounds most dir c u h.1)))

-- some walk has as many
abbrev AtEach : ℕ → Entries → Type 0
AtEach most dir = (b : Name) → (w : List Name) × IsWalk dir (b ∷ w) × (depth_within most dir b ≤ combinations dir (b ∷ w))

names_met : (most : ℕ) (dir : Entries) (names : List Name) → AtEach most dir
    → (w : List Name) × ((a : Name) → members_of (object_of dir a) ≡ names → IsWalk dir (a ∷ w)) × (greatest_of (map (depth_within most dir) names) ≤ combinations dir w)
names_met most dir [] h = ([], λ a e. (tt, tt), omega arith)
names_met most dir (x ∷ xs) h =
    let r = greatest_met (depth_within most dir) x xs in
    let below = h r.0 in
    (r.0 ∷ below.0, λ a e. (subst (λ (l : List Name). Contains l r.0) (sym e) r.1, below.1), omega (arith, r.2, below.2))

body_met : (most : ℕ) (dir : Entries) (o : Body) → AtEach most dir
    → (w : List Name) × ((a : Name) → members_of (object_of dir a) ≡ member_names o → IsWalk dir (a ∷ w)) × (body_depth o (depth_within most dir) ≤ body_weight o + combinations dir w)
body_met most dir (Solid s) h = ([], λ a e. (tt, tt), omega arith)
body_met most dir (Comb attr tree) h = let r = names_met most dir (member_names (Comb attr tree)) h in (r.0, r.1, omega (arith, r.2))

over_met : (most : ℕ) (dir : Entries) (o : Option Parts) → AtEach most dir
    → (w : List Name) × ((a : Name) → object_of dir a ≡ o → IsWalk dir (a ∷ w)) × (depth_over o (depth_within most dir) ≤ comb_weight o + combinations dir w)
over_met most dir None h = ([], λ a e. (tt, tt), omega arith)
over_met most dir (Some o) h = let r = body_met most dir o.body h in (r.0, λ a e. r.1 a (ap members_of e), r.2)

pub depth_met : (most : ℕ) (dir : Entries) (a : Name) → (w : List Name) × IsWalk dir (a ∷ w) × (depth_within most dir a ≤ combinations dir (a ∷ w))
depth_met zero dir a = ([], (tt, tt), omega arith)
depth_met (suc most) dir a =
    let r = over_met most dir (object_of dir a) (depth_met most dir) in
    (r.0, r.1 a refl, r.2)

-- below its bound the bounded depth is the depth
pub depth_exact : (most : ℕ) (dir : Entries) (a : Name) → depth_within most dir a < most → IsDepth dir a (depth_within most dir a)
depth_exact most dir a lt =
    let r = depth_met most dir a in
    record {
      after = r.0;
      walk = r.1;
      attained = omega (arith, r.2, depth_bounds most dir a r.0 r.1);
      greatest = λ w h. omega (arith, depth_bounds most dir a w h);
    }

body_weight_at_most : (o : Body) → body_weight o ≤ 1
body_weight_at_most (Solid s) = omega arith
body_weight_at_most (Comb attr tree) = omega arith

weight_at_most : (o : Option Parts) → comb_weight o ≤ 1
weight_at_most None = omega arith
weight_at_most (Some o) = body_weight_at_most o.body

-- ---- cycles
cycle_weight : (dir : Entries) (a : Name) (w : List Name) → IsWalk dir ((a ∷ w) ++ a ∷ []) → comb_weight (object_of dir a) ≡ 1
cycle_weight dir a [] h = weight_one (object_of dir a) a h.0
cycle_weight dir a (b ∷ w) h = weight_one (object_of dir a) b h.0

-- round a cycle there are walks with any number of combinations
pub cycle_unbounded : (dir : Entries) (a : Name) → HasCycleThrough dir a → (n : ℕ) → (w : List Name) × IsWalk dir (a ∷ w) × (n ≤ combinations dir (a ∷ w))
cycle_unbounded dir a h zero = ([], (tt, tt), omega arith)
cycle_unbounded dir a h (suc n) =
    let r = cycle_unbounded dir a h n in
    (h.0 ++ a ∷ r.0, walk_joined dir (a ∷ h.0) a r.0 h.1 r.1, omega (arith, combinations-append dir h.0 (a ∷ r.0), r.2, cycle_weight dir a h.0 h.1))

pub cycle_deep : (most : ℕ) (dir : Entries) (a : Name) → HasCycleThrough dir a → depth_within most dir a ≡ most
cycle_deep most dir a h =
    let r = cycle_unbounded dir a h most in
    omega (arith, depth_bounds most dir a r.0 r.1, r.2, depth_at_most most dir a)

-- ---- an edit of one name
-- no name of the list is a
abbrev pub Avoids : Name → List Name → Type 0
Avoids a [] = Unit {0}
Avoids a (x ∷ xs) = (x ≢ a) × Avoids a xs

avoiding_walk : (a : Name) (old new : Entries) → AddsOnlyAt a old new → (w : List Name) → IsWalk new w → Avoids a w → IsWalk old w
avoiding_walk a old new h [] k v = tt
avoiding_walk a old new h (x ∷ []) k v = (tt, tt)
avoiding_walk a old new h (x ∷ y ∷ w) k v = (h.refers x y v.0 v.1.0 k.0, avoiding_walk a old new h (y ∷ w) k.1 v.1)

avoiding_combinations : (a : Name) (old new : Entries) → AddsOnlyAt a old new → (w : List Name) → Avoids a w → combinations new w ≤ combinations old w
avoiding_combinations a old new h [] v = omega arith
avoiding_combinations a old new h (x ∷ w) v = omega (arith, h.weight x v.0, avoiding_combinations a old new h w v.1)

avoiding_shallow : (a : Name) (old new : Entries) → AddsOnlyAt a old new → IsSound old → (w : List Name) → IsWalk new w → Avoids a w → combinations new w ≤ most_depth
avoiding_shallow a old new h sound w k v = omega (arith, avoiding_combinations a old new h w v, sound.shallow w (avoiding_walk a old new h w k v))

-- the first place of a name in a list
record FirstAt (a : Name) (w : List Name) : Type 0 where
  before : List Name
  after : List Name
  is : w ≡ before ++ a ∷ after
  avoids : Avoids a before

first_at_step : (a x : Name) (w : List Name) → (x ≡ a) ⊎ (x ≢ a) → Avoids a w ⊎ FirstAt a w → Avoids a (x ∷ w) ⊎ FirstAt a (x ∷ w)
first_at_step a x w (inl e) r = inr (record { before = []; after = w; is = ap (λ (y : Name). y ∷ w) e; avoids = tt })
first_at_step a x w (inr apart) (inl v) = inl (apart, v)
first_at_step a x w (inr apart) (inr f) = inr (record { before = x ∷ f.before; after = f.after; is = ap (λ (l : List Name). x ∷ l) f.is; avoids = (apart, f.avoids) })

first_at : (a : Name) (w : List Name) → Avoids a w ⊎ FirstAt a w
first_at a [] = inl tt
first_at a (x ∷ w) = first_at_step a x w (same_or_apart x a) (first_at a w)

-- a walk on from the name a has at most one more combination than a sound walk, or comes back to it
from_the_name : (a : Name) (old new : Entries) → AddsOnlyAt a old new → IsSound old → (w : List Name) → IsWalk new (a ∷ w)
    → Avoids a w ⊎ FirstAt a w → (combinations new (a ∷ w) ≤ most_depth + 1) ⊎ HasCycleThrough new a
from_the_name a old new h sound w k (inl v) = inl (omega (arith, weight_at_most (object_of new a), avoiding_shallow a old new h sound w k.1 v))
from_the_name a old new h sound w k (inr f) =
    let at : IsWalk new ((a ∷ f.before ++ a ∷ []) ++ f.after) = subst (λ (l : List Name). IsWalk new l) (ap (λ (l : List Name). a ∷ l) (f.is ∙ sym (append_assoc f.before (a ∷ []) f.after))) k in
    inr (f.before, walk_front new (a ∷ f.before ++ a ∷ []) f.after at)

any_walk : (a : Name) (old new : Entries) → AddsOnlyAt a old new → IsSound old → (w : List Name) → IsWalk new w
    → Avoids a w ⊎ FirstAt a w → (combinations new w ≤ most_depth + 1 + most_depth) ⊎ HasCycleThrough new a
any_walk a old new h sound w k (inl v) = inl (omega (arith, avoiding_shallow a old new h sound w k v))
any_walk a old new h sound w k (inr f) =
    let at : IsWalk new (f.before ++ a ∷ f.after) = subst (λ (l : List Name). IsWalk new l) f.is k in
    let front : combinations new f.before ≤ most_depth = avoiding_shallow a old new h sound f.before (walk_front new f.before (a ∷ f.after) at) f.avoids in
    elim (from_the_name a old new h sound f.after (walk_back new f.before (a ∷ f.after) at) (first_at a f.after)) [
      | inl le ↦ inl (omega (arith, le, front, ap (combinations new) f.is, combinations-append new f.before (a ∷ f.after)))
      | inr cycle ↦ inr cycle
    ]

-- after an edit of one name of a sound directory a walk with unbounded combinations tells of a cycle through that name
pub long_walk_cycles : (a : Name) (old new : Entries) → AddsOnlyAt a old new → IsSound old → (w : List Name) → IsWalk new w → unbounded ≤ combinations new w → HasCycleThrough new a
long_walk_cycles a old new h sound w k long =
    elim (any_walk a old new h sound w k (first_at a w)) [
      | inl le ↦ absurd (omega (arith, le, long))
      | inr cycle ↦ cycle
    ]

-- ---- the verdict on a directory, from the bounded depths of its names
-- the greatest of the bounded depths of the names that are there
abbrev pub greatest_within : ℕ → Entries → ℕ
greatest_within most dir = greatest_of (map (depth_within most dir) (keys_of dir))

-- a name that is not there has depth 0
pub missing_zero : (most : ℕ) (dir : Entries) (a : Name) → object_of dir a ≡ None → depth_within most dir a ≡ 0
missing_zero zero dir a e = refl
missing_zero (suc most) dir a e = ap (λ (o : Option Parts). depth_over o (depth_within most dir)) e

pub key_or_none : (dir : Entries) (a : Name) → Contains (keys_of dir) a ⊎ (object_of dir a ≡ None)
key_or_none [] a = inr refl
key_or_none ((k, o) ∷ dir) a =
    elim (name_tells a k) [
      | inl p ↦ inl (0, omega arith, sym p.1)
      | inr p ↦ elim (key_or_none dir a) [
        | inl c ↦ inl (suc c.0, omega (arith, c.1), c.2)
        | inr e ↦ inr (rw p.0 e)
      ]
    ]

pub within_all : (most : ℕ) (dir : Entries) (a : Name) → depth_within most dir a ≤ greatest_within most dir
within_all most dir a =
    elim (key_or_none dir a) [
      | inl c ↦ greatest_least (depth_within most dir) (keys_of dir) a c
      | inr e ↦ omega (arith, missing_zero most dir a e)
    ]

pub all_walks : (most : ℕ) (dir : Entries) → greatest_within most dir < most → (w : List Name) → IsWalk dir w → combinations dir w ≤ greatest_within most dir
all_walks most dir lt [] h = omega arith
all_walks most dir lt (a ∷ w) h = omega (arith, depth_bounds most dir a w h, within_all most dir a)

pub no_cycle : (most : ℕ) (dir : Entries) → greatest_within most dir < most → (a : Name) → ¬ (HasCycleThrough dir a)
no_cycle most dir lt a h = absurd (omega (arith, cycle_deep most dir a h, within_all most dir a))

deepest_of : (most : ℕ) (dir : Entries) (ks : List Name) → (a : Name) × (greatest_of (map (depth_within most dir) ks) ≤ depth_within most dir a)
deepest_of most dir [] = ([], omega arith)
deepest_of most dir (k ∷ ks) = let r = greatest_met (depth_within most dir) k ks in (r.0, omega (arith, r.2))

pub greatest_depth : (most : ℕ) (dir : Entries) → greatest_within most dir < most → IsGreatestDepth dir (greatest_within most dir)
greatest_depth most dir lt =
    let r = deepest_of most dir (keys_of dir) in
    let same : depth_within most dir r.0 ≡ greatest_within most dir = omega (arith, r.1, within_all most dir r.0) in
    record { deepest = r.0; attained = subst (λ (d : ℕ). IsDepth dir r.0 d) same (depth_exact most dir r.0 (omega arith)); greatest = all_walks most dir lt }

pub cycle_at_bound : (a : Name) (old new : Entries) → AddsOnlyAt a old new → IsSound old → unbounded ≤ greatest_within unbounded new → HasCycleThrough new a
cycle_at_bound a old new h sound le =
    let r = deepest_of unbounded new (keys_of new) in
    let m = depth_met unbounded new r.0 in
    long_walk_cycles a old new h sound (r.0 ∷ m.0) m.1 (omega (arith, r.1, m.2))
