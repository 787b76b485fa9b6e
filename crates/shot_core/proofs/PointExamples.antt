-- What lies at the points of a ray through small scenes, what overlaps there, and what is seen first.
use Rattle.std.proofs.Common.{◌≡◌, ◌⊎◌, ◌<◌, ◌≤◌, ◌∷◌, [], zero, suc, ℕ, ℤ, pos, ◌<ℤ◌, ◌≤ℤ◌, ◌*ℤ◌, refl, subst, arith, inl, inr, true, false, List, Some, None, Contains, slice_get}
use Rattle.std.specs.Int.RustNames.{unsigned_abs}
use Rattle.std.proofs.lemmas.Int.{ints, by_lt_z}
use Rattle.lattice_core.specs.declared.ray.Ray.{Ray}
use Rattle.lattice_core.specs.declared.ray.Dir.TheVariants.{PlusX}
use Rattle.lattice_core.specs.Rays.{IsOnRay}
use Rattle.lattice_core.specs.declared.limit.TheConstants.{FAR}
use Rattle.lattice_core.specs.Vectors.{vector}
use Rattle.surd_order.specs.declared.position.Pos.{Pos}
use Rattle.surd_order.specs.declared.position.Pos.TheVariants.{Frac}
use Rattle.surd_order.specs.Order.{Precedes, SamePlace}
use Rattle.surd_order.proofs.FractionOrder.{fraction_before}
use Rattle.surd_order.proofs.OrderLaws.{before_fraction, not_before_fraction, between}
use Rattle.solid_set.proofs.Between.{between_places}
use Rattle.tree_forms.specs.declared.Op.TheVariants.{Minus}
use Rattle.tree_forms.specs.Trees.{Leaf, Join}
use Rattle.solid_set.specs.declared.surface.Surface.TheVariants.{HalfSpace}
use Rattle.solid_set.specs.Bounds.{all_of_space}
use Rattle.solid_set.specs.Surfaces.{IsInside}
use Rattle.overlap_list.specs.declared.overlap.OverlapRun.{OverlapRun}
use Rattle.shot_core.specs.declared.shot.Lit.{Lit}
use Rattle.shot_core.specs.Regions.{Instance, Region, has_air}
use Rattle.shot_core.specs.OverlapPoints.{BothHoldSolid, NotBothBehind, IsTrueOverlap}
use Rattle.shot_core.specs.SeenPoints.{IsSeenFirst}
use Rattle.shot_core.specs.Points.{HoldsPoint, LiesAt, WinsAgainst, IsRayHitPlace, ray_places, Stretch, TellsPoints, HasRegionAt}

-- the points with 5 x at most d
abbrev half : ℤ → Instance
half d = record { surface = HalfSpace (record { n = vector (pos 5) (pos 0) (pos 0); d = d }); bounds = all_of_space }

-- the points with 5 x over low and at most high: a half-space less another one
abbrev slab : ℕ → ℕ → ℤ → ℤ → Region
slab place air low high = record { place = place; path = []; body = record { id = 0; air = air; rgb = record { r = 0; g = 0; b = 0 }; tree = Join Minus (Leaf (Some 0)) (Leaf (Some 1)); instances = half high ∷ half low ∷ [] } }

-- along x from the origin, so that the point at the fraction p / q has x = p / q
abbrev start : Ray
start = record { origin = vector (pos 0) (pos 0) (pos 0); dir = PlusX }

-- 5 < x ≤ 15, of air or not, and 10 < x ≤ 20
abbrev first : ℕ → Region
first air = slab 1 air (pos 25) (pos 75)

abbrev second : Region
second = slab 2 0 (pos 50) (pos 100)

abbrev scene : ℕ → List Region
scene air = first air ∷ second ∷ []

-- the ray begins and ends, and crosses the planes at 15, 5, 20 and 10
places : ray_places (scene 0) start ≡ Frac (pos 0) (pos 1) ∷ Frac FAR (pos 1) ∷ Frac (pos 75) (pos 5) ∷ Frac (pos 25) (pos 5) ∷ Frac (pos 100) (pos 5) ∷ Frac (pos 50) (pos 5) ∷ []
places = refl

in_half : (d p q : ℤ) → IsInside (half d).surface start p q → (pos 5 *ℤ p) ≤ℤ (d *ℤ q)
in_half d p q (inl h) = omega (arith, ints, h.1)
in_half d p q (inr h) = absurd (omega (arith, ints, h.0))

of_half : (d p q : ℤ) → (pos 5 *ℤ p) ≤ℤ (d *ℤ q) → IsInside (half d).surface start p q
of_half d p q le = inl (λ e. omega (arith, ints, e), omega (arith, ints, le))

in_slab : (place air : ℕ) (low high p q : ℤ) → HoldsPoint (slab place air low high).body start p q → ((low *ℤ q) <ℤ (pos 5 *ℤ p)) × ((pos 5 *ℤ p) ≤ℤ (high *ℤ q))
in_slab place air low high p q h = (by_lt_z (low *ℤ q) (pos 5 *ℤ p) (λ lt. lt) (λ le. absurd (h.1 (of_half low p q le))), in_half high p q h.0)

of_slab : (place air : ℕ) (low high p q : ℤ) → (low *ℤ q) <ℤ (pos 5 *ℤ p) → (pos 5 *ℤ p) ≤ℤ (high *ℤ q) → HoldsPoint (slab place air low high).body start p q
of_slab place air low high p q lt le = (of_half high p q le, λ h. let it = in_half low p q h in omega (arith, ints, it, lt))

for_both : (air : ℕ) (P : Region → Type 0) → P (first air) → P second → (s : Region) → Contains (scene air) s → P s
for_both air P one two s (zero, lt, e) = subst P e one
for_both air P one two s (suc zero, lt, e) = subst P e two
for_both air P one two s (suc (suc k), lt, e) = absurd (omega (arith, lt))

is_same : (P : Region → Type 0) (r s : Region) → Some r ≡ Some s → P r → P s
is_same P r s e it = subst P (let e' : r ≡ s = cc in e') it

-- no region without air, at place 1 or 2, wins against the first one
behind : (place : ℕ) {P : Type 0} → 1 ≤ place → ((false ≡ false) × (false ≡ true)) ⊎ ((false ≡ false) × (place < 1)) → P
behind place some (inl w) = let no : false ≡ true = w.1 in absurd cc
behind place some (inr w) = absurd (omega (arith, w.1, some))

-- nothing wins against the first one where it has no air
unbeaten : (p q : ℤ) (s : Region) → Contains (scene 0) s → WinsAgainst s (first 0) → ¬ (HoldsPoint s.body start p q)
unbeaten p q = for_both 0 (λ s. WinsAgainst s (first 0) → ¬ (HoldsPoint s.body start p q)) (λ w. behind 1 (omega arith) w) (λ w. behind 2 (omega arith) w)

-- so it lies wherever it holds, also where the second one holds
first_lies : (p q : ℤ) → (pos 25 *ℤ q) <ℤ (pos 5 *ℤ p) → (pos 5 *ℤ p) ≤ℤ (pos 75 *ℤ q) → LiesAt (scene 0) start p q 0
first_lies p q lt le = record { region = first 0; there = refl; holds = of_slab 1 0 (pos 25) (pos 75) p q lt le; wins = unbeaten p q }

first_lies_at_twelve : LiesAt (scene 0) start (pos 12) (pos 1) 0
first_lies_at_twelve = first_lies (pos 12) (pos 1) (omega (arith, ints)) (omega (arith, ints))

-- and the second one does not
not_the_second : (p q : ℤ) → (pos 25 *ℤ q) <ℤ (pos 5 *ℤ p) → (pos 5 *ℤ p) ≤ℤ (pos 75 *ℤ q) → ¬ (LiesAt (scene 0) start p q 1)
not_the_second p q lt le = λ lies. is_same (λ r. ((s : Region) → Contains (scene 0) s → WinsAgainst s r → ¬ (HoldsPoint s.body start p q)) → ⊥) second lies.region lies.there
    (λ wins. wins (first 0) (0, omega arith, refl) (inr (refl, omega arith)) (of_slab 1 0 (pos 25) (pos 75) p q lt le)) lies.wins

not_the_second_at_twelve : ¬ (LiesAt (scene 0) start (pos 12) (pos 1) 1)
not_the_second_at_twelve = not_the_second (pos 12) (pos 1) (omega (arith, ints)) (omega (arith, ints))

loses_to_second : {P : Type 0} → ((true ≡ false) × (false ≡ true)) ⊎ ((true ≡ false) × (1 < 2)) → P
loses_to_second (inl w) = let no : true ≡ false = w.0 in absurd cc
loses_to_second (inr w) = let no : true ≡ false = w.0 in absurd cc

behind_itself : {P : Type 0} → ((false ≡ false) × (false ≡ true)) ⊎ ((false ≡ false) × (2 < 2)) → P
behind_itself (inl w) = let no : false ≡ true = w.1 in absurd cc
behind_itself (inr w) = absurd (omega (arith, w.1))

behind_air : {P : Type 0} → ((true ≡ false) × (true ≡ true)) ⊎ ((true ≡ true) × (1 < 1)) → P
behind_air (inl w) = let no : true ≡ false = w.0 in absurd cc
behind_air (inr w) = absurd (omega (arith, w.1))

-- with air in it the first one loses to the second
second_lies : (p q : ℤ) → (pos 50 *ℤ q) <ℤ (pos 5 *ℤ p) → (pos 5 *ℤ p) ≤ℤ (pos 100 *ℤ q) → LiesAt (scene 1) start p q 1
second_lies p q lt le = record {
  region = second;
  there = refl;
  holds = of_slab 2 0 (pos 50) (pos 100) p q lt le;
  wins = for_both 1 (λ s. WinsAgainst s second → ¬ (HoldsPoint s.body start p q)) loses_to_second (λ w. behind_itself w);
}

second_lies_at_twelve : LiesAt (scene 1) start (pos 12) (pos 1) 1
second_lies_at_twelve = second_lies (pos 12) (pos 1) (omega (arith, ints)) (omega (arith, ints))

-- and lies where it holds alone
air_lies_at_seven : LiesAt (scene 1) start (pos 7) (pos 1) 0
air_lies_at_seven = record {
  region = first 1;
  there = refl;
  holds = of_slab 1 1 (pos 25) (pos 75) (pos 7) (pos 1) (omega (arith, ints)) (omega (arith, ints));
  wins = for_both 1 (λ s. WinsAgainst s (first 1) → ¬ (HoldsPoint s.body start (pos 7) (pos 1))) behind_air (λ w holds. let it = in_slab 2 0 (pos 50) (pos 100) (pos 7) (pos 1) holds in omega (arith, ints, it.0));
}

abbrev whole : ℤ → Pos
whole n = Frac n (pos 1)

holds_first : (air : ℕ) (p q : ℤ) (r : Region) → Some (first air) ≡ Some r → HoldsPoint r.body start p q → ((pos 25 *ℤ q) <ℤ (pos 5 *ℤ p)) × ((pos 5 *ℤ p) ≤ℤ (pos 75 *ℤ q))
holds_first air p q r e holds = is_same (λ r. HoldsPoint r.body start p q → ((pos 25 *ℤ q) <ℤ (pos 5 *ℤ p)) × ((pos 5 *ℤ p) ≤ℤ (pos 75 *ℤ q))) (first air) r e (in_slab 1 air (pos 25) (pos 75) p q) holds

holds_second : (p q : ℤ) (r : Region) → Some second ≡ Some r → HoldsPoint r.body start p q → ((pos 50 *ℤ q) <ℤ (pos 5 *ℤ p)) × ((pos 5 *ℤ p) ≤ℤ (pos 100 *ℤ q))
holds_second p q r e holds = is_same (λ r. HoldsPoint r.body start p q → ((pos 50 *ℤ q) <ℤ (pos 5 *ℤ p)) × ((pos 5 *ℤ p) ≤ℤ (pos 100 *ℤ q))) second r e (in_slab 2 0 (pos 50) (pos 100) p q) holds

after_whole : (n p q : ℤ) → pos 0 <ℤ q → Precedes (Frac n (pos 1)) (Frac p q) → (n *ℤ q) <ℤ p
after_whole n p q positive h = by_lt_z (n *ℤ q) p (λ lt. lt) (λ le. absurd (not_before_fraction (Frac n (pos 1)) p q (omega (arith, ints)) positive (omega (arith, ints, le)) h))

before_whole : (n p q : ℤ) → pos 0 <ℤ q → Precedes (Frac p q) (Frac n (pos 1)) → p <ℤ (n *ℤ q)
before_whole n p q positive h = by_lt_z p (n *ℤ q) (λ lt. lt) (λ le. absurd (not_before_fraction (Frac p q) n (pos 1) positive (omega (arith, ints)) (omega (arith, ints, le)) h))

wholes : (m n : ℤ) → m <ℤ n → Precedes (Frac m (pos 1)) (Frac n (pos 1))
wholes m n lt = fraction_before m (pos 1) n (pos 1) (omega (arith, ints)) (omega (arith, ints, lt))

not_wholes : (m n : ℤ) → n ≤ℤ m → ¬ (Precedes (Frac m (pos 1)) (Frac n (pos 1)))
not_wholes m n le = not_before_fraction (Frac m (pos 1)) n (pos 1) (omega (arith, ints)) (omega (arith, ints)) (omega (arith, ints, le))

on_ray : (n : ℕ) → n ≤ unsigned_abs FAR → IsOnRay (pos n) (pos 1)
on_ray n le = record { positive = omega (arith, ints); begun = omega (arith, ints); not_ended = omega (arith, ints, le) }

-- one of two fractions is less
abbrev Apart : ℤ → ℤ → ℤ → ℤ → Type 0
Apart p q c d = ((p *ℤ d) <ℤ (c *ℤ q)) ⊎ ((c *ℤ q) <ℤ (p *ℤ d))

apart : (p q c d : ℤ) → pos 0 <ℤ q → pos 0 <ℤ d → Apart p q c d → ¬ (SamePlace (Frac p q) (Frac c d))
apart p q c d positive positive' (inl lt) = λ same. same.not_before (fraction_before p q c d positive' lt)
apart p q c d positive positive' (inr lt) = λ same. same.not_after (fraction_before c d p q positive lt)

-- a fraction that is none of the six places
free : (air : ℕ) (p q : ℤ) → pos 0 <ℤ q → Apart p q (pos 0) (pos 1) → Apart p q FAR (pos 1) → Apart p q (pos 75) (pos 5) → Apart p q (pos 25) (pos 5) → Apart p q (pos 100) (pos 5) → Apart p q (pos 50) (pos 5)
    → ¬ (IsRayHitPlace (scene air) start (Frac p q))
free air p q positive a b c d e f (inl h) = apart p q (pos 0) (pos 1) positive (omega (arith, ints)) a h
free air p q positive a b c d e f (inr (inl h)) = apart p q FAR (pos 1) positive (omega (arith, ints)) b h
free air p q positive a b c d e f (inr (inr (inl h))) = apart p q (pos 75) (pos 5) positive (omega (arith, ints)) c h
free air p q positive a b c d e f (inr (inr (inr (inl h)))) = apart p q (pos 25) (pos 5) positive (omega (arith, ints)) d h
free air p q positive a b c d e f (inr (inr (inr (inr (inl h))))) = apart p q (pos 100) (pos 5) positive (omega (arith, ints)) e h
free air p q positive a b c d e f (inr (inr (inr (inr (inr (inl h)))))) = apart p q (pos 50) (pos 5) positive (omega (arith, ints)) f h
free air p q positive a b c d e f (inr (inr (inr (inr (inr (inr none)))))) = none

free_at_six : (air : ℕ) → ¬ (IsRayHitPlace (scene air) start (whole (pos 6)))
free_at_six air = free air (pos 6) (pos 1) (omega (arith, ints)) (inr (omega (arith, ints))) (inl (omega (arith, ints))) (inl (omega (arith, ints))) (inr (omega (arith, ints))) (inl (omega (arith, ints))) (inl (omega (arith, ints)))

free_between : (air : ℕ) (p q : ℤ) → pos 0 <ℤ q → (pos 10 *ℤ q) <ℤ p → p <ℤ (pos 15 *ℤ q) → ¬ (IsRayHitPlace (scene air) start (Frac p q))
free_between air p q positive lt lt' = free air p q positive (inr (omega (arith, ints, lt))) (inl (omega (arith, ints, lt'))) (inl (omega (arith, ints, lt'))) (inr (omega (arith, ints, lt))) (inl (omega (arith, ints, lt'))) (inr (omega (arith, ints, lt)))

free_at_seventeen : (air : ℕ) → ¬ (IsRayHitPlace (scene air) start (whole (pos 17)))
free_at_seventeen air = free air (pos 17) (pos 1) (omega (arith, ints)) (inr (omega (arith, ints))) (inl (omega (arith, ints))) (inr (omega (arith, ints))) (inr (omega (arith, ints))) (inl (omega (arith, ints))) (inr (omega (arith, ints)))

second_lies_at_seventeen : LiesAt (scene 0) start (pos 17) (pos 1) 1
second_lies_at_seventeen = record {
  region = second;
  there = refl;
  holds = of_slab 2 0 (pos 50) (pos 100) (pos 17) (pos 1) (omega (arith, ints)) (omega (arith, ints));
  wins = for_both 0 (λ s. WinsAgainst s second → ¬ (HoldsPoint s.body start (pos 17) (pos 1))) (λ w holds. let it = in_slab 1 0 (pos 25) (pos 75) (pos 17) (pos 1) holds in omega (arith, ints, it.1)) (λ w. behind_itself w);
}

not_told : HasRegionAt (record { region = 0; start = whole (pos 5); end = whole (pos 15) } ∷ []) 1 (whole (pos 17)) → ⊥
not_told (zero, s, lt, e, has) = subst (λ (t : Stretch). t.region ≡ 1 → ⊥) e (λ h. omega (arith, h)) has.0
not_told (suc k, s, lt, e, has) = absurd (omega (arith, lt))

-- so a list that leaves the second one out does not tell the points
of_the_first_alone : ¬ (TellsPoints (scene 0) start (record { region = 0; start = whole (pos 5); end = whole (pos 15) } ∷ []))
of_the_first_alone = λ tells. not_told ((tells (pos 17) (pos 1) 1 (on_ray 17 (omega arith)) (free_at_seventeen 0)).1 second_lies_at_seventeen)

-- nor does one that has it where the first one lies
abbrev second_too_early : List Stretch
second_too_early = record { region = 0; start = whole (pos 5); end = whole (pos 11) } ∷ record { region = 1; start = whole (pos 11); end = whole (pos 20) } ∷ []

has_second_at_twelve : HasRegionAt second_too_early 1 (whole (pos 12))
has_second_at_twelve = (1, record { region = 1; start = whole (pos 11); end = whole (pos 20) }, omega arith, refl, (refl, record { begun = not_wholes (pos 12) (pos 11) (omega (arith, ints)); not_ended = not_wholes (pos 20) (pos 12) (omega (arith, ints)) }))

of_the_second_too_early : ¬ (TellsPoints (scene 0) start second_too_early)
of_the_second_too_early = λ tells. not_the_second_at_twelve ((tells (pos 12) (pos 1) 1 (on_ray 12 (omega arith)) (free_between 0 (pos 12) (pos 1) (omega (arith, ints)) (omega (arith, ints)) (omega (arith, ints)))).0 has_second_at_twelve)

-- at 10 < x ≤ 15 both hold
both : (p q : ℤ) → pos 0 <ℤ q → (pos 50 *ℤ q) <ℤ (pos 5 *ℤ p) → (pos 5 *ℤ p) ≤ℤ (pos 75 *ℤ q) → BothHoldSolid (scene 0) start p q 0 1
both p q positive lt le = record {
  first = first 0;
  second = second;
  first_there = refl;
  second_there = refl;
  first_solid = refl;
  second_solid = refl;
  first_holds = of_slab 1 0 (pos 25) (pos 75) p q (omega (arith, ints, lt)) le;
  second_holds = of_slab 2 0 (pos 50) (pos 100) p q lt (omega (arith, ints, le));
}

abbrev overlap : ℤ → ℤ → OverlapRun
overlap from to = record { one = 0; two = 1; start = whole from; end = whole to }

they_overlap : IsTrueOverlap (scene 0) start (overlap (pos 10) (pos 15))
they_overlap = record {
  forward = wholes (pos 10) (pos 15) (omega (arith, ints));
  begun = not_wholes (pos 10) (pos 0) (omega (arith, ints));
  not_ended = not_wholes FAR (pos 15) (omega (arith, ints));
  between = λ p q on places after before. both p q on.positive (let it = after_whole (pos 10) p q on.positive after in omega (arith, ints, it)) (let it = before_whole (pos 15) p q on.positive before in omega (arith, ints, it));
  before = λ p q on places early both. let it = before_whole (pos 10) p q on.positive early in let it' = holds_second p q both.second both.second_there both.second_holds in omega (arith, ints, it, it'.0);
  ended = inr (record {
    limit = whole (pos 16);
    later = wholes (pos 15) (pos 16) (omega (arith, ints));
    apart = λ p q on places after before both. let it = after_whole (pos 15) p q on.positive after in let it' = holds_first 0 p q both.first both.first_there both.first_holds in omega (arith, ints, it, it'.1);
  });
}

-- they do not overlap up to 20, at 17 say
not_so_long : ¬ (IsTrueOverlap (scene 0) start (overlap (pos 10) (pos 20)))
not_so_long = λ it.
    let both = it.between (pos 17) (pos 1) (on_ray 17 (omega arith)) (free_at_seventeen 0) (wholes (pos 10) (pos 17) (omega (arith, ints))) (wholes (pos 17) (pos 20) (omega (arith, ints))) in
    let it' = holds_first 0 (pos 17) (pos 1) both.first both.first_there both.first_holds in
    omega (arith, ints, it'.1)

-- nor only from 12 on, as they do at 11
not_so_late : ¬ (IsTrueOverlap (scene 0) start (overlap (pos 12) (pos 15)))
not_so_late = λ it. it.before (pos 11) (pos 1) (on_ray 11 (omega arith)) (free_between 0 (pos 11) (pos 1) (omega (arith, ints)) (omega (arith, ints)) (omega (arith, ints))) (wholes (pos 11) (pos 12) (omega (arith, ints)))
    (both (pos 11) (pos 1) (omega (arith, ints)) (omega (arith, ints)) (omega (arith, ints)))

below_fifteen : (p q u v : ℤ) → pos 0 <ℤ q → pos 0 <ℤ v → u ≤ℤ (pos 15 *ℤ v) → Precedes (Frac p q) (Frac u v) → p <ℤ (pos 15 *ℤ q)
below_fifteen p q u v positive positive' le h = before_whole (pos 15) p q positive (elim (between (Frac p q) (whole (pos 15)) (Frac u v) h) [ inl h' ↦ h' | inr h' ↦ absurd (not_before_fraction (whole (pos 15)) u v (omega (arith, ints)) positive' (omega (arith, ints, le)) h') ])

-- nor only up to 12, as they do right behind it
still_both : NotBothBehind (scene 0) start 0 1 (whole (pos 12)) → ⊥
still_both nb =
    let u = nb.later.p in
    let v = nb.later.q in
    let positive = nb.later.positive in
    let later : Precedes (whole (pos 12)) (Frac u v) = before_fraction (whole (pos 12)) u v positive nb.later.beyond in
    by_lt_z (pos 15 *ℤ v) u
    (λ lt. nb.apart (pos 13) (pos 1) (on_ray 13 (omega arith)) (free_between 0 (pos 13) (pos 1) (omega (arith, ints)) (omega (arith, ints)) (omega (arith, ints))) (wholes (pos 12) (pos 13) (omega (arith, ints)))
    (record { p = u; q = v; positive = positive; within = nb.later.within; beyond = λ le. omega (arith, ints, le, lt, positive) })
    (both (pos 13) (pos 1) (omega (arith, ints)) (omega (arith, ints)) (omega (arith, ints))))
    (λ le. let f = between_places (whole (pos 12)) (Frac u v) (omega (arith, ints)) later in
    let low = after_whole (pos 12) f.p f.q f.positive f.after in
    let high = below_fifteen f.p f.q u v f.positive positive le f.before in
    nb.apart f.p f.q (record { positive = f.positive; begun = omega (arith, ints, low, f.positive); not_ended = omega (arith, ints, high, f.positive) }) (free_between 0 f.p f.q f.positive (omega (arith, ints, low, f.positive)) high) f.after
    (record { p = u; q = v; positive = positive; within = nb.later.within; beyond = λ at. not_before_fraction (Frac f.p f.q) u v f.positive positive at f.before })
    (both f.p f.q f.positive (omega (arith, ints, low, f.positive)) (omega (arith, ints, high))))

not_so_short : ¬ (IsTrueOverlap (scene 0) start (overlap (pos 10) (pos 12)))
not_so_short = λ it. elim it.ended [ inl h ↦ h (wholes (pos 12) FAR (omega (arith, ints))) | inr nb ↦ still_both nb ]

-- a part of the ray in which a region is seen, whatever is hit
abbrev seen : ℕ → ℤ → ℤ → Lit
seen n from to = record { region = n; start = whole from; end = whole to; hit = record { instance = 1; face = 1 }; level = 255 }

none_before_five : (p q : ℤ) → pos 0 <ℤ q → p <ℤ (pos 5 *ℤ q) → (n : ℕ) (r : Region) → slice_get (scene 0) n ≡ Some r → HoldsPoint r.body start p q → ⊥
none_before_five p q positive early zero r e holds = let it = holds_first 0 p q r e holds in omega (arith, ints, it.0, early)
none_before_five p q positive early (suc zero) r e holds = let it = holds_second p q r e holds in omega (arith, ints, it.0, early, positive)
none_before_five p q positive early (suc (suc n)) r e holds = let no : None ≡ Some r = e in absurd cc

first_is_seen : IsSeenFirst (scene 0) start (Some (seen 0 (pos 5) (pos 15)))
first_is_seen = record {
  region = first 0;
  there = refl;
  solid = refl;
  forward = wholes (pos 5) (pos 15) (omega (arith, ints));
  begun = not_wholes (pos 5) (pos 0) (omega (arith, ints));
  not_ended = not_wholes FAR (pos 15) (omega (arith, ints));
  before = λ p q on places early some. none_before_five p q on.positive (before_whole (pos 5) p q on.positive early) some.number some.region some.there some.holds;
  behind = λ p q on places after before. first_lies p q (let it = after_whole (pos 5) p q on.positive after in omega (arith, ints, it)) (let it = before_whole (pos 15) p q on.positive before in omega (arith, ints, it));
}

-- the first one holds at 6 already
not_seen_so_late : ¬ (IsSeenFirst (scene 0) start (Some (seen 0 (pos 7) (pos 15))))
not_seen_so_late = λ it. it.before (pos 6) (pos 1) (on_ray 6 (omega arith)) (free_at_six 0) (wholes (pos 6) (pos 7) (omega (arith, ints)))
    (record { number = 0; region = first 0; there = refl; solid = refl; holds = of_slab 1 0 (pos 25) (pos 75) (pos 6) (pos 1) (omega (arith, ints)) (omega (arith, ints)) })

second_not_seen : ¬ (IsSeenFirst (scene 0) start (Some (seen 1 (pos 5) (pos 15))))
second_not_seen = λ it. not_the_second_at_twelve (it.behind (pos 12) (pos 1) (on_ray 12 (omega arith)) (free_between 0 (pos 12) (pos 1) (omega (arith, ints)) (omega (arith, ints)) (omega (arith, ints)))
    (wholes (pos 5) (pos 12) (omega (arith, ints))) (wholes (pos 12) (pos 15) (omega (arith, ints))))

something_is_seen : ¬ (IsSeenFirst (scene 0) start None)
something_is_seen = λ none. none (pos 12) (pos 1) (on_ray 12 (omega arith)) (free_between 0 (pos 12) (pos 1) (omega (arith, ints)) (omega (arith, ints)) (omega (arith, ints)))
    (record { number = 1; region = second; there = refl; solid = refl; holds = of_slab 2 0 (pos 50) (pos 100) (pos 12) (pos 1) (omega (arith, ints)) (omega (arith, ints)) })

-- one of air is not seen: the second one is, from where it begins
no_solid_before_ten : (p q : ℤ) → pos 0 <ℤ q → p <ℤ (pos 10 *ℤ q) → (n : ℕ) (r : Region) → slice_get (scene 1) n ≡ Some r → has_air r.body ≡ false → HoldsPoint r.body start p q → ⊥
no_solid_before_ten p q positive early zero r e solid holds = is_same (λ r. has_air r.body ≡ false → ⊥) (first 1) r e (λ h. let no : true ≡ false = h in absurd cc) solid
no_solid_before_ten p q positive early (suc zero) r e solid holds = let it = holds_second p q r e holds in omega (arith, ints, it.0, early, positive)
no_solid_before_ten p q positive early (suc (suc n)) r e solid holds = let no : None ≡ Some r = e in absurd cc

second_is_seen_through_air : IsSeenFirst (scene 1) start (Some (seen 1 (pos 10) (pos 20)))
second_is_seen_through_air = record {
  region = second;
  there = refl;
  solid = refl;
  forward = wholes (pos 10) (pos 20) (omega (arith, ints));
  begun = not_wholes (pos 10) (pos 0) (omega (arith, ints));
  not_ended = not_wholes FAR (pos 20) (omega (arith, ints));
  before = λ p q on places early some. no_solid_before_ten p q on.positive (before_whole (pos 10) p q on.positive early) some.number some.region some.there some.solid some.holds;
  behind = λ p q on places after before. second_lies p q (let it = after_whole (pos 10) p q on.positive after in omega (arith, ints, it)) (let it = before_whole (pos 20) p q on.positive before in omega (arith, ints, it));
}
