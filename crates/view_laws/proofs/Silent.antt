-- A region that holds nowhere on a ray claims nothing on it.
use Rattle.std.proofs.Common.{◌≡◌, ◌<◌, ◌⊎◌, ◌+◌, ℕ, zero, suc, ℤ, List, [], ◌∷◌, ◌++◌, length, slice_get, map, flat_map, find, Bool, true, false, cond, Option, Some, None, IfSome, AllPairs, ap, sym, subst, ◌∙◌, refl, inl, inr, arith}
use Rattle.std.specs.List.{list_any}
use Rattle.std.specs.Option.{option_map}
use Rattle.std.proofs.lemmas.Bool.{true≢false}
use Rattle.std.proofs.lemmas.List.{length-append}
use Rattle.std.proofs.lemmas.List.Elements.{All-nil, All-cons, All-weaker}
use Rattle.lattice_core.specs.declared.ray.Ray.{Ray}
use Rattle.surd_order.specs.declared.position.Pos.{Pos}
use Rattle.surd_order.specs.declared.position.Pos.TheVariants.{Frac}
use Rattle.tree_forms.specs.declared.Op.TheVariants.{U, N, Minus, X}
use Rattle.tree_forms.specs.Trees.{Leaf, Join, leaves}
use Rattle.solid_set.specs.HitPlaces.{surface_places, IsAtOneOf}
use Rattle.bool_weave.specs.Behind.{covers_behind}
use Rattle.bool_weave.specs.Masks.{Mask}
use Rattle.bool_weave.proofs.Behind.{mask_within}
use Rattle.bool_weave.proofs.Claimed.{all_left, all_right}
use Rattle.bool_weave.proofs.Sorted.{Has, has_append_left, has_append_right}
use Rattle.shot_core.specs.declared.shot.Lit.{Lit}
use Rattle.shot_core.specs.FirstShots.{is_solid}
use Rattle.shot_core.specs.Points.{TreeHolds, IsInInstance, HoldsPoint, IsRayHitPlace, Stretch, stretch_of, HasPosition, TellsPoints, AreStretches, IsStretch}
use Rattle.shot_core.specs.Pruned.{seen_region_of, seen_region}
use Rattle.shot_core.specs.Regions.{Instance, Region, HaveInstances, HasLeavesBelow, instances_of}
use Rattle.shot_core.specs.Shots.{lit_of}
use Rattle.shot_core.proofs.FirstShots.{none_right}
use Rattle.shot_core.proofs.KeptSeen.{IsFirstOn, decided, some_hit, seen_is}
use Rattle.shot_core.proofs.Numbering.{get_left}
use Rattle.shot_core.proofs.OwnClaims.{leaf_on, behind_on, solid_on, IsSilent}
use Rattle.shot_core.proofs.Pointing.{at_left, at_right, any_to}
use Rattle.shot_core.proofs.PointTruth.{true_of_points}
use Rattle.view_laws.specs.Pruning.{HoldsNowhere}

-- the places of instances
at_cases : (xs ys : List Pos) (x : Pos) → IsAtOneOf (xs ++ ys) x → IsAtOneOf xs x ⊎ IsAtOneOf ys x
at_cases [] ys x h = inr h
at_cases (z ∷ xs) ys x (inl h) = inl (inl h)
at_cases (z ∷ xs) ys x (inr h) = elim (at_cases xs ys x h) [ inl a ↦ inl (inr a) | inr b ↦ inr b ]

pub record IsAtSome (ray : Ray) (is : List Instance) (x : Pos) : Type 0 where
  pub one : Instance
  pub there : Has is one
  pub at : IsAtOneOf (surface_places one.surface ray) x

pub at_some : (ray : Ray) (is : List Instance) (x : Pos) → IsAtOneOf (flat_map (λ (i : Instance). surface_places i.surface ray) is) x → IsAtSome ray is x
at_some ray [] x h = elim h [ ]
at_some ray (i ∷ is) x h = elim (at_cases (surface_places i.surface ray) (flat_map (λ (i : Instance). surface_places i.surface ray) is) x h) [
  | inl own ↦ record { one = i; there = inl refl; at = own }
  | inr other ↦ let s = at_some ray is x other in record { one = s.one; there = inr s.there; at = s.at }
]

pub some_at : (ray : Ray) (is : List Instance) (x : Pos) (i : Instance) → Has is i → IsAtOneOf (surface_places i.surface ray) x → IsAtOneOf (flat_map (λ (i : Instance). surface_places i.surface ray) is) x
some_at ray [] x i there h = elim there [ ]
some_at ray (j ∷ is) x i (inl e) h =
    at_left (surface_places j.surface ray) (flat_map (λ (i : Instance). surface_places i.surface ray) is) x (subst (λ (k : Instance). IsAtOneOf (surface_places k.surface ray) x) (sym e) h)
some_at ray (j ∷ is) x i (inr there) h = at_right (surface_places j.surface ray) (flat_map (λ (i : Instance). surface_places i.surface ray) is) x (some_at ray is x i there h)

-- trees hold alike where their leaves say alike
abbrev AreAlike : ℕ → (ℕ → Type 0) → (ℕ → Type 0) → Type 0
AreAlike count f g = (i : ℕ) → i < count → (f i → g i) × (g i → f i)

holds_alike : (t : Mask) (f g : ℕ → Type 0) (count : ℕ) → HasLeavesBelow count t → AreAlike count f g → (TreeHolds t f → TreeHolds t g) × (TreeHolds t g → TreeHolds t f)
holds_alike (Leaf None) f g count below alike = (λ h. h, λ h. h)
holds_alike (Leaf (Some i)) f g count below alike = alike i (below zero (Some i) (omega arith))
holds_alike (Join U l r) f g count below alike =
    let a = holds_alike l f g count (all_left (λ leaf. IfSome leaf (λ i. i < count)) (leaves l) (leaves r) below) alike in
    let b = holds_alike r f g count (all_right (λ leaf. IfSome leaf (λ i. i < count)) (leaves l) (leaves r) below) alike in
    (λ h. elim h [ inl x ↦ inl (a.0 x) | inr y ↦ inr (b.0 y) ], λ h. elim h [ inl x ↦ inl (a.1 x) | inr y ↦ inr (b.1 y) ])
holds_alike (Join N l r) f g count below alike =
    let a = holds_alike l f g count (all_left (λ leaf. IfSome leaf (λ i. i < count)) (leaves l) (leaves r) below) alike in
    let b = holds_alike r f g count (all_right (λ leaf. IfSome leaf (λ i. i < count)) (leaves l) (leaves r) below) alike in
    (λ h. (a.0 h.0, b.0 h.1), λ h. (a.1 h.0, b.1 h.1))
holds_alike (Join Minus l r) f g count below alike =
    let a = holds_alike l f g count (all_left (λ leaf. IfSome leaf (λ i. i < count)) (leaves l) (leaves r) below) alike in
    let b = holds_alike r f g count (all_right (λ leaf. IfSome leaf (λ i. i < count)) (leaves l) (leaves r) below) alike in
    (λ h. (a.0 h.0, λ y. h.1 (b.1 y)), λ h. (a.1 h.0, λ y. h.1 (b.0 y)))
holds_alike (Join X l r) f g count below alike =
    let a = holds_alike l f g count (all_left (λ leaf. IfSome leaf (λ i. i < count)) (leaves l) (leaves r) below) alike in
    let b = holds_alike r f g count (all_right (λ leaf. IfSome leaf (λ i. i < count)) (leaves l) (leaves r) below) alike in (
      λ h. elim h [ inl x ↦ inl (a.0 x.0, λ y. x.1 (b.1 y)) | inr x ↦ inr (λ y. x.0 (a.1 y), b.0 x.1) ],
      λ h. elim h [ inl x ↦ inl (a.1 x.0, λ y. x.1 (b.0 y)) | inr x ↦ inr (λ y. x.0 (a.0 y), b.1 x.1) ],
    )

one_more : (o : Option ℕ) (count more : ℕ) → IfSome o (λ i. i < count) → IfSome o (λ i. i < count + more)
one_more None count more h = h
one_more (Some i) count more h = omega (arith, h)

below_more : (t : Mask) (count more : ℕ) → HasLeavesBelow count t → HasLeavesBelow (count + more) t
below_more t count more below = All-weaker (λ o. IfSome o (λ i. i < count)) (λ o. IfSome o (λ i. i < count + more)) (λ o h. one_more o count more h) (leaves t) below

empty_of : {A Y : Type 0} (f : A → Y) (xs : List A) → [] ≡ map f xs → xs ≡ []
empty_of f [] e = refl
empty_of f (x ∷ xs) e = absurd cc

some_or_none : {Y : Type 0} (make : Region → Y) (b : Bool) (r : Region) → b ≡ true → None ≡ option_map make (cond b (Some r) None) → ⊥
some_or_none make true r is e = cc
some_or_none make false r is e = true≢false (sym is)

module _ (regions : List Region) (ray : Ray) (r : Region) (below : HasLeavesBelow (length r.body.instances) r.body.tree) (nowhere : HoldsNowhere regions ray r) where
  -- the region alone, without air, beside the instances of all regions, which its tree does not name
  abbrev wide : Region
  wide = record { place = 0; path = []; body = record r.body { air = 0; instances = r.body.instances ++ instances_of regions } }

  abbrev alone : List Region
  alone = wide ∷ []

  alone_below : HaveInstances alone
  alone_below =
      All-cons (λ (s : Region). HasLeavesBelow (length s.body.instances) s.body.tree) wide []
      (subst (λ n. HasLeavesBelow n r.body.tree) (sym (length-append r.body.instances (instances_of regions))) (below_more r.body.tree (length r.body.instances) (length (instances_of regions)) below))
      (All-nil (λ (s : Region). HasLeavesBelow (length s.body.instances) s.body.tree))

  alone_rises : AllPairs (λ (s t : Region). s.place < t.place) alone
  alone_rises = λ i j d lt within. absurd (omega (arith, lt, within))

  hit_still : (x : Pos) → IsRayHitPlace regions ray x → IsRayHitPlace alone ray x
  hit_still x (inl h) = inl h
  hit_still x (inr (inl h)) = inr (inl h)
  hit_still x (inr (inr h)) =
      let s = at_some ray (instances_of regions) x h in
      inr (inr (some_at ray (instances_of alone) x s.one (has_append_left (r.body.instances ++ instances_of regions) [] s.one (has_append_right r.body.instances (instances_of regions) s.one s.there)) s.at))

  same_leaf : (i : ℕ) → i < length r.body.instances → slice_get wide.body.instances i ≡ slice_get r.body.instances i
  same_leaf i lt = get_left r.body.instances (instances_of regions) i lt

  held : (p q : ℤ) → HoldsPoint wide.body ray p q → HoldsPoint r.body ray p q
  held p q h =
      (holds_alike r.body.tree (λ i. IsInInstance (slice_get wide.body.instances i) ray p q) (λ i. IsInInstance (slice_get r.body.instances i) ray p q) (length r.body.instances) below
      (λ i lt. (λ h. subst (λ o. IsInInstance o ray p q) (same_leaf i lt) h, λ h. subst (λ o. IsInInstance o ray p q) (sym (same_leaf i lt)) h))).0 h

  only : (n : ℕ) (s : Region) → slice_get alone n ≡ Some s → wide ≡ s
  only zero s e = cc
  only (suc n) s e = absurd cc

  tells : TellsPoints alone ray []
  tells p q n on free = (
    λ any. let s = any_to (λ (s : Stretch). (s.region ≡ n) × HasPosition s (Frac p q)) [] any in absurd s.1,
    λ lies. absurd (nowhere p q on (λ hit. free (hit_still (Frac p q) hit)) (held p q (subst (λ (s : Region). HoldsPoint s.body ray p q) (sym (only n lies.region lies.there)) lies.holds))),
  )

  ordered : AreStretches 1 []
  ordered = record { numbers = All-nil (λ (s : Stretch). s.region < 1); each = All-nil IsStretch; apart = λ i j d lt within. absurd (omega (arith, within)) }

  no_parts : lit_of alone ray ≡ []
  no_parts = empty_of stretch_of (lit_of alone ray) ((true_of_points alone ray alone_rises alone_below).alone [] ordered tells)

  nothing_first : (x : Pos) → IsFirstOn ray alone x → ⊥
  nothing_first x first =
      let hit = some_hit alone ray alone_below x first in
      let seen = seen_is alone ray alone_below x first hit.0 hit.1 in
      let none : seen_region alone ray ≡ None = ap (λ l. option_map (seen_region_of alone) (find (λ (k : Lit). is_solid (slice_get alone k.region)) l)) no_parts in
      let solid : solid_on ray x wide ≡ true = sym (none_right (solid_on ray x wide)) ∙ first.solid in
      some_or_none _ (solid_on ray x wide) wide solid (sym none ∙ seen)

  silent_alone : (x : Pos) → list_any (solid_on ray x) alone ≡ false
  silent_alone = elim (decided alone ray alone_below) [ inl f ↦ absurd (nothing_first f.0 f.1) | inr none ↦ none ]

  -- it claims nothing
  pub silent : IsSilent ray r
  silent x =
      sym (mask_within r.body.tree (λ i. leaf_on (covers_behind x) ray (slice_get wide.body.instances i)) (λ i. leaf_on (covers_behind x) ray (slice_get r.body.instances i)) (length r.body.instances) below
      (λ i lt. ap (leaf_on (covers_behind x) ray) (same_leaf i lt)))
      ∙ sym (none_right (behind_on ray x wide.body)) ∙ silent_alone x
