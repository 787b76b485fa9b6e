-- A region that a ray does not hit claims nothing, and what the regions that it hits claim stands among what all of them claim.
use Rattle.std.proofs.Common.{◌≡◌, ◌≢◌, ◌<◌, ◌≤◌, ◌+◌, ℕ, zero, suc, List, [], ◌∷◌, ◌++◌, length, map, get_or, slice_get, Bool, true, false, ◌||◌, ◌&&◌, not, Option, Some, None, IfSome, ap, sym, subst, ◌∙◌, refl, inl, inr, arith}
use Rattle.std.specs.List.{list_any}
use Rattle.std.proofs.lemmas.Bool.{ne_eqb}
use Rattle.std.proofs.lemmas.List.{length-append}
use Rattle.std.proofs.lemmas.Option.{slice_get_within}
use Rattle.lattice_core.specs.declared.ray.Ray.{Ray}
use Rattle.surd_order.specs.declared.position.Seg.{Seg}
use Rattle.solid_set.specs.Segments.{segment_of}
use Rattle.tree_forms.specs.declared.Op.TheVariants.{U, N, Minus, X}
use Rattle.tree_forms.specs.Trees.{Leaf, Join, leaves}
use Rattle.bool_weave.specs.declared.woven.Woven.{Woven}
use Rattle.bool_weave.specs.Masks.{Mask, leaf_value, mask_holds}
use Rattle.bool_weave.specs.Claims.{Interval, intervals_of, covers, spans, claims_interval}
use Rattle.bool_weave.proofs.Sorted.{Has, has_append_left, has_append_right, contains_from_has}
use Rattle.overlap_list.specs.declared.region.RegionClaims.{RegionClaims}
use Rattle.shot_core.specs.Regions.{Instance, Region, HasLeavesBelow, HaveInstances, instances_of, firsts_from, size_of_all}
use Rattle.shot_core.specs.Shots.{woven_if, woven_from, woven_of, body_claims, claims_from, claims_on}
use Rattle.shot_core.specs.Steps.{is_some, has_segment, has_some, is_hit, marked_from, no_region, numbered_claims}
use Rattle.shot_core.proofs.Numbering.{get_left, get_right}
use Rattle.shot_core.proofs.Weaving.{or_false}
use Rattle.shot_core.proofs.Picking.{kept, LeavesOut, ClaimsNothing, map_same_on, map_twice}

-- a tree is false where each of its leaves is
nothing : (t : Mask) (values : ℕ → Bool) → ((leaf : Option ℕ) → Has (leaves t) leaf → leaf_value values leaf ≡ false) → mask_holds t values ≡ false
nothing (Leaf a) values h = h a (inl refl)
nothing (Join U l r) values h =
    ap (λ b. b || mask_holds r values) (nothing l values (λ leaf there. h leaf (has_append_left (leaves l) (leaves r) leaf there)))
    ∙ nothing r values (λ leaf there. h leaf (has_append_right (leaves l) (leaves r) leaf there))
nothing (Join N l r) values h = ap (λ b. b && mask_holds r values) (nothing l values (λ leaf there. h leaf (has_append_left (leaves l) (leaves r) leaf there)))
nothing (Join Minus l r) values h = ap (λ b. b && not (mask_holds r values)) (nothing l values (λ leaf there. h leaf (has_append_left (leaves l) (leaves r) leaf there)))
nothing (Join X l r) values h =
    ap (λ b. (b && not (mask_holds r values)) || (not b && mask_holds r values)) (nothing l values (λ leaf there. h leaf (has_append_left (leaves l) (leaves r) leaf there)))
    ∙ nothing r values (λ leaf there. h leaf (has_append_right (leaves l) (leaves r) leaf there))

-- an instance without a segment spans nothing
other_number : (n m : ℕ) (o : Option Seg) (ws : List Woven) (interval : Interval) → n ≢ m → spans (woven_if n o ++ ws) interval m ≡ spans ws interval m
other_number n m None ws interval ne = refl
other_number n m (Some seg) ws interval ne = ap (λ b. (b && covers seg interval) || spans ws interval m) (ne_eqb n m ne)

spans_below : (ray : Ray) (n m : ℕ) (xs : List Instance) (interval : Interval) → m < n → spans (woven_from ray n xs) interval m ≡ false
spans_below ray n m [] interval lt = refl
spans_below ray n m (x ∷ xs) interval lt =
    other_number n m (segment_of x.surface ray) (woven_from ray (n + 1) xs) interval (λ e. omega (arith, lt, e))
    ∙ spans_below ray (n + 1) m xs interval (omega (arith, lt))

none_of : (o : Option Seg) → is_some o ≡ false → o ≡ None
none_of None h = refl
none_of (Some seg) h = absurd (let e : true ≡ false = h in cc)

spans_at : (ray : Ray) (n i : ℕ) (xs : List Instance) (x : Instance) (interval : Interval) → slice_get xs i ≡ Some x → has_segment ray x ≡ false → spans (woven_from ray n xs) interval (n + i) ≡ false
spans_at ray n i [] x interval at none = absurd (let e : None ≡ Some x = at in cc)
spans_at ray n zero (y ∷ ys) x interval at none =
    let same : y ≡ x = cc in
    let bare : segment_of y.surface ray ≡ None = none_of (segment_of y.surface ray) (ap (has_segment ray) same ∙ none) in
    let e : n + zero ≡ n = omega arith in
    ap (λ m. spans (woven_from ray n (y ∷ ys)) interval m) e
    ∙ ap (λ o. spans (woven_if n o ++ woven_from ray (n + 1) ys) interval n) bare
    ∙ spans_below ray (n + 1) n ys interval (omega arith)
spans_at ray n (suc i) (y ∷ ys) x interval at none =
    let e : n + suc i ≡ n + 1 + i = omega arith in
    other_number n (n + suc i) (segment_of y.surface ray) (woven_from ray (n + 1) ys) interval (λ same. omega (arith, same))
    ∙ ap (λ m. spans (woven_from ray (n + 1) ys) interval m) e
    ∙ spans_at ray (n + 1) i ys x interval at none

none_any : (p : Instance → Bool) (xs : List Instance) (i : ℕ) → list_any p xs ≡ false → i < length xs → (x : Instance) × (slice_get xs i ≡ Some x) × (p x ≡ false)
none_any p [] i h lt = absurd (omega (arith, lt))
none_any p (x ∷ xs) zero h lt = (x, refl, (or_false (p x) (list_any p xs) h).0)
none_any p (x ∷ xs) (suc i) h lt = none_any p xs i (or_false (p x) (list_any p xs) h).1 (omega (arith, lt))

-- the instances that fail a test, numbered from `first` on, span nothing
abbrev pub SpansNothing : (Instance → Bool) → List Woven → ℕ → List Instance → Type 0
SpansNothing has woven first xs = (i : ℕ) (x : Instance) (interval : Interval) → slice_get xs i ≡ Some x → has x ≡ false → spans woven interval (first + i) ≡ false

mapped_false : (f : Interval → Bool) (xs : List Interval) (k : ℕ) → ((x : Interval) → f x ≡ false) → get_or (map f xs) k false ≡ false
mapped_false f [] k h = refl
mapped_false f (x ∷ xs) zero h = h x
mapped_false f (x ∷ xs) (suc k) h = mapped_false f xs k h

leaf_nothing : (has : Instance → Bool) (woven : List Woven) (first : ℕ) (xs : List Instance) (interval : Interval) (leaf : Option ℕ) → SpansNothing has woven first xs → list_any has xs ≡ false
    → IfSome leaf (λ i. i < length xs) → leaf_value (λ i. spans woven interval (first + i)) leaf ≡ false
leaf_nothing has woven first xs interval None spanned bare below = refl
leaf_nothing has woven first xs interval (Some i) spanned bare below =
    let one = none_any has xs i bare below in
    spanned i one.0 interval one.1 one.2

body_nothing : (has : Instance → Bool) (woven : List Woven) (first : ℕ) (r : Region) → SpansNothing has woven first r.body.instances → HasLeavesBelow (length r.body.instances) r.body.tree → has_some has r ≡ false
    → ClaimsNothing (body_claims woven first r.body)
body_nothing has woven first r spanned below bare = λ k.
    mapped_false (claims_interval woven r.body.tree first) (intervals_of woven) k (λ interval.
    nothing r.body.tree (λ i. spans woven interval (first + i)) (λ leaf there.
    let c = contains_from_has (leaves r.body.tree) leaf there in
    leaf_nothing has woven first r.body.instances interval leaf spanned bare (subst (λ (o : Option ℕ). IfSome o (λ i. i < length r.body.instances)) c.2 (below c.0 leaf c.1))))

leaves_one : (b : Bool) (ms : List Bool) (x : RegionClaims) (xs : List RegionClaims) → (b ≡ false → ClaimsNothing x) → LeavesOut ClaimsNothing ms xs → LeavesOut ClaimsNothing (b ∷ ms) (x ∷ xs)
leaves_one true ms x xs f h = h
leaves_one false ms x xs f h = (f refl, h)

in_head : (xs ys : List Instance) (i : ℕ) (x : Instance) → slice_get xs i ≡ Some x → slice_get (xs ++ ys) i ≡ Some x
in_head xs ys i x at = get_left xs ys i (slice_get_within xs i x at) ∙ at

-- so the regions of which no instance passes claim nothing
pub out_from : (has : Instance → Bool) (woven : List Woven) (first : ℕ) (rs : List Region) → SpansNothing has woven first (instances_of rs) → HaveInstances rs → LeavesOut ClaimsNothing (map (has_some has) rs) (claims_from woven first rs)
out_from has woven first [] spanned leaves = tt
out_from has woven first (r ∷ rs) spanned leaves =
    let head : SpansNothing has woven first r.body.instances = λ i x interval at none. spanned i x interval (in_head r.body.instances (instances_of rs) i x at) none in
    let tail : SpansNothing has woven (first + length r.body.instances) (instances_of rs) = λ i x interval at none.
    let e : first + length r.body.instances + i ≡ first + (length r.body.instances + i) = omega arith in
    ap (λ m. spans woven interval m) e ∙ spanned (length r.body.instances + i) x interval (get_right r.body.instances (instances_of rs) i ∙ at) none in
    leaves_one (has_some has r) (map (has_some has) rs) (body_claims woven first r.body) (claims_from woven (first + length r.body.instances) rs)
    (λ bare. body_nothing has woven first r head (leaves 0 r (omega arith)) bare)
    (out_from has woven (first + length r.body.instances) rs tail (λ k d lt. leaves (suc k) d (omega (arith, lt))))

-- the regions that are not hit claim nothing
pub claims_left_out : (rs : List Region) (ray : Ray) → HaveInstances rs → LeavesOut ClaimsNothing (map (is_hit ray) rs) (claims_on rs ray)
claims_left_out rs ray leaves =
    out_from (has_segment ray) (woven_of rs ray) 0 rs (λ i x interval at none. spans_at ray 0 i (instances_of rs) x interval at none) leaves

-- picked values by their numbers
marked_more : (n : ℕ) (ms : List Bool) → marked_from (n + 1) ms ≡ map (λ k. suc k) (marked_from n ms)
marked_more n [] = refl
marked_more n (true ∷ ms) = let e : n + 1 ≡ suc n = omega arith in ap (λ k. k ∷ marked_from (n + 1 + 1) ms) e ∙ ap (λ l. suc n ∷ l) (marked_more (n + 1) ms)
marked_more n (false ∷ ms) = marked_more (n + 1) ms

kept_at : {A : Type 0} (ms : List Bool) (xs : List A) (d : A) → length ms ≡ length xs → kept ms xs ≡ map (λ n. get_or xs n d) (marked_from 0 ms)
kept_at [] xs d e = refl
kept_at (m ∷ ms) [] d e = absurd (omega (arith, e))
kept_at {A = A} (true ∷ ms) (x ∷ xs) d e =
    ap (λ l. x ∷ l) (kept_at ms xs d (omega (arith, e)) ∙ sym (map_twice (λ n. get_or (x ∷ xs) n d) (λ k. suc k) (marked_from 0 ms)) ∙ ap (map (λ n. get_or (x ∷ xs) n d)) (sym (marked_more 0 ms)))
kept_at {A = A} (false ∷ ms) (x ∷ xs) d e =
    kept_at ms xs d (omega (arith, e)) ∙ sym (map_twice (λ n. get_or (x ∷ xs) n d) (λ k. suc k) (marked_from 0 ms)) ∙ ap (map (λ n. get_or (x ∷ xs) n d)) (sym (marked_more 0 ms))

pub marked_below : (ms : List Bool) (n k : ℕ) → Has (marked_from n ms) k → k < n + length ms
marked_below [] n k h = absurd h
marked_below (true ∷ ms) n k (inl e) = omega (arith, e)
marked_below (true ∷ ms) n k (inr h) = omega (arith, marked_below ms (n + 1) k h)
marked_below (false ∷ ms) n k h = omega (arith, marked_below ms (n + 1) k h)

pub marked_short : (ms : List Bool) (n : ℕ) → length (marked_from n ms) ≤ length ms
marked_short [] n = omega arith
marked_short (true ∷ ms) n = omega (arith, marked_short ms (n + 1))
marked_short (false ∷ ms) n = omega (arith, marked_short ms (n + 1))

pub claims_length : (woven : List Woven) (first : ℕ) (rs : List Region) → length (claims_from woven first rs) ≡ length rs
claims_length woven first [] = refl
claims_length woven first (r ∷ rs) = ap (λ k. suc k) (claims_length woven (first + length r.body.instances) rs)

pub claims_number : (woven : List Woven) (first : ℕ) (rs : List Region) (n : ℕ) (d : RegionClaims) → n < length rs
    → get_or (claims_from woven first rs) n d ≡ body_claims woven (get_or (firsts_from first rs) n 0) (get_or rs n no_region).body
claims_number woven first [] n d lt = absurd (omega (arith, lt))
claims_number woven first (r ∷ rs) zero d lt = refl
claims_number woven first (r ∷ rs) (suc n) d lt = claims_number woven (first + length r.body.instances) rs n d (omega (arith, lt))

pub no_claims : RegionClaims
no_claims = record { air = false; first = 0; count = 0; claims = [] }

-- what the regions of these numbers claim is what is left of all
pub numbered_kept : (woven : List Woven) (rs : List Region) (ms : List Bool) → length ms ≡ length rs → map (numbered_claims woven rs) (marked_from 0 ms) ≡ kept ms (claims_from woven 0 rs)
numbered_kept woven rs ms e =
    map_same_on (numbered_claims woven rs) (λ n. get_or (claims_from woven 0 rs) n no_claims) (marked_from 0 ms)
    (λ n there. sym (claims_number woven 0 rs n no_claims (omega (arith, marked_below ms 0 n there, e))))
    ∙ sym (kept_at ms (claims_from woven 0 rs) no_claims (e ∙ sym (claims_length woven 0 rs)))

-- there are no more regions than leaves
some_leaf : (t : Mask) → 1 ≤ length (leaves t)
some_leaf (Leaf a) = omega arith
some_leaf (Join op l r) = omega (arith, some_leaf l, length-append (leaves l) (leaves r))

pub regions_within : (rs : List Region) → length rs ≤ size_of_all rs
regions_within [] = omega arith
regions_within (r ∷ rs) = omega (arith, some_leaf r.body.tree, regions_within rs)
