-- The numbers of regions' first instances, and the instance of a number.
use Rattle.std.proofs.Common.{◌≡◌, ◌<◌, ◌≤◌, ◌+◌, ◌-◌, ℕ, zero, suc, List, [], ◌∷◌, ◌++◌, length, map, get_or, slice_get, Option, Some, None, Bor, true, false, nat_le, ap, sym, ◌∙◌, refl, arith}
use Rattle.std.specs.List.{HoldsAt}
use Rattle.std.specs.Option.{MatchOption, option_map, option_copied}
use Rattle.std.proofs.lemmas.Bool.{leb-true, leb-false}
use Rattle.std.proofs.lemmas.List.{length-append, length-map, append-nil}
use Rattle.std.proofs.lemmas.Option.{slice_get_past, slice_get-map, slice_get-get_or}
use Rattle.solid_set.specs.declared.placed.Placed.{Placed}
use Rattle.shot_core.specs.Prepared.{instance_of}
use Rattle.shot_core.specs.Regions.{Region, instances_of, firsts_from}
use Rattle.shot_core.specs.Steps.{NeverFalls, no_region}

pub get_left : {X : Type 0} (xs ys : List X) (i : ℕ) → i < length xs → slice_get (xs ++ ys) i ≡ slice_get xs i
get_left [] ys i lt = absurd (omega (arith, lt))
get_left (x ∷ xs) ys zero lt = refl
get_left (x ∷ xs) ys (suc i) lt = get_left xs ys i (omega (arith, lt))

pub get_right : {X : Type 0} (xs ys : List X) (i : ℕ) → slice_get (xs ++ ys) (length xs + i) ≡ slice_get ys i
get_right [] ys i = let e : 0 + i ≡ i = omega arith in ap (slice_get ys) e
get_right (x ∷ xs) ys i =
    let e : length (x ∷ xs) + i ≡ suc (length xs + i) = omega arith in
    ap (slice_get (x ∷ (xs ++ ys))) e ∙ get_right xs ys i

pub firsts_length : (n : ℕ) (rs : List Region) → length (firsts_from n rs) ≡ length rs
firsts_length n [] = refl
firsts_length n (r ∷ rs) = ap (λ k. suc k) (firsts_length (n + length r.body.instances) rs)

pub firsts_least : (n : ℕ) (rs : List Region) (i d : ℕ) → i < length rs → n ≤ get_or (firsts_from n rs) i d
firsts_least n [] i d lt = absurd (omega (arith, lt))
firsts_least n (r ∷ rs) zero d lt = omega arith
firsts_least n (r ∷ rs) (suc i) d lt = omega (arith, firsts_least (n + length r.body.instances) rs i d (omega (arith, lt)))

rise : (n : ℕ) (rs : List Region) (i j d : ℕ) → i ≤ j → j < length rs → get_or (firsts_from n rs) i d ≤ get_or (firsts_from n rs) j d
rise n [] i j d le lt = absurd (omega (arith, lt))
rise n (r ∷ rs) zero j d le lt = firsts_least n (r ∷ rs) j d lt
rise n (r ∷ rs) (suc i) zero d le lt = absurd (omega (arith, le))
rise n (r ∷ rs) (suc i) (suc j) d le lt = rise (n + length r.body.instances) rs i j d (omega (arith, le)) (omega (arith, lt))

pub firsts_rise : (n : ℕ) (rs : List Region) → NeverFalls (firsts_from n rs)
firsts_rise n rs = λ i j d le lt. rise n rs i j d le (omega (arith, lt, firsts_length n rs))

-- the instance of a number is one of the last region that begins with that number or before it
pub instance_at : (n : ℕ) (rs : List Region) (c number : ℕ) → c < length rs → get_or (firsts_from n rs) c 0 ≤ number
    → (suc c < length rs → number < get_or (firsts_from n rs) (suc c) 0)
    → slice_get (instances_of rs) (number - n) ≡ slice_get (get_or rs c no_region).body.instances (number - get_or (firsts_from n rs) c 0)
instance_at n [] c number lt low high = absurd (omega (arith, lt))
instance_at n (r ∷ []) zero number lt low high = ap (λ l. slice_get l (number - n)) (append-nil r.body.instances)
instance_at n (r ∷ s ∷ rs) zero number lt low high =
    get_left r.body.instances (instances_of (s ∷ rs)) (number - n) (omega (arith, low, high (omega arith)))
instance_at n (r ∷ rs) (suc c) number lt low high =
    let past : n + length r.body.instances ≤ number = omega (arith, low, firsts_least (n + length r.body.instances) rs c 0 (omega (arith, lt))) in
    let e : number - n ≡ length r.body.instances + (number - (n + length r.body.instances)) = omega (arith, past) in
    ap (slice_get (instances_of (r ∷ rs))) e
    ∙ get_right r.body.instances (instances_of rs) (number - (n + length r.body.instances))
    ∙ instance_at (n + length r.body.instances) rs c number (omega (arith, lt)) low (λ more. high (omega (arith, more)))

-- no region has more instances than there are
pub instances_within : (rs : List Region) (i : ℕ) (d : Region) → i < length rs → length (get_or rs i d).body.instances ≤ length (instances_of rs)
instances_within [] i d lt = absurd (omega (arith, lt))
instances_within (r ∷ rs) zero d lt = omega (arith, length-append r.body.instances (instances_of rs))
instances_within (r ∷ rs) (suc i) d lt = omega (arith, length-append r.body.instances (instances_of rs), instances_within rs i d (omega (arith, lt)))

-- where the first of the numbers is over the number there is no region
pub no_instance : (rs : List Region) (firsts : List ℕ) (point number : ℕ) → firsts ≡ firsts_from 0 rs → point ≡ 0
    → ((k d : ℕ) → point ≤ k → k < length firsts → nat_le (get_or firsts k d) number ≡ false) → None ≡ slice_get (instances_of rs) number
no_instance [] firsts point number e none past = refl
no_instance (r ∷ rs) firsts point number e none past =
    let some : 0 < length firsts = omega (arith, ap length e) in
    let first : get_or firsts 0 0 ≡ 0 = ap (λ l. get_or l 0 0) e in
    absurd (omega (arith, first, leb-false (get_or firsts 0 0) number (past 0 0 (omega (arith, none)) some)))

pub found_instance : (rs : List Region) (firsts : List ℕ) (c point number : ℕ) → firsts ≡ firsts_from 0 rs → point ≡ suc c → point ≤ length firsts
    → ((k d : ℕ) → 0 ≤ k → k < point → nat_le (get_or firsts k d) number ≡ true) → ((k d : ℕ) → point ≤ k → k < length firsts → nat_le (get_or firsts k d) number ≡ false)
    → slice_get (instances_of rs) number ≡ slice_get (get_or rs c no_region).body.instances (number - get_or (firsts_from 0 rs) c 0)
found_instance rs firsts c point number e next within before past =
    let count : length firsts ≡ length rs = ap length e ∙ firsts_length 0 rs in
    let low : get_or (firsts_from 0 rs) c 0 ≤ number = leb-true (get_or (firsts_from 0 rs) c 0) number (ap (λ l. nat_le (get_or l c 0) number) (sym e) ∙ before c 0 (omega arith) (omega (arith, next))) in
    let start : number ≡ number - 0 = omega arith in
    ap (slice_get (instances_of rs)) start
    ∙ instance_at 0 rs c number (omega (arith, within, next, count)) low
    (λ more. leb-false (get_or (firsts_from 0 rs) (suc c) 0) number (ap (λ l. nat_le (get_or l (suc c) 0) number) (sym e) ∙ past (suc c) 0 (omega (arith, next)) (omega (arith, more, count))))

-- what `get` finds
pub got : (xs : List Placed) (i : ℕ) (o : Option (Bor Placed)) → MatchOption o (length xs ≤ i) (λ x. (i < length xs) × HoldsAt (λ y. x.now ≡ y) xs i)
    → option_map instance_of (option_copied o) ≡ slice_get (map instance_of xs) i
got xs i None h = sym (slice_get_past (map instance_of xs) i (omega (arith, h, length-map xs instance_of)))
got xs i (Some x) h =
    ap (λ (p : Placed). Some (instance_of p)) (h.1 x.now) ∙ sym (slice_get-map instance_of xs i ∙ ap (option_map instance_of) (slice_get-get_or xs i x.now h.0))
