-- A place put among places, by how many of them it is after.
use Rattle.std.proofs.Common.{◌≡◌, ◌<◌, ◌≤◌, ℕ, zero, suc, List, [], ◌∷◌, length, get_or, insert, true, false, ◌&&◌, nat_lt, ap, sym, ◌∙◌, subst, refl, inl, inr, arith}
use Rattle.std.specs.declared.cmp.Ordering.{Ordering}
use Rattle.std.specs.declared.cmp.Ordering.TheVariants.{Less, Equal, Greater}
use Rattle.std.specs.Ordering.{is_gt, is_eq}
use Rattle.std.proofs.lemmas.Bool.{true≢false, false≢true, and_parts, and_cases, ltb-true, ltb-false}
use Rattle.std.proofs.lemmas.List.{get_or_default}
use Rattle.surd_order.specs.declared.position.Pos.{Pos}
use Rattle.surd_order.specs.PlaceOrder.{place_cmp}
use Rattle.bool_weave.specs.Cuts.{ray_start, put_beside, put_in}
use Rattle.bool_weave.proofs.Cutting.{equal_from}
use Rattle.overlap_list.specs.Hits.{is_at}

greater_from : (r : Ordering) → is_gt r ≡ true → r ≡ Greater
greater_from Less h = absurd (false≢true h)
greater_from Equal h = absurd (false≢true h)
greater_from Greater h = refl

less_from : (r : Ordering) → is_gt r ≡ false → is_eq r ≡ false → r ≡ Less
less_from Less h e = refl
less_from Equal h e = absurd (true≢false e)
less_from Greater h e = absurd (true≢false h)

-- x is after the first i places, and before the one behind them
put_before : (x : Pos) (xs : List Pos) (i : ℕ) → i ≤ length xs
    → ((k : ℕ) (d : Pos) → k < i → is_gt (place_cmp x (get_or xs k d)) ≡ true)
    → ((d : Pos) → i < length xs → place_cmp x (get_or xs i d) ≡ Less)
    → put_in x xs ≡ insert xs i x
put_before x [] zero within after next = refl
put_before x [] (suc i) within after next = absurd (omega (arith, within))
put_before x (y ∷ ys) zero within after next = ap (λ r. put_beside r x y ys (put_in x ys)) (next x (omega arith))
put_before x (y ∷ ys) (suc i) within after next =
    ap (λ r. put_beside r x y ys (put_in x ys)) (greater_from _ (after zero x (omega arith)))
    ∙ ap (λ l. y ∷ l) (put_before x ys i (omega (arith, within)) (λ k d lt. after (suc k) d (omega (arith, lt))) (λ d lt. next d (omega (arith, lt))))

-- or at that one
put_at : (x : Pos) (xs : List Pos) (i : ℕ) (d : Pos) → i < length xs
    → ((k : ℕ) (d : Pos) → k < i → is_gt (place_cmp x (get_or xs k d)) ≡ true)
    → place_cmp x (get_or xs i d) ≡ Equal
    → put_in x xs ≡ xs
put_at x [] i d within after at = absurd (omega (arith, within))
put_at x (y ∷ ys) zero d within after at = ap (λ r. put_beside r x y ys (put_in x ys)) at
put_at x (y ∷ ys) (suc i) d within after at =
    ap (λ r. put_beside r x y ys (put_in x ys)) (greater_from _ (after zero x (omega arith)))
    ∙ ap (λ l. y ∷ l) (put_at x ys i d (omega (arith, within)) (λ k d lt. after (suc k) d (omega (arith, lt))) at)

behind_in : (xs ys : List Pos) (x : Pos) (n : ℕ) → ys ≡ xs → ((k : ℕ) (d : Pos) → k < n → is_gt (place_cmp x (get_or ys k d)) ≡ true) → (k : ℕ) (d : Pos) → k < n → is_gt (place_cmp x (get_or xs k d)) ≡ true
behind_in xs ys x n e h k d lt = subst (λ l. is_gt (place_cmp x (get_or l k d)) ≡ true) e (h k d lt)

pub put_same : (x : Pos) (xs ys zs : List Pos) (n : ℕ) → ys ≡ xs → zs ≡ xs → ((k : ℕ) (d : Pos) → k < n → is_gt (place_cmp x (get_or ys k d)) ≡ true)
    → (nat_lt n (length zs) && is_at x (get_or zs n ray_start)) ≡ true → xs ≡ put_in x xs
put_same x xs ys zs n e f after there =
    let here : (nat_lt n (length xs) && is_at x (get_or xs n ray_start)) ≡ true = subst (λ l. (nat_lt n (length l) && is_at x (get_or l n ray_start)) ≡ true) f there in
    let parts = and_parts (nat_lt n (length xs)) (is_at x (get_or xs n ray_start)) here in
    sym (put_at x xs n ray_start (ltb-true n (length xs) parts.0) (behind_in xs ys x n e after) (equal_from _ parts.1))

pub put_new : (x : Pos) (xs ys zs : List Pos) (n : ℕ) → ys ≡ xs → zs ≡ xs → n ≤ length ys → ((k : ℕ) (d : Pos) → k < n → is_gt (place_cmp x (get_or ys k d)) ≡ true)
    → ((d : Pos) → n < length ys → is_gt (place_cmp x (get_or ys n d)) ≡ false)
    → (nat_lt n (length zs) && is_at x (get_or zs n ray_start)) ≡ false → insert xs n x ≡ put_in x xs
put_new x xs ys zs n e f within after next away =
    let apart : (nat_lt n (length xs) && is_at x (get_or xs n ray_start)) ≡ false = subst (λ l. (nat_lt n (length l) && is_at x (get_or l n ray_start)) ≡ false) f away in
    let ended : (d : Pos) → n < length xs → is_gt (place_cmp x (get_or xs n d)) ≡ false =
    subst (λ l. (d : Pos) → n < length l → is_gt (place_cmp x (get_or l n d)) ≡ false) e next in
    sym (put_before x xs n (subst (λ l. n ≤ length l) e within) (behind_in xs ys x n e after) (λ d lt.
    elim (and_cases (nat_lt n (length xs)) (is_at x (get_or xs n ray_start)) apart) [
      | inl past ↦ absurd (omega (arith, lt, ltb-false n (length xs) past))
      | inr other ↦ less_from _ (ended d lt) (ap (λ y. is_at x y) (get_or_default xs n d ray_start lt) ∙ other)
    ]))
