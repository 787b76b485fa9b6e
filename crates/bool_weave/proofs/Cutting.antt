-- Places put among rising places, and the cuts that come of it.
use Rattle.std.proofs.Common.{◌≡◌, ◌<◌, ◌≤◌, ◌+◌, ◌⊎◌, ℕ, zero, suc, List, [], ◌∷◌, ◌++◌, length, get_or, insert, true, false, flat_map, ap, sym, ◌∙◌, subst, refl, inl, inr, ⊎_elim, arith}
use Rattle.std.specs.Int.RustNames.{unsigned_abs}
use Rattle.std.specs.List.Sorted.{IsStrictlySortedBy}
use Rattle.std.specs.declared.cmp.Ordering.{Ordering}
use Rattle.std.specs.declared.cmp.Ordering.TheVariants.{Less, Equal, Greater}
use Rattle.std.specs.Ordering.{ordering_reverse, is_lt, is_eq}
use Rattle.std.proofs.lemmas.Bool.{true≢false, false≢true}
use Rattle.std.proofs.lemmas.List.Concat.{flat_map-append}
use Rattle.std.proofs.lemmas.Map.Keys.{Less-from_sorted}
use Rattle.surd_order.specs.declared.position.Pos.{Pos}
use Rattle.surd_order.specs.declared.position.Pos.TheVariants.{Frac, Surd}
use Rattle.surd_order.specs.Order.{Precedes, IsPlace}
use Rattle.surd_order.specs.PlaceOrder.{place_cmp}
use Rattle.surd_order.specs.Range.{IsInRange}
use Rattle.surd_order.specs.Spelling.{IsSpelled}
use Rattle.surd_order.proofs.LawProofs.{places_have_one_spelling}
use Rattle.surd_order.proofs.PlaceOrderLaws.{place_cmp_total, places_are_compared}
use Rattle.surd_order.proofs.SquareLaws.{gcd_one}
use Rattle.bool_weave.specs.declared.woven.Woven.{Woven}
use Rattle.bool_weave.specs.Cuts.{ray_length, ray_start, ray_end, IsSegment, IsWoven, places_of, AreCuts, put_beside, put_in, in_order, cuts_of}
use Rattle.bool_weave.specs.Claims.{is_before}
use Rattle.bool_weave.proofs.Sorted.{Has, has_at, has_from_contains, contains_from_has, all_has, all_from, same_members, sorted_from_pairs, has_append_left, has_append_right, has_append_cases}

pub less_from : (r : Ordering) → is_lt r ≡ true → r ≡ Less
less_from Less h = refl
less_from Equal h = absurd (false≢true h)
less_from Greater h = absurd (false≢true h)

pub greater_from : (r : Ordering) → is_lt r ≡ false → is_eq r ≡ false → r ≡ Greater
greater_from Less h e = absurd (true≢false h)
greater_from Equal h e = absurd (true≢false e)
greater_from Greater h e = refl

pub equal_from : (r : Ordering) → is_eq r ≡ true → r ≡ Equal
equal_from Less h = absurd (false≢true h)
equal_from Equal h = refl
equal_from Greater h = absurd (false≢true h)

pub turned : (x y : Pos) (r : Ordering) → place_cmp x y ≡ r → place_cmp y x ≡ ordering_reverse r
turned x y r e = place_cmp_total.antisymm y x ∙ ap ordering_reverse e

-- where all places before number i are before x, and the one there is after it
pub put_at : (x : Pos) (xs : List Pos) (i : ℕ) → i ≤ length xs
    → ((k : ℕ) (d : Pos) → k < i → is_before (get_or xs k d) x ≡ true)
    → ((d : Pos) → i < length xs → place_cmp (get_or xs i d) x ≡ Greater)
    → put_in x xs ≡ insert xs i x
put_at x [] zero within before after = refl
put_at x [] (suc i) within before after = absurd (omega (arith, within))
put_at x (y ∷ ys) zero within before after =
    ap (λ r. put_beside r x y ys (put_in x ys)) (turned y x Greater (after x (omega arith)))
put_at x (y ∷ ys) (suc i) within before after =
    ap (λ r. put_beside r x y ys (put_in x ys)) (turned y x Less (less_from _ (before zero x (omega arith))))
    ∙ ap (λ l. y ∷ l) (put_at x ys i (omega (arith, within)) (λ k d lt. before (suc k) d (omega (arith, lt))) (λ d lt. after d (omega (arith, lt))))

-- where the one there is at x
pub put_there : (x : Pos) (xs : List Pos) (i : ℕ) (d : Pos) → i < length xs
    → ((k : ℕ) (d : Pos) → k < i → is_before (get_or xs k d) x ≡ true)
    → place_cmp (get_or xs i d) x ≡ Equal
    → put_in x xs ≡ xs
put_there x [] i d within before at = absurd (omega (arith, within))
put_there x (y ∷ ys) zero d within before at =
    ap (λ r. put_beside r x y ys (put_in x ys)) (turned y x Equal at)
put_there x (y ∷ ys) (suc i) d within before at =
    ap (λ r. put_beside r x y ys (put_in x ys)) (turned y x Less (less_from _ (before zero x (omega arith))))
    ∙ ap (λ l. y ∷ l) (put_there x ys i d (omega (arith, within)) (λ k e lt. before (suc k) e (omega (arith, lt))) at)

beside_length : (r : Ordering) (x y : Pos) (ys behind : List Pos) → length behind ≤ length ys + 1 → length (put_beside r x y ys behind) ≤ length (y ∷ ys) + 1
beside_length Less x y ys behind h = omega arith
beside_length Equal x y ys behind h = omega arith
beside_length Greater x y ys behind h = omega (arith, h)

pub put_length : (x : Pos) (ys : List Pos) → length (put_in x ys) ≤ length ys + 1
put_length x [] = omega arith
put_length x (y ∷ ys) = beside_length (place_cmp x y) x y ys (put_in x ys) (put_length x ys)

-- what is put in is x or was there
beside_from : (r : Ordering) (x y z : Pos) (ys behind : List Pos) → (Has behind z → (x ≡ z) ⊎ Has ys z) → Has (put_beside r x y ys behind) z → (x ≡ z) ⊎ Has (y ∷ ys) z
beside_from Less x y z ys behind more h = h
beside_from Equal x y z ys behind more h = inr h
beside_from Greater x y z ys behind more (inl e) = inr (inl e)
beside_from Greater x y z ys behind more (inr h) = ⊎_elim (λ e. inl e) (λ m. inr (inr m)) (more h)

pub from_put : (x z : Pos) (ys : List Pos) → Has (put_in x ys) z → (x ≡ z) ⊎ Has ys z
from_put x z [] (inl e) = inl e
from_put x z [] (inr h) = absurd h
from_put x z (y ∷ ys) h = beside_from (place_cmp x y) x y z ys (put_in x ys) (from_put x z ys) h

-- and the other way round, where ties are equal
beside_to : (r : Ordering) (x y z : Pos) (ys behind : List Pos) → (r ≡ Equal → x ≡ y) → ((x ≡ z) ⊎ Has ys z → Has behind z) → (x ≡ z) ⊎ Has (y ∷ ys) z → Has (put_beside r x y ys behind) z
beside_to Less x y z ys behind tie more h = h
beside_to Equal x y z ys behind tie more (inl e) = inl (sym (tie refl) ∙ e)
beside_to Equal x y z ys behind tie more (inr h) = h
beside_to Greater x y z ys behind tie more (inl e) = inr (more (inl e))
beside_to Greater x y z ys behind tie more (inr (inl e)) = inl e
beside_to Greater x y z ys behind tie more (inr (inr h)) = inr (more (inr h))

pub to_put : (x z : Pos) (ys : List Pos) → ((y : Pos) → Has ys y → place_cmp x y ≡ Equal → x ≡ y) → (x ≡ z) ⊎ Has ys z → Has (put_in x ys) z
to_put x z [] tie (inl e) = inl e
to_put x z [] tie (inr h) = absurd h
to_put x z (y ∷ ys) tie h = beside_to (place_cmp x y) x y z ys (put_in x ys) (tie y (inl refl)) (to_put x z ys (λ w m. tie w (inr m))) h

beside_sorted : (r : Ordering) (x y : Pos) (ys behind : List Pos) → place_cmp x y ≡ r → IsStrictlySortedBy place_cmp (y ∷ ys) → IsStrictlySortedBy place_cmp behind
    → ((z : Pos) → Has behind z → (x ≡ z) ⊎ Has ys z) → IsStrictlySortedBy place_cmp (put_beside r x y ys behind)
unfolding IsStrictlySortedBy
beside_sorted Less x y ys behind e s t more = (
  (e, all_from (λ z. place_cmp x z ≡ Less) ys (λ z h. place_cmp_total.trans x y z e (all_has (λ z. place_cmp y z ≡ Less) ys z s.0 h))),
  s,
)
beside_sorted Equal x y ys behind e s t more = s
beside_sorted Greater x y ys behind e s t more = (
  all_from (λ z. place_cmp y z ≡ Less) behind (λ z h. ⊎_elim (λ m. subst (λ w. place_cmp y w ≡ Less) m (turned x y Greater e)) (λ m. all_has (λ z. place_cmp y z ≡ Less) ys z s.0 m) (more z h)),
  t,
)

pub put_sorted : (x : Pos) (ys : List Pos) → IsStrictlySortedBy place_cmp ys → IsStrictlySortedBy place_cmp (put_in x ys)
unfolding IsStrictlySortedBy
put_sorted x [] s = (tt, tt)
put_sorted x (y ∷ ys) s = beside_sorted (place_cmp x y) x y ys (put_in x ys) refl s (put_sorted x ys s.1) (λ z h. from_put x z ys h)

pub order_sorted : (xs : List Pos) → IsStrictlySortedBy place_cmp (in_order xs)
unfolding IsStrictlySortedBy
order_sorted [] = tt
order_sorted (x ∷ xs) = put_sorted x (in_order xs) (order_sorted xs)

pub from_order : (z : Pos) (xs : List Pos) → Has (in_order xs) z → Has xs z
from_order z [] h = h
from_order z (x ∷ xs) h = ⊎_elim (λ e. inl e) (λ m. inr (from_order z xs m)) (from_put x z (in_order xs) h)

pub to_order : (z : Pos) (xs : List Pos) → ((x y : Pos) → Has xs x → Has xs y → place_cmp x y ≡ Equal → x ≡ y) → Has xs z → Has (in_order xs) z
to_order z [] tie h = h
to_order z (x ∷ xs) tie h =
    to_put x z (in_order xs) (λ y m. tie x y (inl refl) (inr (from_order y xs m))) (⊎_elim (λ e. inl e) (λ m. inr (to_order z xs (λ v w p q. tie v w (inr p) (inr q)) m)) h)

pub order_length : (xs : List Pos) → length (in_order xs) ≤ length xs
order_length [] = omega arith
order_length (x ∷ xs) = omega (arith, put_length x (in_order xs), order_length xs)

-- what is known of each cut
pub record IsGood (x : Pos) : Type 0 where
  pub spelled : IsSpelled x
  pub range : IsInRange x

pub place_from : (x : Pos) → IsSpelled x → IsPlace x
place_from (Frac p q) s = s.0
place_from (Surd a plus k) s = tt

pub tied_same : (x y : Pos) → IsSpelled x → IsSpelled y → place_cmp x y ≡ Equal → x ≡ y
tied_same x y s t e = places_have_one_spelling x y s t ((places_are_compared x y (place_from x s) (place_from y t)).same.0 e)

pub start_good : IsGood ray_start
start_good = record { spelled = (omega arith, gcd_one 0); range = record { over = omega arith; positive = omega arith; under = omega arith } }

pub end_good : IsGood ray_end
end_good = record { spelled = (omega arith, gcd_one (unsigned_abs ray_length)); range = record { over = omega arith; positive = omega arith; under = omega arith } }

abbrev ends : Woven → List Pos
ends w = w.seg.start ∷ w.seg.end ∷ []

pub end_of_some : (woven : List Woven) (z : Pos) → Has (flat_map (λ w. w.seg.start ∷ w.seg.end ∷ []) woven) z → (w : Woven) × Has woven w × ((w.seg.start ≡ z) ⊎ (w.seg.end ≡ z))
end_of_some [] z h = absurd h
end_of_some (w ∷ ws) z (inl e) = (w, inl refl, inl e)
end_of_some (w ∷ ws) z (inr (inl e)) = (w, inl refl, inr e)
end_of_some (w ∷ ws) z (inr (inr h)) = let s = end_of_some ws z h in (s.0, inr s.1, s.2)

pub start_is_place : (woven : List Woven) (w : Woven) → Has woven w → Has (flat_map (λ w. w.seg.start ∷ w.seg.end ∷ []) woven) w.seg.start
start_is_place [] w h = absurd h
start_is_place (v ∷ vs) w (inl e) = inl (ap (λ (x : Woven). x.seg.start) e)
start_is_place (v ∷ vs) w (inr h) = inr (inr (start_is_place vs w h))

pub end_is_place : (woven : List Woven) (w : Woven) → Has woven w → Has (flat_map (λ w. w.seg.start ∷ w.seg.end ∷ []) woven) w.seg.end
end_is_place [] w h = absurd h
end_is_place (v ∷ vs) w (inl e) = inr (inl (ap (λ (x : Woven). x.seg.end) e))
end_is_place (v ∷ vs) w (inr h) = inr (inr (end_is_place vs w h))

pub segment_of : (woven : List Woven) (w : Woven) → IsWoven woven → Has woven w → IsSegment w.seg
segment_of woven w s h = let c = contains_from_has woven w h in subst (λ (x : Woven). IsSegment x.seg) c.2 (s.segments c.0 w c.1)

pub places_good : (woven : List Woven) (z : Pos) → IsWoven woven → Has (places_of woven) z → IsGood z
places_good woven z s (inl e) = subst IsGood e start_good
places_good woven z s (inr (inl e)) = subst IsGood e end_good
places_good woven z s (inr (inr h)) =
    let w = end_of_some woven z h in
    let g = segment_of woven w.0 s w.1 in
    ⊎_elim (λ e. subst IsGood e (record { spelled = g.start_spelled; range = g.start_range })) (λ e. subst IsGood e (record { spelled = g.end_spelled; range = g.end_range })) w.2

pub cuts_good : (woven : List Woven) (z : Pos) → IsWoven woven → Has (cuts_of woven) z → IsGood z
cuts_good woven z s h = places_good woven z s (from_order z (places_of woven) h)

ties : (woven : List Woven) → IsWoven woven → (x y : Pos) → Has (places_of woven) x → Has (places_of woven) y → place_cmp x y ≡ Equal → x ≡ y
ties woven s x y p q e = tied_same x y (places_good woven x s p).spelled (places_good woven y s q).spelled e

pub cuts_sorted : (woven : List Woven) → IsStrictlySortedBy place_cmp (cuts_of woven)
cuts_sorted woven = order_sorted (places_of woven)

pub to_cuts : (woven : List Woven) (z : Pos) → IsWoven woven → Has (places_of woven) z → Has (cuts_of woven) z
to_cuts woven z s h = to_order z (places_of woven) (ties woven s) h

pub precedes_from : (x y : Pos) → IsSpelled x → IsSpelled y → place_cmp x y ≡ Less → Precedes x y
precedes_from x y s t e = (places_are_compared x y (place_from x s) (place_from y t)).less.0 e

pub less_from_precedes : (x y : Pos) → IsSpelled x → IsSpelled y → Precedes x y → place_cmp x y ≡ Less
less_from_precedes x y s t e = (places_are_compared x y (place_from x s) (place_from y t)).less.1 e

has_get : {X : Type 0} (xs : List X) (k : ℕ) (d : X) → k < length xs → Has xs (get_or xs k d)
has_get xs k d lt = has_at xs (get_or xs k d) d k lt refl

pub are_cuts : (woven : List Woven) → IsWoven woven → AreCuts woven (cuts_of woven)
are_cuts woven s = record {
  rising = λ i j d lt within.
      let here : i < length (cuts_of woven) = omega (arith, lt, within) in
      precedes_from _ _ (cuts_good woven _ s (has_get (cuts_of woven) i d here)).spelled (cuts_good woven _ s (has_get (cuts_of woven) j d within)).spelled
      (Less-from_sorted place_cmp (cuts_of woven) i j d (cuts_sorted woven) lt within);
  members = λ x. (
    λ c. contains_from_has (places_of woven) x (from_order x (places_of woven) (has_from_contains (cuts_of woven) x c)),
    λ c. contains_from_has (cuts_of woven) x (to_cuts woven x s (has_from_contains (places_of woven) x c)),
  );
}

pub one_list_of_cuts : (woven : List Woven) (cuts : List Pos) → IsWoven woven → AreCuts woven cuts → cuts ≡ cuts_of woven
one_list_of_cuts woven cuts s c =
    let good : (k : ℕ) (d : Pos) → k < length cuts → IsGood (get_or cuts k d) =
    λ k d lt. places_good woven (get_or cuts k d) s (has_from_contains (places_of woven) _ ((c.members (get_or cuts k d)).0 (contains_from_has cuts _ (has_get cuts k d lt)))) in
    let sorted : IsStrictlySortedBy place_cmp cuts =
    sorted_from_pairs place_cmp place_cmp_total cuts (λ i j d lt within. less_from_precedes _ _ (good i d (omega (arith, lt, within))).spelled (good j d within).spelled (c.rising i j d lt within)) in
    same_members place_cmp place_cmp_total cuts (cuts_of woven) sorted (cuts_sorted woven) (λ z. (
      λ h. to_cuts woven z s (has_from_contains (places_of woven) z ((c.members z).0 (contains_from_has cuts z h))),
      λ h. has_from_contains cuts z ((c.members z).1 (contains_from_has (places_of woven) z (from_order z (places_of woven) h))),
    ))

-- one more segment
places_more : (woven : List Woven) (w : Woven) → places_of (woven ++ w ∷ []) ≡ places_of woven ++ (w.seg.start ∷ w.seg.end ∷ [])
places_more woven w = ap (λ l. ray_start ∷ ray_end ∷ l) (flat_map-append (λ (v : Woven). v.seg.start ∷ v.seg.end ∷ []) woven (w ∷ []))

pub cuts_more : (woven : List Woven) (w : Woven) → IsWoven (woven ++ w ∷ []) → IsWoven woven → cuts_of (woven ++ w ∷ []) ≡ put_in w.seg.end (put_in w.seg.start (cuts_of woven))
cuts_more woven w s old =
    let more = places_more woven w in
    let in_new : (z : Pos) → Has (places_of woven ++ (w.seg.start ∷ w.seg.end ∷ [])) z → Has (places_of (woven ++ w ∷ [])) z = λ z h. subst (λ l. Has l z) (sym more) h in
    let tie : (x y : Pos) → Has (places_of woven ++ (w.seg.start ∷ w.seg.end ∷ [])) x → Has (places_of woven ++ (w.seg.start ∷ w.seg.end ∷ [])) y → place_cmp x y ≡ Equal → x ≡ y =
    λ x y p q. ties (woven ++ w ∷ []) s x y (in_new x p) (in_new y q) in
    let first : Has (places_of woven ++ (w.seg.start ∷ w.seg.end ∷ [])) w.seg.start = has_append_right (places_of woven) (w.seg.start ∷ w.seg.end ∷ []) w.seg.start (inl refl) in
    let last : Has (places_of woven ++ (w.seg.start ∷ w.seg.end ∷ [])) w.seg.end = has_append_right (places_of woven) (w.seg.start ∷ w.seg.end ∷ []) w.seg.end (inr (inl refl)) in
    let cut_in : (z : Pos) → Has (cuts_of woven) z → Has (places_of woven ++ (w.seg.start ∷ w.seg.end ∷ [])) z =
    λ z h. has_append_left (places_of woven) (w.seg.start ∷ w.seg.end ∷ []) z (from_order z (places_of woven) h) in
    let start_in : (z : Pos) → Has (put_in w.seg.start (cuts_of woven)) z → Has (places_of woven ++ (w.seg.start ∷ w.seg.end ∷ [])) z =
    λ z h. ⊎_elim (λ e. subst (λ x. Has (places_of woven ++ (w.seg.start ∷ w.seg.end ∷ [])) x) e first) (λ m. cut_in z m) (from_put w.seg.start z (cuts_of woven) h) in
    let tie_start : (y : Pos) → Has (cuts_of woven) y → place_cmp w.seg.start y ≡ Equal → w.seg.start ≡ y = λ y h. tie w.seg.start y first (cut_in y h) in
    let tie_end : (y : Pos) → Has (put_in w.seg.start (cuts_of woven)) y → place_cmp w.seg.end y ≡ Equal → w.seg.end ≡ y = λ y h. tie w.seg.end y last (start_in y h) in
    let inside : (z : Pos) → Has (places_of woven ++ (w.seg.start ∷ w.seg.end ∷ [])) z → (w.seg.end ≡ z) ⊎ Has (put_in w.seg.start (cuts_of woven)) z =
    λ z h. ⊎_elim (λ m. inr (to_put w.seg.start z (cuts_of woven) tie_start (inr (to_cuts woven z old m))))
    (λ m. elim m [ inl e ↦ inr (to_put w.seg.start z (cuts_of woven) tie_start (inl e)) | inr n ↦ elim n [ inl e ↦ inl e | inr none ↦ absurd none ] ])
    (has_append_cases (places_of woven) (w.seg.start ∷ w.seg.end ∷ []) z h) in
    same_members place_cmp place_cmp_total (cuts_of (woven ++ w ∷ [])) (put_in w.seg.end (put_in w.seg.start (cuts_of woven)))
    (cuts_sorted (woven ++ w ∷ [])) (put_sorted w.seg.end (put_in w.seg.start (cuts_of woven)) (put_sorted w.seg.start (cuts_of woven) (cuts_sorted woven)))
    (λ z. (
      λ h. to_put w.seg.end z (put_in w.seg.start (cuts_of woven)) tie_end (inside z (subst (λ l. Has l z) more (from_order z (places_of (woven ++ w ∷ [])) h))),
      λ h. to_cuts (woven ++ w ∷ []) z s (in_new z (⊎_elim (λ e. subst (λ x. Has (places_of woven ++ (w.seg.start ∷ w.seg.end ∷ [])) x) e last) (λ m. start_in z m) (from_put w.seg.end z (put_in w.seg.start (cuts_of woven)) h))),
    ))
