-- What a weave keeps: its cuts are those of what was woven.
use Rattle.std.proofs.Common.{◌≡◌, ◌<◌, ◌≤◌, ◌+◌, ◌*◌, ◌^◌, ℕ, List, [], ◌∷◌, ◌++◌, length, get_or, insert, true, false, ◌&&◌, nat_lt, flat_map, All, ap, sym, ◌∙◌, subst, refl, inl, inr, ⊎_elim, arith}
use Rattle.std.specs.Ordering.{is_eq, is_lt}
use Rattle.std.specs.declared.cmp.Ordering.TheVariants.{Less}
use Rattle.std.proofs.lemmas.Bool.{and_parts, and_cases, ltb-true, ltb-false, cases_lt, true≢false}
use Rattle.std.proofs.lemmas.Cmp.{tied_itself}
use Rattle.std.proofs.lemmas.List.{get_or_default, length_push}
use Rattle.std.proofs.lemmas.List.Elements.{All-push}
use Rattle.std.proofs.lemmas.List.Quantifiers.{all_pairs_push}
use Rattle.surd_order.specs.declared.position.Pos.{Pos}
use Rattle.surd_order.specs.PlaceOrder.{place_cmp}
use Rattle.surd_order.specs.Range.{IsInRange}
use Rattle.surd_order.proofs.PlaceOrderLaws.{place_cmp_total}
use Rattle.bool_weave.specs.declared.woven.Woven.{Woven}
use Rattle.bool_weave.specs.Cuts.{ray_start, ray_end, IsSegment, IsWoven, places_of, put_in, cuts_of}
use Rattle.bool_weave.specs.Claims.{is_before}
use Rattle.bool_weave.specs.Tables.{IsKept, IsSearchable, IsCutAt}
use Rattle.bool_weave.proofs.Sorted.{Has, has_at, contains_from_has}
use Rattle.bool_weave.proofs.Cutting.{put_at, put_there, greater_from, equal_from, put_sorted, from_put, cuts_sorted, cuts_good, to_cuts, cuts_more, order_length, start_is_place, end_is_place, segment_of}

before_in : (xs ys : List Pos) (x : Pos) (n : ℕ) → ys ≡ xs → ((k : ℕ) (d : Pos) → k < n → is_before (get_or ys k d) x ≡ true)
    → (k : ℕ) (d : Pos) → k < n → is_before (get_or xs k d) x ≡ true
before_in xs ys x n e h k d lt = subst (λ l. is_before (get_or l k d) x ≡ true) e (h k d lt)

pub put_same : (x : Pos) (xs ys zs : List Pos) (n : ℕ) → ys ≡ xs → zs ≡ xs → ((k : ℕ) (d : Pos) → k < n → is_before (get_or ys k d) x ≡ true)
    → (nat_lt n (length zs) && is_eq (place_cmp (get_or zs n ray_start) x)) ≡ true → xs ≡ put_in x xs
put_same x xs ys zs n e f before there =
    let parts = and_parts (nat_lt n (length zs)) (is_eq (place_cmp (get_or zs n ray_start) x)) there in
    let within : n < length xs = subst (λ l. n < length l) f (ltb-true n (length zs) parts.0) in
    sym (put_there x xs n ray_start within (before_in xs ys x n e before) (equal_from _ (subst (λ l. is_eq (place_cmp (get_or l n ray_start) x) ≡ true) f parts.1)))

pub put_new : (x : Pos) (xs ys zs : List Pos) (n : ℕ) → ys ≡ xs → zs ≡ xs → n ≤ length ys
    → ((k : ℕ) (d : Pos) → k < n → is_before (get_or ys k d) x ≡ true)
    → ((k : ℕ) (d : Pos) → n ≤ k → k < length ys → is_before (get_or ys k d) x ≡ false)
    → (nat_lt n (length zs) && is_eq (place_cmp (get_or zs n ray_start) x)) ≡ false → insert xs n x ≡ put_in x xs
put_new x xs ys zs n e f short before after away =
    let behind : (d : Pos) → n < length xs → is_before (get_or xs n d) x ≡ false =
    λ d lt. subst (λ l. is_before (get_or l n d) x ≡ false) e (after n d (omega arith) (subst (λ l. n < length l) (sym e) lt)) in
    sym (put_at x xs n (subst (λ l. n ≤ length l) e short) (before_in xs ys x n e before) (λ d lt.
    elim (and_cases (nat_lt n (length zs)) (is_eq (place_cmp (get_or zs n ray_start) x)) away) [
      | inl past ↦ absurd (omega (arith, lt, ap length f, ltb-false n (length zs) past))
      | inr apart ↦ greater_from _ (behind d lt)
          (ap (λ y. is_eq (place_cmp y x)) (get_or_default xs n d ray_start lt) ∙ subst (λ l. is_eq (place_cmp (get_or l n ray_start) x) ≡ false) f apart)
    ]))

pub searchable : (woven : List Woven) → IsWoven woven → IsSearchable (cuts_of woven)
searchable woven s = record {
  rising = cuts_sorted woven;
  ranges = λ k d lt. (cuts_good woven (get_or (cuts_of woven) k d) s (has_at (cuts_of woven) _ d k lt refl)).range;
}

pub searchable_kept : (woven : List Woven) (cuts : List Pos) → IsKept woven cuts → IsSearchable cuts
searchable_kept woven cuts k = subst IsSearchable (sym k.kept) (searchable woven k.sound)

pub put_searchable : (x : Pos) (ys : List Pos) → IsSearchable ys → IsInRange x → IsSearchable (put_in x ys)
put_searchable x ys s r = record {
  rising = put_sorted x ys s.rising;
  ranges = λ k d lt.
      ⊎_elim (λ e. subst IsInRange e r) (λ m. let c = contains_from_has ys _ m in subst IsInRange c.2 (s.ranges c.0 _ c.1)) (from_put x (get_or (put_in x ys) k d) ys (has_at (put_in x ys) _ d k lt refl));
}

pub kept_none : IsKept [] (ray_start ∷ ray_end ∷ [])
unfolding place_cmp
kept_none = record {
  sound = record { rising = λ i j d a b. absurd (omega (arith, b)); segments = λ k d a. absurd (omega (arith, a)) };
  few = omega arith;
  kept = refl;
}

pub woven_more : (woven : List Woven) (w : Woven) → IsWoven woven → All (λ v. v.instance < w.instance) woven → IsSegment w.seg → IsWoven (woven ++ w ∷ [])
woven_more woven w s below seg = record {
  rising = all_pairs_push (λ (u v : Woven). u.instance < v.instance) woven w s.rising below;
  segments = All-push (λ (v : Woven). IsSegment v.seg) woven w s.segments seg;
}

pub kept_more : (woven new : List Woven) (cuts mid made : List Pos) (w : Woven) → IsKept woven cuts → All (λ v. v.instance < w.instance) woven → IsSegment w.seg → length woven + 1 < 2 ^ 31
    → new ≡ woven ++ w ∷ [] → mid ≡ put_in w.seg.start cuts → made ≡ put_in w.seg.end mid → IsKept new made
kept_more woven new cuts mid made w k below seg few e f g =
    let s : IsWoven (woven ++ w ∷ []) = woven_more woven w k.sound below seg in
    record {
      sound = subst IsWoven (sym e) s;
      few = omega (arith, few, ap length e, length_push woven w);
      kept = g ∙ ap (λ l. put_in w.seg.end l) (f ∙ ap (λ l. put_in w.seg.start l) k.kept) ∙ sym (cuts_more woven w s k.sound) ∙ sym (ap cuts_of e);
    }

ends_length : (woven : List Woven) → length (flat_map (λ w. w.seg.start ∷ w.seg.end ∷ []) woven) ≡ 2 * length woven
ends_length [] = refl
ends_length (w ∷ ws) = omega (arith, ends_length ws)

pub few_cuts : (woven : List Woven) → length (cuts_of woven) ≤ 2 * length woven + 2
few_cuts woven = omega (arith, order_length (places_of woven), ends_length woven)

pub ends_apart : place_cmp ray_start ray_end ≡ Less
unfolding place_cmp
ends_apart = refl

pub two_cuts : (woven : List Woven) → IsWoven woven → 2 ≤ length (cuts_of woven)
two_cuts woven s =
    let a = contains_from_has (cuts_of woven) ray_start (to_cuts woven ray_start s (inl refl)) in
    let b = contains_from_has (cuts_of woven) ray_end (to_cuts woven ray_end s (inr (inl refl))) in
    elim (cases_lt (length (cuts_of woven)) 2) [
      | inl less ↦
          let one : a.0 ≡ b.0 = omega (arith, a.1, b.1, less) in
          let same : ray_start ≡ ray_end = sym a.2 ∙ get_or_default (cuts_of woven) a.0 ray_start ray_end a.1 ∙ ap (λ n. get_or (cuts_of woven) n ray_end) one ∙ b.2 in
          absurd (true≢false (sym (ap is_lt (subst (λ p. place_cmp ray_start p ≡ Less) (sym same) ends_apart)) ∙ ap is_lt (tied_itself place_cmp_total ray_start)))
      | inr enough ↦ enough
    ]

-- the cuts of a weave are cut at each of its segments
pub is_cut_at : (woven : List Woven) (w : Woven) → IsWoven woven → Has woven w → IsCutAt (cuts_of woven) w.seg
is_cut_at woven w s h = record {
  searchable = searchable woven s;
  start_range = (segment_of woven w s h).start_range;
  end_range = (segment_of woven w s h).end_range;
  start = contains_from_has (cuts_of woven) w.seg.start (to_cuts woven w.seg.start s (inr (inr (start_is_place woven w h))));
  end = contains_from_has (cuts_of woven) w.seg.end (to_cuts woven w.seg.end s (inr (inr (end_is_place woven w h))));
}
