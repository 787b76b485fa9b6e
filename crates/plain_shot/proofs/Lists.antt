-- One more element.
use Rattle.std.proofs.Common.{◌≡◌, ◌<◌, ◌≤◌, ◌+◌, ◌-◌, ℕ, zero, suc, List, [], ◌∷◌, ◌++◌, length, get_or, map, flat_map, take, drop, ap, sym, ◌∙◌, refl, arith}
use Rattle.std.specs.List.{range_with_len}
use Rattle.std.proofs.lemmas.List.{append_assoc, map-append, take_more}
use Rattle.std.proofs.lemmas.List.FromFn.{map-range_with_len_more}
use Rattle.surd_order.specs.declared.position.Pos.{Pos}
use Rattle.bool_weave.specs.Claims.{intervals_between}
use Rattle.overlap_list.proofs.Running.{flat_more}

pub map_push : {X Y : Type 0} (f : X → Y) (xs : List X) (i : ℕ) (x : X) (before after : List Y) → i < length xs → x ≡ get_or xs i x → before ≡ map f (take i xs) → after ≡ before ++ f x ∷ []
    → after ≡ map f (take (i + 1) xs)
map_push f xs i x before after lt is so_far pushed =
    pushed ∙ ap (λ l. l ++ f x ∷ []) so_far ∙ ap (λ y. map f (take i xs) ++ f y ∷ []) is
    ∙ sym (map-append f (take i xs) (get_or xs i x ∷ [])) ∙ sym (ap (map f) (take_more xs i x lt))

pub range_push : {X : Type 0} (f : ℕ → X) (a to : ℕ) (start before after : List X) → a ≤ to → before ≡ start ++ map f (range_with_len a (to - a)) → after ≡ before ++ f to ∷ []
    → after ≡ start ++ map f (range_with_len a (to + 1 - a))
range_push f a to start before after le so_far pushed =
    let e : to + 1 - a ≡ to - a + 1 = omega (arith, le) in
    pushed ∙ ap (λ l. l ++ f to ∷ []) so_far ∙ append_assoc start (map f (range_with_len a (to - a))) (f to ∷ [])
    ∙ sym (ap (λ l. start ++ l) (map-range_with_len_more f a (to - a) to (omega (arith, le))))
    ∙ sym (ap (λ n. start ++ map f (range_with_len a n)) e)

pub flat_push : {X : Type 0} (f : ℕ → List X) (n : ℕ) (before after : List X) → before ≡ flat_map f (range_with_len 0 n) → after ≡ before ++ f n → after ≡ flat_map f (range_with_len 0 (n + 1))
flat_push f n before after so_far pushed = pushed ∙ ap (λ l. l ++ f n) so_far ∙ sym (flat_more f n)

-- nothing lies between fewer than two cuts
pub none_between : (cuts : List Pos) (i : ℕ) → length cuts ≤ i + 1 → intervals_between (drop i cuts) ≡ []
none_between [] zero h = refl
none_between [] (suc i) h = refl
none_between (x ∷ []) zero h = refl
none_between (x ∷ y ∷ ys) zero h = absurd (omega (arith, h))
none_between (x ∷ xs) (suc i) h = none_between xs i (omega (arith, h))
