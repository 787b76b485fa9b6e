-- The names of kept tiles, and what holds of them while tiles move and are put in.
use Rattle.std.proofs.Common.{◌≡◌, ◌∙◌, ◌++◌, ◌||◌, ℕ, zero, suc, Bool, true, false, not, cond, List, [], ◌∷◌, Result, Ok, Err, OnOk, OnErr, filter, take, refl, sym, ap, ap₂, subst}
use Rattle.std.specs.List.{list_any}
use Rattle.std.specs.Map.{keys_of}
use Rattle.std.proofs.lemmas.List.{map-append}
use Rattle.std.proofs.lemmas.List.Sorted.{IsPermutation-filter_both, list_any-IsPermutation}
use Rattle.tile_cache.specs.Kept.{front_moved, kept_with, most_kept}
use Rattle.tile_shot.specs.Named.{TileName, is_small_name}
use Rattle.tile_shot.specs.Same.{same_name}
use Rattle.tile_shot.specs.Sameness.{name_decides}
use Rattle.view_shot.specs.Kept.{in_turn, is_kept, moved, put_in}
use Rattle.view_shot.specs.Steps.{AreFresh, AreKept, AreSmall, with_small}

-- the keys of entries that move, and of those that are left
module _ {K V : Type 0} where
  filter_keys : (p : K → Bool) (es : List (K × V)) → keys_of (filter (λ e. p e.0) es) ≡ filter p (keys_of es)
  filter_keys p [] = refl
  filter_keys p (e ∷ es) = (elim (p e.0) as (λ b. p e.0 ≡ b → keys_of (filter (λ x. p x.0) (e ∷ es)) ≡ filter p (keys_of (e ∷ es))) [
    | true ↦ λ t. rw t (ap (λ l. e.0 ∷ l) (filter_keys p es))
    | false ↦ λ t. rw t (filter_keys p es)
  ]) refl

  pub moved_keys : (equal : K → K → Bool) (key : K) (es : List (K × V)) → keys_of (front_moved equal key es) ≡ filter (equal key) (keys_of es) ++ filter (λ other. not (equal key other)) (keys_of es)
  moved_keys equal key es =
      map-append (λ (e : K × V). e.0) (filter (λ e. equal key e.0) es) (filter (λ e. not (equal key e.0)) es) ∙ ap₂ ◌++◌ (filter_keys (equal key) es) (filter_keys (λ other. not (equal key other)) es)

  pub taken_keys : (n : ℕ) (es : List (K × V)) → keys_of (take n es) ≡ take n (keys_of es)
  taken_keys zero es = refl
  taken_keys (suc n) [] = refl
  taken_keys (suc n) (e ∷ es) = ap (λ l. e.0 ∷ l) (taken_keys n es)

-- what moves stays kept
pub kept_moved : (kept : List TileName) (name other : TileName) → is_kept (moved kept name) other ≡ is_kept kept other
kept_moved kept name other =
    sym (list_any-IsPermutation (same_name other) kept (moved kept name) (IsPermutation-filter_both (same_name name) (λ x. not (same_name name x)) (λ x. refl) kept))

pub are_kept_moved : (kept : List TileName) (name : TileName) (names : List TileName) → AreKept kept names → AreKept (moved kept name) names
are_kept_moved kept name [] h = tt
are_kept_moved kept name (n ∷ ns) h = (kept_moved kept name n ∙ h.0, are_kept_moved kept name ns h.1)

are_fresh_moved : (kept : List TileName) (name : TileName) (names : List TileName) → AreFresh kept names → AreFresh (moved kept name) names
are_fresh_moved kept name [] h = tt
are_fresh_moved kept name (n ∷ ns) h = (kept_moved kept name n ∙ h.0, are_fresh_moved kept name ns h.1)

pub all_fresh_moved : (kept : List TileName) (moves names : List TileName) → AreFresh kept names → AreFresh (in_turn moved kept moves) names
all_fresh_moved kept [] names h = h
all_fresh_moved kept (m ∷ ms) names h = all_fresh_moved (moved kept m) ms names (are_fresh_moved kept m names h)

-- what is not kept, after a tile of another name was put in
none_taken : (p : TileName → Bool) (n : ℕ) (xs : List TileName) → list_any p xs ≡ false → list_any p (take n xs) ≡ false
none_taken p zero xs h = refl
none_taken p (suc n) [] h = refl
none_taken p (suc n) (x ∷ xs) h = (elim (p x) as (λ b. p x ≡ b → list_any p (take (suc n) (x ∷ xs)) ≡ false) [
  | true ↦ λ t. let wrong = rw t at h in cc
  | false ↦ λ t. rw t (none_taken p n xs (rw t at h))
]) refl

pub differ : (a b : TileName) → ¬ (a.tile ≡ b.tile) → same_name a b ≡ false
differ a b apart = (elim (same_name a b) as (λ t. same_name a b ≡ t → same_name a b ≡ false) [
  | true ↦ λ t. absurd (apart (ap (λ (k : TileName). k.tile) ((name_decides a b).0 t)))
  | false ↦ λ t. t
]) refl

fresh_put : (kept : List TileName) (name other : TileName) → same_name other name ≡ false → is_kept kept other ≡ false → is_kept (put_in kept name) other ≡ false
fresh_put kept name other apart fresh =
    none_taken (same_name other) most_kept (name ∷ kept) (ap (λ b. b || is_kept kept other) apart ∙ fresh)

pub fresh_with : (kept : List TileName) (name other : TileName) → same_name other name ≡ false → is_kept kept other ≡ false → is_kept (with_small kept name) other ≡ false
fresh_with kept name other apart fresh = elim (is_small_name name) as (λ b. is_kept (cond b (put_in kept name) kept) other ≡ false) [
  | true ↦ fresh_put kept name other apart fresh
  | false ↦ fresh
]

-- small ones stay small
small_filtered : (p : TileName → Bool) (kept : List TileName) → AreSmall kept → AreSmall (filter p kept)
small_filtered p [] h = tt
small_filtered p (k ∷ ks) h = elim (p k) as (λ b. AreSmall (cond b (k ∷ filter p ks) (filter p ks))) [
  | true ↦ (h.0, small_filtered p ks h.1)
  | false ↦ small_filtered p ks h.1
]

small_both : (xs ys : List TileName) → AreSmall xs → AreSmall ys → AreSmall (xs ++ ys)
small_both [] ys h k = k
small_both (x ∷ xs) ys h k = (h.0, small_both xs ys h.1 k)

pub small_moved : (kept : List TileName) (name : TileName) → AreSmall kept → AreSmall (moved kept name)
small_moved kept name h = small_both (filter (same_name name) kept) (filter (λ x. not (same_name name x)) kept) (small_filtered _ kept h) (small_filtered _ kept h)

small_taken : (n : ℕ) (kept : List TileName) → AreSmall kept → AreSmall (take n kept)
small_taken zero kept h = tt
small_taken (suc n) [] h = tt
small_taken (suc n) (k ∷ ks) h = (h.0, small_taken n ks h.1)

pub small_put : (kept : List TileName) (name : TileName) → is_small_name name ≡ true → AreSmall kept → AreSmall (put_in kept name)
small_put kept name small h = small_taken most_kept (name ∷ kept) (small, h)

-- a large one is not kept where all are small
pub large_not_kept : (kept : List TileName) (name : TileName) → AreSmall kept → is_small_name name ≡ false → is_kept kept name ≡ false
large_not_kept [] name h large = refl
large_not_kept (k ∷ ks) name h large = (elim (same_name name k) as (λ b. same_name name k ≡ b → is_kept (k ∷ ks) name ≡ false) [
  | true ↦ λ t. let wrong : true ≡ false = sym h.0 ∙ sym (ap is_small_name ((name_decides name k).0 t)) ∙ large in cc
  | false ↦ λ t. rw t (large_not_kept ks name h.1 large)
]) refl

-- a tile that is kept, if there is memory for it
module _ {E V : Type 0} where
  pub kept_small : (r : Result (Unit {0}) E) (key : TileName) (value : V) (old new : List (TileName × V)) → OnOk r (new ≡ kept_with key value old) → OnErr r (new ≡ old) → is_small_name key ≡ true → AreSmall (keys_of old) → AreSmall (keys_of new)
  kept_small (Ok done) key value old new put stays small h = subst AreSmall (sym (ap keys_of put ∙ taken_keys most_kept ((key, value) ∷ old))) (small_put (keys_of old) key small h)
  kept_small (Err e) key value old new put stays small h = subst (λ es. AreSmall (keys_of es)) (sym stays) h

  pub kept_is : (r : Result (Unit {0}) E) (key : TileName) (value : V) (old new : List (TileName × V)) (kept : List TileName) → OnOk r (new ≡ kept_with key value old) → keys_of old ≡ kept → is_small_name key ≡ true
      → OnOk r (keys_of new ≡ with_small kept key)
  kept_is (Ok done) key value old new kept put are small =
      ap keys_of put ∙ taken_keys most_kept ((key, value) ∷ old) ∙ ap (λ l. take most_kept (key ∷ l)) are ∙ sym (ap (λ b. cond b (put_in kept key) kept) small)
  kept_is (Err e) key value old new kept put are small = tt

pub on_err : {A E P : Type 0} (r : Result A E) → P → OnErr r P
on_err (Ok x) p = tt
on_err (Err e) p = p
