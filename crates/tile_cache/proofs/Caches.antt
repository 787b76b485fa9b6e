-- What is kept stays lawful: few, apart and named.
use Rattle.std.proofs.Common.{ℕ, zero, suc, ◌≡◌, ◌∙◌, ◌-◌, Bool, IsTrue, IfSome, false, not, List, [], ◌∷◌, filter, take, length, length-append, Option, Some, None, refl, sym, ap, subst, arith}
use Rattle.std.specs.Cmp.{IsEquivalence}
use Rattle.std.specs.List.{IsDistinct}
use Rattle.std.specs.List.Sorted.{IsPermutation}
use Rattle.std.specs.Map.{keys_of, lookup, remove_entry}
use Rattle.std.specs.Option.{option_map_or}
use Rattle.std.proofs.lemmas.List.{length-take}
use Rattle.std.proofs.lemmas.List.Elements.{All-cons, All-nil, All-take, All-contains}
use Rattle.std.proofs.lemmas.List.Filters.{length-filter_both}
use Rattle.std.proofs.lemmas.List.Sorted.{IsPermutation-filter_both, IsPermutation-map, All-permutation}
use Rattle.std.proofs.lemmas.Map.Keys.{IsDistinct-cons, IsDistinct-IsPermutation}
use Rattle.lru.specs.LruCache.{LruCache, lru_cache, put_entries}
use Rattle.lru.proofs.CallerLemmas.{Contains-lookup}
use Rattle.tile_cache.specs.Kept.{AreNamed, IsCache, front_moved, is_kept, kept_with, most_kept}
use Rattle.tile_cache.proofs.Order.{AllDiffer, differ_from_any, none_found}

module _ {K V : Type 0} (equal : K → K → Bool) (named : V → K) where
  pub empty_cache : (cache : LruCache K V) → cache ≡ lru_cache [] most_kept → IsCache equal named cache
  unfolding IsDistinct
  empty_cache cache e =
      let lawful : IsCache equal named (lru_cache [] most_kept) = record { room = refl; most = omega arith; apart = tt; names = All-nil _ } in
      subst (IsCache equal named) (sym e) lawful

  moves : (key : K) (entries : List (K × V)) → IsPermutation entries (front_moved equal key entries)
  moves key entries = IsPermutation-filter_both (λ (e : K × V). equal key e.0) (λ (e : K × V). not (equal key e.0)) (λ _. refl) entries

  as_many : (key : K) (entries : List (K × V)) → length (front_moved equal key entries) ≡ length entries
  as_many key entries =
      length-append (filter (λ (e : K × V). equal key e.0) entries) (filter (λ (e : K × V). not (equal key e.0)) entries)
      ∙ length-filter_both (λ (e : K × V). equal key e.0) (λ (e : K × V). not (equal key e.0)) (λ _. refl) entries

  pub moved_cache : IsEquivalence equal → (key : K) (cache : LruCache K V) → IsCache equal named cache → IsCache equal named (lru_cache (front_moved equal key cache.entries) cache.cap)
  moved_cache laws key cache kept =
      let moved = front_moved equal key cache.entries in record {
        room = kept.room;
        most = omega (arith, as_many key cache.entries, kept.most);
        apart = IsDistinct-IsPermutation equal laws.symm (keys_of cache.entries) (keys_of moved) (IsPermutation-map (λ (e : K × V). e.0) cache.entries moved (moves key cache.entries)) kept.apart;
        names = All-permutation (λ (e : K × V). IsTrue (equal (named e.1) e.0)) cache.entries moved (moves key cache.entries) kept.names;
      }

  differ_taken : (n : ℕ) (key : K) (entries : List (K × V)) → AllDiffer equal key entries → AllDiffer equal key (take n entries)
  differ_taken zero key entries h = tt
  differ_taken (suc n) key [] h = tt
  differ_taken (suc n) key (e ∷ es) h = (h.0, differ_taken n key es h.1)

  apart_taken : (n : ℕ) (entries : List (K × V)) → IsDistinct equal (keys_of entries) → IsDistinct equal (keys_of (take n entries))
  unfolding IsDistinct
  apart_taken zero entries h = tt
  apart_taken (suc n) [] h = tt
  apart_taken (suc n) (e ∷ es) h = (differ_taken n e.0 es h.0, apart_taken n es h.1)

  -- a fresh key with its value goes to the front, and the last falls out of a full list
  pub put_is : (cache : LruCache K V) (key : K) (value : V) → cache.cap ≡ most_kept → is_kept equal key cache.entries ≡ false → put_entries equal cache key value ≡ kept_with key value cache.entries
  put_is cache key value room fresh =
      ap (λ o. option_map_or (λ e. (e.0, value) ∷ remove_entry (equal key) cache.entries) o ((key, value) ∷ take (cache.cap - 1) cache.entries)) (none_found equal key cache.entries (differ_from_any equal key cache.entries fresh))
      ∙ ap (λ n. (key, value) ∷ take (n - 1) cache.entries) room

  pub put_cache : (cache : LruCache K V) (key : K) (value : V) → IsCache equal named cache → IsTrue (equal (named value) key) → is_kept equal key cache.entries ≡ false
      → IsCache equal named (lru_cache (kept_with key value cache.entries) cache.cap)
  put_cache cache key value kept names fresh =
      let rest : List (K × V) = take 4095 cache.entries in record {
        room = kept.room;
        most = omega (arith, length-take 4095 cache.entries);
        apart = IsDistinct-cons equal key (keys_of rest) (differ_taken 4095 key cache.entries (differ_from_any equal key cache.entries fresh)) (apart_taken 4095 cache.entries kept.apart);
        names = All-cons (λ (e : K × V). IsTrue (equal (named e.1) e.0)) (key, value) rest names (All-take (λ (e : K × V). IsTrue (equal (named e.1) e.0)) 4095 cache.entries kept.names);
      }

  found_named : IsEquivalence equal → (key : K) (entries : List (K × V)) → AreNamed equal named entries → (found : Option V) → lookup (equal key) entries ≡ found → IfSome found (λ v. IsTrue (equal (named v) key))
  found_named laws key entries names None h = tt
  found_named laws key entries names (Some v) h =
      let at = Contains-lookup (equal key) entries v h in
      let own : IsTrue (equal (named v) at.0) = All-contains (λ (e : K × V). IsTrue (equal (named e.1) e.0)) entries (at.0, v) names at.1 in
      laws.congr (named v) at.0 key own ∙ laws.symm at.0 key ∙ at.2

  -- a value that is found names a key that equals the one that was looked for
  pub lookup_named : IsEquivalence equal → (key : K) (entries : List (K × V)) → AreNamed equal named entries → IfSome (lookup (equal key) entries) (λ v. IsTrue (equal (named v) key))
  lookup_named laws key entries names = found_named laws key entries names (lookup (equal key) entries) refl
