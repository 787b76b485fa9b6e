-- What is kept, as a list of keys with their values, the last used first.
use Rattle.std.specs.Prelude.{◌≡◌, ◌≤◌, ◌++◌, ℕ, Bool, IsTrue, not, List, ◌∷◌, filter, take, length, All}
use Rattle.std.specs.List.{IsDistinct, list_any}
use Rattle.std.specs.Map.{keys_of}
use Rattle.lru.specs.LruCache.{LruCache}

-- How many values are kept at most.
abbrev pub most_kept : ℕ
most_kept = 4096

module _ {K V : Type 0} where
  -- The first 4,096 of a list.
  abbrev pub cut : List (K × V) → List (K × V)
  cut entries = take most_kept entries

  -- The list with one more value at the front, and cut.
  abbrev pub kept_with : K → V → List (K × V) → List (K × V)
  kept_with key value entries = cut ((key, value) ∷ entries)

  module _ (equal : K → K → Bool) where
    -- Whether some key of the list equals this one.
    abbrev pub is_kept : K → List (K × V) → Bool
    is_kept key entries = list_any (equal key) (keys_of entries)

    -- What has a key that equals this one goes first, and all else follows in its order.
    abbrev pub front_moved : K → List (K × V) → List (K × V)
    front_moved key entries = filter (λ entry. equal key entry.0) entries ++ filter (λ entry. not (equal key entry.0)) entries

    module _ (named : V → K) where
      -- Each value names a key that equals the one with which it is kept.
      abbrev pub AreNamed : List (K × V) → Type 0
      AreNamed entries = All (λ entry. IsTrue (equal (named entry.1) entry.0)) entries

      -- What holds of all that is kept, and of the table behind it.
      pub record IsCache (cache : LruCache K V) : Type 0 where
        pub room : cache.cap ≡ most_kept
        pub most : length cache.entries ≤ most_kept
        pub apart : IsDistinct equal (keys_of cache.entries)
        pub names : AreNamed cache.entries
