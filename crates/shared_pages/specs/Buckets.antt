-- Where the value of a name stands: in a bucket of a row on a shelf.
use Rattle.std.specs.Prelude.{ℕ, ◌+◌, ◌*◌, ◌/◌, ◌%◌, ◌≡◌, fold, cond, List, [], slice_index_or, Option}
use Rattle.std.specs.Map.{lookup}
use Rattle.name_core.specs.declared.name.Name.{Name}
use Rattle.name_core.specs.Same.{same_name}

-- the number after one more byte
abbrev pub next_number : ℕ → ℕ → ℕ
next_number n b = (n * 31 + b) % 65521

-- a number of a name's bytes, under 65,521
abbrev pub name_number : Name → ℕ
name_number a = fold next_number 0 a

-- the shelf of a name, counted from 0
abbrev pub shelf_of : Name → ℕ
shelf_of a = name_number a % 16

-- its row on that shelf, counted from 0
abbrev pub row_of : Name → ℕ
row_of a = name_number a / 16 % 16

-- its bucket in that row, counted from 0
abbrev pub bucket_of : Name → ℕ
bucket_of a = name_number a / 256 % 16

-- the shelves of a map: on each rows, in each row buckets, in each bucket pairs; which pairs count, `value_of` says
abbrev pub Shelves : Type 0 → Type 0
Shelves V = List (List (List (List (Name × V))))

module _ {V : Type 0} where
  -- the pairs of a bucket, none where the lists end before it
  abbrev pub bucket_at : Shelves V → ℕ → ℕ → ℕ → List (Name × V)
  bucket_at shelves i j k = slice_index_or (slice_index_or (slice_index_or shelves i []) j []) k []

  -- the value of a name: that of the first pair with this name in the bucket of the name, none where there is no such pair
  abbrev pub value_of : Shelves V → Name → Option V
  value_of map a = lookup (same_name a) (bucket_at map (shelf_of a) (row_of a) (bucket_of a))

  -- new gives the name this value, or none, and each other name what old gives it
  abbrev pub Gives : Shelves V → Name → Option V → Shelves V → Type 0
  Gives old name value new = (a : Name) → value_of new a ≡ cond (same_name name a) value (value_of old a)
