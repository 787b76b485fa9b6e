-- A map that is open at a name.
use Rattle.std.specs.Prelude.{◌≡◌, ◌<◌, ℕ, List, length, slice_set}
use Rattle.name_core.specs.declared.name.Name.{Name}
use Rattle.shared_pages.specs.Buckets.{Shelves, shelf_of, row_of, bucket_of}

-- what contracts see of a map that is open at a name: the map with its parts in their places, and the name
pub record OpenMap (V : Type 0) : Type 0 where
  pub map : Shelves V
  pub name : Name

module _ {V : Type 0} where
  -- the map of parts that stand apart: the bucket is put in its place in the row, the row on the shelf, and the shelf among the shelves; what stood there is gone
  abbrev pub rejoined : Shelves V → ℕ → List (List (List (Name × V))) → ℕ → List (List (Name × V)) → ℕ → List (Name × V) → Shelves V
  rejoined shelves i shelf j row k bucket = slice_set shelves i (slice_set shelf j (slice_set row k bucket))

  -- i, j and k are the places of the name, and the shelves have a place i, the shelf a place j and the row a place k
  pub record HasPlaces (shelves : Shelves V) (i : ℕ) (shelf : List (List (List (Name × V)))) (j : ℕ) (row : List (List (Name × V))) (k : ℕ) (a : Name) : Type 0 where
    pub shelf_is : i ≡ shelf_of a
    pub row_is : j ≡ row_of a
    pub bucket_is : k ≡ bucket_of a
    pub among_shelves : i < length shelves
    pub on_shelf : j < length shelf
    pub in_row : k < length row
