-- The places in a list of those boxes of which something holds.
use Rattle.std.specs.Prelude.{◌↔◌, ◌<◌, ◌+◌, ℕ, List, [], ◌∷◌, length, Bool, cond, Contains, slice_index_or}
use Rattle.std.specs.List.Sorted.{IsStrictlyIncreasing}
use Rattle.lattice_core.specs.declared.boxes.Box3.{Box3}
use Rattle.lattice_core.specs.declared.boxes.Box3.TheVariants.{Empty}

-- the places, in rising order, of exactly those boxes of which P holds
pub record ArePlacesOf (P : Box3 → Type 0) (boxes : List Box3) (places : List ℕ) : Type 0 where
  pub rising : IsStrictlyIncreasing places
  pub exact : (i : ℕ) → Contains places i ↔ ((i < length boxes) × P (slice_index_or boxes i Empty))

-- the places of the boxes of which a test holds, where the first box has a place that is given
abbrev pub places_from : ℕ → (Box3 → Bool) → List Box3 → List ℕ
places_from n f [] = []
places_from n f (b ∷ bs) = cond (f b) (n ∷ places_from (n + 1) f bs) (places_from (n + 1) f bs)

-- the places, counted from 0
abbrev pub places_where : (Box3 → Bool) → List Box3 → List ℕ
places_where f boxes = places_from 0 f boxes
