-- Tiles with what names them.
use Rattle.std.specs.Prelude.{◌≡◌, ℕ, List, Bool, nat_le, map, refl}
use Rattle.std.specs.Coded.{Coded, code_by, coded×, coded_ℕ, coded_list}
use Rattle.lattice_core.specs.declared.view.View.{View}
use Rattle.lattice_core.specs.contracts.view.View as views
use Rattle.shot_core.specs.Regions.{RegionBody, Region, size_of, total_of}
use Rattle.shot_core.specs.Prepared.{body_code}
use Rattle.tile_shot.specs.Pixels.{tile_bytes, bodies_of}

-- what names a tile: the view, its number, and what the regions are wherever they stand
pub record TileName : Type 0 where
  pub view : View
  pub tile : ℕ
  pub bodies : List RegionBody

-- the name of a tile of a view of regions
abbrev pub name_of : List Region → View → ℕ → TileName
name_of regions view tile = record { view = view; tile = tile; bodies = bodies_of regions }

-- the size of all bodies together
abbrev pub size_of_bodies : List RegionBody → ℕ
size_of_bodies bodies = total_of (map size_of bodies)

-- the greatest size of the bodies of a tile that may be kept
abbrev pub most_tile_size : ℕ
most_tile_size = 128

-- whether the size of all bodies together is no greater
abbrev pub are_small : List RegionBody → Bool
are_small bodies = nat_le (size_of_bodies bodies) most_tile_size

-- whether a tile of that name may be kept
abbrev pub is_small_name : TileName → Bool
is_small_name name = are_small name.bodies

-- the bytes are those of the tile of that name
abbrev pub IsShot : TileName → List ℕ → Type 0
IsShot key bytes = bytes ≡ tile_bytes key.bodies key.view key.tile

-- the bytes of a tile, with its name
pub record NamedTile : Type 0 where
  pub key : TileName
  pub bytes : List ℕ

abbrev pub name_code : Coded TileName
name_code =
    code_by (View × (ℕ × List RegionBody)) (coded× views.the_row.coded (coded× coded_ℕ (coded_list body_code))) (λ k. (k.view, (k.tile, k.bodies)))
    (λ p. record { view = p.0; tile = p.1.0; bodies = p.1.1 }) (λ _. refl)

abbrev pub tile_code : Coded NamedTile
tile_code = code_by (TileName × List ℕ) (coded× name_code (coded_list coded_ℕ)) (λ t. (t.key, t.bytes)) (λ p. record { key = p.0; bytes = p.1 }) (λ _. refl)
