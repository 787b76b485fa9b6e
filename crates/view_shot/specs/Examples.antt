-- What is kept after small pictures, by computation.
use Rattle.std.specs.Prelude.{◌≡◌, ℕ, refl, pos, List, [], ◌∷◌, replicate}
use Rattle.tree_forms.specs.Trees.{Leaf}
use Rattle.std.specs.Prelude.{Some}
use Rattle.lattice_core.specs.declared.ray.Dir.TheVariants.{PlusX}
use Rattle.lattice_core.specs.declared.view.View.{View}
use Rattle.shot_core.specs.Regions.{RegionBody}
use Rattle.tile_shot.specs.Named.{TileName}
use Rattle.view_shot.specs.Kept.{after_picture, moved, put_in, reused, shot}

-- a view of 64 by 16 pixels, which has four tiles
abbrev four_tiles : View
four_tiles = record { corner = record { x = pos 0; y = pos 0; z = pos 0 }; dir = PlusX; cell = pos 1; w = 64; h = 16 }

-- a region of this colour, whose tree is one leaf
abbrev of_colour : ℕ → RegionBody
of_colour red = record { id = 1000; air = 0; rgb = record { r = red; g = 0; b = 0 }; tree = Leaf (Some 0); instances = [] }

-- a tile of the view with this region
abbrev name : ℕ → ℕ → TileName
name red tile = record { view = four_tiles; tile = tile; bodies = of_colour red ∷ [] }

abbrev grey : ℕ → TileName
grey tile = name 9 tile

abbrev whole_view : List TileName
whole_view = grey 0 ∷ grey 1 ∷ grey 2 ∷ grey 3 ∷ []

kept_ones_are_reused : reused (grey 2 ∷ grey 0 ∷ []) whole_view ≡ grey 0 ∷ grey 2 ∷ []
kept_ones_are_reused = refl

the_others_are_shot : shot (grey 2 ∷ grey 0 ∷ []) whole_view ≡ grey 1 ∷ grey 3 ∷ []
the_others_are_shot = refl

-- a region of another colour is another region
another_colour_is_not_reused : reused (name 8 0 ∷ []) whole_view ≡ []
another_colour_is_not_reused = refl

-- so is a tile of another number, or of another view
another_number_is_not_reused : reused (grey 4 ∷ record (grey 0) { view = record four_tiles { cell = pos 2 } } ∷ []) whole_view ≡ []
another_number_is_not_reused = refl

it_goes_to_the_front : moved (grey 5 ∷ grey 2 ∷ grey 7 ∷ []) (grey 2) ≡ grey 2 ∷ grey 5 ∷ grey 7 ∷ []
it_goes_to_the_front = refl

-- the reused ones move, one after the other, and then the shot ones are put before them
after_the_whole_view : after_picture (grey 2 ∷ grey 0 ∷ grey 9 ∷ []) whole_view ≡ grey 3 ∷ grey 1 ∷ grey 2 ∷ grey 0 ∷ grey 9 ∷ []
after_the_whole_view = refl

-- all are reused, and their order turns round
after_the_view_again : after_picture whole_view whole_view ≡ grey 3 ∷ grey 2 ∷ grey 1 ∷ grey 0 ∷ []
after_the_view_again = refl

-- one more in a full list: the last one falls out
a_full_list_is_cut : put_in (replicate 4096 (grey 9)) (grey 1) ≡ grey 1 ∷ replicate 4095 (grey 9)
a_full_list_is_cut = refl

-- regions of this many leaves together
abbrev large : ℕ → TileName
large count = record { view = four_tiles; tile = 0; bodies = replicate count (of_colour 9) }

a_size_of_128_is_kept : after_picture [] (large 128 ∷ []) ≡ large 128 ∷ []
a_size_of_128_is_kept = refl

a_size_of_129_is_not : after_picture [] (large 129 ∷ []) ≡ []
a_size_of_129_is_not = refl
