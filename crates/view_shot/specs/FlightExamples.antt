-- What the results of pieces in flight name and give, at views of one tile and of four.
use Rattle.std.specs.Prelude.{◌≡◌, ◌+◌, ◌<◌, ℕ, refl, pos, List, [], ◌∷◌, None, Some, codes, length, map, slice_index_or}
use Rattle.std.proofs.Common.{◌∙◌, ap, sym, arith}
use Rattle.std.specs.Arc.{arc_value}
use Rattle.lattice_core.specs.Vectors.{vector, zero_vector}
use Rattle.lattice_core.specs.declared.ray.Dir.TheVariants.{PlusX}
use Rattle.lattice_core.specs.declared.view.View.{View}
use Rattle.surd_order.specs.declared.position.Pos.TheVariants.{Frac}
use Rattle.surd_order.specs.PlaceOrder.{place_cmp}
use Rattle.tree_forms.specs.Trees.{Leaf}
use Rattle.solid_set.specs.declared.surface.Surface.TheVariants.{HalfSpace}
use Rattle.solid_set.specs.Bounds.{all_of_space}
use Rattle.shot_core.specs.declared.pair.Pair.{Pair}
use Rattle.shot_core.specs.Pruned.{kept_for}
use Rattle.shot_core.specs.Regions.{Region, RegionBody}
use Rattle.tile_shot.specs.Named.{NamedTile, TileName}
use Rattle.view_shot.specs.Flights.{IsOfPicture, NamesShot, pieces_of, posted_of}
use Rattle.view_shot.specs.Jobs.{NamesCheck}
use Rattle.view_shot.specs.Kept.{tile_name}
use Rattle.view_shot.specs.Named.{IsNamedReport, places_of, regions_at}
use Rattle.view_shot.specs.Steps.{if_kept, lacking}
use Rattle.view_shot.specs.declared.job.CheckJob.{CheckJob}
use Rattle.view_shot.specs.declared.job.TileJob.{TileJob}
use Rattle.view_shot.specs.declared.named.NamedPairs.{NamedPairs}
use Rattle.view_shot.specs.declared.named.SharedPairs.{SharedPairs}
use Rattle.view_shot.specs.declared.work.Shot.TheVariants.{Tile, Pairs}
use Rattle.view_shot.specs.declared.work.Work.TheVariants.{Picture}

-- the points with x at most 5, of this colour
abbrev half : ℕ → RegionBody
half red = record { id = 1000; air = 0; rgb = record { r = red; g = 0; b = 0 }; tree = Leaf (Some 0); instances = record { surface = HalfSpace (record { n = vector (pos 1) (pos 0) (pos 0); d = pos 5 }); bounds = all_of_space } ∷ [] }

abbrev at : ℕ → List ℕ → RegionBody → Region
at place path body = record { place = place; path = path; body = body }

abbrev one_pixel : View
one_pixel = record { corner = zero_vector; dir = PlusX; cell = pos 1; w = 1; h = 1 }

abbrev two_halves : TileName
two_halves = record { view = one_pixel; tile = 0; bodies = half 8 ∷ half 9 ∷ [] }

abbrev pair : ℕ → ℕ → Pair
pair one two = record { one = one; two = two; rays = 1; column = 0; row = 0; start = Frac (pos 0) (pos 1); end = Frac (pos 5) (pos 1) }

abbrev second_of : List Pair → ℕ
second_of [] = 0
second_of (p ∷ ps) = p.two

regions_of_two_places : regions_at (2 ∷ 5 ∷ []) (half 8 ∷ half 9 ∷ []) ≡ at 2 [] (half 8) ∷ at 5 [] (half 9) ∷ []
regions_of_two_places = refl

-- a place without a body is no region, nor is a body without a place
a_place_too_many : regions_at (2 ∷ 5 ∷ []) (half 8 ∷ []) ≡ at 2 [] (half 8) ∷ []
a_place_too_many = refl

a_body_too_many : regions_at (2 ∷ []) (half 8 ∷ half 9 ∷ []) ≡ at 2 [] (half 8) ∷ []
a_body_too_many = refl

-- the pairs tell of the places that name them
their_report : IsNamedReport two_halves (2 ∷ 5 ∷ []) (Some (pair 2 5 ∷ []))
unfolding place_cmp
their_report = refl

not_at_other_places : ¬ IsNamedReport two_halves (2 ∷ 6 ∷ []) (Some (pair 2 5 ∷ []))
unfolding place_cmp
not_at_other_places same = let seconds : 5 ≡ 6 = ap second_of same in omega (arith, seconds)

not_without_pairs : ¬ IsNamedReport two_halves (2 ∷ 5 ∷ []) (Some [])
unfolding place_cmp
not_without_pairs same = let counts : 0 ≡ 1 = ap (length {A = Pair}) same in omega (arith, counts)

not_too_many : ¬ IsNamedReport two_halves (2 ∷ 5 ∷ []) None
unfolding place_cmp
not_too_many many = let more : 2097152 < 1 = many in omega (arith, more)

-- one region overlaps nothing
no_overlap_of_one : IsNamedReport (record two_halves { bodies = half 8 ∷ [] }) (2 ∷ []) (Some [])
no_overlap_of_one = refl

-- where regions stand and what leads to them is no part of a tile's name; where they stand is part of what names its pairs
named_at_other_places : tile_name (at 1 (codes "/a") (half 8) ∷ []) one_pixel 0 ≡ tile_name (at 4 (codes "/b") (half 8) ∷ []) one_pixel 0
named_at_other_places = refl

their_places : places_of (kept_for (at 4 (codes "/b") (half 8) ∷ []) one_pixel 0) ≡ 4 ∷ []
their_places = refl

-- what is named as one piece's is not the next piece's
not_of_the_next_piece : (job : CheckJob) (i : ℕ) (named : NamedPairs) → NamesCheck job i named → ¬ NamesCheck job (i + 1) named
not_of_the_next_piece job i named here there =
    let tiles : job.first + i ≡ job.first + (i + 1) = ap (λ (k : TileName). k.tile) (sym here.0 ∙ there.0) in
    omega (arith, tiles)

-- places count
not_with_other_places : (job : CheckJob) (i : ℕ) (named other : NamedPairs) → NamesCheck job i named → ¬ (other.places ≡ named.places) → ¬ NamesCheck job i other
not_with_other_places job i named other here differ there = differ (there.1 ∙ sym here.1)

-- a value of another job is known again exactly by what it names
of_another_job : (job other : CheckJob) (i j : ℕ) (named : NamedPairs)
    → tile_name (arc_value other.scene) other.view (other.first + j) ≡ tile_name (arc_value job.scene) job.view (job.first + i)
    → places_of (kept_for (arc_value other.scene) other.view (other.first + j)) ≡ places_of (kept_for (arc_value job.scene) job.view (job.first + i))
    → NamesCheck other j named → NamesCheck job i named
of_another_job job other i j named keys places there = (there.0 ∙ keys, there.1 ∙ places)

-- of a picture that lacks the tiles 1 and 3, the tile of the first piece is not the second's
not_the_tile_of_the_next_piece : (job : TileJob) (tile : NamedTile) → job.tiles.items ≡ 1 ∷ 3 ∷ [] → NamesShot (Picture job) 0 (Tile tile) → ¬ NamesShot (Picture job) 1 (Tile tile)
not_the_tile_of_the_next_piece job tile tiles here there =
    let numbers : slice_index_or job.tiles.items 0 0 ≡ slice_index_or job.tiles.items 1 0 = ap (λ (k : TileName). k.tile) (sym here ∙ there) in
    let one : slice_index_or job.tiles.items 0 0 ≡ 1 = ap (λ (l : List ℕ). slice_index_or l 0 0) tiles in
    let three : slice_index_or job.tiles.items 1 0 ≡ 3 = ap (λ (l : List ℕ). slice_index_or l 1 0) tiles in
    omega (arith, numbers, one, three)

pairs_are_no_tile : (job : TileJob) (i : ℕ) (pairs : SharedPairs) → ¬ NamesShot (Picture job) i (Pairs pairs)
pairs_are_no_tile job i pairs named = named

-- a view of four tiles
abbrev four_tiles : View
four_tiles = record one_pixel { w = 64; h = 16 }

abbrev empty : ℕ → TileName
empty tile = record { view = four_tiles; tile = tile; bodies = [] }

abbrev whole_view : List TileName
whole_view = empty 0 ∷ empty 1 ∷ empty 2 ∷ empty 3 ∷ []

two_are_lacking : lacking (map (if_kept (empty 2 ∷ empty 0 ∷ [])) whole_view) 0 ≡ 1 ∷ 3 ∷ []
two_are_lacking = refl

all_are_lacking : lacking (map (if_kept []) whole_view) 0 ≡ 0 ∷ 1 ∷ 2 ∷ 3 ∷ []
all_are_lacking = refl

-- where all are kept the job has no piece
no_piece_where_all_are_kept : (scene : List Region) (job : TileJob) → IsOfPicture scene four_tiles (map (if_kept whole_view) whole_view) (Picture job) → pieces_of (Picture job) ≡ 0
no_piece_where_all_are_kept scene job is = let none : length job.tiles.items ≡ 0 = ap (length {A = ℕ}) is.2 in omega (arith, none, job.tiles.ok.0)

-- of a check as many tiles are posted as the view has, but no more than 1,024
all_tiles_are_posted : posted_of four_tiles ≡ 4
all_tiles_are_posted = refl

one_tile_is_posted : posted_of one_pixel ≡ 1
one_tile_is_posted = refl

the_first_ones_are_posted : posted_of (record one_pixel { w = 528; h = 512 }) ≡ 1024
the_first_ones_are_posted = refl
