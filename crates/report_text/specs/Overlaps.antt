-- The lines of the regions that overlap.
use Rattle.std.specs.Prelude.{◌≤◌, ◌<◌, ℕ, List, [], ◌++◌, ◌==◌, map, find, length, codes, decimal, Option, None, Some}
use Rattle.surd_order.specs.Text.{position_text}
use Rattle.transcript.specs.Lines.{text_of, ended}
use Rattle.overlap_list.specs.declared.overlap.TheConstants.{MOST_PAIRS}
use Rattle.shot_core.specs.Regions.{Region}
use Rattle.shot_core.specs.declared.pair.Pair.{Pair}

abbrev pub path_in : Option Region → List ℕ
path_in None = []
path_in (Some region) = region.path

-- the path of the region of a place
abbrev pub path_at : List Region → ℕ → List ℕ
path_at regions place = path_in (find (λ r. r.place == place) regions)

-- a place and the path of its region
abbrev pub place_words : List Region → ℕ → List ℕ
place_words regions place = decimal place ++ (codes " " ++ path_at regions place)

-- on how many rays a pair overlaps, the first of them, and where their overlap on it starts and ends
abbrev pub rays_words : Pair → List ℕ
rays_words pair =
    codes " rays " ++ (decimal pair.rays ++ (codes " first " ++ (decimal pair.column ++ (codes " " ++ (decimal pair.row ++ (codes " " ++ (position_text pair.start ++ (codes " " ++ position_text pair.end))))))))

abbrev pub pair_line : List Region → Pair → List ℕ
pair_line regions pair = codes "overlap " ++ (place_words regions pair.one ++ (codes " " ++ (place_words regions pair.two ++ rays_words pair)))

-- a line for each pair of regions that overlap, in order
abbrev pub overlap_lines : List Region → List Pair → List (List ℕ)
overlap_lines regions pairs = map (pair_line regions) pairs

-- a line has 32 bytes at least, its line feed included
abbrev pub LinesAreLong : Type 0
LinesAreLong = (regions : List Region) (pair : Pair) → 32 ≤ length (ended (pair_line regions pair))

-- so the lines of over 2,097,152 pairs have over 67,108,864 bytes
abbrev pub ManyPairsAreLong : Type 0
ManyPairsAreLong = (regions : List Region) (pairs : List Pair) → MOST_PAIRS < length pairs → 67108864 < length (text_of (overlap_lines regions pairs))
