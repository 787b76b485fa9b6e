-- Partitions and overlaps of small rays, proved by computation.
use Rattle.std.specs.Prelude.{◌≡◌, refl, ℕ, pos, Bool, true, false, List, [], ◌∷◌}
use Rattle.surd_order.specs.declared.position.Pos.{Pos}
use Rattle.surd_order.specs.declared.position.Pos.TheVariants.{Frac, Surd}
use Rattle.surd_order.specs.PlaceOrder.{place_cmp}
use Rattle.bool_weave.specs.declared.woven.Woven.{Woven}
use Rattle.bool_weave.specs.Cuts.{ray_end}
use Rattle.overlap_list.specs.declared.region.RegionClaims.{RegionClaims}
use Rattle.overlap_list.specs.declared.partition.Partition.{Partition}
use Rattle.overlap_list.specs.declared.overlap.OverlapRun.{OverlapRun}
use Rattle.overlap_list.specs.Partitions.{partitions_of}
use Rattle.overlap_list.specs.Overlaps.{overlaps_of}

abbrev whole : ℕ → Pos
whole n = Frac (pos n) (pos 1)

-- an instance with a segment from one whole place to another, its faces being 1 and 2
abbrev from_to : ℕ → ℕ → ℕ → Woven
from_to instance a b = record { instance = instance; seg = record { start = whole a; start_face = 1; end = whole b; end_face = 2 } }

-- an instance from a whole place to the end of the ray
abbrev to_the_end : ℕ → ℕ → Woven
to_the_end instance a = record { instance = instance; seg = record { start = whole a; start_face = 1; end = ray_end; end_face = 2 } }

-- a region of `count` instances from `first` on, with the intervals that it claims
abbrev region : Bool → ℕ → ℕ → List Bool → RegionClaims
region air first count claims = record { air = air; first = first; count = count; claims = claims }

abbrev part : ℕ → ℕ → ℕ → ℕ → ℕ → Partition
part r a b instance face = record { region = r; start = whole a; end = whole b; hit = record { instance = instance; face = face } }

abbrev run : ℕ → ℕ → ℕ → ℕ → OverlapRun
run one two a b = record { one = one; two = two; start = whole a; end = whole b }

one_box : partitions_of (from_to 0 5 15 ∷ []) (region false 0 1 (false ∷ true ∷ false ∷ []) ∷ []) ≡ part 0 5 15 0 1 ∷ []
unfolding place_cmp
one_box = refl

no_region : partitions_of (from_to 0 5 15 ∷ []) [] ≡ []
unfolding place_cmp
no_region = refl

-- a cut inside a partition does not split it
touching_boxes_united : partitions_of (from_to 0 5 15 ∷ from_to 1 15 25 ∷ []) (region false 0 2 (false ∷ true ∷ true ∷ false ∷ []) ∷ []) ≡ part 0 5 25 0 1 ∷ []
unfolding place_cmp
touching_boxes_united = refl

touching_regions : partitions_of (from_to 0 5 15 ∷ from_to 1 15 25 ∷ []) (region false 0 1 (false ∷ true ∷ false ∷ false ∷ []) ∷ region false 1 1 (false ∷ false ∷ true ∷ false ∷ []) ∷ [])
    ≡ part 0 5 15 0 1 ∷ part 1 15 25 0 2 ∷ []
unfolding place_cmp
touching_regions = refl

-- where what is taken away ends, its end is hit
subtracted : partitions_of (from_to 0 5 25 ∷ from_to 1 10 20 ∷ []) (region false 0 2 (false ∷ true ∷ false ∷ true ∷ false ∷ []) ∷ []) ≡ part 0 5 10 0 1 ∷ part 0 20 25 1 2 ∷ []
unfolding place_cmp
subtracted = refl

-- the first region ends inside the second, and the first place wins
overlapping : partitions_of (from_to 0 5 15 ∷ from_to 1 10 20 ∷ []) (region false 0 1 (false ∷ true ∷ true ∷ false ∷ false ∷ []) ∷ region false 1 1 (false ∷ false ∷ true ∷ true ∷ false ∷ []) ∷ [])
    ≡ part 0 5 15 0 1 ∷ part 1 15 20 0 2 ∷ []
unfolding place_cmp
overlapping = refl

their_overlap : overlaps_of (from_to 0 5 15 ∷ from_to 1 10 20 ∷ []) (region false 0 1 (false ∷ true ∷ true ∷ false ∷ false ∷ []) ∷ region false 1 1 (false ∷ false ∷ true ∷ true ∷ false ∷ []) ∷ [])
    ≡ run 0 1 10 15 ∷ []
unfolding place_cmp
their_overlap = refl

-- a region without air wins against one with air of a lower place, and their overlap is not told
beside_air : partitions_of (from_to 0 5 15 ∷ from_to 1 10 20 ∷ []) (region true 0 1 (false ∷ true ∷ true ∷ false ∷ false ∷ []) ∷ region false 1 1 (false ∷ false ∷ true ∷ true ∷ false ∷ []) ∷ [])
    ≡ part 0 5 10 0 1 ∷ part 1 10 20 1 1 ∷ []
unfolding place_cmp
beside_air = refl

no_overlap_with_air : overlaps_of (from_to 0 5 15 ∷ from_to 1 10 20 ∷ []) (region true 0 1 (false ∷ true ∷ true ∷ false ∷ false ∷ []) ∷ region false 1 1 (false ∷ false ∷ true ∷ true ∷ false ∷ []) ∷ []) ≡ []
unfolding place_cmp
no_overlap_with_air = refl

-- a ray that begins inside the first region and ends with the second
whole_ray : partitions_of (from_to 0 0 15 ∷ to_the_end 1 15 ∷ []) (region false 0 1 (true ∷ false ∷ []) ∷ region false 1 1 (false ∷ true ∷ []) ∷ []) ≡ part 0 0 15 0 1 ∷ record { region = 1; start = whole 15; end = ray_end; hit = record { instance = 0; face = 2 } } ∷ []
unfolding place_cmp
whole_ray = refl

-- both boxes start at 5: the region with air loses, and its instance is hit, since it has the lower number
loser_hit : partitions_of (from_to 0 5 15 ∷ from_to 1 5 20 ∷ []) (region true 0 1 (false ∷ true ∷ false ∷ false ∷ []) ∷ region false 1 1 (false ∷ true ∷ true ∷ false ∷ []) ∷ []) ≡ part 1 5 20 0 1 ∷ []
unfolding place_cmp
loser_hit = refl

-- two stretches of one region, with a gap between
apart : partitions_of (from_to 0 5 15 ∷ from_to 1 20 30 ∷ []) (region false 0 2 (false ∷ true ∷ false ∷ true ∷ false ∷ []) ∷ []) ≡ part 0 5 15 0 1 ∷ part 0 20 30 1 1 ∷ []
unfolding place_cmp
apart = refl

-- two regions overlap twice, and the first of the runs is told
first_of_two_overlaps : overlaps_of (from_to 0 5 15 ∷ from_to 1 20 30 ∷ from_to 2 5 15 ∷ from_to 3 20 30 ∷ [])
    (region false 0 2 (false ∷ true ∷ false ∷ true ∷ false ∷ []) ∷ region false 2 2 (false ∷ true ∷ false ∷ true ∷ false ∷ []) ∷ []) ≡ run 0 1 5 15 ∷ []
unfolding place_cmp
first_of_two_overlaps = refl

-- of three regions in one place each pair is told, by the lower place and then the higher one
three_pairs : overlaps_of (from_to 0 5 15 ∷ from_to 1 5 15 ∷ from_to 2 5 15 ∷ [])
    (region false 0 1 (false ∷ true ∷ false ∷ []) ∷ region false 1 1 (false ∷ true ∷ false ∷ []) ∷ region false 2 1 (false ∷ true ∷ false ∷ []) ∷ [])
    ≡ run 0 1 5 15 ∷ run 0 2 5 15 ∷ run 1 2 5 15 ∷ []
unfolding place_cmp
three_pairs = refl

-- a ball that is met at 10-sqrt(23) and left at 10+sqrt(23)
abbrev ball : Woven
ball = record { instance = 0; seg = record { start = Surd (pos 10) false 23; start_face = 1; end = Surd (pos 10) true 23; end_face = 1 } }

-- a half-space that the ray begins in and leaves at a fraction
abbrev half_until : ℕ → ℕ → Woven
half_until p q = record { instance = 1; seg = record { start = whole 0; start_face = 0; end = Frac (pos p) (pos q); end_face = 1 } }

-- it is taken from the ball: it ends before the ball at 26/5, since 23 times 25 is below 24 times 24
ball_less_half_before : partitions_of (ball ∷ half_until 26 5 ∷ []) (region false 0 2 (false ∷ false ∷ true ∷ false ∷ []) ∷ [])
    ≡ record { region = 0; start = Surd (pos 10) false 23; end = Surd (pos 10) true 23; hit = record { instance = 0; face = 1 } } ∷ []
unfolding place_cmp
ball_less_half_before = refl

-- at 27/5 it ends inside, and its end is hit
ball_less_half_inside : partitions_of (ball ∷ half_until 27 5 ∷ []) (region false 0 2 (false ∷ false ∷ true ∷ false ∷ []) ∷ [])
    ≡ record { region = 0; start = Frac (pos 27) (pos 5); end = Surd (pos 10) true 23; hit = record { instance = 1; face = 1 } } ∷ []
unfolding place_cmp
ball_less_half_inside = refl
