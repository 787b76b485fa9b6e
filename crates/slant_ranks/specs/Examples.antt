-- Ranks of quotient positions, the parts that they tell, and what lies at places, proved by computation.
use Rattle.std.specs.Prelude.{◌≡◌, refl, ℕ, pos, true, false, List, [], ◌∷◌, Some, None, map}
use Rattle.tree_forms.specs.Trees.{Leaf}
use Rattle.surd_order.specs.declared.position.Pos.TheVariants as position
use Rattle.surd_order.specs.PlaceOrder.{place_cmp}
use Rattle.surd_quot.specs.declared.position.QPos.{QPos}
use Rattle.surd_quot.specs.declared.position.QPos.TheVariants.{Frac, Quot}
use Rattle.surd_quot.specs.PlaceOrder.{quotient_cmp}
use Rattle.bool_weave.specs.declared.woven.Woven.{Woven}
use Rattle.overlap_list.specs.Firsts.{TreeRegion, partitions_by}
use Rattle.order_laws.specs.Ranks.{whole}
use Rattle.order_laws.specs.Parts.{Part}
use Rattle.order_laws.specs.Points.{winner_there}
use Rattle.slant_ranks.specs.Slants.{SlantSegment, slant_up_to, slant_parts, woven_by_ranks, slant_part_by_ranks, slant_of}

-- a segment of an instance
abbrev from_to : ℕ → QPos → QPos → SlantSegment
from_to instance a b = record { instance = instance; start = a; end = b }

-- (1 + √5) / 2, about 1.618
abbrev golden : QPos
golden = Quot (pos 1) true 5 2

-- from 0 to √1250
abbrev pub longer : SlantSegment
longer = from_to 0 (Frac (pos 0) (pos 1)) (Quot (pos 0) true 1250 1)

-- from 8/5 to (1 + √5) / 2
abbrev pub shorter : SlantSegment
shorter = from_to 1 (Frac (pos 8) (pos 5)) golden

abbrev pub two_pieces : List SlantSegment
two_pieces = longer ∷ shorter ∷ []

abbrev rank_to_rank : ℕ → ℕ → ℕ → Woven
rank_to_rank instance a b = record { instance = instance; seg = record { start = whole a; start_face = 0; end = whole b; end_face = 0 } }

-- on a ray of 100 steps the cuts are 0, 8/5, (1 + √5) / 2, √1250 and 100
their_ranks : woven_by_ranks (pos 100) two_pieces ≡ rank_to_rank 0 0 3 ∷ rank_to_rank 1 1 2 ∷ []
unfolding place_cmp quotient_cmp
their_ranks = refl

-- the region of the one instance
abbrev region : ℕ → TreeRegion
region instance = record { air = false; first = instance; count = 1; tree = Leaf (Some 0) }

-- the shorter one stands first, and wins where it is
abbrev regions : List TreeRegion
regions = region 1 ∷ region 0 ∷ []

abbrev part : ℕ → QPos → QPos → Part QPos
part r a b = record { region = r; start = a; end = b }

their_parts : slant_parts (pos 100) two_pieces regions
    ≡ part 1 (Frac (pos 0) (pos 1)) (Frac (pos 8) (pos 5)) ∷ part 0 (Frac (pos 8) (pos 5)) golden ∷ part 1 golden (Quot (pos 0) true 1250 1) ∷ []
unfolding place_cmp quotient_cmp
their_parts = refl

told_by_ranks : map (slant_part_by_ranks (pos 100) two_pieces) (partitions_by (woven_by_ranks (pos 100) two_pieces) regions)
    ≡ part 1 (Frac (pos 0) (pos 1)) (Frac (pos 8) (pos 5)) ∷ part 0 (Frac (pos 8) (pos 5)) golden ∷ part 1 golden (Quot (pos 0) true 1250 1) ∷ []
unfolding place_cmp quotient_cmp
told_by_ranks = refl

-- 809/500 lies before (1 + √5) / 2, 1619/1000 behind it, and 36 behind √1250
before_the_root : winner_there (slant_up_to (pos 100)) two_pieces regions (Frac (pos 809) (pos 500)) ≡ Some 0
unfolding place_cmp quotient_cmp
before_the_root = refl

behind_the_root : winner_there (slant_up_to (pos 100)) two_pieces regions (Frac (pos 1619) (pos 1000)) ≡ Some 1
unfolding place_cmp quotient_cmp
behind_the_root = refl

behind_all : winner_there (slant_up_to (pos 100)) two_pieces regions (Frac (pos 36) (pos 1)) ≡ None
unfolding place_cmp quotient_cmp
behind_all = refl

-- a plain ray from 5/2 to 10 - √23
plain_piece : slant_of (record { instance = 0; seg = record { start = position.Frac (pos 5) (pos 2); start_face = 1; end = position.Surd (pos 10) false 23; end_face = 2 } })
    ≡ from_to 0 (Frac (pos 5) (pos 2)) (Quot (pos 10) false 23 1)
plain_piece = refl
