-- Slanted rays: what they have of instances, and the parts that regions have of them.
use Rattle.std.specs.Prelude.{ℕ, ℤ, pos, List, map}
use Rattle.surd_quot.specs.declared.position.QPos.{QPos}
use Rattle.surd_quot.specs.declared.position.QPos.TheVariants.{Frac}
use Rattle.surd_quot.specs.Positions.{as_quotient_position}
use Rattle.surd_quot.specs.PlaceOrder.{quotient_cmp}
use Rattle.bool_weave.specs.declared.woven.Woven.{Woven}
use Rattle.bool_weave.specs.Cuts.{ray_length}
use Rattle.bool_weave.specs.Lines.{Line}
use Rattle.overlap_list.specs.declared.partition.Partition.{Partition}
use Rattle.overlap_list.specs.Firsts.{TreeRegion}
use Rattle.order_laws.specs.Ranks.{ranked_woven}
use Rattle.order_laws.specs.Parts.{Part, parts_along, part_by_ranks}
use Rattle.order_laws.specs.Points.{row_along}

-- what a slanted ray has of an instance: from a place to another, counted in steps of the vector along which the ray goes
pub record SlantSegment : Type 0 where
  pub instance : ℕ
  pub start : QPos
  pub end : QPos

-- a slanted ray from 0 to so many steps
abbrev pub slant_up_to : ℤ → Line SlantSegment QPos
slant_up_to far = record { order = quotient_cmp; from = Frac (pos 0) (pos 1); to = Frac far (pos 1); instance = λ w. w.instance; start = λ w. w.start; end = λ w. w.end }

-- its parts: the maximal runs of intervals with one winner, where each region claims the intervals in which its tree holds
abbrev pub slant_parts : ℤ → List SlantSegment → List TreeRegion → List (Part QPos)
slant_parts far segments regions = parts_along (slant_up_to far) segments (map (row_along (slant_up_to far) segments) regions)

-- its segments from rank to rank, as those of a plain ray
abbrev pub woven_by_ranks : ℤ → List SlantSegment → List Woven
woven_by_ranks far segments = map (ranked_woven (slant_up_to far) ray_length segments) segments

-- what a partition from rank to rank tells: its region has the part between the cuts of these ranks
abbrev pub slant_part_by_ranks : ℤ → List SlantSegment → Partition → Part QPos
slant_part_by_ranks far segments p = part_by_ranks (slant_up_to far) segments p

-- the segment of a plain ray as one of a slanted ray
abbrev pub slant_of : Woven → SlantSegment
slant_of w = record { instance = w.instance; start = as_quotient_position w.seg.start; end = as_quotient_position w.seg.end }

-- a partition of a plain ray without its hit, as a part of a slanted ray
abbrev pub part_of_partition : Partition → Part QPos
part_of_partition p = record { region = p.region; start = as_quotient_position p.start; end = as_quotient_position p.end }
