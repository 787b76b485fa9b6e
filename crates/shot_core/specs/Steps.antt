-- Words of the code: which regions a ray hits, and how the regions that it hits stand among all of them.
use Rattle.std.specs.Prelude.{◌≤◌, ◌+◌, ℕ, List, [], ◌∷◌, Bool, true, false, cond, Option, Some, None, ◌++◌, ◌==◌, map, slice_get, slice_index_or}
use Rattle.std.specs.List.{list_any}
use Rattle.std.specs.List.Sorted.{IsNonDecreasingBy}
use Rattle.std.specs.Option.{ForSome}
use Rattle.lattice_core.specs.declared.ray.Ray.{Ray}
use Rattle.surd_order.specs.declared.position.Seg.{Seg}
use Rattle.solid_set.specs.Segments.{segment_of}
use Rattle.solid_set.specs.Levels.{IsFaceOn}
use Rattle.tree_forms.specs.Trees.{Leaf}
use Rattle.bool_weave.specs.declared.mask.MaskNode.{MaskNode}
use Rattle.bool_weave.specs.declared.mask.MaskNode.TheVariants as node
use Rattle.bool_weave.specs.declared.woven.Woven.{Woven}
use Rattle.overlap_list.specs.declared.hit.Hit.{Hit}
use Rattle.overlap_list.specs.declared.region.RegionClaims.{RegionClaims}
use Rattle.overlap_list.specs.declared.partition.Partition.{Partition}
use Rattle.overlap_list.specs.declared.overlap.OverlapRun.{OverlapRun}
use Rattle.shot_core.specs.Regions.{Instance, Region, instances_of, firsts_from}
use Rattle.shot_core.specs.MetBoxes.{meets_ray}
use Rattle.shot_core.specs.Shots.{woven_if, body_claims}

abbrev pub is_leaf : MaskNode → Bool
is_leaf (node.Leaf i) = true
is_leaf node.Never = true
is_leaf node.U = false
is_leaf node.N = false
is_leaf node.Minus = false
is_leaf node.X = false

-- each number is at least the one before it
abbrev pub NeverFalls : List ℕ → Type 0
NeverFalls numbers = IsNonDecreasingBy (λ n. n) numbers

abbrev pub is_some : Option Seg → Bool
is_some None = false
is_some (Some seg) = true

-- whether an instance has a segment
abbrev pub has_segment : Ray → Instance → Bool
has_segment ray i = is_some (segment_of i.surface ray)

-- whether some instance of a region passes a test
abbrev pub has_some : (Instance → Bool) → Region → Bool
has_some has r = list_any has r.body.instances

-- whether some instance of a region has one
abbrev pub is_hit : Ray → Region → Bool
is_hit ray r = list_any (has_segment ray) r.body.instances

-- the numbers of the marked ones of values that are numbered from `n` on
abbrev pub marked_from : ℕ → List Bool → List ℕ
marked_from n [] = []
marked_from n (m ∷ marks) = cond m (n ∷ marked_from (n + 1) marks) (marked_from (n + 1) marks)

-- the numbers of the regions that are hit
abbrev pub hit_from : Ray → ℕ → List Region → List ℕ
hit_from ray n regions = marked_from n (map (is_hit ray) regions)

-- the instances of regions that are numbered from `n` on, each with the number of its region
abbrev pub owned_from : ℕ → List Region → List (ℕ × Instance)
owned_from n [] = []
owned_from n (r ∷ rest) = map (λ i. (n, i)) r.body.instances ++ owned_from (n + 1) rest

-- whether a number is the last one of a list
abbrev pub is_last : ℕ → List ℕ → Bool
is_last n [] = false
is_last n (m ∷ []) = m == n
is_last n (m ∷ k ∷ rest) = is_last n (k ∷ rest)

-- the numbers, with one more at the end where it is not the last one already
abbrev pub noted : List ℕ → ℕ → List ℕ
noted numbers n = cond (is_last n numbers) numbers (numbers ++ n ∷ [])

-- what is woven in and which regions are noted, with the instance of a number, if there is one: its segment is woven in, and its
-- region is noted where it has one
abbrev pub with_instance : Ray → ℕ → Option (ℕ × Instance) → List Woven × List ℕ → List Woven × List ℕ
with_instance ray number None s = s
with_instance ray number (Some one) s = (s.0 ++ woven_if number (segment_of one.1.surface ray), cond (has_segment ray one.1) (noted s.1 one.0) s.1)

-- and with the instances of several numbers, one after another
abbrev pub with_instances : Ray → List (ℕ × Instance) → List Woven × List ℕ → List ℕ → List Woven × List ℕ
with_instances ray owned s [] = s
with_instances ray owned s (number ∷ rest) = with_instances ray owned (with_instance ray number (slice_get owned number) s) rest

abbrev pub one_if : Bool → ℕ
one_if true = 1
one_if false = 0

-- how many of these instances have a box that the ray meets
abbrev pub met_among : Ray → List Instance → ℕ
met_among ray [] = 0
met_among ray (i ∷ rest) = one_if (meets_ray i.bounds ray) + met_among ray rest

-- a counter stayed or rose, by no more than so many steps
abbrev pub HasRisen : ℕ → ℕ → ℕ → Type 0
HasRisen most before now = (before ≤ now) × (now ≤ before + most)

abbrev pub no_region : Region
no_region = record { place = 0; path = []; body = record { id = 0; air = 0; rgb = record { r = 0; g = 0; b = 0 }; tree = Leaf None; instances = [] } }

-- what the region of a number claims
abbrev pub numbered_claims : List Woven → List Region → ℕ → RegionClaims
numbered_claims woven regions n = body_claims woven (slice_index_or (firsts_from 0 regions) n 0) (slice_index_or regions n no_region).body

-- the face that is hit is one at an end of the segment of the instance that is hit, or 0
abbrev pub IsHitOn : List Region → Ray → Hit → Type 0
IsHitOn regions ray hit = ForSome (slice_get (instances_of regions) hit.instance) (λ i. IsFaceOn i.surface ray hit.face)

-- a partition of regions that were picked by their numbers, as one of all regions
abbrev pub renumbered : List ℕ → Partition → Partition
renumbered numbers p = record p { region = slice_index_or numbers p.region 0 }

-- the same of an overlap
abbrev pub renumbered_run : List ℕ → OverlapRun → OverlapRun
renumbered_run numbers run = record run { one = slice_index_or numbers run.one 0; two = slice_index_or numbers run.two 0 }
