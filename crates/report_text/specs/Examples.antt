-- The lines of small directories, of single shots, of overlaps and of areas, proved by computation.
use Rattle.std.specs.Prelude.{◌≡◌, ◌-◌, refl, ℕ, pos, negsuc, List, [], ◌∷◌, None, Some, true, false, codes, slice_index_or}
use Rattle.std.specs.Fmt.{digits}
use Rattle.surd_order.specs.declared.position.Pos.{Pos}
use Rattle.surd_order.specs.declared.position.Pos.TheVariants.{Frac, Surd}
use Rattle.surd_quot.specs.declared.position.QPos.{QPos}
use Rattle.surd_quot.specs.declared.position.QPos.TheVariants as quotient
use Rattle.solid_set.specs.declared.solid.Solid.{Solid as AnySolid}
use Rattle.region_attr.specs.Attrs.{region_attr, group_attr}
use Rattle.object_set.specs.declared.object.Body.TheVariants.{Solid, Comb}
use Rattle.overlap_list.specs.declared.hit.Hit.{Hit}
use Rattle.shot_core.specs.Regions.{RegionBody, Region}
use Rattle.shot_core.specs.declared.shot.Lit.{Lit}
use Rattle.oblique_ray.specs.declared.slab.Slab.{Slab}
use Rattle.tree_forms.specs.declared.Op.TheVariants.{U, N, Minus, X}
use Rattle.tree_forms.specs.Trees.{Tree, Leaf, Join}
use Rattle.lattice_core.specs.declared.placement.Placement.{Placement}
use Rattle.comb_tree.specs.Nodes.{Member}
use Rattle.directory.specs.Walks.{Entries}
use Rattle.report_text.specs.Listings.{listings, written_lines}
use Rattle.report_text.specs.Names.{names_lines}
use Rattle.report_text.specs.Shots.{shot_lines}
use Rattle.report_text.specs.Slants.{slant_lines}
use Rattle.report_text.specs.Areas.{area_lines}
use Rattle.report_text.specs.Overlaps.{overlap_lines}

no_lines : names_lines [] ≡ []
no_lines = refl

-- a solid, a region and another combination
three_lines : (s : AnySolid)
    → names_lines ((codes "s1", record { body = Solid s; kept = [] }) ∷ (codes "a.r", record { body = Comb region_attr None; kept = [] }) ∷ (codes "b", record { body = Comb group_attr None; kept = [] }) ∷ [])
    ≡ codes "s1" ∷ codes "a.r/R" ∷ codes "b/" ∷ []
three_lines s = refl

-- a region and a part of a ray, by what their line tells
abbrev region_at : RegionBody → ℕ → List ℕ → Region
region_at body place path = record { place = place; path = path; body = body }

abbrev part_of : Hit → ℕ → Pos → Pos → Lit
part_of hit region start end = record { region = region; start = start; end = end; hit = hit; level = 255 }

-- whatever the regions' bodies are, and whatever is hit
module _ (body : RegionBody) (hit : Hit) where
  nothing_met : shot_lines (region_at body 1 (codes "/s") ∷ []) [] ≡ []
  nothing_met = refl

  fractions : shot_lines (region_at body 1 (codes "/s") ∷ []) (part_of hit 0 (Frac (negsuc 0) (pos 3)) (Frac (pos 7) (pos 2)) ∷ []) ≡ codes "1 /s -1/3 7/2" ∷ []
  unfolding digits
  fractions = refl

  roots : shot_lines (region_at body 12 (codes "/all/c.r") ∷ []) (part_of hit 0 (Surd (pos 10) false 23) (Surd (pos 0) true 2) ∷ []) ≡ codes "12 /all/c.r 10-sqrt(23) 0+sqrt(2)" ∷ []
  unfolding digits
  roots = refl

  -- the lines come in the order of the ray, with the places of the regions in the scene
  two_lines : shot_lines (region_at body 2 (codes "/a") ∷ region_at body 5 (codes "/b#1") ∷ [])
      (part_of hit 1 (Frac (pos 0) (pos 1)) (Frac (pos 5) (pos 1)) ∷ part_of hit 0 (Frac (pos 5) (pos 1)) (Surd (pos 10) true 23) ∷ [])
      ≡ codes "5 /b#1 0 5" ∷ codes "2 /a 5 10+sqrt(23)" ∷ []
  unfolding digits
  two_lines = refl

-- a part of a ray in a lattice direction, by what its line tells
abbrev slab_of : ℕ → QPos → QPos → Slab
slab_of region start end = record { region = region; start = start; end = end }

abbrev ray_start : QPos
ray_start = quotient.Frac (pos 0) (pos 1)

-- rays in lattice directions, whatever the regions' bodies are
module _ (body : RegionBody) where
  nothing_met_aslant : slant_lines (region_at body 1 (codes "/s") ∷ []) [] ≡ []
  nothing_met_aslant = refl

  a_fraction : slant_lines (region_at body 1 (codes "/w") ∷ []) (slab_of 0 ray_start (quotient.Frac (pos 40) (pos 1)) ∷ []) ≡ codes "1 /w 0 40" ∷ []
  unfolding digits
  a_fraction = refl

  a_divided_root : slant_lines (region_at body 1 (codes "/s") ∷ []) (slab_of 0 ray_start (quotient.Quot (pos 30) true 5700 3) ∷ []) ≡ codes "1 /s 0 (30+sqrt(5700))/3" ∷ []
  unfolding digits
  a_divided_root = refl

  -- the divisor 1 is not written
  roots_aslant : slant_lines (region_at body 2 (codes "/a") ∷ region_at body 5 (codes "/b#1") ∷ [])
      (slab_of 1 ray_start (quotient.Quot (pos 0) true 1250 1) ∷ slab_of 0 (quotient.Quot (pos 90) false 50 2) (quotient.Frac (pos 141) (pos 2)) ∷ [])
      ≡ codes "5 /b#1 0 0+sqrt(1250)" ∷ codes "2 /a (90-sqrt(50))/2 141/2" ∷ []
  unfolding digits
  roots_aslant = refl

-- counts of pixels, by place from 1
abbrev by_place : List ℕ → ℕ → ℕ
by_place counts place = slice_index_or counts (place - 1) 0

-- regions that pixels present, whatever their bodies are
module _ (body : RegionBody) where
  no_areas : area_lines [] (by_place (100 ∷ [])) ≡ []
  no_areas = refl

  two_areas : area_lines (region_at body 1 (codes "/a") ∷ region_at body 2 (codes "/b") ∷ []) (by_place (100 ∷ 100 ∷ [])) ≡ codes "area 1 /a 100" ∷ codes "area 2 /b 100" ∷ []
  unfolding digits
  two_areas = refl

  -- no line for a region that no pixel presents, nor for one behind the counts; places are not those of the list
  areas_of_hidden_regions : area_lines (region_at body 1 (codes "/a") ∷ region_at body 3 (codes "/c#1") ∷ region_at body 4 (codes "/d") ∷ region_at body 12 (codes "/e") ∷ []) (by_place (0 ∷ 7 ∷ 4194304 ∷ 0 ∷ [])) ≡ codes "area 3 /c#1 4194304" ∷ []
  unfolding digits
  areas_of_hidden_regions = refl

-- regions that overlap, whatever their bodies are
module _ (body : RegionBody) where
  abbrev two_regions : List Region
  two_regions = region_at body 1 (codes "/a.r") ∷ region_at body 2 (codes "/b.r") ∷ []

  no_overlaps : overlap_lines two_regions [] ≡ []
  no_overlaps = refl

  an_overlap : overlap_lines two_regions (record { one = 1; two = 2; rays = 9; column = 1; row = 1; start = Frac (pos 10) (pos 1); end = Frac (pos 15) (pos 1) } ∷ []) ≡ codes "overlap 1 /a.r 2 /b.r rays 9 first 1 1 10 15" ∷ []
  unfolding digits
  an_overlap = refl

  -- places are not those of the list where regions were left out of it
  an_overlap_of_later_places : overlap_lines (region_at body 3 (codes "/c") ∷ region_at body 12 (codes "/d#2") ∷ [])
      (record { one = 3; two = 12; rays = 4194304; column = 0; row = 7; start = Surd (pos 10) false 23; end = Frac (pos 27) (pos 2) } ∷ []) ≡ codes "overlap 3 /c 12 /d#2 rays 4194304 first 0 7 10-sqrt(23) 27/2" ∷ []
  unfolding digits
  an_overlap_of_later_places = refl

-- whatever the placements are
module _ (solid : AnySolid) (p : Placement) where
  abbrev member : List ℕ → Tree Member
  member name = Leaf (record { name = name; placement = p })

  -- `a` is `s` without the union of `b` and `x`, which is not there; `b` is the intersection of `s` with itself
  abbrev models : Entries
  models =
      (codes "s", record { body = Solid solid; kept = [] })
      ∷ (codes "a", record { body = Comb region_attr (Some (Join Minus (member (codes "s")) (Join U (member (codes "b")) (member (codes "x"))))); kept = [] })
      ∷ (codes "b", record { body = Comb group_attr (Some (Join N (member (codes "s")) (member (codes "s")))); kept = [] })
      ∷ (codes "e", record { body = Comb region_attr (Some (Join X (member (codes "s")) (Join X (member (codes "x")) (member (codes "s"))))); kept = [] }) ∷ []

  -- a leaf on the left side of a node has the operator from above
  a_listing : listings models (codes "a" ∷ codes "s" ∷ []) ≡ codes "a/R" ∷ codes "  u s" ∷ codes "  - b/" ∷ codes "    u s" ∷ codes "    + s" ∷ codes "  u x?" ∷ codes "s" ∷ []
  a_listing = refl

  a_listing_of_exclusive_unions : listings models (codes "e" ∷ []) ≡ codes "e/R" ∷ codes "  u s" ∷ codes "  ^ x?" ∷ codes "  ^ s" ∷ []
  a_listing_of_exclusive_unions = refl

  no_lines_of_a_missing_name : written_lines models (codes "x" ∷ []) ≡ []
  no_lines_of_a_missing_name = refl
