-- One placement that does what several do one after the other takes a solid where they take it.
use Rattle.std.specs.Prelude.{◌≡◌, List}
use Rattle.lattice_core.specs.declared.placement.Placement.{Placement}
use Rattle.lattice_core.specs.declared.vector.V3.{V3}
use Rattle.lattice_core.specs.Placements.{placed}
use Rattle.solid_set.specs.declared.solid.Solid.{Solid}
use Rattle.solid_set.specs.Surfaces.{surface_of, bounds_of}
use Rattle.solid_set.specs.Placings.{point_under, surface_under, own_surface, bounds_under}

-- a placement does what several do one after the other
abbrev pub DoesAll : Placement → List Placement → Type 0
DoesAll by placements = (p : V3) → placed by p ≡ point_under placements p

-- a solid has the surface and the box that the one placement gives it
abbrev pub SolidsStandUnderOne : Type 0
SolidsStandUnderOne = (solid : Solid) (placements : List Placement) (by : Placement) → DoesAll by placements
    → (surface_under placements (own_surface solid) ≡ surface_of solid by) × (bounds_under placements solid ≡ bounds_of solid by)

-- placements that take each point to the same place give a solid the same surface and the same box
abbrev pub SolidsStandAlike : Type 0
SolidsStandAlike = (solid : Solid) (ps qs : List Placement) → ((p : V3) → point_under ps p ≡ point_under qs p)
    → (surface_under ps (own_surface solid) ≡ surface_under qs (own_surface solid)) × (bounds_under ps solid ≡ bounds_under qs solid)
