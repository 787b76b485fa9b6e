-- The texts of refusals.
use Rattle.std.specs.Prelude.{ℕ, List, ◌++◌, codes, decimal}
use Rattle.plane_geom.specs.declared.fault.ShapeFault.{ShapeFault}
use Rattle.plane_geom.specs.declared.fault.ShapeFault.TheVariants.{Flat, NotPlanar, NotConvex, Radius, ZeroNormal, Axis}
use Rattle.lattice_core.specs.declared.view.ViewFault.{ViewFault}
use Rattle.lattice_core.specs.declared.view.ViewFault.TheVariants.{Pixels, Side, Cell, Direction, World}
use Rattle.command_set.specs.declared.refusal.Refusal.{Refusal}
use Rattle.command_set.specs.declared.refusal.Refusal.TheVariants.{Syntax, Name, Number, View, Shape, Exists, Missing, NotComb, NotList, Absent, Heads, Members, Full, Cycle, Deep, Instances, Quota, Memory}

abbrev pub view_text : ViewFault → List ℕ
view_text Pixels = codes "pixels"
view_text Side = codes "side"
view_text Cell = codes "cell"
view_text Direction = codes "direction"
view_text World = codes "world"

abbrev pub shape_text : ShapeFault → List ℕ
shape_text Flat = codes "flat"
shape_text (NotPlanar face) = codes "planar " ++ decimal face
shape_text (NotConvex face) = codes "convex " ++ decimal face
shape_text Radius = codes "radius"
shape_text ZeroNormal = codes "normal"
shape_text Axis = codes "axis"

-- how a refusal is printed
abbrev pub refusal_text : Refusal → List ℕ
refusal_text Syntax = codes "syntax"
refusal_text (Name word) = codes "name " ++ decimal word
refusal_text (Number word) = codes "number " ++ decimal word
refusal_text (View fault) = codes "view " ++ view_text fault
refusal_text (Shape fault) = codes "shape " ++ shape_text fault
refusal_text (Exists name) = codes "exists " ++ name
refusal_text (Missing name) = codes "missing " ++ name
refusal_text (NotComb name) = codes "not-comb " ++ name
refusal_text (NotList name) = codes "not-list " ++ name
refusal_text (Absent name) = codes "absent " ++ name
refusal_text (Heads name) = codes "heads " ++ name
refusal_text (Members count) = codes "members " ++ decimal count
refusal_text Full = codes "full"
refusal_text (Cycle name) = codes "cycle " ++ name
refusal_text (Deep levels) = codes "deep " ++ decimal levels
refusal_text (Instances size) = codes "instances " ++ decimal size
refusal_text Quota = codes "quota"
refusal_text Memory = codes "memory"
