-- The texts of refusals, proved by computation.
use Rattle.std.specs.Prelude.{◌≡◌, refl, codes}
use Rattle.std.specs.Fmt.{digits}
use Rattle.plane_geom.specs.declared.fault.ShapeFault.TheVariants.{NotPlanar, ZeroNormal}
use Rattle.lattice_core.specs.declared.view.ViewFault.TheVariants.{Pixels}
use Rattle.command_set.specs.declared.refusal.Refusal.TheVariants.{Syntax, Name, View, Shape, NotComb, Heads, Members, Full, Cycle, Deep, Instances, Quota}
use Rattle.command_set.specs.Refusals.{refusal_text}

of_a_line : refusal_text Syntax ≡ codes "syntax"
of_a_line = refl

of_a_word : refusal_text (Name 2) ≡ codes "name 2"
unfolding digits
of_a_word = refl

of_a_view : refusal_text (View Pixels) ≡ codes "view pixels"
of_a_view = refl

of_a_face : refusal_text (Shape (NotPlanar 1)) ≡ codes "shape planar 1"
unfolding digits
of_a_face = refl

of_a_normal : refusal_text (Shape ZeroNormal) ≡ codes "shape normal"
of_a_normal = refl

of_a_solid : refusal_text (NotComb (codes "s")) ≡ codes "not-comb s"
of_a_solid = refl

of_a_head : refusal_text (Heads (codes "s2")) ≡ codes "heads s2"
of_a_head = refl

of_many_leaves : refusal_text (Members 4097) ≡ codes "members 4097"
unfolding digits
of_many_leaves = refl

of_many_objects : refusal_text Full ≡ codes "full"
of_many_objects = refl

of_a_cycle : refusal_text (Cycle (codes "c")) ≡ codes "cycle c"
of_a_cycle = refl

of_a_depth : refusal_text (Deep 17) ≡ codes "deep 17"
unfolding digits
of_a_depth = refl

of_a_size : refusal_text (Instances 65537) ≡ codes "instances 65537"
unfolding digits
of_a_size = refl

of_many_bytes : refusal_text Quota ≡ codes "quota"
of_many_bytes = refl
