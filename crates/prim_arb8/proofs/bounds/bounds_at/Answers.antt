use Rattle.std.proofs.Common.{sym, subst, rules}
use Rattle.lattice_core.specs.declared.boxes.Box3.{Box3}
use Rattle.prim_arb8.specs.Bounds.{HoldsVertices}
use Rattle.prim_arb8.proofs.Bounding.{vertices_held}
use Rattle.prim_arb8.proofs.bounds.bounds_at.Goals as goal

pub returns-clause-value : goal.returns-clause-value
returns-clause-value c = search rules

pub returns-clause-holds : goal.returns-clause-holds
returns-clause-holds c = subst (λ (b : Box3). HoldsVertices b c.args.by.now c.args.v.now) (sym (returns-clause-value c)) (vertices_held c.args.by.now c.args.v.now)
