use Rattle.std.proofs.Common.{◌≡◌, ◌+◌, ℕ, cond, nat_eq, take}
use Rattle.name_core.specs.declared.name.Name.{Name}
use Rattle.object_pages.specs.Tallies.{leaves_on}
use Rattle.object_pages.proofs.MemberLemmas.{node_times}
use Rattle.object_pages.proofs.references.References.take.Given as goal

abbrev pub invariant-loop-node : goal.invariant-loop-node
invariant-loop-node l = (a : Name) (n : ℕ) → leaves_on l.references a n + cond (nat_eq l.page n) (node_times (take l.node-index l.nodes) a) 0 ≡ leaves_on l.fn.self a n
