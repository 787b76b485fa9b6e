use Rattle.std.proofs.Common.{◌≡◌, ◌++◌, ◌+◌, drop}
use Rattle.put_form.specs.Written.{vertices_text}
use Rattle.put_form.proofs.write_solid.push_vertices.Given as goal

abbrev pub invariant-loop-i : goal.invariant-loop-i
invariant-loop-i l = l.line.items ++ vertices_text (l.i + 1) (drop l.i l.vertices) ≡ l.initial.line.items ++ vertices_text 1 l.vertices
