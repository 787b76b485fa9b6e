use Rattle.std.proofs.Common.{◌≡◌, ◌++◌, take, flat_map, codes}
use Rattle.put_form.specs.Written.{kept_text}
use Rattle.put_form.proofs.write.kept_line.Given as goal

abbrev pub invariant-loop-attribute : goal.invariant-loop-attribute
invariant-loop-attribute l = l.line.items ≡ codes "attr set " ++ (l.name ++ flat_map kept_text (take l.attribute-index l.kept))
