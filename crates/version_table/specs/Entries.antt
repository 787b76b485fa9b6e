-- Entries of the program as plain data.
use Rattle.std.specs.Prelude.{List, map}
use Rattle.std.specs.Arc.{arc_value}
use Rattle.version_table.specs.declared.book.Entry.{Entry}
use Rattle.version_table.specs.declared.rule.Noted.{Noted}

-- the entries of the program, each with its session, its command and its mark
abbrev pub noted : {C : Type 0} → List (Entry C) → List (Noted C)
noted es = map (λ e. record { session = e.session; command = arc_value e.command; memory = e.memory }) es
