-- The entries of a history of versions, as entries of a run.
use Rattle.std.specs.Prelude.{Bool, List, map, is_some, unwrap_or}
use Rattle.transcript.specs.Merge.{Entry, entry}
use Rattle.transcript.specs.Run.{Marked, Rules}
use Rattle.version_table.specs.declared.rule.Noted.{Noted}

-- the command of an entry, with its mark
abbrev pub marked_of : {C : Type 0} → Noted C → Marked C
marked_of e = record { command = e.command; memory = e.memory }

abbrev pub entries_of : {C : Type 0} → List (Noted C) → List (Entry (Marked C))
entries_of es = map (λ e. entry e.session (marked_of e)) es

module _ {D L C F : Type 0} (rules : Rules D L C F) where
  -- the directory after a command: a new one exactly where the command is an edit that is accepted
  abbrev pub next_of : D → C → D
  next_of directory command = unwrap_or (rules.edited directory command) directory

  -- whether a command makes a version
  abbrev pub commits_of : D → C → Bool
  commits_of directory command = is_some (rules.edited directory command)
