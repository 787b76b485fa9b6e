-- The numbers and lines of the statuses.
use Rattle.std.specs.Prelude.{ℕ, List, [], ◌++◌, codes, decimal}
use Rattle.mged_words.specs.declared.script.ScriptFlaw.{ScriptFlaw}
use Rattle.mged_words.specs.declared.script.ScriptFlaw.TheVariants.{Size, Lines, LongLine, Session}
use Rattle.asc_form.specs.declared.fault.AscKind.{AscKind}
use Rattle.asc_form.specs.declared.fault.AscKind.TheVariants as kinds
use Rattle.mged_top.specs.declared.status.LoadFault.{LoadFault}
use Rattle.mged_top.specs.declared.status.LoadFault.TheVariants as load
use Rattle.mged_top.specs.declared.status.ReplayFault.{ReplayFault}
use Rattle.mged_top.specs.declared.status.ReplayFault.TheVariants as replay
use Rattle.mged_top.specs.declared.status.Status.{Status}
use Rattle.mged_top.specs.declared.status.Status.TheVariants.{Done, SomeRefused, Usage, LoadRefused, ScriptRefused, ReadFault, WriteFault, Memory, ReplayRefused}

-- the number with which the program ends
abbrev pub exit_number : Status → ℕ
exit_number Done = 0
exit_number SomeRefused = 1
exit_number Usage = 2
exit_number (LoadRefused fault) = 3
exit_number (ScriptRefused flaw) = 4
exit_number ReadFault = 5
exit_number WriteFault = 6
exit_number Memory = 7
exit_number (ReplayRefused fault) = 8

abbrev pub flaw_text : ScriptFlaw → List ℕ
flaw_text Size = codes "size"
flaw_text (Lines line) = codes "line " ++ (decimal line ++ codes " lines")
flaw_text (LongLine line) = codes "line " ++ (decimal line ++ codes " long")
flaw_text (Session line) = codes "line " ++ (decimal line ++ codes " session")

abbrev pub kind_text : AscKind → List ℕ
kind_text kinds.Words = codes " words"
kind_text kinds.NoType = codes " type"
kind_text kinds.Attr = codes " attr"
kind_text kinds.Tree = codes " tree"
kind_text kinds.Name = codes " name"
kind_text kinds.Number = codes " number"
kind_text kinds.Shape = codes " shape"
kind_text kinds.Exists = codes " exists"
kind_text kinds.Full = codes " full"
kind_text kinds.Cycle = codes " cycle"
kind_text kinds.Deep = codes " deep"

abbrev pub load_text : LoadFault → List ℕ
load_text (load.NoFile name) = codes "missing " ++ name
load_text load.Size = codes "size"
load_text (load.At line kind) = codes "line " ++ (decimal line ++ kind_text kind)

abbrev pub replay_text : ReplayFault → List ℕ
replay_text (replay.NoFile name) = codes "missing " ++ name
replay_text replay.Order = codes "order"

-- the line of a status on the error stream; where a transcript is written there is none
abbrev pub status_line : Status → List ℕ
status_line Done = []
status_line SomeRefused = []
status_line Usage = codes "mgedrt: usage"
status_line (LoadRefused fault) = codes "mgedrt: load " ++ load_text fault
status_line (ScriptRefused flaw) = codes "mgedrt: script " ++ flaw_text flaw
status_line ReadFault = codes "mgedrt: read"
status_line WriteFault = codes "mgedrt: write"
status_line Memory = codes "mgedrt: memory"
status_line (ReplayRefused fault) = codes "mgedrt: replay " ++ replay_text fault
