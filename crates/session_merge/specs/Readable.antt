-- Answers that can be read back from a transcript.
use Rattle.std.specs.Prelude.{◌≡◌, ◌<◌, ◌^◌, false, length}
use Rattle.std.specs.List.{AllByRecursion}
use Rattle.transcript.specs.Lines.{Lacks}
use Rattle.transcript.specs.Run.{Accepted, Answer, Refused, Reply, Rules}
use Rattle.session_merge.specs.Answered.{reply_says_memory}

-- each line is one line, and so is the text of a refusal
abbrev pub IsReadableReply : {F : Type 0} → Reply F → Type 0
IsReadableReply (Accepted lines file) = AllByRecursion (Lacks 10) lines × (length lines < 2 ^ 64)
IsReadableReply (Refused text) = Lacks 10 text

abbrev pub IsReadable : {F : Type 0} → Answer F → Type 0
IsReadable answer = IsReadableReply answer.reply × (answer.version < 2 ^ 64)

-- the rules never answer the command `memory`, which is what its mark says
abbrev pub Tells : {D L C F : Type 0} → Rules D L C F → C → Type 0
Tells {D} {L} rules command = (directory : D) (own : L) → reply_says_memory (rules.reply directory own command) ≡ false
