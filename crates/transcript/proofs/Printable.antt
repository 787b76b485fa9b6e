-- The answers of which each part stands on the lines that its header counts.
use Rattle.std.proofs.Common.{ℕ, ◌+◌, ◌<◌, ◌^◌, Bool, false, List, length, bytes_eq, codes}
use Rattle.std.specs.List.{AllByRecursion}
use Rattle.transcript.specs.Lines.{Lacks}
use Rattle.transcript.specs.Reading.{Header}
use Rattle.transcript.specs.Run.{Answer, Reply, Accepted, Refused}
use Rattle.transcript.specs.Transcript.{body_of}

module _ {F : Type 0} where
  -- a reply that says memory
  abbrev pub says_memory : Reply F → Bool
  says_memory (Accepted lines file) = false
  says_memory (Refused text) = bytes_eq text (codes "memory")

  -- what the header of a reply says
  abbrev pub reply_header : ℕ → Reply F → Header
  reply_header session reply = record { session = session; is_memory = says_memory reply; body = length (body_of reply) }

  abbrev pub IsPrintableReply : Reply F → Type 0
  IsPrintableReply (Accepted lines file) = AllByRecursion (Lacks 10) lines × (length lines < 2 ^ 64)
  IsPrintableReply (Refused text) = Lacks 10 text

  pub record IsPrintable (a : Answer F) : Type 0 where
    pub reply : IsPrintableReply a.reply
    pub version : a.version < 2 ^ 64

  pub record ArePrintable (answers : ℕ → List (Answer F)) : Type 0 where
    pub each : (session : ℕ) → AllByRecursion IsPrintable (answers session)
    pub few : (session : ℕ) → length (answers session) + 1 < 2 ^ 64
