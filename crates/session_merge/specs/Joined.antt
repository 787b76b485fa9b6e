-- Sessions that have run, each with a pass of its own, and their passes joined into one.
use Rattle.std.specs.Prelude.{◌≡◌, ◌≤◌, ◌==◌, ℕ, false, cond, List, [], ◌∷◌, map}
use Rattle.std.specs.List.{AllByRecursion, list_any}
use Rattle.transcript.specs.Run.{Answer, Rules, State}
use Rattle.version_table.specs.Passes.{PassView, together}
use Rattle.version_table.specs.Places.{IsRising}
use Rattle.version_table.specs.declared.rule.Noted.{Noted}
use Rattle.session_merge.specs.Answered.{AreAnswered}
use Rattle.session_merge.specs.Noted.{entries_of}
use mathlib.Core.List.{IsPrefix}

-- what one session has run: its pass after it, and its answers
pub record Done (C F : Type 0) : Type 0 where
  pub pass : PassView C
  pub answers : List (Answer F)

module _ {C F : Type 0} where
  -- the sessions of their passes
  abbrev pub sessions_in : List (Done C F) → List ℕ
  sessions_in ds = map (λ (d : Done C F). d.pass.session) ds

  -- their passes
  abbrev pub passes_of : List (Done C F) → List (PassView C)
  passes_of ds = map (λ (d : Done C F). d.pass) ds

  -- a session's answers; none where it has no pass
  abbrev pub answers_of : List (Done C F) → ℕ → List (Answer F)
  answers_of [] k = []
  answers_of (d ∷ ds) k = cond (d.pass.session == k) d.answers (answers_of ds k)

  -- the places of a session's entries; none where it has no pass
  abbrev pub places_of : List (Done C F) → ℕ → List ℕ
  places_of [] k = []
  places_of (d ∷ ds) k = cond (d.pass.session == k) d.pass.own (places_of ds k)

module _ {C : Type 0} where
  -- a pass, with each of the others joined in, one after the other
  abbrev pub all_together : PassView C → List (PassView C) → PassView C
  all_together p [] = p
  all_together p (q ∷ qs) = all_together (together p q) qs

  -- each of the passes has seen a beginning of the history
  abbrev pub HaveSeen : List (Noted C) → List (PassView C) → Type 0
  HaveSeen history qs = AllByRecursion (λ (q : PassView C). IsPrefix q.seen history) qs

module _ {D L C F : Type 0} (rules : Rules D L C F) (start : State D L) (script : ℕ → List C) where
  -- A session has run its script: each of its commands was answered at the place of its entry, and its pass has no call left.
  pub record HasDone (d : Done C F) : Type 0 where
    pub session : (1 ≤ d.pass.session) × (d.pass.session ≤ 8)
    pub rising : IsRising d.pass.own
    pub spent : d.pass.left ≡ 0
    pub ran : AreAnswered rules d.pass.session start.book (entries_of d.pass.seen) d.pass.own (start.own d.pass.session) (script d.pass.session) d.answers

  -- Each session that has a script has run it, with one pass; the passes come in the order of their sessions.
  pub record HaveRun (ds : List (Done C F)) : Type 0 where
    pub each : AllByRecursion HasDone ds
    pub apart : IsRising (sessions_in ds)
    pub idle : (k : ℕ) → list_any (λ s. s == k) (sessions_in ds) ≡ false → script k ≡ []
