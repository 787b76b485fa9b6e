-- What a caller sees of a table and of a pass, and what each call does to a pass.
use Rattle.std.specs.Prelude.{◌≡◌, ◌+◌, ◌-◌, ℕ, Bool, List, [], ◌∷◌, ◌++◌, length, IfOk, Result, is_err}
use mathlib.Core.List.{IsPrefix}
use Rattle.atomic_table.specs.Seated.{TableId}
use Rattle.version_table.specs.declared.rule.Noted.{Noted}
use Rattle.version_table.specs.Run.{Told, note_of, state_after, commits_in}
use Rattle.version_table.specs.Places.{merged}
use Rattle.version_table.specs.Steps.{longer}

-- which table it is, and what `open` was given
pub record TableView (S : Type 0) : Type 0 where
  pub id : TableId
  pub told : Told S

-- its table, its session, the history that it has seen, the places of its own entries there in their order, and the calls that it has left
pub record PassView (C : Type 0) : Type 0 where
  pub table : TableId
  pub session : ℕ
  pub seen : List (Noted C)
  pub own : List ℕ
  pub left : ℕ

module _ {C : Type 0} where
  -- a pass of these parts
  abbrev pub pass_of : TableId → ℕ → List (Noted C) → List ℕ → ℕ → PassView C
  pass_of table session seen own left = record { table = table; session = session; seen = seen; own = own; left = left }

  -- the entry ends a history that begins with all that the pass had seen, and is the pass's own
  pub record Adds (before : List (Noted C)) (entry : Noted C) (old new : PassView C) : Type 0 where
    pub begins : IsPrefix old.seen before
    pub seen : new.seen ≡ before ++ entry ∷ []
    pub own : new.own ≡ old.own ++ length before ∷ []
    pub left : new.left + 1 ≡ old.left
    pub table : new.table ≡ old.table
    pub session : new.session ≡ old.session

  -- a pass that handed some of its calls to another one
  abbrev pub handed_over : ℕ → PassView C → PassView C
  handed_over calls p = pass_of p.table p.session p.seen p.own (p.left - calls)

  -- the pass that took them over: it has seen as much, and has no entry of its own yet
  abbrev pub taken_over : ℕ → ℕ → PassView C → PassView C
  taken_over session calls p = pass_of p.table session p.seen [] calls

  -- two passes as one: it has seen what the one that saw more has seen, and has the entries and the calls of both
  abbrev pub together : PassView C → PassView C → PassView C
  together p q = pass_of p.table p.session (longer p.seen q.seen) (merged p.own q.own) (p.left + q.left)

module _ {S C R E : Type 0} (next : S → C → S) (commits : S → C → Bool) (reply : S → C → R) where
  -- One entry more, marked exactly where the answer is for want of memory. The reply is the machine's at the state
  -- after the entries before; the version is that after the entry.
  pub record IsEdit (opening : S) (command : C) (old new : PassView C) (version : ℕ) (answer : Result R E) : Type 0 where
    pub before : List (Noted C)
    pub adds : Adds before (note_of old.session command (is_err answer)) old new
    pub version_is : version ≡ commits_in next commits opening new.seen
    pub reply_is : IfOk answer (λ r. r ≡ reply (state_after next opening before) command)
