-- What each kind of step does to the view of its pass. The two steps that move the book out of the slot and back change no view.
use Rattle.std.specs.Prelude.{◌≡◌, ◌+◌, ◌-◌, ◌≤◌, ℕ, Bool, true, false, cond, List, [], ◌∷◌, ◌++◌, length, map, Some, None, MatchBool, nat_lt}
use Rattle.std.specs.Prelude as std
use mathlib.Core.List.{IsPrefix}
use Rattle.atomic_table.specs.Seated.{TableId}
use Rattle.atomic_table.specs.Table.{Me, Step, rest}
use Rattle.atomic_table.specs.declared.shared.Seat.{Seat}
use Rattle.version_table.specs.declared.rule.Claim.{Claim}
use Rattle.version_table.specs.declared.rule.View.{View}
use Rattle.version_table.specs.declared.rule.Noted.{Noted}
use Rattle.version_table.specs.Claims.{claim_of, places_of, claims_merged}
use Rattle.version_table.specs.History.{AllBegin, book_of}
use Rattle.version_table.specs.Places.{IsRising}
use Rattle.version_table.specs.Run.{Told, BookView}

module _ {C : Type 0} where
  -- the view of a pass that has no turn, and so no slot
  abbrev pub idle_view : ℕ → List (Noted C) → ℕ → List Claim → View C
  idle_view session seen left claims = record { session = session; seen = seen; holds = false; carries = []; left = left; claims = claims; met = [] }

  -- the turn is taken, and the slot with it; the history is h
  abbrev pub with_turn : List (Noted C) → View C → View C
  with_turn h v = record { session = v.session; seen = h; holds = true; carries = 0 ∷ []; left = v.left; claims = v.claims; met = [] }

  -- the entry ends the history seen, and the pass claims its place for its own session
  abbrev pub with_entry : Noted C → View C → View C
  with_entry entry v = record { session = v.session; seen = v.seen ++ entry ∷ []; holds = true; carries = v.carries; left = v.left - 1; claims = v.claims ++ claim_of v.session (length v.seen) ∷ []; met = [] }

  -- the turn is given, and the slot with it
  abbrev pub at_rest : View C → View C
  at_rest v = idle_view v.session v.seen v.left v.claims

  -- a view that holds nothing, of a pass that was joined to another
  abbrev pub spent : View C
  spent = idle_view 0 [] 0 []

  -- a view cut in two, where the new pass takes over some of the calls
  abbrev pub kept_part : ℕ → View C → View C
  kept_part calls v = idle_view v.session v.seen (v.left - calls) v.claims

  abbrev pub given_part : ℕ → ℕ → View C → View C
  given_part session calls v = idle_view session v.seen calls []

  -- two views as one
  abbrev pub longer : List (Noted C) → List (Noted C) → List (Noted C)
  longer xs ys = cond (nat_lt (length xs) (length ys)) ys xs

  abbrev pub joined : View C → View C → View C
  joined v w = record { session = v.session; seen = longer v.seen w.seen; holds = false; carries = []; left = v.left + w.left; claims = claims_merged v.claims w.claims; met = v.seen ∷ w.seen ∷ [] }

module _ {S C : Type 0} where
  -- the first pass has all calls
  abbrev pub first_view : Told S → View C
  first_view told = idle_view 0 [] told.calls []

  -- The turn was got, with the book of a history that goes on from what was seen, and has room for the calls left; or all is as before.
  abbrev pub TookTurn : Told S → Bool → Me (std.Option (BookView S C)) (View C) → Me (std.Option (BookView S C)) (View C) → Type 0
  TookTurn told got old new = MatchBool got ((h : List (Noted C)) × IsPrefix old.0.seen h × (length h + old.0.left ≤ told.calls) × (new ≡ (with_turn h old.0, (0, Some (book_of told h)) ∷ []))) (new ≡ old)

  abbrev pub Takes : std.Option (Told S) → Step (std.Option (BookView S C)) → Me (std.Option (BookView S C)) (View C) → ℕ → Me (std.Option (BookView S C)) (View C) → Type 0
  Takes None s old n new = ⊥
  Takes (Some told) s old n new = TookTurn told (std.nat_eq n 0) old new

  abbrev pub Counts : std.Option (Noted C) → Step (std.Option (BookView S C)) → Me (std.Option (BookView S C)) (View C) → ℕ → Me (std.Option (BookView S C)) (View C) → Type 0
  Counts None s old n new = ⊥
  Counts (Some entry) s old n new = (n ≡ length old.0.seen) × (new ≡ (with_entry entry old.0, old.1))

  abbrev pub Gives : Step (std.Option (BookView S C)) → Me (std.Option (BookView S C)) (View C) → ℕ → Me (std.Option (BookView S C)) (View C) → Type 0
  Gives s old n new = new ≡ (at_rest old.0, rest old.1)

  -- after a join, each of the two histories begins what is seen, and the claims stand each once, in order
  abbrev pub Learns : Step (std.Option (BookView S C)) → Me (std.Option (BookView S C)) (View C) → ℕ → Me (std.Option (BookView S C)) (View C) → Type 0
  Learns s old n new = AllBegin old.0.met old.0.seen × IsRising (places_of old.0.claims) × (new ≡ (at_rest old.0, old.1))

  -- the slots that it has are those of which its view tells
  abbrev pub TellsSlots : Me (std.Option (BookView S C)) (View C) → Type 0
  TellsSlots me = map (λ x. x.0) me.1 ≡ me.0.carries

  abbrev pub IsTokenOf : TableId → Seat (std.Option (BookView S C)) (View C) → Type 0
  IsTokenOf table token = (token.table_id ≡ table) × (table.words ≡ 2) × (table.slots ≡ 1) × TellsSlots token.me

  -- it has no turn and no slot
  abbrev pub IsIdle : Me (std.Option (BookView S C)) (View C) → Type 0
  IsIdle me = (me.0.holds ≡ false) × (me.0.carries ≡ []) × (me.1 ≡ [])
