-- There is one history, to which passes add entries, each in its turn. The book of the history lies in the slot, and only the pass that has the turn writes to it.
use Rattle.std.specs.Prelude.{◌≡◌, ◌+◌, ◌<◌, ◌^◌, ℕ, zero, suc, true, cond, List, [], ◌∷◌, length, Some}
use Rattle.std.specs.Prelude as std
use mathlib.Core.Option.{Option, some, none}
use mathlib.Core.List.{IsPrefix}
use lib.ListN.{get_elem?}
use Rattle.atomic_table.specs.Table.{State}
use Rattle.version_table.specs.declared.rule.View.{View}
use Rattle.version_table.specs.declared.rule.Noted.{Noted}
use Rattle.version_table.specs.Claims.{places_of, AllMatch}
use Rattle.version_table.specs.Places.{total, times, IsRising}
use Rattle.version_table.specs.Run.{Told, BookView}

module _ {C : Type 0} where
  -- it holds of each pass, of which the view is what the pass knows
  abbrev pub Each : (View C → Type 0) → List (View C) → Type 0
  Each P views = (j : ℕ) (v : View C) → get_elem? views j ≡ some v → P v

  -- each of the histories begins h
  abbrev pub AllBegin : List (List (Noted C)) → List (Noted C) → Type 0
  AllBegin [] h = Unit {0}
  AllBegin (x ∷ xs) h = IsPrefix x h × AllBegin xs h

  -- 1 for the pass that has the turn
  abbrev pub holding : View C → ℕ
  holding v = cond v.holds 1 0

  abbrev pub calls_left : View C → ℕ
  calls_left v = v.left

  -- how many entries it claims as its own, and how often it claims the one at k
  abbrev pub claim_count : View C → ℕ
  claim_count v = length v.claims

  abbrev pub claims_of : ℕ → View C → ℕ
  claims_of k v = times k (places_of v.claims)

  -- The rule, which holds between any two steps.
  pub record IsSound (calls turn : ℕ) (history : List (Noted C)) (views : List (View C)) : Type 0 where
    -- 1. What a pass has seen begins the history, and what the passes that were joined to it had seen begins that.
    pub seen : Each (λ v. IsPrefix v.seen history) views
    pub met : Each (λ v. AllBegin v.met v.seen) views
    -- 2. Each entry is claimed by one pass, once, and the claim names the session that the entry has. A pass claims entries that it has seen, in the order of the history. There are as many claims as entries.
    pub once : (k : ℕ) → k < length history → total (claims_of k) views ≡ 1
    pub matched : Each (λ v. AllMatch history v.claims) views
    pub own : Each (λ v. (k : ℕ) → 0 < claims_of k v → k < length v.seen) views
    pub rising : Each (λ v. IsRising (places_of v.claims)) views
    pub claimed : total claim_count views ≡ length history
    -- 3. The turn is 1 where a pass has it, and 0 where none has. No two have it. The one that has it has seen the whole history, and has a call left or a claim.
    pub one_turn : turn < 2
    pub turns : total holding views ≡ turn
    pub whole : Each (λ v. v.holds ≡ true → v.seen ≡ history) views
    pub armed : Each (λ v. v.holds ≡ true → 0 < v.left + claim_count v) views
    -- 4. The pass that has the turn has the slot, which is number 0, and no other pass has a slot. Where none has the turn, the slot is at home with the book of the history, which `home_of` says.
    pub carrier : Each (λ v. v.carries ≡ cond v.holds (0 ∷ []) []) views
    -- 5. The entries and the calls left in all passes are together the calls that `open` was given.
    pub small : calls < 2 ^ 32
    pub room : length history + total calls_left views ≡ calls

module _ {S C : Type 0} where
  abbrev pub book_of : Told S → List (Noted C) → BookView S C
  book_of told history = record { told = told; entries = history }

  -- Part 4 of the rule, for the table: where the turn is free, the slot is at home, and the book of the history is in it. Where a pass has the turn, the slot is out, and by `carrier` with that pass.
  -- outer option: whether the slot is at home; inner: what it holds
  abbrev pub home_of : ℕ → Told S → List (Noted C) → Option (std.Option (BookView S C))
  home_of zero told history = some (Some (book_of told history))
  home_of (suc n) told history = none

  -- word 0 is the length of the history, and word 1 is the turn
  abbrev pub state_of : ℕ → Told S → List (Noted C) → List (View C) → State (std.Option (BookView S C)) (View C)
  state_of turn told history views = record { words = length history ∷ turn ∷ []; homes = home_of turn told history ∷ []; views = views }

  -- What the table keeps: its words, its slot and its views are those of a turn, a history and views by which the rule holds.
  pub record IsKept (told : Told S) (s : State (std.Option (BookView S C)) (View C)) : Type 0 where
    pub turn : ℕ
    pub history : List (Noted C)
    pub views : List (View C)
    pub is : s ≡ state_of turn told history views
    pub sound : IsSound told.calls turn history views
