-- Lists of several sessions, and how an order merges the sessions' own lists into one.
use Rattle.std.specs.Prelude.{◌≡◌, ℕ, ◌==◌, cond, List, [], ◌∷◌, ◌++◌, map, filter, length, drop, take}

-- what one session has in a list of all of them
pub record Entry (X : Type 0) : Type 0 where
  pub session : ℕ
  pub item : X

abbrev pub entry : {X : Type 0} → ℕ → X → Entry X
entry session item = record { session = session; item = item }

abbrev pub order_of : {X : Type 0} → List (Entry X) → List ℕ
order_of {X} entries = map (λ (e : Entry X). e.session) entries

-- a session's own items, in sequence
abbrev pub lane : {X : Type 0} → List (Entry X) → ℕ → List X
lane [] session = []
lane (e ∷ rest) session = cond (e.session == session) (e.item ∷ lane rest session) (lane rest session)

-- each session's digit comes as often as the session has items
abbrev pub IsMerge : {X : Type 0} → List ℕ → (ℕ → List X) → Type 0
IsMerge order lanes = (session : ℕ) → length (filter (λ digit. digit == session) order) ≡ length (lanes session)

-- what is left of the sessions' lists, once the first item of one session is taken
abbrev pub once_taken : {X : Type 0} → ℕ → (ℕ → List X) → ℕ → List X
once_taken digit lanes session = cond (digit == session) (drop 1 (lanes session)) (lanes session)

-- each digit of the order takes its session's next item
abbrev pub merged : {X : Type 0} → List ℕ → (ℕ → List X) → List (Entry X)
merged [] lanes = []
merged (digit ∷ order) lanes = map (entry digit) (take 1 (lanes digit)) ++ merged order (once_taken digit lanes)
