-- Claims of entries. A claim names a session and a place of the history.
use Rattle.std.specs.Prelude.{◌≡◌, ℕ, cond, List, [], ◌∷◌, map, nat_lt}
use mathlib.Core.Option.{some}
use lib.ListN.{get_elem?}
use Rattle.version_table.specs.declared.rule.Claim.{Claim}
use Rattle.version_table.specs.declared.rule.Noted.{Noted}

abbrev pub claim_of : ℕ → ℕ → Claim
claim_of session place = record { session = session; place = place }

-- the places of the claims
abbrev pub places_of : List Claim → List ℕ
places_of cs = map (λ c. c.place) cs

module _ {C : Type 0} where
  -- the entry at the place of the claim has the session that the claim names
  abbrev pub Matches : List (Noted C) → Claim → Type 0
  Matches history c = (e : Noted C) × (get_elem? history c.place ≡ some e) × (e.session ≡ c.session)

  abbrev pub AllMatch : List (Noted C) → List Claim → Type 0
  AllMatch history [] = Unit {0}
  AllMatch history (c ∷ cs) = Matches history c × AllMatch history cs

-- a claim put in its order among others, and all claims of two lists in the order of their places
abbrev pub claim_placed : Claim → List Claim → List Claim
claim_placed c [] = c ∷ []
claim_placed c (d ∷ ds) = cond (nat_lt c.place d.place) (c ∷ d ∷ ds) (d ∷ claim_placed c ds)

abbrev pub claims_merged : List Claim → List Claim → List Claim
claims_merged cs [] = cs
claims_merged cs (d ∷ ds) = claim_placed d (claims_merged cs ds)
