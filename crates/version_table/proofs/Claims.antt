-- Claims in the order of their places.
use Rattle.std.proofs.Common.{◌≡◌, ◌≤◌, ◌+◌, ℕ, true, false, cond, List, [], ◌∷◌, ◌++◌, length, ◌∙◌, refl, ap, sym, subst, arith, nat_lt}
use Rattle.std.proofs.lemmas.List.{length-map, map-append}
use Rattle.atomic_table.proofs.Lists.{at_longer}
use Rattle.version_table.specs.declared.rule.Claim.{Claim}
use Rattle.version_table.specs.declared.rule.Noted.{Noted}
use Rattle.version_table.specs.Claims.{places_of, Matches, AllMatch, claim_placed, claims_merged}
use Rattle.version_table.specs.Places.{hit, times, placed, merged, IsRising}
use Rattle.version_table.proofs.Places.{times_more, times_merged, length_merged, rising_merged}

pub length_places : (cs : List Claim) → length (places_of cs) ≡ length cs
length_places cs = length-map cs (λ c. c.place)

-- one more claim
pub places_more : (cs : List Claim) (c : Claim) → places_of (cs ++ c ∷ []) ≡ places_of cs ++ c.place ∷ []
places_more cs c = map-append (λ c. c.place) cs (c ∷ [])

pub times_claimed : (k : ℕ) (cs : List Claim) (c : Claim) → times k (places_of (cs ++ c ∷ [])) ≡ times k (places_of cs) + hit k c.place
times_claimed k cs c = ap (times k) (places_more cs c) ∙ times_more k (places_of cs) c.place

-- the claims of two lists
places_placed : (c : Claim) (cs : List Claim) → places_of (claim_placed c cs) ≡ placed c.place (places_of cs)
places_placed c [] = refl
places_placed c (d ∷ ds) = elim (nat_lt c.place d.place) as (λ b. places_of (cond b (c ∷ d ∷ ds) (d ∷ claim_placed c ds)) ≡ cond b (c.place ∷ d.place ∷ places_of ds) (d.place ∷ placed c.place (places_of ds))) [
  | true ↦ refl
  | false ↦ ap (λ l. d.place ∷ l) (places_placed c ds)
]

pub places_merged : (cs ds : List Claim) → places_of (claims_merged cs ds) ≡ merged (places_of cs) (places_of ds)
places_merged cs [] = refl
places_merged cs (d ∷ ds) = places_placed d (claims_merged cs ds) ∙ ap (placed d.place) (places_merged cs ds)

pub times_claims : (k : ℕ) (cs ds : List Claim) → times k (places_of (claims_merged cs ds)) ≡ times k (places_of cs) + times k (places_of ds)
times_claims k cs ds = ap (times k) (places_merged cs ds) ∙ times_merged k (places_of cs) (places_of ds)

pub length_claims : (cs ds : List Claim) → length (claims_merged cs ds) ≡ length cs + length ds
length_claims cs ds = omega (arith, length_places (claims_merged cs ds), length_places cs, length_places ds, ap length (places_merged cs ds), length_merged (places_of cs) (places_of ds))

pub rising_claims : (cs ds : List Claim) → IsRising (places_of cs) → IsRising (places_of ds) → ((k : ℕ) → times k (places_of cs) + times k (places_of ds) ≤ 1) → IsRising (places_of (claims_merged cs ds))
rising_claims cs ds one two apart = subst IsRising (sym (places_merged cs ds)) (rising_merged (places_of cs) (places_of ds) one two apart)

-- each has the session of its entry
module _ {C : Type 0} where
  pub match_longer : (h more : List (Noted C)) (cs : List Claim) → AllMatch h cs → AllMatch (h ++ more) cs
  match_longer h more [] all = tt
  match_longer h more (c ∷ cs) all = ((all.0.0, at_longer h more c.place all.0.0 all.0.1, all.0.2), match_longer h more cs all.1)

  pub match_more : (h : List (Noted C)) (cs : List Claim) (c : Claim) → AllMatch h cs → Matches h c → AllMatch h (cs ++ c ∷ [])
  match_more h [] c all one = (one, tt)
  match_more h (d ∷ ds) c all one = (all.0, match_more h ds c all.1 one)

  match_placed : (h : List (Noted C)) (c : Claim) (cs : List Claim) → AllMatch h cs → Matches h c → AllMatch h (claim_placed c cs)
  match_placed h c [] all one = (one, tt)
  match_placed h c (d ∷ ds) all one = elim (nat_lt c.place d.place) as (λ b. AllMatch h (cond b (c ∷ d ∷ ds) (d ∷ claim_placed c ds))) [
    | true ↦ (one, all)
    | false ↦ (all.0, match_placed h c ds all.1 one)
  ]

  pub match_merged : (h : List (Noted C)) (cs ds : List Claim) → AllMatch h cs → AllMatch h ds → AllMatch h (claims_merged cs ds)
  match_merged h cs [] one two = one
  match_merged h cs (d ∷ ds) one two = match_placed h d (claims_merged cs ds) (match_merged h cs ds one two.1) two.0
