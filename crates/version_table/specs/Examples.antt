-- Small runs, places, passes and views, proved by computation.
use Rattle.std.specs.Prelude.{◌≡◌, ◌+◌, ◌<◌, refl, ℕ, zero, suc, Bool, true, false, List, [], ◌∷◌, length, Some}
use Rattle.std.proofs.Common.{◌∙◌, ap, arith, subst, lit≤}
use Rattle.std.proofs.lemmas.Bool.Decides.{nat_tests}
use mathlib.Core.Option.{some, none}
use Rattle.atomic_table.specs.Seated.{TableId}
use Rattle.version_table.specs.declared.rule.Noted.{Noted}
use Rattle.version_table.specs.declared.rule.View.{View}
use Rattle.version_table.specs.Run.{note_of, state_after, commits_in, Told, told_of}
use Rattle.version_table.specs.Places.{IsRising, merged, places_from, times, total}
use Rattle.version_table.specs.Steps.{longer, idle_view, joined, with_turn}
use Rattle.version_table.specs.Passes.{handed_over, pass_of, taken_over, together}
use Rattle.version_table.specs.History.{Each, IsSound, claims_of, home_of}
use Rattle.version_table.specs.Claims.{AllMatch, claim_of}

-- a machine of numbers
data Command : Type 0 where
  add : ℕ → Command
  look : Command

abbrev next : ℕ → Command → ℕ
next s (add n) = s + n
next s look = s

abbrev commits : ℕ → Command → Bool
commits s (add n) = true
commits s look = false

-- 5 is added, then there is a look, and then there was no memory to add 7
abbrev entries : List (Noted Command)
entries = note_of 1 (add 5) false ∷ note_of 2 look false ∷ note_of 1 (add 7) true ∷ []

only_five_is_added : state_after next 10 entries ≡ 15
only_five_is_added = refl

one_commit : commits_in next commits 10 entries ≡ 1
one_commit = refl

none_at_first : commits_in next commits 10 [] ≡ 0
none_at_first = refl

one_after_the_first : commits_in next commits 10 (note_of 1 (add 5) false ∷ []) ≡ 1
one_after_the_first = refl

look_does_not_commit : commits_in next commits 10 (note_of 1 (add 5) false ∷ note_of 2 look false ∷ []) ≡ 1
look_does_not_commit = refl

in_order : merged (0 ∷ 3 ∷ []) (1 ∷ 2 ∷ 5 ∷ []) ≡ 0 ∷ 1 ∷ 2 ∷ 3 ∷ 5 ∷ []
in_order = refl

places_rise : IsRising (0 ∷ 3 ∷ [])
places_rise = ((omega arith, tt), (tt, tt))

place_of_both : merged (0 ∷ []) (0 ∷ []) ≡ 0 ∷ 0 ∷ []
place_of_both = refl

twice_is_not_rising : IsRising (0 ∷ 0 ∷ []) → ⊥
twice_is_not_rising rising = omega (arith, rising.0.0)

first_three : places_from 0 3 ≡ 0 ∷ 1 ∷ 2 ∷ []
first_three = refl

abbrev a : Noted Command
a = note_of 1 (add 5) false

abbrev b : Noted Command
b = note_of 2 look false

longer_second : longer (a ∷ []) (a ∷ b ∷ []) ≡ a ∷ b ∷ []
longer_second = refl

equal_lengths : longer (a ∷ []) (b ∷ []) ≡ a ∷ []
equal_lengths = refl

module _ (table : TableId) where
  -- the first has seen one entry more than the second
  of_both : together (pass_of table 1 (a ∷ b ∷ b ∷ a ∷ []) (0 ∷ 3 ∷ []) 2) (pass_of table 2 (a ∷ b ∷ b ∷ []) (1 ∷ 2 ∷ []) 1)
      ≡ pass_of table 1 (a ∷ b ∷ b ∷ a ∷ []) (0 ∷ 1 ∷ 2 ∷ 3 ∷ []) 3
  of_both = refl

  two_kept : handed_over 3 (pass_of table 1 (a ∷ b ∷ []) (0 ∷ []) 5) ≡ pass_of table 1 (a ∷ b ∷ []) (0 ∷ []) 2
  two_kept = refl

  three_given : taken_over 2 3 (pass_of table 1 (a ∷ b ∷ []) (0 ∷ []) 5) ≡ pass_of table 2 (a ∷ b ∷ []) [] 3
  three_given = refl

abbrev told : Told ℕ
told = told_of 10 3

at_home : home_of 0 told (a ∷ b ∷ []) ≡ some (Some record { told = told; entries = a ∷ b ∷ [] })
at_home = refl

out : home_of 1 told (a ∷ b ∷ []) ≡ none
out = refl

abbrev one : View Command
one = idle_view 1 (a ∷ []) 1 (claim_of 1 0 ∷ [])

abbrev two : View Command
two = idle_view 2 (a ∷ b ∷ []) 0 (claim_of 2 1 ∷ [])

each_of_two : (P : View Command → Type 0) → P one → P two → Each P (one ∷ two ∷ [])
each_of_two P of_one of_two zero v at = let same : one ≡ v = cc in subst P same of_one
each_of_two P of_one of_two (suc zero) v at = let same : two ≡ v = cc in subst P same of_two
each_of_two P of_one of_two (suc (suc j)) v at = cc

claims_below : (n k : ℕ) → 0 < times k (n ∷ []) → k < suc n
claims_below n k has = grind (arith, nat_tests)

-- each of the two places is claimed once
once : (k : ℕ) → k < 2 → total (claims_of k) (one ∷ two ∷ []) ≡ 1
once zero below = refl
once (suc zero) below = refl
once (suc (suc k)) below = absurd (omega (arith, below))

sound : IsSound 3 0 (a ∷ b ∷ []) (one ∷ two ∷ [])
sound = record {
  seen = each_of_two _ (b ∷ [], refl) ([], refl);
  met = each_of_two _ tt tt;
  once = once;
  matched = each_of_two _ ((a, refl, refl), tt) ((b, refl, refl), tt);
  own = each_of_two _ (claims_below 0) (claims_below 1);
  rising = each_of_two _ (tt, tt) (tt, tt);
  claimed = refl;
  one_turn = omega arith;
  turns = refl;
  whole = each_of_two _ (λ e. cc) (λ e. cc);
  armed = each_of_two _ (λ e. cc) (λ e. cc);
  carrier = each_of_two _ refl refl;
  small = lit≤ tt;
  room = refl;
}

-- nobody has the turn
turn_of_nobody : IsSound 3 1 (a ∷ b ∷ []) (one ∷ two ∷ []) → ⊥
turn_of_nobody sound = omega (arith, sound.turns)

-- the second entry is one of session 2, and no pass may claim it for session 1
abbrev of_another : View Command
of_another = idle_view 2 (a ∷ b ∷ []) 0 (claim_of 1 1 ∷ [])

claim_of_another_session : IsSound 3 0 (a ∷ b ∷ []) (one ∷ of_another ∷ []) → ⊥
claim_of_another_session sound =
    let found = (sound.matched 1 of_another refl).0 in
    let same : b ≡ found.0 = let e : some b ≡ some found.0 = found.1 in cc in
    omega (arith, ap (λ (e : Noted Command). e.session) same ∙ found.2)

-- after a join one pass has claims of two sessions, in the order of the history
claims_of_two_sessions : (joined two one).claims ≡ claim_of 1 0 ∷ claim_of 2 1 ∷ []
claims_of_two_sessions = refl

both_match : AllMatch (a ∷ b ∷ []) (joined two one).claims
both_match = ((a, refl, refl), ((b, refl, refl), tt))

-- the first pass has the turn, and the second one has the slot
abbrev with_slot : View Command
with_slot = record { session = 2; seen = a ∷ b ∷ []; holds = false; carries = 0 ∷ []; left = 0; claims = claim_of 2 1 ∷ []; met = [] }

slot_of_another : IsSound 3 1 (a ∷ b ∷ []) (with_turn (a ∷ b ∷ []) one ∷ with_slot ∷ []) → ⊥
slot_of_another sound = omega (arith, ap length (sound.carrier 1 with_slot refl))

-- the pass that has the turn has not the slot
abbrev without_slot : View Command
without_slot = record { session = 1; seen = a ∷ b ∷ []; holds = true; carries = []; left = 1; claims = claim_of 1 0 ∷ []; met = [] }

slot_of_nobody : IsSound 3 1 (a ∷ b ∷ []) (without_slot ∷ two ∷ []) → ⊥
slot_of_nobody sound = omega (arith, ap length (sound.carrier 0 without_slot refl))
