-- What the check of a scene's regions says.
use Rattle.std.proofs.Common.{◌<◌, ◌≤◌, ◌+◌, ℕ, zero, suc, List, [], ◌∷◌, length, All, AllPairs, arith}
use Rattle.std.proofs.lemmas.List.{length-append}
use Rattle.std.proofs.lemmas.List.Kept.{AllPairs-cons}
use Rattle.shot_core.specs.declared.limit.TheConstants.{MOST_LEAVES}
use Rattle.shot_core.specs.Regions.{Region, IsScene, instances_of, size_of, size_of_all}

-- places rise from over a number
abbrev pub Climbs : ℕ → List Region → Type 0
Climbs last [] = Unit {0}
Climbs last (r ∷ rs) = (last < r.place) × Climbs r.place rs

-- what is left makes a scene with what was seen
abbrev pub Goes : ℕ → ℕ → ℕ → List Region → Type 0
Goes last size count rest = Climbs last rest × (size + size_of_all rest ≤ MOST_LEAVES) × (count + length (instances_of rest) ≤ MOST_LEAVES)

above : (low last : ℕ) (rs : List Region) → low ≤ last → Climbs last rs → All (λ (r : Region). low < r.place) rs
above low last [] le h k d lt = absurd (omega (arith, lt))
above low last (r ∷ rs) le h zero d lt = omega (arith, le, h.0)
above low last (r ∷ rs) le h (suc k) d lt = above low r.place rs (omega (arith, le, h.0)) h.1 k d (omega (arith, lt))

rising : (last : ℕ) (rs : List Region) → Climbs last rs → AllPairs (λ (r s : Region). r.place < s.place) rs
rising last [] h = λ i j d lt within. absurd (omega (arith, within))
rising last (r ∷ rs) h = AllPairs-cons (λ (r s : Region). r.place < s.place) r rs (above r.place r.place rs (omega arith) h.1) (rising r.place rs h.1)

pub scene_from : (rs : List Region) → Goes 0 0 0 rs → IsScene rs
scene_from rs h = record {
  rising = rising 0 rs h.0;
  begun = λ k d lt. omega (arith, above 0 0 rs (omega arith) h.0 k d lt);
  size = omega (arith, h.1);
  instances = omega (arith, h.2);
}

pub goes_on : (last size count : ℕ) (r : Region) (rest : List Region) → last < r.place → Goes r.place (size + size_of r.body) (count + length r.body.instances) rest → Goes last size count (r ∷ rest)
goes_on last size count r rest lt h = ((lt, h.0), omega (arith, h.1), omega (arith, h.2, length-append r.body.instances (instances_of rest)))
