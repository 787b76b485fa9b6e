-- The segments of regions one behind another, and how many cuts they make.
use Rattle.std.proofs.Common.{◌≡◌, ◌<◌, ◌≤◌, ◌+◌, ◌-◌, ◌*◌, ℕ, ℤ, pos, ◌<ℤ◌, suc, List, [], ◌∷◌, ◌++◌, length, get_or, map, drop, flat_map, Option, Some, None, ap, sym, ◌∙◌, refl, arith}
use Rattle.std.proofs.lemmas.Int.{ints}
use Rattle.std.proofs.lemmas.List.{append_assoc, drop_all, drop_more, drop-map, length-append, length-map}
use Rattle.std.specs.declared.cmp.Ordering.{Ordering}
use Rattle.std.specs.declared.cmp.Ordering.TheVariants.{Less, Equal, Greater}
use Rattle.lattice_core.specs.declared.limit.TheConstants.{FAR}
use Rattle.lattice_core.specs.declared.vector.V3.{V3}
use Rattle.plane_geom.specs.Chords.{length_squared}
use Rattle.bool_weave.specs.Lines.{set_beside, put_among, arranged, cuts_along}
use Rattle.shot_core.specs.Regions.{Instance, Region, IsScene, instances_of}
use Rattle.slant_ranks.specs.Laws.{CanBeWovenByRanks}
use Rattle.slant_ranks.specs.Slants.{SlantSegment, slant_up_to}
use Rattle.surd_quot.specs.declared.position.QPos.{QPos}
use Rattle.surd_quot.specs.PlaceOrder.{quotient_cmp}
use Rattle.surd_quot.specs.Range.{IsQuotientInRange}
use Rattle.oblique_ray.specs.declared.piece.Piece.{Piece}
use Rattle.oblique_ray.specs.CutSteps.{segment_of_piece}
use Rattle.oblique_ray.specs.Segments.{Stretch, slant_start, slant_end, slant_segment}
use Rattle.oblique_ray.specs.Shots.{segment_if, segments_from, segments_on}
use Rattle.oblique_ray.proofs.Segmented.{segments_rise, segments_count, segments_along}

if_append : (number : ℕ) (found : Option Stretch) (ss ts : List SlantSegment) → segment_if number found ++ (ss ++ ts) ≡ (segment_if number found ++ ss) ++ ts
if_append number None ss ts = refl
if_append number (Some stretch) ss ts = refl

module _ (far : ℤ) (o e : V3) where
  pub segments_append : (first : ℕ) (xs ys : List Instance) → segments_from far o e first (xs ++ ys) ≡ segments_from far o e first xs ++ segments_from far o e (first + length xs) ys
  segments_append first [] ys = let none : first ≡ first + 0 = omega arith in ap (λ (n : ℕ). segments_from far o e n ys) none
  segments_append first (i ∷ xs) ys =
      let more : first + 1 + length xs ≡ first + suc (length xs) = omega arith in
      ap (λ (l : List SlantSegment). segment_if first (slant_segment far i.surface o e) ++ l) (segments_append (first + 1) xs ys ∙ ap (λ (n : ℕ). segments_from far o e (first + 1) xs ++ segments_from far o e n ys) more)
      ∙ if_append first (slant_segment far i.surface o e) (segments_from far o e (first + 1) xs) (segments_from far o e (first + suc (length xs)) ys)

  -- what is found of some instances, and what is left behind them
  pub found_and_left : (ss ts : List SlantSegment) (first : ℕ) (xs ys : List Instance) → ts ≡ ss ++ segments_from far o e first xs
      → ts ++ segments_from far o e (first + length xs) ys ≡ ss ++ segments_from far o e first (xs ++ ys)
  found_and_left ss ts first xs ys made =
      ap (λ (l : List SlantSegment). l ++ segments_from far o e (first + length xs) ys) made
      ∙ append_assoc ss (segments_from far o e first xs) (segments_from far o e (first + length xs) ys)
      ∙ ap (λ (l : List SlantSegment). ss ++ l) (sym (segments_append first xs ys))

beside_length : (r : Ordering) (x y : QPos) (ys behind : List QPos) → length behind ≤ suc (length ys) → length (set_beside r x y ys behind) ≤ suc (suc (length ys))
beside_length Less x y ys behind h = omega arith
beside_length Equal x y ys behind h = omega arith
beside_length Greater x y ys behind h = omega (arith, h)

put_length : (x : QPos) (ys : List QPos) → length (put_among quotient_cmp x ys) ≤ suc (length ys)
put_length x [] = omega arith
put_length x (y ∷ ys) = beside_length (quotient_cmp x y) x y ys (put_among quotient_cmp x ys) (put_length x ys)

arranged_length : (xs : List QPos) → length (arranged quotient_cmp xs) ≤ length xs
arranged_length [] = omega arith
arranged_length (x ∷ xs) = omega (arith, put_length x (arranged quotient_cmp xs), arranged_length xs)

ends_length : (ws : List SlantSegment) → length (flat_map (λ (w : SlantSegment). w.start ∷ w.end ∷ []) ws) ≡ 2 * length ws
ends_length [] = refl
ends_length (w ∷ ws) = omega (arith, ends_length ws)

beside_some : (r : Ordering) (x y : QPos) (ys behind : List QPos) → 0 < length (set_beside r x y ys behind)
beside_some Less x y ys behind = omega arith
beside_some Equal x y ys behind = omega arith
beside_some Greater x y ys behind = omega arith

pub put_some : (x : QPos) (ys : List QPos) → 0 < length (put_among quotient_cmp x ys)
put_some x [] = omega arith
put_some x (y ∷ ys) = beside_some (quotient_cmp x y) x y ys (put_among quotient_cmp x ys)

pub cuts_length : (far : ℤ) (ws : List SlantSegment) → length (cuts_along (slant_up_to far) ws) ≤ 2 + 2 * length ws
cuts_length far ws =
    let ends : List QPos = flat_map (λ (w : SlantSegment). w.start ∷ w.end ∷ []) ws in
    omega (arith, put_length (slant_up_to far).from (put_among quotient_cmp (slant_up_to far).to (arranged quotient_cmp ends)), put_length (slant_up_to far).to (arranged quotient_cmp ends), arranged_length ends, ends_length ws)

-- so the segments of a scene can be woven by ranks
pub scene_can_be_woven : (regions : List Region) (o e : V3) → pos 0 <ℤ length_squared e → IsScene regions → CanBeWovenByRanks FAR (segments_on regions o e)
scene_can_be_woven regions o e some sound = record {
  rising = segments_rise FAR o e 0 (instances_of regions);
  along = segments_along FAR o e some 0 (instances_of regions);
  room = omega (arith, ints, cuts_length FAR (segments_on regions o e), segments_count FAR o e 0 (instances_of regions), sound.instances);
}

pub scene_segments_few : (regions : List Region) (o e : V3) → IsScene regions → length (segments_on regions o e) ≤ 65536
scene_segments_few regions o e sound = omega (arith, segments_count FAR o e 0 (instances_of regions), sound.instances)

-- pieces are put from the last to the first
pub drop_none : (ps : List Piece) → drop (length ps) (map segment_of_piece ps) ≡ []
drop_none ps = drop_all (length ps) (map segment_of_piece ps) (omega (arith, length-map ps segment_of_piece))

pub drop_one : (ps : List Piece) (i : ℕ) (d : Piece) → 0 < i → i ≤ length ps
    → drop (i - 1) (map segment_of_piece ps) ≡ segment_of_piece (get_or ps (i - 1) d) ∷ drop i (map segment_of_piece ps)
drop_one ps i d some within =
    let next : i - 1 + 1 ≡ i = omega (arith, some) in
    drop-map segment_of_piece (i - 1) ps
    ∙ ap (λ (l : List Piece). map segment_of_piece l) (drop_more ps (i - 1) d (omega (arith, some, within)))
    ∙ ap (λ (l : List SlantSegment). segment_of_piece (get_or ps (i - 1) d) ∷ l) (ap (λ (n : ℕ). map segment_of_piece (drop n ps)) next ∙ sym (drop-map segment_of_piece i ps))

abbrev pub ends_of : List SlantSegment → List QPos
ends_of ws = flat_map (λ (w : SlantSegment). w.start ∷ w.end ∷ []) ws

pub two_put : (ps : List Piece) (i : ℕ) (d : Piece) (cuts one two : List QPos) → 0 < i → i ≤ length ps → cuts ≡ arranged quotient_cmp (ends_of (drop i (map segment_of_piece ps)))
    → one ≡ put_among quotient_cmp (get_or ps (i - 1) d).end cuts → two ≡ put_among quotient_cmp (get_or ps (i - 1) d).start one
    → two ≡ arranged quotient_cmp (ends_of (drop (i - 1) (map segment_of_piece ps)))
two_put ps i d cuts one two some within made first second =
    let p : Piece = get_or ps (i - 1) d in
    second
    ∙ ap (λ (l : List QPos). put_among quotient_cmp p.start l) (first ∙ ap (λ (l : List QPos). put_among quotient_cmp p.end l) made)
    ∙ sym (ap (λ (l : List SlantSegment). arranged quotient_cmp (ends_of l)) (drop_one ps i d some within))

-- the ends of a ray are in the range in which positions are compared
pub start_in_range : IsQuotientInRange slant_start
start_in_range = record { over = omega (arith, ints); positive = omega (arith, ints); under = omega (arith, ints) }

pub end_in_range : IsQuotientInRange (slant_end FAR)
end_in_range = record { over = omega (arith, ints); positive = omega (arith, ints); under = omega (arith, ints) }

-- the region that is next, the instances that it has, and so many of them
module _ (r : Region) (rest from : List Region) (xs : List Instance) (n : ℕ) (at : from ≡ r ∷ rest) (items : xs ≡ r.body.instances) (count : length xs ≡ n) where
  pub next_found : (o e : V3) (first : ℕ) (ss ts all : List SlantSegment) → ts ≡ ss ++ segments_from FAR o e first xs → ss ++ segments_from FAR o e first (instances_of from) ≡ all
      → ts ++ segments_from FAR o e (first + n) (instances_of rest) ≡ all
  next_found o e first ss ts all step before =
      ap (λ (m : ℕ). ts ++ segments_from FAR o e (first + m) (instances_of rest)) (sym count)
      ∙ found_and_left FAR o e ss ts first xs (instances_of rest) step
      ∙ ap (λ (l : List Instance). ss ++ segments_from FAR o e first l) (ap (λ (l : List Instance). l ++ instances_of rest) items ∙ ap (λ (l : List Region). instances_of l) (sym at))
      ∙ before

  pub next_count : length (instances_of from) ≡ n + length (instances_of rest)
  next_count =
      ap (λ (l : List Region). length (instances_of l)) at
      ∙ length-append r.body.instances (instances_of rest)
      ∙ ap (λ (m : ℕ). m + length (instances_of rest)) (ap length (sym items) ∙ count)
