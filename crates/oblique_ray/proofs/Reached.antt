-- The instances whose boxes a ray meets have all segments, and the regions of these are those that have instances with segments.
use Rattle.std.proofs.Common.{◌≡◌, ◌<◌, ◌≤◌, ◌+◌, ℕ, zero, suc, pos, ◌<ℤ◌, List, [], ◌∷◌, ◌++◌, length, map, flat_map, drop, get_or, slice_get, Bool, true, false, cond, Option, Some, None, IfSome, All, AllPairs, refl, ap, sym, subst, ◌∙◌, inl, inr, arith}
use Rattle.std.proofs.lemmas.Bool.{cases_lt}
use Rattle.std.proofs.lemmas.List.{drop_more, get_or-map, length-append, length-map, append_assoc}
use Rattle.std.proofs.lemmas.List.Elements.{All-append, All-head, All-nil, All-tail}
use Rattle.std.proofs.lemmas.List.Kept.{AllPairs-from_increasing}
use Rattle.std.proofs.lemmas.Option.{slice_get_within, get_or_from_slice_get}
use Rattle.lattice_core.specs.declared.limit.TheConstants.{FAR}
use Rattle.lattice_core.specs.declared.boxes.Box3.{Box3}
use Rattle.lattice_core.specs.declared.boxes.Box3.TheVariants.{Empty}
use Rattle.lattice_core.specs.declared.vector.V3.{V3}
use Rattle.plane_geom.specs.Chords.{length_squared}
use Rattle.box_index.specs.Lines.{MeetsSlant}
use Rattle.box_index.specs.Places.{ArePlacesOf}
use Rattle.bool_weave.proofs.Sorted.{Has, contains_from_has, has_from_contains}
use Rattle.solid_set.specs.declared.surface.Surface.{Surface}
use Rattle.solid_set.specs.PlacedFaces.{IsInsideAlong, HoldsInsideAlong}
use Rattle.solid_set.proofs.Enclosed.{enclosed_along}
use Rattle.shot_core.specs.Prepared.{boxes_of}
use Rattle.shot_core.specs.Regions.{Instance, Region, IsPlacedSolid, HavePlacedSolids, instances_of}
use Rattle.shot_core.specs.Steps.{has_some, marked_from, noted, owned_from}
use Rattle.shot_core.proofs.Numbering.{get_right}
use Rattle.shot_core.proofs.Reaching.{Owned, hits_of, all_hits, owned_are, owned_there}
use Rattle.slant_ranks.specs.Slants.{SlantSegment}
use Rattle.surd_quot.specs.declared.position.QPos.TheVariants.{Frac}
use Rattle.surd_quot.specs.Positions.{IsQuotientPlace}
use Rattle.surd_quot.proofs.SpelledQuotients.{spelled_quotient_place}
use Rattle.oblique_ray.specs.declared.piece.Piece.{Piece}
use Rattle.oblique_ray.specs.CutSteps.{segment_of_piece}
use Rattle.oblique_ray.specs.Places.{IsOnSlant, IsSound, LiesBetween, slant_places}
use Rattle.oblique_ray.specs.Segments.{Stretch, slant_segment}
use Rattle.oblique_ray.specs.Shots.{segment_if, segments_from, segments_on}
use Rattle.oblique_ray.specs.ShotSteps.{segment_if_there, numbered_segment, owner_of, owners_noted}
use Rattle.oblique_ray.proofs.SegmentLaws.{at_zero, slant_segments_tell_points}
use Rattle.oblique_ray.proofs.Separated.{between_but}
use Rattle.oblique_ray.proofs.SlabList.{zero_place, far_place, between_ends}

-- ---- a segment lies in the box of its solid
module _ (o e : V3) (some : pos 0 <ℤ length_squared e) where
  stretch_meets : (surface : Surface) (bounds : Box3) (stretch : Stretch) → HoldsInsideAlong surface bounds → slant_segment FAR surface o e ≡ Some stretch → MeetsSlant bounds o e
  stretch_meets surface bounds stretch holds is =
      let tells = slant_segments_tell_points FAR surface o e some in
      let sound : IsSound FAR stretch = tells.sound stretch is in
      let place : IsQuotientPlace stretch.start = spelled_quotient_place stretch.start sound.start_spelled in
      let place' : IsQuotientPlace stretch.end = spelled_quotient_place stretch.end sound.end_spelled in
      let f = between_but (slant_places FAR surface o e) stretch.start stretch.end (zero_place, (far_place FAR, (at_zero surface o e some).met_places)) place place' sound.ordered in
      let on : IsOnSlant FAR f.p f.q = between_ends FAR stretch.start stretch.end f.p f.q f.positive place place' sound.begun sound.not_ended f.after f.before in
      let inside : IsInsideAlong surface o e f.p f.q = (tells.exact f.p f.q on f.apart).1 (subst (λ (found : Option Stretch). LiesBetween found (Frac f.p f.q)) (sym is) (f.after, f.before)) in
      record { p = f.p; q = f.q; on_ray = record { positive = f.positive; begun = on.begun; not_ended = on.not_ended }; inside = holds o e f.p f.q f.positive inside }

  missed_by : (surface : Surface) (bounds : Box3) (found : Option Stretch) → slant_segment FAR surface o e ≡ found → HoldsInsideAlong surface bounds → ¬ (MeetsSlant bounds o e) → found ≡ None
  missed_by surface bounds None is holds away = refl
  missed_by surface bounds (Some stretch) is holds away = absurd (away (stretch_meets surface bounds stretch holds is))

-- ---- the instances of some rising numbers have all segments, where no other has one
abbrev Rises : List ℕ → Type 0
Rises numbers = AllPairs (λ m n. m < n) numbers

rest_rises : (m : ℕ) (ms : List ℕ) → Rises (m ∷ ms) → Rises ms
rest_rises m ms rises = λ i j d lt within. rises (suc i) (suc j) d (omega (arith, lt)) (omega (arith, within))

head_below : (m : ℕ) (ms : List ℕ) → Rises (m ∷ ms) → (n : ℕ) → Has ms n → m < n
head_below m ms rises n has = let c = contains_from_has ms n has in subst (λ (k : ℕ). m < k) c.2 (rises zero (suc c.0) n (omega arith) (omega (arith, c.1)))

least : (m : ℕ) (ms : List ℕ) → Rises (m ∷ ms) → (n : ℕ) → Has (m ∷ ms) n → m ≤ n
least m ms rises n has = elim has [ inl same ↦ omega (arith, same) | inr more ↦ omega (arith, head_below m ms rises n more) ]

module _ (o e : V3) (all : List Instance) where
  abbrev AreWithin : ℕ → List Instance → List ℕ → Type 0
  AreWithin first rest numbers = (n : ℕ) → Has numbers n → (first ≤ n) × (n < first + length rest)

  abbrev AreBareBut : ℕ → List Instance → List ℕ → Type 0
  AreBareBut first rest numbers = (j : ℕ) (i : Instance) → slice_get rest j ≡ Some i → ¬ (Has numbers (first + j)) → slant_segment FAR i.surface o e ≡ None

  bare_rest : (first : ℕ) (i : Instance) (rest : List Instance) (numbers more : List ℕ) → AreBareBut first (i ∷ rest) numbers → ((n : ℕ) → first < n → Has numbers n → Has more n) → AreBareBut (first + 1) rest more
  bare_rest first i rest numbers more bare kept = λ j one there none.
      let next : first + suc j ≡ first + 1 + j = omega arith in
      bare (suc j) one there (λ has. none (subst (Has more) next (kept (first + suc j) (omega arith) has)))

  reach : (rest : List Instance) (first : ℕ) (numbers : List ℕ) → ((j : ℕ) → slice_get all (first + j) ≡ slice_get rest j) → Rises numbers → AreWithin first rest numbers → AreBareBut first rest numbers
      → flat_map (numbered_segment all o e) numbers ≡ segments_from FAR o e first rest
  reach [] first [] at rises within bare = refl
  reach [] first (m ∷ ms) at rises within bare = let w = within m (inl refl) in absurd (omega (arith, w.0, w.1))
  reach (i ∷ rest) first [] at rises within bare =
      let at' : (j : ℕ) → slice_get all (first + 1 + j) ≡ slice_get rest j = λ j. let next : first + 1 + j ≡ first + suc j = omega arith in ap (slice_get all) next ∙ at (suc j) in
      reach rest (first + 1) [] at' rises (λ n has. absurd has) (bare_rest first i rest [] [] bare (λ n lt has. has))
      ∙ ap (λ (found : Option Stretch). segment_if first found ++ segments_from FAR o e (first + 1) rest) (sym (bare 0 i refl (λ has. absurd has)))
  reach (i ∷ rest) first (m ∷ ms) at rises within bare =
      let at' : (j : ℕ) → slice_get all (first + 1 + j) ≡ slice_get rest j = λ j. let next : first + 1 + j ≡ first + suc j = omega arith in ap (slice_get all) next ∙ at (suc j) in
      elim (cases_lt first m) [
        | inl later ↦
            reach rest (first + 1) (m ∷ ms) at' rises (λ n has. (omega (arith, least m ms rises n has, later), omega (arith, (within n has).1))) (bare_rest first i rest (m ∷ ms) (m ∷ ms) bare (λ n lt has. has))
            ∙ ap (λ (found : Option Stretch). segment_if first found ++ segments_from FAR o e (first + 1) rest) (sym (bare 0 i refl (λ has. absurd (omega (arith, least m ms rises (first + 0) has, later)))))
        | inr not_later ↦
            let same : m ≡ first = omega (arith, not_later, (within m (inl refl)).0) in
            let start : first ≡ first + 0 = omega arith in
            ap (λ (n : ℕ). numbered_segment all o e n ++ flat_map (numbered_segment all o e) ms) same
            ∙ ap (λ (there : Option Instance). segment_if_there there o e first ++ flat_map (numbered_segment all o e) ms) (ap (slice_get all) start ∙ at 0)
            ∙ ap (λ (l : List SlantSegment). segment_if first (slant_segment FAR i.surface o e) ++ l)
            (reach rest (first + 1) ms at' (rest_rises m ms rises) (λ n has. (omega (arith, head_below m ms rises n has, same), omega (arith, (within n (inr has)).1)))
            (bare_rest first i rest (m ∷ ms) ms bare (λ n lt has. elim has [ inl here ↦ absurd (omega (arith, here, same, lt)) | inr more ↦ more ])))
      ]

all_placed : (rs : List Region) → HavePlacedSolids rs → All IsPlacedSolid (instances_of rs)
all_placed [] placed = All-nil IsPlacedSolid
all_placed (r ∷ rs) placed =
    All-append IsPlacedSolid r.body.instances (instances_of rs) (All-head (λ (r : Region). All IsPlacedSolid r.body.instances) r rs placed)
    (all_placed rs (All-tail (λ (r : Region). All IsPlacedSolid r.body.instances) r rs placed))

-- so those whose boxes are met have all
pub reached : (o e : V3) (rs : List Region) (boxes : List Box3) (places : List ℕ) → pos 0 <ℤ length_squared e → boxes ≡ boxes_of (instances_of rs) → ArePlacesOf (λ b. MeetsSlant b o e) boxes places → HavePlacedSolids rs
    → flat_map (numbered_segment (instances_of rs) o e) places ≡ segments_on rs o e
reached o e rs boxes places some boxes_are are placed =
    let xs = instances_of rs in
    let count : length boxes ≡ length xs = ap length boxes_are ∙ length-map xs (λ (i : Instance). i.bounds) in
    reach o e xs xs 0 places (λ j. let whole : 0 + j ≡ j = omega arith in ap (slice_get xs) whole) (AllPairs-from_increasing places are.rising)
    (λ n has. let h = (are.exact n).0 (contains_from_has places n has) in (omega arith, omega (arith, h.0, count)))
    (λ j i there none.
    let lt : j < length xs = slice_get_within xs j i there in
    let is : get_or xs j i ≡ i = get_or_from_slice_get xs j i i there in
    let box : get_or boxes j Empty ≡ i.bounds = ap (λ (bs : List Box3). get_or bs j Empty) boxes_are ∙ get_or-map (λ (i : Instance). i.bounds) xs j i Empty lt ∙ ap (λ (one : Instance). one.bounds) is in
    let solid : IsPlacedSolid i = subst IsPlacedSolid is (all_placed rs placed j i lt) in
    let whole : j ≡ 0 + j = omega arith in
    missed_by o e some i.surface i.bounds (slant_segment FAR i.surface o e) refl (enclosed_along i.surface i.bounds solid)
    (λ meets. none (subst (Has places) whole (has_from_contains places j ((are.exact j).1 (omega (arith, lt, count), subst (λ (b : Box3). MeetsSlant b o e) (sym box) meets))))))

-- ---- the regions that have segments
abbrev pub is_found : Option Stretch → Bool
is_found None = false
is_found (Some stretch) = true

-- whether an instance has a segment
abbrev pub has_stretch : V3 → V3 → Instance → Bool
has_stretch o e i = is_found (slant_segment FAR i.surface o e)

noted_one : (all : List Owned) (n : ℕ) (z : Owned) (found : Option Stretch) (ws : List SlantSegment) (numbers : List ℕ) → slice_get all n ≡ Some z
    → owners_noted all (segment_if n found ++ ws) numbers ≡ owners_noted all ws (cond (is_found found) (noted numbers z.0) numbers)
noted_one all n z None ws numbers here = refl
noted_one all n z (Some stretch) ws numbers here = ap (λ (one : Option Owned). owners_noted all ws (noted numbers (owner_of one))) here

module _ (o e : V3) where
  noted_from : (pre rest : List Owned) (numbers : List ℕ)
      → owners_noted (pre ++ rest) (segments_from FAR o e (length pre) (map (λ (z : Owned). z.1) rest)) numbers ≡ hits_of (has_stretch o e) rest numbers
  noted_from pre [] numbers = refl
  noted_from pre (z ∷ rest) numbers =
      let n = length pre in
      let all = pre ++ z ∷ rest in
      let is = map (λ (z : Owned). z.1) rest in
      let whole : (pre ++ z ∷ []) ++ rest ≡ all = append_assoc pre (z ∷ []) rest in
      let long : length (pre ++ z ∷ []) ≡ n + 1 = length-append pre (z ∷ []) in
      let next : List ℕ = cond (has_stretch o e z.1) (noted numbers z.0) numbers in
      let later : owners_noted all (segments_from FAR o e (n + 1) is) next ≡ hits_of (has_stretch o e) rest next =
      subst (λ (l : List Owned). owners_noted l (segments_from FAR o e (n + 1) is) next ≡ hits_of (has_stretch o e) rest next) whole
      (subst (λ (k : ℕ). owners_noted ((pre ++ z ∷ []) ++ rest) (segments_from FAR o e k is) next ≡ hits_of (has_stretch o e) rest next) long (noted_from (pre ++ z ∷ []) rest next)) in
      let start : n ≡ n + 0 = omega arith in
      let here : slice_get all n ≡ Some z = ap (slice_get all) start ∙ get_right pre (z ∷ rest) 0 in
      noted_one all n z (slant_segment FAR z.1.surface o e) (segments_from FAR o e (n + 1) is) numbers here ∙ later

  -- they are those that have an instance with a segment
  pub touched_are : (rs : List Region) → owners_noted (owned_from 0 rs) (segments_on rs o e) [] ≡ marked_from 0 (map (has_some (has_stretch o e)) rs)
  touched_are rs =
      ap (λ (is : List Instance). owners_noted (owned_from 0 rs) (segments_from FAR o e 0 is) []) (sym (owned_are 0 rs))
      ∙ noted_from [] (owned_from 0 rs) []
      ∙ all_hits (has_stretch o e) 0 rs [] tt

-- the region of the instance of a number
some_at : (xs : List Instance) (n : ℕ) → n < length xs → (i : Instance) × (slice_get xs n ≡ Some i)
some_at [] n lt = absurd (omega (arith, lt))
some_at (x ∷ xs) zero lt = (x, refl)
some_at (x ∷ xs) (suc n) lt = some_at xs n (omega (arith, lt))

pub owner_told : (rs : List Region) (number n : ℕ) → number < length (instances_of rs) → IfSome (slice_get (owned_from 0 rs) number) (λ one. one.0 ≡ n) → owner_of (slice_get (owned_from 0 rs) number) ≡ n
owner_told rs number n lt told =
    let one = some_at (instances_of rs) number lt in
    let a = owned_there rs number one.0 one.1 in
    ap owner_of a.there ∙ subst (λ (o : Option Owned). IfSome o (λ z. z.0 ≡ n)) a.there told

-- one more piece
pub noted_next : (rs : List Region) (pieces : List Piece) (i n : ℕ) (d : Piece) (numbers next all : List ℕ) → i < length pieces → (get_or pieces i d).instance < length (instances_of rs)
    → IfSome (slice_get (owned_from 0 rs) (get_or pieces i d).instance) (λ one. one.0 ≡ n) → next ≡ noted numbers n → owners_noted (owned_from 0 rs) (map segment_of_piece (drop i pieces)) numbers ≡ all
    → owners_noted (owned_from 0 rs) (map segment_of_piece (drop (i + 1) pieces)) next ≡ all
noted_next rs pieces i n d numbers next all lt within told noted_is before =
    let rest = map segment_of_piece (drop (i + 1) pieces) in
    ap (owners_noted (owned_from 0 rs) rest) (noted_is ∙ ap (noted numbers) (sym (owner_told rs (get_or pieces i d).instance n within told)))
    ∙ ap (λ (l : List Piece). owners_noted (owned_from 0 rs) (map segment_of_piece l) numbers) (sym (drop_more pieces i d lt))
    ∙ before
