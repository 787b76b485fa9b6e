-- The partitions of a ray in a lattice direction are the one list of slabs that tells what lies at its points.
use Rattle.std.proofs.Common.{◌≡◌, ◌<◌, ◌≤◌, ℕ, zero, suc, ℤ, pos, ◌<ℤ◌, List, [], ◌∷◌, ◌++◌, length, map, flat_map, All, AllPairs, ap, sym, ◌∙◌, subst, refl, inl, inr, arith}
use Rattle.std.proofs.lemmas.Bool.{cases_lt}
use Rattle.std.proofs.lemmas.Int.{ints}
use Rattle.std.proofs.lemmas.List.{length-map}
use Rattle.std.proofs.lemmas.List.Elements.{All-map}
use Rattle.std.proofs.lemmas.Map.Keys.{Less-from_sorted}
use Rattle.std.specs.Int.RustNames.{unsigned_abs}
use Rattle.std.specs.Ordering.{is_lt}
use Rattle.std.specs.declared.cmp.Ordering.TheVariants.{Less}
use Rattle.lattice_core.specs.declared.vector.V3.{V3}
use Rattle.plane_geom.specs.Chords.{length_squared}
use Rattle.surd_order.specs.declared.position.Pos.TheVariants as position
use Rattle.surd_order.proofs.SquareLaws.{gcd_one}
use Rattle.bool_weave.specs.Lines.{Line, cuts_along, cut_along, intervals_along}
use Rattle.bool_weave.proofs.Sorted.{Has, contains_from_has}
use Rattle.overlap_list.specs.declared.region.RegionClaims.{RegionClaims}
use Rattle.overlap_list.specs.Laws.{IsWonRun}
use Rattle.overlap_list.specs.Partitions.{or_zero, won_runs}
use Rattle.overlap_list.specs.Runs.{IntervalRun}
use Rattle.overlap_list.specs.Winners.{winner_of}
use Rattle.overlap_list.proofs.Ordered.{all_from_has, pairs_from_rises, rises_map, rises_weaker}
use Rattle.overlap_list.proofs.Parts.{AreApart, some_of, or_zero_apart, runs_rise, winner_is, won_run}
use Rattle.order_laws.specs.Parts.{Part, part_along}
use Rattle.order_laws.specs.Points.{row_along}
use Rattle.order_laws.specs.Ranks.{CanBeRanked}
use Rattle.order_laws.proofs.Parts.{sorted, between_length}
use Rattle.order_laws.proofs.Ranked.{whole_less}
use Rattle.shot_core.specs.FirstShots.{trees_of}
use Rattle.shot_core.specs.Regions.{Instance, Region, instances_of}
use Rattle.shot_core.proofs.Pointing.{any_from, any_to}
use Rattle.slant_ranks.specs.Slants.{SlantSegment, slant_up_to}
use Rattle.surd_quot.specs.declared.position.QPos.{QPos}
use Rattle.surd_quot.specs.declared.position.QPos.TheVariants.{Frac}
use Rattle.surd_quot.specs.Positions.{quotient_of, IsQuotientPlace}
use Rattle.surd_quot.specs.PlaceOrder.{quotient_cmp}
use Rattle.surd_quot.specs.Spelling.{IsSpelledQuotient}
use Rattle.surd_quot.proofs.Ordered.{never_itself}
use Rattle.surd_quot.proofs.PlaceOrderLaws.{quotient_cmp_total, quotient_places_are_compared, position_comparison}
use Rattle.oblique_ray.specs.declared.slab.Slab.{Slab}
use Rattle.oblique_ray.specs.Cuts.{surface_cut}
use Rattle.oblique_ray.specs.Places.{Before, AtOnePlace, IsAtOneOf, IsSound}
use Rattle.oblique_ray.specs.Points.{ray_hits, IsOnSlab, HasSlabAt, TellsSlantPoints, IsSlab, SlabEndsBefore, AreSlabs, SlabsTellPoints}
use Rattle.oblique_ray.specs.Segments.{slant_start, slant_end}
use Rattle.oblique_ray.specs.Shots.{segments_up_to, slab_of, slabs_up_to}
use Rattle.oblique_ray.proofs.Faces.{fraction_place}
use Rattle.oblique_ray.proofs.Foremost.{ArePlaces, not_before, places_both}
use Rattle.oblique_ray.proofs.PointLaws.{at_left, at_right, trees_length, slabs_tell_points}
use Rattle.oblique_ray.proofs.SegmentLaws.{at_zero, behind, slant_segments_tell_points}
use Rattle.oblique_ray.proofs.Segmented.{cut_by, cut_is_place, segment_of, segments_along}
use Rattle.oblique_ray.proofs.SlabList.{IsAround, HasAround, AreGood, Gives, zero_place, far_place, turned_same, start_place, end_place, start_within, end_begun, one_list}

-- the places of slant hits are places
instances_placed : (o e : V3) → pos 0 <ℤ length_squared e → (xs : List Instance) → ArePlaces (flat_map (λ (i : Instance). (surface_cut i.surface o e).met) xs)
instances_placed o e some [] = tt
instances_placed o e some (x ∷ xs) =
    places_both (surface_cut x.surface o e).met (flat_map (λ (i : Instance). (surface_cut i.surface o e).met) xs) (at_zero x.surface o e some).met_places (instances_placed o e some xs)

hits_placed : (far : ℤ) (regions : List Region) (o e : V3) → pos 0 <ℤ length_squared e → ArePlaces (ray_hits far regions o e)
hits_placed far regions o e some = (zero_place, (far_place far, instances_placed o e some (instances_of regions)))

-- the ends of slabs
abbrev ends_of : List Slab → List QPos
ends_of [] = []
ends_of (s ∷ ss) = s.start ∷ s.end ∷ ends_of ss

start_at : (ss : List Slab) (s : Slab) (x : QPos) → Has ss s → AtOnePlace x s.start → IsAtOneOf (ends_of ss) x
start_at [] s x has same = absurd has
start_at (t ∷ ts) s x has same = elim has [ inl e ↦ inl (subst (λ (u : Slab). AtOnePlace x u.start) (sym e) same) | inr more ↦ inr (inr (start_at ts s x more same)) ]

end_at : (ss : List Slab) (s : Slab) (x : QPos) → Has ss s → AtOnePlace x s.end → IsAtOneOf (ends_of ss) x
end_at [] s x has same = absurd has
end_at (t ∷ ts) s x has same = elim has [ inl e ↦ inr (inl (subst (λ (u : Slab). AtOnePlace x u.end) (sym e) same)) | inr more ↦ inr (inr (end_at ts s x more same)) ]

-- what has a place that is none of its ends lies strictly around it
around_one : (ss : List Slab) (s : Slab) (n : ℕ) (x : QPos) → Has ss s → IsAround s n x → HasAround ss n x
around_one [] s n x has around = absurd has
around_one (t ∷ ts) s n x has around = elim has [ inl e ↦ inl (subst (λ (u : Slab). IsAround u n x) (sym e) around) | inr more ↦ inr (around_one ts s n x more around) ]

one_around : (ss : List Slab) (n : ℕ) (x : QPos) → HasAround ss n x → (s : Slab) × Has ss s × IsAround s n x
one_around [] n x around = absurd around
one_around (t ∷ ts) n x around = elim around [ inl here ↦ (t, inl refl, here) | inr more ↦ let s = one_around ts n x more in (s.0, inr s.1, s.2) ]

module _ (far : ℤ) where
  ends_placed : (ss : List Slab) → ((s : Slab) → Has ss s → IsSlab far s) → ArePlaces (ends_of ss)
  ends_placed [] each = tt
  ends_placed (s ∷ ss) each = (start_place far s (each s (inl refl)), (end_place far s (each s (inl refl)), ends_placed ss (λ t has. each t (inr has))))

  has_around : (ss : List Slab) → ((s : Slab) → Has ss s → IsSlab far s) → (n : ℕ) (x : QPos) → IsQuotientPlace x → ¬ (IsAtOneOf (ends_of ss) x) → HasSlabAt ss n x → HasAround ss n x
  has_around ss each n x place apart any =
      let s = any_to (λ (s : Slab). (s.region ≡ n) × IsOnSlab s x) ss any in
      let h = each s.0 s.1 in
      around_one ss s.0 n x s.1 (record {
        region = s.2.0;
        after = behind x s.0.start place (start_place far s.0 h) s.2.1.begun (λ same. apart (start_at ss s.0 x s.1 same));
        before = behind s.0.end x (end_place far s.0 h) place s.2.1.not_ended (λ same. apart (end_at ss s.0 x s.1 (turned_same s.0.end x same)));
      })

  around_has : (ss : List Slab) → ((s : Slab) → Has ss s → IsSlab far s) → (n : ℕ) (x : QPos) → IsQuotientPlace x → HasAround ss n x → HasSlabAt ss n x
  around_has ss each n x place around =
      let s = one_around ss n x around in
      let h = each s.0 s.1 in
      any_from (λ (s : Slab). (s.region ≡ n) × IsOnSlab s x) ss s.0 s.1
      (s.2.region, record { begun = not_before s.0.start x (start_place far s.0 h) place s.2.after; not_ended = not_before x s.0.end place (end_place far s.0 h) s.2.before })

  -- a list of slabs by recursion
  each_of : (ss : List Slab) → All (IsSlab far) ss → (s : Slab) → Has ss s → IsSlab far s
  each_of ss all s has = let c = contains_from_has ss s has in subst (IsSlab far) c.2 (all c.0 s c.1)

  good_of : (ss : List Slab) → All (IsSlab far) ss → AllPairs SlabEndsBefore ss → AreGood far ss
  good_of [] all pairs = tt
  good_of (s ∷ ss) all pairs = (
    all zero s (omega arith),
    (λ t has. let c = contains_from_has ss t has in subst (SlabEndsBefore s) c.2 (pairs zero (suc c.0) t (omega arith) (omega (arith, c.1)))),
    good_of ss (λ k d lt. all (suc k) d (omega (arith, lt))) (λ i j d lt within. pairs (suc i) (suc j) d (omega (arith, lt)) (omega (arith, within))),
  )

  module _ (regions : List Region) (o e : V3) (some : pos 0 <ℤ length_squared e) where
    -- two lists that tell what lies at the points of a ray are one
    module _ (ss ts : List Slab) (ordered : AreSlabs far (length regions) ss) (ordered' : AreSlabs far (length regions) ts) where
      abbrev hits : List QPos
      hits = ray_hits far regions o e

      abbrev avoided : List QPos
      avoided = hits ++ (ends_of ss ++ ends_of ts)

      avoided_placed : ArePlaces avoided
      avoided_placed =
          places_both hits (ends_of ss ++ ends_of ts) (hits_placed far regions o e some)
          (places_both (ends_of ss) (ends_of ts) (ends_placed ss (each_of ss ordered.each)) (ends_placed ts (each_of ts ordered'.each)))

      gives : TellsSlantPoints far regions o e ss → TellsSlantPoints far regions o e ts → Gives far avoided ss ts
      gives tells tells' p q n on apart around =
          let x : QPos = Frac p q in
          let place : IsQuotientPlace x = fraction_place p q on.positive in
          let no_hit : ¬ (IsAtOneOf hits x) = λ at. apart (at_left hits (ends_of ss ++ ends_of ts) x at) in
          let apart_ts : ¬ (IsAtOneOf (ends_of ts) x) = λ at. apart (at_right hits (ends_of ss ++ ends_of ts) x (at_right (ends_of ss) (ends_of ts) x at)) in
          has_around ts (each_of ts ordered'.each) n x place apart_ts ((tells' p q n on no_hit).1 ((tells p q n on no_hit).0 (around_has ss (each_of ss ordered.each) n x place around)))

      gives_back : TellsSlantPoints far regions o e ss → TellsSlantPoints far regions o e ts → Gives far avoided ts ss
      gives_back tells tells' p q n on apart around =
          let x : QPos = Frac p q in
          let place : IsQuotientPlace x = fraction_place p q on.positive in
          let no_hit : ¬ (IsAtOneOf hits x) = λ at. apart (at_left hits (ends_of ss ++ ends_of ts) x at) in
          let apart_ss : ¬ (IsAtOneOf (ends_of ss) x) = λ at. apart (at_right hits (ends_of ss ++ ends_of ts) x (at_left (ends_of ss) (ends_of ts) x at)) in
          has_around ss (each_of ss ordered.each) n x place apart_ss ((tells p q n on no_hit).1 ((tells' p q n on no_hit).0 (around_has ts (each_of ts ordered'.each) n x place around)))

      same_lists : TellsSlantPoints far regions o e ss → TellsSlantPoints far regions o e ts → ss ≡ ts
      same_lists tells tells' =
          one_list far avoided avoided_placed ss ts (good_of ss ordered.each ordered.apart) (good_of ts ordered'.each ordered'.apart) (gives tells tells') (gives_back tells tells')

    -- the partitions, by the runs of intervals that they are made of
    module _ (far_some : pos 0 <ℤ far) where
      abbrev line : Line SlantSegment QPos
      line = slant_up_to far

      abbrev segments : List SlantSegment
      segments = segments_up_to far regions o e

      abbrev rows : List RegionClaims
      rows = map (row_along line segments) (trees_of regions)

      abbrev count : ℕ
      count = length (intervals_along line segments)

      abbrev runs : List IntervalRun
      runs = won_runs rows count

      abbrev parts : List (Part QPos)
      parts = map (part_along line segments rows) runs

      abbrev made_of : IntervalRun → Slab
      made_of run = slab_of (part_along line segments rows run)

      -- a place on the ray in its one spelling
      record IsOnRay (z : QPos) : Type 0 where
        begun : ¬ (Before z slant_start)
        not_ended : ¬ (Before (slant_end far) z)
        spelled : IsSpelledQuotient z

      from_to : quotient_cmp slant_start (slant_end far) ≡ Less
      from_to = position_comparison (position.Frac (pos 0) (pos 1)) (position.Frac far (pos 1)) (omega (arith, ints)) (omega (arith, ints)) ∙ whole_less (pos 0) far far_some

      not_back : ¬ (Before (slant_end far) slant_start)
      not_back = not_before slant_start (slant_end far) zero_place (far_place far) ((quotient_places_are_compared slant_start (slant_end far) zero_place (far_place far)).less.0 from_to)

      segment_on : (w : SlantSegment) → Has segments w → IsOnRay w.start × IsOnRay w.end
      segment_on w has =
          let it = segment_of far o e 0 (instances_of regions) w has in
          let sound : IsSound far it.stretch = (slant_segments_tell_points far it.one.surface o e some).sound it.stretch it.is in
          let slab : Slab = record { region = 0; start = it.stretch.start; end = it.stretch.end } in
          let is : IsSlab far slab = record { forward = sound.ordered; begun = sound.begun; not_ended = sound.not_ended; start_spelled = sound.start_spelled; end_spelled = sound.end_spelled } in
          subst (λ (v : SlantSegment). IsOnRay v.start × IsOnRay v.end) it.made (
            record { begun = sound.begun; not_ended = start_within far slab is; spelled = sound.start_spelled },
            record { begun = end_begun far slab is; not_ended = sound.not_ended; spelled = sound.end_spelled },
          )

      cut_on : (k : ℕ) → IsOnRay (cut_along line segments k)
      cut_on k =
          cut_by far IsOnRay segments
          (record { begun = never_itself (quotient_of slant_start); not_ended = not_back; spelled = (omega (arith, ints), gcd_one 0) })
          (record { begun = not_back; not_ended = never_itself (quotient_of (slant_end far)); spelled = (omega (arith, ints), gcd_one (unsigned_abs far)) })
          segment_on k

      ranks : CanBeRanked line (pos (length (cuts_along line segments))) segments
      ranks = record { total = quotient_cmp_total; forward = ap is_lt from_to; along = segments_along far o e some 0 (instances_of regions); room = omega (arith, ints) }

      rises : (i j : ℕ) → i < j → j ≤ count → Before (cut_along line segments i) (cut_along line segments j)
      rises i j lt le =
          let cuts : List QPos = cuts_along line segments in
          let within : j < length cuts = omega (arith, lt, le, between_length cuts) in
          let less : quotient_cmp (cut_along line segments i) (cut_along line segments j) ≡ Less = Less-from_sorted quotient_cmp cuts i j slant_start (sorted line (pos (length cuts)) segments ranks) lt within in
          (quotient_places_are_compared (cut_along line segments i) (cut_along line segments j) (cut_is_place far o e some 0 (instances_of regions) i) (cut_is_place far o e some 0 (instances_of regions) j)).less.0 less

      run_is : (run : IntervalRun) → Has runs run → IsWonRun rows run × (run.to ≤ count)
      run_is run has = won_run rows count run has

      numbered : (run : IntervalRun) → Has runs run → or_zero (winner_of rows run.from) < length regions
      numbered run has =
          let r = run_is run has in
          omega (arith, (winner_is rows run.from (or_zero (winner_of rows run.from)) (some_of (winner_of rows run.from) r.0.region)).there, length-map (trees_of regions) (row_along line segments), trees_length 0 regions)

      is_slab : (run : IntervalRun) → Has runs run → IsSlab far (made_of run)
      is_slab run has =
          let r = run_is run has in
          let start = cut_on run.from in
          let end = cut_on run.to in
          record { forward = rises run.from run.to r.0.some r.1; begun = start.begun; not_ended = end.not_ended; start_spelled = start.spelled; end_spelled = end.spelled }

      ends_before : (a b : IntervalRun) → Has runs a → Has runs b → AreApart rows a b → SlabEndsBefore (made_of a) (made_of b)
      ends_before a b p q apart =
          let v = run_is a p in
          let w = run_is b q in
          elim (cases_lt a.to b.from) [
            | inl lt ↦ inl (rises a.to b.from lt (omega (arith, w.0.some, w.1)))
            | inr le ↦
                let e : a.to ≡ b.from = omega (arith, le, apart.order) in
                let itself : AtOnePlace (cut_along line segments a.to) (cut_along line segments a.to) = record { not_before = never_itself (quotient_of (cut_along line segments a.to)); not_after = never_itself (quotient_of (cut_along line segments a.to)) } in
                inr (subst (λ (n : ℕ). AtOnePlace (cut_along line segments a.to) (cut_along line segments n)) e itself, or_zero_apart (winner_of rows a.from) (winner_of rows b.from) v.0.region w.0.region (apart.touching e))
          ]

      ordered_slabs : AreSlabs far (length regions) (slabs_up_to far regions o e)
      ordered_slabs = record {
        numbers = All-map (λ (s : Slab). s.region < length regions) slab_of parts
            (All-map (λ (p : Part QPos). p.region < length regions) (part_along line segments rows) runs (all_from_has (λ (r : IntervalRun). or_zero (winner_of rows r.from) < length regions) runs numbered));
        each = All-map (IsSlab far) slab_of parts
            (All-map (λ (p : Part QPos). IsSlab far (slab_of p)) (part_along line segments rows) runs (all_from_has (λ (r : IntervalRun). IsSlab far (made_of r)) runs is_slab));
        apart = pairs_from_rises SlabEndsBefore (slabs_up_to far regions o e)
            (rises_map SlabEndsBefore slab_of parts
            (rises_map (λ (p r : Part QPos). SlabEndsBefore (slab_of p) (slab_of r)) (part_along line segments rows) runs
            (rises_weaker (AreApart rows) (λ (a b : IntervalRun). SlabEndsBefore (made_of a) (made_of b)) runs (λ a b p q apart. ends_before a b p q apart) (runs_rise rows count))));
      }

pub true_of_slant : SlabsTellPoints
true_of_slant far regions o e far_some some rising below =
    let slabs : List Slab = slabs_up_to far regions o e in
    let tells : TellsSlantPoints far regions o e slabs = slabs_tell_points far regions o e far_some some rising below in
    let ordered : AreSlabs far (length regions) slabs = ordered_slabs far regions o e some far_some in
    record { ordered = ordered; tells = tells; alone = λ others ordered' tells'. same_lists far regions o e some others slabs ordered' ordered tells' tells }
