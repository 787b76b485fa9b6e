-- The partitions of a ray are the one list of stretches that tells what lies at its points.
use Rattle.std.proofs.Common.{◌≡◌, ◌<◌, ℕ, zero, suc, List, [], ◌∷◌, ◌++◌, length, flat_map, All, AllPairs, ap, sym, subst, refl, inl, inr, arith, ◌≤◌, map}
use Rattle.std.proofs.lemmas.Bool.{cases_lt}
use Rattle.std.proofs.lemmas.Int.{ints}
use Rattle.std.proofs.lemmas.List.Elements.{All-map}
use Rattle.lattice_core.specs.declared.ray.Ray.{Ray}
use Rattle.surd_order.specs.declared.position.Pos.{Pos}
use Rattle.surd_order.specs.declared.position.Pos.TheVariants.{Frac}
use Rattle.surd_order.specs.Order.{IsPlace, SamePlace}
use Rattle.surd_order.proofs.OrderLaws.{asymmetric, same_symm, same_refl}
use Rattle.solid_set.specs.HitPlaces.{surface_places, IsAtOneOf}
use Rattle.solid_set.proofs.HitPlaceLaws.{behind}
use Rattle.solid_set.proofs.Places.{places_append, surface_is_placed}
use Rattle.bool_weave.specs.declared.woven.Woven.{Woven}
use Rattle.bool_weave.specs.Claims.{intervals_of}
use Rattle.bool_weave.proofs.Sorted.{Has, contains_from_has}
use Rattle.overlap_list.specs.declared.partition.Partition.{Partition}
use Rattle.overlap_list.specs.declared.region.RegionClaims.{RegionClaims}
use Rattle.overlap_list.specs.Hits.{cut_at}
use Rattle.overlap_list.specs.Laws.{IsWonRun}
use Rattle.overlap_list.specs.Partitions.{or_zero, won_runs, partition_of}
use Rattle.overlap_list.specs.Runs.{IntervalRun}
use Rattle.overlap_list.specs.Winners.{winner_of}
use Rattle.overlap_list.proofs.Ordered.{all_from_has, pairs_from_rises, rises_map, rises_weaker}
use Rattle.overlap_list.proofs.Parts.{AreApart, some_of, or_zero_apart, runs_rise, winner_is, won_run}
use Rattle.shot_core.specs.declared.shot.Lit.{Lit}
use Rattle.shot_core.specs.Points.{ray_places, Stretch, stretch_of, stretches_of, HasPosition, HasRegionAt, TellsPoints, IsStretch, EndsBefore, AreStretches, PartitionsTellPoints}
use Rattle.shot_core.specs.Regions.{Instance, Region, HaveInstances, instances_of}
use Rattle.shot_core.specs.Shots.{woven_of, claims_on, lit_by, lit_of}
use Rattle.shot_core.specs.Steps.{no_region}
use Rattle.shot_core.proofs.Claiming.{claims_length}
use Rattle.shot_core.proofs.OneList.{IsAround, HasAround, AreGood, ArePlaces, start_place, end_place, Gives, one_list}
use Rattle.shot_core.proofs.Pointing.{at_of, at_left, at_right, any_from, any_to, on_ray, rises, tells_points}

-- the places of hits are places
instances_placed : (ray : Ray) (xs : List Instance) → ArePlaces (flat_map (λ (i : Instance). surface_places i.surface ray) xs)
instances_placed ray [] = tt
instances_placed ray (x ∷ xs) = places_append (surface_places x.surface ray) (flat_map (λ (i : Instance). surface_places i.surface ray) xs) (surface_is_placed x.surface ray) (instances_placed ray xs)

rays_placed : (regions : List Region) (ray : Ray) → ArePlaces (ray_places regions ray)
rays_placed regions ray = (omega (arith, ints), (omega (arith, ints), instances_placed ray (instances_of regions)))

-- the ends of stretches
abbrev ends_of : List Stretch → List Pos
ends_of [] = []
ends_of (s ∷ ss) = s.start ∷ s.end ∷ ends_of ss

ends_placed : (ss : List Stretch) → ((s : Stretch) → Has ss s → IsStretch s) → ArePlaces (ends_of ss)
ends_placed [] each = tt
ends_placed (s ∷ ss) each = (start_place s (each s (inl refl)), (end_place s (each s (inl refl)), ends_placed ss (λ t has. each t (inr has))))

start_has : (ss : List Stretch) (s : Stretch) → Has ss s → Has (ends_of ss) s.start
start_has [] s has = absurd has
start_has (t ∷ ts) s has = elim has [ inl e ↦ inl (ap (λ (u : Stretch). u.start) e) | inr more ↦ inr (inr (start_has ts s more)) ]

end_has : (ss : List Stretch) (s : Stretch) → Has ss s → Has (ends_of ss) s.end
end_has [] s has = absurd has
end_has (t ∷ ts) s has = elim has [ inl e ↦ inr (inl (ap (λ (u : Stretch). u.end) e)) | inr more ↦ inr (inr (end_has ts s more)) ]

-- what has a position that is none of its ends lies strictly around it
around_one : (ss : List Stretch) (s : Stretch) (n : ℕ) (x : Pos) → Has ss s → IsAround s n x → HasAround ss n x
around_one [] s n x has around = absurd has
around_one (t ∷ ts) s n x has around = elim has [ inl e ↦ inl (subst (λ (u : Stretch). IsAround u n x) (sym e) around) | inr more ↦ inr (around_one ts s n x more around) ]

one_around : (ss : List Stretch) (n : ℕ) (x : Pos) → HasAround ss n x → (s : Stretch) × Has ss s × IsAround s n x
one_around [] n x around = absurd around
one_around (t ∷ ts) n x around = elim around [ inl here ↦ (t, inl refl, here) | inr more ↦ let s = one_around ts n x more in (s.0, inr s.1, s.2) ]

has_around : (ss : List Stretch) → ((s : Stretch) → Has ss s → IsStretch s) → (n : ℕ) (x : Pos) → IsPlace x → ¬ (IsAtOneOf (ends_of ss) x) → HasRegionAt ss n x → HasAround ss n x
has_around ss each n x place apart any =
    let s = any_to (λ (s : Stretch). (s.region ≡ n) × HasPosition s x) ss any in
    let h = each s.0 s.1 in
    around_one ss s.0 n x s.1 (record {
      region = s.2.0;
      after = behind s.0.start x (start_place s.0 h) place s.2.1.begun (λ same. apart (at_of (ends_of ss) x s.0.start (start_has ss s.0 s.1) same));
      before = behind x s.0.end place (end_place s.0 h) s.2.1.not_ended (λ same. apart (at_of (ends_of ss) x s.0.end (end_has ss s.0 s.1) (same_symm s.0.end x same)));
    })

around_has : (ss : List Stretch) → ((s : Stretch) → Has ss s → IsStretch s) → (n : ℕ) (x : Pos) → IsPlace x → HasAround ss n x → HasRegionAt ss n x
around_has ss each n x place around =
    let s = one_around ss n x around in
    let h = each s.0 s.1 in
    any_from (λ (s : Stretch). (s.region ≡ n) × HasPosition s x) ss s.0 s.1 (
      s.2.region,
      record { begun = asymmetric s.0.start x (start_place s.0 h) place s.2.after; not_ended = asymmetric x s.0.end place (end_place s.0 h) s.2.before },
    )

-- a list of stretches by recursion
each_of : (ss : List Stretch) → All IsStretch ss → (s : Stretch) → Has ss s → IsStretch s
each_of ss all s has = let c = contains_from_has ss s has in subst IsStretch c.2 (all c.0 s c.1)

pub good_of : (ss : List Stretch) → All IsStretch ss → AllPairs EndsBefore ss → AreGood ss
good_of [] all pairs = tt
good_of (s ∷ ss) all pairs = (
  all zero s (omega arith),
  (λ t has. let c = contains_from_has ss t has in subst (EndsBefore s) c.2 (pairs zero (suc c.0) t (omega arith) (omega (arith, c.1)))),
  good_of ss (λ k d lt. all (suc k) d (omega (arith, lt))) (λ i j d lt within. pairs (suc i) (suc j) d (omega (arith, lt)) (omega (arith, within))),
)

-- two lists that tell what lies at the points of a ray are one
module _ (regions : List Region) (ray : Ray) (ss ts : List Stretch) (ordered : AreStretches (length regions) ss) (ordered' : AreStretches (length regions) ts) where
  abbrev avoided : List Pos
  avoided = ray_places regions ray ++ (ends_of ss ++ ends_of ts)

  avoided_placed : ArePlaces avoided
  avoided_placed =
      places_append (ray_places regions ray) (ends_of ss ++ ends_of ts) (rays_placed regions ray)
      (places_append (ends_of ss) (ends_of ts) (ends_placed ss (each_of ss ordered.each)) (ends_placed ts (each_of ts ordered'.each)))

  gives : TellsPoints regions ray ss → TellsPoints regions ray ts → Gives avoided ss ts
  gives tells tells' p q n on apart around =
      let no_hit : ¬ (IsAtOneOf (ray_places regions ray) (Frac p q)) = λ at. apart (at_left (ray_places regions ray) (ends_of ss ++ ends_of ts) (Frac p q) at) in
      let apart_ts : ¬ (IsAtOneOf (ends_of ts) (Frac p q)) = λ at. apart (at_right (ray_places regions ray) (ends_of ss ++ ends_of ts) (Frac p q) (at_right (ends_of ss) (ends_of ts) (Frac p q) at)) in
      has_around ts (each_of ts ordered'.each) n (Frac p q) on.positive apart_ts
      ((tells' p q n on no_hit).1 ((tells p q n on no_hit).0 (around_has ss (each_of ss ordered.each) n (Frac p q) on.positive around)))

  gives_back : TellsPoints regions ray ss → TellsPoints regions ray ts → Gives avoided ts ss
  gives_back tells tells' p q n on apart around =
      let no_hit : ¬ (IsAtOneOf (ray_places regions ray) (Frac p q)) = λ at. apart (at_left (ray_places regions ray) (ends_of ss ++ ends_of ts) (Frac p q) at) in
      let apart_ss : ¬ (IsAtOneOf (ends_of ss) (Frac p q)) = λ at. apart (at_right (ray_places regions ray) (ends_of ss ++ ends_of ts) (Frac p q) (at_left (ends_of ss) (ends_of ts) (Frac p q) at)) in
      has_around ss (each_of ss ordered.each) n (Frac p q) on.positive apart_ss
      ((tells p q n on no_hit).1 ((tells' p q n on no_hit).0 (around_has ts (each_of ts ordered'.each) n (Frac p q) on.positive around)))

  pub same_lists : TellsPoints regions ray ss → TellsPoints regions ray ts → ss ≡ ts
  same_lists tells tells' =
      one_list avoided avoided_placed ss ts (good_of ss ordered.each ordered.apart) (good_of ts ordered'.each ordered'.apart) (gives tells tells') (gives_back tells tells')

-- the stretches of what is lit, by the runs of intervals that they are made of
module _ (regions : List Region) (ray : Ray) (below : HaveInstances regions) where
  abbrev woven : List Woven
  woven = woven_of regions ray

  abbrev claimed : List RegionClaims
  claimed = claims_on regions ray

  abbrev count : ℕ
  count = length (intervals_of woven)

  abbrev made_of : IntervalRun → Stretch
  made_of run = record { region = or_zero (winner_of claimed run.from); start = cut_at woven run.from; end = cut_at woven run.to }

  run_is : (run : IntervalRun) → Has (won_runs claimed count) run → IsWonRun claimed run × (run.to ≤ count)
  run_is run has = won_run claimed count run has

  numbered : (run : IntervalRun) → Has (won_runs claimed count) run → or_zero (winner_of claimed run.from) < length regions
  numbered run has =
      let r = run_is run has in
      omega (arith, (winner_is claimed run.from (or_zero (winner_of claimed run.from)) (some_of (winner_of claimed run.from) r.0.region)).there, claims_length woven 0 regions)

  is_stretch : (run : IntervalRun) → Has (won_runs claimed count) run → IsStretch (made_of run)
  is_stretch run has =
      let r = run_is run has in
      let start = on_ray regions ray below run.from (omega (arith, r.0.some, r.1)) in
      let end = on_ray regions ray below run.to r.1 in
      record { forward = rises regions ray below run.from run.to r.0.some r.1; begun = start.begun; not_ended = end.not_ended; start_spelled = start.spelled; end_spelled = end.spelled }

  ends_before : (a b : IntervalRun) → Has (won_runs claimed count) a → Has (won_runs claimed count) b → AreApart claimed a b → EndsBefore (made_of a) (made_of b)
  ends_before a b p q apart =
      let v = run_is a p in
      let w = run_is b q in
      elim (cases_lt a.to b.from) [
        | inl lt ↦ inl (rises regions ray below a.to b.from lt (omega (arith, w.0.some, w.1)))
        | inr le ↦
            let e : a.to ≡ b.from = omega (arith, le, apart.order) in
            inr (subst (λ n. SamePlace (cut_at woven a.to) (cut_at woven n)) e (same_refl (cut_at woven a.to)), or_zero_apart (winner_of claimed a.from) (winner_of claimed b.from) v.0.region w.0.region (apart.touching e))
      ]

  abbrev runs : List IntervalRun
  runs = won_runs claimed count

  pub ordered_lit : AreStretches (length regions) (stretches_of (lit_of regions ray))
  ordered_lit = record {
    numbers = All-map (λ (s : Stretch). s.region < length regions) stretch_of (lit_of regions ray)
        (All-map (λ (l : Lit). l.region < length regions) (lit_by regions ray) (map (partition_of woven claimed) runs)
        (All-map (λ (p : Partition). p.region < length regions) (partition_of woven claimed) runs (all_from_has (λ (r : IntervalRun). or_zero (winner_of claimed r.from) < length regions) runs numbered)));
    each = All-map IsStretch stretch_of (lit_of regions ray)
        (All-map (λ (l : Lit). IsStretch (stretch_of l)) (lit_by regions ray) (map (partition_of woven claimed) runs)
        (All-map (λ (p : Partition). IsStretch (stretch_of (lit_by regions ray p))) (partition_of woven claimed) runs (all_from_has (λ (r : IntervalRun). IsStretch (made_of r)) runs is_stretch)));
    apart = pairs_from_rises EndsBefore (stretches_of (lit_of regions ray))
        (rises_map EndsBefore stretch_of (lit_of regions ray)
        (rises_map (λ (k l : Lit). EndsBefore (stretch_of k) (stretch_of l)) (lit_by regions ray) (map (partition_of woven claimed) runs)
        (rises_map (λ (p r : Partition). EndsBefore (stretch_of (lit_by regions ray p)) (stretch_of (lit_by regions ray r))) (partition_of woven claimed) runs
        (rises_weaker (AreApart claimed) (λ (a b : IntervalRun). EndsBefore (made_of a) (made_of b)) runs (λ a b p q apart. ends_before a b p q apart) (runs_rise claimed count)))));
  }

pub true_of_points : PartitionsTellPoints
true_of_points regions ray rising below =
    let tells : TellsPoints regions ray (stretches_of (lit_of regions ray)) = tells_points regions ray below (λ i j lt within. rising i j no_region lt within) in
    let ordered : AreStretches (length regions) (stretches_of (lit_of regions ray)) = ordered_lit regions ray below in
    record { ordered = ordered; tells = tells; alone = λ others ordered' tells'. same_lists regions ray others (stretches_of (lit_of regions ray)) ordered' ordered tells' tells }
