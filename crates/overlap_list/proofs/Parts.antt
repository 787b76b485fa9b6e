-- The laws of partitions and of overlaps: their order, and who winner_is them.
use Rattle.std.proofs.Common.{◌≡◌, ◌≢◌, ◌<◌, ◌≤◌, ◌+◌, ◌-◌, ℕ, List, false, length, get_or, map, find, Option, Some, None, IsSome, MatchOption, ap, sym, ◌∙◌, subst, refl, inl, inr, arith}
use Rattle.std.proofs.lemmas.Bool.{cases_lt, true≢false}
use Rattle.std.proofs.lemmas.List.Elements.{All-map}
use Rattle.surd_order.specs.Order.{Precedes, SamePlace, IsPlace}
use Rattle.surd_order.proofs.OrderLaws.{same_refl}
use Rattle.bool_weave.specs.declared.woven.Woven.{Woven}
use Rattle.bool_weave.specs.Cuts.{ray_start, IsWoven, cuts_of}
use Rattle.bool_weave.specs.Claims.{intervals_of}
use Rattle.bool_weave.proofs.Sorted.{Has, has_at, contains_from_has}
use Rattle.bool_weave.proofs.Cutting.{place_from, cuts_good, are_cuts}
use Rattle.bool_weave.proofs.Claimed.{intervals_length}
use Rattle.overlap_list.specs.declared.region.RegionClaims.{RegionClaims}
use Rattle.overlap_list.specs.declared.partition.Partition.{Partition}
use Rattle.overlap_list.specs.declared.overlap.OverlapRun.{OverlapRun}
use Rattle.overlap_list.specs.Winners.{claims_at, winner_of}
use Rattle.overlap_list.specs.Runs.{IntervalRun, runs_below, is_maximal}
use Rattle.overlap_list.specs.Hits.{cut_at}
use Rattle.overlap_list.specs.Partitions.{is_won_as, won_runs, or_zero, partition_of}
use Rattle.overlap_list.specs.Overlaps.{RegionPair, pairs_up_to, do_overlap_at, overlap_on, first_overlap, overlaps_of}
use Rattle.overlap_list.specs.Laws.{IsWinner, IsWonRun, LiesBefore, AreInOrder, PartitionsAreInOrder, IsWonPart, PartitionsAreWon, HasLowerPlaces, OverlapsAreInOrder}
use Rattle.overlap_list.proofs.Running.{run_of}
use Rattle.overlap_list.proofs.Overlapping.{pair_of}
use Rattle.overlap_list.proofs.LawProofs.{winners_are_right, runs_are_maximal}
use Rattle.overlap_list.proofs.Ordered.{Rises, IsMadeBefore, all_from_has, pairs_from_rises, rises_filter, rises_weaker, rises_map, has_chosen, rises_chosen, has_rows, all_rise}

-- a run of partitions, from its place in their list
pub won_run : (regions : List RegionClaims) (count : ℕ) (run : IntervalRun) → Has (won_runs regions count) run → IsWonRun regions run × (run.to ≤ count)
won_run regions count run h = (runs_are_maximal regions count run).0 (contains_from_has (won_runs regions count) run h)

-- of two runs the one ends before the other begins, or just there, and then another region winner_is
pub record AreApart (regions : List RegionClaims) (a b : IntervalRun) : Type 0 where
  pub order : a.to ≤ b.from
  pub touching : a.to ≡ b.from → winner_of regions b.from ≢ winner_of regions a.from

apart_ends : (regions : List RegionClaims) (a b : IntervalRun) → IsWonRun regions a → IsWonRun regions b → a.from ≡ b.from → a.to < b.to → ⊥
apart_ends regions a b v w e lt =
    v.ended (w.won a.to (omega (arith, v.some, e)) lt ∙ ap (winner_of regions) (sym e))

apart_order : (regions : List RegionClaims) (a b : IntervalRun) → IsWonRun regions a → IsWonRun regions b → a.from < b.from → AreApart regions a b
apart_order regions a b v w lt =
    elim (cases_lt b.from a.to) [
      | inl inside ↦
          let next : b.from - 1 + 1 ≡ b.from = omega (arith, lt) in
          absurd (w.begun (b.from - 1) next (v.won (b.from - 1) (omega (arith, lt)) (omega (arith, inside, lt)) ∙ sym (v.won b.from (omega (arith, lt)) inside)))
      | inr le ↦ record { order = le; touching = λ e s. v.ended (ap (winner_of regions) e ∙ s) }
    ]

runs_apart : (regions : List RegionClaims) (a b : IntervalRun) → IsWonRun regions a → IsWonRun regions b → IsMadeBefore run_of a b → AreApart regions a b
runs_apart regions a b v w (s, t, s', t', e, f, inl lt) = apart_order regions a b v w (omega (arith, lt, ap (λ (r : IntervalRun). r.from) e, ap (λ (r : IntervalRun). r.from) f))
runs_apart regions a b v w (s, t, s', t', e, f, inr h) =
    absurd (apart_ends regions a b v w (omega (arith, h.0, ap (λ (r : IntervalRun). r.from) e, ap (λ (r : IntervalRun). r.from) f)) (omega (arith, h.1, ap (λ (r : IntervalRun). r.to) e, ap (λ (r : IntervalRun). r.to) f)))

pub runs_rise : (regions : List RegionClaims) (count : ℕ) → Rises (AreApart regions) (won_runs regions count)
runs_rise regions count =
    rises_weaker (IsMadeBefore run_of) (AreApart regions) (won_runs regions count)
    (λ a b p q before. runs_apart regions a b (won_run regions count a p).0 (won_run regions count b q).0 before)
    (rises_filter (IsMadeBefore run_of) (λ (r : IntervalRun). is_maximal (is_won_as regions r.from) r) (runs_below count) (all_rise run_of count))

abbrev nobody : Option ℕ
nobody = None

no_winner : IsSome nobody → ⊥
no_winner i = true≢false (sym i)

pub some_of : (o : Option ℕ) → IsSome o → o ≡ Some (or_zero o)
some_of None i = absurd (no_winner i)
some_of (Some n) i = refl

pub or_zero_apart : (a b : Option ℕ) → IsSome a → IsSome b → b ≢ a → or_zero a ≢ or_zero b
or_zero_apart a b i j ne e = ne (some_of b j ∙ ap (λ n. Some n) (sym e) ∙ sym (some_of a i))

-- cuts rise
pub cut_before : (woven : List Woven) (i j : ℕ) → IsWoven woven → i < j → j ≤ length (intervals_of woven) → Precedes (cut_at woven i) (cut_at woven j)
cut_before woven i j s lt le = (are_cuts woven s).rising i j ray_start lt (omega (arith, le, lt, intervals_length (cuts_of woven)))

pub winner_is : (regions : List RegionClaims) (k r : ℕ) → winner_of regions k ≡ Some r → IsWinner regions k r
winner_is regions k r e =
    subst (λ o. MatchOption o ((s : ℕ) (d : RegionClaims) → s < length regions → claims_at (get_or regions s d) k ≡ false) (IsWinner regions k)) e (winners_are_right regions k)

pub cut_place : (woven : List Woven) → IsWoven woven → (k : ℕ) → k < length (cuts_of woven) → IsPlace (cut_at woven k)
cut_place woven s k lt = place_from _ (cuts_good woven (cut_at woven k) s (has_at (cuts_of woven) (cut_at woven k) ray_start k lt refl)).spelled

module _ (woven : List Woven) (regions : List RegionClaims) where
  abbrev count : ℕ
  count = length (intervals_of woven)

  lies_before : (a b : IntervalRun) → IsWoven woven → IsWonRun regions a → IsWonRun regions b → b.to ≤ count → AreApart regions a b → LiesBefore (partition_of woven regions a) (partition_of woven regions b)
  lies_before a b s v w within apart =
      elim (cases_lt a.to b.from) [
        | inl lt ↦ inl (cut_before woven a.to b.from s lt (omega (arith, w.some, within)))
        | inr le ↦
            let e : a.to ≡ b.from = omega (arith, le, apart.order) in
            inr (subst (λ n. SamePlace (cut_at woven a.to) (cut_at woven n)) e (same_refl (cut_at woven a.to)), or_zero_apart (winner_of regions a.from) (winner_of regions b.from) v.region w.region (apart.touching e))
      ]

  pub in_order : IsWoven woven → AreInOrder (map (partition_of woven regions) (won_runs regions count))
  in_order s = record {
    forward = All-map (λ (p : Partition). Precedes p.start p.end) (partition_of woven regions) (won_runs regions count)
        (all_from_has (λ (r : IntervalRun). Precedes (cut_at woven r.from) (cut_at woven r.to)) (won_runs regions count) (λ r h. let w = won_run regions count r h in cut_before woven r.from r.to s w.0.some w.1));
    apart = pairs_from_rises LiesBefore (map (partition_of woven regions) (won_runs regions count))
        (rises_map LiesBefore (partition_of woven regions) (won_runs regions count)
        (rises_weaker (AreApart regions) (λ a b. LiesBefore (partition_of woven regions a) (partition_of woven regions b)) (won_runs regions count)
        (λ a b p q apart. let v = won_run regions count a p in let w = won_run regions count b q in lies_before a b s v.0 w.0 w.1 apart) (runs_rise regions count)));
  }

  pub won_part : (run : IntervalRun) → IsWonRun regions run → run.to ≤ count → IsWonPart woven regions (partition_of woven regions run)
  won_part run w within = record {
    run = run;
    some = w.some;
    within = within;
    start = refl;
    end = refl;
    won = λ k low high. winner_is regions k (or_zero (winner_of regions run.from)) (w.won k low high ∙ some_of (winner_of regions run.from) w.region);
  }

pub partitions_are_in_order : PartitionsAreInOrder
partitions_are_in_order woven regions s = in_order woven regions s

pub partitions_are_won : PartitionsAreWon
partitions_are_won woven regions =
    All-map (IsWonPart woven regions) (partition_of woven regions) (won_runs regions (length (intervals_of woven)))
    (all_from_has (λ (r : IntervalRun). IsWonPart woven regions (partition_of woven regions r)) (won_runs regions (length (intervals_of woven))) (λ r h. let w = won_run regions (length (intervals_of woven)) r h in won_part woven regions r w.0 w.1))

one_of : Option OverlapRun → ℕ
one_of None = 0
one_of (Some r) = r.one

two_of : Option OverlapRun → ℕ
two_of None = 0
two_of (Some r) = r.two

no_overlap_run : (r : OverlapRun) → ◌≡◌ {A = Option OverlapRun} None (Some r) → ⊥
no_overlap_run r e = cc e

-- an overlap is of the pair that it was found for
places_on : (woven : List Woven) (pair : RegionPair) (o : Option IntervalRun) (r : OverlapRun) → overlap_on woven pair o ≡ Some r → (r.one ≡ pair.one) × (r.two ≡ pair.two)
unfolding one_of two_of
places_on woven pair None r e = absurd (no_overlap_run r e)
places_on woven pair (Some run) r e = (sym (ap one_of e), sym (ap two_of e))

module _ (woven : List Woven) (regions : List RegionClaims) where
  places_of_pair : (pair : RegionPair) (r : OverlapRun) → first_overlap woven regions pair ≡ Some r → (r.one ≡ pair.one) × (r.two ≡ pair.two)
  places_of_pair pair r e = places_on woven pair (find (is_maximal (do_overlap_at regions pair)) (runs_below (length (intervals_of woven)))) r e

  lower_places : (v w : RegionPair) (a b : OverlapRun) → IsMadeBefore pair_of v w → first_overlap woven regions v ≡ Some a → first_overlap woven regions w ≡ Some b → HasLowerPlaces a b
  lower_places v w a b before e f =
      let p = places_of_pair v a e in
      let q = places_of_pair w b f in
      let v_one : v.one ≡ before.0 = ap (λ (x : RegionPair). x.one) before.4 in
      let v_two : v.two ≡ before.1 = ap (λ (x : RegionPair). x.two) before.4 in
      let w_one : w.one ≡ before.2 = ap (λ (x : RegionPair). x.one) before.5 in
      let w_two : w.two ≡ before.3 = ap (λ (x : RegionPair). x.two) before.5 in
      elim before.6 [
        | inl lt ↦ inl (omega (arith, lt, p.0, q.0, v_one, w_one))
        | inr h ↦ inr (omega (arith, h.0, p.0, q.0, v_one, w_one), omega (arith, h.1, p.1, q.1, v_two, w_two))
      ]

  is_pair : (r : OverlapRun) → Has (overlaps_of woven regions) r → (r.one < r.two) × (r.two < length regions)
  is_pair r h =
      let c = has_chosen (first_overlap woven regions) (pairs_up_to (length regions - 1)) r h in
      let p = places_of_pair c.0 r c.2 in
      let m = has_rows pair_of (length regions - 1) 0 (length regions - 1) c.0 c.1 in
      let one : c.0.one ≡ m.0 = ap (λ (x : RegionPair). x.one) m.2 in
      let two : c.0.two ≡ m.1 = ap (λ (x : RegionPair). x.two) m.2 in
      (omega (arith, p.0, p.1, one, two, m.4), omega (arith, p.1, two, m.4, m.5))

pub overlaps_are_in_order : OverlapsAreInOrder
overlaps_are_in_order woven regions = record {
  pairs = all_from_has (λ (r : OverlapRun). (r.one < r.two) × (r.two < length regions)) (overlaps_of woven regions) (is_pair woven regions);
  rising = pairs_from_rises HasLowerPlaces (overlaps_of woven regions)
      (rises_chosen (IsMadeBefore pair_of) HasLowerPlaces (first_overlap woven regions) (pairs_up_to (length regions - 1)) (lower_places woven regions) (all_rise pair_of (length regions - 1)));
}
