-- Partitions and overlaps lie on the ray, between cuts.
use Rattle.std.proofs.Common.{◌≡◌, ◌<◌, ◌≤◌, ◌-◌, ℕ, List, length, sym, subst, refl, inl, inr, arith}
use Rattle.std.proofs.lemmas.Bool.{cases_lt}
use Rattle.std.proofs.lemmas.List.Elements.{All-weaker}
use Rattle.surd_order.specs.declared.position.Pos.{Pos}
use Rattle.surd_order.specs.Order.{Precedes}
use Rattle.surd_order.proofs.OrderLaws.{same_refl, transitive}
use Rattle.bool_weave.specs.declared.woven.Woven.{Woven}
use Rattle.bool_weave.specs.Cuts.{ray_start, ray_end, IsWoven, cuts_of}
use Rattle.bool_weave.specs.Claims.{intervals_of}
use Rattle.bool_weave.proofs.Sorted.{has_at, contains_from_has}
use Rattle.bool_weave.proofs.Cutting.{IsGood, cuts_good, are_cuts}
use Rattle.bool_weave.proofs.Claimed.{intervals_length}
use Rattle.bool_weave.proofs.LawProofs.{cuts_within}
use Rattle.overlap_list.specs.declared.partition.Partition.{Partition}
use Rattle.overlap_list.specs.declared.overlap.OverlapRun.{OverlapRun}
use Rattle.overlap_list.specs.Hits.{cut_at}
use Rattle.overlap_list.specs.Partitions.{partitions_of}
use Rattle.overlap_list.specs.Overlaps.{overlaps_of}
use Rattle.overlap_list.specs.Laws.{IsPartOfRay, IsWonPart, PartitionsAreOnTheRay, OverlapsAreOnTheRay}
use Rattle.overlap_list.proofs.Parts.{cut_place, cut_before, partitions_are_won}
use Rattle.overlap_list.proofs.FirstRuns.{overlaps_are_first}
use Rattle.overlap_list.proofs.Ordered.{all_from_has}

module _ (woven : List Woven) (s : IsWoven woven) where
  -- two places do not each precede the other
  not_both : (i j : ℕ) → i < length (cuts_of woven) → j < length (cuts_of woven) → Precedes (cut_at woven i) (cut_at woven j) → ¬ (Precedes (cut_at woven j) (cut_at woven i))
  not_both i j in_i in_j p q = (same_refl (cut_at woven i)).not_before (transitive (cut_at woven i) (cut_at woven j) (cut_at woven i) (cut_place woven s j in_j) (cut_place woven s i in_i) p q)

  -- no cut precedes the start of the ray, and its end precedes none
  cut_begun : (k : ℕ) → k < length (cuts_of woven) → ¬ (Precedes (cut_at woven k) ray_start)
  cut_begun k lt p =
      let first : cut_at woven 0 ≡ ray_start = (cuts_within woven s).first ray_start in
      let back : Precedes (cut_at woven k) (cut_at woven 0) = subst (λ (x : Pos). Precedes (cut_at woven k) x) (sym first) p in
      elim (cases_lt 0 k) [
        | inl behind ↦ not_both 0 k (omega (arith, lt)) lt ((are_cuts woven s).rising 0 k ray_start behind lt) back
        | inr here ↦
            let e : k ≡ 0 = omega (arith, here) in
            (same_refl (cut_at woven 0)).not_before (subst (λ n. Precedes (cut_at woven n) (cut_at woven 0)) e back)
      ]

  cut_not_ended : (k : ℕ) → k < length (cuts_of woven) → ¬ (Precedes ray_end (cut_at woven k))
  cut_not_ended k lt p =
      let n = length (cuts_of woven) - 1 in
      let last : cut_at woven n ≡ ray_end = (cuts_within woven s).last ray_start in
      let on : Precedes (cut_at woven n) (cut_at woven k) = subst (λ (x : Pos). Precedes x (cut_at woven k)) (sym last) p in
      elim (cases_lt k n) [
        | inl before ↦ not_both k n lt (omega (arith, lt)) ((are_cuts woven s).rising k n ray_start before (omega (arith, lt))) on
        | inr here ↦
            let e : k ≡ n = omega (arith, here, lt) in
            (same_refl (cut_at woven n)).not_before (subst (λ m. Precedes (cut_at woven n) (cut_at woven m)) e on)
      ]

  pub cut_good : (k : ℕ) → k < length (cuts_of woven) → IsGood (cut_at woven k)
  cut_good k lt = cuts_good woven (cut_at woven k) s (has_at (cuts_of woven) (cut_at woven k) ray_start k lt refl)

  -- what lies from one cut to a later one is a part of the ray
  between_cuts : (i j : ℕ) → i < j → j ≤ length (intervals_of woven) → IsPartOfRay (cut_at woven i) (cut_at woven j)
  between_cuts i j lt le =
      let in_j : j < length (cuts_of woven) = omega (arith, lt, le, intervals_length (cuts_of woven)) in
      let in_i : i < length (cuts_of woven) = omega (arith, lt, in_j) in
      record {
        ordered = cut_before woven i j s lt le;
        begun = cut_begun i in_i;
        not_ended = cut_not_ended j in_j;
        start_range = (cut_good i in_i).range;
        start_spelled = (cut_good i in_i).spelled;
        end_range = (cut_good j in_j).range;
        end_spelled = (cut_good j in_j).spelled;
      }

  from_cuts : (i j : ℕ) (start end : Pos) → i < j → j ≤ length (intervals_of woven) → start ≡ cut_at woven i → end ≡ cut_at woven j → IsPartOfRay start end
  from_cuts i j start end lt le is_start is_end =
      subst (λ (x : Pos). IsPartOfRay x end) (sym is_start) (subst (λ (x : Pos). IsPartOfRay (cut_at woven i) x) (sym is_end) (between_cuts i j lt le))

pub partitions_are_on_the_ray : PartitionsAreOnTheRay
partitions_are_on_the_ray woven regions s =
    All-weaker (IsWonPart woven regions) (λ (p : Partition). IsPartOfRay p.start p.end) (λ (p : Partition) (w : IsWonPart woven regions p). from_cuts woven s w.run.from w.run.to p.start p.end w.some w.within w.start w.end)
    (partitions_of woven regions) (partitions_are_won woven regions)

pub overlaps_are_on_the_ray : OverlapsAreOnTheRay
overlaps_are_on_the_ray woven regions s rows =
    all_from_has (λ (o : OverlapRun). IsPartOfRay o.start o.end) (overlaps_of woven regions)
    (λ o there. let f = (overlaps_are_first woven regions rows o).0 (contains_from_has (overlaps_of woven regions) o there) in from_cuts woven s f.run.from f.run.to o.start o.end f.some f.within f.start f.end)
