-- Partitions, one beginning after another.
use Rattle.std.proofs.Common.{◌≡◌, ◌<◌, ◌≤◌, ◌+◌, ◌⊎◌, ℕ, zero, suc, List, [], ◌∷◌, ◌++◌, length, get_or, map, filter, flat_map, Bool, true, false, Option, Some, None, ap, sym, ◌∙◌, refl, inl, inr, arith}
use Rattle.std.specs.List.{range_with_len}
use Rattle.std.proofs.lemmas.List.{map-append, get_or_default}
use Rattle.bool_weave.specs.declared.woven.Woven.{Woven}
use Rattle.surd_order.specs.declared.position.Pos.{Pos}
use Rattle.bool_weave.specs.Cuts.{cuts_of, ray_start}
use Rattle.bool_weave.specs.Claims.{intervals_of}
use Rattle.bool_weave.proofs.Claimed.{intervals_length}
use Rattle.overlap_list.specs.declared.region.RegionClaims.{RegionClaims}
use Rattle.overlap_list.specs.declared.hit.Hit.{Hit}
use Rattle.overlap_list.specs.Hits.{is_candidate, lowest, hit_on, cut_at}
use Rattle.overlap_list.specs.declared.partition.Partition.{Partition}
use Rattle.overlap_list.specs.Winners.{winner_of}
use Rattle.overlap_list.specs.Runs.{runs_from, has_before}
use Rattle.overlap_list.specs.Partitions.{is_one_winner, is_won_as, or_zero, or_no_hit, partition_of}
use Rattle.overlap_list.specs.Steps.{winner_at, goes_on, IsEnd, passes}
use Rattle.overlap_list.proofs.Running.{run_of, begins, begins_none, filter_more}

before_same : (f g : ℕ → Bool) → ((k : ℕ) → f k ≡ g k) → (n : ℕ) → has_before f n ≡ has_before g n
before_same f g same zero = refl
before_same f g same (suc n) = same n

module _ (regions : List RegionClaims) (winners : List (Option ℕ)) (are : (k : ℕ) → winner_at winners k ≡ winner_of regions k) where
  same : (from k : ℕ) → goes_on winners from k ≡ is_won_as regions from k
  same from k = ap (λ o. is_one_winner o (winner_at winners k)) (are from) ∙ ap (λ o. is_one_winner (winner_of regions from) o) (are k)

  lost : (o : Option ℕ) (k : ℕ) → o ≡ None → is_one_winner o (winner_of regions k) ≡ false
  lost o k e = ap (λ x. is_one_winner x (winner_of regions k)) e

  pub no_partition : (count from : ℕ) → (winner_at winners from ≡ None) ⊎ (has_before (goes_on winners from) from ≡ true) → filter (passes (is_won_as regions)) (runs_from count from) ≡ []
  no_partition count from (inl none) = begins_none (is_won_as regions) count from (inl (lost (winner_of regions from) from (sym (are from) ∙ none)))
  no_partition count from (inr before) = begins_none (is_won_as regions) count from (inr (sym (before_same (goes_on winners from) (is_won_as regions from) (same from) from) ∙ before))

  pub one_partition : (count from to : ℕ) → IsEnd (goes_on winners from) from to → to ≤ count → has_before (goes_on winners from) from ≡ false
      → filter (passes (is_won_as regions)) (runs_from count from) ≡ run_of from to ∷ []
  one_partition count from to e within before =
      begins (is_won_as regions) count from to (record { some = e.some; all = λ k low high. sym (same from k) ∙ e.all k low high; ended = sym (same from to) ∙ e.ended }) within
      (sym (before_same (goes_on winners from) (is_won_as regions from) (same from) from) ∙ before)

-- the partitions that begin below a number, and that which begins with it
pub partitions_more : (woven : List Woven) (regions : List RegionClaims) (count n : ℕ) (old new : List Partition)
    → old ≡ map (partition_of woven regions) (filter (passes (is_won_as regions)) (flat_map (runs_from count) (range_with_len 0 n)))
    → new ≡ old ++ map (partition_of woven regions) (filter (passes (is_won_as regions)) (runs_from count n))
    → new ≡ map (partition_of woven regions) (filter (passes (is_won_as regions)) (flat_map (runs_from count) (range_with_len 0 (n + 1))))
partitions_more woven regions count n old new e f =
    f ∙ ap (λ l. l ++ map (partition_of woven regions) (filter (passes (is_won_as regions)) (runs_from count n))) e
    ∙ sym (map-append (partition_of woven regions) (filter (passes (is_won_as regions)) (flat_map (runs_from count) (range_with_len 0 n))) (filter (passes (is_won_as regions)) (runs_from count n)))
    ∙ sym (ap (map (partition_of woven regions)) (filter_more (is_won_as regions) count n))

-- there is an interval less than there are cuts
pub count_is : (woven : List Woven) (cuts : List Pos) → cuts ≡ cuts_of woven → 2 ≤ length cuts → length (intervals_of woven) + 1 ≡ length cuts
count_is woven cuts e some = omega (arith, intervals_length (cuts_of woven), ap length e, some)

pub cut_is : (woven : List Woven) (cuts : List Pos) (k : ℕ) (d : Pos) → cuts ≡ cuts_of woven → k < length cuts → get_or cuts k d ≡ cut_at woven k
cut_is woven cuts k d e lt = get_or_default cuts k d ray_start lt ∙ ap (λ l. get_or l k ray_start) e

pub partition_is : (woven : List Woven) (regions : List RegionClaims) (from to r : ℕ) (start end : Pos) (hit : Hit) → winner_of regions from ≡ Some r → start ≡ cut_at woven from → end ≡ cut_at woven to
    → hit ≡ or_no_hit (hit_on start (lowest (filter (is_candidate regions from start) woven)))
    → (let p : Partition = record { region = r; start = start; end = end; hit = hit } in p) ≡ partition_of woven regions (run_of from to)
partition_is woven regions from to r start end hit won a b h =
    ap (λ x. let p : Partition = record { region = x; start = start; end = end; hit = hit } in p) (sym (ap or_zero won))
    ∙ ap (λ x. let p : Partition = record { region = or_zero (winner_of regions from); start = start; end = x; hit = hit } in p) b
    ∙ ap (λ x. let p : Partition = record { region = or_zero (winner_of regions from); start = start; end = cut_at woven to; hit = x } in p) h
    ∙ ap (λ x. let p : Partition = record { region = or_zero (winner_of regions from); start = x; end = cut_at woven to; hit = or_no_hit (hit_on x (lowest (filter (is_candidate regions from x) woven))) } in p) a
