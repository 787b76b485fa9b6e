-- Each interval that a region claims lies in a run that one region wins, and so in a partition.
use Rattle.std.proofs.Common.{◌≡◌, ◌≢◌, ◌<◌, ◌≤◌, ◌+◌, ◌-◌, ◌⊎◌, ℕ, zero, suc, List, [], length, get_or, map, true, false, Option, Some, None, IsSome, MatchOption, All, Any, ap, sym, ◌∙◌, subst, refl, inl, inr, arith}
use Rattle.std.proofs.lemmas.Bool.{cases_lt, cases_eq, cases_Bool, true≢false}
use Rattle.std.proofs.lemmas.List.{get_or-map, get_or_past, length-map}
use Rattle.surd_order.specs.Order.{Precedes, IsPlace}
use Rattle.surd_order.proofs.OrderLaws.{asymmetric, same_refl}
use Rattle.bool_weave.specs.declared.woven.Woven.{Woven}
use Rattle.bool_weave.specs.Cuts.{IsWoven, cuts_of}
use Rattle.bool_weave.specs.Claims.{intervals_of}
use Rattle.bool_weave.proofs.Claimed.{intervals_length}
use Rattle.bool_weave.proofs.Kept.{two_cuts}
use Rattle.overlap_list.specs.declared.region.RegionClaims.{RegionClaims}
use Rattle.overlap_list.specs.Winners.{claims_at, winner_of}
use Rattle.overlap_list.specs.Runs.{IntervalRun}
use Rattle.overlap_list.specs.Hits.{cut_at}
use Rattle.overlap_list.specs.Partitions.{is_one_winner, won_runs, partition_of}
use Rattle.overlap_list.specs.Laws.{IsWinner, IsWonRun, LiesIn, ClaimsArePartitioned}
use Rattle.overlap_list.proofs.Running.{run_of}
use Rattle.overlap_list.proofs.LawProofs.{winners_are_right, runs_are_maximal, one_winner, two_winners}
use Rattle.overlap_list.proofs.Parts.{winner_is, cut_before, cut_place}

module _ (regions : List RegionClaims) (r : ℕ) where
  abbrev wins : ℕ → Type 0
  wins k = winner_of regions k ≡ Some r

  wins_or_not : (k : ℕ) → wins k ⊎ (winner_of regions k ≢ Some r)
  wins_or_not k =
      elim (cases_Bool (is_one_winner (Some r) (winner_of regions k))) [
        | inl one ↦ inl (one_winner (Some r) (winner_of regions k) one).0
        | inr two ↦ inr (two_winners (Some r) (winner_of regions k) refl two)
      ]

  -- where a region begins to win that wins interval k
  begin_of : (k : ℕ) → wins k → (from : ℕ) × (from ≤ k) × ((j : ℕ) → from ≤ j → j ≤ k → wins j) × ((j : ℕ) → j + 1 ≡ from → winner_of regions j ≢ Some r)
  begin_of zero e = (zero, omega arith, λ j low high. let s : zero ≡ j = omega (arith, high) in subst wins s e, λ j s. absurd (omega (arith, s)))
  begin_of (suc k) e =
      elim (wins_or_not k) [
        | inl before ↦
            let b = begin_of k before in (
              b.0,
              omega (arith, b.1),
              λ j low high. elim (cases_lt j (suc k)) [
                | inl lt ↦ b.2 j low (omega (arith, lt))
                | inr le ↦ let s : suc k ≡ j = omega (arith, le, high) in subst wins s e
              ],
              b.3,
            )
        | inr other ↦ (
          suc k,
          omega arith,
          λ j low high. let s : suc k ≡ j = omega (arith, low, high) in subst wins s e,
          λ j s e'. let t : j ≡ k = omega (arith, s) in other (ap (winner_of regions) (sym t) ∙ e'),
        )
      ]

  -- where it ends to win
  end_of : (count n k : ℕ) → k + n ≡ count → winner_of regions count ≢ Some r → (to : ℕ) × (k ≤ to) × (to ≤ count) × ((j : ℕ) → k ≤ j → j < to → wins j) × (winner_of regions to ≢ Some r)
  end_of count zero k e last = (k, omega arith, omega (arith, e), λ j low high. absurd (omega (arith, low, high)), let s : count ≡ k = omega (arith, e) in subst (λ m. winner_of regions m ≢ Some r) s last)
  end_of count (suc n) k e last =
      elim (wins_or_not k) [
        | inl on ↦
            let b = end_of count n (k + 1) (omega (arith, e)) last in (
              b.0,
              omega (arith, b.1),
              b.2,
              λ j low high. elim (cases_eq k j) [
                | inl s ↦ subst wins s on
                | inr apart ↦ b.3 j (elim (cases_lt k j) [ inl lt ↦ omega (arith, lt) | inr le ↦ absurd (apart (omega (arith, le, low))) ]) high
              ],
              b.4,
            )
        | inr off ↦ (k, omega arith, omega (arith, e), λ j low high. absurd (omega (arith, low, high)), off)
      ]

  -- the run of the intervals about k that the region wins
  pub run_about : (count k : ℕ) → k < count → wins k → winner_of regions count ≢ Some r → (run : IntervalRun) × IsWonRun regions run × (run.to ≤ count) × (run.from ≤ k) × (k < run.to)
  run_about count k lt e last =
      let b = begin_of k e in
      let t = end_of count (count - (k + 1)) (k + 1) (omega (arith, lt)) last in
      let won : (j : ℕ) → b.0 ≤ j → j < t.0 → wins j = λ j low high. elim (cases_lt k j) [ inl behind ↦ t.3 j (omega (arith, behind)) high | inr before ↦ b.2 j low before ] in
      let here : wins b.0 = b.2 b.0 (omega arith) b.1 in (
        run_of b.0 t.0,
        record {
          some = omega (arith, b.1, t.1);
          region = subst IsSome (sym here) refl;
          won = λ j low high. won j low high ∙ sym here;
          begun = λ j s e'. b.3 j s (e' ∙ here);
          ended = λ e'. t.4 (e' ∙ here);
        },
        t.2,
        b.1,
        omega (arith, t.1),
      )

-- behind the last interval nobody wins
pub nobody_past : (regions : List RegionClaims) (count r : ℕ) → All (λ x. length x.claims ≡ count) regions → winner_of regions count ≢ Some r
nobody_past regions count r rows e =
    let nothing : RegionClaims = record { air = false; first = 0; count = 0; claims = [] } in
    let w : IsWinner regions count r = winner_is regions count r e in
    true≢false (sym (w.claims nothing) ∙ get_or_past (get_or regions r nothing).claims count false (omega (arith, rows r nothing w.there)))

module _ (woven : List Woven) (regions : List RegionClaims) (s : IsWoven woven) where
  place : (k : ℕ) → k ≤ length (intervals_of woven) → IsPlace (cut_at woven k)
  place k le = cut_place woven s k (omega (arith, le, intervals_length (cuts_of woven), two_cuts woven s))

  not_back : (i j : ℕ) → i ≤ j → j ≤ length (intervals_of woven) → ¬ (Precedes (cut_at woven j) (cut_at woven i))
  not_back i j le within p =
      elim (cases_lt i j) [
        | inl lt ↦ asymmetric (cut_at woven i) (cut_at woven j) (place i (omega (arith, le, within))) (place j within) (cut_before woven i j s lt within) p
        | inr ge ↦ let e : i ≡ j = omega (arith, le, ge) in (same_refl (cut_at woven j)).not_before (subst (λ n. Precedes (cut_at woven j) (cut_at woven n)) e p)
      ]

  someone : (k : ℕ) (o : Option ℕ) → winner_of regions k ≡ o → Any (λ r. claims_at r k ≡ true) regions → (r : ℕ) × (winner_of regions k ≡ Some r)
  someone k None e a =
      let none : (j : ℕ) (d : RegionClaims) → j < length regions → claims_at (get_or regions j d) k ≡ false =
      subst (λ o. MatchOption o ((j : ℕ) (d : RegionClaims) → j < length regions → claims_at (get_or regions j d) k ≡ false) (IsWinner regions k)) e (winners_are_right regions k) in
      absurd (true≢false (sym a.4 ∙ ap (λ (r : RegionClaims). claims_at r k) (sym a.3) ∙ none a.0 a.1 a.2))
  someone k (Some r) e a = (r, e)

  partitioned : All (λ r. length r.claims ≡ length (intervals_of woven)) regions → (k : ℕ) → k < length (intervals_of woven) → Any (λ r. claims_at r k ≡ true) regions
      → Any (LiesIn woven k) (map (partition_of woven regions) (won_runs regions (length (intervals_of woven))))
  partitioned rows k lt a =
      let count = length (intervals_of woven) in
      let w = someone k (winner_of regions k) refl a in
      let run = run_about regions w.0 count k lt w.1 (nobody_past regions count w.0 rows) in
      let c = (runs_are_maximal regions count run.0).1 (run.1, run.2) in (
        c.0,
        partition_of woven regions run.0,
        omega (arith, c.1, length-map (won_runs regions count) (partition_of woven regions)),
        get_or-map (partition_of woven regions) (won_runs regions count) c.0 run.0 (partition_of woven regions run.0) c.1 ∙ ap (partition_of woven regions) c.2,
        record { start = not_back run.0.from k run.3 (omega (arith, lt)); end = not_back (k + 1) run.0.to (omega (arith, run.4)) run.2 },
      )

pub claims_are_partitioned : ClaimsArePartitioned
claims_are_partitioned woven regions s rows k lt a = partitioned woven regions s rows k lt a
