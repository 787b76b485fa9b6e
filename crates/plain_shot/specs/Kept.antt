-- How the types keep what contracts see.
use Rattle.std.specs.Prelude.{ℕ, refl}
use Rattle.std.specs.Coded.{Coded, code_by, coded×, coded_ℕ}
use Rattle.surd_order.specs.declared.position.Pos.{Pos}
use Rattle.surd_order.specs.contracts.position.Pos as places
use Rattle.bool_weave.specs.Claims.{Interval}
use Rattle.overlap_list.specs.Runs.{IntervalRun}
use Rattle.overlap_list.specs.Overlaps.{RegionPair}

abbrev pub interval_code : Coded Interval
interval_code = code_by (Pos × Pos) (coded× places.the_row.coded places.the_row.coded) (λ i. (i.start, i.end)) (λ p. record { start = p.0; end = p.1 }) (λ _. refl)

abbrev pub run_code : Coded IntervalRun
run_code = code_by (ℕ × ℕ) (coded× coded_ℕ coded_ℕ) (λ r. (r.from, r.to)) (λ p. record { from = p.0; to = p.1 }) (λ _. refl)

abbrev pub pair_code : Coded RegionPair
pair_code = code_by (ℕ × ℕ) (coded× coded_ℕ coded_ℕ) (λ r. (r.one, r.two)) (λ p. record { one = p.0; two = p.1 }) (λ _. refl)
