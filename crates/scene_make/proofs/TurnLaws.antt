-- A turn is known by its number.
use Rattle.std.proofs.Common.{◌≡◌, ◌<◌, ℕ, ap}
use Rattle.std.specs.Coded.{le_prop}
use mathlib.Core.HLevel.{Σ_prop_path}
use Rattle.lattice_core.specs.declared.turn.Turn.{Turn}
use Rattle.scene_make.specs.Draws.{draw}
use Rattle.scene_make.specs.Demo.{drawn_turn}

abbrev turn_made : (n : ℕ) × (n < 48) → Turn
turn_made u = record { number = u.0; in_range = u.1 }

same_turn : (a b : Turn) → a.number ≡ b.number → a ≡ b
same_turn a b e = ap turn_made (Σ_prop_path {B = λ n. n < 48} (λ n. le_prop) {u = (a.number, a.in_range)} {v = (b.number, b.in_range)} e)

pub drawn : (turn : Turn) (x : ℕ) → turn.number ≡ draw x 1 48 → turn ≡ drawn_turn x
drawn turn x is = same_turn turn (drawn_turn x) is
