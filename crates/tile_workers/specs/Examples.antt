-- What the definition means, at a job whose piece i gives 10 times i.
use Rattle.std.specs.Prelude.{◌≡◌, ◌*◌, ℕ, [], ◌∷◌, refl}
use Rattle.std.proofs.Common.{arith, lit<, zero, suc}
use Rattle.tile_workers.specs.Results.{AreResults}

-- what piece i gives
abbrev Tenfold : ℕ → ℕ → Type 0
Tenfold i out = out ≡ 10 * i

-- three results in the order of their pieces
in_order : AreResults Tenfold 3 (0 ∷ 10 ∷ 20 ∷ [])
in_order zero d lt = refl
in_order (suc zero) d lt = refl
in_order (suc (suc zero)) d lt = refl
in_order (suc (suc (suc i))) d lt = absurd (omega (arith, lt))

-- the same results in another order
not_in_another_order : ¬ AreResults Tenfold 3 (10 ∷ 0 ∷ 20 ∷ [])
not_in_another_order all = let first : 10 ≡ 0 = all 0 0 (lit< tt) in omega (arith, first)

-- a result too few, of whatever is read behind the end of a list
not_one_too_few : ¬ AreResults Tenfold 3 (0 ∷ 10 ∷ [])
not_one_too_few all = let last : 0 ≡ 20 = all 2 0 (lit< tt) in omega (arith, last)

-- no piece, no result
none : AreResults Tenfold 0 []
none i d lt = absurd (omega (arith, lt))
