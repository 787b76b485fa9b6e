-- The order of positions as the answer of a comparison, found by signs and squares.
use Rattle.std.specs.Prelude.{ℕ, zero, suc, ◌+◌, ◌*◌, ℤ, pos, negsuc, ◌-ℤ◌, ◌*ℤ◌, Bool, true, false}
use Rattle.std.specs.Ordering.{int_cmp, ordering_reverse}
use Rattle.std.specs.declared.cmp.Ordering.{Ordering}
use Rattle.std.specs.declared.cmp.Ordering.TheVariants.{Less, Greater}
use Rattle.surd_order.specs.declared.position.Pos.{Pos}
use Rattle.surd_order.specs.declared.position.Pos.TheVariants.{Frac, Surd}
use Rattle.surd_order.specs.Order.{IsOrderOf, IsPlace}

-- m beside √n
abbrev pub root_cmp : ℤ → ℤ → Ordering
root_cmp (pos m) n = int_cmp (pos (m * m)) n
root_cmp (negsuc m) n = Less

-- a fraction p / q, with q > 0, beside a + √k or a - √k
abbrev pub fraction_surd_cmp : ℤ → ℤ → ℤ → Bool → ℕ → Ordering
fraction_surd_cmp p q a true k = root_cmp (p -ℤ (a *ℤ q)) (pos k *ℤ (q *ℤ q))
fraction_surd_cmp p q a false k = ordering_reverse (root_cmp ((a *ℤ q) -ℤ p) (pos k *ℤ (q *ℤ q)))

-- √k beside d + √l, which is k - d² - l beside the root of 4 d² l
abbrev pub root_sum_cmp : ℕ → ℕ → ℕ → Ordering
root_sum_cmp k d l = root_cmp (pos k -ℤ pos (d * d + l)) (pos (4 * (d * d * l)))

-- d beside √k + √l, which is d² - k - l beside the root of 4 k l
abbrev pub whole_roots_cmp : ℕ → ℕ → ℕ → Ordering
whole_roots_cmp d k l = root_cmp (pos (d * d) -ℤ pos (k + l)) (pos (4 * (k * l)))

-- √k beside d + √l, for d of either sign
abbrev pub roots_cmp : ℤ → ℕ → ℕ → Ordering
roots_cmp (pos d) k l = root_sum_cmp k d l
roots_cmp (negsuc d) k l = ordering_reverse (root_sum_cmp l (suc d) k)

-- √k + √l beside d, for d of either sign
abbrev pub roots_whole_cmp : ℤ → ℕ → ℕ → Ordering
roots_whole_cmp (pos d) k l = ordering_reverse (whole_roots_cmp d k l)
roots_whole_cmp (negsuc d) k l = Greater

-- a + √k or a - √k beside b + √l or b - √l
abbrev pub surd_cmp : ℤ → Bool → ℕ → ℤ → Bool → ℕ → Ordering
surd_cmp a true k b true l = roots_cmp (b -ℤ a) k l
surd_cmp a false k b false l = roots_cmp (b -ℤ a) l k
surd_cmp a true k b false l = roots_whole_cmp (b -ℤ a) k l
surd_cmp a false k b true l = ordering_reverse (roots_whole_cmp (a -ℤ b) l k)

abbrev pub position_cmp : Pos → Pos → Ordering
position_cmp (Frac p q) (Frac r s) = int_cmp (p *ℤ s) (r *ℤ q)
position_cmp (Frac p q) (Surd a plus k) = fraction_surd_cmp p q a plus k
position_cmp (Surd a plus k) (Frac p q) = ordering_reverse (fraction_surd_cmp p q a plus k)
position_cmp (Surd a plus k) (Surd b plus' l) = surd_cmp a plus k b plus' l

-- a value that is no place, as it has a denominator that is not over 0, counts as 0
abbrev pub place_of : Pos → Pos
place_of (Frac p (pos zero)) = Frac (pos 0) (pos 1)
place_of (Frac p (pos (suc q))) = Frac p (pos (suc q))
place_of (Frac p (negsuc q)) = Frac (pos 0) (pos 1)
place_of (Surd a plus k) = Surd a plus k

-- Less where x precedes y, Equal where they are the same place, Greater where y precedes x
unfoldable pub place_cmp : Pos → Pos → Ordering
place_cmp x y = position_cmp (place_of x) (place_of y)

-- the comparison says of all places which of the three holds
abbrev pub PlacesAreCompared : Type 0
PlacesAreCompared = (x y : Pos) → IsPlace x → IsPlace y → IsOrderOf (place_cmp x y) x y
