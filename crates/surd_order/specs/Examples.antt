-- Spellings and comparisons of positions, proved by computation.
use Rattle.std.specs.Prelude.{◌≡◌, refl, pos, negsuc, true, false}
use Rattle.std.specs.declared.cmp.Ordering.TheVariants.{Less, Equal, Greater}
use Rattle.surd_order.specs.declared.position.Pos.TheVariants.{Frac, Surd}
use Rattle.surd_order.specs.Spelling.{fraction_of}
use Rattle.surd_order.specs.Spelled.{spelled}
use Rattle.surd_order.specs.PlaceOrder.{place_cmp}

ten_quarters : spelled (Frac (pos 10) (pos 4)) ≡ Frac (pos 5) (pos 2)
ten_quarters = refl

nothing : spelled (Frac (pos 0) (pos 7)) ≡ Frac (pos 0) (pos 1)
nothing = refl

minus_six_quarters : spelled (Frac (negsuc 5) (pos 4)) ≡ Frac (negsuc 2) (pos 2)
minus_six_quarters = refl

negative_denominator : spelled (fraction_of (pos 6) (negsuc 3)) ≡ Frac (negsuc 2) (pos 2)
negative_denominator = refl

root_of_a_square : spelled (Surd (pos 2) true 9) ≡ Frac (pos 5) (pos 1)
root_of_a_square = refl

root_of_a_square_taken_away : spelled (Surd (pos 10) false 16) ≡ Frac (pos 6) (pos 1)
root_of_a_square_taken_away = refl

root_of_no_square : spelled (Surd (pos 10) false 23) ≡ Surd (pos 10) false 23
root_of_no_square = refl

whole_number : spelled (Frac (pos 1000) (pos 1)) ≡ Frac (pos 1000) (pos 1)
whole_number = refl

-- 5.2 and 5.204..
fraction_just_before_a_root : place_cmp (Frac (pos 26) (pos 5)) (Surd (pos 10) false 23) ≡ Less
unfolding place_cmp
fraction_just_before_a_root = refl

fraction_just_after_a_root : place_cmp (Frac (pos 27) (pos 5)) (Surd (pos 10) false 23) ≡ Greater
unfolding place_cmp
fraction_just_after_a_root = refl

-- 2.414.. and 2.449..
two_roots : place_cmp (Surd (pos 1) true 2) (Surd (pos 0) true 6) ≡ Less
unfolding place_cmp
two_roots = refl

two_spellings : place_cmp (Frac (pos 7) (pos 1)) (Surd (pos 4) true 9) ≡ Equal
unfolding place_cmp
two_spellings = refl
