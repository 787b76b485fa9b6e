-- Divisors and roots of numbers, proved by computation.
use Rattle.std.specs.Prelude.{◌≡◌, refl}
use Rattle.wide_core.specs.Gcd.{gcd_of}
use Rattle.wide_core.specs.Root.{root_of}

divisor_of_12_and_18 : gcd_of 12 18 ≡ 6
divisor_of_12_and_18 = refl

divisor_of_0_and_7 : gcd_of 0 7 ≡ 7
divisor_of_0_and_7 = refl

divisor_of_7_and_0 : gcd_of 7 0 ≡ 7
divisor_of_7_and_0 = refl

divisor_of_large_numbers : gcd_of 1048576000 1000000 ≡ 8000
divisor_of_large_numbers = refl

root_of_9 : root_of 9 ≡ 3
root_of_9 = refl

root_of_23 : root_of 23 ≡ 4
root_of_23 = refl

root_of_bigger : root_of 2685435 ≡ 1638
root_of_bigger = refl
