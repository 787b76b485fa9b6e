-- What the definitions come to at keys that are numbers, proved by computation.
use Rattle.std.specs.Prelude.{◌≡◌, ℕ, refl, true, false, nat_eq, List, [], ◌∷◌, replicate}
use Rattle.tile_cache.specs.Kept.{front_moved, is_kept, kept_with}

-- Three values, the one of key 1 used last.
abbrev three : List (ℕ × ℕ)
three = (1, 10) ∷ (2, 20) ∷ (3, 30) ∷ []

a_key_is_there : is_kept nat_eq 3 three ≡ true
a_key_is_there = refl

a_key_is_not_there : is_kept nat_eq 4 three ≡ false
a_key_is_not_there = refl

the_last_moves_to_the_front : front_moved nat_eq 3 three ≡ (3, 30) ∷ (1, 10) ∷ (2, 20) ∷ []
the_last_moves_to_the_front = refl

the_first_stays : front_moved nat_eq 1 three ≡ three
the_first_stays = refl

all_stays_for_a_key_that_is_not_there : front_moved nat_eq 4 three ≡ three
all_stays_for_a_key_that_is_not_there = refl

a_value_goes_to_the_front : kept_with 4 40 three ≡ (4, 40) ∷ three
a_value_goes_to_the_front = refl

-- the last of 4,096 falls out
abbrev a_full_list : List (ℕ × ℕ)
a_full_list = replicate 4095 (1, 10)

the_last_falls_out : kept_with 2 20 ((3, 30) ∷ a_full_list) ≡ (2, 20) ∷ (3, 30) ∷ replicate 4094 (1, 10)
the_last_falls_out = refl
