-- A name is a text: each of its bytes is below 128.
use Rattle.std.proofs.Common.{◌≡◌, ◌<◌, [], ◌∷◌, ℕ, zero, suc, true, All, List, arith, lit<}
use Rattle.std.specs.Str.{IsAscii, IsUtf8}
use Rattle.std.proofs.lemmas.Str.{IsUtf8-from_ascii}
use Rattle.name_core.specs.NameText.{IsName, is_first_byte, is_next_byte}
use Rattle.outside_core.specs.Partial.{partial_name}

first_below : (b : ℕ) → is_first_byte b ≡ true → b < 128
first_below b h = grind arith

next_below : (b : ℕ) → is_next_byte b ≡ true → b < 128
next_below b h = grind arith

below_at : (xs : List ℕ) → All (λ b. is_next_byte b ≡ true) xs → IsAscii xs
below_at [] h i = lit< tt
below_at (b ∷ bs) h zero = next_below b (h 0 0 (omega arith))
below_at (b ∷ bs) h (suc i) = below_at bs (λ k d lt. h (suc k) d (omega (arith, lt))) i

name_ascii : (bytes : List ℕ) → IsName bytes → IsAscii bytes
name_ascii [] name i = lit< tt
name_ascii (b ∷ bs) name zero = first_below b name.first
name_ascii (b ∷ bs) name (suc i) = below_at bs name.rest i

pub name_text : (bytes : List ℕ) → IsName bytes → IsUtf8 bytes
name_text bytes name = IsUtf8-from_ascii bytes (name_ascii bytes name)

-- no name begins with a dot
pub partial_no_name : (name : List ℕ) → ¬ (IsName (partial_name name))
partial_no_name name h = cc
