-- Words of the bytes that names may have are atoms.
use Rattle.std.proofs.Common.{◌≡◌, ◌&&◌, ℕ, Bool, true, false, List, [], ◌∷◌, All, refl, arith}
use Rattle.std.specs.List.{list_all}
use Rattle.std.proofs.lemmas.Bool.{and_parts}
use Rattle.std.proofs.lemmas.Bool.Decides.{nat_tests}
use Rattle.std.proofs.lemmas.List.Elements.{All-head, All-tail}
use Rattle.name_core.specs.NameText.{IsName, is_first_byte, is_next_byte}
use Rattle.tcl_words.specs.Bytes.{is_atom}
use Rattle.tcl_words.specs.Faults.{is_bad_at}
use Rattle.tcl_words.specs.declared.token.Kind.TheVariants.{Atom}
use Rattle.tcl_words.proofs.Written.{AtomBytes, GoodPiece}
use Rattle.put_form.proofs.ListLaws.{both}

abbrev pub is_word : List ℕ → Bool
is_word [] = false
is_word (b ∷ bs) = is_next_byte b && list_all is_next_byte bs

byte_atom : (b : ℕ) → is_next_byte b ≡ true → is_atom b ≡ true
byte_atom b is = grind (arith, nat_tests)

byte_good : (b g : ℕ) → is_next_byte b ≡ true → is_bad_at b g ≡ false
byte_good b g is = grind (arith, nat_tests)

bytes_good : (bs : List ℕ) (g : ℕ) → list_all is_next_byte bs ≡ true → AtomBytes g bs
bytes_good [] g is = tt
bytes_good (b ∷ bs) g is =
    let both = and_parts (is_next_byte b) (list_all is_next_byte bs) is in
    (byte_atom b both.0, byte_good b g both.0, bytes_good bs g both.1)

pub word_good : (bs : List ℕ) (g : ℕ) → is_word bs ≡ true → GoodPiece Atom bs g
word_good [] g is = absurd cc
word_good (b ∷ bs) g is = (omega arith, bytes_good (b ∷ bs) g is)

first_next : (b : ℕ) → is_first_byte b ≡ true → is_next_byte b ≡ true
first_next b is = cc

all_next : (bs : List ℕ) → All (λ b. is_next_byte b ≡ true) bs → list_all is_next_byte bs ≡ true
all_next [] all = refl
all_next (b ∷ bs) all = both (is_next_byte b) (list_all is_next_byte bs) (All-head (λ b. is_next_byte b ≡ true) b bs all) (all_next bs (All-tail (λ b. is_next_byte b ≡ true) b bs all))

pub name_word : (name : List ℕ) → IsName name → is_word name ≡ true
name_word [] is = absurd (omega (arith, is.some))
name_word (b ∷ bs) is = both (is_next_byte b) (list_all is_next_byte bs) (first_next b is.first) (all_next bs is.rest)
