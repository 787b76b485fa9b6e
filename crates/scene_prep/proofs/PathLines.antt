-- No path has a line feed.
use Rattle.std.proofs.Common.{◌≡◌, ◌∙◌, ◌<◌, ◌^◌, ◌≢◌, ℕ, List, [], ◌∷◌, ◌++◌, ap, sym, arith, decimal, true}
use Rattle.std.specs.Prelude.{All, codes}
use Rattle.std.specs.Int.{IsInRange}
use Rattle.std.specs.List.{AllByRecursion}
use Rattle.std.specs.Str.Parse.{digits_value}
use Rattle.std.proofs.lemmas.Bool.{false≢true}
use Rattle.std.proofs.lemmas.Fmt.{digits_decimal}
use Rattle.std.proofs.lemmas.List.Elements.{All-append, All-cons, All-nil}
use Rattle.std.proofs.lemmas.Str.Parse.{IsNumeralModel, numerals_by_value}
use Rattle.name_core.specs.declared.name.Name.{Name}
use Rattle.name_core.specs.NameText.{is_first_byte, is_next_byte, IsName}
use Rattle.shot_core.specs.Regions.{IsPathText}
use Rattle.scene_prep.specs.Steps.{path_to, path_to_node}

model : IsNumeralModel (AllByRecursion (IsInRange 48 57)) (digits_value 10)
model = numerals_by_value _ (record { empty = tt; parts = λ c cs h. (h.0, h.1); more = λ c cs h k. (h, k) })

digits_plain : (ds : List ℕ) → AllByRecursion (IsInRange 48 57) ds → IsPathText ds
digits_plain [] h = All-nil (λ (b : ℕ). b ≢ 10)
digits_plain (d ∷ ds) h = All-cons (λ (b : ℕ). b ≢ 10) d ds (λ e. omega (arith, h.0, e)) (digits_plain ds h.1)

next_plain : (b : ℕ) → is_next_byte b ≡ true → b ≢ 10
next_plain b h e = absurd (false≢true (sym (ap is_next_byte e) ∙ h))

first_plain : (b : ℕ) → is_first_byte b ≡ true → b ≢ 10
first_plain b h e = absurd (false≢true (sym (ap is_first_byte e) ∙ h))

all_plain : (bytes : List ℕ) → All (λ b. is_next_byte b ≡ true) bytes → IsPathText bytes
all_plain bytes h = λ k d lt. next_plain _ (h k d lt)

name_plain : (name : List ℕ) → IsName name → IsPathText name
name_plain [] h = All-nil (λ (b : ℕ). b ≢ 10)
name_plain (b ∷ bs) h = All-cons (λ (b : ℕ). b ≢ 10) b bs (first_plain b h.first) (all_plain bs h.rest)

pub to_name_plain : (above : List ℕ) (name : Name) → IsPathText above → IsName name → IsPathText (path_to above name)
to_name_plain above name h named =
    All-append (λ (b : ℕ). b ≢ 10) above (codes "/" ++ name) h (All-cons (λ (b : ℕ). b ≢ 10) 47 name (λ e. absurd (omega (arith, e))) (name_plain name named))

pub to_node_plain : (comb : List ℕ) (number : ℕ) → IsPathText comb → number < 2 ^ 64 → IsPathText (path_to_node comb number)
to_node_plain comb number h fits =
    All-append (λ (b : ℕ). b ≢ 10) comb (codes "#" ++ decimal number) h
    (All-cons (λ (b : ℕ). b ≢ 10) 35 (decimal number) (λ e. absurd (omega (arith, e))) (digits_plain (decimal number) (digits_decimal model number fits)))
