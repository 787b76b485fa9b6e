-- The keys of solids, and the numbers that they stand for.
use Rattle.std.proofs.Common.{◌≡◌, ◌<◌, ◌≤◌, ◌+◌, ◌∙◌, ℕ, zero, suc, Bool, true, false, cond, List, [], ◌∷◌, length, drop, Option, Some, refl, ap, sym, arith}
use Rattle.std.specs.Str.{bytes_eq}
use Rattle.std.proofs.lemmas.Bool.{lt-ltb, le-ltb}
use Rattle.std.proofs.lemmas.List.{drop_more}
use Rattle.word_values.specs.Kinds.{coordinate_kind, normal_kind, kind_at}
use Rattle.word_values.specs.Solids.{number_count}
use Rattle.word_values.specs.SolidForms.{Key, number_key, keys_of, key_at, key_in, made_as}
use Rattle.word_values.specs.KeySteps.{key_by}
use Rattle.word_values.specs.declared.atoms.NumberList.{NumberList}
use Rattle.word_values.specs.declared.atoms.NumberList.TheVariants as lists
use Rattle.word_values.specs.declared.solid_form.SolidForm.{SolidForm}
use Rattle.word_values.specs.declared.solid_form.SolidForm.TheVariants.{Sphere, Ellipsoid, Half, Arb8, Rcc}

-- a key by its place is that of the list
pub key_placed : (form : SolidForm) (place : ℕ) → place < length (keys_of form) → key_by form place ≡ key_at form place
key_placed Sphere zero lt = refl
key_placed Sphere (suc zero) lt = refl
key_placed Sphere (suc (suc i)) lt = absurd (omega (arith, lt))
key_placed Half zero lt = refl
key_placed Half (suc zero) lt = refl
key_placed Half (suc (suc i)) lt = absurd (omega (arith, lt))
key_placed Ellipsoid zero lt = refl
key_placed Ellipsoid (suc zero) lt = refl
key_placed Ellipsoid (suc (suc zero)) lt = refl
key_placed Ellipsoid (suc (suc (suc zero))) lt = refl
key_placed Ellipsoid (suc (suc (suc (suc i)))) lt = absurd (omega (arith, lt))
key_placed Arb8 zero lt = refl
key_placed Arb8 (suc zero) lt = refl
key_placed Arb8 (suc (suc zero)) lt = refl
key_placed Arb8 (suc (suc (suc zero))) lt = refl
key_placed Arb8 (suc (suc (suc (suc zero)))) lt = refl
key_placed Arb8 (suc (suc (suc (suc (suc zero))))) lt = refl
key_placed Arb8 (suc (suc (suc (suc (suc (suc zero)))))) lt = refl
key_placed Arb8 (suc (suc (suc (suc (suc (suc (suc zero))))))) lt = refl
key_placed Arb8 (suc (suc (suc (suc (suc (suc (suc (suc i)))))))) lt = absurd (omega (arith, lt))
key_placed Rcc zero lt = refl
key_placed Rcc (suc zero) lt = refl
key_placed Rcc (suc (suc zero)) lt = refl
key_placed Rcc (suc (suc (suc i))) lt = absurd (omega (arith, lt))

-- the keys from a place on
pub keys_more : (form : SolidForm) (i : ℕ) → i < length (keys_of form) → drop i (keys_of form) ≡ key_at form i ∷ drop (i + 1) (keys_of form)
keys_more form i lt = drop_more (keys_of form) i (number_key []) lt

-- a key of another name
other_by : (t : Bool) (key : Key) (rest : Option Key) → t ≡ false → cond t (Some key) rest ≡ rest
other_by true key rest e = absurd cc
other_by false key rest e = refl

pub other_key : (form : SolidForm) (i : ℕ) (name : List ℕ) → i < length (keys_of form) → bytes_eq (key_at form i).name name ≡ false
    → key_in (drop (i + 1) (keys_of form)) (Some name) ≡ key_in (drop i (keys_of form)) (Some name)
other_key form i name lt other =
    sym (ap (λ (keys : List Key). key_in keys (Some name)) (keys_more form i lt)
    ∙ other_by (bytes_eq (key_at form i).name name) (key_at form i) (key_in (drop (i + 1) (keys_of form)) (Some name)) other)

-- ---- the numbers of all keys, one behind the other

abbrev pub total : List Key → ℕ
total [] = 0
total (key ∷ keys) = key.count + total keys

-- a key's numbers have its kind in the list that all make
abbrev pub HasPlaces : NumberList → ℕ → Key → Type 0
HasPlaces list place key = (k : ℕ) → k < key.count → kind_at list (place + k) ≡ key.kind

abbrev pub HavePlaces : NumberList → ℕ → List Key → Type 0
HavePlaces list place [] = Unit {0}
HavePlaces list place (key ∷ keys) = HasPlaces list place key × HavePlaces list (place + key.count) keys

-- they are enough to make a solid
pub enough : (form : SolidForm) → number_count (made_as form) ≤ total (keys_of form)
enough Sphere = omega arith
enough Ellipsoid = omega arith
enough Half = omega arith
enough Arb8 = omega arith
enough Rcc = omega arith

-- and have the kinds of its numbers
pub keys_placed : (form : SolidForm) → HavePlaces (lists.Solid (made_as form)) 0 (keys_of form)
keys_placed Sphere = (λ k lt. refl, (λ k lt. refl, tt))
keys_placed Ellipsoid = (λ k lt. refl, (λ k lt. refl, (λ k lt. refl, (λ k lt. refl, tt))))
keys_placed Half = (λ k lt. ap (λ b. cond b normal_kind coordinate_kind) (lt-ltb (0 + k) 3 (omega (arith, lt))), (λ k lt. ap (λ b. cond b normal_kind coordinate_kind) (le-ltb (3 + k) 3 (omega arith)), tt))
keys_placed Arb8 = (λ k lt. refl, (λ k lt. refl, (λ k lt. refl, (λ k lt. refl, (λ k lt. refl, (λ k lt. refl, (λ k lt. refl, (λ k lt. refl, tt))))))))
keys_placed Rcc = (λ k lt. refl, (λ k lt. refl, (λ k lt. refl, tt)))
