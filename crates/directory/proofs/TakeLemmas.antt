use Rattle.std.proofs.Common.{◌≡◌, ◌⊎◌, inl, inr, ◌<◌, ◌≤◌, ◌∙◌, ℕ, zero, suc, [], ◌∷◌, ◌++◌, take, length, refl, ap, arith, false, Some, None}
use Rattle.std.specs.Prelude.{slice_get, position}
use Rattle.std.specs.List.{AllByRecursion, IsDistinct, position_or_len}
use Rattle.std.specs.Map.{keys_of}
use Rattle.std.proofs.lemmas.Map.Keys.{IsDistinct-cons, IsDistinct-from_apart, IsDistinct-head, IsDistinct-tail}
use Rattle.name_core.specs.declared.name.Name.{Name}
use Rattle.name_core.specs.Same.{same_name}
use Rattle.object_set.specs.Objects.{Parts}
use Rattle.directory.specs.Walks.{Entries, IsSound, object_of}
use Rattle.directory.proofs.EditLemmas.{IsWithin, refers_of, weight_of, within_sound}
use Rattle.directory.proofs.PlaceLemmas.{place_is}
use Rattle.shared_pages.proofs.NameLemmas.{name_tells}

-- The first pairs of a list.

pub taken_at : (es : Entries) (n i : ℕ) → i < n → slice_get (take n es) i ≡ slice_get es i
taken_at es zero i lt = absurd (omega (arith, lt))
taken_at [] (suc n) i lt = refl
taken_at (e ∷ es) (suc n) zero lt = refl
taken_at (e ∷ es) (suc n) (suc i) lt = taken_at es n i (omega (arith, lt))

taken_short : (es : Entries) (n : ℕ) → length (take n es) ≤ length es
taken_short es zero = omega arith
taken_short [] (suc n) = omega arith
taken_short (e ∷ es) (suc n) = omega (arith, taken_short es n)

all_taken : (P : Name → Type 0) (es : Entries) (n : ℕ) → AllByRecursion P (keys_of es) → AllByRecursion P (keys_of (take n es))
all_taken P es zero h = tt
all_taken P [] (suc n) h = tt
all_taken P (e ∷ es) (suc n) h = (h.0, all_taken P es n h.1)

pub nothing_distinct : IsDistinct same_name []
nothing_distinct = IsDistinct-from_apart same_name [] (λ i j d apart lt. absurd (omega (arith, lt)))

pub taken_distinct : (es : Entries) (n : ℕ) → IsDistinct same_name (keys_of es) → IsDistinct same_name (keys_of (take n es))
taken_distinct es zero h = nothing_distinct
taken_distinct [] (suc n) h = nothing_distinct
taken_distinct (e ∷ es) (suc n) h =
    IsDistinct-cons same_name e.0 (keys_of (take n es)) (all_taken (λ y. same_name e.0 y ≡ false) es n (IsDistinct-head same_name e.0 (keys_of es) h))
    (taken_distinct es n (IsDistinct-tail same_name e.0 (keys_of es) h))

-- ---- names among them
look_taken : (es : Entries) (n : ℕ) (x : Name) → (object_of (take n es) x ≡ object_of es x) ⊎ (object_of (take n es) x ≡ None)
look_taken es zero x = inr refl
look_taken [] (suc n) x = inl refl
look_taken ((k, o) ∷ es) (suc n) x =
    elim (name_tells x k) [
      | inl t ↦ inl (rw t.0)
      | inr t ↦ rw t.0 (look_taken es n x)
    ]

taken_within : (es : Entries) (n : ℕ) → IsWithin es (take n es)
taken_within es n = record {
  weight = λ x. weight_of _ _ (look_taken es n x);
  refers = λ x y c. refers_of _ _ y (look_taken es n x) c;
}

pub taken_sound : (es : Entries) (n : ℕ) → IsSound es → IsSound (take n es)
taken_sound es n sound = within_sound es (take n es) (taken_within es n) sound (omega (arith, taken_short es n, sound.small)) (taken_distinct es n sound.distinct)

pub none_taken : (es : Entries) (n : ℕ) (a : Name) → object_of es a ≡ None → object_of (take n es) a ≡ None
none_taken es n a none = elim (look_taken es n a) [ inl e ↦ e ∙ none | inr e ↦ e ]

missing_before : (es : Entries) (a : Name) (n : ℕ) → n ≤ position_or_len (same_name a) (keys_of es) → object_of (take n es) a ≡ None
missing_before es a zero le = refl
missing_before [] a (suc n) le = refl
missing_before ((k, p) ∷ es) a (suc n) le =
    elim (name_tells a k) [
      | inl t ↦ let wrong = rw t.0 at le in absurd (omega (arith, wrong))
      | inr t ↦ let next = rw t.0 at le in rw t.0 (missing_before es a n (omega (arith, next)))
    ]

-- a name whose pair comes later
pub later_missing : (es : Entries) (a : Name) (n i : ℕ) → position (same_name a) (keys_of es) ≡ Some i → n ≤ i → object_of (take n es) a ≡ None
later_missing es a n i at le = missing_before es a n (omega (arith, le, place_is a i (keys_of es) at))

-- ---- the first pairs of a longer list
pub front_taken : (es fs : Entries) (i : ℕ) → i ≤ length es → take i (es ++ fs) ≡ take i es
front_taken es fs zero le = refl
front_taken [] fs (suc i) le = absurd (omega (arith, le))
front_taken (e ∷ es) fs (suc i) le = ap (λ (l : Entries). e ∷ l) (front_taken es fs i (omega (arith, le)))

pub front_at : (es fs : Entries) (i : ℕ) → i < length es → slice_get (es ++ fs) i ≡ slice_get es i
front_at [] fs i lt = absurd (omega (arith, lt))
front_at (e ∷ es) fs zero lt = refl
front_at (e ∷ es) fs (suc i) lt = front_at es fs i (omega (arith, lt))

pub last_at : (es : Entries) (e : Name × Parts) → slice_get (es ++ e ∷ []) (length es) ≡ Some e
last_at [] e = refl
last_at (d ∷ es) e = last_at es e
