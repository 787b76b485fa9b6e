-- What is read has the form of a value, and the other way round.
use Rattle.std.proofs.Common.{◌≡◌, ℕ, ℤ, pos, negsuc, ◌≤◌, inl, inr, List, cond, Bool, true, false, Option, Some, None, arith, refl, ap, ◌∙◌, subst}
use Rattle.std.specs.Prelude.{codes, nat_le, ◌||◌}
use Rattle.std.specs.Str.{bytes_eq}
use Rattle.std.proofs.lemmas.Bool.{leb-true, le-leb}
use Rattle.std.proofs.lemmas.Slice.Eq.{bytes_eq-Decides}
use Rattle.tcl_words.specs.Numbers.{number_of}
use Rattle.tcl_words.proofs.Forms.{form_read, read_form}
use Rattle.region_attr.specs.Values.{truth_of, at_most, number_to, IsTruth, IsNumberTo}

pub truth_read : (value : List ℕ) (t : Bool) → IsTruth value t → truth_of value ≡ Some t
truth_read value true is = elim is [ inl e ↦ ap truth_of e | inr e ↦ ap truth_of e ]
truth_read value false is = elim is [ inl e ↦ ap truth_of e | inr e ↦ ap truth_of e ]

truth_cases : (value : List ℕ) (a b c d t : Bool) → (a ≡ true → value ≡ codes "yes") → (b ≡ true → value ≡ codes "1") → (c ≡ true → value ≡ codes "no") → (d ≡ true → value ≡ codes "0") → cond (a || b) (Some true) (cond (c || d) (Some false) None) ≡ Some t → IsTruth value t
truth_cases value true b c d t yes_ one no_ zero_ e = let is : IsTruth value true = inl (yes_ refl) in let same : true ≡ t = cc in subst (IsTruth value) same is
truth_cases value false true c d t yes_ one no_ zero_ e = let is : IsTruth value true = inr (one refl) in let same : true ≡ t = cc in subst (IsTruth value) same is
truth_cases value false false true d t yes_ one no_ zero_ e = let is : IsTruth value false = inl (no_ refl) in let same : false ≡ t = cc in subst (IsTruth value) same is
truth_cases value false false false true t yes_ one no_ zero_ e = let is : IsTruth value false = inr (zero_ refl) in let same : false ≡ t = cc in subst (IsTruth value) same is
truth_cases value false false false false t yes_ one no_ zero_ e = cc

pub truth_form : (value : List ℕ) (t : Bool) → truth_of value ≡ Some t → IsTruth value t
truth_form value t e = truth_cases value (bytes_eq value (codes "yes")) (bytes_eq value (codes "1")) (bytes_eq value (codes "no")) (bytes_eq value (codes "0")) t (bytes_eq-Decides value (codes "yes")).0 (bytes_eq-Decides value (codes "1")).0 (bytes_eq-Decides value (codes "no")).0 (bytes_eq-Decides value (codes "0")).0 e

pub number_read : (most : ℕ) (value : List ℕ) (n : ℕ) → IsNumberTo most value n → number_to most value ≡ Some n
number_read most value n is = ap (at_most most) (form_read value (pos n) is.0) ∙ ap (λ b. cond b (Some n) None) (le-leb n most is.1)

within_cond : (n most v : ℕ) (b : Bool) → nat_le n most ≡ b → cond b (Some n) None ≡ Some v → (n ≡ v) × (v ≤ most)
within_cond n most v true is e = let same : n ≡ v = cc in (same, omega (arith, leb-true n most is))
within_cond n most v false is e = cc

at_most_back : (most : ℕ) (o : Option ℤ) (v : ℕ) → at_most most o ≡ Some v → (o ≡ Some (pos v)) × (v ≤ most)
at_most_back most None v e = cc
at_most_back most (Some (pos n)) v e = let both : (n ≡ v) × (v ≤ most) = within_cond n most v (nat_le n most) refl e in (ap (λ (m : ℕ). Some (pos m)) both.0, both.1)
at_most_back most (Some (negsuc n)) v e = cc

pub number_form : (most : ℕ) (value : List ℕ) (n : ℕ) → number_to most value ≡ Some n → IsNumberTo most value n
number_form most value n e =
    let back : (number_of value ≡ Some (pos n)) × (n ≤ most) = at_most_back most (number_of value) n e in
    (read_form value (pos n) back.0, back.1)
