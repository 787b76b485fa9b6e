-- Two texts, written one after the other.
use Rattle.std.proofs.Common.{◌≡◌, ◌∙◌, ◌<◌, ◌+◌, ◌++◌, ℕ, List, [], ◌∷◌, Option, Some, None, Result, Ok, Err, OnOk, OnErr, inl, inr, length, take, append_assoc, ap, sym, subst, arith}
use Rattle.std.specs.Io.KnownBytes.{Appends}
use Rattle.std.proofs.Math.Seq.{take-append-add}
use Rattle.std.proofs.lemmas.List.{length-append, take-append-le}
use Rattle.outside_core.specs.Faults.{Rose}
use Rattle.outside_core.specs.Transfers.{IsCutShort}
use Rattle.outside_core.specs.declared.traits.Failed.{Failed}
use Rattle.mgedrt.specs.Program.{IsSaid, ended_line}

pub appends_both : (a b c : Option (List ℕ)) (xs ys : List ℕ) → Appends a b xs → Appends b c ys → Appends a c (xs ++ ys)
appends_both None b c xs ys h k = tt
appends_both (Some x) None c xs ys h k = absurd h
appends_both (Some x) (Some y) None xs ys h k = absurd k
appends_both (Some x) (Some y) (Some z) xs ys h k = k ∙ ap (λ t. t ++ ys) h ∙ append_assoc x xs ys

pub cut_first : (a b : Option (List ℕ)) (xs ys : List ℕ) → IsCutShort a b xs → IsCutShort a b (xs ++ ys)
cut_first a b xs ys h = record {
  count = h.count;
  short = omega (arith, h.short, length-append xs ys);
  front = subst (Appends a b) (sym (take-append-le h.count xs ys (omega (arith, h.short)))) h.front;
}

pub cut_second : (a b c : Option (List ℕ)) (xs ys : List ℕ) → Appends a b xs → IsCutShort b c ys → IsCutShort a c (xs ++ ys)
cut_second a b c xs ys h k = record {
  count = length xs + k.count;
  short = omega (arith, k.short, length-append xs ys);
  front = subst (Appends a c) (sym (take-append-add xs ys k.count)) (appends_both a b c xs (take k.count ys) h k.front);
}

-- the second text was written, or cut short
pub cut_by : (r : Result (Unit {0}) Failed) (a b c : Option (List ℕ)) (xs ys : List ℕ) → Appends a b xs → OnErr r (IsCutShort b c ys) → OnErr r (IsCutShort a c (xs ++ ys))
cut_by (Ok done) a b c xs ys h k = tt
cut_by (Err fault) a b c xs ys h k = cut_second a b c xs ys h k

-- a line that isn't empty was written with its line feed, or cut short
pub said_by : (r : Result (Unit {0}) Failed) (line : List ℕ) (a c : Option (List ℕ)) (faults faults' : ℕ) → 0 < length line → OnOk r (Appends a c (line ++ 10 ∷ [])) → OnErr r (IsCutShort a c (line ++ 10 ∷ []))
    → OnOk r (faults' ≡ faults) → OnErr r (Rose faults faults') → IsSaid (ended_line line) a c faults faults'
said_by r [] a c faults faults' some written cut steady rose = absurd (omega (arith, some))
said_by (Ok done) (x ∷ xs) a c faults faults' some written cut steady rose = inl (written, steady)
said_by (Err fault) (x ∷ xs) a c faults faults' some written cut steady rose = inr (cut, rose)
