-- The tokens inside a group.
use Rattle.std.proofs.Common.{◌≡◌, ◌≢◌, ℕ, zero, suc, ◌+◌, ◌-◌, ◌<◌, ◌≤◌, List, [], ◌∷◌, length, take, drop, get_or, cond, Bool, true, false, arith, Ok, refl, ap, sym, ◌∙◌, subst, take-add, take-take, length-take, take_all}
use Rattle.std.specs.Prelude.{count_by, nat_lt}
use Rattle.std.proofs.lemmas.Bool.{ltb-true, ltb-false}
use Rattle.std.specs.List.{slice_range}
use Rattle.std.proofs.lemmas.List.Sums.{sum_by_more, sum_by-append}
use Rattle.tcl_words.specs.Tokens.{token}
use Rattle.tcl_words.specs.TopWords.{is_open_kind, is_close_kind, opens, closes, level, IsBalanced, IsWordOf, AllLie, StartsFrom, AreTokensIn}
use Rattle.tcl_words.specs.Reading.{words_of}
use Rattle.tcl_words.proofs.RoundTrip.{read_lies}
use Rattle.tcl_words.proofs.Order.{from_lower, read_order}
use Rattle.tcl_words.proofs.Balanced.{read_balanced}
use Rattle.tcl_words.specs.declared.token.Token.{Token}
use Rattle.tcl_words.specs.declared.token.Word.{Word}
use Rattle.tcl_words.specs.declared.token.Kind.{Kind}
use Rattle.tcl_words.specs.declared.token.Kind.TheVariants.{Open, Close, Atom}

-- a count over the front of what is left
count_rest : (p : Token → Bool) (ts : List Token) (a k : ℕ) → count_by p (take (a + k) ts) ≡ count_by p (take a ts) + count_by p (take k (drop a ts))
count_rest p ts a k = ap (count_by p) (take-add a k ts) ∙ sum_by-append (λ x. cond (p x) 1 0) (take a ts) (take k (drop a ts))

one_kind : (k : Kind) → cond (is_open_kind k) 1 0 + cond (is_close_kind k) 1 0 ≤ 1
one_kind Open = omega arith
one_kind Close = omega arith
one_kind Atom = omega arith

-- how two counts change at a token
step : (ts : List Token) (i : ℕ) → i < length ts → (x : ℕ) × (y : ℕ) × (count_by opens (take (i + 1) ts) ≡ count_by opens (take i ts) + x) × (count_by closes (take (i + 1) ts) ≡ count_by closes (take i ts) + y) × (x + y ≤ 1)
step ts i within = (cond (opens (get_or ts i (token Open 0 0))) 1 0, cond (closes (get_or ts i (token Open 0 0))) 1 0, sum_by_more (λ x. cond (opens x) 1 0) ts i (token Open 0 0) within, sum_by_more (λ x. cond (closes x) 1 0) ts i (token Open 0 0) within, one_kind (get_or ts i (token Open 0 0)).kind)

first_opens : (ts : List Token) (w : Word) → IsBalanced ts → IsWordOf ts w → w.first < w.last → (count_by opens (take (w.first + 1) ts) ≡ count_by opens (take w.first ts) + 1) × (count_by closes (take (w.first + 1) ts) ≡ count_by opens (take w.first ts))
first_opens ts w balanced word group =
    let at : (x : ℕ) × (y : ℕ) × (count_by opens (take (w.first + 1) ts) ≡ count_by opens (take w.first ts) + x) × (count_by closes (take (w.first + 1) ts) ≡ count_by closes (take w.first ts) + y) × (x + y ≤ 1) = step ts w.first (omega (arith, word.within)) in
    let le : count_by closes (take w.first ts) ≤ count_by opens (take w.first ts) = balanced.0 w.first in
    let out : count_by opens (take w.first ts) - count_by closes (take w.first ts) ≡ 0 = word.outside in
    let some : count_by opens (take (w.first + 1) ts) - count_by closes (take (w.first + 1) ts) ≢ 0 = word.open_till w.first (omega arith) group in
    (omega (arith, at.2, at.3, at.4), omega (arith, at.2, at.3, at.4))

prefix_inside : (ts : List Token) (w : Word) (k : ℕ) → IsBalanced ts → IsWordOf ts w → w.first < w.last → w.first + k < w.last → count_by closes (take k (drop (w.first + 1) ts)) ≤ count_by opens (take k (drop (w.first + 1) ts))
prefix_inside ts w k balanced word group within =
    let first : (count_by opens (take (w.first + 1) ts) ≡ count_by opens (take w.first ts) + 1) × (count_by closes (take (w.first + 1) ts) ≡ count_by opens (take w.first ts)) = first_opens ts w balanced word group in
    let o : count_by opens (take ((w.first + 1) + k) ts) ≡ count_by opens (take (w.first + 1) ts) + count_by opens (take k (drop (w.first + 1) ts)) = count_rest opens ts (w.first + 1) k in
    let c : count_by closes (take ((w.first + 1) + k) ts) ≡ count_by closes (take (w.first + 1) ts) + count_by closes (take k (drop (w.first + 1) ts)) = count_rest closes ts (w.first + 1) k in
    let e : (w.first + k) + 1 ≡ (w.first + 1) + k = omega arith in
    let some : count_by opens (take ((w.first + 1) + k) ts) - count_by closes (take ((w.first + 1) + k) ts) ≢ 0 = subst (λ (n : ℕ). level ts n ≢ 0) e (word.open_till (w.first + k) (omega arith) within) in
    omega (arith, first.0, first.1)

total_inside : (ts : List Token) (w : Word) (k : ℕ) → IsBalanced ts → IsWordOf ts w → w.first < w.last → (w.first + 1) + k ≡ w.last → count_by closes (take k (drop (w.first + 1) ts)) ≡ count_by opens (take k (drop (w.first + 1) ts))
total_inside ts w k balanced word group is =
    let first : (count_by opens (take (w.first + 1) ts) ≡ count_by opens (take w.first ts) + 1) × (count_by closes (take (w.first + 1) ts) ≡ count_by opens (take w.first ts)) = first_opens ts w balanced word group in
    let o : count_by opens (take w.last ts) ≡ count_by opens (take (w.first + 1) ts) + count_by opens (take k (drop (w.first + 1) ts)) = ap (λ (n : ℕ). count_by opens (take n ts)) (sym is) ∙ count_rest opens ts (w.first + 1) k in
    let c : count_by closes (take w.last ts) ≡ count_by closes (take (w.first + 1) ts) + count_by closes (take k (drop (w.first + 1) ts)) = ap (λ (n : ℕ). count_by closes (take n ts)) (sym is) ∙ count_rest closes ts (w.first + 1) k in
    let e : (w.first + k) + 1 ≡ w.last = omega arith in
    let some : count_by opens (take w.last ts) - count_by closes (take w.last ts) ≢ 0 = subst (λ (n : ℕ). level ts n ≢ 0) e (word.open_till (w.first + k) (omega arith) (omega arith)) in
    let none : count_by opens (take (w.last + 1) ts) - count_by closes (take (w.last + 1) ts) ≡ 0 = word.ends in
    let le : count_by closes (take (w.last + 1) ts) ≤ count_by opens (take (w.last + 1) ts) = balanced.0 (w.last + 1) in
    let at : (x : ℕ) × (y : ℕ) × (count_by opens (take (w.last + 1) ts) ≡ count_by opens (take w.last ts) + x) × (count_by closes (take (w.last + 1) ts) ≡ count_by closes (take w.last ts) + y) × (x + y ≤ 1) = step ts w.last word.within in
    omega (arith, first.0, first.1, at.2, at.3, at.4)

shorter : (xs : List Token) (k m : ℕ) (b : Bool) → nat_lt m k ≡ b → (c : ℕ) × (c ≤ m) × (take k (take m xs) ≡ take c xs)
shorter xs k m true is = (m, omega arith, take_all k (take m xs) (omega (arith, length-take m xs, ltb-true m k is)))
shorter xs k m false is = (k, ltb-false m k is, take-take k m xs (ltb-false m k is))

inner_prefix : (ts : List Token) (w : Word) (k : ℕ) → IsBalanced ts → IsWordOf ts w → w.first < w.last → count_by closes (take k (slice_range ts (w.first + 1) w.last)) ≤ count_by opens (take k (slice_range ts (w.first + 1) w.last))
inner_prefix ts w k balanced word group =
    let cut : (c : ℕ) × (c ≤ w.last - (w.first + 1)) × (take k (slice_range ts (w.first + 1) w.last) ≡ take c (drop (w.first + 1) ts)) = shorter (drop (w.first + 1) ts) k (w.last - (w.first + 1)) (nat_lt (w.last - (w.first + 1)) k) refl in
    subst (λ (xs : List Token). count_by closes xs ≤ count_by opens xs) (sym cut.2) (prefix_inside ts w cut.0 balanced word group (omega (arith, cut.1)))

inner_balanced : (ts : List Token) (w : Word) → IsBalanced ts → IsWordOf ts w → w.first < w.last → IsBalanced (slice_range ts (w.first + 1) w.last)
inner_balanced ts w balanced word group = (
  (λ k. inner_prefix ts w k balanced word group),
  total_inside ts w (w.last - (w.first + 1)) balanced word group (omega arith),
)

lie_drop : (n k : ℕ) (ts : List Token) → AllLie n ts → AllLie n (drop k ts)
lie_drop n zero ts all = all
lie_drop n (suc k) [] all = all
lie_drop n (suc k) (t ∷ ts) all = lie_drop n k ts all.1

lie_take : (n k : ℕ) (ts : List Token) → AllLie n ts → AllLie n (take k ts)
lie_take n zero ts all = tt
lie_take n (suc k) [] all = tt
lie_take n (suc k) (t ∷ ts) all = (all.0, lie_take n k ts all.1)

starts_drop : (a k : ℕ) (ts : List Token) → StartsFrom a ts → StartsFrom a (drop k ts)
starts_drop a zero ts all = all
starts_drop a (suc k) [] all = all
starts_drop a (suc k) (t ∷ ts) all = from_lower a (t.start + 1) (drop k ts) (omega (arith, all.0)) (starts_drop (t.start + 1) k ts all.1)

starts_take : (a k : ℕ) (ts : List Token) → StartsFrom a ts → StartsFrom a (take k ts)
starts_take a zero ts all = tt
starts_take a (suc k) [] all = tt
starts_take a (suc k) (t ∷ ts) all = (all.0, starts_take (t.start + 1) k ts all.1)

pub inner_tokens : (n : ℕ) (ts : List Token) (w : Word) → IsWordOf ts w → w.first < w.last → AreTokensIn n ts → AreTokensIn n (slice_range ts (w.first + 1) w.last)
inner_tokens n ts w word group are = record {
  lie = lie_take n (w.last - (w.first + 1)) (drop (w.first + 1) ts) (lie_drop n (w.first + 1) ts are.lie);
  starts = starts_take 0 (w.last - (w.first + 1)) (drop (w.first + 1) ts) (starts_drop 0 (w.first + 1) ts are.starts);
  balanced = inner_balanced ts w are.balanced word group;
}

pub read_tokens : (text : List ℕ) (tokens : List Token) → words_of text ≡ Ok tokens → AreTokensIn (length text) tokens
read_tokens text tokens read = record { lie = read_lies text tokens read; starts = read_order text tokens read; balanced = read_balanced text tokens read }
