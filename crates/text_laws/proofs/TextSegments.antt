-- The words outside all groups, where the tokens are given word by word.
use Rattle.std.proofs.Common.{◌≡◌, ◌<◌, ◌≤◌, ◌+◌, ◌-◌, ◌==◌, ◌++◌, ◌∷◌, ◌∙◌, [], ℕ, zero, suc, Bool, true, false, cond, List, length, take, drop, get_or, Option, Some, None, arith, refl, ap, sym, subst, ne_eqb, append_assoc, length-append, get_or-drop, drop-drop}
use Rattle.std.specs.Prelude.{not, count_by, filter_map}
use Rattle.std.specs.List.{range_with_len, prefix_len, cons_option, AllByRecursion}
use Rattle.std.proofs.lemmas.List.Sums.{sum_by_more}
use Rattle.std.proofs.lemmas.List.Elements.{filter_map-append}
use Rattle.tcl_words.specs.Tokens.{token}
use Rattle.tcl_words.specs.TopWords.{is_open_kind, is_close_kind, opens, closes, level, word_last, word_at, top_words}
use Rattle.tcl_words.specs.declared.token.Token.{Token}
use Rattle.tcl_words.specs.declared.token.Word.{Word}
use Rattle.tcl_words.specs.declared.token.Kind.{Kind}
use Rattle.tcl_words.specs.declared.token.Kind.TheVariants.{Open, Close, Atom}
use Rattle.tcl_words.proofs.Written.{after}

-- tokens in a group: so many groups are open before them, at least one behind each, and one at the end
abbrev pub Stays : ℕ → List Token → Type 0
Stays g [] = g ≡ 1
Stays g (t ∷ ts) = (0 < after t.kind g) × Stays (after t.kind g) ts

-- the tokens of one word
pub data Segment : Type 0 where
  One : Token → Segment
  Many : Token → List Token → Token → Segment

abbrev pub tokens_in : Segment → List Token
tokens_in (One t) = t ∷ []
tokens_in (Many o inner c) = o ∷ (inner ++ c ∷ [])

abbrev pub IsSegment : Segment → Type 0
IsSegment (One t) = t.kind ≡ Atom
IsSegment (Many o inner c) = (o.kind ≡ Open) × (c.kind ≡ Close) × Stays 1 inner

abbrev pub all_tokens : List Segment → List Token
all_tokens [] = []
all_tokens (s ∷ rest) = tokens_in s ++ all_tokens rest

abbrev pub word_of : ℕ → Segment → Word
word_of i (One t) = record { first = i; last = i }
word_of i (Many o inner c) = record { first = i; last = i + (length inner + 1) }

abbrev pub words_from : ℕ → List Segment → List Word
words_from i [] = []
words_from i (s ∷ rest) = word_of i s ∷ words_from (i + length (tokens_in s)) rest

-- ---- how many groups are open at a place of the list

-- so many groups are open before a token
abbrev pub IsLevel : List Token → ℕ → ℕ → Type 0
IsLevel all i g = g + count_by closes (take i all) ≡ count_by opens (take i all)

pub level_is : (all : List Token) (i g : ℕ) → IsLevel all i g → level all i ≡ g
level_is all i g was = omega (arith, was)

pub first_token : (all : List Token) (i : ℕ) (t : Token) (ts : List Token) → drop i all ≡ t ∷ ts → get_or all i (token Open 0 0) ≡ t
first_token all i t ts is = ap (λ (m : ℕ). get_or all m (token Open 0 0)) (omega arith) ∙ sym (get_or-drop i all 0 (token Open 0 0)) ∙ ap (λ (xs : List Token). get_or xs 0 (token Open 0 0)) is

pub rest_tokens : (all : List Token) (i : ℕ) (t : Token) (ts : List Token) → drop i all ≡ t ∷ ts → drop (i + 1) all ≡ ts
rest_tokens all i t ts is = sym (drop-drop 1 i all) ∙ ap (drop 1) is

there_is : (all : List Token) (i : ℕ) (t : Token) (ts : List Token) → drop i all ≡ t ∷ ts → i < length all
there_is [] zero t ts is = cc
there_is [] (suc i) t ts is = cc
there_is (x ∷ all) zero t ts is = omega arith
there_is (x ∷ all) (suc i) t ts is = omega (arith, there_is all i t ts is)

after_counts : (k : Kind) (g a b : ℕ) → (k ≡ Close → 0 < g) → g + b ≡ a → after k g + (b + cond (is_close_kind k) 1 0) ≡ a + cond (is_open_kind k) 1 0
after_counts Open g a b some is = omega (arith, is)
after_counts Close g a b some is = omega (arith, is, some refl)
after_counts Atom g a b some is = omega (arith, is)

pub next_level : (all : List Token) (i g : ℕ) (t : Token) (ts : List Token) → drop i all ≡ t ∷ ts → (t.kind ≡ Close → 0 < g) → IsLevel all i g → IsLevel all (i + 1) (after t.kind g)
next_level all i g t ts is some was =
    let here : get_or all i (token Open 0 0) ≡ t = first_token all i t ts is in
    let within : i < length all = there_is all i t ts is in
    let o : count_by opens (take (i + 1) all) ≡ count_by opens (take i all) + cond (is_open_kind t.kind) 1 0 = sum_by_more (λ x. cond (opens x) 1 0) all i (token Open 0 0) within ∙ ap (λ (x : Token). count_by opens (take i all) + cond (opens x) 1 0) here in
    let c : count_by closes (take (i + 1) all) ≡ count_by closes (take i all) + cond (is_close_kind t.kind) 1 0 = sum_by_more (λ x. cond (closes x) 1 0) all i (token Open 0 0) within ∙ ap (λ (x : Token). count_by closes (take i all) + cond (closes x) 1 0) here in
    let now : after t.kind g + (count_by closes (take i all) + cond (is_close_kind t.kind) 1 0) ≡ count_by opens (take i all) + cond (is_open_kind t.kind) 1 0 = after_counts t.kind g (count_by opens (take i all)) (count_by closes (take i all)) some was in
    omega (arith, now, o, c)

inside : (k : Kind) (g : ℕ) → 0 < after k g → k ≡ Close → 0 < g
inside Open g some is = cc
inside Close g some is = omega (arith, some)
inside Atom g some is = cc

-- ---- the tokens in a group begin no word, and the word goes on over them

no_word : (all : List Token) (i g : ℕ) → IsLevel all i g → 0 < g → word_at all i ≡ None
no_word all i g was some = ap (λ (n : ℕ). cond (n == 0) (Some (record { first = i; last = word_last all i })) None) (level_is all i g was) ∙ ap (λ (b : Bool). cond b (Some (record { first = i; last = word_last all i })) None) (ne_eqb g 0 (λ e. omega (arith, some, e)))

abbrev goes_on : List Token → ℕ → Bool
goes_on all j = not (level all (j + 1) == 0)

pub shut_words : (all inner rest : List Token) (c : Token) (i g : ℕ) → drop i all ≡ inner ++ c ∷ rest → IsLevel all i g → 0 < g → Stays g inner → c.kind ≡ Close
    → (filter_map (word_at all) (range_with_len i (length inner + 1)) ≡ []) × IsLevel all (i + (length inner + 1)) 0
shut_words all [] rest c i g is was some stays shut = (
  ap (λ (o : Option Word). cons_option o []) (no_word all i g was some),
  let now : IsLevel all (i + 1) (after c.kind g) = next_level all i g c rest is (λ k. some) was in
      let none : after c.kind g ≡ 0 = ap (λ (k : Kind). after k g) shut ∙ (let e : g - 1 ≡ 0 = omega (arith, stays) in e) in
      subst (λ (n : ℕ). IsLevel all (i + 1) n) none now,
)
shut_words all (t ∷ ts) rest c i g is was some stays shut =
    let more : (filter_map (word_at all) (range_with_len (i + 1) (length ts + 1)) ≡ []) × IsLevel all ((i + 1) + (length ts + 1)) 0 =
    shut_words all ts rest c (i + 1) (after t.kind g) (rest_tokens all i t (ts ++ c ∷ rest) is) (next_level all i g t (ts ++ c ∷ rest) is (inside t.kind g stays.0) was) stays.0 stays.1 shut in
    let one : suc (length ts) + 1 ≡ suc (length ts + 1) = omega arith in
    let two : (i + 1) + (length ts + 1) ≡ i + (suc (length ts) + 1) = omega arith in (
      ap (λ (n : ℕ). filter_map (word_at all) (range_with_len i n)) one ∙ ap (λ (o : Option Word). cons_option o (filter_map (word_at all) (range_with_len (i + 1) (length ts + 1)))) (no_word all i g was some) ∙ more.0,
      subst (λ (n : ℕ). IsLevel all n 0) two more.1,
    )

goes : (all : List Token) (j g : ℕ) → IsLevel all (j + 1) g → 0 < g → goes_on all j ≡ true
goes all j g was some = ap (λ (n : ℕ). not (n == 0)) (level_is all (j + 1) g was) ∙ ap not (ne_eqb g 0 (λ e. omega (arith, some, e)))

stops : (all : List Token) (j : ℕ) → IsLevel all (j + 1) 0 → goes_on all j ≡ false
stops all j was = ap (λ (n : ℕ). not (n == 0)) (level_is all (j + 1) 0 was)

prefix_goes : (p : ℕ → Bool) (i n : ℕ) → p i ≡ true → prefix_len p (range_with_len i (suc n)) ≡ suc (prefix_len p (range_with_len (i + 1) n))
prefix_goes p i n is = ap (λ (b : Bool). cond b (1 + prefix_len p (range_with_len (i + 1) n)) 0) is ∙ omega arith

prefix_stops : (p : ℕ → Bool) (i n : ℕ) → p i ≡ false → prefix_len p (range_with_len i (suc n)) ≡ 0
prefix_stops p i n is = ap (λ (b : Bool). cond b (1 + prefix_len p (range_with_len (i + 1) n)) 0) is

pub word_on : (all inner rest : List Token) (t c : Token) (i g n : ℕ) → drop i all ≡ t ∷ (inner ++ c ∷ rest) → IsLevel all (i + 1) g → 0 < g → Stays g inner → c.kind ≡ Close → length inner + 1 < n
    → prefix_len (goes_on all) (range_with_len i n) ≡ length inner + 1
word_on all inner rest t c i g zero is was some stays shut lt = absurd (omega (arith, lt))
word_on all inner rest t c i g (suc zero) is was some stays shut lt = absurd (omega (arith, lt))
word_on all [] rest t c i g (suc (suc n)) is was some stays shut lt =
    let at : drop (i + 1) all ≡ c ∷ rest = rest_tokens all i t (c ∷ rest) is in
    let now : IsLevel all ((i + 1) + 1) (after c.kind g) = next_level all (i + 1) g c rest at (λ k. some) was in
    let none : after c.kind g ≡ 0 = ap (λ (k : Kind). after k g) shut ∙ (let e : g - 1 ≡ 0 = omega (arith, stays) in e) in
    prefix_goes (goes_on all) i (suc n) (goes all i g was some)
    ∙ ap (λ (m : ℕ). suc m) (prefix_stops (goes_on all) (i + 1) n (stops all (i + 1) (subst (λ (m : ℕ). IsLevel all ((i + 1) + 1) m) none now)))
    ∙ (let e : suc 0 ≡ 0 + 1 = omega arith in e)
word_on all (u ∷ us) rest t c i g (suc (suc n)) is was some stays shut lt =
    let at : drop (i + 1) all ≡ u ∷ (us ++ c ∷ rest) = rest_tokens all i t (u ∷ (us ++ c ∷ rest)) is in
    prefix_goes (goes_on all) i (suc n) (goes all i g was some)
    ∙ ap (λ (m : ℕ). suc m) (word_on all us rest u c (i + 1) (after u.kind g) (suc n) at (next_level all (i + 1) g u (us ++ c ∷ rest) at (inside u.kind g stays.0) was) stays.0 stays.1 shut (omega (arith, lt)))
    ∙ (let e : suc (length us + 1) ≡ suc (length us) + 1 = omega arith in e)

-- ---- the words of one word's tokens

range_both : (a n m : ℕ) → range_with_len a (n + m) ≡ range_with_len a n ++ range_with_len (a + n) m
range_both a zero m =
    let len : 0 + m ≡ m = omega arith in
    let from : a ≡ a + 0 = omega arith in
    ap (range_with_len a) len ∙ ap (λ (k : ℕ). range_with_len k m) from
range_both a (suc n) m =
    ap (range_with_len a) (let e : suc n + m ≡ suc (n + m) = omega arith in e)
    ∙ ap (λ xs. a ∷ xs) (range_both (a + 1) n m ∙ ap (λ (k : ℕ). range_with_len (a + 1) n ++ range_with_len k m) (let e : (a + 1) + n ≡ a + suc n = omega arith in e))

pub split_range : {Y : Type 0} (h : ℕ → Option Y) (a n m : ℕ) → filter_map h (range_with_len a (n + m)) ≡ filter_map h (range_with_len a n) ++ filter_map h (range_with_len (a + n) m)
split_range h a n m = ap (filter_map h) (range_both a n m) ∙ filter_map-append h (range_with_len a n) (range_with_len (a + n) m)

word_here : (all : List Token) (i last : ℕ) → IsLevel all i 0 → word_last all i ≡ last → word_at all i ≡ Some (record { first = i; last = last })
word_here all i last was is =
    ap (λ (n : ℕ). cond (n == 0) (Some (record { first = i; last = word_last all i })) None) (level_is all i 0 was)
    ∙ ap (λ (n : ℕ). Some (let w : Word = record { first = i; last = n } in w)) is

abbrev HasWord : List Token → ℕ → Segment → Type 0
HasWord all i s = (filter_map (word_at all) (range_with_len i (length (tokens_in s))) ≡ word_of i s ∷ []) × IsLevel all (i + length (tokens_in s)) 0

dropped : (all : List Token) (i : ℕ) (rest : List Token) → drop i all ≡ rest → i ≤ length all → length all - i ≡ length rest
dropped all zero rest is le = (let e : length all - 0 ≡ length all = omega arith in e) ∙ ap (length {A = Token}) is
dropped [] (suc i) rest is le = absurd (omega (arith, le))
dropped (x ∷ all) (suc i) rest is le = (let e : suc (length all) - suc i ≡ length all - i = omega arith in e) ∙ dropped all i rest is (omega (arith, le))

one_word : (all rest : List Token) (s : Segment) (i : ℕ) → drop i all ≡ tokens_in s ++ rest → IsLevel all i 0 → IsSegment s → HasWord all i s
one_word all rest (One t) i is was good =
    let now : IsLevel all (i + 1) 0 = subst (λ (n : ℕ). IsLevel all (i + 1) n) (ap (λ (k : Kind). after k 0) good) (next_level all i 0 t rest is (λ k. absurd (let no : Close ≡ Atom = sym k ∙ good in cc)) was) in
    let some : length all - i ≡ suc (length rest) = dropped all i (t ∷ rest) is (omega (arith, there_is all i t rest is)) in
    let last : word_last all i ≡ i = ap (λ (n : ℕ). i + prefix_len (goes_on all) (range_with_len i n)) some ∙ ap (λ (n : ℕ). i + n) (prefix_stops (goes_on all) i (length rest) (stops all i now)) ∙ (let e : i + 0 ≡ i = omega arith in e) in
    (ap (λ (o : Option Word). cons_option o []) (word_here all i i was last), now)
one_word all rest (Many o inner c) i is was good =
    let at : drop i all ≡ o ∷ (inner ++ c ∷ rest) = is ∙ ap (λ (ts : List Token). o ∷ ts) (append_assoc inner (c ∷ []) rest) in
    let within : IsLevel all (i + 1) 1 = subst (λ (n : ℕ). IsLevel all (i + 1) n) (ap (λ (k : Kind). after k 0) good.0) (next_level all i 0 o (inner ++ c ∷ rest) at (λ k. absurd (let no : Close ≡ Open = sym k ∙ good.0 in cc)) was) in
    let shut : (filter_map (word_at all) (range_with_len (i + 1) (length inner + 1)) ≡ []) × IsLevel all ((i + 1) + (length inner + 1)) 0 = shut_words all inner rest c (i + 1) 1 (rest_tokens all i o (inner ++ c ∷ rest) at) within (omega arith) good.2 good.1 in
    let some : length all - i ≡ length (o ∷ (inner ++ c ∷ rest)) = dropped all i (o ∷ (inner ++ c ∷ rest)) at (omega (arith, there_is all i o (inner ++ c ∷ rest) at)) in
    let long : length inner + 1 < length all - i = omega (arith, some, length-append inner (c ∷ rest)) in
    let last : word_last all i ≡ i + (length inner + 1) = ap (λ (n : ℕ). i + n) (word_on all inner rest o c i 1 (length all - i) at within (omega arith) good.2 good.1 long) in
    let len : length (o ∷ (inner ++ c ∷ [])) ≡ suc (length inner + 1) = omega (arith, length-append inner (c ∷ [])) in
    let end : (i + 1) + (length inner + 1) ≡ i + length (o ∷ (inner ++ c ∷ [])) = omega (arith, len) in (
      ap (λ (n : ℕ). filter_map (word_at all) (range_with_len i n)) len
          ∙ ap (λ (x : Option Word). cons_option x (filter_map (word_at all) (range_with_len (i + 1) (length inner + 1)))) (word_here all i (i + (length inner + 1)) was last)
          ∙ ap (λ (ws : List Word). (let w : Word = record { first = i; last = i + (length inner + 1) } in w) ∷ ws) shut.0,
      subst (λ (n : ℕ). IsLevel all n 0) end shut.1,
    )

-- what is left behind the first part
pub seam : {A : Type 0} (all one rest : List A) (i : ℕ) → drop i all ≡ one ++ rest → drop (i + length one) all ≡ rest
seam all [] rest i is = ap (λ (n : ℕ). drop n all) (let e : i + 0 ≡ i = omega arith in e) ∙ is
seam all (t ∷ one) rest i is = ap (λ (n : ℕ). drop n all) (let e : i + suc (length one) ≡ (i + 1) + length one = omega arith in e) ∙ seam all one rest (i + 1) (sym (drop-drop 1 i all) ∙ ap (drop 1) is)

segments_words : (all : List Token) (segments : List Segment) (i : ℕ) → drop i all ≡ all_tokens segments → IsLevel all i 0 → AllByRecursion IsSegment segments
    → filter_map (word_at all) (range_with_len i (length (all_tokens segments))) ≡ words_from i segments
segments_words all [] i is was good = refl
segments_words all (s ∷ rest) i is was good =
    let here : HasWord all i s = one_word all (all_tokens rest) s i is was good.0 in
    ap (λ (n : ℕ). filter_map (word_at all) (range_with_len i n)) (length-append (tokens_in s) (all_tokens rest))
    ∙ split_range (word_at all) i (length (tokens_in s)) (length (all_tokens rest))
    ∙ ap (λ (ws : List Word). ws ++ filter_map (word_at all) (range_with_len (i + length (tokens_in s)) (length (all_tokens rest)))) here.0
    ∙ ap (λ (ws : List Word). word_of i s ∷ ws) (segments_words all rest (i + length (tokens_in s)) (seam all (tokens_in s) (all_tokens rest) i is) here.1 good.1)

-- the words outside all groups are those of the segments
pub top_segments : (segments : List Segment) → AllByRecursion IsSegment segments → top_words (all_tokens segments) ≡ words_from 0 segments
top_segments segments good = segments_words (all_tokens segments) segments 0 refl refl good
