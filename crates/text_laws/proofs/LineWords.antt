-- The words outside all groups, from left to right over the pieces of a text.
use Rattle.std.proofs.Common.{◌≡◌, ◌∙◌, ◌+◌, ◌-◌, ◌<◌, ◌==◌, ℕ, suc, Bool, true, false, not, cond, List, [], ◌∷◌, ◌++◌, length, take, drop, get_or, filter_map, Some, None, refl, ap, ap₂, sym, subst, arith, length-drop, get_or-drop, drop-drop, ne_eqb}
use Rattle.std.specs.Prelude.{count_by}
use Rattle.std.specs.List.{cons_option, prefix_len, range_with_len}
use Rattle.std.proofs.lemmas.List.Sums.{sum_by_more}
use Rattle.tcl_words.specs.Pieces.{piece, pieces}
use Rattle.tcl_words.specs.TopWords.{is_open_kind, is_close_kind, opens, closes, level, word_last, word_at, top_words}
use Rattle.tcl_words.specs.declared.token.Kind.{Kind}
use Rattle.tcl_words.specs.declared.token.Kind.TheVariants.{Open, Close, Atom}
use Rattle.tcl_words.specs.declared.token.Token.{Token}
use Rattle.tcl_words.specs.declared.token.Word.{Word}
use Rattle.tcl_words.proofs.Scan.{Piece}
use Rattle.tcl_words.proofs.Written.{Good, GoodPiece, after}
use Rattle.text_laws.proofs.LinePieces.{word}

-- g groups are open before a place
abbrev At : List Token → ℕ → ℕ → Type 0
At ts i g = g + count_by closes (take i ts) ≡ count_by opens (take i ts)

level_is : (ts : List Token) (i g : ℕ) → At ts i g → level ts i ≡ g
level_is ts i g at = omega (arith, at)

step : (k : Kind) (bytes : List ℕ) (g a b : ℕ) → GoodPiece k bytes g → g + a ≡ b → after k g + (a + cond (is_close_kind k) 1 0) ≡ b + cond (is_open_kind k) 1 0
step Open bytes g a b good at = omega (arith, at)
step Close bytes g a b good at = omega (arith, at, good.1)
step Atom bytes g a b good at = omega (arith, at)

within : (ts rest : List Token) (t : Token) (i : ℕ) → drop i ts ≡ t ∷ rest → i < length ts
within ts rest t i is = omega (arith, length-drop i ts, ap length is)

token_here : (ts rest : List Token) (t : Token) (i : ℕ) → drop i ts ≡ t ∷ rest → get_or ts i t ≡ t
token_here ts rest t i is = ap (λ (n : ℕ). get_or ts n t) (let e : i ≡ i + 0 = omega arith in e) ∙ sym (get_or-drop i ts 0 t) ∙ ap (λ (xs : List Token). get_or xs 0 t) is

rest_here : (ts rest : List Token) (t : Token) (i : ℕ) → drop i ts ≡ t ∷ rest → drop (i + 1) ts ≡ rest
rest_here ts rest t i is = sym (drop-drop 1 i ts) ∙ ap (drop 1) is

next_at : (text : List ℕ) (ts rest : List Token) (t : Token) (i g : ℕ) → drop i ts ≡ t ∷ rest → GoodPiece t.kind (piece text t).1 g → At ts i g → At ts (i + 1) (after t.kind g)
next_at text ts rest t i g is good at =
    let lt : i < length ts = within ts rest t i is in
    let here : get_or ts i t ≡ t = token_here ts rest t i is in
    omega (
      arith,
      step t.kind (piece text t).1 g (count_by closes (take i ts)) (count_by opens (take i ts)) good at,
      sum_by_more (λ x. cond (closes x) 1 0) ts i t lt,
      sum_by_more (λ x. cond (opens x) 1 0) ts i t lt,
      ap {B = ℕ} (λ (x : Token). cond (closes x) 1 0) here,
      ap {B = ℕ} (λ (x : Token). cond (opens x) 1 0) here,
    )

-- where a word ends that is open at a place, and the words from a place on
abbrev pub end_of : ℕ → ℕ → List Piece → ℕ
end_of i g [] = i
end_of i g (p ∷ ps) = cond (after p.0 g == 0) i (end_of (i + 1) (after p.0 g) ps)

abbrev pub tops : ℕ → ℕ → List Piece → List Word
tops i g [] = []
tops i g (p ∷ ps) = cons_option (cond (g == 0) (Some (word i (end_of i g (p ∷ ps)))) None) (tops (i + 1) (after p.0 g) ps)

last_by : (i x e : ℕ) (b : Bool) → (i + 1) + x ≡ e → i + cond (not b) (1 + x) 0 ≡ cond b i e
last_by i x e true is = omega arith
last_by i x e false is = omega (arith, is)

last_is : (text : List ℕ) (ts rest : List Token) (i g : ℕ) → drop i ts ≡ rest → At ts i g → Good g (pieces text rest)
    → i + prefix_len (λ j. not (level ts (j + 1) == 0)) (range_with_len i (length rest)) ≡ end_of i g (pieces text rest)
last_is text ts [] i g is at good = omega arith
last_is text ts (t ∷ rest) i g is at good =
    let next : At ts (i + 1) (after t.kind g) = next_at text ts rest t i g is good.0 at in
    let x : ℕ = prefix_len (λ j. not (level ts (j + 1) == 0)) (range_with_len (i + 1) (length rest)) in
    ap (λ (l : ℕ). i + cond (not (l == 0)) (1 + x) 0) (level_is ts (i + 1) (after t.kind g) next)
    ∙ last_by i x (end_of (i + 1) (after t.kind g) (pieces text rest)) (after t.kind g == 0) (last_is text ts rest (i + 1) (after t.kind g) (rest_here ts rest t i is) next good.1)

tops_are : (text : List ℕ) (ts rest : List Token) (i g : ℕ) → drop i ts ≡ rest → At ts i g → Good g (pieces text rest) → filter_map (word_at ts) (range_with_len i (length rest)) ≡ tops i g (pieces text rest)
tops_are text ts [] i g is at good = refl
tops_are text ts (t ∷ rest) i g is at good =
    let next : At ts (i + 1) (after t.kind g) = next_at text ts rest t i g is good.0 at in
    let len : length ts - i ≡ length (t ∷ rest) = sym (length-drop i ts) ∙ ap length is in
    let last : word_last ts i ≡ end_of i g (pieces text (t ∷ rest)) =
    ap (λ (n : ℕ). i + prefix_len (λ j. not (level ts (j + 1) == 0)) (range_with_len i n)) len ∙ last_is text ts (t ∷ rest) i g is at good in
    ap₂ cons_option
    (ap (λ (l : ℕ). cond (l == 0) (Some (word i (word_last ts i))) None) (level_is ts i g at) ∙ ap (λ (e : ℕ). cond (g == 0) (Some (word i e)) None) last)
    (tops_are text ts rest (i + 1) (after t.kind g) (rest_here ts rest t i is) next good.1)

-- the words of tokens by their pieces
pub top_is : (text : List ℕ) (tokens : List Token) (ps : List Piece) → pieces text tokens ≡ ps → Good 0 ps → top_words tokens ≡ tops 0 0 ps
top_is text tokens ps are good = tops_are text tokens tokens 0 0 refl (omega arith) (subst (Good 0) (sym are) good) ∙ ap (tops 0 0) are

-- ---- pieces inside a group: from g open groups to h, and always some

abbrev pub Stretch : ℕ → List Piece → ℕ → Type 0
Stretch g [] h = g ≡ h
Stretch g (p ∷ ps) h = GoodPiece p.0 p.1 g × (0 < after p.0 g) × Stretch (after p.0 g) ps h

pub stretch_good : (ps rest : List Piece) (g h : ℕ) → Stretch g ps h → Good h rest → Good g (ps ++ rest)
stretch_good [] rest g h s good = subst (λ (n : ℕ). Good n rest) (sym s) good
stretch_good (p ∷ ps) rest g h s good = (s.0, stretch_good ps rest (after p.0 g) h s.2 good)

pub stretch_append : (ps qs : List Piece) (g h k : ℕ) → Stretch g ps h → Stretch h qs k → Stretch g (ps ++ qs) k
stretch_append [] qs g h k s t = subst (λ (n : ℕ). Stretch n qs k) (sym s) t
stretch_append (p ∷ ps) qs g h k s t = (s.0, s.1, stretch_append ps qs (after p.0 g) h k s.2 t)

pub stretch_end : (ps rest : List Piece) (i g h : ℕ) → Stretch g ps h → end_of i g (ps ++ rest) ≡ end_of (i + length ps) h rest
stretch_end [] rest i g h s = ap₂ (λ (n m : ℕ). end_of n m rest) (let e : i ≡ i + 0 = omega arith in e) s
stretch_end (p ∷ ps) rest i g h s =
    ap (λ b. cond b i (end_of (i + 1) (after p.0 g) (ps ++ rest))) (ne_eqb (after p.0 g) 0 (λ e. omega (arith, s.1, e)))
    ∙ stretch_end ps rest (i + 1) (after p.0 g) h s.2
    ∙ ap (λ (n : ℕ). end_of n h rest) (let e : (i + 1) + length ps ≡ i + suc (length ps) = omega arith in e)

pub stretch_tops : (ps rest : List Piece) (i g h : ℕ) → 0 < g → Stretch g ps h → tops i g (ps ++ rest) ≡ tops (i + length ps) h rest
stretch_tops [] rest i g h some s = ap₂ (λ (n m : ℕ). tops n m rest) (let e : i ≡ i + 0 = omega arith in e) s
stretch_tops (p ∷ ps) rest i g h some s =
    ap (λ b. cons_option (cond b (Some (word i (end_of i g (p ∷ (ps ++ rest))))) None) (tops (i + 1) (after p.0 g) (ps ++ rest))) (ne_eqb g 0 (λ e. omega (arith, some, e)))
    ∙ stretch_tops ps rest (i + 1) (after p.0 g) h s.1 s.2
    ∙ ap (λ (n : ℕ). tops n h rest) (let e : (i + 1) + length ps ≡ i + suc (length ps) = omega arith in e)
