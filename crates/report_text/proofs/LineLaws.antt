-- Names with their marks stand on one line, and how long the text of a list of lines is.
use Rattle.std.proofs.Common.{◌≡◌, ◌≤◌, ◌<◌, ◌+◌, ◌++◌, ◌∙◌, ℕ, suc, ap, take, drop, Some, None, Err, zero, Bool, true, false, cond, List, [], ◌∷◌, length, codes, map, refl, sym, arith, length-append}
use Rattle.std.proofs.lemmas.List.{take-append-drop, map-append}
use Rattle.std.specs.List.{slice_get}
use Rattle.name_core.specs.NameText.{IsName}
use Rattle.object_set.specs.declared.object.Body.{Body}
use Rattle.object_set.specs.declared.object.Body.TheVariants.{Solid, Comb}
use Rattle.put_form.proofs.OneLine.{name_lacks}
use Rattle.transcript.specs.Lines.{Lacks, text_of, ended}
use Rattle.transcript.proofs.LineLaws.{lacks_append}
use Rattle.transcript.proofs.TranscriptLaws.{computed}
use Rattle.report_text.specs.declared.fault.TextFault.{TextFault}
use Rattle.report_text.specs.declared.fault.TextFault.TheVariants.{Room, Memory}
use Rattle.report_text.specs.Names.{mark_of}
use Rattle.report_text.specs.Texts.{IsText}

mark_of_comb : (region : Bool) → Lacks 10 (cond region (codes "/R") (codes "/"))
mark_of_comb true = computed 10 (codes "/R") refl
mark_of_comb false = computed 10 (codes "/") refl

pub mark_lacks : (body : Body) → Lacks 10 (mark_of body)
mark_lacks (Solid solid) = tt
mark_lacks (Comb attr tree) = mark_of_comb attr.region

-- a name with its mark has no line feed
pub line_lacks : (name : List ℕ) (body : Body) → IsName name → Lacks 10 (name ++ mark_of body)
line_lacks name body h = lacks_append 10 name (mark_of body) (name_lacks name h) (mark_lacks body)

-- one line more
pub text_more : (lines : List (List ℕ)) (line : List ℕ) → length (text_of (lines ++ line ∷ [])) ≡ length (text_of lines) + (length line + 1)
text_more [] line = omega (arith, length-append line (10 ∷ []), length-append (ended line) [])
text_more (l ∷ ls) line = omega (arith, text_more ls line, length-append (ended l) (text_of (ls ++ line ∷ [])), length-append (ended l) (text_of ls))

-- some lines first
pub text_first : (one two : List (List ℕ)) → length (text_of one) ≤ length (text_of (one ++ two))
text_first [] two = omega arith
text_first (l ∷ ls) two = omega (arith, text_first ls two, length-append (ended l) (text_of (ls ++ two)), length-append (ended l) (text_of ls))

-- each line takes a byte at least
pub few_lines : (lines : List (List ℕ)) → length lines ≤ length (text_of lines)
few_lines [] = omega arith
few_lines (l ∷ ls) = omega (arith, few_lines ls, length-append (ended l) (text_of ls), length-append l (10 ∷ []))

take_next : {X : Type 0} (xs : List X) (i : ℕ) (x : X) → slice_get xs i ≡ Some x → take (suc i) xs ≡ take i xs ++ x ∷ []
take_next [] i x h = cc
take_next {X} (y ∷ ys) zero x h = let same : y ≡ x = cc in ap (λ (z : X). z ∷ []) same
take_next {X} (y ∷ ys) (suc i) x h = ap (λ (zs : List X). y ∷ zs) (take_next ys i x h)

-- a line for each value of a list, by a function
module _ {X : Type 0} (line_for : X → List ℕ) where
  -- the lines of one value more
  lines_next : (xs : List X) (place : ℕ) (x : X) → slice_get xs place ≡ Some x → map line_for (take (suc place) xs) ≡ map line_for (take place xs) ++ line_for x ∷ []
  lines_next xs place x h = ap (map line_for) (take_next xs place x h) ∙ map-append line_for (take place xs) (x ∷ [])

  -- the first lines take no more room than all
  lines_first : (xs : List X) (place : ℕ) → length (text_of (map line_for (take place xs))) ≤ length (text_of (map line_for xs))
  lines_first xs place =
      let parts : map line_for xs ≡ map line_for (take place xs) ++ map line_for (drop place xs) =
      ap (map line_for) (sym (take-append-drop place xs)) ∙ map-append line_for (take place xs) (drop place xs) in
      omega (arith, text_first (map line_for (take place xs)) (map line_for (drop place xs)), ap (λ (ls : List (List ℕ)). length (text_of ls)) parts)

  -- not all lines have room where those up to one more have none
  pub too_long : (xs : List X) (place : ℕ) (x : X) (body : List (List ℕ)) (left room : ℕ) → slice_get xs place ≡ Some x → body ≡ map line_for (take place xs)
      → left + length (text_of body) ≡ room → left < length (line_for x) + 1 → room < length (text_of (map line_for xs))
  too_long xs place x body left room h same used short =
      let next : map line_for (take (suc place) xs) ≡ body ++ line_for x ∷ [] = lines_next xs place x h ∙ ap (λ (ls : List (List ℕ)). ls ++ line_for x ∷ []) (sym same) in
      omega (arith, lines_first xs (suc place), ap (λ (ls : List (List ℕ)). length (text_of ls)) next, text_more body (line_for x), used, short)

  -- one line more, and the room that is left
  pub one_more : (xs : List X) (place : ℕ) (x : X) (body new : List (List ℕ)) (left rest room : ℕ) → slice_get xs place ≡ Some x → body ≡ map line_for (take place xs)
      → left + length (text_of body) ≡ room → new ≡ body ++ line_for x ∷ [] → rest + (length (line_for x) + 1) ≡ left
      → (new ≡ map line_for (take (place + 1) xs)) × (rest + length (text_of new) ≡ room)
  one_more xs place x body new left rest room h same used is taken =
      let next : suc place ≡ place + 1 = omega arith in (
        is ∙ ap (λ (ls : List (List ℕ)). ls ++ line_for x ∷ []) same ∙ sym (lines_next xs place x h) ∙ ap (λ n. map line_for (take n xs)) next,
        omega (arith, ap (λ (ls : List (List ℕ)). length (text_of ls)) is, text_more body (line_for x), used, taken),
      )

-- within a list there is something at each place
pub there_is : {X : Type 0} (xs : List X) (i : ℕ) → i < length xs → slice_get xs i ≡ None → ⊥
there_is [] i lt e = absurd (omega (arith, lt))
there_is (x ∷ xs) zero lt e = cc
there_is (x ∷ xs) (suc i) lt e = there_is xs i (omega (arith, lt)) e

-- a fault is answered for want of room only where the text has more
pub refused : (fault : TextFault) (lines : List (List ℕ)) (room : ℕ) → (fault ≡ Room → room < length (text_of lines)) → IsText (Err fault) lines room
refused Room lines room h = h refl
refused Memory lines room h = tt
