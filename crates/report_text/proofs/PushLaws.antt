-- Lines that are put one behind the other at the end of a body, while there is room.
use Rattle.std.proofs.Common.{◌≡◌, ◌≤◌, ◌<◌, ◌+◌, ◌++◌, ◌∙◌, ℕ, ap, take, drop, get_or, Ok, Err, Result, List, [], ◌∷◌, flat_map, length, sym, append_assoc, append-nil, subst, arith, length-append}
use Rattle.std.proofs.lemmas.List.{take-append-drop, take_more}
use Rattle.std.proofs.lemmas.List.Concat.{flat_map-append}
use Rattle.std.proofs.Math.Seq.{take-length}
use Rattle.transcript.specs.Lines.{text_of, ended}
use Rattle.report_text.specs.declared.fault.TextFault.{TextFault}
use Rattle.report_text.specs.declared.fault.TextFault.TheVariants.{Room, Memory}
use Rattle.report_text.specs.Steps.{IsPushed}
use Rattle.report_text.specs.Texts.{IsText}
use Rattle.report_text.proofs.LineLaws.{few_lines}

-- the texts of two lists of lines
text_both : (first second : List (List ℕ)) → length (text_of (first ++ second)) ≡ length (text_of first) + length (text_of second)
text_both first second = ap (length {A = ℕ}) (flat_map-append ended first second) ∙ length-append (text_of first) (text_of second)

-- nothing is put in
pub pushed_none : (old : List (List ℕ)) (room : ℕ) → IsPushed (Ok room) old old [] room
pushed_none old room = (sym (append-nil old), omega arith)

-- more lines, or a fault at them
pub pushed_then : (r : Result ℕ TextFault) (left : ℕ) (old mid new first second : List (List ℕ)) (room : ℕ) → IsPushed (Ok left) old mid first room → IsPushed r mid new second left → IsPushed r old new (first ++ second) room
pushed_then (Ok rest) left old mid new first second room h k = (k.0 ∙ ap (λ lines. lines ++ second) h.0 ∙ append_assoc old first second, omega (arith, h.1, k.1, text_both first second))
pushed_then (Err Room) left old mid new first second room h k = omega (arith, h.1, k, text_both first second)
pushed_then (Err Memory) left old mid new first second room h k = tt

-- a fault at the first lines
pub pushed_not : (fault : TextFault) (old new before after first second : List (List ℕ)) (room : ℕ) → IsPushed (Err fault) old new first room → IsPushed (Err fault) before after (first ++ second) room
pushed_not Room old new before after first second room h = omega (arith, h, text_both first second)
pushed_not Memory old new before after first second room h = tt

-- each line takes a byte at least
pub pushed_few : (left : ℕ) (old new lines : List (List ℕ)) (room : ℕ) → IsPushed (Ok left) old new lines room → length new + left ≤ length old + room
pushed_few left old new lines room h = omega (arith, ap length h.0, length-append old lines, few_lines lines, h.1)

-- some lines for each value of a list
module _ {X : Type 0} (lines_for : X → List (List ℕ)) where
  lines_more : (xs : List X) (i : ℕ) (x : X) → i < length xs → x ≡ get_or xs i x → flat_map lines_for (take (i + 1) xs) ≡ flat_map lines_for (take i xs) ++ lines_for x
  lines_more xs i x lt is =
      ap (flat_map lines_for) (take_more xs i x lt)
      ∙ flat_map-append lines_for (take i xs) (get_or xs i x ∷ [])
      ∙ ap (λ lines. flat_map lines_for (take i xs) ++ lines) (append-nil (lines_for (get_or xs i x)) ∙ ap lines_for (sym is))

  lines_rest : (xs : List X) (i : ℕ) → flat_map lines_for xs ≡ flat_map lines_for (take i xs) ++ flat_map lines_for (drop i xs)
  lines_rest xs i = ap (flat_map lines_for) (sym (take-append-drop i xs)) ∙ flat_map-append lines_for (take i xs) (drop i xs)

  pub each_more : (xs : List X) (i : ℕ) (x : X) (left rest : ℕ) (old mid new : List (List ℕ)) (room : ℕ) → i < length xs → x ≡ get_or xs i x
      → IsPushed (Ok left) old mid (flat_map lines_for (take i xs)) room → IsPushed (Ok rest) mid new (lines_for x) left → IsPushed (Ok rest) old new (flat_map lines_for (take (i + 1) xs)) room
  each_more xs i x left rest old mid new room lt is h k =
      rw (lines_more xs i x lt is) (pushed_then (Ok rest) left old mid new (flat_map lines_for (take i xs)) (lines_for x) room h k)

  pub each_fault : (xs : List X) (i : ℕ) (x : X) (fault : TextFault) (left : ℕ) (old mid new before after : List (List ℕ)) (room : ℕ) → i < length xs → x ≡ get_or xs i x
      → IsPushed (Ok left) old mid (flat_map lines_for (take i xs)) room → IsPushed (Err fault) mid new (lines_for x) left → IsPushed (Err fault) before after (flat_map lines_for xs) room
  each_fault xs i x fault left old mid new before after room lt is h k =
      let upto : IsPushed (Err fault) old new (flat_map lines_for (take (i + 1) xs)) room =
      rw (lines_more xs i x lt is) (pushed_then (Err fault) left old mid new (flat_map lines_for (take i xs)) (lines_for x) room h k) in
      rw (lines_rest xs (i + 1)) (pushed_not fault old new before after (flat_map lines_for (take (i + 1) xs)) (flat_map lines_for (drop (i + 1) xs)) room upto)

  pub each_done : (xs : List X) (i left : ℕ) (old new : List (List ℕ)) (room : ℕ) → i ≡ length xs → IsPushed (Ok left) old new (flat_map lines_for (take i xs)) room → IsPushed (Ok left) old new (flat_map lines_for xs) room
  each_done xs i left old new room end h = subst (λ ys. IsPushed (Ok left) old new (flat_map lines_for ys) room) (ap (λ (n : ℕ). take n xs) end ∙ take-length xs) h

-- all lines of a body that had none
pub is_text : (left : ℕ) (body lines : List (List ℕ)) (room : ℕ) → IsPushed (Ok left) [] body lines room → IsText (Ok body) lines room
is_text left body lines room h = (h.0, omega (arith, h.1))

pub no_text : (fault : TextFault) (old new lines : List (List ℕ)) (room : ℕ) → IsPushed (Err fault) old new lines room → IsText (Err fault) lines room
no_text Room old new lines room h = h
no_text Memory old new lines room h = tt
