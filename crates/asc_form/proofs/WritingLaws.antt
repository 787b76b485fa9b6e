-- The text of the first objects of a directory is the beginning of its whole text.
use Rattle.std.proofs.Common.{◌≡◌, ◌≤◌, ◌<◌, ◌+◌, ◌++◌, ◌∙◌, ℕ, ap, take, drop, codes, Some, None, zero, suc, List, [], ◌∷◌, length, sym, append-nil, arith, length-append}
use Rattle.std.proofs.lemmas.List.{take-append-drop, take_more}
use Rattle.std.proofs.lemmas.List.Concat.{flat_map-append}
use Rattle.std.proofs.lemmas.Option.{get_or_from_slice_get, slice_get_within}
use Rattle.std.specs.List.{slice_get}
use Rattle.transcript.specs.Lines.{text_of, ended}
use Rattle.name_core.specs.declared.name.Name.{Name}
use Rattle.object_set.specs.Objects.{Parts}
use Rattle.put_form.specs.Written.{object_lines}
use Rattle.directory.specs.Walks.{Entries}
use Rattle.asc_form.specs.Written.{title_line, objects_lines, written}

-- the lines of an entry
abbrev entry_lines : Name × Parts → List (List ℕ)
entry_lines e = object_lines e.0 e.1

-- within a list there is something at each place
pub there_is : {X : Type 0} (xs : List X) (i : ℕ) → i < length xs → slice_get xs i ≡ None → ⊥
there_is [] i lt e = absurd (omega (arith, lt))
there_is (x ∷ xs) zero lt e = cc
there_is (x ∷ xs) (suc i) lt e = there_is xs i (omega (arith, lt)) e

-- the text of two lists of objects
text_both : (title : List ℕ) (first second : Entries) → written (record { title = title; objects = first ++ second }) ≡ written (record { title = title; objects = first }) ++ text_of (objects_lines second)
text_both title first second =
    ap (λ lines. text_of (title_line title ∷ codes "units mm" ∷ lines)) (flat_map-append entry_lines first second)
    ∙ flat_map-append ended (title_line title ∷ codes "units mm" ∷ objects_lines first) (objects_lines second)

pub text_more : (title : List ℕ) (objects : Entries) (i : ℕ) (name : Name) (object : Parts) → slice_get objects i ≡ Some (name, object)
    → written (record { title = title; objects = take (i + 1) objects }) ≡ written (record { title = title; objects = take i objects }) ++ text_of (object_lines name object)
text_more title objects i name object is =
    ap (λ (es : Entries). written (record { title = title; objects = es }))
    (take_more objects i (name, object) (slice_get_within objects i (name, object) is) ∙ ap (λ (e : Name × Parts). take i objects ++ e ∷ []) (get_or_from_slice_get objects i (name, object) (name, object) is))
    ∙ text_both title (take i objects) ((name, object) ∷ [])
    ∙ ap (λ lines. written (record { title = title; objects = take i objects }) ++ text_of lines) (append-nil (object_lines name object))

pub text_first : (title : List ℕ) (objects : Entries) (i : ℕ) → length (written (record { title = title; objects = take i objects })) ≤ length (written (record { title = title; objects = objects }))
text_first title objects i =
    let whole : written (record { title = title; objects = objects }) ≡ written (record { title = title; objects = take i objects }) ++ text_of (objects_lines (drop i objects)) =
    ap (λ (es : Entries). written (record { title = title; objects = es })) (sym (take-append-drop i objects)) ∙ text_both title (take i objects) (drop i objects) in
    omega (arith, ap (length {A = ℕ}) whole, length-append (written (record { title = title; objects = take i objects })) (text_of (objects_lines (drop i objects))))
