-- The text of a list of objects, put together from its parts.
use Rattle.std.proofs.Common.{◌≡◌, ◌+◌, ◌*◌, ◌++◌, ◌∙◌, ℕ, suc, List, [], ◌∷◌, ap, sym, append_assoc, append-nil, arith, add-one, codes}
use Rattle.std.proofs.lemmas.List.Concat.{flat_map-append}
use Rattle.transcript.specs.Lines.{text_of, ended}
use Rattle.name_core.specs.declared.name.Name.{Name}
use Rattle.object_set.specs.Objects.{Parts}
use Rattle.put_form.specs.Written.{object_lines}
use Rattle.directory.specs.Walks.{Entries}
use Rattle.asc_form.specs.Written.{title_line, objects_lines, written}
use Rattle.scene_make.specs.Draws.{after}
use Rattle.scene_make.specs.Demo.{pair_of, pairs}
use Rattle.scene_make.specs.Steps.{entries_text}

abbrev entry_lines : Name × Parts → List (List ℕ)
entry_lines e = object_lines e.0 e.1

pub both : (first second : Entries) → entries_text (first ++ second) ≡ entries_text first ++ entries_text second
both first second = ap text_of (flat_map-append entry_lines first second) ∙ flat_map-append ended (objects_lines first) (objects_lines second)

pub after_title : (title : List ℕ) (objects : Entries) → written (record { title = title; objects = objects }) ≡ written (record { title = title; objects = [] }) ++ entries_text objects
after_title title objects = flat_map-append ended (title_line title ∷ codes "units mm" ∷ []) (objects_lines objects)

-- objects that were put at the end of a text, and more of them
pub joined : (first second : Entries) (start middle end : List ℕ) → end ≡ middle ++ entries_text second → middle ≡ start ++ entries_text first → end ≡ start ++ entries_text (first ++ second)
joined first second start middle end last before =
    last ∙ ap (λ text. text ++ entries_text second) before ∙ append_assoc start (entries_text first) (entries_text second) ∙ ap (λ text. start ++ text) (sym (both first second))

pub no_pairs : (n : ℕ) (text : List ℕ) → text ≡ text ++ entries_text (pairs n 0)
unfolding pairs
no_pairs n text = sym (append-nil text)

pub pairs_more : (n i : ℕ) → pairs n (i + 1) ≡ pairs n i ++ pair_of (after n (5 * i)) i
unfolding pairs
pairs_more n i = ap (pairs n) (add-one i)

pub after_more : (n i : ℕ) → after n (5 * (i + 1)) ≡ after (after n (5 * i)) 5
after_more n i =
    let five : 5 * (i + 1) ≡ suc (suc (suc (suc (suc (5 * i))))) = omega arith in
    ap (after n) five

pub same_entry : (a b : Name) (one two : Parts) → a ≡ b → one ≡ two → ◌≡◌ {A = Entries} ((a, one) ∷ []) ((b, two) ∷ [])
same_entry a b one two e f = λ i. (e i, f i) ∷ []

-- a title, an object, more of them, and a last one
pub whole : (title : List ℕ) (first : Name × Parts) (others : Entries) (last : Name × Parts) (start one two end : List ℕ)
    → start ≡ written (record { title = title; objects = [] }) → one ≡ start ++ entries_text (first ∷ []) → two ≡ one ++ entries_text others → end ≡ two ++ entries_text (last ∷ [])
    → end ≡ written (record { title = title; objects = first ∷ (others ++ last ∷ []) })
whole title first others last start one two end is_start is_one is_two is_end =
    joined (first ∷ []) (others ++ last ∷ []) start one end (joined others (last ∷ []) one two end is_end is_two) is_one
    ∙ ap (λ text. text ++ entries_text (first ∷ (others ++ last ∷ []))) is_start
    ∙ sym (after_title title (first ∷ (others ++ last ∷ [])))
