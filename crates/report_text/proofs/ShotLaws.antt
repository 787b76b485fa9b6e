-- The line of a part of a ray is one line, and what it is made of.
use Rattle.std.proofs.Common.{◌≡◌, ◌≢◌, ◌<◌, ◌++◌, ◌∙◌, ℕ, pos, zero, suc, ap, Bool, true, false, cond, List, [], ◌∷◌, Option, Some, get_or, length, codes, refl, sym, arith, decimal}
use Rattle.std.specs.Fmt.{signed_decimal}
use Rattle.std.specs.List.{slice_get}
use Rattle.std.specs.Ordering.{int_eq}
use Rattle.std.proofs.lemmas.List.Elements.{All-head, All-tail}
use Rattle.transcript.specs.Lines.{Lacks}
use Rattle.transcript.proofs.LineLaws.{lacks_append}
use Rattle.transcript.proofs.TranscriptLaws.{computed}
pub use Rattle.put_form.proofs.OneLine.{number_lacks, signed_lacks}
use Rattle.surd_order.specs.Text.{sign_text, position_text}
use Rattle.surd_order.specs.declared.position.Pos.{Pos}
use Rattle.surd_order.specs.declared.position.Pos.TheVariants.{Frac, Surd}
use Rattle.shot_core.specs.Regions.{Region, IsPathText}
use Rattle.shot_core.specs.declared.shot.Lit.{Lit}
use Rattle.report_text.specs.Shots.{part_line, line_in}

pub either_lacks : (b : Bool) (xs ys : List ℕ) → Lacks 10 xs → Lacks 10 ys → Lacks 10 (cond b xs ys)
either_lacks true xs ys h k = h
either_lacks false xs ys h k = k

sign_lacks : (plus : Bool) → Lacks 10 (sign_text plus)
sign_lacks true = computed 10 (codes "+") refl
sign_lacks false = computed 10 (codes "-") refl

pub position_lacks : (place : Pos) → Lacks 10 (position_text place)
position_lacks (Frac p q) =
    either_lacks (int_eq q (pos 1)) _ _ (signed_lacks p)
    (lacks_append 10 (signed_decimal p ++ codes "/") (signed_decimal q) (lacks_append 10 (signed_decimal p) (codes "/") (signed_lacks p) (computed 10 (codes "/") refl)) (signed_lacks q))
position_lacks (Surd a plus k) =
    let sign : Lacks 10 (signed_decimal a ++ sign_text plus) = lacks_append 10 (signed_decimal a) (sign_text plus) (signed_lacks a) (sign_lacks plus) in
    let root : Lacks 10 (signed_decimal a ++ sign_text plus ++ codes "sqrt(") = lacks_append 10 _ (codes "sqrt(") sign (computed 10 (codes "sqrt(") refl) in
    let number : Lacks 10 (signed_decimal a ++ sign_text plus ++ codes "sqrt(" ++ decimal k) = lacks_append 10 _ (decimal k) root (number_lacks k) in
    lacks_append 10 _ (codes ")") number (computed 10 (codes ")") refl)

pub path_lacks : (path : List ℕ) → IsPathText path → Lacks 10 path
path_lacks [] h = tt
path_lacks (b ∷ bs) h = (All-head (λ byte. byte ≢ 10) b bs h, path_lacks bs (All-tail (λ byte. byte ≢ 10) b bs h))

pub after_blank : (text : List ℕ) → Lacks 10 text → Lacks 10 (codes " " ++ text)
after_blank text h = lacks_append 10 (codes " ") text (computed 10 (codes " ") refl) h

-- the line of a part has no line feed, where the region's path has none
pub part_one_line : (region : Region) (lit : Lit) → Lacks 10 region.path → Lacks 10 (part_line region lit)
part_one_line region lit h =
    lacks_append 10 (decimal region.place) _ (number_lacks region.place)
    (after_blank _ (lacks_append 10 region.path _ h
    (after_blank _ (lacks_append 10 (position_text lit.start) _ (position_lacks lit.start) (after_blank _ (position_lacks lit.end))))))

pub part_lacks : (region : Region) (lit : Lit) → IsPathText region.path → Lacks 10 (part_line region lit)
part_lacks region lit h = part_one_line region lit (path_lacks region.path h)

-- what a list has at a place within it
pub get_at : {X : Type 0} (xs : List X) (i : ℕ) (d : X) → i < length xs → slice_get xs i ≡ Some (get_or xs i d)
get_at [] i d lt = absurd (omega (arith, lt))
get_at (x ∷ xs) zero d lt = refl
get_at (x ∷ xs) (suc i) d lt = get_at xs i d (omega (arith, lt))

-- the line of a part, by its region among the scene's
abbrev pub lit_line : List Region → Lit → List ℕ
lit_line regions lit = line_in (slice_get regions lit.region) lit

pub lit_line_is : (regions lent : List Region) (lit : Lit) (region : Region) (line : List ℕ) → lit.region < length regions → lent ≡ regions → region ≡ get_or lent lit.region region → line ≡ part_line region lit
    → line ≡ lit_line regions lit
lit_line_is regions lent lit region line lt same at is =
    is ∙ ap (λ (o : Option Region). line_in o lit) (sym (get_at regions lit.region region lt ∙ ap Some (sym (at ∙ ap (λ (rs : List Region). get_or rs lit.region region) same))))
