-- The line of a part of a ray in a lattice direction is one line, and along an axis it is that of the plain ray.
use Rattle.std.proofs.Common.{◌≡◌, ◌<◌, ◌==◌, ◌++◌, ◌∙◌, ℕ, ap, List, [], ◌∷◌, Option, Some, None, get_or, length, map, codes, refl, sym, decimal}
use Rattle.std.specs.List.{slice_get}
use Rattle.transcript.specs.Lines.{Lacks}
use Rattle.transcript.proofs.LineLaws.{lacks_append}
use Rattle.transcript.proofs.TranscriptLaws.{computed}
use Rattle.surd_order.specs.Text.{position_text}
use Rattle.surd_order.specs.declared.position.Pos.{Pos}
use Rattle.surd_order.specs.declared.position.Pos.TheVariants.{Frac, Surd}
use Rattle.surd_quot.specs.Text.{over_text, quotient_text}
use Rattle.surd_quot.specs.Positions.{as_quotient_position}
use Rattle.surd_quot.specs.declared.position.QPos.{QPos}
use Rattle.surd_quot.specs.declared.position.QPos.TheVariants as quotient
use Rattle.shot_core.specs.Regions.{Region, IsPathText}
use Rattle.shot_core.specs.declared.shot.Lit.{Lit}
use Rattle.oblique_ray.specs.declared.slab.Slab.{Slab}
use Rattle.oblique_ray.specs.Shots.{slab_of_lit}
use Rattle.report_text.specs.Shots.{line_in}
use Rattle.report_text.specs.Slants.{slab_line, slab_line_in, slant_lines, LinesAlongAxes}
use Rattle.report_text.proofs.ShotLaws.{number_lacks, position_lacks, path_lacks, after_blank, either_lacks, get_at}

over_lacks : (dividend : List ℕ) (q : ℕ) → Lacks 10 dividend → Lacks 10 (over_text dividend q)
over_lacks dividend q h =
    let opened : Lacks 10 (codes "(" ++ dividend) = lacks_append 10 (codes "(") dividend (computed 10 (codes "(") refl) h in
    let closed : Lacks 10 (codes "(" ++ dividend ++ codes ")/") = lacks_append 10 (codes "(" ++ dividend) (codes ")/") opened (computed 10 (codes ")/") refl) in
    either_lacks (q == 1) dividend _ h (lacks_append 10 (codes "(" ++ dividend ++ codes ")/") (decimal q) closed (number_lacks q))

quotient_lacks : (place : QPos) → Lacks 10 (quotient_text place)
quotient_lacks (quotient.Frac p q) = position_lacks (Frac p q)
quotient_lacks (quotient.Quot a plus k q) = over_lacks (position_text (Surd a plus k)) q (position_lacks (Surd a plus k))

-- the line of a part has no line feed, where the region's path has none
pub slab_one_line : (region : Region) (slab : Slab) → Lacks 10 region.path → Lacks 10 (slab_line region slab)
slab_one_line region slab h =
    lacks_append 10 (decimal region.place) _ (number_lacks region.place)
    (after_blank _ (lacks_append 10 region.path _ h
    (after_blank _ (lacks_append 10 (quotient_text slab.start) _ (quotient_lacks slab.start) (after_blank _ (quotient_lacks slab.end))))))

pub slab_lacks : (region : Region) (slab : Slab) → IsPathText region.path → Lacks 10 (slab_line region slab)
slab_lacks region slab h = slab_one_line region slab (path_lacks region.path h)

-- the line of a part, by its region among the scene's
abbrev pub line_of_slab : List Region → Slab → List ℕ
line_of_slab regions slab = slab_line_in (slice_get regions slab.region) slab

pub line_of_slab_is : (regions lent : List Region) (slab : Slab) (region : Region) (line : List ℕ) → slab.region < length regions → lent ≡ regions → region ≡ get_or lent slab.region region → line ≡ slab_line region slab
    → line ≡ line_of_slab regions slab
line_of_slab_is regions lent slab region line lt same at is =
    is ∙ ap (λ (o : Option Region). slab_line_in o slab) (sym (get_at regions slab.region region lt ∙ ap Some (sym (at ∙ ap (λ (rs : List Region). get_or rs slab.region region) same))))

-- a position is written as the quotient of itself by 1 is
same_text : (place : Pos) → quotient_text (as_quotient_position place) ≡ position_text place
same_text (Frac p q) = refl
same_text (Surd a plus k) = refl

same_line : (found : Option Region) (lit : Lit) → slab_line_in found (slab_of_lit lit) ≡ line_in found lit
same_line None lit = refl
same_line (Some region) lit =
    ap (λ (text : List ℕ). decimal region.place ++ (codes " " ++ (region.path ++ (codes " " ++ (text ++ (codes " " ++ quotient_text (as_quotient_position lit.end))))))) (same_text lit.start)
    ∙ ap (λ (text : List ℕ). decimal region.place ++ (codes " " ++ (region.path ++ (codes " " ++ (position_text lit.start ++ (codes " " ++ text)))))) (same_text lit.end)

pub same_lines : LinesAlongAxes
same_lines regions [] = refl
same_lines regions (l ∷ ls) =
    ap (λ (line : List ℕ). line ∷ slant_lines regions (map slab_of_lit ls)) (same_line (slice_get regions l.region) l)
    ∙ ap (λ (lines : List (List ℕ)). line_in (slice_get regions l.region) l ∷ lines) (same_lines regions ls)
