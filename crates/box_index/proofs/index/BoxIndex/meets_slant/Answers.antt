use Rattle.std.proofs.Common.{◌∙◌, ◌&&◌, IsTrue, List, subst, sym}
use Rattle.std.proofs.lemmas.Result.{IfOk-weaker}
use Rattle.slant_ray.specs.Rays.{direction_of}
use Rattle.lattice_core.specs.declared.boxes.Box3.{Box3}
use Rattle.box_index.specs.declared.line.Line.{Line}
use Rattle.box_index.specs.Reaches.{has_points}
use Rattle.box_index.specs.Places.{ArePlacesOf}
use Rattle.box_index.specs.Lines.{MeetsSlant, IsLine, is_crossed, whole_line, line_of}
use Rattle.box_index.proofs.Crossing.{is_line_of, slant_tells}
use Rattle.box_index.proofs.Listing.{places_alike}
use Rattle.box_index.proofs.index.BoxIndex.meets_slant.Goals as goal

pub find_crossed-requires-clause-line : goal.find_crossed-requires-clause-line
find_crossed-requires-clause-line c =
    let ray = c.args.ray.now in
    subst IsLine (sym c.of.ensures) (is_line_of ray.origin (direction_of ray) c.requires.direction)

pub returns : goal.returns
returns c =
    let ray = c.args.ray.now in
    let out = c.find_crossed.new.out.items in
    let line = line_of ray.origin (direction_of ray) in
    IfOk-weaker c.find_crossed.result _ _
    (λ v h.
    places_alike (λ b. IsTrue (has_points b && is_crossed line whole_line b)) (λ b. MeetsSlant b ray.origin (direction_of ray)) c.args.self.now out
    (slant_tells ray.origin (direction_of ray) c.requires.direction)
    (subst (λ (bs : List Box3). ArePlacesOf (λ b. IsTrue (has_points b && is_crossed line whole_line b)) bs out) (c.deref-2.ensures.value ∙ c.self.view_is)
    (subst (λ (l : Line). ArePlacesOf (λ b. IsTrue (has_points b && is_crossed l whole_line b)) c.deref-2.result.now out) c.of.ensures h)))
    c.find_crossed.ensures
