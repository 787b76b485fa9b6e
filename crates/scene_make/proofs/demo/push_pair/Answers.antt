use Rattle.std.proofs.Common.{◌++◌, ◌∷◌, [], ◌∙◌, rules, ap}
use Rattle.std.proofs.lemmas.Result.{on_ok_weaker}
use Rattle.std.proofs.lemmas.Int.{to_z-of_z}
use mir.Val.{SFits}
use mir.Syntax.{w64}
use Rattle.scene_make.specs.Demo.{drawn_colour, drawn_radius, drawn_turn, region_name, region_of, sphere_name, sphere_of}
use Rattle.scene_make.specs.Steps.{entries_text}
use Rattle.scene_make.proofs.TextLaws.{joined, same_entry}
use Rattle.scene_make.proofs.demo.push_pair.Goals as goal

pub returns-clause-text : goal.returns-clause-text
returns-clause-text c =
    let x = c.args.draws.now.last in
    let i = c.args.i in
    let fits : SFits w64 c.sphere-drawn.result.radius = search rules in
    let radius = to_z-of_z w64 c.sphere-drawn.result.radius fits ∙ c.sphere-drawn.ensures.radius in
    let sphere = c.sphere.ensures ∙ ap (sphere_of i) radius in
    let region = c.in_ok-region.ensures ∙ ap (λ t. region_of i t c.sphere-drawn.result.colour) c.sphere-drawn.ensures.turn ∙ ap (region_of i (drawn_turn x)) c.sphere-drawn.ensures.colour in
    let first = c.in_ok-push_object.ensures ∙ ap (λ es. c.args.text.now.items ++ entries_text es) (same_entry _ _ _ _ c.sphere_name.ensures sphere) in
    on_ok_weaker c.push_object-3.result
    (λ e.
    joined ((sphere_name i, sphere_of i (drawn_radius x)) ∷ []) ((region_name i, region_of i (drawn_turn x) (drawn_colour x)) ∷ []) c.args.text.now.items c.push_object-2.new.text.items c.push_object-3.new.text.items
    (e ∙ ap (λ es. c.push_object-2.new.text.items ++ entries_text es) (same_entry _ _ _ _ c.region_name.ensures region)) first)
    c.push_object-3.ensures
