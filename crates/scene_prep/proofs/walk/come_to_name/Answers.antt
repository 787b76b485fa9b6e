use Rattle.std.proofs.Common.{◌≡◌, ◌∙◌, ◌∷◌, [], Some, None, ap, sym, arith, rules}
use Rattle.std.specs.Option.{option_copied}
use Rattle.std.proofs.lemmas.Result.{IfOk-weaker}
use Rattle.object_set.specs.declared.object.Body.TheVariants.{Solid}
use Rattle.directory.specs.Walks.{object_of}
use Rattle.scene_prep.specs.Regions.{solid_region}
use Rattle.scene_prep.specs.Walking.{contents_in, settled_in, HasBody}
use Rattle.scene_prep.proofs.Counting.{name_some}
use Rattle.scene_prep.proofs.Settling.{adds_none}
use Rattle.scene_prep.proofs.Tasks.{name_done}
use Rattle.scene_prep.proofs.Walking.{missing_regions, solid_regions}
use Rattle.scene_prep.proofs.walk.come_to_name.Goals as goal

pub come_to_solid-requires-clause-room : goal.come_to_solid-requires-clause-room
come_to_solid-requires-clause-room c = omega (arith, c.requires.room, name_some c.args.directory.now.objects c.args.name.now)

pub returns-in-Solid-clause-regions : goal.returns-in-Solid-clause-regions
returns-in-Solid-clause-regions c =
    let is : object_of c.args.directory.now.objects c.args.name.now ≡ Some c.in-Some.object.now = sym c.get.ensures ∙ ap option_copied c.in-Some.is in
    let at : c.in-Some.object.now.body ≡ Solid c.in-Solid.solid = search rules in
    let there : HasBody c.args.directory.now.objects c.args.name.now (Solid c.in-Solid.solid) = record { object = c.in-Some.object.now; there = is; body_is = at } in
    IfOk-weaker c.come_to_solid.result _ _
    (λ _ h. name_done c.args.directory.now.objects c.args.name.now c.args.context.now c.args.walk.now c.come_to_solid.new.self c.args.tasks.now.items
    (settled_in c.args.context.now (solid_region c.args.name.now c.in-Solid.solid) ∷ []) h
    (ap (contents_in c.args.context.now) (sym (solid_regions c.args.directory.now.objects c.args.name.now c.in-Solid.solid c.requires.sound there))))
    c.come_to_solid.ensures.regions

pub returns-in-None-clause-regions : goal.returns-in-None-clause-regions
returns-in-None-clause-regions c =
    let is : object_of c.args.directory.now.objects c.args.name.now ≡ None = sym c.get.ensures ∙ ap option_copied c.in-None.is in
    name_done c.args.directory.now.objects c.args.name.now c.args.context.now c.args.walk.now c.args.walk.now c.args.tasks.now.items [] (adds_none c.args.walk.now)
    (ap (contents_in c.args.context.now) (sym (missing_regions c.args.directory.now.objects c.args.name.now c.requires.sound is)))
