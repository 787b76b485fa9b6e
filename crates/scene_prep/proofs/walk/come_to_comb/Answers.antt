use Rattle.std.proofs.Common.{◌≡◌, ◌∙◌, ◌<◌, ◌-◌, ◌∷◌, [], length, ap, sym, subst, arith}
use Rattle.std.specs.Prelude.{All}
use Rattle.std.proofs.lemmas.Bool.{eqb-true, eqb-false}
use Rattle.std.proofs.lemmas.Result.{IfOk-weaker}
use Rattle.scene_prep.specs.Expanding.{expanded}
use Rattle.scene_prep.specs.Regions.{whole_region}
use Rattle.scene_prep.specs.Levels.{StandsWithin}
use Rattle.scene_prep.specs.Walking.{contents_in, settled_in}
use Rattle.scene_prep.proofs.Counting.{name_some}
use Rattle.scene_prep.proofs.Settling.{adds_none}
use Rattle.scene_prep.proofs.Sizing.{some_of}
use Rattle.scene_prep.proofs.Tasks.{near_nodes, name_done, parts_left}
use Rattle.scene_prep.proofs.Walking.{empty_regions, comb_facts, region_contents, nodes_few}
use Rattle.scene_prep.proofs.walk.come_to_comb.Goals as goal

pub returns-then-is_empty-clause-regions : goal.returns-then-is_empty-clause-regions
returns-then-is_empty-clause-regions c =
    let none : length c.args.nodes.now ≡ 0 = eqb-true (length c.args.nodes.now) 0 (sym c.is_empty.ensures ∙ c.if-is_empty.true) in
    name_done c.args.directory.now.objects c.args.name.now c.args.context.now c.args.walk.now c.args.walk.now c.args.tasks.now.items [] (adds_none c.args.walk.now)
    (ap (contents_in c.args.context.now) (sym (empty_regions c.args.directory.now.objects c.args.name.now c.args.attr.now c.args.nodes.now c.requires.sound c.requires.there none)))

pub come_to_region-requires-clause-deep : goal.come_to_region-requires-clause-deep
come_to_region-requires-clause-deep c =
    let some : 0 < length c.args.nodes.now = some_of (length c.args.nodes.now) (eqb-false (length c.args.nodes.now) 0 (sym c.is_empty.ensures ∙ c.if-is_empty.false)) in
    let f = comb_facts c.args.directory.now.objects c.args.context.now.levels c.args.name.now c.args.attr.now c.args.nodes.now c.requires.sound c.requires.shallow c.requires.there some in
    omega (arith, f.deep, c.in_ok-within.ensures.levels)

pub come_to_region-requires-clause-within : goal.come_to_region-requires-clause-within
come_to_region-requires-clause-within c =
    let some : 0 < length c.args.nodes.now = some_of (length c.args.nodes.now) (eqb-false (length c.args.nodes.now) 0 (sym c.is_empty.ensures ∙ c.if-is_empty.false)) in
    let f = comb_facts c.args.directory.now.objects c.args.context.now.levels c.args.name.now c.args.attr.now c.args.nodes.now c.requires.sound c.requires.shallow c.requires.there some in
    subst (λ n. All (StandsWithin c.args.directory.now.objects (n - 1)) c.args.nodes.now) (sym c.in_ok-within.ensures.levels) f.within

pub come_to_region-requires-clause-size : goal.come_to_region-requires-clause-size
come_to_region-requires-clause-size c =
    let some : 0 < length c.args.nodes.now = some_of (length c.args.nodes.now) (eqb-false (length c.args.nodes.now) 0 (sym c.is_empty.ensures ∙ c.if-is_empty.false)) in
    let f = comb_facts c.args.directory.now.objects c.args.context.now.levels c.args.name.now c.args.attr.now c.args.nodes.now c.requires.sound c.requires.shallow c.requires.there some in
    omega (arith, f.size, c.requires.room)

pub come_to_region-requires-clause-room : goal.come_to_region-requires-clause-room
come_to_region-requires-clause-room c = omega (arith, c.requires.room, name_some c.args.directory.now.objects c.args.name.now)

pub returns-then-attr-clause-regions : goal.returns-then-attr-clause-regions
returns-then-attr-clause-regions c =
    let some : 0 < length c.args.nodes.now = some_of (length c.args.nodes.now) (eqb-false (length c.args.nodes.now) 0 (sym c.is_empty.ensures ∙ c.if-is_empty.false)) in
    let f = comb_facts c.args.directory.now.objects c.args.context.now.levels c.args.name.now c.args.attr.now c.args.nodes.now c.requires.sound c.requires.shallow c.requires.there some in
    IfOk-weaker c.come_to_region.result _ _
    (λ _ h. name_done c.args.directory.now.objects c.args.name.now c.args.context.now c.args.walk.now c.come_to_region.new.self c.args.tasks.now.items
    (settled_in c.in_ok-within.within (whole_region (expanded c.args.directory.now.objects) c.args.attr.now f.has.tree) ∷ []) (h f.has.tree f.has.nodes_are)
    (region_contents c.args.directory.now.objects c.args.context.now c.in_ok-within.within c.args.name.now c.args.attr.now c.args.nodes.now c.requires.sound f.has c.in_ok-within.ensures c.if-attr.true))
    c.come_to_region.ensures.regions

pub push_parts-requires-clause-few : goal.push_parts-requires-clause-few
push_parts-requires-clause-few c =
    let some : 0 < length c.args.nodes.now = some_of (length c.args.nodes.now) (eqb-false (length c.args.nodes.now) 0 (sym c.is_empty.ensures ∙ c.if-is_empty.false)) in
    let f = comb_facts c.args.directory.now.objects c.args.context.now.levels c.args.name.now c.args.attr.now c.args.nodes.now c.requires.sound c.requires.shallow c.requires.there some in
    omega (arith, nodes_few c.args.directory.now.objects f.has.tree c.args.nodes.now f.has.nodes_are, f.size, c.requires.room)

pub push_parts-requires-clause-tree : goal.push_parts-requires-clause-tree
push_parts-requires-clause-tree c =
    let some : 0 < length c.args.nodes.now = some_of (length c.args.nodes.now) (eqb-false (length c.args.nodes.now) 0 (sym c.is_empty.ensures ∙ c.if-is_empty.false)) in
    let f = comb_facts c.args.directory.now.objects c.args.context.now.levels c.args.name.now c.args.attr.now c.args.nodes.now c.requires.sound c.requires.shallow c.requires.there some in
    (f.has.tree, f.has.nodes_are)

pub push_parts-requires-clause-deep : goal.push_parts-requires-clause-deep
push_parts-requires-clause-deep c =
    let some : 0 < length c.args.nodes.now = some_of (length c.args.nodes.now) (eqb-false (length c.args.nodes.now) 0 (sym c.is_empty.ensures ∙ c.if-is_empty.false)) in
    let f = comb_facts c.args.directory.now.objects c.args.context.now.levels c.args.name.now c.args.attr.now c.args.nodes.now c.requires.sound c.requires.shallow c.requires.there some in
    omega (arith, f.deep, c.in_ok-within.ensures.levels)

pub push_parts-requires-clause-near : goal.push_parts-requires-clause-near
push_parts-requires-clause-near c =
    let some : 0 < length c.args.nodes.now = some_of (length c.args.nodes.now) (eqb-false (length c.args.nodes.now) 0 (sym c.is_empty.ensures ∙ c.if-is_empty.false)) in
    let f = comb_facts c.args.directory.now.objects c.args.context.now.levels c.args.name.now c.args.attr.now c.args.nodes.now c.requires.sound c.requires.shallow c.requires.there some in
    near_nodes c.args.directory.now.objects (c.args.context.now.levels - 1) c.args.nodes.now f.within

pub returns-clause-regions : goal.returns-clause-regions
returns-clause-regions c =
    let some : 0 < length c.args.nodes.now = some_of (length c.args.nodes.now) (eqb-false (length c.args.nodes.now) 0 (sym c.is_empty.ensures ∙ c.if-is_empty.false)) in
    let f = comb_facts c.args.directory.now.objects c.args.context.now.levels c.args.name.now c.args.attr.now c.args.nodes.now c.requires.sound c.requires.shallow c.requires.there some in
    IfOk-weaker c.push_parts.result _ _
    (λ _ h. parts_left c.args.directory.now.objects c.args.context.now c.in_ok-within.within c.args.name.now c.args.attr.now c.args.nodes.now c.args.walk.now c.args.tasks.now.items c.push_parts.new.tasks.items
    c.requires.sound f c.in_ok-within.ensures c.if-attr.false h)
    c.push_parts.ensures
