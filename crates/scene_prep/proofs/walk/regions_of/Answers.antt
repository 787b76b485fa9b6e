use Rattle.std.proofs.Common.{◌≡◌, ◌∙◌, ◌∷◌, [], length, take, ap, sym, subst, arith}
use Rattle.std.proofs.Math.Seq.{take-length}
use Rattle.std.proofs.lemmas.List.{append-nil}
use Rattle.scene_prep.specs.declared.walk.Task.TheVariants as tasks
use Rattle.scene_prep.specs.Regions.{regions_of, regions_of_name}
use Rattle.scene_prep.specs.Sizes.{most_size}
use Rattle.scene_prep.specs.Walking.{contents_in, Adds, pending}
use Rattle.shot_core.specs.Regions.{IsScene}
use Rattle.scene_prep.proofs.Scening.{scene_sound}
use Rattle.scene_prep.proofs.Settling.{adds_more, adds_same}
use Rattle.scene_prep.proofs.Tasks.{given_alone, given_sound, given_size, given_contents}
use Rattle.scene_prep.proofs.Walking.{next_contents, room_next, all_come}
use Rattle.scene_prep.proofs.walk.regions_of.Goals as goal

pub loop-name-init : goal.loop-name-init
loop-name-init c = record {
  regions = sym (append-nil c.new-walk.result.regions.items);
  none = c.new-tasks.ensures.items;
  known = c.new-walk.ensures.known c.args.directory.now.objects;
}

pub come_to_all-requires-clause-tasks : goal.come_to_all-requires-clause-tasks
come_to_all-requires-clause-tasks c =
    let alone : c.push.new.self.items ≡ tasks.Name c.name-item.result c.in_ok-share.field-0 ∷ [] =
    given_alone c.loop-name.tasks.items c.push.new.self.items (tasks.Name c.name-item.result c.in_ok-share.field-0) c.loop-name.invariant.none c.in_ok-push.ensures.items in
    given_sound c.args.directory.now.objects c.in_ok-top.top c.in_ok-share.field-0 c.name-item.result c.push.new.self.items c.in_ok-share.ensures
    (λ w walk. omega (arith, c.len-count.ensures.sound.shallow (c.name-item.result ∷ w) walk, c.in_ok-top.ensures.levels)) alone

pub come_to_all-requires-clause-room : goal.come_to_all-requires-clause-room
come_to_all-requires-clause-room c =
    let alone : c.push.new.self.items ≡ tasks.Name c.name-item.result c.in_ok-share.field-0 ∷ [] =
    given_alone c.loop-name.tasks.items c.push.new.self.items (tasks.Name c.name-item.result c.in_ok-share.field-0) c.loop-name.invariant.none c.in_ok-push.ensures.items in
    omega (
      arith,
      given_size c.args.directory.now.objects c.in_ok-top.top c.in_ok-share.field-0 c.name-item.result c.push.new.self.items alone,
      room_next c.args.directory.now.objects c.in_ok-top.top c.new-walk.result c.loop-name.walk c.args.names.now c.loop-name.name-index most_size c.name-item.result c.loop-name-test.true c.name-item.is c.new-walk.ensures.regions
          c.loop-name.invariant.regions c.requires,
    )

pub loop-name-preserved : goal.loop-name-preserved
loop-name-preserved c =
    let alone : c.push.new.self.items ≡ tasks.Name c.name-item.result c.in_ok-share.field-0 ∷ [] =
    given_alone c.loop-name.tasks.items c.push.new.self.items (tasks.Name c.name-item.result c.in_ok-share.field-0) c.loop-name.invariant.none c.in_ok-push.ensures.items in
    let added : Adds c.loop-name.walk c.come_to_all.new.walk (contents_in c.in_ok-top.top (regions_of_name c.args.directory.now.objects c.name-item.result)) =
    adds_same c.loop-name.walk c.come_to_all.new.walk (pending c.args.directory.now.objects c.push.new.self.items) (contents_in c.in_ok-top.top (regions_of_name c.args.directory.now.objects c.name-item.result))
    (given_contents c.args.directory.now.objects c.in_ok-top.top c.in_ok-share.field-0 c.name-item.result c.push.new.self.items c.in_ok-share.ensures alone) c.in_ok-come_to_all.ensures.regions in record {
      regions = adds_same c.new-walk.result c.come_to_all.new.walk _ _
          (next_contents c.args.directory.now.objects c.in_ok-top.top c.args.names.now c.loop-name.name-index c.name-item.result c.loop-name-test.true c.name-item.is)
          (adds_more c.new-walk.result c.loop-name.walk c.come_to_all.new.walk (contents_in c.in_ok-top.top (regions_of c.args.directory.now.objects (take c.loop-name.name-index c.args.names.now)))
          (contents_in c.in_ok-top.top (regions_of_name c.args.directory.now.objects c.name-item.result)) c.loop-name.invariant.regions added);
      none = c.in_ok-come_to_all.ensures.none;
      known = c.in_ok-come_to_all.ensures.known;
    }

pub returns-clause-regions : goal.returns-clause-regions
returns-clause-regions c =
    let end : c.loop-name.name-index ≡ length c.args.names.now = omega arith in
    let whole : take c.loop-name.name-index c.args.names.now ≡ c.args.names.now = ap (λ n. take n c.args.names.now) end ∙ take-length c.args.names.now in
    all_come c.args.directory.now.objects c.in_ok-top.top c.new-walk.result c.loop-name.walk c.args.names.now c.in_ok-top.ensures c.new-walk.ensures.regions
    (subst (λ ns. Adds c.new-walk.result c.loop-name.walk (contents_in c.in_ok-top.top (regions_of c.args.directory.now.objects ns))) whole c.loop-name.invariant.regions)

pub returns-clause-sound : goal.returns-clause-sound
returns-clause-sound c =
    let end : c.loop-name.name-index ≡ length c.args.names.now = omega arith in
    let whole : take c.loop-name.name-index c.args.names.now ≡ c.args.names.now = ap (λ n. take n c.args.names.now) end ∙ take-length c.args.names.now in
    subst IsScene (sym (all_come c.args.directory.now.objects c.in_ok-top.top c.new-walk.result c.loop-name.walk c.args.names.now c.in_ok-top.ensures c.new-walk.ensures.regions
    (subst (λ ns. Adds c.new-walk.result c.loop-name.walk (contents_in c.in_ok-top.top (regions_of c.args.directory.now.objects ns))) whole c.loop-name.invariant.regions)))
    (scene_sound c.args.directory.now.objects c.args.names.now c.requires)
