use Rattle.std.proofs.Common.{◌≡◌, ◌<◌, ◌-◌, ◌∙◌, List, IfSome, suc, length, slice_get, ap, sym, subst, arith}
use Rattle.shot_core.specs.Regions.{Region, instances_of}
use Rattle.shot_core.specs.Steps.{NeverFalls, owned_from}
use Rattle.shot_core.proofs.Claiming.{regions_within}
use Rattle.shot_core.proofs.Numbering.{firsts_length, firsts_rise}
use Rattle.shot_core.proofs.Reaching.{found_owner, some_before}
use Rattle.shot_core.proofs.scene.Scene.owner.Goals as goal

pub count_up_to-count-requires : goal.count_up_to-count-requires
count_up_to-count-requires c =
    subst NeverFalls (sym (c.deref.ensures.value ∙ c.self.invariant.numbers)) (firsts_rise 0 c.self.inside.regions.items)

pub overflow_sub-result : goal.overflow_sub-result
overflow_sub-result c =
    let rs = c.self.inside.regions.items in
    let there : c.args.number < length (instances_of rs) = omega (arith, c.requires, ap (λ (l : List Region). length (instances_of l)) c.self.view_is) in
    some_before rs c.deref.result.now c.count_up_to-count.result c.args.number (c.deref.ensures.value ∙ c.self.invariant.numbers) there c.count_up_to-count.ensures.parted.1

pub overflow_cast-result : goal.overflow_cast-result
overflow_cast-result c =
    let rs = c.self.inside.regions.items in
    omega (arith, c.count_up_to-count.ensures.within, ap length (c.deref.ensures.value ∙ c.self.invariant.numbers), firsts_length 0 rs, regions_within rs, c.self.invariant.sound.size)

pub returns : goal.returns
returns c =
    let rs = c.self.inside.regions.items in
    let count = c.count_up_to-count.result in
    let firsts = c.deref.ensures.value ∙ c.self.invariant.numbers in
    let there : c.args.number < length (instances_of rs) = omega (arith, c.requires, ap (λ (l : List Region). length (instances_of l)) c.self.view_is) in
    let some = some_before rs c.deref.result.now count c.args.number firsts there c.count_up_to-count.ensures.parted.1 in
    let next : count ≡ suc (count - 1) = omega (arith, some) in
    subst (λ (l : List Region). IfSome (slice_get (owned_from 0 l) c.args.number) (λ z. z.0 ≡ count - 1)) c.self.view_is
    (found_owner rs c.deref.result.now (count - 1) count c.args.number firsts next c.count_up_to-count.ensures.within there c.count_up_to-count.ensures.parted.0 c.count_up_to-count.ensures.parted.1)
