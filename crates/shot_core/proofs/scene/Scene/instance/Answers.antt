use Rattle.std.proofs.Common.{rules, ◌≡◌, ◌<◌, ◌-◌, ◌∙◌, suc, length, get_or, slice_get, vec_len, ap, sym, subst, arith}
use Rattle.std.proofs.lemmas.List.{get_or_default}
use Rattle.shot_core.specs.Regions.{Region, RegionBody, instances_of, firsts_from}
use Rattle.shot_core.specs.Steps.{NeverFalls, no_region}
use Rattle.shot_core.proofs.Numbering.{firsts_length, firsts_rise, no_instance, found_instance, got}
use Rattle.shot_core.proofs.scene.Scene.instance.Goals as goal

pub count_up_to-count-requires : goal.count_up_to-count-requires
count_up_to-count-requires c =
    subst NeverFalls (sym (c.deref.ensures.value ∙ c.self.invariant.numbers)) (firsts_rise 0 c.self.inside.regions.items)

pub returns-then-count-eq0 : goal.returns-then-count-eq0
returns-then-count-eq0 c =
    no_instance c.self.inside.regions.items c.deref.result.now c.count_up_to-count.result c.args.number (c.deref.ensures.value ∙ c.self.invariant.numbers) c.if-count-eq0.true c.count_up_to-count.ensures.parted.1
    ∙ ap (λ rs. slice_get (instances_of rs) c.args.number) c.self.view_is

pub index-requires : goal.index-requires
index-requires c =
    let counted : vec_len c.self.inside.regions ≡ length c.self.inside.regions.items = search rules in
    omega (arith, counted, c.count_up_to-count.ensures.within, ap length (c.deref.ensures.value ∙ c.self.invariant.numbers), firsts_length 0 c.self.inside.regions.items, c.if-count-eq0.false)

pub returns : goal.returns
returns c =
    let next : c.count_up_to-count.result ≡ suc (c.count_up_to-count.result - 1) = omega (arith, c.if-count-eq0.false) in
    let firsts : c.self.inside.firsts.items ≡ firsts_from 0 c.self.inside.regions.items = c.self.invariant.numbers in
    let counted : length c.deref.result.now ≡ length c.self.inside.regions.items = ap length (c.deref.ensures.value ∙ firsts) ∙ firsts_length 0 c.self.inside.regions.items in
    let inside : c.count_up_to-count.result - 1 < length c.self.inside.regions.items = omega (arith, c.count_up_to-count.ensures.within, counted, next) in
    let inside' : c.count_up_to-count.result - 1 < length c.self.inside.firsts.items = omega (arith, inside, ap length firsts, firsts_length 0 c.self.inside.regions.items) in
    let first : c.index-2.result.now ≡ get_or (firsts_from 0 c.self.inside.regions.items) (c.count_up_to-count.result - 1) 0 =
    c.index-2.ensures ∙ get_or_default c.self.inside.firsts.items (c.count_up_to-count.result - 1) c.index-2.result.now 0 inside' ∙ ap (λ l. get_or l (c.count_up_to-count.result - 1) 0) firsts in
    let region : c.index.result.now ≡ get_or c.self.inside.regions.items (c.count_up_to-count.result - 1) no_region =
    c.index.ensures ∙ get_or_default c.self.inside.regions.items (c.count_up_to-count.result - 1) c.index.result.now no_region inside in
    got c.solids-solids.result.now (c.args.number - c.index-2.result.now) c.get.result c.get.ensures.lookup.3
    ∙ ap (λ l. slice_get l (c.args.number - c.index-2.result.now))
    (c.solids-solids.ensures.value ∙ ap (λ (b : RegionBody). b.instances) (c.deref-2.ensures ∙ c.body.ensures) ∙ ap (λ (r : Region). r.body.instances) region)
    ∙ ap (λ n. slice_get (get_or c.self.inside.regions.items (c.count_up_to-count.result - 1) no_region).body.instances (c.args.number - n)) first
    ∙ sym (found_instance c.self.inside.regions.items c.deref.result.now (c.count_up_to-count.result - 1) c.count_up_to-count.result c.args.number (c.deref.ensures.value ∙ firsts) next c.count_up_to-count.ensures.within
    c.count_up_to-count.ensures.parted.0 c.count_up_to-count.ensures.parted.1)
    ∙ ap (λ rs. slice_get (instances_of rs) c.args.number) c.self.view_is
