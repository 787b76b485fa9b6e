use Rattle.std.proofs.Common.{◌≡◌, ◌∙◌, length, map, ap, sym, subst, List}
use Rattle.std.proofs.lemmas.Result.{IfOk-weaker}
use Rattle.first_hit.specs.declared.near.Near.{Near}
use Rattle.shot_core.specs.FirstShots.{IsOrderOf}
use Rattle.first_hit.specs.NearFirst.{AreNears, IsNearestFirst}
use Rattle.first_hit.proofs.NearFirst.{nearest_first, nears_permuted}
use Rattle.first_hit.proofs.near.near_order.Goals as goal

pub returns : goal.returns
returns c =
    let name : Near → _ = λ n. n.region in
    let count = length c.args.scene.now in
    let sorted : List Near = c.sort_unstable.new.self.items in
    let numbers : map name c.deref.result.now ≡ map name sorted = ap (map name) c.deref.ensures.value in
    let are : AreNears c.args.dir c.args.scene.now count sorted = nears_permuted c.args.dir c.args.scene.now count c.in_ok-nears.nears.items sorted c.sort_unstable.ensures.permutation c.in_ok-nears.ensures in
    let first = nearest_first c.args.dir c.args.scene.now count sorted are c.sort_unstable.ensures.sorted in
    record {
      order = IfOk-weaker c.regions_of.result (λ v. v.items ≡ map name c.deref.result.now) (λ v. IsOrderOf count v.items) (λ v h. subst (IsOrderOf count) (sym (h ∙ numbers)) are.order) c.regions_of.ensures;
      nearest = IfOk-weaker c.regions_of.result (λ v. v.items ≡ map name c.deref.result.now) (λ v. IsNearestFirst c.args.dir c.args.scene.now v.items) (λ v h. subst (IsNearestFirst c.args.dir c.args.scene.now) (sym (h ∙ numbers)) first) c.regions_of.ensures;
    }
