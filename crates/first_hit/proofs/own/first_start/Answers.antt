use Rattle.std.proofs.Common.{◌≡◌, ◌∙◌, None, ap, sym, subst}
use Rattle.std.proofs.lemmas.List.{drop_all}
use Rattle.bool_weave.specs.Behind.{claims_behind}
use Rattle.first_hit.specs.FirstSteps.{earliest_of, IsFirstClaim}
use Rattle.first_hit.proofs.FirstSearch.{first_claim}
use Rattle.first_hit.proofs.own.first_start.Goals as goal

pub returns : goal.returns
returns c =
    let claims = claims_behind c.args.own.now c.args.body.now.tree c.args.first in
    let is : earliest_of (claims_behind c.args.own.now c.args.body.now.tree c.args.first) None c.args.own.now ≡ c.loop-one.best =
    sym c.loop-one.invariant.value ∙ ap (earliest_of (claims_behind c.args.own.now c.args.body.now.tree c.args.first) c.loop-one.best) (drop_all c.loop-one.one-index c.args.own.now c.loop-one-test.false) in
    subst (IsFirstClaim c.args.own.now c.args.body.now.tree c.args.first) is
    (first_claim c.args.own.now c.args.body.now.tree c.args.first _ c.requires)
