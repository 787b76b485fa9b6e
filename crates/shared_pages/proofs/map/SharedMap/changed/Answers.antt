use Rattle.std.proofs.lemmas.Result.{IfOk-weaker}
use Rattle.shared_pages.proofs.OpenLemmas.{closed_gives}
use Rattle.shared_pages.proofs.map.SharedMap.changed.Goals as goal

pub returns : goal.returns
returns g c =
    IfOk-weaker c.close.result _ _
    (λ m gives. closed_gives c.args.self m c.in_ok-open.open c.args.name.now c.args.value c.in_ok-open.ensures.map c.in_ok-open.ensures.name gives)
    c.close.ensures
