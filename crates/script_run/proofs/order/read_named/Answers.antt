use Rattle.std.proofs.Common.{◌≡◌, ◌∙◌, sym, List, ℕ, Option, Vec, Global, option_map, option_and_then}
use Rattle.std.proofs.lemmas.Result.{IfOk-weaker}
use Rattle.script_run.specs.Orders.{named_order}
use Rattle.script_run.specs.OrderSteps.{if_sessions}
use Rattle.script_run.proofs.OrderLaws.{named_after, word_read}
use Rattle.script_run.proofs.order.read_named.Goals as goal

pub returns-in-Some : goal.returns-in-Some
returns-in-Some c =
    let word = word_read c.args.text.now c.in-Some.rest.now c.in-Some.ensures.cases.0 c.in-Some.ensures.cases.1 in
    IfOk-weaker c.read_digits.result
    (λ (found : Option (Vec ℕ Global)). option_map {T = Vec ℕ Global} {U = List ℕ} (λ o. o.items) found ≡ named_after c.in-Some.rest.now)
    (λ (found : Option (Vec ℕ Global)). option_map {T = Vec ℕ Global} {U = List ℕ} (λ o. o.items) found ≡ option_and_then if_sessions (named_order c.args.text.now))
    (λ found h. h ∙ sym word) c.read_digits.ensures
