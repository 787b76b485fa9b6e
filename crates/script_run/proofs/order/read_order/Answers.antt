use Rattle.std.proofs.Common.{◌≡◌, ◌∙◌, ℕ, List, true, false, ap, sym, map, option_map, arith, Vec, Global}
use Rattle.std.proofs.lemmas.List.{length-map}
use Rattle.transcript.specs.Merge.{Entry, lane}
use Rattle.command_set.specs.declared.command.Command.{Command}
use Rattle.mged_words.specs.Entries.{command_entry}
use Rattle.script_run.specs.Orders.{has_each}
use Rattle.script_run.proofs.OrderLaws.{order_read, order_answered, merge_answered, whole_answered}
use Rattle.script_run.proofs.order.read_order.Goals as goal

pub returns-in_default-clause-text : goal.returns-in_default-clause-text
returns-in_default-clause-text c =
    let entries : List (Entry Command) = map command_entry c.args.script.now in
    let named = ap (option_map (λ (o : Vec ℕ Global). o.items)) (sym c.in_default.is) ∙ c.in_ok-order.ensures in
    order_read entries c.args.text.now _ named

pub returns-in_default-clause-order : goal.returns-in_default-clause-order
returns-in_default-clause-order c =
    let entries : List (Entry Command) = map command_entry c.args.script.now in
    let named = ap (option_map (λ (o : Vec ℕ Global). o.items)) (sym c.in_default.is) ∙ c.in_ok-order.ensures in
    whole_answered entries c.requires.sessions (omega (arith, c.requires.few, length-map c.args.script.now command_entry)) c.args.text.now _ (order_read entries c.args.text.now _ named)

pub returns-then-has_each_command-clause-text : goal.returns-then-has_each_command-clause-text
returns-then-has_each_command-clause-text c =
    let entries : List (Entry Command) = map command_entry c.args.script.now in
    let order : List ℕ = c.in-Some.order.items in
    let named = ap (option_map (λ (o : Vec ℕ Global). o.items)) (sym c.in-Some.is) ∙ c.in_ok-order.ensures in
    let each : true ≡ has_each order (lane entries) = sym c.if-has_each_command.true ∙ c.has_each_command.ensures ∙ ap (λ o. has_each o (lane entries)) c.deref.ensures.value in
    order_answered entries c.args.text.now order named true each

pub returns-then-has_each_command-clause-order : goal.returns-then-has_each_command-clause-order
returns-then-has_each_command-clause-order c =
    let entries : List (Entry Command) = map command_entry c.args.script.now in
    let order : List ℕ = c.in-Some.order.items in
    let named = ap (option_map (λ (o : Vec ℕ Global). o.items)) (sym c.in-Some.is) ∙ c.in_ok-order.ensures in
    let each : true ≡ has_each order (lane entries) = sym c.if-has_each_command.true ∙ c.has_each_command.ensures ∙ ap (λ o. has_each o (lane entries)) c.deref.ensures.value in
    whole_answered entries c.requires.sessions (omega (arith, c.requires.few, length-map c.args.script.now command_entry)) c.args.text.now _ (order_answered entries c.args.text.now order named true each)

pub returns-then-has_each_command-clause-merge : goal.returns-then-has_each_command-clause-merge
returns-then-has_each_command-clause-merge c =
    let entries : List (Entry Command) = map command_entry c.args.script.now in
    let order : List ℕ = c.in-Some.order.items in
    let named = ap (option_map (λ (o : Vec ℕ Global). o.items)) (sym c.in-Some.is) ∙ c.in_ok-order.ensures in
    let each : true ≡ has_each order (lane entries) = sym c.if-has_each_command.true ∙ c.has_each_command.ensures ∙ ap (λ o. has_each o (lane entries)) c.deref.ensures.value in
    merge_answered entries c.requires.sessions c.args.text.now order named each

pub returns-else-has_each_command-clause-text : goal.returns-else-has_each_command-clause-text
returns-else-has_each_command-clause-text c =
    let entries : List (Entry Command) = map command_entry c.args.script.now in
    let order : List ℕ = c.in-Some.order.items in
    let named = ap (option_map (λ (o : Vec ℕ Global). o.items)) (sym c.in-Some.is) ∙ c.in_ok-order.ensures in
    let each : false ≡ has_each order (lane entries) = sym c.if-has_each_command.false ∙ c.has_each_command.ensures ∙ ap (λ o. has_each o (lane entries)) c.deref.ensures.value in
    order_answered entries c.args.text.now order named false each

pub returns-else-has_each_command-clause-order : goal.returns-else-has_each_command-clause-order
returns-else-has_each_command-clause-order c =
    let entries : List (Entry Command) = map command_entry c.args.script.now in
    let order : List ℕ = c.in-Some.order.items in
    let named = ap (option_map (λ (o : Vec ℕ Global). o.items)) (sym c.in-Some.is) ∙ c.in_ok-order.ensures in
    let each : false ≡ has_each order (lane entries) = sym c.if-has_each_command.false ∙ c.has_each_command.ensures ∙ ap (λ o. has_each o (lane entries)) c.deref.ensures.value in
    whole_answered entries c.requires.sessions (omega (arith, c.requires.few, length-map c.args.script.now command_entry)) c.args.text.now _ (order_answered entries c.args.text.now order named false each)
