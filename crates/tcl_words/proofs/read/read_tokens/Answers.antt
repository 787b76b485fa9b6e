use Rattle.std.proofs.Common.{◌≡◌, ◌∙◌, ◌++◌, ℕ, [], Option, length, append-nil, arith, ap, sym}
use Rattle.std.specs.Prelude.{filter_map}
use Rattle.std.specs.List.{range_with_len, cons_option}
use Rattle.tcl_words.specs.Tokens.{token_at}
use Rattle.tcl_words.specs.declared.token.Token.{Token}
use Rattle.tcl_words.proofs.Depths.{ended_closed, ended_open}
use Rattle.tcl_words.proofs.Steps.{opens_few, closes_some, moved, tokens_to}
use Rattle.tcl_words.proofs.read.read_tokens.Goals as goal

pub groups_after-groups-requires-clause-opens : goal.groups_after-groups-requires-clause-opens
groups_after-groups-requires-clause-opens c = opens_few c.args.text.now c.loop-place.place c.loop-place.groups c.loop-place.last c.in_ok-token.token c.loop-place.invariant.at c.in_ok-token.ensures.token

pub groups_after-groups-requires-clause-closes : goal.groups_after-groups-requires-clause-closes
groups_after-groups-requires-clause-closes c = closes_some c.args.text.now c.loop-place.place c.loop-place.groups c.loop-place.last c.in_ok-token.token c.loop-place.invariant.at c.in_ok-token.ensures.token

pub loop-place-preserved-in-Continue-branch-3 : goal.loop-place-preserved-in-Continue-branch-3
loop-place-preserved-in-Continue-branch-3 c =
    let step = moved c.args.text.now c.loop-place.place c.loop-place.groups c.loop-place.last c.groups_after-groups.result c.place_after-place.result c.in_ok-token.token c.loop-place-test.true c.loop-place.invariant.at c.loop-place.invariant.fine c.in_ok-token.ensures.token c.groups_after-groups.ensures.few c.groups_after-groups.ensures.counted c.place_after-place.ensures in
    record {
      within = step.0;
      at = step.1;
      fine = step.2;
      tokens =
          c.in_ok-push.ensures.items
          ∙ ap (λ (o : Option Token). c.loop-place.found.items ++ cons_option o []) (sym c.in-Some.is)
          ∙ tokens_to c.args.text.now c.loop-place.place c.place_after-place.result c.in_ok-token.token c.loop-place.found.items c.in_ok-token.ensures.token c.loop-place.invariant.tokens c.place_after-place.ensures;
    }

pub loop-place-preserved : goal.loop-place-preserved
loop-place-preserved c =
    let step = moved c.args.text.now c.loop-place.place c.loop-place.groups c.loop-place.last c.groups_after-groups.result c.place_after-place.result c.in_ok-token.token c.loop-place-test.true c.loop-place.invariant.at c.loop-place.invariant.fine c.in_ok-token.ensures.token c.groups_after-groups.ensures.few c.groups_after-groups.ensures.counted c.place_after-place.ensures in
    record {
      within = step.0;
      at = step.1;
      fine = step.2;
      tokens =
          sym (append-nil c.loop-place.found.items)
          ∙ ap (λ (o : Option Token). c.loop-place.found.items ++ cons_option o []) (sym c.in_default.is)
          ∙ tokens_to c.args.text.now c.loop-place.place c.place_after-place.result c.in_ok-token.token c.loop-place.found.items c.in_ok-token.ensures.token c.loop-place.invariant.tokens c.place_after-place.ensures;
    }

pub returns-then-groups-eq0-clause-tokens : goal.returns-then-groups-eq0-clause-tokens
returns-then-groups-eq0-clause-tokens c =
    let end : c.loop-place.place ≡ length c.args.text.now = omega (arith, c.loop-place-test.false, c.loop-place.invariant.within) in (
      sym (ended_closed c.args.text.now c.loop-place.place c.loop-place.groups end c.loop-place.invariant.at.counted (λ k high. c.loop-place.invariant.fine k (omega arith) high) c.if-groups-eq0.true),
      c.loop-place.invariant.tokens ∙ ap (λ (n : ℕ). filter_map (token_at c.args.text.now) (range_with_len 0 n)) end,
    )

pub returns-else-groups-eq0-clause-fault : goal.returns-else-groups-eq0-clause-fault
returns-else-groups-eq0-clause-fault c =
    let end : c.loop-place.place ≡ length c.args.text.now = omega (arith, c.loop-place-test.false, c.loop-place.invariant.within) in
    sym (ended_open c.args.text.now c.loop-place.place c.loop-place.groups end c.loop-place.invariant.at.counted (λ k high. c.loop-place.invariant.fine k (omega arith) high) c.if-groups-eq0.false)
