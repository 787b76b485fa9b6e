use Rattle.std.proofs.Common.{◌∙◌, sym, ap, cond, ℕ, List}
use Rattle.command_set.specs.declared.command.Command.TheVariants.{Edit}
use Rattle.command_set.specs.declared.command.Edit.TheVariants.{Place}
use Rattle.mged_words.proofs.CommandLaws.{read_refused}
use Rattle.mged_words.proofs.PlaceLaws.{six_placed, six_refused}
use Rattle.mged_words.proofs.place.sixteen_command.Goals as goal

pub returns-in_err-placement : goal.returns-in_err-placement
returns-in_err-placement c =
    read_refused c.from_residual-in_err-placement.result c.in_err-placement.field-0.0 _ c.from_residual-in_err-placement.ensures (λ e h. h)
    (six_refused c.args.comb.now c.args.member.now (cond c.args.is_group 0 1) c.args.atoms.now c.in_err-placement.field-0.0 c.if-atoms-ne16.false c.in_ok-comb.ensures.none c.in_ok-member.ensures.none
    (sym c.read_placement.ensures ∙ c.in_err-placement.was))

pub returns : goal.returns
returns c =
    ap (λ (n : List ℕ). Edit (Place n c.in_ok-member.member c.in_ok-placement.placement)) c.in_ok-comb.ensures.name
    ∙ ap (λ (n : List ℕ). Edit (Place c.args.comb.now n c.in_ok-placement.placement)) c.in_ok-member.ensures.name
    ∙ six_placed c.args.comb.now c.args.member.now (cond c.args.is_group 0 1) c.args.atoms.now c.in_ok-placement.placement c.if-atoms-ne16.false c.in_ok-comb.ensures.none c.in_ok-member.ensures.none
    (sym c.read_placement.ensures ∙ c.in_ok-placement.was)
