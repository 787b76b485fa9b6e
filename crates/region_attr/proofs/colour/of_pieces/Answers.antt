use Rattle.std.proofs.Common.{sym, ◌∙◌}
use Rattle.region_attr.proofs.Cuts.{slash_none, slash_one}
use Rattle.region_attr.proofs.ColourForm.{slash_parts}
use Rattle.region_attr.proofs.colour.of_pieces.Goals as goal

pub returns-in_err-red : goal.returns-in_err-red
returns-in_err-red c = c.from_residual.ensures ∙ sym (slash_none c.args.text.now c.in_err-red.ensures.none)

pub returns-in_err-green : goal.returns-in_err-green
returns-in_err-green c = c.from_residual-in_err-green.ensures ∙ sym (slash_one c.args.text.now _ c.in_ok-red.ensures.rest c.in_ok-red.ensures.some c.in_err-green.ensures.none)

pub returns : goal.returns
returns c = c.of_parts.ensures ∙ sym (slash_parts c.args.text.now _ _ _ _ c.in_ok-red.ensures.piece c.in_ok-red.ensures.rest c.in_ok-green.ensures.piece c.in_ok-green.ensures.rest c.in_ok-red.ensures.some c.in_ok-green.ensures.some)
