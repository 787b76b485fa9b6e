use Rattle.std.proofs.Common.{◌∙◌, sym}
use Rattle.bool_weave.proofs.Claimed.{not_spanned}
use Rattle.bool_weave.proofs.claim.holds_at.Goals as goal

pub returns : goal.returns
returns c = not_spanned c.args.tree.now c.args.table.now c.args.interval (sym c.is_spanned.ensures ∙ c.if-is_spanned.false)
