use Rattle.std.proofs.Common.{◌∙◌, sym}
use Rattle.directory.proofs.TracedLemmas.{one_name_if}
use Rattle.directory.proofs.relax.only_name.Goals as goal

pub returns-then-len-eq1 : goal.returns-then-len-eq1
returns-then-len-eq1 c = one_name_if c.args.names.now c.copied.result (c.copied.ensures ∙ c.at.ensures) (sym c.len.ensures.value ∙ c.if-len-eq1.true)
