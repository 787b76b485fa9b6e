use Rattle.std.proofs.Common.{◌∙◌, subst, sym}
use Rattle.text_laws.specs.PutAgain.{IsPutAgain}
use Rattle.text_laws.proofs.line.put_line_reads_again.Goals as goal

-- src/line.rt:107:1
pub returns-in-Comb : goal.returns-in-Comb
returns-in-Comb c = subst (IsPutAgain c.args.name.now) (sym c.in-Comb.is ∙ c.body.ensures.value) c.comb_line_reads_again.ensures
