use Rattle.std.proofs.Common.{◌∙◌, cond, sym}
use Rattle.std.proofs.lemmas.Result.{IfOk-weaker}
use Rattle.name_core.specs.Same.{same_name}
use Rattle.directory.specs.Depths.{depth_kept}
use Rattle.directory.proofs.RenamedLemmas.{moved_nothing}
use Rattle.directory.proofs.depths.Depths.rename.Goals as goal

pub returns-then-depth-eq0 : goal.returns-then-depth-eq0
returns-then-depth-eq0 c a = moved_nothing (depth_kept c.args.self) c.args.old.now c.args.new.now a (sym c.if-depth-eq0.true ∙ c.of-depth.ensures) c.requires.missed

pub returns : goal.returns
returns c = IfOk-weaker c.set-2.result _ _ (λ d put a. put a ∙ (λ i. cond (same_name c.args.new.now a) (c.of-depth.ensures i) (c.in_ok-without.ensures a i))) c.set-2.ensures
