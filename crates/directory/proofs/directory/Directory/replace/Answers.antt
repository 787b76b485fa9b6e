use Rattle.std.proofs.Common.{rules}
use Rattle.directory.specs.Walks.{Entries, IsSound}
use Rattle.directory.specs.Edits.{replaced, replace_fault, Follows}
use Rattle.directory.proofs.TellLemmas.{replace_tells}
use Rattle.directory.proofs.directory.Directory.replace.Goals as goal

pub returns-in_err-contents-2-clause-means : goal.returns-in_err-contents-2-clause-means
returns-in_err-contents-2-clause-means c =
    let es : Entries = c.args.self.now.objects in
    let sound : IsSound es = c.len-count.ensures.sound in
    let h : Follows es (replace_fault es c.args.name.now c.args.object) (replaced es c.args.name.now c.args.object) c.from_residual-in_err-contents-2.result es = search rules in
    replace_tells es c.args.name.now c.args.object c.from_residual-in_err-contents-2.result es sound sound.distinct h
