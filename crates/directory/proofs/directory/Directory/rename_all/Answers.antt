use Rattle.std.proofs.Common.{rules}
use Rattle.directory.specs.Walks.{Entries, IsSound}
use Rattle.directory.specs.Edits.{renamed_all, rename_fault, Follows}
use Rattle.directory.proofs.TellLemmas.{rename_tells}
use Rattle.directory.proofs.directory.Directory.rename_all.Goals as goal

pub returns-in_err-contents-2-clause-means : goal.returns-in_err-contents-2-clause-means
returns-in_err-contents-2-clause-means c =
    let es : Entries = c.args.self.now.objects in
    let sound : IsSound es = c.len-count.ensures.sound in
    let h : Follows es (rename_fault es c.args.old.now c.args.new.now) (renamed_all es c.args.old.now c.args.new.now) c.from_residual-in_err-contents-2.result es = search rules in
    rename_tells es c.args.old.now c.args.new.now c.from_residual-in_err-contents-2.result es sound sound.distinct h
