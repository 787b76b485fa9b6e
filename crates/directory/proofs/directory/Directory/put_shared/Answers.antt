use Rattle.std.proofs.Common.{rules}
use Rattle.std.specs.Arc.{arc_value}
use Rattle.object_set.specs.Objects.{Parts}
use Rattle.directory.specs.Walks.{Entries, IsSound}
use Rattle.directory.specs.Edits.{appended, put_fault, Follows}
use Rattle.directory.proofs.TellLemmas.{put_tells}
use Rattle.directory.proofs.directory.Directory.put_shared.Goals as goal

pub returns-in_err-contents-2-clause-means : goal.returns-in_err-contents-2-clause-means
returns-in_err-contents-2-clause-means c =
    let es : Entries = c.args.self.now.objects in
    let o : Parts = arc_value c.args.object in
    let sound : IsSound es = c.len-count.ensures.sound in
    let h : Follows es (put_fault es c.args.name.now o) (appended es c.args.name.now o) c.from_residual-in_err-contents-2.result es = search rules in
    put_tells es c.args.name.now o c.from_residual-in_err-contents-2.result es sound sound.distinct h
