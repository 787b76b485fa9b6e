use Rattle.std.proofs.Common.{rules}
use Rattle.directory.proofs.ContentsLemmas.{nothing_is_sound}
use Rattle.directory.proofs.directory.Directory.len.Goals as goal

pub returns-in-None-clause-sound : goal.returns-in-None-clause-sound
returns-in-None-clause-sound c = nothing_is_sound c.args.self.now.objects (search rules)
