use Rattle.std.proofs.Common.{rules, refl}
use Rattle.outside_core.proofs.FilesSet.{file_put}
use Rattle.outside_core.proofs.shelf.VecShelfShelf.put.Goals as goal

pub returns-clause-set : goal.returns-clause-set
returns-clause-set c = (c.push.new.self, refl, file_put c.args.self.now.files c.push.new.self c.args.name.now c.args.bytes.now (search rules))
