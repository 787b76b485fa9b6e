use Rattle.outside_core.proofs.FileNames.{partial_no_name}
use Rattle.outside_core.proofs.folder.partial_of.Goals as goal

pub returns-clause-no_name : goal.returns-clause-no_name
returns-clause-no_name c =
    rw (c.push_str-3.ensures.bytes, c.push_str-2.ensures.bytes, c.push_str.ensures.bytes, c.new-text.ensures, c.path_of.ensures.same) (partial_no_name c.args.name.now)
