use Rattle.tcl_words.proofs.Lengths.{some_length, none_length}
use Rattle.tcl_words.proofs.number.read_tenths.Goals as goal

pub returns-clause-form : goal.returns-clause-form
returns-clause-form c = some_length c.args.atom.now c.tenths.result c.tenths.ensures

pub returns-clause-none : goal.returns-clause-none
returns-clause-none c = none_length c.args.atom.now c.tenths.result c.tenths.ensures
