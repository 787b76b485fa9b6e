use Rattle.std.proofs.Common.{refl, arith}
use Rattle.tcl_words.specs.declared.class.TheConstants.{CLASSES}
use Rattle.tcl_words.proofs.Classes.{table_is}
use Rattle.tcl_words.proofs.class.class_of.Goals as goal

pub returns : goal.returns
returns c = table_is CLASSES c.args.byte (omega arith) refl
