use Rattle.std.proofs.Common.{◌∙◌, ap, arith}
use Rattle.version_table.proofs.Places.{length_merged}
use Rattle.layer_tests.specs.Calls.{calls_of}
use Rattle.layer_tests.proofs.versions.take_in.Goals as goal

pub returns-clause-calls : goal.returns-clause-calls
returns-clause-calls c = ap calls_of c.join.ensures.both ∙ omega (arith, length_merged c.args.pass.now.own c.args.other.own)
