use Rattle.std.proofs.Common.{◌<◌, ◌∙◌, length, arith}
use Rattle.mged_words.proofs.ListLaws.{names_more, names_read}
use Rattle.mged_words.proofs.names.read_names.Goals as goal

pub loop-i-preserved : goal.loop-i-preserved
loop-i-preserved c =
    let lt : c.loop-i.i < length c.args.atoms.now = omega arith in
    record {
      fault = names_more c.args.atoms.now c.args.word c.loop-i.i _ lt c.in_ok-read_name.ensures.none ∙ c.loop-i.invariant.fault;
      read = c.in_ok-push.ensures.items ∙ names_read c.args.atoms.now c.loop-i.names.items c.in_ok-read_name.field-0 c.loop-i.i _ lt c.in_ok-read_name.ensures.name c.loop-i.invariant.read;
    }
