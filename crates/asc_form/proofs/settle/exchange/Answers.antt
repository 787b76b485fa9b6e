use Rattle.asc_form.proofs.SettleLaws.{only_memory}
use Rattle.asc_form.proofs.settle.exchange.Goals as goal

pub memory_of-requires : goal.memory_of-requires
memory_of-requires c = only_memory c.args.directory.now.objects c.args.name.now c.args.object c.in-Err.fault c.len-count.ensures.sound c.requires c.in-Err.ensures.exact.0
