use Rattle.std.proofs.lemmas.Result.{on_ok_weaker}
use Rattle.asc_form.proofs.SettleLaws.{keeps_names, settles, some_object}
use Rattle.asc_form.proofs.settle.keep_gathered.Goals as goal

pub exchange-requires : goal.exchange-requires
exchange-requires c =
    let found = some_object _ c.requires.there in
    keeps_names c.args.directory.now.objects c.args.name.now c.in_ok-object.object found.0 c.args.pairs.now found.1 (c.in_ok-object.ensures found.0 found.1)

pub returns : goal.returns
returns c =
    on_ok_weaker c.exchange.result
    (settles c.args.directory.now c.exchange.new.directory c.args.name.now c.args.pairs.now c.in_ok-object.object c.len-count.ensures.sound.distinct c.requires.there c.in_ok-object.ensures) c.exchange.ensures
