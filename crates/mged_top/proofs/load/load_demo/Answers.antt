use Rattle.std.proofs.Common.{◌∙◌, ◌<◌, ◌^◌, ℕ, length, ap, arith}
use Rattle.mged_top.proofs.LoadLaws.{demo_loaded, demo_stopped}
use Rattle.mged_top.proofs.load.load_demo.Goals as goal

pub returns-in-Ok-read_model-clause-load : goal.returns-in-Ok-read_model-clause-load
returns-in-Ok-read_model-clause-load c = λ told.
    let short : length c.items.result.now < 2 ^ 24 = omega (arith, ap (length {A = ℕ}) c.items.ensures, c.in-Ok.ensures.short.0) in
    demo_loaded c.args.number c.in-Ok-read_model.directory c.items.result.now c.in-Ok.demo.script told (c.items.ensures ∙ c.in-Ok.ensures.load) c.in-Ok.ensures.again short c.in-Ok.ensures.script c.in-Ok-read_model.ensures

pub returns-clause-load : goal.returns-clause-load
returns-clause-load c = λ told.
    let short : length c.items.result.now < 2 ^ 24 = omega (arith, ap (length {A = ℕ}) c.items.ensures, c.in-Ok.ensures.short.0) in
    demo_stopped c.args.number c.in-Err.stop c.items.result.now told (c.items.ensures ∙ c.in-Ok.ensures.load) c.in-Ok.ensures.again short c.in-Err.ensures
