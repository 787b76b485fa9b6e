use Rattle.std.proofs.Common.{ℕ, Option, Some, None, Err, Vec, Global, refl, subst, sym}
use Rattle.std.specs.Option.{option_map}
use Rattle.outside_core.specs.Files.{Gives}
use Rattle.option_words.specs.declared.options.Model.TheVariants.{OfFile}
use Rattle.mged_top.specs.Stages.{IsLoad}
use Rattle.mged_top.specs.declared.status.LoadFault.TheVariants.{NoFile}
use Rattle.mged_top.proofs.LoadLaws.{file_loaded, model_loaded}
use Rattle.mged_top.proofs.load.load_file.Goals as goal

pub returns-in-Ok-Some-clause-load : goal.returns-in-Ok-Some-clause-load
returns-in-Ok-Some-clause-load g c =
    let files = g.F.Shelf.files c.args.shelf.now in
    let name = c.args.name.now in
    let found = subst (λ (f : Option (Vec ℕ Global)). Gives files name 16777217 (option_map (λ bytes. bytes.items) f)) c.in-Ok-Some.field-0-is c.in-Ok-Some.ensures.content in
    subst (λ r. IsLoad r (OfFile name) files) (sym c.without_script.ensures)
    (model_loaded files name c.deref.result.now c.read_model.result (subst (λ text. Gives files name 16777217 (Some text)) (sym c.deref.ensures.value) found) c.read_model.ensures)

pub returns-in-Ok-None-clause-load : goal.returns-in-Ok-None-clause-load
returns-in-Ok-None-clause-load g c =
    let files = g.F.Shelf.files c.args.shelf.now in
    let name = c.args.name.now in
    let found = subst (λ (f : Option (Vec ℕ Global)). Gives files name 16777217 (option_map (λ bytes. bytes.items) f)) c.in-Ok-None.field-0-is c.in-Ok-None.ensures.content in
    file_loaded files name None (Err (NoFile name)) found refl
