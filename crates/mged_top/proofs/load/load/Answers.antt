use Rattle.std.proofs.Common.{ℕ, List, Result, Ok, ap₂, refl, sym, subst}
use Rattle.directory.specs.Listing.{Listing}
use Rattle.directory.specs.Walks.{Entries}
use Rattle.mged_top.specs.declared.status.LoadFault.{LoadFault}
use Rattle.option_words.specs.declared.options.Model.{Model}
use Rattle.option_words.specs.declared.options.Model.TheVariants.{Empty}
use Rattle.mged_top.specs.Stages.{IsLoad}
use Rattle.mged_top.proofs.LoadLaws.{no_file}
use Rattle.mged_top.proofs.load.load.Goals as goal

pub returns-in-Empty-clause-load : goal.returns-in-Empty-clause-load
returns-in-Empty-clause-load g c =
    let files = g.F.Shelf.files c.args.shelf.now in
    let made : List ℕ → Entries → Result Listing LoadFault = λ title objects. Ok (record { title = title; objects = objects }) in
    subst (λ (model : Model). IsLoad c.without_script.result model files) (sym c.in-Empty.is)
    (subst (λ r. IsLoad r Empty files) (sym c.without_script.ensures)
    (no_file files Empty (Ok c.new.result) (λ _. ap₂ made (sym c.new.ensures.title) (sym c.new.ensures.objects)), refl))
