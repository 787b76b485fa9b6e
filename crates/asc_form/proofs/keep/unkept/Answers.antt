use Rattle.std.proofs.Common.{◌∙◌, ap}
use Rattle.std.specs.Option.{option_copied}
use Rattle.asc_form.specs.Steps.{named, if_named}
use Rattle.asc_form.specs.declared.kinds.CommandFault.{CommandFault}
use Rattle.asc_form.proofs.KeepLaws.{unkept_other}
use Rattle.asc_form.proofs.keep.unkept.Goals as goal

pub returns-in_default : goal.returns-in_default
returns-in_default c =
    let found = named c.args.reader.now.made.objects (option_copied c.args.word) in
    c.if_named.ensures ∙ ap (λ (f : CommandFault). if_named found f) c.of_put.ensures ∙ unkept_other found c.args.fault c.in_default.not-Attr c.in_default.not-Memory
