use Rattle.std.proofs.Common.{◌≡◌, ◌∙◌, ap, is_some, rules, sym}
use Rattle.asc_form.specs.Progress.{Progress}
use Rattle.directory.specs.Walks.{object_of}
use Rattle.asc_form.specs.Gathering.{gathered_of}
use Rattle.asc_form.proofs.SettleLaws.{has_settled}
use Rattle.asc_form.proofs.reader.Reader.has.Goals as goal

pub returns : goal.returns
returns c =
    let found : is_some c.get.result ≡ is_some (object_of c.self.inside.draft.objects c.args.name.now) = search rules in
    c.is_some.ensures
    ∙ found
    ∙ sym (has_settled (gathered_of c.self.inside.gathered.entries) c.self.inside.draft.objects c.args.name.now)
    ∙ ap (λ (p : Progress). is_some (object_of p.made.objects c.args.name.now)) c.self.view_is
