use Rattle.std.proofs.Common.{refl}
use Rattle.directory.specs.Listing.{Listing}
use Rattle.asc_form.specs.Reading.{titled}
use Rattle.asc_form.proofs.ProgressLaws.{remakes}
use Rattle.asc_form.proofs.TextLaws.{titled_as}
use Rattle.asc_form.proofs.command.set_title.Goals as goal

pub returns : goal.returns
returns c =
    let d : Listing = record c.args.reader.now.made { title = c.args.text.now } in
    remakes (titled c.args.reader.now.made c.args.text.now) c.args.reader.now c.set_title.new.self d
    (titled_as c.args.reader.now.made d c.args.text.now (c.is_text_value.ensures.0 c.if-not-is_text_value.false) refl refl) c.in_ok-set_title.ensures
