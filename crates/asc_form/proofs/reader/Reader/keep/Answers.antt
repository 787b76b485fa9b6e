use Rattle.std.proofs.Common.{◌≡◌, IsSome, ap, subst, sym}
use Rattle.std.proofs.lemmas.Result.{on_ok_weaker}
use Rattle.directory.specs.Listing.{Listing}
use Rattle.directory.specs.Walks.{object_of}
use Rattle.asc_form.specs.Gathering.{settled}
use Rattle.asc_form.specs.Progress.{Progress}
use Rattle.asc_form.specs.Reading.{kept_by}
use Rattle.asc_form.proofs.SettleLaws.{gathered_more, there_in, progress_of}
use Rattle.asc_form.proofs.reader.Reader.keep.Goals as goal

pub invariant_of-self : goal.invariant_of-self
invariant_of-self c =
    let there : IsSome (object_of (settled c.self.inside.draft.objects c.self.inside.gathered.entries) c.args.name.now) = subst (λ (p : Progress). IsSome (object_of p.made.objects c.args.name.now)) (sym c.self.view_is) c.requires.there in
    record {
      gathered = c.gather.ensures.kept c.self.inside.draft.objects c.self.invariant.gathered (there_in c.self.inside.gathered.entries c.self.inside.draft.objects c.args.name.now there) c.requires.texts;
      even = c.self.invariant.even;
    }

pub returns : goal.returns
returns c =
    let there : IsSome (object_of (settled c.self.inside.draft.objects c.self.inside.gathered.entries) c.args.name.now) = subst (λ (p : Progress). IsSome (object_of p.made.objects c.args.name.now)) (sym c.self.view_is) c.requires.there in
    let title = c.self.inside.draft.title in
    let objects = c.self.inside.draft.objects in
    let new : Progress = progress_of title (settled objects c.gather.new.gathered.entries) objects c.self.inside.lines.items c.self.inside.line in
    on_ok_weaker c.gather.result
    (λ more. subst (λ (p : Progress). new ≡ record p { made = kept_by p.made c.args.name.now c.args.pairs (object_of p.made.objects c.args.name.now) }) c.self.view_is
    (ap (λ (d : Listing). let p : Progress = record { made = d; bare = objects; lines = c.self.inside.lines.items; line = c.self.inside.line } in p)
    (gathered_more title objects c.self.inside.gathered.entries c.gather.new.gathered.entries c.args.name.now c.args.pairs c.len-count.ensures.distinct there more)))
    c.gather.ensures.ok
