use Rattle.std.proofs.Common.{◌≡◌, Some, rules}
use Rattle.std.specs.Prelude.{slice_get}
use Rattle.directory.proofs.DraftLemmas.{refused_at}
use Rattle.directory.proofs.settling.fault_at.Goals as goal

pub returns : goal.returns
returns c =
    let at : slice_get c.args.objects.now c.args.place ≡ Some (c.in-Some.name.now, c.in-Some._object.now) = search rules in
    refused_at c.args.objects.now c.args.place c.in-Some.name.now c.in-Some._object.now c.fault_of.result c.len-count.ensures.distinct c.requires.small at c.requires.sound c.fault_of.ensures
