use Rattle.std.proofs.Common.{◌≡◌, [], rules, subst, sym}
use Rattle.asc_form.specs.Gathering.{settled, AreTexts, Gathered}
use Rattle.directory.specs.Listing.{Listing}
use Rattle.asc_form.proofs.SettleLaws.{finished, first_texts, next_name}
use Rattle.asc_form.proofs.settle.keep_all.Goals as goal

abbrev whole_of : Listing → Gathered → Listing
whole_of d gathered = record d { objects = settled d.objects gathered }

pub keep_gathered-requires-clause-texts : goal.keep_gathered-requires-clause-texts
keep_gathered-requires-clause-texts c =
    subst AreTexts (sym c.items.ensures)
    (first_texts c.loop-name.directory.objects c.loop-name.name-iterator c.next.new.self c.in-Some.name c.in-Some.pairs c.loop-name.invariant.gathered c.in-Some.ensures.steps)

pub loop-name-preserved : goal.loop-name-preserved
loop-name-preserved c =
    let h = c.loop-name.invariant in
    let next = next_name (whole_of c.args.directory c.args.gathered.entries) c.loop-name.directory c.keep_gathered.new.directory c.loop-name.name-iterator c.next.new.self c.in-Some.name c.in-Some.pairs c.items.result.now c.in-Some.ensures.steps c.items.ensures
    c.in_ok-keep_gathered.ensures h.title h.objects h.gathered h.distinct in
    record { title = next.0; objects = next.1; gathered = next.2; distinct = next.3 }

pub returns : goal.returns
returns c =
    let rest : Gathered = c.loop-name.name-iterator in
    let done : rest ≡ [] = search rules in
    finished c.loop-name.directory (whole_of c.args.directory c.args.gathered.entries) rest c.loop-name.invariant.title c.loop-name.invariant.objects done
