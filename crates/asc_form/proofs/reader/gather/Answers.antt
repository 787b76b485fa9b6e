use Rattle.std.proofs.Common.{◌≡◌, rules, subst, sym}
use Rattle.asc_form.specs.Gathering.{IsGathered}
use Rattle.asc_form.proofs.SettleLaws.{gathers, puts_gathered, taken_gathered, texts_joined}
use Rattle.asc_form.proofs.reader.gather.Goals as goal

pub returns-in_err-all-clause-kept : goal.returns-in_err-all-clause-kept
returns-in_err-all-clause-kept c = λ objects h there texts. taken_gathered objects c.args.gathered.now.entries c.take_pairs.new.gathered.entries c.args.name.now c.in_ok-pairs.ensures.ok there h

pub returns-in_err-insert-clause-kept : goal.returns-in_err-insert-clause-kept
returns-in_err-insert-clause-kept c = λ objects h there texts.
    let same : c.insert.new.self.entries ≡ c.take_pairs.new.gathered.entries = search rules in
    subst (IsGathered objects) (sym same) (taken_gathered objects c.args.gathered.now.entries c.take_pairs.new.gathered.entries c.args.name.now c.in_ok-pairs.ensures.ok there h)

pub returns : goal.returns
returns c =
    record {
      ok = gathers c.args.gathered.now.entries c.take_pairs.new.gathered.entries c.insert.new.self.entries c.args.name.now c.in_ok-pairs.pairs c.args.more c.in_ok-all.all c.in_ok-pairs.ensures.ok c.in_ok-insert.ensures.updates.0
          c.in_ok-pairs.ensures.pairs c.in_ok-all.ensures;
      kept = λ objects h there texts. puts_gathered objects c.take_pairs.new.gathered.entries c.insert.new.self.entries c.args.name.now c.in_ok-all.all c.in_ok-insert.ensures.updates.0 there
          (texts_joined c.args.gathered.now.entries objects c.args.name.now c.in_ok-pairs.pairs c.args.more c.in_ok-all.all h c.in_ok-pairs.ensures.pairs c.in_ok-all.ensures texts)
          (taken_gathered objects c.args.gathered.now.entries c.take_pairs.new.gathered.entries c.args.name.now c.in_ok-pairs.ensures.ok there h);
    }
