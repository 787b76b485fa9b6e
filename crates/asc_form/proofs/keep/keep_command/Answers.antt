use Rattle.std.proofs.Common.{Ok, Err, subst, sym, Result, List, Option, ℕ}
use Rattle.std.specs.Option.{option_copied}
use Rattle.object_set.specs.declared.kept.KeptAttr.{KeptAttr}
use Rattle.put_form.specs.Keeps.{IsKeptRead}
use Rattle.put_form.specs.declared.fault.PutFault.{PutFault}
use Rattle.asc_form.specs.Reading.{keep_with}
use Rattle.asc_form.specs.Steps.{IsMade}
use Rattle.asc_form.specs.declared.kinds.CommandFault.{CommandFault}
use Rattle.asc_form.proofs.KeepLaws.{unkept_is}
use Rattle.asc_form.proofs.keep.keep_command.Goals as goal

pub returns-in-Ok : goal.returns-in-Ok
returns-in-Ok c = λ pairs h.
    let word : Option (List ℕ) = option_copied c.args.word in
    let read : IsKeptRead (Ok c.in-Ok.pairs) pairs = subst (λ (r : Result (List KeptAttr) PutFault). IsKeptRead r pairs) c.in-Ok.is h in
    subst (λ (r : Result (List KeptAttr) PutFault). IsMade (keep_with c.args.reader.now.made word r) c.args.reader.now c.keep_read.result c.keep_read.new.reader) (sym read) c.keep_read.ensures

pub returns-in-Err : goal.returns-in-Err
returns-in-Err c = λ pairs h.
    let word : Option (List ℕ) = option_copied c.args.word in
    let read : IsKeptRead (Err c.in-Err.fault) pairs = subst (λ (r : Result (List KeptAttr) PutFault). IsKeptRead r pairs) c.in-Err.is h in
    subst (λ (f : CommandFault). IsMade (keep_with c.args.reader.now.made word pairs) c.args.reader.now (Err f) c.args.reader.now) (sym c.unkept.ensures) (unkept_is c.args.reader.now word c.in-Err.fault pairs read)
