use Rattle.std.proofs.Common.{◌↔◌, IsOk, Ok, Err, Result, List, subst, refl, arith, rules, sym, ◌≡◌, ℕ}
use Rattle.name_core.proofs.Padding.{padded_over}
use Rattle.name_core.specs.NameText.{read_name, IsName}
use Rattle.name_core.specs.declared.name.NameFault.{NameFault}
use Rattle.name_core.specs.declared.name.NameFault.TheVariants.{BadByte}
use Rattle.name_core.proofs.NameLaws.{accepted}
use Rattle.name_core.proofs.name.Name.read.Goals as goal

pub invariant_of-result : goal.invariant_of-result
invariant_of-result c =
    let same : c.copy_from_slice.new.self ≡ c.args.bytes.now = search rules in
    let exact : Ok c.args.bytes.now ≡ read_name c.args.bytes.now = search rules in
    let name : IsName c.args.bytes.now = (accepted c.args.bytes.now).0 (subst (λ (r : Result (List ℕ) NameFault). IsOk r) exact refl) in
    rw same (padded_over c.args.bytes.now c.zeros-buf.result c.zeros-buf.ensures (omega arith) name)

pub returns-in-Some-clause-accepted : goal.returns-in-Some-clause-accepted
returns-in-Some-clause-accepted c =
    let exact : Err (BadByte c.in-Some.place) ≡ read_name c.args.bytes.now = search rules in
    subst (λ (r : Result (List ℕ) NameFault). IsOk r ↔ IsName c.args.bytes.now) (sym exact) (accepted c.args.bytes.now)

pub returns-clause-accepted : goal.returns-clause-accepted
returns-clause-accepted c =
    let exact : Ok c.args.bytes.now ≡ read_name c.args.bytes.now = search rules in
    let ok : IsOk (read_name c.args.bytes.now) = subst (λ (r : Result (List ℕ) NameFault). IsOk r) exact refl in
    (λ _. (accepted c.args.bytes.now).0 ok, λ _. refl)
