use Rattle.std.proofs.Common.{refl}
use Rattle.std.proofs.lemmas.Result.{err_from_is_err_and}
use Rattle.region_attr.specs.Keys.{key_of}
use Rattle.region_attr.proofs.Setting.{bad_value, good_value, ranges_kept, refuses, set_to, sets}
use Rattle.region_attr.proofs.attr.Attr.set.Goals as goal

pub returns-in_err-self-clause-bad : goal.returns-in_err-self-clause-bad
returns-in_err-self-clause-bad c =
    let p = err_from_is_err_and c.from_residual.result c.from_residual.ensures.1 in
    let both = bad_value (key_of c.args.key.now) c.args.value.now c.args.self.now c.in_err-self.field-0.0 c.in_err-self.ensures in
    rw (p.1, p.2) ((λ e. both.0 (cc)), (λ h. let bad = both.1 h in cc))

pub returns-clause-ranges : goal.returns-clause-ranges
returns-clause-ranges c = ranges_kept (key_of c.args.key.now) c.args.value.now c.args.self.now c.in_ok-self.field-0 c.in_ok-self.ensures

pub returns-clause-bad : goal.returns-clause-bad
returns-clause-bad c = ((λ e. cc), (λ h. absurd (good_value (key_of c.args.key.now) c.args.value.now c.args.self.now c.in_ok-self.field-0 c.in_ok-self.ensures h)))

pub returns-in_err-self-clause-accepted : goal.returns-in_err-self-clause-accepted
returns-in_err-self-clause-accepted c =
    let p = err_from_is_err_and c.from_residual.result c.from_residual.ensures.1 in
    let no = refuses (key_of c.args.key.now) c.args.value.now c.args.self.now c.in_err-self.field-0.0 c.in_err-self.ensures in
    rw (p.1) ((λ e. cc), (λ h. cc))

pub returns-clause-accepted : goal.returns-clause-accepted
returns-clause-accepted c =
    let yes_ = sets (key_of c.args.key.now) c.args.value.now c.args.self.now c.in_ok-self.field-0 c.in_ok-self.ensures in ((λ e. yes_), (λ h. refl))

pub returns-clause-set : goal.returns-clause-set
returns-clause-set c = set_to (key_of c.args.key.now) c.args.value.now c.args.self.now c.in_ok-self.field-0 c.in_ok-self.ensures
