use Rattle.std.proofs.Common.{◌≡◌, ◌≤◌, ◌∙◌, ◌+◌, ◌*◌, ap, sym, subst, length, arith}
use Rattle.bool_weave.specs.Cuts.{IsWoven, AreCuts, cuts_of}
use Rattle.bool_weave.specs.Tables.{IsSearchable}
use Rattle.bool_weave.proofs.Cutting.{are_cuts}
use Rattle.bool_weave.proofs.Kept.{searchable, few_cuts, two_cuts}
use Rattle.bool_weave.proofs.woven.Weave.cuts.Goals as goal

kept : (c : goal.After-deref) → c.deref.result.now ≡ cuts_of c.args.self.now
kept c = c.deref.ensures.value ∙ c.self.invariant.kept ∙ ap cuts_of c.self.view_is

sound : (c : goal.After-deref) → IsWoven c.args.self.now
sound c = subst IsWoven c.self.view_is c.self.invariant.sound

pub returns-clause-places : goal.returns-clause-places
returns-clause-places c = subst (λ l. AreCuts c.args.self.now l) (sym (kept c)) (are_cuts c.args.self.now (sound c))

pub returns-clause-searchable : goal.returns-clause-searchable
returns-clause-searchable c = subst IsSearchable (sym (kept c)) (searchable c.args.self.now (sound c))

pub returns-clause-some : goal.returns-clause-some
returns-clause-some c = subst (λ l. 2 ≤ length l) (sym (kept c)) (two_cuts c.args.self.now (sound c))

pub returns-clause-few : goal.returns-clause-few
returns-clause-few c = subst (λ l. length l ≤ 2 * length c.args.self.now + 2) (sym (kept c)) (few_cuts c.args.self.now)

pub returns-clause-short : goal.returns-clause-short
returns-clause-short c =
    omega (arith, subst (λ l. length l ≤ 2 * length c.args.self.now + 2) (sym (kept c)) (few_cuts c.args.self.now), c.self.invariant.few, ap length c.self.view_is)
