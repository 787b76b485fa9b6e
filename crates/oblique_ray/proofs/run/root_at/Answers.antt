use Rattle.std.proofs.Common.{◌<◌, ◌^◌, sym, subst, arith, FitsSigned, w64}
use Rattle.std.proofs.lemmas.Int.{to_z-of_z}
use Rattle.std.specs.Int.RustNames.{unsigned_abs}
use Rattle.surd_quot.specs.declared.position.QPos.TheVariants.{Quot}
use Rattle.surd_quot.specs.Range.{IsQuotientInRange}
use Rattle.surd_quot.proofs.Ranges.{spelling_stays_in_range}
use Rattle.oblique_ray.proofs.run.root_at.Goals as goal

pub quot-requires-clause-whole : goal.quot-requires-clause-whole
quot-requires-clause-whole c =
    let f : FitsSigned w64 c.args.a = c.ranges.a in
    let small : unsigned_abs c.args.a < 2 ^ 62 = omega (arith, c.requires.whole) in
    simp to_z-of_z small

pub returns-clause-value : goal.returns-clause-value
returns-clause-value c =
    let f : FitsSigned w64 c.args.a = c.ranges.a in
    simp to_z-of_z at c.quot.ensures.value

pub returns-clause-known : goal.returns-clause-known
returns-clause-known c = (subst IsQuotientInRange (sym (returns-clause-value c)) (spelling_stays_in_range (Quot c.args.a c.args.plus c.args.k c.args.q) c.requires), c.quot.ensures.spelled)
