use Rattle.std.proofs.Common.{arith, ap, ◌≡◌, ◌≤◌, ◌∙◌, ◌<◌, ℤ, List, length, take, FitsSigned, Some, subst}
use Rattle.std.proofs.lemmas.List.{take_all}
use Rattle.std.proofs.lemmas.Int.{to_z-of_z, fits_signed_from_abs}
use Rattle.std.specs.Int.RustNames.{unsigned_abs}
use mir.Val.{to_z, of_z}
use mir.Syntax.{w64}
use Rattle.word_values.specs.Kinds.{kind_at, most_of, AllWithinKinds}
use Rattle.word_values.proofs.KindLaws.{kinds_small, read_within}
use Rattle.mged_words.proofs.LineLaws.{placed, next_fault, next_read}
use Rattle.mged_words.proofs.atoms.read_numbers.Goals as goal

pub returns-clause-within : goal.returns-clause-within
returns-clause-within c =
    let out : List ℤ = c.loop-i.out in
    let whole : take c.loop-i.i out ≡ out = take_all c.loop-i.i out (omega (arith, c.loop-i-test.false, c.loop-i.auto.out, c.requires.room)) in
    subst (AllWithinKinds c.args.list) whole (read_within c.args.list _ (take c.loop-i.i out) c.loop-i.invariant.read)

pub loop-i-preserved : goal.loop-i-preserved
loop-i-preserved c =
    let n : ℤ = c.in-Some.number in
    let small : unsigned_abs n ≤ most_of (kind_at c.args.list c.loop-i.i) = omega (arith, c.in-Some.ensures.within, ap most_of c.kind_at.ensures) in
    let fits : FitsSigned w64 n = fits_signed_from_abs w64 n (omega (arith, small, kinds_small c.args.list c.loop-i.i)) in
    let lt : c.loop-i.i < length c.args.atoms.now = omega arith in
    let is = placed c.args.list c.loop-i.i _ _ _ c.kind_at.ensures c.in-Some.ensures.value in
    record {
      fault = next_fault c.args.list c.args.atoms.now c.args.word c.loop-i.i _ n lt is ∙ c.loop-i.invariant.fault;
      read = next_read c.args.list c.args.atoms.now c.loop-i.out c.loop-i.i _ (to_z w64 (of_z w64 n)) lt (c.loop-i.auto.out ∙ c.requires.room) (ap (λ (m : ℤ). Some m) (to_z-of_z w64 n fits) ∙ is) c.loop-i.invariant.read;
    }
