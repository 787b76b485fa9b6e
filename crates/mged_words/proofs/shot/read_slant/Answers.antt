use Rattle.std.proofs.Common.{◌∙◌, ap, sym, arith, [], List, ℕ, ℤ, Some, map}
use Rattle.std.specs.Borrow.{Bor}
use Rattle.slant_ray.specs.declared.ray.SlantRay.{SlantRay}
use Rattle.slant_ray.specs.Rays.{slant_fault}
use Rattle.word_values.specs.Solids.{vector_at}
use Rattle.mged_words.specs.Commands.{slant_refusal}
use Rattle.mged_words.proofs.ViewLines.{err_same}
use Rattle.mged_words.proofs.SlantLines.{bad_origin, bad_first_step, bad_second_step, bad_third_step, good_ray, held, held_is, held_small, ray_unless_fault, seen_ray, unseen_ray}
use Rattle.mged_words.proofs.shot.read_slant.Goals as goal

pub returns-in-Some : goal.returns-in-Some
returns-in-Some c =
    let none : Bor (List ℕ) = record { ref_ptr = (0, 0); now = [] } in
    bad_origin c.args.atoms.now none c.in-Some.refusal c.requires (sym c.read_numbers.ensures.fault ∙ c.in-Some.is)

pub returns-in_err-x : goal.returns-in_err-x
returns-in_err-x c =
    let none : Bor (List ℕ) = record { ref_ptr = (0, 0); now = [] } in
    let origin : List ℤ = c.read_numbers.new.out in
    err_same c.from_residual.result _ c.in_err-x.field-0.0 c.from_residual.ensures (λ e h. h)
    (bad_first_step c.args.atoms.now none origin c.in_err-x.field-0.0 c.requires (omega (arith, c.read_numbers.auto.out)) c.in_default.ensures.read c.in_err-x.ensures.none c.in_err-x.ensures.fault)

pub returns-in_err-y : goal.returns-in_err-y
returns-in_err-y c =
    let none : Bor (List ℕ) = record { ref_ptr = (0, 0); now = [] } in
    let origin : List ℤ = c.read_numbers.new.out in
    err_same c.from_residual-in_err-y.result _ c.in_err-y.field-0.0 c.from_residual-in_err-y.ensures (λ e h. h)
    (bad_second_step c.args.atoms.now none origin c.in_ok-x.x c.in_err-y.field-0.0 c.requires (omega (arith, c.read_numbers.auto.out)) c.in_default.ensures.read c.in_ok-x.ensures.step c.in_err-y.ensures.none c.in_err-y.ensures.fault)

pub returns-in_err-z : goal.returns-in_err-z
returns-in_err-z c =
    let none : Bor (List ℕ) = record { ref_ptr = (0, 0); now = [] } in
    let origin : List ℤ = c.read_numbers.new.out in
    err_same c.from_residual-in_err-z.result _ c.in_err-z.field-0.0 c.from_residual-in_err-z.ensures (λ e h. h)
    (bad_third_step c.args.atoms.now none origin c.in_ok-x.x c.in_ok-y.y c.in_err-z.field-0.0 c.requires (omega (arith, c.read_numbers.auto.out)) c.in_default.ensures.read c.in_ok-x.ensures.step c.in_ok-y.ensures.step c.in_err-z.ensures.none
    c.in_err-z.ensures.fault)

pub of_ray-requires : goal.of_ray-requires
of_ray-requires c = held_small c.vector_at-origin.result c.in_ok-x.x c.in_ok-y.y c.in_ok-z.z c.in_ok-x.ensures.within c.in_ok-y.ensures.within c.in_ok-z.ensures.within

pub returns-in-Ok : goal.returns-in-Ok
unfolding slant_refusal
returns-in-Ok c =
    let none : Bor (List ℕ) = record { ref_ptr = (0, 0); now = [] } in
    let numbers : List ℤ = c.read_numbers.new.out in
    let made : SlantRay = held c.vector_at-origin.result c.in_ok-x.x c.in_ok-y.y c.in_ok-z.z in
    seen_ray made c.in-Ok.ray (slant_fault made) c.in-Ok.ensures.value
    ∙ ap ray_unless_fault (held_is c.vector_at-origin.result (vector_at (map (λ (n : ℤ). Some n) numbers) 0) c.in_ok-x.x c.in_ok-y.y c.in_ok-z.z c.vector_at-origin.ensures.value c.in_ok-x.ensures.within c.in_ok-y.ensures.within c.in_ok-z.ensures.within)
    ∙ good_ray c.args.atoms.now none numbers c.in_ok-x.x c.in_ok-y.y c.in_ok-z.z c.requires (omega (arith, c.read_numbers.auto.out)) c.in_default.ensures.read c.in_ok-x.ensures.step c.in_ok-y.ensures.step c.in_ok-z.ensures.step

pub returns-in-Err : goal.returns-in-Err
unfolding slant_refusal
returns-in-Err c =
    let none : Bor (List ℕ) = record { ref_ptr = (0, 0); now = [] } in
    let numbers : List ℤ = c.read_numbers.new.out in
    let made : SlantRay = held c.vector_at-origin.result c.in_ok-x.x c.in_ok-y.y c.in_ok-z.z in
    unseen_ray made c.in-Err.fault (slant_fault made) c.in-Err.ensures.value
    ∙ ap ray_unless_fault (held_is c.vector_at-origin.result (vector_at (map (λ (n : ℤ). Some n) numbers) 0) c.in_ok-x.x c.in_ok-y.y c.in_ok-z.z c.vector_at-origin.ensures.value c.in_ok-x.ensures.within c.in_ok-y.ensures.within c.in_ok-z.ensures.within)
    ∙ good_ray c.args.atoms.now none numbers c.in_ok-x.x c.in_ok-y.y c.in_ok-z.z c.requires (omega (arith, c.read_numbers.auto.out)) c.in_default.ensures.read c.in_ok-x.ensures.step c.in_ok-y.ensures.step c.in_ok-z.ensures.step
