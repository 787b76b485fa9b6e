-- The passes of sessions joined one after the other, and their answers put into lists.
use Rattle.std.proofs.Common.{◌≡◌, ◌<◌, ◌++◌, ◌==◌, ℕ, zero, suc, Bool, true, false, cond, List, [], ◌∷◌, get_or, length, map, take, eqb-true, ◌∙◌, refl, ap, ap₂, sym, subst, arith}
use Rattle.std.proofs.lemmas.Bool.{ne_eqb}
use Rattle.std.proofs.lemmas.List.{take_more, length_push}
use Rattle.version_table.specs.Passes.{PassView, together}
use Rattle.version_table.specs.Places.{AllAbove, IsRising}
use Rattle.session_merge.specs.Joined.{HaveSeen, all_together, answers_of, passes_of, sessions_in}
use Rattle.session_merge.proofs.JoinedLaws.{joined_next}
use Rattle.command_set.specs.declared.command.Command.{Command}
use Rattle.session_run.specs.Answers.{core_answer}
use Rattle.script_run.specs.AtOnce.{all_done}
use Rattle.script_run.specs.declared.at_once.Finished.{Finished}
use mathlib.Core.List.{IsPrefix}

-- the first of a list, and one more
pub first_push : {X : Type 0} (fs xs : List X) (x : X) → xs ≡ take (length xs) fs → (length xs < length fs) × (x ≡ get_or fs (length xs) x) → xs ++ x ∷ [] ≡ take (length (xs ++ x ∷ [])) fs
first_push {X} fs xs x is at =
    ap₂ (λ (ys : List X) (y : X). ys ++ y ∷ []) is at.1 ∙ sym (take_more fs (length xs) x at.0) ∙ ap (λ (n : ℕ). take n fs) (sym (length_push xs x))

-- the sessions of the first of those that have run
above_first : (s : ℕ) (fs : List Finished) (n : ℕ) → AllAbove s (sessions_in (all_done fs)) → AllAbove s (sessions_in (all_done (take n fs)))
above_first s fs zero above = tt
above_first s [] (suc n) above = tt
above_first s (f ∷ fs) (suc n) above = (above.0, above_first s fs n above.1)

pub rising_first : (fs : List Finished) (n : ℕ) → IsRising (sessions_in (all_done fs)) → IsRising (sessions_in (all_done (take n fs)))
rising_first fs zero rising = tt
rising_first [] (suc n) rising = tt
rising_first (f ∷ fs) (suc n) rising = (above_first f.pass.session fs n rising.0, rising_first fs n rising.1)

-- one pass more
passes_push : (xs : List Finished) (x : Finished) → passes_of (all_done (xs ++ x ∷ [])) ≡ passes_of (all_done xs) ++ x.pass ∷ []
passes_push [] x = refl
passes_push (y ∷ ys) x = ap (λ (qs : List (PassView Command)). y.pass ∷ qs) (passes_push ys x)

pub joined_one : (p old new : PassView Command) (xs : List Finished) (x : Finished) → old ≡ all_together p (passes_of (all_done xs)) → HaveSeen old.seen (passes_of (all_done xs))
    → new ≡ together old x.pass → IsPrefix old.seen new.seen → IsPrefix x.pass.seen new.seen
    → (new ≡ all_together p (passes_of (all_done (xs ++ x ∷ [])))) × HaveSeen new.seen (passes_of (all_done (xs ++ x ∷ [])))
joined_one p old new xs x is seen joins begins other =
    let more : passes_of (all_done xs) ++ x.pass ∷ [] ≡ passes_of (all_done (xs ++ x ∷ [])) = sym (passes_push xs x) in
    let both = joined_next p (passes_of (all_done xs)) x.pass old new is seen joins begins other in
    (both.0 ∙ ap (all_together p) more, subst (HaveSeen new.seen) more both.1)

-- the answers of one session more, which comes after the others
last_above : (s : ℕ) (ys : List Finished) (x : Finished) → AllAbove s (sessions_in (all_done (ys ++ x ∷ []))) → s < x.pass.session
last_above s [] x above = above.0
last_above s (y ∷ ys) x above = last_above s ys x above.1

other_way : {Y : Type 0} (t u : Bool) (a b c : Y) → (t ≡ true → u ≡ false) → cond t a (cond u b c) ≡ cond u b (cond t a c)
other_way true u a b c not = sym (ap (λ (v : Bool). cond v b a) (not refl))
other_way false u a b c not = refl

pub answers_push : (xs : List Finished) (x : Finished) (k : ℕ) → IsRising (sessions_in (all_done (xs ++ x ∷ [])))
    → answers_of (all_done (xs ++ x ∷ [])) k ≡ cond (x.pass.session == k) (map core_answer x.answers) (answers_of (all_done xs) k)
answers_push [] x k rising = refl
answers_push (y ∷ ys) x k rising =
    ap (λ given. cond (y.pass.session == k) (map core_answer y.answers) given) (answers_push ys x k rising.1)
    ∙ other_way (y.pass.session == k) (x.pass.session == k) (map core_answer y.answers) (map core_answer x.answers) (answers_of (all_done ys) k)
    (λ here. ne_eqb x.pass.session k (λ same. omega (arith, eqb-true y.pass.session k here, same, last_above y.pass.session ys x rising.0)))
