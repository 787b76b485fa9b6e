-- What a check of a scene is answered, where its view is told in another way.
use Rattle.std.proofs.Common.{◌≡◌, ◌∙◌, ℕ, List, Ok, Err, ap}
use Rattle.std.specs.Prelude.{Result, IfOk}
use Rattle.lattice_core.specs.declared.view.View.{View}
use Rattle.shot_core.specs.Regions.{Region}
use Rattle.session_run.specs.Replies.{Outcome, lines_alone, lines_of_check, within_quota}

abbrev check_outcome : ℕ → List Region → View → Outcome
check_outcome used scene view = within_quota used (Ok (lines_alone (lines_of_check scene view)))

pub told_checked : {E : Type 0} (P Q : View → Type 0) (result : Result Outcome E) (used : ℕ) (scene : List Region) (view shown : View) → view ≡ shown
    → IfOk result (λ o. (v : View) → P v → Q v → o ≡ within_quota used (Ok (lines_alone (lines_of_check scene v)))) → P view → Q view
    → IfOk result (λ o. o ≡ within_quota used (Ok (lines_alone (lines_of_check scene shown))))
told_checked P Q (Ok o) used scene view shown e told p q = told view p q ∙ ap (check_outcome used scene) e
told_checked P Q (Err f) used scene view shown e told p q = told
