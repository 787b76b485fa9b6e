-- Lists of names whose test says that they are one, and what is found of their scene.
use Rattle.std.proofs.Common.{◌≡◌, ◌∙◌, ◌&&◌, Bool, true, false, List, [], ◌∷◌, ℕ, Option, Result, Ok, IfOk, refl, ap, ap₂, sym, subst}
use Rattle.std.specs.Cmp.Lexicographic.{same_text}
use Rattle.std.specs.Str.{bytes_eq}
use Rattle.name_core.specs.declared.name.Name.{Name}
use lib.Pointwise.{pointwise}
use Rattle.directory.specs.Walks.{Entries}
use Rattle.shot_core.specs.Regions.{Region}
use Rattle.scene_prep.specs.declared.fault.PrepFault.{PrepFault}
use Rattle.scene_prep.specs.Outcomes.{IsSceneOf, prep_fault}
use Rattle.scene_prep.specs.Scenes.{scene_of}
use Rattle.session_run.specs.Replies.{Outcome, found_unless, within_quota}
use Rattle.session_run.specs.declared.answer.Found.{Found}

both_step : (a b : Bool) → (a && b) ≡ true → (a ≡ true) × (b ≡ true)
both_step true true h = (refl, refl)
both_step true false h = absurd cc
both_step false b h = absurd cc

pub same_names : (xs ys : List Name) → pointwise bytes_eq xs ys ≡ true → xs ≡ ys
same_names [] [] h = refl
same_names [] (y ∷ ys) h = absurd cc
same_names (x ∷ xs) [] h = absurd cc
same_names (x ∷ xs) (y ∷ ys) h =
    let both = both_step (bytes_eq x y) (pointwise bytes_eq xs ys) h in
    ap₂ (λ (n : Name) (ns : List Name). n ∷ ns) (same_text x y (sym both.0)) (same_names xs ys both.1)

-- what is found of a scene that names come to
pub of_scene : (directory : Entries) (names : List Name) (scene : List Region) (look : List Region → Found) → IsSceneOf (Ok scene) directory names
    → Ok (look scene) ≡ found_unless (prep_fault directory names) (look (scene_of directory names))
of_scene directory names scene look is =
    ap (λ (s : List Region). Ok (look s)) is.1 ∙ sym (ap (λ (fault : Option PrepFault). found_unless fault (look (scene_of directory names))) is.0)

pub told_as : {E : Type 0} (r : Result Outcome E) (used : ℕ) (told shown : Outcome) → told ≡ shown → IfOk r (λ o. o ≡ within_quota used told) → IfOk r (λ o. o ≡ within_quota used shown)
told_as r used told shown same h = subst (λ (o : Outcome). IfOk r (λ x. x ≡ within_quota used o)) same h
