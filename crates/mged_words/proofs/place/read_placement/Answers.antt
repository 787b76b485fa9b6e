use Rattle.std.proofs.Common.{◌≡◌, ◌∙◌, ap, sym, Err, Result, List, ℕ, ℤ, Option, map, length}
use Rattle.std.specs.Borrow.{Bor}
use Rattle.std.proofs.lemmas.List.{length-map}
use Rattle.lattice_core.specs.declared.placement.Placement.{Placement}
use Rattle.command_set.specs.declared.refusal.Refusal.{Refusal}
use Rattle.word_values.specs.Kinds.{numbers_as}
use Rattle.word_values.specs.declared.atoms.NumberList.TheVariants as lists
use Rattle.word_values.proofs.KindLaws.{numbers_length}
use Rattle.mged_words.proofs.PlaceLaws.{given_refused, given_is}
use Rattle.mged_words.proofs.place.read_placement.Goals as goal

pub returns-in-Some : goal.returns-in-Some
returns-in-Some c =
    let numbers : List (Option ℤ) = numbers_as lists.Matrix (map (λ (a : Bor (List ℕ)). a.now) c.args.atoms.now) in
    ap (λ (r : Refusal). let e : Result Placement Refusal = Err r in e) c.matrix_refusal.ensures
    ∙ sym (given_refused c.args.is_group numbers c.in-Some.refusal (sym c.read_numbers.ensures.fault ∙ c.in-Some.is))

pub returns-in-None : goal.returns-in-None
returns-in-None c =
    let words : List (List ℕ) = map (λ (a : Bor (List ℕ)). a.now) c.args.atoms.now in
    let len : length (numbers_as lists.Matrix words) ≡ 16 = numbers_length lists.Matrix 0 words ∙ length-map c.args.atoms.now (λ (a : Bor (List ℕ)). a.now) ∙ c.requires in
    sym (given_is c.args.is_group (numbers_as lists.Matrix words) c.read_numbers.new.out _ (sym c.read_numbers.ensures.fault ∙ c.in_default.is) c.in_default.ensures.read len (sym c.placement_of.ensures.exact ∙ c.in-None.is))
