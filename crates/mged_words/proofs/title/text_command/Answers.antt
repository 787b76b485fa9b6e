use Rattle.std.proofs.Common.{◌≡◌, ◌∙◌, ℕ, List, true, ap, sym, refl}
use Rattle.std.proofs.lemmas.Bool.{cond-true}
use Rattle.command_set.specs.declared.command.Command.TheVariants.{Bad, Edit}
use Rattle.command_set.specs.declared.command.Edit.TheVariants.{Title}
use Rattle.command_set.specs.declared.refusal.Refusal.TheVariants.{Syntax}
use Rattle.put_form.specs.Keeps.{is_text}
use Rattle.mged_words.proofs.TextLaws.{value_text}
use Rattle.mged_words.proofs.title.text_command.Goals as goal

pub returns-in-Some : goal.returns-in-Some
returns-in-Some c =
    let text : List ℕ = c.args.text.now in
    let same = c.in_ok-from_slice.ensures.items in
    let fits : is_text text ≡ true = ap is_text (sym same) ∙ value_text c.in_ok-from_slice.field-0.items (c.in-Some.ensures.some.0 refl) in
    ap (λ (t : List ℕ). Edit (Title t)) (c.in-Some.ensures.value ∙ same) ∙ sym (cond-true (is_text text) (Edit (Title text)) (Bad Syntax) fits)
