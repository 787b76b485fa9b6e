use Rattle.std.proofs.Common.{◌∙◌, ap, sym, List, ℕ, map}
use Rattle.std.specs.Borrow.{Bor}
use Rattle.mged_words.specs.Commands.{line_shoot}
use Rattle.mged_words.specs.Readings.{six_numbers}
use Rattle.mged_words.proofs.CommandLaws.{read_refused, read_passed}
use Rattle.mged_words.proofs.ViewLines.{view_names, view_bad, view_good}
use Rattle.mged_words.proofs.views.view_command.Goals as goal

pub returns-in_err-read_names : goal.returns-in_err-read_names
returns-in_err-read_names c =
    read_passed ℕ c.from_residual.result c.in_err-read_names.field-0.0 _ _ c.from_residual.ensures (λ e h. h) c.in_err-read_names.ensures.fault
    (λ refusal bad. view_names c.args.what c.args.dir (six_numbers (map (λ (a : Bor (List ℕ)). a.now) c.args.numbers.now)) (map (λ (a : Bor (List ℕ)). a.now) c.args.names.now) refusal bad)

pub returns-in_err-view : goal.returns-in_err-view
returns-in_err-view c =
    read_refused c.from_residual-in_err-view.result c.in_err-view.field-0.0 _ c.from_residual-in_err-view.ensures (λ e h. h)
    (view_bad c.args.what c.args.dir (six_numbers (map (λ (a : Bor (List ℕ)). a.now) c.args.numbers.now)) (map (λ (a : Bor (List ℕ)). a.now) c.args.names.now) c.in_err-view.field-0.0 c.in_ok-read_names.ensures.fault
    (sym c.read_view.ensures ∙ c.in_err-view.was))

pub returns : goal.returns
returns c =
    c.command.ensures
    ∙ ap (λ (ns : List (List ℕ)). line_shoot c.args.what c.in_ok-view.view ns) (c.of_vec-names.ensures ∙ c.in_ok-read_names.ensures.names)
    ∙ view_good c.args.what c.args.dir (six_numbers (map (λ (a : Bor (List ℕ)). a.now) c.args.numbers.now)) (map (λ (a : Bor (List ℕ)). a.now) c.args.names.now) c.in_ok-view.view c.in_ok-read_names.ensures.fault
    (sym c.read_view.ensures ∙ c.in_ok-view.was)
