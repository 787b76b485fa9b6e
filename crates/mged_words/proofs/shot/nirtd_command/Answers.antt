use Rattle.std.proofs.Common.{◌∙◌, ap, sym, List, ℕ, arith}
use Rattle.command_set.specs.declared.command.Command.TheVariants.{Query}
use Rattle.command_set.specs.declared.command.Query.TheVariants.{Slant}
use Rattle.mged_words.proofs.CommandLaws.{read_refused, read_passed}
use Rattle.mged_words.proofs.SlantLines.{nirtd_short, nirtd_names, nirtd_bad, nirtd_good}
use Rattle.mged_words.proofs.shot.nirtd_command.Goals as goal

pub returns-then-atoms-lt7 : goal.returns-then-atoms-lt7
returns-then-atoms-lt7 c = nirtd_short c.args.atoms.now c.if-atoms-lt7.true

pub returns-in_err-read_names : goal.returns-in_err-read_names
returns-in_err-read_names c =
    read_passed ℕ c.from_residual.result c.in_err-read_names.field-0.0 _ _ c.from_residual.ensures (λ e h. h) c.in_err-read_names.ensures.fault
    (λ refusal bad. nirtd_names c.args.atoms.now refusal (omega (arith, c.if-atoms-lt7.false)) bad)

pub returns-in_err-ray : goal.returns-in_err-ray
returns-in_err-ray c =
    read_refused c.from_residual-in_err-ray.result c.in_err-ray.field-0.0 _ c.from_residual-in_err-ray.ensures (λ e h. h)
    (nirtd_bad c.args.atoms.now c.in_err-ray.field-0.0 (omega (arith, c.if-atoms-lt7.false)) c.in_ok-read_names.ensures.fault (sym c.read_slant.ensures ∙ c.in_err-ray.was))

pub returns : goal.returns
returns c =
    ap (λ (ns : List (List ℕ)). Query (Slant c.in_ok-ray.ray ns)) (c.of_vec-names.ensures ∙ c.in_ok-read_names.ensures.names)
    ∙ nirtd_good c.args.atoms.now c.in_ok-ray.ray (omega (arith, c.if-atoms-lt7.false)) c.in_ok-read_names.ensures.fault (sym c.read_slant.ensures ∙ c.in_ok-ray.was)
