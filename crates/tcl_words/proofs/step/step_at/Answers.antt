use Rattle.std.proofs.Common.{◌∙◌, ℕ, get_or, ap, sym}
use Rattle.std.proofs.lemmas.Bool.{eqb-true}
use Rattle.tcl_words.specs.Faults.{fault_of}
use Rattle.tcl_words.proofs.Steps.{blank_step}
use Rattle.tcl_words.proofs.step.step_at.Goals as goal

pub brace_at-requires-then-is_close-clause-fault : goal.brace_at-requires-then-is_close-clause-fault
brace_at-requires-then-is_close-clause-fault c =
    c.close_fault-fault.ensures c.args.last
    ∙ ap (λ (b : ℕ). fault_of b c.args.last c.args.groups c.args.place) (sym (eqb-true (get_or c.args.text.now c.args.place 0) 125 (sym c.is_close.ensures ∙ c.if-is_close.true)))

pub returns-then-is_blank-clause-token : goal.returns-then-is_blank-clause-token
returns-then-is_blank-clause-token c = blank_step c.args.text.now c.args.place c.args.groups c.args.last c.requires.within c.requires.at (sym c.is_blank.ensures ∙ c.if-is_blank.true)
