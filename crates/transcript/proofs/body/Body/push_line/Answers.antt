use Rattle.std.proofs.Common.{ap, sym, subst, ◌∙◌, ◌++◌, ◌+◌, ◌∷◌, []}
use Rattle.transcript.specs.Lines.{lines_in, HasWholeLines}
use Rattle.transcript.proofs.LineLaws.{lines_more, whole_more}
use Rattle.transcript.proofs.body.Body.push_line.Goals as goal

pub invariant_of-self-2 : goal.invariant_of-self-2
invariant_of-self-2 c =
    subst (λ t. HasWholeLines t (c.self.inside.lines + 1)) (sym c.in_ok-push_ended.ensures.ok)
    (whole_more c.self.inside.text.items c.args.line.now c.self.inside.lines c.self.invariant c.requires.one_line)

pub returns-clause-ok : goal.returns-clause-ok
returns-clause-ok c =
    ap lines_in c.in_ok-push_ended.ensures.ok
    ∙ lines_more c.self.inside.text.items c.args.line.now c.self.inside.lines c.self.invariant c.requires.one_line
    ∙ ap (λ ls. ls ++ c.args.line.now ∷ []) c.self.view_is
