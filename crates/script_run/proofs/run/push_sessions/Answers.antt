use Rattle.std.proofs.Common.{◌≡◌, ◌<◌, ◌++◌, ◌+◌, ◌∙◌, [], ap, append_assoc, get_or, arith, map}
use Rattle.std.proofs.lemmas.List.{get_or_read}
use Rattle.transcript.specs.Lines.{text_of}
use Rattle.transcript.specs.Transcript.{session_lines}
use Rattle.session_run.specs.Answers.{core_answer}
use Rattle.script_run.specs.Answers.{all_session_lines}
use Rattle.script_run.proofs.WriteLaws.{sessions_more}
use Rattle.script_run.proofs.run.push_sessions.Goals as goal

pub loop-i-preserved : goal.loop-i-preserved
loop-i-preserved c =
    let lists = c.args.lists.now in
    let i = c.loop-i.i in
    let old = c.args.text.now.items in
    let lt : i < 8 = omega arith in
    let list : c.items.result.now ≡ get_or lists i [] = c.items.ensures ∙ get_or_read lists i c.index-lists-i.result (omega (arith, c.requires.eight)) c.index-lists-i.is [] in
    c.in_ok-push_session.ensures ∙ ap (λ t. t ++ text_of (session_lines (i + 1) 1 (map core_answer c.items.result.now))) c.loop-i.invariant
    ∙ append_assoc old (text_of (all_session_lines lists i)) (text_of (session_lines (i + 1) 1 (map core_answer c.items.result.now)))
    ∙ ap (λ t. old ++ t) (sessions_more lists i c.items.result.now lt list)
