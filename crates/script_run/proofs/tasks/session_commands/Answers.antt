use Rattle.std.proofs.Common.{◌<◌, ◌≡◌, ◌+◌, ◌++◌, ◌∷◌, [], ◌∙◌, ℕ, List, append_assoc, map, drop, length, ap, sym, arith}
use Rattle.std.proofs.lemmas.List.{drop_more}
use Rattle.std.specs.Arc.{arc_value}
use Rattle.transcript.specs.Merge.{Entry, lane}
use Rattle.command_set.specs.declared.command.Command.{Command}
use Rattle.mged_words.specs.Entries.{command_entry}
use Rattle.mged_words.specs.declared.command.ScriptCommand.{ScriptCommand}
use Rattle.script_run.proofs.RunLaws.{lane_one}
use Rattle.script_run.proofs.tasks.session_commands.Goals as goal

pub loop-next-preserved : goal.loop-next-preserved
loop-next-preserved c =
    let script : List ScriptCommand = c.args.script.now in
    let k : ℕ = c.args.number in
    let i : ℕ = c.loop-next.next-index in
    let next : ScriptCommand = c.next-item.result in
    let lt : i < length script = omega arith in
    let rest : List (Entry Command) = map command_entry (drop (i + 1) script) in
    let old : List Command = map arc_value c.loop-next.taken.items in
    let cut : map command_entry (drop i script) ≡ command_entry next ∷ rest =
    ap (map command_entry) (drop_more script i next lt) ∙ ap (λ (x : ScriptCommand). command_entry x ∷ rest) (sym c.next-item.is) in
    ap (λ (t : List Command). t ++ lane rest k) c.in_ok-take_command.ensures ∙ append_assoc old (lane (command_entry next ∷ []) k) (lane rest k)
    ∙ ap (λ (t : List Command). old ++ t) (lane_one (command_entry next) rest k) ∙ ap (λ (es : List (Entry Command)). old ++ lane es k) (sym cut) ∙ c.loop-next.invariant
