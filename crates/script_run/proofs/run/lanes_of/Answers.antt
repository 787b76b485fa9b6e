use Rattle.std.proofs.Common.{◌≡◌, ◌<◌, ◌+◌, ◌++◌, ◌∷◌, ◌∙◌, [], ℕ, List, All, ap, ap₂, arith, map, rules, subst, sym, take}
use Rattle.std.proofs.lemmas.List.{map_push, replicate_more}
use Rattle.std.proofs.lemmas.List.Elements.{All-push}
use Rattle.transcript.specs.Merge.{Entry, lane}
use Rattle.transcript.specs.Transcript.{sessions}
use Rattle.command_set.specs.declared.command.Command.{Command}
use Rattle.mged_words.specs.Entries.{command_entry}
use Rattle.session_run.specs.Replies.{nothing_used}
use Rattle.session_run.specs.declared.answer.Answer.{Answer}
use Rattle.session_run.specs.Own.{OwnState}
use Rattle.script_run.specs.Answers.{left_of, lists_of, owns_of}
use Rattle.script_run.specs.Steps.{IsReady}
use Rattle.script_run.specs.declared.run.Lane.{Lane}
use Rattle.script_run.proofs.WriteLaws.{nth}
use Rattle.script_run.proofs.run.lanes_of.Goals as goal

pub loop-i-preserved : goal.loop-i-preserved
loop-i-preserved c =
    let script : List (Entry Command) = map command_entry c.args.script.now in
    let i : ℕ = c.loop-i.i in
    let below : i < 8 = omega arith in
    let old : List Lane = c.loop-i.lanes.items in
    let one : Lane = c.in_ok-lane_of.field-0 in
    let items : c.push.new.self.items ≡ old ++ one ∷ [] = c.in_ok-push.ensures.items in
    record {
      len = search rules;
      left = ap (map left_of) items ∙ map_push left_of old one
          ∙ ap₂ (λ (ls : List (List Command)) (l : List Command). ls ++ l ∷ []) c.loop-i.invariant.left c.in_ok-lane_of.ensures.left
          ∙ sym (map_push (lane script) (take i sessions) (i + 1)) ∙ ap (map (lane script)) (sym (nth i below));
      owns = ap owns_of items ∙ map_push (λ (l : Lane). l.own) old one
          ∙ ap₂ (λ (os : List OwnState) (o : OwnState). os ++ o ∷ []) c.loop-i.invariant.owns c.in_ok-lane_of.ensures.own ∙ replicate_more i nothing_used;
      answers = ap lists_of items ∙ map_push (λ (l : Lane). l.answers) old one
          ∙ ap₂ (λ (ls : List (List Answer)) (l : List Answer). ls ++ l ∷ []) c.loop-i.invariant.answers c.in_ok-lane_of.ensures.answers ∙ replicate_more i [];
      ready = λ book. subst (All (IsReady book)) (sym items) (All-push (IsReady book) old one (c.loop-i.invariant.ready book) (c.in_ok-lane_of.ensures.ready book));
    }
