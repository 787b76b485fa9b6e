-- The transcript and the files of a script whose sessions have run at the same time.
use Rattle.std.proofs.Common.{◌≡◌, ◌≤◌, ◌<◌, ◌+◌, ◌^◌, ℕ, List, [], ◌∷◌, All, IfOk, Result, get_or, length, ◌∙◌, refl, ap, sym, subst, arith}
use Rattle.std.proofs.lemmas.Result.{IfOk-weaker}
use Rattle.std.specs.List.{list_any}
use Rattle.atomic_table.specs.Seated.{TableId}
use Rattle.object_set.proofs.Each.{by_each}
use Rattle.outside_core.specs.declared.traits.File.{File}
use Rattle.transcript.specs.Merge.{Entry, lane, order_of}
use Rattle.transcript.specs.Run as run
use Rattle.transcript.specs.Run.{Marked}
use Rattle.transcript.specs.Transcript.{transcript}
use Rattle.version_table.specs.Passes.{PassView, pass_of, together}
use Rattle.version_table.specs.Places.{places_from}
use Rattle.session_merge.specs.Answered.{AreSessions, remarked}
use Rattle.session_merge.specs.Joined.{all_together, answers_of, passes_of, places_of}
use Rattle.session_merge.specs.Noted.{entries_of}
use Rattle.session_merge.proofs.JoinedLaws.{calls_of_all, joined_sessions, total_lanes}
use Rattle.session_merge.proofs.OutcomeLaws.{commands_of_run, own_answers, remarked_order}
use Rattle.command_set.specs.declared.command.Command.{Command}
use Rattle.directory.specs.Listing.{Listing}
use Rattle.mged_words.specs.Entries.{HasSession}
use Rattle.mged_words.specs.Readable.{IsReadable}
use Rattle.session_run.specs.Replies.{core_rules, start_from}
use Rattle.session_run.specs.declared.answer.Answer.{Answer}
use Rattle.session_run.proofs.EditLaws.{IsPlainListing}
use Rattle.script_run.specs.Answers.{core_answers, is_refused}
use Rattle.script_run.specs.AtOnce.{AreAllRun}
use Rattle.script_run.specs.Runs.{IsOfEight, IsOrderedRun, IsRun}
use Rattle.script_run.specs.declared.run.Run.{Run}
use Rattle.script_run.proofs.RunLaws.{IsRunBy, few_answers, ordered_run, run_sessions}

together_table : (p : PassView Command) (qs : List (PassView Command)) → (all_together p qs).table ≡ p.table
together_table p [] = refl
together_table p (q ∷ qs) = together_table (together p q) qs

module _ (d : Listing) (id : TableId) (script : List (Entry Command)) (pass : PassView Command) (lists : List (List Answer)) (in_session : All HasSession script)
    (all : AreAllRun d id script pass lists) where
  abbrev first : PassView Command
  first = pass_of id 0 [] [] 0

  -- the pass has no call left, and an entry for each command
  pub all_calls : (pass.table ≡ id) × (pass.left + length pass.own ≡ length script) × (length pass.own ≡ length script)
  all_calls =
      let calls = calls_of_all core_rules (start_from d) (lane script) first all.done all.run in
      let left : pass.left ≡ 0 = ap (λ (p : PassView Command). p.left) all.pass_is ∙ calls.0 in
      let own : length pass.own ≡ length script = omega (arith, ap (λ (p : PassView Command). length p.own) all.pass_is, calls.1, total_lanes script (by_each HasSession script in_session)) in
      (ap (λ (p : PassView Command). p.table) all.pass_is ∙ together_table first (passes_of all.done), omega (arith, left, own), own)

  module _ (whole : pass.own ≡ places_from 0 (length pass.seen)) where
    are : AreSessions core_rules (start_from d) (lane script) (entries_of pass.seen) (places_of all.done) (answers_of all.done)
    are = joined_sessions core_rules (start_from d) (lane script) first all.done pass all.run refl all.pass_is all.seen whole

    -- the entries of the run
    abbrev entries : List (Entry (Marked Command))
    entries = remarked (entries_of pass.seen) (answers_of all.done)

    by : IsRunBy d script entries lists
    by = record {
      commands = commands_of_run core_rules (start_from d) (lane script) (entries_of pass.seen) (places_of all.done) (answers_of all.done) are;
      answers = λ k.
          all.answers k
          ∙ ap (λ (f : ℕ → List (run.Answer File)). f k) (own_answers core_rules (start_from d) (lane script) (entries_of pass.seen) (places_of all.done) (answers_of all.done) are);
    }

    order_is : order_of entries ≡ order_of (entries_of pass.seen)
    order_is = remarked_order (entries_of pass.seen) (answers_of all.done)

    pub history_sessions : All IsOfEight (order_of (entries_of pass.seen))
    history_sessions = subst (All IsOfEight) order_is (run_sessions d script entries lists in_session by)

    -- no session has more answers than the script has commands
    pub few_at_once : (i : ℕ) → length (get_or lists i []) ≤ length script
    few_at_once i = few_answers d script entries lists in_session by i

    pub at_once : {E : Type 0} (r : Result Run E) (order : List ℕ) → IsPlainListing d → All IsReadable script → length script + 1 < 2 ^ 32 → order ≡ order_of (entries_of pass.seen) → length lists ≡ 8
        → IfOk r (λ x. x.text.items ≡ transcript order (core_answers lists)) → IfOk r (λ x. x.order.items ≡ order) → IfOk r (λ x. x.answers.items ≡ lists)
        → IfOk r (λ x. x.some_refused ≡ list_any (list_any is_refused) lists)
        → IfOk r (λ x. IsRun d script x.text.items x.order.items x.answers.items x.some_refused)
    at_once r order plain readable few same eight text order_same answers_same refused =
        IfOk-weaker r (λ x. IsOrderedRun d script order x.text.items x.order.items x.answers.items x.some_refused) (λ x. IsRun d script x.text.items x.order.items x.answers.items x.some_refused)
        (λ x is. is.run) (ordered_run d script entries lists in_session by r order plain readable few (same ∙ sym order_is) eight text order_same answers_same refused)
