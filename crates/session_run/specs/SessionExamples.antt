-- A session of an edit and a look, with an edit of another session between them.
use Rattle.std.specs.Prelude.{◌≡◌, refl, ℕ, true, false, [], ◌∷◌, List, Ok, Err, codes, map}
use Rattle.std.proofs.Common.{arith}
use Rattle.atomic_table.specs.Seated.{TableId}
use Rattle.version_table.specs.declared.rule.Noted.{Noted}
use Rattle.version_table.specs.Passes.{pass_of}
use Rattle.version_table.specs.Run.{note_of}
use Rattle.command_set.specs.declared.command.Command.{Command}
use Rattle.command_set.specs.declared.command.Command.TheVariants.{Edit as IsEdit, Query as IsQuery}
use Rattle.command_set.specs.declared.command.Edit.TheVariants.{Title}
use Rattle.command_set.specs.declared.command.Query.TheVariants as queries
use Rattle.command_set.specs.declared.refusal.Refusal.TheVariants.{Memory}
use Rattle.edit_core.specs.Modelling.{is_look}
use Rattle.session_run.specs.Answers.{core_answer}
use Rattle.session_run.specs.Replies.{lines_alone, no_objects, nothing_used}
use Rattle.session_run.specs.Sessions.{HasRun, marks_of}
use Rattle.session_run.specs.declared.answer.Answer.{Answer}

abbrev edit : Command
edit = IsEdit (Title (codes "t"))

abbrev look : Command
look = IsQuery queries.Names

abbrev seen : List (Noted Command)
seen = note_of 1 edit false ∷ note_of 2 (IsEdit (Title (codes "u"))) false ∷ note_of 1 look false ∷ []

abbrev accepted : ℕ → Answer
accepted version = record { version = version; outcome = Ok (lines_alone []) }

abbrev no_memory : ℕ → Answer
no_memory version = record { version = version; outcome = Err Memory }

-- the edit makes version 1, and the look sees version 2, which is the other session's
pub an_edit_and_a_look : (table : TableId) → HasRun no_objects nothing_used (edit ∷ look ∷ []) (pass_of table 1 [] [] 2) (pass_of table 1 seen (0 ∷ 2 ∷ []) 0) (accepted 1 ∷ accepted 2 ∷ [])
an_edit_and_a_look table = record {
  places = 0 ∷ 2 ∷ [];
  grown = refl;
  rising = ((omega arith, tt), (tt, tt));
  later = (omega arith, (omega arith, tt));
  answered = (
    record { noted = record { command = edit; memory = false }; there = refl; same = refl; agrees = λ book. refl; answer_is = refl },
    (record { noted = record { command = look; memory = false }; there = refl; same = refl; agrees = λ book. refl; answer_is = refl }, tt),
  );
  marks = refl;
  begins = (seen, refl);
  left = refl;
  table = refl;
  session = refl;
}

-- a look that found no memory has no mark
pub a_look_without_memory : (table : TableId) → HasRun no_objects nothing_used (edit ∷ look ∷ []) (pass_of table 1 [] [] 2) (pass_of table 1 seen (0 ∷ 2 ∷ []) 0) (accepted 1 ∷ no_memory 2 ∷ [])
a_look_without_memory table = record {
  places = 0 ∷ 2 ∷ [];
  grown = refl;
  rising = ((omega arith, tt), (tt, tt));
  later = (omega arith, (omega arith, tt));
  answered = (
    record { noted = record { command = edit; memory = false }; there = refl; same = refl; agrees = λ book. refl; answer_is = refl },
    (record { noted = record { command = look; memory = false }; there = refl; same = refl; agrees = λ book. refl; answer_is = refl }, tt),
  );
  marks = refl;
  begins = (seen, refl);
  left = refl;
  table = refl;
  session = refl;
}

-- only an edit is marked
pub marks_of_both : marks_of is_look (edit ∷ look ∷ []) (map core_answer (no_memory 0 ∷ no_memory 0 ∷ [])) ≡ true ∷ false ∷ []
marks_of_both = refl
