-- A run of a session while a picture or a check is in flight: its answer is still open, and those of the edits since are known.
use Rattle.std.proofs.Common.{◌≡◌, ◌∙◌, ◌++◌, ◌∷◌, [], ℕ, List, Option, None, Some, IfSome, Err, false, true, length, refl, ap, sym, subst, append_assoc}
use Rattle.std.specs.Prelude.{IfNone, IsSome}
use Rattle.std.proofs.lemmas.Bool.{true≢false}
use Rattle.std.specs.Arc.{arc_value}
use Rattle.std.specs.Prelude.{slice_set}
use Rattle.version_table.specs.Passes.{Adds, PassView}
use Rattle.version_table.specs.Run.{commits_in, note_of, state_after}
use Rattle.version_table.specs.declared.rule.Noted.{Noted}
use Rattle.command_set.specs.declared.command.Command.{Command}
use Rattle.command_set.specs.declared.command.Command.TheVariants.{Bad, Edit as IsEdit, Query as IsQuery, Shoot as IsShoot}
use Rattle.directory.specs.Listing.{Listing}
use Rattle.edit_core.specs.Modelling.{commits, is_look, next}
use Rattle.command_set.specs.declared.refusal.Refusal.TheVariants.{Memory}
use Rattle.session_run.specs.Flights.{Flies, IsBegun, IsBegunNext, IsLook, IsPostedNext, IsShooting, does_fly}
use Rattle.session_run.specs.Replies.{forgotten}
use Rattle.session_run.specs.declared.session.Begun.{Begun}
use Rattle.session_run.specs.declared.session.Begun.TheVariants.{Answered, InFlight}
use Rattle.session_run.specs.declared.flight.Flight.{Flight}
use Rattle.session_run.specs.declared.session.Waiting.{Waiting}
use Rattle.session_run.specs.Own.{OwnState}
use Rattle.session_run.specs.Sessions.{HasRun, IsNext}
use Rattle.session_run.specs.declared.answer.Answer.{Answer}
use Rattle.session_run.proofs.SessionLaws.{Holds, holds_next, look_next}

-- What holds of a session while the answer of one command is awaited: whatever answer of that command is put at its place, with
-- what the session has of its own after it, what holds of a session then holds.
pub record IsAwaited (opening : Listing) (first : OwnState) (commands : List Command) (old new : PassView Command) (answers : List Answer) (own : OwnState) (d : Listing) (version : ℕ) (command : Command) (place : ℕ) : Type 0 where
  pub before : List Answer
  pub waiting : Answer
  pub since : List Answer
  pub are : answers ≡ before ++ waiting ∷ since
  pub place_is : length before ≡ place
  pub rest : (answer : Answer) (kept : OwnState) → IsLook d version command own answer kept → Holds opening first commands old new (before ++ answer ∷ since) kept

module _ (opening : Listing) (first own : OwnState) (commands : List Command) (command : Command) (old mid new : PassView Command) (answers : List Answer) where
  -- a command was posted
  pub await_first : (version : ℕ) (d : Listing) (waiting : Answer) → is_look command ≡ true → (before : List (Noted Command)) → Adds before (note_of mid.session command false) mid new
      → version ≡ commits_in next commits opening new.seen → d ≡ state_after next opening new.seen
      → Holds opening first commands old mid answers own → IsAwaited opening first (commands ++ command ∷ []) old new (answers ++ waiting ∷ []) own d version command (length answers)
  await_first version d waiting looks before adds version_is d_is h = record {
    before = answers;
    waiting = waiting;
    since = [];
    are = refl;
    place_is = refl;
    rest = λ answer kept is. holds_next opening first own kept commands command old mid new answers answer h (look_next opening command own mid new version looks before adds version_is d answer kept d_is is.0 is.1);
  }

  -- an edit since
  pub await_next : (answer : Answer) (d : Listing) (version : ℕ) (asked : Command) (place : ℕ) → ((any : OwnState) → IsNext opening command any mid new answer any)
      → IsAwaited opening first commands old mid answers own d version asked place → IsAwaited opening first (commands ++ command ∷ []) old new (answers ++ answer ∷ []) own d version asked place
  await_next answer d version asked place edits h = record {
    before = h.before;
    waiting = h.waiting;
    since = h.since ++ answer ∷ [];
    are = ap (λ (l : List Answer). l ++ answer ∷ []) h.are ∙ append_assoc h.before (h.waiting ∷ h.since) (answer ∷ []);
    place_is = h.place_is;
    rest = λ known kept is.
        subst (λ (l : List Answer). Holds opening first (commands ++ command ∷ []) old new l kept) (append_assoc h.before (known ∷ h.since) (answer ∷ []))
        (holds_next opening first kept kept commands command old mid new (h.before ++ known ∷ h.since) answer (h.rest known kept is) (edits kept));
  }

put_at : (before since : List Answer) (waiting answer : Answer) → slice_set (before ++ waiting ∷ since) (length before) answer ≡ before ++ answer ∷ since
put_at [] since waiting answer = refl
put_at (a ∷ before) since waiting answer = ap (λ (l : List Answer). a ∷ l) (put_at before since waiting answer)

-- the command's answer is put at its place
pub await_last : (opening : Listing) (first own kept : OwnState) (commands : List Command) (old new : PassView Command) (answers : List Answer) (d : Listing) (version : ℕ) (command : Command) (place : ℕ) (answer : Answer)
    → IsAwaited opening first commands old new answers own d version command place → IsLook d version command own answer kept → Holds opening first commands old new (slice_set answers place answer) kept
await_last opening first own kept commands old new answers d version command place answer h is =
    subst (λ (l : List Answer). Holds opening first commands old new l kept)
    (sym (ap (λ (l : List Answer). slice_set l place answer) h.are ∙ ap (λ (n : ℕ). slice_set (h.before ++ h.waiting ∷ h.since) n answer) (sym h.place_is) ∙ put_at h.before h.since h.waiting answer))
    (h.rest answer kept is)

-- What holds of a session after some of its commands: its answers are known, or one of them is awaited.
abbrev pub IsOpen : {X : Type 0} → Listing → OwnState → List Command → PassView Command → PassView Command → List Answer → Option (Waiting X) → OwnState → Type 0
IsOpen opening first commands old new answers None own = Holds opening first commands old new answers own
IsOpen opening first commands old new answers (Some w) own =
    IsAwaited opening first commands old new answers own (arc_value w.flight.directory) w.flight.version (arc_value w.flight.command) w.place
    × Flies (arc_value w.flight.directory) own (arc_value w.flight.command) w.flight.flying × IsShooting (arc_value w.flight.command)

module _ {X : Type 0} (opening : Listing) (first own : OwnState) (commands : List Command) (old new : PassView Command) (answers : List Answer) where
  -- what is in flight is gathered
  pub settled : (waiting : Option (Waiting X)) (kept : OwnState) (told : List Answer) → IsOpen opening first commands old new answers waiting own
      → IfSome waiting (λ w. (answer : Answer) × IsLook (arc_value w.flight.directory) w.flight.version (arc_value w.flight.command) own answer kept × (told ≡ slice_set answers w.place answer))
      → IfNone waiting ((told ≡ answers) × (kept ≡ own)) → Holds opening first commands old new told kept
  settled None kept told h some none =
      subst (λ (l : List Answer). Holds opening first commands old new l kept) (sym none.0) (subst (λ (o : OwnState). Holds opening first commands old new answers o) (sym none.1) h)
  settled (Some w) kept told h some none =
      subst (λ (l : List Answer). Holds opening first commands old new l kept) (sym some.2)
      (await_last opening first own kept commands old new answers (arc_value w.flight.directory) w.flight.version (arc_value w.flight.command) w.place some.0 h.0 some.1)

  -- what is known of the pass either way
  pub still_of_table : (waiting : Option (Waiting X)) → IsOpen opening first commands old new answers waiting own → (answer : Answer) (kept : OwnState)
      → IfSome waiting (λ w. IsLook (arc_value w.flight.directory) w.flight.version (arc_value w.flight.command) own answer kept) → new.table ≡ old.table
  still_of_table None h answer kept is = h.table
  still_of_table (Some w) h answer kept is = (h.0.rest answer kept is).table

  -- some answer would be one, so what is known of the pass is known already
  pub would_hold : (waiting : Option (Waiting X)) → IsOpen opening first commands old new answers waiting own → (told : List Answer) × (kept : OwnState) × Holds opening first commands old new told kept
  would_hold None h = (answers, own, h)
  would_hold (Some w) h =
      let command : Command = arc_value w.flight.command in
      let missed : Answer = record { version = w.flight.version; outcome = Err Memory } in
      (h.0.before ++ missed ∷ h.0.since, forgotten own command, h.0.rest missed (forgotten own command) (refl, refl))

  -- an edit more
  pub open_edit : (waiting : Option (Waiting X)) (command : Command) (newer : PassView Command) (answer : Answer) → IsOpen opening first commands old new answers waiting own
      → ((any : OwnState) → IsNext opening command any new newer answer any) → IsOpen opening first (commands ++ command ∷ []) old newer (answers ++ answer ∷ []) waiting own
  open_edit None command newer answer h next = holds_next opening first own own commands command old new newer answers answer h (next own)
  open_edit (Some w) command newer answer h next =
      (await_next opening first own commands command old new newer answers answer (arc_value w.flight.directory) w.flight.version (arc_value w.flight.command) w.place next h.0, h.1, h.2)

-- a command that is put into flight shoots each ray of a view
pub shooting : (command : Command) → does_fly command ≡ true → IsShooting command
shooting (Bad refusal) h = absurd cc
shooting (IsEdit edit) h = absurd cc
shooting (IsQuery query) h = absurd cc
shooting (IsShoot shoot) h = (shoot, refl)

-- a command was begun at the state that its entry finds
pub begun_next : {X : Type 0} (opening : Listing) (command : Command) (own kept : OwnState) (old new : PassView Command) (d : Listing) (version : ℕ) (asked : Command) (begun : Begun X) → is_look command ≡ true → IsShooting command
    → (before : List (Noted Command)) → Adds before (note_of old.session command false) old new → version ≡ commits_in next commits opening new.seen → d ≡ state_after next opening new.seen → asked ≡ command
    → IsBegun d version asked own kept begun → IsBegunNext opening command own kept old new begun
begun_next opening command own kept old new d version asked (Answered answer) looks shoots before adds version_is d_is asked_is is =
    let look : IsLook d version command own answer kept = subst (λ (c : Command). IsLook d version c own answer kept) asked_is is in
    look_next opening command own old new version looks before adds version_is d answer kept d_is look.0 look.1
begun_next opening command own kept old new d version asked (InFlight f) looks shoots before adds version_is d_is asked_is is = (
  record { before = before; adds = adds; version_is = is.0 ∙ version_is; directory_is = is.1 ∙ d_is; asked_is = is.2 ∙ asked_is; kept_is = is.4; shoots = shoots },
  subst (λ (c : Command). Flies (arc_value f.directory) own c f.flying) asked_is (subst (λ (x : Listing). Flies x own asked f.flying) (sym is.1) is.3),
)

-- what was posted is awaited
pub open_posted : {X : Type 0} (opening : Listing) (first own kept : OwnState) (commands : List Command) (command : Command) (old mid new : PassView Command) (answers told : List Answer) (waiting : Option (Waiting X)) (f : Flight X)
    (placed : Answer) → is_look command ≡ true → Holds opening first commands old mid answers own
    → IsPostedNext opening command own mid new (arc_value f.directory) f.version (arc_value f.command) kept → Flies (arc_value f.directory) own command f.flying → told ≡ answers ++ placed ∷ []
    → IsSome waiting → IfSome waiting (λ w. (w.place ≡ length answers) × (w.flight ≡ f)) → IsOpen opening first (commands ++ command ∷ []) old new told waiting kept
open_posted opening first own kept commands command old mid new answers told None f placed looks held posted flies told_is some at = absurd (true≢false (sym some))
open_posted {X} opening first own kept commands command old mid new answers told (Some w) f placed looks held posted flies told_is some at =
    let cs : List Command = commands ++ command ∷ [] in
    let d : Listing = arc_value f.directory in
    let asked : Command = arc_value f.command in
    let one : IsAwaited opening first cs old new (answers ++ placed ∷ []) own d f.version command (length answers) =
    await_first opening first own commands command old mid new answers f.version d placed looks posted.before posted.adds posted.version_is posted.directory_is held in
    let two : IsAwaited opening first cs old new told own d f.version command (length answers) = subst (λ (l : List Answer). IsAwaited opening first cs old new l own d f.version command (length answers)) (sym told_is) one in
    let three : IsAwaited opening first cs old new told kept d f.version command (length answers) =
    subst (λ (o : OwnState). IsAwaited opening first cs old new told o d f.version command (length answers)) (sym posted.kept_is) two in
    let four : IsAwaited opening first cs old new told kept d f.version asked (length answers) =
    subst (λ (c : Command). IsAwaited opening first cs old new told kept d f.version c (length answers)) (sym posted.asked_is) three in
    let five : IsAwaited opening first cs old new told kept d f.version asked w.place = subst (λ (n : ℕ). IsAwaited opening first cs old new told kept d f.version asked n) (sym at.0) four in
    let flown : Flies d kept asked f.flying =
    subst (λ (o : OwnState). Flies d o asked f.flying) (sym posted.kept_is) (subst (λ (c : Command). Flies d own c f.flying) (sym posted.asked_is) flies) in
    subst
    (λ (x : Flight X).
    IsAwaited opening first cs old new told kept (arc_value x.directory) x.version (arc_value x.command) w.place × Flies (arc_value x.directory) kept (arc_value x.command) x.flying × IsShooting (arc_value x.command))
    (sym at.1) (five, flown, subst IsShooting (sym posted.asked_is) posted.shoots)

-- a session that has answered all its commands has run
pub has_run : (opening : Listing) (first kept : OwnState) (commands : List Command) (old new : PassView Command) (answers : List Answer) → Holds opening first commands old new answers kept → HasRun opening first commands old new answers
has_run opening first kept commands old new answers h = record {
  places = h.places;
  grown = h.grown;
  rising = h.more.rising;
  later = h.later;
  answered = h.more.answered;
  marks = h.more.marks;
  begins = h.begins;
  left = h.left;
  table = h.table;
  session = h.session;
}
