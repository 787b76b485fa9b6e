-- A run of a session, one command after the other.
use Rattle.std.proofs.Common.{◌≡◌, ◌≤◌, ◌+◌, ℕ, Bool, true, false, not, ◌&&◌, cond, List, [], ◌∷◌, ◌++◌, Option, None, Some, IfOk, Result, Ok, Err, is_err, length, map, codes, ◌∙◌, refl, ap, ap₂, sym, subst, arith, append_assoc, length-append}
use Rattle.std.proofs.lemmas.List.{append-nil, map_push}
use Rattle.std.proofs.lemmas.Option.{IfSome_then}
use Rattle.std.specs.Arc.{arc_value}
use Rattle.std.specs.HashMap.{get}
use Rattle.std.specs.List.{AllByRecursion}
use mathlib.Core.List.{IsPrefix}
use Rattle.outside_core.specs.declared.traits.File.{File}
use Rattle.transcript.specs.Run as run
use Rattle.transcript.specs.Run.{Accepted, Refused, answer_of, book_after, committed, own_after}
use Rattle.version_table.specs.declared.rule.Noted.{Noted}
use Rattle.version_table.specs.Passes.{Adds, IsEdit, PassView}
use Rattle.version_table.specs.Run.{note_of, commits_in, state_after}
use Rattle.session_merge.specs.Answered.{book_past, reply_says_memory, says_memory, shown_as}
use Rattle.session_merge.specs.Noted.{entries_of, marked_of}
use Rattle.session_merge.proofs.AnsweredLaws.{look_agrees, look_stays}
use Rattle.session_merge.proofs.CountLaws.{state_by_version, versions_never_fall}
use Rattle.command_set.specs.Refusals.{refusal_text}
use Rattle.command_set.specs.declared.command.Command.{Command}
use Rattle.command_set.specs.declared.command.Command.TheVariants.{Bad, Edit as IsAnEdit, Query as IsQuery, Shoot as IsShoot}
use Rattle.command_set.specs.declared.command.Edit.{Edit}
use Rattle.command_set.specs.declared.refusal.Refusal.{Refusal}
use Rattle.command_set.specs.declared.refusal.Refusal.TheVariants.{Memory}
use Rattle.directory.specs.Listing.{Listing}
use Rattle.edit_core.specs.Edits.{made}
use Rattle.edit_core.specs.Refused.{edited, refusal_of, unless}
use Rattle.edit_core.specs.Modelling.{next, commits, is_look, reply, edit_reply}
use Rattle.session_run.specs.Answers.{core_answer}
use Rattle.session_run.specs.Kept.{IsCurrent, IsOf}
use Rattle.scene_prep.specs.Outcomes.{IsSceneOf}
use Rattle.name_core.specs.Same.{same_name}
use Rattle.session_run.specs.Replies.{core_rules, directory_made, edit_outcome, forgotten, own_with, shown, table_outcome}
use Rattle.session_run.specs.Sessions.{IsCurrentPast, IsNext, book_at, mark_of, start_book}
use Rattle.session_run.specs.declared.answer.Answer.{Answer}
use Rattle.session_run.specs.Own.{OwnState}
use Rattle.session_run.specs.declared.keep.Keep.{Keep}
use Rattle.session_run.specs.declared.keep.KeptScene.{KeptScene}
use Rattle.session_run.proofs.MoreLaws.{HasMore, IsMore, begins_all, book_is, book_more, grows, has_more}
use Rattle.session_run.proofs.TellLaws.{IsOther, MayBeOther, refusal_other}

-- what holds of a session after some of its commands
pub record Holds (opening : Listing) (first : OwnState) (commands : List Command) (old new : PassView Command) (answers : List Answer) (own : OwnState) : Type 0 where
  pub places : List ℕ
  pub grown : new.own ≡ old.own ++ places
  pub later : AllByRecursion (λ (p : ℕ). length old.seen ≤ p) places
  pub more : HasMore core_rules is_look old.session (start_book opening) new.seen places first commands (map core_answer answers) own
  pub begins : IsPrefix old.seen new.seen
  pub left : new.left + length commands ≡ old.left
  pub table : new.table ≡ old.table
  pub session : new.session ≡ old.session

pub holds_first : (opening : Listing) (own : OwnState) (pass : PassView Command) → Holds opening own [] pass pass [] own
holds_first opening own pass = record {
  places = [];
  grown = sym (append-nil pass.own);
  later = tt;
  more = record { rising = tt; answered = tt; marks = refl; kept_is = refl };
  begins = ([], append-nil pass.seen);
  left = omega arith;
  table = refl;
  session = refl;
}

-- a place past the others
all_more : (n : ℕ) (places : List ℕ) (place : ℕ) → AllByRecursion (λ (p : ℕ). n ≤ p) places → n ≤ place → AllByRecursion (λ (p : ℕ). n ≤ p) (places ++ place ∷ [])
all_more n [] place all le = (le, tt)
all_more n (p ∷ places) place all le = (all.0, all_more n places place all.1 le)

prefix_length : (xs ys : List (Noted Command)) → IsPrefix xs ys → length xs ≤ length ys
prefix_length xs ys p = omega (arith, length-append xs p.0, ap (length {A = Noted Command}) p.1)

pub holds_next : (opening : Listing) (first own kept : OwnState) (commands : List Command) (command : Command) (old mid new : PassView Command) (answers : List Answer) (answer : Answer)
    → Holds opening first commands old mid answers own → IsNext opening command own mid new answer kept → Holds opening first (commands ++ command ∷ []) old new (answers ++ answer ∷ []) kept
holds_next opening first own kept commands command old mid new answers answer h n =
    let a : Adds n.before (note_of mid.session command n.memory) mid new = n.adds in
    let seen : new.seen ≡ n.before ++ note_of old.session command n.memory ∷ [] = a.seen ∙ ap (λ s. n.before ++ note_of s command n.memory ∷ []) h.session in
    let more : IsMore core_rules is_look old.session (start_book opening) mid.seen n.before new.seen command n.memory own (core_answer answer) =
    record { begins = a.begins; seen_is = seen; mark = n.mark; agrees = λ book. n.agrees book; answer_is = n.answer_is } in
    let whole : HasMore core_rules is_look old.session (start_book opening) new.seen (h.places ++ length n.before ∷ []) first (commands ++ command ∷ []) (map core_answer answers ++ core_answer answer ∷ []) kept =
    has_more core_rules is_look old.session (start_book opening) mid.seen n.before new.seen h.places first commands (map core_answer answers) own kept command n.memory (core_answer answer) h.more more n.kept_is in
    record {
      places = h.places ++ length n.before ∷ [];
      grown = a.own ∙ ap (λ l. l ++ length n.before ∷ []) h.grown ∙ append_assoc old.own h.places (length n.before ∷ []);
      later = all_more (length old.seen) h.places (length n.before) h.later (omega (arith, prefix_length old.seen mid.seen h.begins, prefix_length mid.seen n.before a.begins));
      more = subst (λ told. HasMore core_rules is_look old.session (start_book opening) new.seen (h.places ++ length n.before ∷ []) first (commands ++ command ∷ []) told kept) (sym (map_push core_answer answers answer)) whole;
      begins = begins_all old.seen mid.seen new.seen h.begins (grows mid.seen n.before new.seen (note_of mid.session command n.memory) a.begins a.seen);
      left = omega (arith, a.left, h.left, length-append commands (command ∷ []));
      table = a.table ∙ h.table;
      session = a.session ∙ h.session;
    }

-- a command that is no edit makes no directory
pub looks_make_none : (command : Command) → is_look command ≡ true → (d : Listing) → directory_made d command ≡ None
looks_make_none (Bad refusal) is d = refl
looks_make_none (IsAnEdit edit) is d = absurd (let wrong : false ≡ true = is in cc)
looks_make_none (IsQuery query) is d = refl
looks_make_none (IsShoot shoot) is d = refl

abbrev no_memory : run.Reply File
no_memory = Refused (codes "memory")

-- what a table replies to an edit, as an answer
module _ {E : Type 0} where
  edit_says : (answer : Result (Result (Unit {0}) Refusal) E) (refusal : Option Refusal) (d : Listing) → MayBeOther refusal → IfOk answer (λ r. r ≡ edit_reply (unless refusal d))
      → reply_says_memory (shown (table_outcome answer)) ≡ is_err answer
  edit_says (Err e) refusal d other is = refl
  edit_says (Ok (Ok done)) refusal d other is = refl
  edit_says (Ok (Err r)) None d other is = absurd (let wrong : Err r ≡ Ok tt = is in cc)
  edit_says (Ok (Err r)) (Some refusal) d other is = let same : r ≡ refusal = cc in subst IsOther (sym same) other

  edit_replies : (answer : Result (Result (Unit {0}) Refusal) E) (refusal : Option Refusal) (d : Listing) → IfOk answer (λ r. r ≡ edit_reply (unless refusal d))
      → shown (table_outcome answer) ≡ cond (is_err answer) (Refused (codes "memory")) (shown (edit_outcome (unless refusal d)))
  edit_replies (Err e) refusal d is = refl
  edit_replies (Ok (Ok done)) None d is = refl
  edit_replies (Ok (Ok done)) (Some refusal) d is = absurd (let wrong : Ok done ≡ Err refusal = is in cc)
  edit_replies (Ok (Err r)) None d is = absurd (let wrong : Err r ≡ Ok tt = is in cc)
  edit_replies (Ok (Err r)) (Some refusal) d is = let same : r ≡ refusal = cc in ap (λ x. Refused (refusal_text x)) same

  edit_owns : (answer : Result (Result (Unit {0}) Refusal) E) (refusal : Option Refusal) (d here : Listing) (own : OwnState) (edit : Edit)
      → own ≡ cond (is_err answer) own (own_with here own (IsAnEdit edit) (edit_outcome (unless refusal d)))
  edit_owns (Err e) refusal d here own edit = refl
  edit_owns (Ok r) None d here own edit = ap (λ (n : ℕ). record { tiles = own.tiles; used = n }) (omega arith)
  edit_owns (Ok r) (Some refusal) d here own edit = refl

  pub edit_next : (opening : Listing) (command : Command) (own : OwnState) (old new : PassView Command) (version : ℕ) (answer : Result (Result (Unit {0}) Refusal) E) → is_look command ≡ false
      → IsEdit next commits reply opening command old new version answer → IsNext opening command own old new (record { version = version; outcome = table_outcome answer }) own
  edit_next opening (Bad refusal) own old new version answer edits e = absurd (let wrong : true ≡ false = edits in cc)
  edit_next opening (IsQuery query) own old new version answer edits e = absurd (let wrong : true ≡ false = edits in cc)
  edit_next opening (IsShoot shoot) own old new version answer edits e = absurd (let wrong : true ≡ false = edits in cc)
  edit_next opening (IsAnEdit edit) own old new version answer edits e =
      let command : Command = IsAnEdit edit in
      let d : Listing = state_after next opening e.before in
      let note : Noted Command = note_of old.session command (is_err answer) in
      let past : run.Book Listing = book_past core_rules (start_book opening) (entries_of e.before) in
      let here : past ≡ book_at d (commits_in next commits opening e.before) = book_is core_rules opening e.before in
      let says : reply_says_memory (shown (table_outcome answer)) ≡ is_err answer = edit_says answer (refusal_of d edit) (made d edit) (refusal_other d edit) e.reply_is in
      let mark : shown_as command (record { version = version; reply = shown (table_outcome answer) }) ≡ marked_of note = ap (λ (m : Bool). record { command = command; memory = m }) says in
      let after : book_at (state_after next opening new.seen) (commits_in next commits opening new.seen) ≡ book_after core_rules past (marked_of note) =
      sym (book_is core_rules opening new.seen) ∙ book_more core_rules (start_book opening) e.before new.seen note (e.adds).seen in
      let reply_is : shown (table_outcome answer) ≡ cond (is_err answer) (Refused (codes "memory")) (shown (edit_outcome (edited past.directory edit))) =
      edit_replies answer (refusal_of d edit) (made d edit) e.reply_is ∙ ap (λ (b : run.Book Listing). cond (is_err answer) (Refused (codes "memory")) (shown (edit_outcome (edited b.directory edit)))) (sym here) in
      let own_is : own ≡ cond (is_err answer) own (own_with past.directory own command (edit_outcome (edited past.directory edit))) = edit_owns answer (refusal_of past.directory edit) (made past.directory edit) past.directory own edit in
      record {
        before = e.before;
        memory = is_err answer;
        adds = e.adds;
        mark = sym says;
        agrees = λ book. ap (book_after core_rules book) (sym mark);
        answer_is = ap₂ (λ (v : ℕ) (r : run.Reply File). record { version = v; reply = r }) (e.version_is ∙ ap (λ (b : run.Book Listing). b.version) after) reply_is
            ∙ ap (answer_of core_rules past own) (sym mark);
        kept_is = own_is ∙ ap (own_after core_rules past own) (sym mark);
      }

-- a look, as an entry
module _ (opening : Listing) (command : Command) (own : OwnState) (old new : PassView Command) (version : ℕ) (looks : is_look command ≡ true) (before : List (Noted Command))
    (adds : Adds before (note_of old.session command false) old new) (version_is : version ≡ commits_in next commits opening new.seen) where
  abbrev past : run.Book Listing
  past = book_past core_rules (start_book opening) (entries_of before)

  here : past ≡ book_at (state_after next opening new.seen) version
  here =
      sym (look_stays core_rules command (looks_make_none command looks) false past) ∙ sym (book_more core_rules (start_book opening) before new.seen (note_of old.session command false) adds.seen)
      ∙ book_is core_rules opening new.seen ∙ ap (book_at (state_after next opening new.seen)) (sym version_is)

  unmarked_look : (answer : Answer) → false ≡ mark_of is_look command (core_answer answer)
  unmarked_look answer = ap (λ (b : Bool). not b && says_memory (core_answer answer)) (sym looks)

  pub look_next : (d : Listing) (answer : Answer) (kept : OwnState) → d ≡ state_after next opening new.seen
      → core_answer answer ≡ answer_of core_rules (book_at d version) own (shown_as command (core_answer answer)) → kept ≡ own_after core_rules (book_at d version) own (shown_as command (core_answer answer))
      → IsNext opening command own old new answer kept
  look_next d answer kept is answer_is kept_is =
      let same : book_at d version ≡ past = ap (λ (x : Listing). book_at x version) is ∙ sym here in record {
        before = before;
        memory = false;
        adds = adds;
        mark = unmarked_look answer;
        agrees = λ book. look_agrees core_rules command (looks_make_none command looks) false (says_memory (core_answer answer)) book;
        answer_is = answer_is ∙ ap (λ (b : run.Book Listing). answer_of core_rules b own (shown_as command (core_answer answer))) same;
        kept_is = kept_is ∙ ap (λ (b : run.Book Listing). own_after core_rules b own (shown_as command (core_answer answer))) same;
      }

  -- there was no memory for it
  pub missed_look : IsNext opening command own old new (record { version = version; outcome = Err Memory }) (forgotten own command)
  missed_look = record {
    before = before;
    memory = false;
    adds = adds;
    mark = unmarked_look (record { version = version; outcome = Err Memory });
    agrees = λ book. look_agrees core_rules command (looks_make_none command looks) false true book;
    answer_is = ap (λ (b : run.Book Listing). record { version = b.version; reply = no_memory }) (sym here);
    kept_is = refl;
  }

-- what a session keeps stays current while the history goes on
kept_of : (version now : ℕ) (d d' : Listing) → version ≤ now → (now ≡ version → d' ≡ d) → (kept : KeptScene) → IsOf version d.objects kept → IsOf now d'.objects kept
kept_of version now d d' le same kept is = record {
  not_later = omega (arith, is.not_later, le);
  scene_is = λ at.
      let still : now ≡ version = omega (arith, is.not_later, le, at) in
      subst (λ (x : Listing). IsSceneOf (Ok (arc_value kept.scene)) x.objects kept.names.items) (sym (same still)) (is.scene_is (omega (arith, at, still)));
}

current_by : (version now : ℕ) (d d' : Listing) → version ≤ now → (now ≡ version → d' ≡ d) → (keep : Keep) → IsCurrent keep version d.objects → IsCurrent keep now d'.objects
current_by version now d d' le same keep is = record {
  large = IfSome_then keep.large is.large (kept_of version now d d' le same);
  small = λ name. IfSome_then (get same_name keep.small name) (is.small name) (kept_of version now d d' le same);
}

pub current_past : (keep : Keep) (opening : Listing) (seen longer : List (Noted Command)) → IsPrefix seen longer → IsCurrentPast keep opening seen → IsCurrentPast keep opening longer
current_past keep opening seen longer p is =
    subst (IsCurrentPast keep opening) p.1
    (current_by (commits_in next commits opening seen) (commits_in next commits opening (seen ++ p.0)) (state_after next opening seen) (state_after next opening (seen ++ p.0))
    (versions_never_fall core_rules opening seen p.0) (state_by_version core_rules opening seen p.0) keep is)

pub current_next : (keep : Keep) (opening : Listing) (before : List (Noted Command)) (e : Noted Command) (old new : PassView Command) → Adds before e old new → IsCurrentPast keep opening old.seen → IsCurrentPast keep opening new.seen
current_next keep opening before e old new adds is = current_past keep opening old.seen new.seen (grows old.seen before new.seen e adds.begins adds.seen) is

-- at the book that a look finds
pub current_here : (keep : Keep) (opening d : Listing) (version : ℕ) (seen : List (Noted Command)) → version ≡ commits_in next commits opening seen → d ≡ state_after next opening seen
    → IsCurrentPast keep opening seen → IsCurrent keep version d.objects
current_here keep opening d version seen version_is is current =
    subst (λ (x : Listing). IsCurrent keep version x.objects) (sym is) (subst (λ (v : ℕ). IsCurrent keep v (state_after next opening seen).objects) (sym version_is) current)

pub current_there : (keep : Keep) (opening d : Listing) (version : ℕ) (seen : List (Noted Command)) → version ≡ commits_in next commits opening seen → d ≡ state_after next opening seen
    → IsCurrent keep version d.objects → IsCurrentPast keep opening seen
current_there keep opening d version seen version_is is current =
    subst (λ (v : ℕ). IsCurrent keep v (state_after next opening seen).objects) version_is (subst (λ (x : Listing). IsCurrent keep version x.objects) is current)
