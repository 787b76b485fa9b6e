-- What a run needs so that its transcript can be read back.
use Rattle.std.proofs.Common.{◌≡◌, ◌≢◌, ℕ, ◌<◌, ◌≤◌, ◌+◌, ◌^◌, ◌==◌, Bool, true, false, cond, List, [], ◌∷◌, map, filter, length, codes, Option, Some, None, refl, ap, sym, ◌∙◌, suc, arith, ne_eqb}
use Rattle.std.specs.List.{AllByRecursion}
use Rattle.std.proofs.lemmas.List.{length-map}
use Rattle.transcript.specs.Merge.{Entry, order_of, lane}
use Rattle.transcript.specs.Run.{Marked, Rules, Book, State, Answer, committed, book_after, own_after, answer_of, stepped, answered, run_of, any_refused, files_of}
use Rattle.transcript.specs.Transcript.{transcript_of}
use Rattle.transcript.specs.Reading.{order_in, marks_in}
use Rattle.transcript.specs.Outcome.{IsOutcome}
use Rattle.transcript.proofs.Printable.{IsPrintableReply, IsPrintable, ArePrintable, says_memory}
use Rattle.transcript.proofs.TranscriptLaws.{computed}
use Rattle.transcript.proofs.MergeLaws.{order_is_merge}
use Rattle.transcript.proofs.RunLaws.{run_read_back, run_reading, memory_of}

abbrev pub IfSomeKeeps : {D : Type 0} → (D → Type 0) → Option D → Type 0
IfSomeKeeps P None = Unit {0}
IfSomeKeeps P (Some d) = P d

-- Where P holds of the directory, Q of what a session has of its own and R of the commands, replies stand on
-- lines of their own.
pub record KeepsLines {D L C F : Type 0} (rules : Rules D L C F) (P : D → Type 0) (Q : L → Type 0) (R : C → Type 0) : Type 0 where
  pub edited : (d : D) (c : C) → P d → R c → IfSomeKeeps P (rules.edited d c)
  pub kept : (d : D) (l : L) (c : C) → P d → Q l → R c → Q (rules.kept d l c)
  pub forgotten : (l : L) (c : C) → Q l → R c → Q (rules.forgotten l c)
  pub reply : (d : D) (l : L) (c : C) → P d → Q l → R c → IsPrintableReply (rules.reply d l c)
  pub tells : (d : D) (l : L) (c : C) → R c → says_memory (rules.reply d l c) ≡ false

pub lane_no_longer : {X : Type 0} (entries : List (Entry X)) (k : ℕ) → length (lane entries k) ≤ length entries
lane_no_longer [] k = omega arith
lane_no_longer (e ∷ rest) k = no_longer (e.session == k) e.item (lane rest k) (length rest) (lane_no_longer rest k)
  where
    no_longer : {Y : Type 0} (t : Bool) (x : Y) (xs : List Y) (n : ℕ) → length xs ≤ n → length (cond t (x ∷ xs) xs) ≤ suc n
    no_longer true x xs n h = omega (arith, h)
    no_longer false x xs n h = omega (arith, h)

module _ {D L C F : Type 0} (rules : Rules D L C F) (P : D → Type 0) (Q : L → Type 0) (R : C → Type 0) (keeps : KeepsLines rules P Q R) where
  committed_kept : (book : Book D) (next : Option D) → P book.directory → IfSomeKeeps P next → P (committed book next).directory
  committed_kept book None h k = h
  committed_kept book (Some d) h k = k

  committed_version : (book : Book D) (next : Option D) → (committed book next).version ≤ book.version + 1
  committed_version book None = omega arith
  committed_version book (Some d) = omega arith

  book_kept : (book : Book D) (m : Marked C) → P book.directory → R m.command → P (book_after rules book m).directory
  book_kept book m h fine =
      elim m.memory as (λ b. P (cond b book (committed book (rules.edited book.directory m.command))).directory) [
        | true ↦ h
        | false ↦ committed_kept book (rules.edited book.directory m.command) h (keeps.edited book.directory m.command h fine)
      ]

  version_kept : (book : Book D) (m : Marked C) → (book_after rules book m).version ≤ book.version + 1
  version_kept book m =
      elim m.memory as (λ b. (cond b book (committed book (rules.edited book.directory m.command))).version ≤ book.version + 1) [
        | true ↦ omega arith
        | false ↦ committed_version book (rules.edited book.directory m.command)
      ]

  own_kept : (s : Book D) (l : L) (m : Marked C) → P s.directory → Q l → R m.command → Q (own_after rules s l m)
  own_kept s l m h q fine = elim m.memory as (λ b. Q (cond b (rules.forgotten l m.command) (rules.kept s.directory l m.command))) [ true ↦ keeps.forgotten l m.command q fine | false ↦ keeps.kept s.directory l m.command h q fine ]

  stepped_kept : (t : Bool) (a b : L) → Q a → Q b → Q (cond t a b)
  stepped_kept true a b p q = p
  stepped_kept false a b p q = q

  reply_kept : (s : Book D) (l : L) (m : Marked C) → P s.directory → Q l → R m.command → IsPrintableReply (answer_of rules s l m).reply
  reply_kept s l m h q fine =
      elim m.memory as (λ b. IsPrintableReply (answer_of rules s l (record { command = m.command; memory = b })).reply) [
        | true ↦ computed 10 (codes "memory") refl
        | false ↦ keeps.reply s.directory l m.command h q fine
      ]

  each_cond : (t : Bool) (a : Answer F) (xs : List (Answer F)) → IsPrintable a → AllByRecursion IsPrintable xs → AllByRecursion IsPrintable (cond t (a ∷ xs) xs)
  each_cond true a xs h hs = (h, hs)
  each_cond false a xs h hs = hs

  each_printable : (s : State D L) (entries : List (Entry (Marked C))) → P s.book.directory → ((j : ℕ) → Q (s.own j)) → s.book.version + length entries < 2 ^ 64 → AllByRecursion (λ (e : Entry (Marked C)). R (e.item).command) entries → (k : ℕ)
      → AllByRecursion IsPrintable (lane (run_of rules s entries) k)
  each_printable s [] h q fits fine k = tt
  each_printable s (e ∷ rest) h q fits fine k =
      let up : (book_after rules s.book e.item).version ≤ s.book.version + 1 = version_kept s.book e.item in
      each_cond (e.session == k) (answered rules s e).item _
      (record { reply = reply_kept s.book (s.own e.session) e.item h (q e.session) fine.0; version = omega (arith, up, fits) })
      (each_printable (stepped rules s e) rest (book_kept s.book e.item h fine.0)
      (λ j. stepped_kept (e.session == j) _ _ (own_kept s.book (s.own j) e.item h (q j) fine.0) (q j)) (omega (arith, up, fits)) fine.1 k)

  pub run_length : (s : State D L) (entries : List (Entry (Marked C))) → length (run_of rules s entries) ≡ length entries
  run_length s [] = refl
  run_length s (e ∷ rest) = ap suc (run_length (stepped rules s e) rest)

  pub run_printable : (s : State D L) (entries : List (Entry (Marked C))) → P s.book.directory → ((j : ℕ) → Q (s.own j)) → s.book.version + length entries + 1 < 2 ^ 64 → AllByRecursion (λ (e : Entry (Marked C)). R (e.item).command) entries → ArePrintable (lane (run_of rules s entries))
  run_printable s entries h q fits fine = record {
    each = λ k. each_printable s entries h q (omega (arith, fits)) fine k;
    few = λ k. omega (arith, lane_no_longer (run_of rules s entries) k, run_length s entries, fits);
  }

  lane_none : (s : State D L) (entries : List (Entry (Marked C))) (k : ℕ) → AllByRecursion (λ (e : Entry (Marked C)). e.session ≢ k) entries → lane (run_of rules s entries) k ≡ []
  lane_none s [] k h = refl
  lane_none s (e ∷ rest) k h =
      let r : List (Answer F) = lane (run_of rules (stepped rules s e) rest) k in
      ap (λ t. cond t ((answered rules s e).item ∷ r) r) (ne_eqb e.session k h.0) ∙ lane_none (stepped rules s e) rest k h.1

  weaker : {X : Type 0} {A B : X → Type 0} → ((x : X) → A x → B x) → (xs : List X) → AllByRecursion A xs → AllByRecursion B xs
  weaker f [] h = tt
  weaker f (x ∷ xs) h = (f x h.0, weaker f xs h.1)

  -- the text of a run, read back, gives the very entries; so the run is the one that its bytes show
  pub good_outcome : (start : State D L) (script : ℕ → List C) (entries : List (Entry (Marked C))) → P start.book.directory → ((j : ℕ) → Q (start.own j))
      → start.book.version + length entries + 1 < 2 ^ 64 → AllByRecursion (λ (e : Entry (Marked C)). R (e.item).command) entries
      → AllByRecursion (λ (e : Entry (Marked C)). (1 ≤ e.session) × (e.session ≤ 8)) entries
      → ((k : ℕ) → map (λ (m : Marked C). m.command) (lane entries k) ≡ script k)
      → (files : List F) → files ≡ files_of (run_of rules start entries)
      → (some_refused : Bool) → some_refused ≡ any_refused (run_of rules start entries)
      → IsOutcome rules start script (transcript_of (run_of rules start entries)) files some_refused
  good_outcome start script entries h q fits fine eight each files put some_refused refused =
      let printable = run_printable start entries h q fits fine in
      let low = lane_none start entries 0 (weaker (λ e one q. omega (arith, one, q)) entries eight) in
      let high = λ (n : ℕ) (far : 8 < n). lane_none start entries n (weaker (λ e one q. omega (arith, one, q, far)) entries eight) in
      let back = run_read_back rules R keeps.tells start script entries fine each printable low high in
      let reading = run_reading rules R keeps.tells start entries fine printable low high in
      record {
        merge = λ k. ap (λ o. length (filter (λ digit. digit == k) o)) reading.0 ∙ order_is_merge entries k ∙ sym (length-map (lane entries k) (λ (m : Marked C). m.command)) ∙ ap length (each k);
        text = ap (λ es. transcript_of (run_of rules start es)) (sym back);
        files_put = put ∙ ap (λ es. files_of (run_of rules start es)) (sym back);
        refused = refused ∙ ap (λ es. any_refused (run_of rules start es)) (sym back);
      }

  pub good_reading : (start : State D L) (entries : List (Entry (Marked C))) → P start.book.directory → ((j : ℕ) → Q (start.own j))
      → start.book.version + length entries + 1 < 2 ^ 64 → AllByRecursion (λ (e : Entry (Marked C)). R (e.item).command) entries
      → AllByRecursion (λ (e : Entry (Marked C)). (1 ≤ e.session) × (e.session ≤ 8)) entries
      → (order_in (transcript_of (run_of rules start entries)) ≡ order_of entries)
      × ((k : ℕ) → marks_in (transcript_of (run_of rules start entries)) k ≡ map memory_of (lane entries k))
  good_reading start entries h q fits fine eight =
      run_reading rules R keeps.tells start entries fine (run_printable start entries h q fits fine)
      (lane_none start entries 0 (weaker (λ e one q. omega (arith, one, q)) entries eight))
      (λ n far. lane_none start entries n (weaker (λ e one q. omega (arith, one, q, far)) entries eight))

module _ {D L C F : Type 0} (rules : Rules D L C F) where
  pub run_ranges : (s : State D L) (entries : List (Entry (Marked C))) → AllByRecursion (λ (e : Entry (Marked C)). (1 ≤ e.session) × (e.session ≤ 8)) entries
      → AllByRecursion (λ (e : Entry (Answer F)). (1 ≤ e.session) × (e.session ≤ 8)) (run_of rules s entries)
  run_ranges s [] h = tt
  run_ranges s (e ∷ rest) h = (h.0, run_ranges (stepped rules s e) rest h.1)
