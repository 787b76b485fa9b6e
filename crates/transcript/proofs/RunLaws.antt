-- A run keeps order and marks, and its text gives the very entries back.
use Rattle.std.proofs.Common.{◌≡◌, ℕ, ◌==◌, ◌<◌, Bool, true, false, cond, List, [], ◌∷◌, map, refl, ap, ap₂, sym, ◌∙◌}
use Rattle.std.specs.List.{AllByRecursion}
use Rattle.transcript.specs.Merge.{Entry, order_of, lane, merged}
use Rattle.transcript.specs.Run.{Marked, marked, Rules, Book, State, Answer, answer_of, stepped, answered, run_of, merged_script}
use Rattle.transcript.specs.Reading.{order_in, marks_in}
use Rattle.transcript.specs.Transcript.{transcript_of}
use Rattle.transcript.proofs.Printable.{ArePrintable, says_memory}
use Rattle.transcript.proofs.MergeLaws.{merge_back}
use Rattle.transcript.proofs.TranscriptLaws.{order_back, marks_back}
use mathlib.Core.Path.{fun_ext}

abbrev pub memory_of : {C : Type 0} → Marked C → Bool
memory_of m = m.memory

marked_back : {C : Type 0} (xs : List (Marked C)) → marked (map (λ (m : Marked C). m.command) xs) (map (λ (m : Marked C). m.memory) xs) ≡ xs
marked_back [] = refl
marked_back (x ∷ xs) = ap (λ ys. x ∷ ys) (marked_back xs)

module _ {D L C F : Type 0} (rules : Rules D L C F) where
  -- a run keeps the order
  pub run_order : (s : State D L) (entries : List (Entry (Marked C))) → order_of (run_of rules s entries) ≡ order_of entries
  run_order s [] = refl
  run_order s (e ∷ rest) = ap (λ ns. e.session ∷ ns) (run_order (stepped rules s e) rest)

module _ {D L C F : Type 0} (rules : Rules D L C F) (R : C → Type 0) (tells : (d : D) (l : L) (c : C) → R c → says_memory (rules.reply d l c) ≡ false) where
  -- each command meets R
  abbrev pub AllMeet : List (Entry (Marked C)) → Type 0
  AllMeet entries = AllByRecursion (λ (e : Entry (Marked C)). R (e.item).command) entries

  pub mark_told : (s : Book D) (l : L) (m : Marked C) → R m.command → says_memory (answer_of rules s l m).reply ≡ m.memory
  mark_told s l m fine = elim m.memory as (λ b. says_memory (answer_of rules s l (record { command = m.command; memory = b })).reply ≡ b) [ true ↦ refl | false ↦ tells s.directory l m.command fine ]

  told : (t : Bool) (a : Answer F) (m : Marked C) (xs : List (Answer F)) (ms : List (Marked C)) → says_memory a.reply ≡ m.memory → map (λ (b : Answer F). says_memory b.reply) xs ≡ map memory_of ms
      → map (λ (b : Answer F). says_memory b.reply) (cond t (a ∷ xs) xs) ≡ map memory_of (cond t (m ∷ ms) ms)
  told true a m xs ms e es = ap₂ (λ (b : Bool) (bs : List Bool). b ∷ bs) e es
  told false a m xs ms e es = es

  -- a run keeps the marks
  run_marks : (s : State D L) (entries : List (Entry (Marked C))) (session : ℕ) → AllMeet entries
      → map (λ (a : Answer F). says_memory a.reply) (lane (run_of rules s entries) session) ≡ map memory_of (lane entries session)
  run_marks s [] session fine = refl
  run_marks s (e ∷ rest) session fine =
      told (e.session == session) (answered rules s e).item e.item _ _ (mark_told s.book (s.own e.session) e.item fine.0) (run_marks (stepped rules s e) rest session fine.1)

  -- The text of a run, read back: its order and marks merge the script into the very entries of the run.
  pub run_read_back : (start : State D L) (script : ℕ → List C) (entries : List (Entry (Marked C))) → AllMeet entries
      → ((session : ℕ) → map (λ (m : Marked C). m.command) (lane entries session) ≡ script session)
      → ArePrintable (lane (run_of rules start entries))
      → lane (run_of rules start entries) 0 ≡ [] → ((n : ℕ) → 8 < n → lane (run_of rules start entries) n ≡ [])
      → merged_script rules script (order_in (transcript_of (run_of rules start entries))) (marks_in (transcript_of (run_of rules start entries))) ≡ entries
  run_read_back start script entries fine each ok low high =
      let run : List (Entry (Answer F)) = run_of rules start entries in
      let bytes : List ℕ = transcript_of run in
      let order : order_in bytes ≡ order_of entries = order_back (order_of run) (lane run) ok ∙ run_order rules start entries in
      let marks : marks_in bytes ≡ (λ k. map memory_of (lane entries k)) =
      fun_ext (λ k. marks_back (order_of run) (lane run) ok low high k ∙ run_marks start entries k fine) in
      let lanes : (λ k. marked (script k) (marks_in bytes k)) ≡ lane entries =
      fun_ext (λ k. ap₂ marked (sym (each k)) (ap (λ f. f k) marks) ∙ marked_back (lane entries k)) in
      ap₂ merged order lanes ∙ merge_back entries

  -- what is read back of the text of a run
  pub run_reading : (start : State D L) (entries : List (Entry (Marked C))) → AllMeet entries
      → ArePrintable (lane (run_of rules start entries))
      → lane (run_of rules start entries) 0 ≡ [] → ((n : ℕ) → 8 < n → lane (run_of rules start entries) n ≡ [])
      → (order_in (transcript_of (run_of rules start entries)) ≡ order_of entries)
      × ((k : ℕ) → marks_in (transcript_of (run_of rules start entries)) k ≡ map memory_of (lane entries k))
  run_reading start entries fine ok low high =
      let run : List (Entry (Answer F)) = run_of rules start entries in (
        order_back (order_of run) (lane run) ok ∙ run_order rules start entries,
        λ k. marks_back (order_of run) (lane run) ok low high k ∙ run_marks start entries k fine,
      )
