-- The book after a history, by what its table counts.
use Rattle.std.proofs.Common.{◌≡◌, ◌≤◌, ◌+◌, ℕ, suc, true, false, cond, List, [], ◌∷◌, ◌++◌, length, Option, None, Some, is_some, unwrap_or, ◌∙◌, refl, ap, arith}
use Rattle.transcript.specs.Merge.{entry}
use Rattle.transcript.specs.Run.{Book, Rules, book_after, committed}
use Rattle.version_table.specs.declared.rule.Noted.{Noted}
use Rattle.version_table.specs.Run.{after, commit_of, commits_in, state_after}
use Rattle.session_merge.specs.Answered.{book_past}
use Rattle.session_merge.specs.Noted.{commits_of, entries_of, marked_of, next_of}

module _ {C : Type 0} where
  pub entries_append : (es more : List (Noted C)) → entries_of (es ++ more) ≡ entries_of es ++ entries_of more
  entries_append [] more = refl
  entries_append (e ∷ es) more = ap (λ l. entry e.session (marked_of e) ∷ l) (entries_append es more)

  pub entries_length : (es : List (Noted C)) → length (entries_of es) ≡ length es
  entries_length [] = refl
  entries_length (e ∷ es) = ap suc (entries_length es)

abbrev pub book_at : {D : Type 0} → D → ℕ → Book D
book_at directory version = record { directory = directory; version = version }

committed_counted : {D : Type 0} (d : D) (version : ℕ) (edited : Option D) → committed (book_at d version) edited ≡ book_at (unwrap_or edited d) (version + cond (is_some edited) 1 0)
committed_counted d version None = ap (book_at d) (omega arith)
committed_counted d version (Some e) = refl

module _ {D L C F : Type 0} (rules : Rules D L C F) where
  book_counted : (d : D) (version : ℕ) (e : Noted C)
      → book_after rules (book_at d version) (marked_of e) ≡ book_at (after (next_of rules) d e) (version + commit_of (next_of rules) (commits_of rules) d e)
  book_counted d version e =
      elim e.memory as (λ b. cond b (book_at d version) (committed (book_at d version) (rules.edited d e.command))
      ≡ book_at (cond b d (next_of rules d e.command)) (version + cond b 0 (cond (commits_of rules d e.command) 1 0))) [
        | true ↦ ap (book_at d) (omega arith)
        | false ↦ committed_counted d version (rules.edited d e.command)
      ]

  pub book_of_entries : (d : D) (version : ℕ) (es : List (Noted C))
      → book_past rules (book_at d version) (entries_of es) ≡ book_at (state_after (next_of rules) d es) (version + commits_in (next_of rules) (commits_of rules) d es)
  book_of_entries d version [] = ap (book_at d) (omega arith)
  book_of_entries d version (e ∷ es) =
      let d' : D = after (next_of rules) d e in
      let one : ℕ = commit_of (next_of rules) (commits_of rules) d e in
      ap (λ book. book_past rules book (entries_of es)) (book_counted d version e)
      ∙ book_of_entries d' (version + one) es
      ∙ ap (book_at (state_after (next_of rules) d' es)) (omega arith)

  -- an entry that makes no version leaves the directory
  uncounted : (d : D) (e : Noted C) → commit_of (next_of rules) (commits_of rules) d e ≡ 0 → after (next_of rules) d e ≡ d
  uncounted d e =
      elim e.memory as (λ b. cond b 0 (cond (commits_of rules d e.command) 1 0) ≡ 0 → cond b d (next_of rules d e.command) ≡ d) [
        | true ↦ λ none. refl
        | false ↦ no_edit (rules.edited d e.command)
      ]
    where
      no_edit : (edited : Option D) → cond {A = ℕ} (is_some edited) 1 0 ≡ 0 → unwrap_or edited d ≡ d
      no_edit None none = refl
      no_edit (Some x) none = absurd (omega (arith, none))

  nothing_counted : (d : D) (es : List (Noted C)) → commits_in (next_of rules) (commits_of rules) d es ≡ 0 → state_after (next_of rules) d es ≡ d
  nothing_counted d [] none = refl
  nothing_counted d (e ∷ es) none =
      let same : after (next_of rules) d e ≡ d = uncounted d e (omega (arith, none)) in
      let later : commits_in (next_of rules) (commits_of rules) (after (next_of rules) d e) es ≡ 0 = omega (arith, none) in
      nothing_counted (after (next_of rules) d e) es later ∙ same

  commits_append : (d : D) (es more : List (Noted C))
      → commits_in (next_of rules) (commits_of rules) d (es ++ more) ≡ commits_in (next_of rules) (commits_of rules) d es + commits_in (next_of rules) (commits_of rules) (state_after (next_of rules) d es) more
  commits_append d [] more = omega arith
  commits_append d (e ∷ es) more = omega (arith, commits_append (after (next_of rules) d e) es more)

  state_append : (d : D) (es more : List (Noted C)) → state_after (next_of rules) d (es ++ more) ≡ state_after (next_of rules) (state_after (next_of rules) d es) more
  state_append d [] more = refl
  state_append d (e ∷ es) more = state_append (after (next_of rules) d e) es more

  pub versions_never_fall : (d : D) (es more : List (Noted C)) → commits_in (next_of rules) (commits_of rules) d es ≤ commits_in (next_of rules) (commits_of rules) d (es ++ more)
  versions_never_fall d es more = omega (arith, commits_append d es more)

  pub state_by_version : (d : D) (es more : List (Noted C)) → commits_in (next_of rules) (commits_of rules) d (es ++ more) ≡ commits_in (next_of rules) (commits_of rules) d es
      → state_after (next_of rules) d (es ++ more) ≡ state_after (next_of rules) d es
  state_by_version d es more same = state_append d es more ∙ nothing_counted (state_after (next_of rules) d es) more (omega (arith, commits_append d es more, same))
