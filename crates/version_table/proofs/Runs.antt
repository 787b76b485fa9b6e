-- The run over one entry more.
use Rattle.std.proofs.Common.{◌≡◌, ◌≤◌, ◌+◌, ℕ, suc, Bool, true, false, cond, List, [], ◌∷◌, ◌++◌, length, ◌∙◌, refl, ap, sym, arith}
use Rattle.std.specs.Arc.{arc_value}
use Rattle.version_table.specs.declared.book.Entry.{Entry}
use Rattle.version_table.specs.declared.rule.Noted.{Noted}
use Rattle.version_table.specs.Entries.{noted}
use Rattle.version_table.specs.Run.{note_of, after, state_after, commit_of, commits_in, IsRun}

noted_more : {C : Type 0} → (es : List (Entry C)) (e : Entry C) → noted (es ++ e ∷ []) ≡ noted es ++ note_of e.session (arc_value e.command) e.memory ∷ []
noted_more [] e = refl
noted_more (x ∷ xs) e = ap (λ l. note_of x.session (arc_value x.command) x.memory ∷ l) (noted_more xs e)

pub noted_length : {C : Type 0} → (es : List (Entry C)) → length (noted es) ≡ length es
noted_length [] = refl
noted_length (x ∷ xs) = ap suc (noted_length xs)

module _ {S C : Type 0} (next : S → C → S) where
  pub state_more : (s : S) (es : List (Noted C)) (e : Noted C) → state_after next s (es ++ e ∷ []) ≡ after next (state_after next s es) e
  state_more s [] e = refl
  state_more s (x ∷ xs) e = state_more (after next s x) xs e

module _ {S C : Type 0} (next : S → C → S) (commits : S → C → Bool) where
  commits_more : (s : S) (es : List (Noted C)) (e : Noted C) → commits_in next commits s (es ++ e ∷ []) ≡ commits_in next commits s es + commit_of next commits (state_after next s es) e
  commits_more s [] e = omega arith
  commits_more s (x ∷ xs) e = omega (arith, commits_more (after next s x) xs e)

  commit_at_most_one : (s : S) (e : Noted C) → commit_of next commits s e ≤ 1
  commit_at_most_one s e = elim e.memory as (λ b. cond b 0 (cond (commits s e.command) 1 0) ≤ 1) [
    | true ↦ omega arith
    | false ↦ elim (commits s e.command) as (λ b. cond b 1 0 ≤ 1) [ true ↦ omega arith | false ↦ omega arith ]
  ]

  pub commits_below : (s : S) (es : List (Noted C)) → commits_in next commits s es ≤ length es
  commits_below s [] = omega arith
  commits_below s (x ∷ xs) = omega (arith, commit_at_most_one s x, commits_below (after next s x) xs)

  pub run_more : (opening : S) (items more : List (Entry C)) (e : Entry C) (state state' : S) (version version' : ℕ) → more ≡ items ++ e ∷ [] → IsRun next commits opening (noted items) state version
      → state' ≡ after next (state_after next opening (noted items)) (note_of e.session (arc_value e.command) e.memory)
      → version' ≡ version + commit_of next commits (state_after next opening (noted items)) (note_of e.session (arc_value e.command) e.memory)
      → IsRun next commits opening (noted more) state' version'
  run_more opening items more e state state' version version' is run state_is version_is =
      let entries : noted more ≡ noted items ++ note_of e.session (arc_value e.command) e.memory ∷ [] = ap noted is ∙ noted_more items e in record {
        state_is = state_is ∙ sym (ap (state_after next opening) entries ∙ state_more next opening (noted items) (note_of e.session (arc_value e.command) e.memory));
        version_is = omega (arith, version_is, run.version_is, ap (commits_in next commits opening) entries, commits_more opening (noted items) (note_of e.session (arc_value e.command) e.memory));
      }
