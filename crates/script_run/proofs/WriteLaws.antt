-- One session more of a transcript.
use Rattle.std.proofs.Common.{map, ◌≡◌, ℕ, zero, suc, ◌<◌, ◌+◌, List, [], ◌∷◌, ◌++◌, flat_map, take, get_or, refl, ap, sym, ◌∙◌, append-nil, arith, add-one}
use Rattle.std.proofs.lemmas.List.Concat.{flat_map-append}
use Rattle.transcript.specs.Lines.{ended, text_of}
use Rattle.transcript.specs.Transcript.{session_lines, sessions}
use Rattle.session_run.specs.Answers.{core_answer}
use Rattle.script_run.specs.Answers.{answers_at, core_answers, all_session_lines}
use Rattle.session_run.specs.declared.answer.Answer.{Answer}

pub nth : (i : ℕ) → i < 8 → take (i + 1) sessions ≡ take i sessions ++ (i + 1) ∷ []
nth zero lt = refl
nth (suc zero) lt = refl
nth (suc (suc zero)) lt = refl
nth (suc (suc (suc zero))) lt = refl
nth (suc (suc (suc (suc zero)))) lt = refl
nth (suc (suc (suc (suc (suc zero))))) lt = refl
nth (suc (suc (suc (suc (suc (suc zero)))))) lt = refl
nth (suc (suc (suc (suc (suc (suc (suc zero))))))) lt = refl
nth (suc (suc (suc (suc (suc (suc (suc (suc k)))))))) lt = absurd (omega (arith, lt))

pub sessions_more : (lists : List (List Answer)) (i : ℕ) (list : List Answer) → i < 8 → list ≡ get_or lists i []
    → text_of (all_session_lines lists i) ++ text_of (session_lines (i + 1) 1 (map core_answer list)) ≡ text_of (all_session_lines lists (i + 1))
sessions_more lists i list lt e =
    let f : ℕ → List (List ℕ) = λ session. session_lines session 1 (core_answers lists session) in
    let here : list ≡ answers_at lists (i + 1) = e ∙ ap (answers_at lists) (sym (add-one i)) in
    ap (λ l. text_of (flat_map f (take i sessions)) ++ text_of (session_lines (i + 1) 1 (map core_answer l))) here
    ∙ sym (ap (λ ss. text_of (flat_map f ss)) (nth i lt)
    ∙ ap text_of (flat_map-append f (take i sessions) ((i + 1) ∷ []) ∙ ap (λ r. flat_map f (take i sessions) ++ r) (append-nil (f (i + 1))))
    ∙ flat_map-append ended (flat_map f (take i sessions)) (f (i + 1)))
