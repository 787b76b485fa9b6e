-- The files of answers, taken one after the other in an order of the sessions.
use Rattle.std.proofs.Common.{◌≡◌, ◌∙◌, ◌≤◌, ◌<◌, ◌+◌, ◌++◌, ◌==◌, ℕ, zero, suc, Bool, true, false, cond, List, [], ◌∷◌, Option, Result, Ok, Err, OnOk, OnErr, map, replicate, length, take, drop, get_or, set, append_assoc, append-nil, eqb-true, refl, ap, ap₂, sym, subst, arith}
use Rattle.std.proofs.Math.Seq.{take-append_seam}
use Rattle.std.proofs.lemmas.Bool.{eqb-false}
use Rattle.std.proofs.lemmas.List.{length-append, drop_all, drop_more, drop-drop, drop-map, get_or-set_same, get_or-set_other}
use Rattle.outside_core.specs.Told.{Stays}
use Rattle.outside_core.specs.declared.traits.File.{File}
use Rattle.outside_core.specs.declared.traits.ShelfFault.{ShelfFault}
use Rattle.transcript.specs.Merge.{Entry, entry, merged, once_taken}
use Rattle.transcript.specs.Run as run
use Rattle.transcript.specs.Run.{file_in, files_of}
use Rattle.session_run.specs.Answers.{core_answer}
use Rattle.session_run.specs.Replies.{shown}
use Rattle.session_run.specs.declared.answer.Answer.{Answer}
use Rattle.script_run.proofs.LaneLaws.{same_past}
use Rattle.mged_top.specs.Answers.{core_answers}
use Rattle.mged_top.specs.Outside.{HasGrown, AreCutShort}
use Rattle.mged_top.specs.Stages.{ArePut, ArePutBy, files_left, left_at, files_among}
use Rattle.mged_top.proofs.ShelfLaws.{grown_none, grown_both, grown_before}
use mathlib.Core.Path.{fun_ext}

abbrev pub lanes_left : List ℕ → List (List Answer) → ℕ → List (run.Answer File)
lanes_left taken lists session = map core_answer (left_at taken lists session)

-- once the next answer of one session is taken
taken_at : (t : Bool) (taken : List ℕ) (lists : List (List Answer)) (i k : ℕ) → t ≡ (suc i == suc k) → i < length taken
    → lanes_left (set taken i (get_or taken i 0 + 1)) lists (suc k) ≡ cond t (drop 1 (lanes_left taken lists (suc k))) (lanes_left taken lists (suc k))
taken_at true taken lists i k is lt =
    let same : suc i ≡ suc k = eqb-true (suc i) (suc k) (sym is) in
    let here : i ≡ k = omega (arith, same) in
    let count : get_or (set taken i (get_or taken i 0 + 1)) k 0 ≡ get_or taken k 0 + 1 =
    subst (λ n. get_or (set taken i (get_or taken i 0 + 1)) n 0 ≡ get_or taken n 0 + 1) here (get_or-set_same taken i (get_or taken i 0 + 1) 0 lt) in
    ap (λ n. map core_answer (drop n (get_or lists k []))) count
    ∙ ap (map core_answer) (sym (drop-drop 1 (get_or taken k 0) (get_or lists k [])))
    ∙ sym (drop-map core_answer 1 (drop (get_or taken k 0) (get_or lists k [])))
taken_at false taken lists i k is lt =
    ap (λ n. map core_answer (drop n (get_or lists k []))) (get_or-set_other taken i k (get_or taken i 0 + 1) 0 (λ e. eqb-false (suc i) (suc k) (sym is) (ap suc (sym e))))

none_taken : (t : Bool) → ◌≡◌ {A = List (run.Answer File)} [] (cond t (drop 1 []) [])
none_taken true = refl
none_taken false = refl

taken_each : (taken : List ℕ) (lists : List (List Answer)) (i k : ℕ) → i < length taken
    → lanes_left (set taken i (get_or taken i 0 + 1)) lists k ≡ once_taken (suc i) (lanes_left taken lists) k
taken_each taken lists i zero lt = none_taken (suc i == 0)
taken_each taken lists i (suc k) lt = taken_at (suc i == suc k) taken lists i k refl lt

pub taken_once : (taken : List ℕ) (lists : List (List Answer)) (i : ℕ) → i < length taken
    → lanes_left (set taken i (get_or taken i 0 + 1)) lists ≡ once_taken (suc i) (lanes_left taken lists)
taken_once taken lists i lt = fun_ext (λ k. taken_each taken lists i k lt)

-- nothing is taken where nothing is left
untaken_at : (t : Bool) (xs : List (run.Answer File)) → (t ≡ true → xs ≡ []) → xs ≡ cond t (drop 1 xs) xs
untaken_at true xs none = none refl ∙ ap (drop 1) (sym (none refl))
untaken_at false xs none = refl

pub untaken : (taken : List ℕ) (lists : List (List Answer)) (i : ℕ) → lanes_left taken lists (suc i) ≡ [] → lanes_left taken lists ≡ once_taken (suc i) (lanes_left taken lists)
untaken taken lists i none = fun_ext (λ k. untaken_at (suc i == k) (lanes_left taken lists k) (λ e. subst (λ n. lanes_left taken lists n ≡ []) (eqb-true (suc i) k e) none))

-- the files of a session's next answer, and of what is left then
files_map : (digit : ℕ) (xs : List (run.Answer File)) (rest : List (Entry (run.Answer File))) → files_of (map (entry digit) (take 1 xs) ++ rest) ≡ files_of (map (entry digit) (take 1 xs)) ++ files_of rest
files_map digit [] rest = refl
files_map digit (a ∷ more) rest = ap (λ f. f ++ files_of rest) (sym (append-nil (file_in a.reply)))

next_files : (digit : ℕ) (x : run.Answer File) (xs lane : List (run.Answer File)) → lane ≡ x ∷ xs → files_of (map (entry digit) (take 1 lane)) ≡ file_in x.reply
next_files digit x xs lane is = ap (λ l. files_of (map (entry digit) (take 1 l))) is ∙ append-nil (file_in x.reply)

pub files_step : (taken : List ℕ) (lists : List (List Answer)) (i : ℕ) (rest : List ℕ) (answer : Answer) (more : List Answer) → i < length taken
    → left_at taken lists (suc i) ≡ answer ∷ more
    → files_left (suc i ∷ rest) taken lists ≡ file_in (shown answer.outcome) ++ files_left rest (set taken i (get_or taken i 0 + 1)) lists
files_step taken lists i rest answer more lt is =
    files_map (suc i) (lanes_left taken lists (suc i)) (merged rest (once_taken (suc i) (lanes_left taken lists)))
    ∙ ap₂ ◌++◌ (next_files (suc i) (core_answer answer) (map core_answer more) (lanes_left taken lists (suc i)) (ap (map core_answer) is))
    (ap (λ (lanes : ℕ → List (run.Answer File)). files_of (merged rest lanes)) (sym (taken_once taken lists i lt)))

pub files_stay : (taken : List ℕ) (lists : List (List Answer)) (i : ℕ) (rest : List ℕ) → left_at taken lists (suc i) ≡ [] → files_left (suc i ∷ rest) taken lists ≡ files_left rest taken lists
files_stay taken lists i rest none =
    files_map (suc i) (lanes_left taken lists (suc i)) (merged rest (once_taken (suc i) (lanes_left taken lists)))
    ∙ ap₂ ◌++◌ (ap (λ (l : List Answer). files_of (map (entry (suc i)) (take 1 (map core_answer l)))) none)
    (ap (λ (lanes : ℕ → List (run.Answer File)). files_of (merged rest lanes)) (sym (untaken taken lists i (ap (map core_answer) none))))

-- the next answer of a session, or none
next_left : (taken : List ℕ) (lists : List (List Answer)) (i : ℕ) (items : List Answer) (answer : Answer) → items ≡ get_or lists i [] → get_or taken i 0 < length items
    → answer ≡ get_or items (get_or taken i 0) answer → left_at taken lists (suc i) ≡ answer ∷ drop (get_or taken i 0 + 1) items
next_left taken lists i items answer is lt read =
    ap (drop (get_or taken i 0)) (sym is) ∙ drop_more items (get_or taken i 0) answer lt ∙ ap (λ a. a ∷ drop (get_or taken i 0 + 1) items) (sym read)

put_by : (r : Result (Unit {0}) ShelfFault) (files files' puts puts' : Option (List File)) (all file rest : List File) → all ≡ file ++ rest → OnOk r (HasGrown files files' puts puts' file)
    → OnErr r (Stays files files') → OnErr r (Stays puts puts') → OnErr r (0 < length file) → ArePutBy r files files' puts puts' all rest
put_by (Ok done) files files' puts puts' all file rest whole grown files_stay puts_stay some = record { done = file; grown = grown; whole = whole }
put_by (Err fault) files files' puts puts' all file rest whole grown files_stay puts_stay some = (files_stay, puts_stay, omega (arith, ap length whole, length-append file rest, some))

pub put_one : (r : Result (Unit {0}) ShelfFault) (files files' puts puts' : Option (List File)) (taken : List ℕ) (lists : List (List Answer)) (i session : ℕ) (rest : List ℕ) (items : List Answer) (answer : Answer)
    → session ≡ suc i → i < length taken → items ≡ get_or lists i [] → get_or taken i 0 < length items → answer ≡ get_or items (get_or taken i 0) answer
    → OnOk r (HasGrown files files' puts puts' (file_in (shown answer.outcome))) → OnErr r (Stays files files') → OnErr r (Stays puts puts') → OnErr r (0 < length (file_in (shown answer.outcome)))
    → ArePutBy r files files' puts puts' (files_left (session ∷ rest) taken lists) (files_left rest (set taken i (get_or taken i 0 + 1)) lists)
put_one r files files' puts puts' taken lists i session rest items answer same lt is more read grown files_stay puts_stay some =
    put_by r files files' puts puts' (files_left (session ∷ rest) taken lists) (file_in (shown answer.outcome)) (files_left rest (set taken i (get_or taken i 0 + 1)) lists)
    (ap (λ k. files_left (k ∷ rest) taken lists) same ∙ files_step taken lists i rest answer (drop (get_or taken i 0 + 1) items) lt (next_left taken lists i items answer is more read))
    grown files_stay puts_stay some

pub put_none : (files puts : Option (List File)) (taken : List ℕ) (lists : List (List Answer)) (i session : ℕ) (rest : List ℕ) (items : List Answer) → session ≡ suc i → items ≡ get_or lists i []
    → length items ≤ get_or taken i 0 → ArePut files files puts puts (files_left (session ∷ rest) taken lists) (files_left rest taken lists)
put_none files puts taken lists i session rest items same is none = record {
  done = [];
  grown = grown_none files puts;
  whole = ap (λ k. files_left (k ∷ rest) taken lists) same ∙ files_stay taken lists i rest (ap (drop (get_or taken i 0)) (sym is) ∙ drop_all (get_or taken i 0) items none);
}

-- at first nothing is taken
all_left : (lists : List (List Answer)) (k : ℕ) → lanes_left (replicate 8 0) lists k ≡ core_answers lists k
all_left lists zero = refl
all_left lists (suc n) = ap (λ m. map core_answer (drop m (get_or lists n []))) (same_past 8 0 n)

pub put_nothing : (files puts : Option (List File)) (order : List ℕ) (lists : List (List Answer)) → ArePut files files puts puts (files_among order lists) (files_left order (replicate 8 0) lists)
put_nothing files puts order lists = record {
  done = [];
  grown = grown_none files puts;
  whole = ap (λ (lanes : ℕ → List (run.Answer File)). files_of (merged order lanes)) (sym (fun_ext (all_left lists)));
}

pub put_all : (a b p q : Option (List File)) (all : List File) → ArePut a b p q all [] → HasGrown a b p q all
put_all a b p q all h = subst (HasGrown a b p q) (sym (h.whole ∙ append-nil h.done)) h.grown

-- files put one part after the other
pub put_more : (a b c p q r : Option (List File)) (all some rest : List File) → ArePut a b p q all some → ArePut b c q r some rest → ArePut a c p r all rest
put_more a b c p q r all some rest h k = record {
  done = h.done ++ k.done;
  grown = grown_both a b c p q r h.done k.done h.grown k.grown;
  whole = h.whole ∙ ap (λ fs. h.done ++ fs) k.whole ∙ sym (append_assoc h.done k.done rest);
}

-- the put of the next file failed
pub put_cut : (a b c p q r : Option (List File)) (all rest : List File) → ArePut a b p q all rest → Stays b c → Stays q r → 0 < length rest → AreCutShort a c p r all
put_cut a b c p q r all rest h files_stay puts_stay some =
    let front : take (length h.done) all ≡ h.done = ap (take (length h.done)) h.whole ∙ take-append_seam h.done rest in
    record {
      count = length h.done;
      short = omega (arith, ap length h.whole, length-append h.done rest, some);
      front = subst (HasGrown a c p r) (sym front) (grown_before a b c p q r h.done h.grown files_stay puts_stay);
    }
