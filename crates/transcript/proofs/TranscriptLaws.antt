-- The order and the marks are read back from a transcript.
use Rattle.std.proofs.Common.{◌≡◌, ◌≢◌, ℕ, zero, suc, ◌<◌, ◌+◌, ◌-◌, ◌^◌, ◌==◌, ◌&&◌, Bool, true, false, cond, not, List, [], ◌∷◌, ◌++◌, map, flat_map, filter, length, drop, codes, decimal, bytes_eq, refl, ap, ap₂, sym, ◌∙◌, append_assoc, append-nil, arith, ne_eqb, eq-eqb, inl, inr}
use Rattle.std.proofs.lemmas.Bool.{and_parts, not-true, eqb-false, cases_eq}
use Rattle.std.specs.List.{AllByRecursion}
use Rattle.transcript.specs.Lines.{lines_in, Lacks}
use Rattle.transcript.specs.Reading.{before, after, digits_in, order_in_lines, order_in, Header, header_said, read_header, headers_in, marks_among, marks_in}
use Rattle.transcript.specs.Run.{Answer, Reply, Accepted, Refused}
use Rattle.transcript.proofs.Printable.{says_memory, reply_header, IsPrintableReply, IsPrintable, ArePrintable}
use Rattle.transcript.specs.Transcript.{header, header_start, outcome, header_end, body_of, session_lines, sessions, transcript_lines, transcript}
use Rattle.transcript.proofs.LineLaws.{line_read, text_read, before_read, after_read, lacks_append, decimal_lacks, decimal_read}

-- a fixed text lacks a byte, by computation
abbrev pub lacks : ℕ → List ℕ → Bool
lacks c [] = true
lacks c (b ∷ bs) = not (b == c) && lacks c bs

pub computed : (c : ℕ) (bs : List ℕ) → lacks c bs ≡ true → Lacks c bs
computed c [] e = tt
computed c (b ∷ bs) e = let both = and_parts (not (b == c)) (lacks c bs) e in (eqb-false b c (not-true (b == c) both.0), computed c bs both.1)

all_append : {X : Type 0} (P : X → Type 0) (xs ys : List X) → AllByRecursion P xs → AllByRecursion P ys → AllByRecursion P (xs ++ ys)
all_append P [] ys h k = k
all_append P (x ∷ xs) ys h k = (h.0, all_append P xs ys h.1 k)

-- the order line
digits_read : (order : List ℕ) → digits_in (flat_map (λ (session : ℕ). 32 ∷ (48 + session) ∷ []) order) ≡ order
digits_read [] = refl
digits_read (s ∷ rest) = let e : (48 + s) - 48 ≡ s = omega arith in ap₂ (λ (x : ℕ) (xs : List ℕ). x ∷ xs) e (digits_read rest)

order_lacks : (order : List ℕ) → Lacks 10 (flat_map (λ (session : ℕ). 32 ∷ (48 + session) ∷ []) order)
order_lacks [] = tt
order_lacks (s ∷ rest) = (λ e. omega (arith, e), (λ e. omega (arith, e), order_lacks rest))

start_lacks : (c s n : ℕ) → c < 46 → n < 2 ^ 64 → Lacks c (header_start s n)
start_lacks c s n small fits = (λ e. omega (arith, e), (λ e. omega (arith, e), decimal_lacks c n (omega arith) fits))

version_lacks : (c v : ℕ) → c < 48 → v < 2 ^ 64 → Lacks c (118 ∷ decimal v)
version_lacks c v small fits = (λ e. omega (arith, e), decimal_lacks c v small fits)

headers_pass : (body rest : List (List ℕ)) → headers_in (length body) (body ++ rest) ≡ headers_in 0 rest
headers_pass [] rest = refl
headers_pass (line ∷ body) rest = headers_pass body rest

beyond : (k : ℕ) → AllByRecursion (λ s. s ≢ suc (suc (suc (suc (suc (suc (suc (suc (suc k))))))))) sessions
beyond k = (λ e. omega (arith, e), (λ e. omega (arith, e), (λ e. omega (arith, e), (λ e. omega (arith, e), (λ e. omega (arith, e), (λ e. omega (arith, e), (λ e. omega (arith, e), (λ e. omega (arith, e), tt))))))))

module _ {F : Type 0} where
  -- a header line
  outcome_lacks_10 : (r : Reply F) → Lacks 10 (outcome r)
  outcome_lacks_10 (Accepted lines file) = computed 10 (codes "ok") refl
  outcome_lacks_10 (Refused text) = computed 10 (codes "refused") refl

  outcome_lacks_32 : (r : Reply F) → Lacks 32 (outcome r)
  outcome_lacks_32 (Accepted lines file) = computed 32 (codes "ok") refl
  outcome_lacks_32 (Refused text) = computed 32 (codes "refused") refl

  end_lacks : (r : Reply F) → IsPrintableReply r → Lacks 10 (header_end r)
  end_lacks (Accepted lines file) h = decimal_lacks 10 (length lines) (omega arith) h.1
  end_lacks (Refused text) h = h

  body_lacks : (r : Reply F) → IsPrintableReply r → AllByRecursion (Lacks 10) (body_of r)
  body_lacks (Accepted lines file) h = h.0
  body_lacks (Refused text) h = tt

  header_lacks : (s n : ℕ) (a : Answer F) → n < 2 ^ 64 → IsPrintable a → Lacks 10 (header s n a)
  header_lacks s n a fits ok =
      lacks_append 10 (header_start s n) _ (start_lacks 10 s n (omega arith) fits) (
        λ e. omega (arith, e),
        lacks_append 10 (outcome a.reply) _ (outcome_lacks_10 a.reply) (
          λ e. omega (arith, e),
          lacks_append 10 (118 ∷ decimal a.version) _ (version_lacks 10 a.version (omega arith) ok.version)
              (λ e. omega (arith, e), end_lacks a.reply ok.reply),
        ),
      )

  said : (s : ℕ) (r : Reply F) → IsPrintableReply r → header_said (48 + s) (outcome r) (header_end r) ≡ reply_header s r
  said s (Accepted lines file) h =
      let e : (48 + s) - 48 ≡ s = omega arith in
      ap₂ (λ (x y : ℕ). let r : Header = record { session = x; is_memory = false; body = y } in r) e (decimal_read (length lines) h.1)
  said s (Refused text) h =
      let e : (48 + s) - 48 ≡ s = omega arith in
      ap (λ (x : ℕ). let r : Header = record { session = x; is_memory = bytes_eq text (codes "memory"); body = 0 } in r) e

  header_read : (s n : ℕ) (a : Answer F) → n < 2 ^ 64 → IsPrintable a → read_header (header s n a) ≡ reply_header s a.reply
  header_read s n a fits ok =
      let r3 : List ℕ = header_end a.reply in
      let r2 : List ℕ = (118 ∷ decimal a.version) ++ 32 ∷ r3 in
      let r1 : List ℕ = outcome a.reply ++ 32 ∷ r2 in
      let e1 : after 32 (header s n a) ≡ r1 = after_read 32 (header_start s n) r1 (start_lacks 32 s n (omega arith) fits) in
      let e2 : before 32 r1 ≡ outcome a.reply = before_read 32 (outcome a.reply) r2 (outcome_lacks_32 a.reply) in
      let e3 : after 32 r1 ≡ r2 = after_read 32 (outcome a.reply) r2 (outcome_lacks_32 a.reply) in
      let e4 : after 32 r2 ≡ r3 = after_read 32 (118 ∷ decimal a.version) r3 (version_lacks 32 a.version (omega arith) ok.version) in
      ap₂ (header_said (48 + s)) (ap (before 32) e1 ∙ e2) (ap (λ x. after 32 (after 32 x)) e1 ∙ ap (after 32) e3 ∙ e4) ∙ said s a.reply ok.reply

  -- the headers of all lines
  session_headers : (s n : ℕ) (answers : List (Answer F)) (rest : List (List ℕ)) → AllByRecursion IsPrintable answers → n + length answers < 2 ^ 64
      → headers_in 0 (session_lines s n answers ++ rest) ≡ map (λ (a : Answer F). reply_header s a.reply) answers ++ headers_in 0 rest
  session_headers s n [] rest ok fits = refl
  session_headers s n (a ∷ more) rest ok fits =
      let next : List (List ℕ) = session_lines s (n + 1) more in
      ap (λ (h : Header). h ∷ headers_in h.body ((body_of a.reply ++ next) ++ rest)) (header_read s n a (omega arith) ok.0)
      ∙ ap (λ ls. reply_header s a.reply ∷ headers_in (length (body_of a.reply)) ls) (append_assoc (body_of a.reply) next rest)
      ∙ ap (λ hs. reply_header s a.reply ∷ hs) (headers_pass (body_of a.reply) (next ++ rest) ∙ session_headers s (n + 1) more rest ok.1 (omega arith))

  all_headers : (among : List ℕ) (answers : ℕ → List (Answer F)) → ArePrintable answers
      → headers_in 0 (flat_map (λ s. session_lines s 1 (answers s)) among) ≡ flat_map (λ s. map (λ (a : Answer F). reply_header s a.reply) (answers s)) among
  all_headers [] answers ok = refl
  all_headers (s ∷ among) answers ok =
      session_headers s 1 (answers s) _ (ok.each s) (omega (arith, ok.few s)) ∙ ap (λ hs. map (λ (a : Answer F). reply_header s a.reply) (answers s) ++ hs) (all_headers among answers ok)

  -- the marks of one session
  marks_here : (s k : ℕ) (answers : List (Answer F)) (rest : List Header) → (s == k) ≡ true
      → marks_among (map (λ (a : Answer F). reply_header s a.reply) answers ++ rest) k ≡ map (λ (a : Answer F). says_memory a.reply) answers ++ marks_among rest k
  marks_here s k [] rest e = refl
  marks_here s k (a ∷ more) rest e =
      let others : List Header = filter (λ (h : Header). h.session == k) (map (λ (a : Answer F). reply_header s a.reply) more ++ rest) in
      ap (λ t. map (λ (h : Header). h.is_memory) (cond t (reply_header s a.reply ∷ others) others)) e ∙ ap (λ ms. says_memory a.reply ∷ ms) (marks_here s k more rest e)

  marks_elsewhere : (s k : ℕ) (answers : List (Answer F)) (rest : List Header) → (s == k) ≡ false
      → marks_among (map (λ (a : Answer F). reply_header s a.reply) answers ++ rest) k ≡ marks_among rest k
  marks_elsewhere s k [] rest e = refl
  marks_elsewhere s k (a ∷ more) rest e =
      let others : List Header = filter (λ (h : Header). h.session == k) (map (λ (a : Answer F). reply_header s a.reply) more ++ rest) in
      ap (λ t. map (λ (h : Header). h.is_memory) (cond t (reply_header s a.reply ∷ others) others)) e ∙ marks_elsewhere s k more rest e

  abbrev picked : ℕ → (ℕ → List (Answer F)) → List ℕ → List Bool
  picked k answers among = flat_map (λ s. cond (s == k) (map (λ (a : Answer F). says_memory a.reply) (answers s)) []) among

  marks_one : (s k : ℕ) (answers : List (Answer F)) (rest : List Header)
      → marks_among (map (λ (a : Answer F). reply_header s a.reply) answers ++ rest) k ≡ cond (s == k) (map (λ (a : Answer F). says_memory a.reply) answers) [] ++ marks_among rest k
  marks_one s k answers rest =
      let there : List Bool = map (λ (a : Answer F). says_memory a.reply) answers in
      elim (cases_eq s k) [
        | inl e ↦ marks_here s k answers rest (eq-eqb s k e) ∙ ap (λ t. cond t there [] ++ marks_among rest k) (sym (eq-eqb s k e))
        | inr d ↦ marks_elsewhere s k answers rest (ne_eqb s k d) ∙ ap (λ t. cond t there [] ++ marks_among rest k) (sym (ne_eqb s k d))
      ]

  marks_picked : (k : ℕ) (answers : ℕ → List (Answer F)) (among : List ℕ)
      → marks_among (flat_map (λ s. map (λ (a : Answer F). reply_header s a.reply) (answers s)) among) k ≡ picked k answers among
  marks_picked k answers [] = refl
  marks_picked k answers (s ∷ among) =
      marks_one s k (answers s) _ ∙ ap (λ ms. cond (s == k) (map (λ (a : Answer F). says_memory a.reply) (answers s)) [] ++ ms) (marks_picked k answers among)

  picked_none : (k : ℕ) (answers : ℕ → List (Answer F)) (among : List ℕ) → AllByRecursion (λ s. s ≢ k) among → picked k answers among ≡ []
  picked_none k answers [] apart = refl
  picked_none k answers (s ∷ among) apart =
      ap (λ t. cond t (map (λ (a : Answer F). says_memory a.reply) (answers s)) [] ++ picked k answers among) (ne_eqb s k apart.0) ∙ picked_none k answers among apart.1

  -- a session that is none of the eight has no command
  picked_at : (k : ℕ) (answers : ℕ → List (Answer F)) → answers 0 ≡ [] → ((n : ℕ) → 8 < n → answers n ≡ []) → picked k answers sessions ≡ map (λ (a : Answer F). says_memory a.reply) (answers k)
  picked_at zero answers low high = ap (map (λ (a : Answer F). says_memory a.reply)) (sym low)
  picked_at (suc zero) answers low high = append-nil _
  picked_at (suc (suc zero)) answers low high = append-nil _
  picked_at (suc (suc (suc zero))) answers low high = append-nil _
  picked_at (suc (suc (suc (suc zero)))) answers low high = append-nil _
  picked_at (suc (suc (suc (suc (suc zero))))) answers low high = append-nil _
  picked_at (suc (suc (suc (suc (suc (suc zero)))))) answers low high = append-nil _
  picked_at (suc (suc (suc (suc (suc (suc (suc zero))))))) answers low high = append-nil _
  picked_at (suc (suc (suc (suc (suc (suc (suc (suc zero)))))))) answers low high = append-nil _
  picked_at (suc (suc (suc (suc (suc (suc (suc (suc (suc k))))))))) answers low high =
      picked_none _ answers sessions (beyond k) ∙ ap (map (λ (a : Answer F). says_memory a.reply)) (sym (high (suc (suc (suc (suc (suc (suc (suc (suc (suc k))))))))) (omega arith)))

  -- the lines lack line feeds
  session_lacks : (s n : ℕ) (answers : List (Answer F)) → AllByRecursion IsPrintable answers → n + length answers < 2 ^ 64 → AllByRecursion (Lacks 10) (session_lines s n answers)
  session_lacks s n [] ok fits = tt
  session_lacks s n (a ∷ more) ok fits =
      (header_lacks s n a (omega arith) ok.0, all_append (Lacks 10) (body_of a.reply) _ (body_lacks a.reply (ok.0).reply) (session_lacks s (n + 1) more ok.1 (omega arith)))

  sessions_lack : (among : List ℕ) (answers : ℕ → List (Answer F)) → ArePrintable answers → AllByRecursion (Lacks 10) (flat_map (λ s. session_lines s 1 (answers s)) among)
  sessions_lack [] answers ok = tt
  sessions_lack (s ∷ among) answers ok = all_append (Lacks 10) (session_lines s 1 (answers s)) _ (session_lacks s 1 (answers s) (ok.each s) (omega (arith, ok.few s))) (sessions_lack among answers ok)

  lines_back : (order : List ℕ) (answers : ℕ → List (Answer F)) → ArePrintable answers → lines_in (transcript order answers) ≡ transcript_lines order answers
  lines_back order answers ok =
      text_read (transcript_lines order answers) (lacks_append 10 (codes "order") _ (computed 10 (codes "order") refl) (order_lacks order), sessions_lack sessions answers ok)

  -- the two laws
  pub order_back : (order : List ℕ) (answers : ℕ → List (Answer F)) → ArePrintable answers → order_in (transcript order answers) ≡ order
  order_back order answers ok = ap order_in_lines (lines_back order answers ok) ∙ digits_read order

  pub marks_back : (order : List ℕ) (answers : ℕ → List (Answer F)) → ArePrintable answers → answers 0 ≡ [] → ((n : ℕ) → 8 < n → answers n ≡ [])
      → (session : ℕ) → marks_in (transcript order answers) session ≡ map (λ (a : Answer F). says_memory a.reply) (answers session)
  marks_back order answers ok low high session =
      ap (λ ls. marks_among (headers_in 0 (drop 1 ls)) session) (lines_back order answers ok)
      ∙ ap (λ hs. marks_among hs session) (all_headers sessions answers ok)
      ∙ marks_picked session answers sessions ∙ picked_at session answers low high

-- a front that has the first line whole has the order of the whole
pub order_front : (first xs ys : List ℕ) → Lacks 10 first → order_in (first ++ 10 ∷ xs) ≡ order_in (first ++ 10 ∷ ys)
order_front first xs ys h = ap order_in_lines (line_read first xs h) ∙ sym (ap order_in_lines (line_read first ys h))
