-- The written lines of the objects of a sound directory give these objects, one after another.
use Rattle.std.proofs.Common.{◌≡◌, ◌≢◌, inl, inr, ◌≤◌, ◌+◌, ◌++◌, ◌∷◌, ◌∙◌, [], ℕ, Bool, true, false, cond, List, length, codes, Option, Some, None, Result, Ok, Err, arith, refl, ap, sym, subst, append_assoc, append-nil, length-append}
use Rattle.std.specs.Prelude.{is_some, bytes_eq, nat_le, nat_lt, if◌then◌else◌}
use Rattle.std.specs.List.{AllByRecursion, Contains, IsDistinct}
use Rattle.std.specs.Map.{keys_of, set_value}
use Rattle.std.specs.Option.{option_map}
use Rattle.std.proofs.lemmas.Bool.{lt-leb, le-ltb}
use Rattle.std.proofs.lemmas.Map.Keys.{IsDistinct-head, IsDistinct-tail}
use Rattle.name_core.specs.NameText.{IsName}
use Rattle.name_core.specs.Same.{same_name}
use Rattle.name_core.specs.declared.name.Name.{Name}
use Rattle.transcript.specs.Lines.{Lacks}
use Rattle.transcript.proofs.LineLaws.{lacks_append}
use Rattle.transcript.proofs.TranscriptLaws.{computed}
use Rattle.tcl_words.specs.Faults.{depth, word_fault}
use Rattle.tcl_words.specs.Reading.{words_of}
use Rattle.tcl_words.specs.Tokens.{tokens_of}
use Rattle.tcl_words.specs.TopWords.{top_words, atom_of}
use Rattle.tcl_words.specs.declared.token.Token.{Token}
use Rattle.tcl_words.specs.declared.token.Word.{Word}
use Rattle.tcl_words.proofs.Fine.{words_fine, from_fine}
use Rattle.tcl_words.proofs.RoundTrip.{reading_ok}
use Rattle.object_set.specs.Keeping.{kept_after}
use Rattle.object_set.specs.Noting.{noted_after}
use Rattle.object_set.specs.Objects.{Parts, keys_of_kept}
use Rattle.object_set.specs.TextValues.{IsTextValue}
use Rattle.object_set.specs.declared.kept.KeptAttr.{KeptAttr}
use Rattle.object_set.specs.declared.object.Body.{Body}
use Rattle.object_set.proofs.Noted.{noted_all, kept_again}
use Rattle.put_form.specs.Puts.{Put, put_of, is_put}
use Rattle.put_form.specs.Written.{put_line, kept_line, kept_lines}
use Rattle.put_form.specs.declared.fault.PutFault.TheVariants as put
use Rattle.directory.specs.Edits.{judged_by, appended, put_fault, when}
use Rattle.directory.specs.Listing.{Listing}
use Rattle.directory.specs.Walks.{Entries, object_of, members_of, comb_weight, IsWalk, combinations, IsSound, depth_within, deepest, unbounded, most_depth}
use Rattle.directory.specs.declared.fault.DirFault.{DirFault}
use Rattle.directory.specs.declared.fault.DirFault.TheVariants.{Cycle, Deep}
use Rattle.directory.proofs.EditLemmas.{IsWithin, within_walk, within_combinations}
use Rattle.object_pages.proofs.EntryLemmas.{later_key}
use Rattle.object_pages.proofs.EntryLemmas.{past_head}
use Rattle.directory.proofs.TellLemmas.{first_past, put_rest}
use Rattle.directory.proofs.WalkLemmas.{greatest_bound, depth_met}
use Rattle.shared_pages.proofs.NameLemmas.{name_tells}
use Rattle.asc_form.specs.Reading.{unless_kind, kind_of_dir, put_into, kept_in, named_made, words_made, read_made, made_by, made_from, made_of, directory_of, empty}
use Rattle.asc_form.specs.Written.{title_line, objects_lines, written}
use Rattle.asc_form.specs.Commands.{Piece}
use Rattle.asc_form.specs.declared.fault.AscFault.{AscFault}
use Rattle.text_laws.specs.PutAgain.{IsPutAgain}
use Rattle.object_set.proofs.Each.{by_each}
use Rattle.text_laws.proofs.TextCommands.{IsAttribute, title_is_read, title_made_again, kept_is_read, kept_made_again}
use Rattle.text_laws.proofs.TextLines.{IsWholeLine, numbered, lines_are_pieces}

-- an object before its attributes are kept
abbrev bare : Parts → Parts
bare o = record { body = o.body; kept = [] }

-- ---- the list up to an object has no more walks than the whole list

record Less (old new : Option Parts) : Type 0 where
  weight : comb_weight new ≤ comb_weight old
  refers : (y : Name) → Contains (members_of new) y → Contains (members_of old) y

less_none : (old : Option Parts) → Less old None
less_none old = record { weight = omega arith; refers = λ y c. absurd (omega (arith, c.1)) }

less_last : (b : Bool) (o : Parts) (old new : Option Parts) → Less old new → Less (cond b (Some o) old) (cond b (Some (bare o)) new)
less_last true o old new h = record { weight = omega arith; refers = λ y c. c }
less_last false o old new h = h

less_same : (b : Bool) (p : Parts) (old new : Option Parts) → Less old new → Less (cond b (Some p) old) (cond b (Some p) new)
less_same true p old new h = record { weight = omega arith; refers = λ y c. c }
less_same false p old new h = h

less_look : (done : Entries) (a : Name) (o : Parts) (more : Entries) (x : Name) → Less (object_of (done ++ (a, o) ∷ more) x) (object_of (done ++ (a, bare o) ∷ []) x)
less_look [] a o more x = less_last (same_name x a) o (object_of more x) None (less_none (object_of more x))
less_look (e ∷ done) a o more x = less_same (same_name x e.0) e.1 (object_of (done ++ (a, o) ∷ more) x) (object_of (done ++ (a, bare o) ∷ []) x) (less_look done a o more x)

within_whole : (done : Entries) (a : Name) (o : Parts) (more : Entries) → IsWithin (done ++ (a, o) ∷ more) (done ++ (a, bare o) ∷ [])
within_whole done a o more = record {
  weight = λ x. (less_look done a o more x).weight;
  refers = λ x y c. (less_look done a o more x).refers y c;
}

shallow_first : (done : Entries) (a : Name) (o : Parts) (more : Entries) → IsSound (done ++ (a, o) ∷ more) → (w : List Name) → IsWalk (done ++ (a, bare o) ∷ []) w → combinations (done ++ (a, bare o) ∷ []) w ≤ most_depth
shallow_first done a o more sound w walk =
    let old : Entries = done ++ (a, o) ∷ more in
    let new : Entries = done ++ (a, bare o) ∷ [] in
    let h : IsWithin old new = within_whole done a o more in
    omega (arith, within_combinations old new h w, sound.shallow w (within_walk old new h w walk))

deepest_low : (dir : Entries) → ((w : List Name) → IsWalk dir w → combinations dir w ≤ most_depth) → deepest dir ≤ most_depth
deepest_low dir shallow =
    greatest_bound (depth_within unbounded dir) most_depth
    (λ x. let met : (w : List Name) × IsWalk dir (x ∷ w) × (depth_within unbounded dir x ≤ combinations dir (x ∷ w)) = depth_met unbounded dir x in omega (arith, met.2, shallow (x ∷ met.0) met.1)) (keys_of dir)

judged_low : (d : ℕ) (a : Name) → d ≤ most_depth → judged_by d a ≡ None
judged_low d a low =
    first_past (nat_le unbounded d) (Cycle a) (when (nat_lt most_depth d) (Deep d) ∷ []) (lt-leb unbounded d (omega (arith, low)))
    ∙ first_past (nat_lt most_depth d) (Deep d) [] (le-ltb most_depth d low)

fresh : (done : Entries) (a : Name) (o : Parts) (more : Entries) → IsDistinct same_name (keys_of (done ++ (a, o) ∷ more)) → object_of done a ≡ None
fresh [] a o more h = refl
fresh ((x, p) ∷ done) a o more h =
    let apart : a ≢ x = past_head x (keys_of (done ++ (a, o) ∷ more)) (IsDistinct-head same_name x (keys_of (done ++ (a, o) ∷ more)) h) a (later_key done a o more) in
    elim (name_tells a x) [ inl t ↦ absurd (apart t.1) | inr t ↦ rw t.0 (fresh done a o more (IsDistinct-tail same_name x (keys_of (done ++ (a, o) ∷ more)) h)) ]

-- the next object of a sound list may be put
put_none : (done : Entries) (a : Name) (o : Parts) (more : Entries) → IsSound (done ++ (a, o) ∷ more) → put_fault done a (bare o) ≡ None
put_none done a o more sound =
    sym (put_rest done a (bare o) (ap is_some (fresh done a o more sound.distinct)) (omega (arith, sound.small, length-append done ((a, o) ∷ more))))
    ∙ judged_low (deepest (done ++ (a, bare o) ∷ [])) a (deepest_low (done ++ (a, bare o) ∷ []) (shallow_first done a o more sound))

-- ---- the `put` line

put_by : (d : Listing) (text : List ℕ) (tokens : List Token) (word : Word) (rest : List Word) (w : List ℕ) (b : Bool) (found : Put) (made : Name × Parts) → bytes_eq w (codes "put") ≡ b
    → (if b then found else Err put.NoType) ≡ Ok made → put_of text tokens (word ∷ rest) ≡ Ok made → named_made d text tokens word rest (Some w) ≡ put_into d (Ok made)
put_by d text tokens word rest w true found made is h k = rw is (ap (put_into d) k)
put_by d text tokens word rest w false found made is h k = cc

put_atom : (d : Listing) (text : List ℕ) (tokens : List Token) (word : Word) (rest : List Word) (o : Option (List ℕ)) (found : Put) (made : Name × Parts)
    → (if is_put o then found else Err put.NoType) ≡ Ok made → put_of text tokens (word ∷ rest) ≡ Ok made → named_made d text tokens word rest o ≡ put_into d (Ok made)
put_atom d text tokens word rest None found made h k = cc
put_atom d text tokens word rest (Some w) found made h k = put_by d text tokens word rest w (bytes_eq w (codes "put")) found made refl h k

put_words : (d : Listing) (text : List ℕ) (tokens : List Token) (xs : List Word) (made : Name × Parts) → put_of text tokens xs ≡ Ok made → words_made d text tokens xs ≡ put_into d (Ok made)
put_words d text tokens [] made h = cc
put_words d text tokens (x ∷ []) made h = cc
put_words d text tokens (x ∷ y ∷ []) made h = cc
put_words d text tokens (x ∷ y ∷ z ∷ zs) made h = put_atom d text tokens x (y ∷ z ∷ zs) (atom_of text tokens x) _ made h h

put_ok : (d : Listing) (a : Name) (o : Parts) → put_fault d.objects a o ≡ None → put_into d (Ok (a, o)) ≡ Ok (record d { objects = d.objects ++ (a, o) ∷ [] })
put_ok d a o none = ap (λ (f : Option DirFault). unless_kind (option_map kind_of_dir f ∷ []) (record d { objects = appended d.objects a o })) none

put_made_again : (d : Listing) (a : Name) (o : Parts) (more : Entries) → IsSound (d.objects ++ (a, o) ∷ more) → IsPutAgain a o.body → made_by d (put_line a o.body) ≡ Ok (record d { objects = d.objects ++ (a, bare o) ∷ [] })
put_made_again d a o more sound again =
    ap (read_made d (put_line a o.body)) again.1
    ∙ put_words d (put_line a o.body) again.0 (top_words again.0) (a, bare o) again.2
    ∙ put_ok d a (bare o) (put_none d.objects a o more sound)

-- ---- the `attr set` line

cond_none : (b : Bool) (p : Parts) (rest : Option Parts) → cond b (Some p) rest ≡ None → (b ≡ false) × (rest ≡ None)
cond_none true p rest e = cc
cond_none false p rest e = (refl, e)

same_self : (a : Name) → same_name a a ≡ true
same_self a = elim (name_tells a a) [ inl t ↦ t.0 | inr t ↦ absurd (t.1 refl) ]

look_last : (done : Entries) (a : Name) (p : Parts) → object_of done a ≡ None → object_of (done ++ (a, p) ∷ []) a ≡ Some p
look_last [] a p none = ap (λ (b : Bool). cond b (Some p) None) (same_self a)
look_last (e ∷ done) a p none =
    let h : (same_name a e.0 ≡ false) × (object_of done a ≡ None) = cond_none (same_name a e.0) e.1 (object_of done a) none in
    ap (λ (b : Bool). cond b (Some e.1) (object_of (done ++ (a, p) ∷ []) a)) h.0 ∙ look_last done a p h.1

set_last : (done : Entries) (a : Name) (p q : Parts) → object_of done a ≡ None → set_value (same_name a) (done ++ (a, p) ∷ []) q ≡ done ++ (a, q) ∷ []
set_last [] a p q none = ap (λ (b : Bool). cond b ((a, q) ∷ []) ((a, p) ∷ [])) (same_self a)
set_last (e ∷ done) a p q none =
    let h : (same_name a e.0 ≡ false) × (object_of done a ≡ None) = cond_none (same_name a e.0) e.1 (object_of done a) none in
    ap (λ (b : Bool). cond b ((e.0, q) ∷ (done ++ (a, p) ∷ [])) (e ∷ set_value (same_name a) (done ++ (a, p) ∷ []) q)) h.0 ∙ ap (λ (es : Entries). e ∷ es) (set_last done a p q h.1)

all_kept : (kept : List KeptAttr) → IsDistinct same_name (keys_of_kept kept) → kept_after [] kept ≡ kept
all_kept kept h = sym (noted_all [] kept) ∙ kept_again kept [] [] (noted_after [] kept) (noted_after [] kept) h refl refl refl

-- an entry whose lines read again
pub record IsReadEntry (e : Name × Parts) : Type 0 where
  pub name : IsName e.0
  pub put_line_lacks : Lacks 10 (put_line e.0 e.1.body)
  pub kept_line_lacks : Lacks 10 (kept_line e.0 e.1.kept)
  pub attributes : AllByRecursion IsAttribute e.1.kept
  pub distinct : IsDistinct same_name (keys_of_kept e.1.kept)
  pub again : IsPutAgain e.0 e.1.body

abbrev listing : List ℕ → Entries → Listing
listing title objects = record { title = title; objects = objects }

kept_then : (title : List ℕ) (done : Entries) (a : Name) (body : Body) (kept : List KeptAttr) (lines : List (List ℕ)) (n : ℕ) (whole : Result Listing AscFault) → IsName a → AllByRecursion IsAttribute kept → IsDistinct same_name (keys_of_kept kept)
    → object_of done a ≡ None → ((m : ℕ) → made_of (numbered m lines) (listing title (done ++ (a, record { body = body; kept = kept }) ∷ [])) ≡ whole)
    → made_of (numbered n (kept_lines a kept ++ lines)) (listing title (done ++ (a, record { body = body; kept = [] }) ∷ [])) ≡ whole
kept_then title done a body [] lines n whole name good distinct none rest = rest n
kept_then title done a body (k ∷ ks) lines n whole name good distinct none rest =
    let plain : Parts = record { body = body; kept = [] } in
    let now : Entries = done ++ (a, plain) ∷ [] in
    let same : kept_in now a plain (k ∷ ks) ≡ done ++ (a, record { body = body; kept = k ∷ ks }) ∷ [] =
    ap (λ (attributes : List KeptAttr). set_value (same_name a) now (let p : Parts = record { body = body; kept = attributes } in p)) (all_kept (k ∷ ks) distinct)
    ∙ set_last done a plain (record { body = body; kept = k ∷ ks }) none in
    ap (made_from (made_of (numbered (n + 1) lines)) n) (kept_made_again (listing title now) a plain (k ∷ ks) name good (omega arith) (look_last done a plain none))
    ∙ ap (λ (es : Entries). made_of (numbered (n + 1) lines) (listing title es)) same
    ∙ rest (n + 1)

objects_read : (title : List ℕ) (done rest : Entries) (n : ℕ) → IsSound (done ++ rest) → AllByRecursion IsReadEntry rest → made_of (numbered n (objects_lines rest)) (listing title done) ≡ Ok (listing title (done ++ rest))
objects_read title done [] n sound good = ap (λ (es : Entries). Ok (listing title es)) (sym (append-nil done))
objects_read title done ((a, o) ∷ more) n sound good =
    let joined : (done ++ (a, o) ∷ []) ++ more ≡ done ++ (a, o) ∷ more = append_assoc done ((a, o) ∷ []) more in
    ap (made_from (made_of (numbered (n + 1) (kept_lines a o.kept ++ objects_lines more))) n) (put_made_again (listing title done) a o more sound good.0.again)
    ∙ kept_then title done a o.body o.kept (objects_lines more) (n + 1) (Ok (listing title (done ++ (a, o) ∷ more))) good.0.name good.0.attributes good.0.distinct (fresh done a o more sound.distinct)
    (λ m. objects_read title (done ++ (a, o) ∷ []) more m (subst (λ (es : Entries). IsSound es) (sym joined) sound) good.1 ∙ ap (λ (es : Entries). Ok (listing title es)) joined)

-- ---- each line is one command

no_fault_depth : (text : List ℕ) → word_fault text ≡ None → depth text (length text) ≡ 0
no_fault_depth text none = (from_fine text 0 0 text refl (omega arith) refl (words_fine text none)).1

words_depth : (text : List ℕ) (tokens : List Token) → words_of text ≡ Ok tokens → depth text (length text) ≡ 0
words_depth text tokens is = no_fault_depth text (reading_ok (word_fault text) (tokens_of text) tokens is).0

title_whole : (title : List ℕ) → IsTextValue title → IsWholeLine (title_line title)
title_whole title h =
    let is = title_is_read title h in (
      lacks_append 10 (codes "title {") (title ++ codes "}") (computed 10 (codes "title {") refl) (lacks_append 10 title (codes "}") (by_each (λ b. b ≢ 10) title h.one_line) (computed 10 (codes "}") refl)),
      words_depth (title_line title) is.tokens is.words,
    )

units_whole : IsWholeLine (codes "units mm")
units_whole = (computed 10 (codes "units mm") refl, refl)

all_both : {X : Type 0} (P : X → Type 0) (xs ys : List X) → AllByRecursion P xs → AllByRecursion P ys → AllByRecursion P (xs ++ ys)
all_both P [] ys h k = k
all_both P (x ∷ xs) ys h k = (h.0, all_both P xs ys h.1 k)

kept_whole : (name : Name) (kept : List KeptAttr) → IsName name → AllByRecursion IsAttribute kept → Lacks 10 (kept_line name kept) → AllByRecursion IsWholeLine (kept_lines name kept)
kept_whole name [] h good lacks = tt
kept_whole name (k ∷ ks) h good lacks =
    let is = kept_is_read name (k ∷ ks) h good in
    ((lacks, words_depth (kept_line name (k ∷ ks)) is.tokens is.words), tt)

objects_whole : (objects : Entries) → AllByRecursion IsReadEntry objects → AllByRecursion IsWholeLine (objects_lines objects)
objects_whole [] good = tt
objects_whole ((a, o) ∷ more) good =
    let here : IsReadEntry (a, o) = good.0 in
    ((here.put_line_lacks, words_depth (put_line a o.body) here.again.0 here.again.1), all_both IsWholeLine (kept_lines a o.kept) (objects_lines more) (kept_whole a o.kept here.name here.attributes here.kept_line_lacks) (objects_whole more good.1))

pub text_again : (d : Listing) → IsTextValue d.title → IsSound d.objects → AllByRecursion IsReadEntry d.objects → directory_of (written d) ≡ Ok d
text_again d text sound good =
    let lines : List (List ℕ) = title_line d.title ∷ codes "units mm" ∷ objects_lines d.objects in
    ap (λ (ps : List Piece). made_of ps empty) (lines_are_pieces lines (title_whole d.title text, (units_whole, objects_whole d.objects good)))
    ∙ ap (made_from (made_of (numbered (1 + 1) (codes "units mm" ∷ objects_lines d.objects))) 1) (title_made_again empty d.title text)
    ∙ objects_read d.title [] d.objects (1 + 1 + 1) sound good
