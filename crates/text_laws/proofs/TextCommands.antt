-- What the written lines make of a directory: the title, the unit, and the attributes that are kept.
use Rattle.std.proofs.Common.{◌≡◌, ◌<◌, ◌+◌, ◌++◌, ◌∷◌, ◌∙◌, [], ℕ, Bool, true, not, cond, List, length, map, flat_map, codes, Option, Some, None, Ok, Err, is_ok, arith, refl, ap, sym, subst, ne_eqb, append_assoc, append-nil}
use Rattle.std.specs.Prelude.{◌&&◌, is_none, find, unwrap_or, if◌then◌else◌}
use Rattle.std.specs.List.{AllByRecursion, list_all}
use Rattle.std.specs.Option.{option_map}
use Rattle.name_core.specs.NameText.{IsName, read_name}
use Rattle.name_core.proofs.NameLaws.{accepted}
use Rattle.tcl_words.specs.TopWords.{top_words, atom_of}
use Rattle.tcl_words.specs.declared.token.Token.{Token}
use Rattle.tcl_words.specs.declared.token.Word.{Word}
use Rattle.word_values.specs.Atoms.{text_from}
use Rattle.object_set.specs.Objects.{Parts}
use Rattle.object_set.specs.TextValues.{IsTextValue}
use Rattle.object_set.specs.declared.kept.KeptAttr.{KeptAttr}
use Rattle.put_form.specs.Keeps.{is_text, word_text, kept_attr, has_form, is_named, unnamed_at, kept_or, kept_of}
use Rattle.put_form.specs.Pairs.{Pair, pair, pairs_of}
use Rattle.put_form.specs.Written.{kept_text, kept_line}
use Rattle.put_form.specs.declared.fault.PutFault.TheVariants as put
use Rattle.put_form.proofs.NameWords.{name_word, word_good}
use Rattle.directory.specs.Listing.{Listing}
use Rattle.directory.specs.Walks.{object_of}
use Rattle.asc_form.specs.Reading.{titled, unless_kind, when, is_word, keep_with, kept_by, kept_in, named_made, words_made, read_made, made_by}
use Rattle.asc_form.specs.Written.{title_line}
use Rattle.asc_form.specs.declared.fault.AscKind.TheVariants.{Attr, Name, NoType}
use Rattle.asc_form.proofs.TextLaws.{text_is, titled_as}
use Rattle.text_laws.proofs.TextWords.{Spelled, Plain, Group, after_blanks, line_of, IsSpelled, AreRead, IsReadLine, line_read}

-- ---- a name is an atom

pub name_atom : (bytes : List ℕ) → IsName bytes → IsSpelled (Plain bytes)
name_atom bytes h = word_good bytes 0 (name_word bytes h)

-- ---- the title

known : (bytes : List ℕ) → is_ok (read_name bytes) ≡ true → IsSpelled (Plain bytes)
known bytes h = name_atom bytes ((accepted bytes).0 h)

pub title_is_read : (t : List ℕ) → IsTextValue t → IsReadLine (title_line t) (Plain (codes "title") ∷ Group t ∷ [])
title_is_read t h =
    let same : title_line t ≡ line_of (Plain (codes "title")) (Group t ∷ []) = ap (λ (xs : List ℕ). codes "title {" ++ xs) (sym (append-nil (t ++ 125 ∷ []))) in
    subst (λ (xs : List ℕ). IsReadLine xs (Plain (codes "title") ∷ Group t ∷ [])) (sym same) (line_read (Plain (codes "title")) (Group t ∷ []) (known (codes "title") refl) (h.group, tt))

title_words : (d : Listing) (text : List ℕ) (tokens : List Token) (xs : List Word) (t : List ℕ) → AreRead text tokens xs (Plain (codes "title") ∷ Group t ∷ []) → IsTextValue t → words_made d text tokens xs ≡ Ok (record d { title = t })
title_words d text tokens [] t h k = absurd h
title_words d text tokens (x ∷ []) t h k = absurd h.1
title_words d text tokens (x ∷ y ∷ []) t h k =
    ap (named_made d text tokens x (y ∷ [])) h.0.0
    ∙ ap (λ (o : Option (List ℕ)). titled d (unwrap_or o (text_from text tokens y))) h.1.0
    ∙ titled_as d (record d { title = t }) t k refl refl
title_words d text tokens (x ∷ y ∷ z ∷ zs) t h k = absurd h.1.1

-- the title line gives the title
pub title_made_again : (d : Listing) (t : List ℕ) → IsTextValue t → made_by d (title_line t) ≡ Ok (record d { title = t })
title_made_again d t h =
    let is : IsReadLine (title_line t) (Plain (codes "title") ∷ Group t ∷ []) = title_is_read t h in
    ap (read_made d (title_line t)) is.words ∙ title_words d (title_line t) is.tokens (top_words is.tokens) t is.read h

-- the unit changes nothing
pub units_made_again : (d : Listing) → made_by d (codes "units mm") ≡ Ok d
units_made_again d = refl

-- ---- the attributes that are kept

abbrev pub IsAttribute : KeptAttr → Type 0
IsAttribute k = IsName k.name × IsTextValue k.value

abbrev pub pairs_spelled : List KeptAttr → List Spelled
pairs_spelled [] = []
pairs_spelled (k ∷ ks) = Plain k.name ∷ Group k.value ∷ pairs_spelled ks

pairs_same : (kept : List KeptAttr) → flat_map kept_text kept ≡ after_blanks (pairs_spelled kept)
pairs_same [] = refl
pairs_same (k ∷ ks) =
    ap (λ (xs : List ℕ). 32 ∷ xs) (append_assoc k.name (32 ∷ 123 ∷ (k.value ++ 125 ∷ [])) (flat_map kept_text ks))
    ∙ ap (λ (xs : List ℕ). 32 ∷ (k.name ++ (32 ∷ ((123 ∷ (k.value ++ 125 ∷ [])) ++ xs)))) (pairs_same ks)

pairs_good : (kept : List KeptAttr) → AllByRecursion IsAttribute kept → AllByRecursion IsSpelled (pairs_spelled kept)
pairs_good [] h = tt
pairs_good (k ∷ ks) h = (name_atom k.name h.0.0, (h.0.1.group, pairs_good ks h.1))

abbrev kept_spelled : List ℕ → List KeptAttr → List Spelled
kept_spelled name kept = Plain (codes "attr") ∷ Plain (codes "set") ∷ Plain name ∷ pairs_spelled kept

pub kept_is_read : (name : List ℕ) (kept : List KeptAttr) → IsName name → AllByRecursion IsAttribute kept → IsReadLine (kept_line name kept) (Plain (codes "attr") ∷ Plain (codes "set") ∷ Plain name ∷ pairs_spelled kept)
kept_is_read name kept h good =
    let same : kept_line name kept ≡ line_of (Plain (codes "attr")) (Plain (codes "set") ∷ Plain name ∷ pairs_spelled kept) = ap (λ (xs : List ℕ). codes "attr set " ++ (name ++ xs)) (pairs_same kept) in
    subst (λ (xs : List ℕ). IsReadLine xs (kept_spelled name kept)) (sym same)
    (line_read (Plain (codes "attr")) (Plain (codes "set") ∷ Plain name ∷ pairs_spelled kept) (known (codes "attr") refl) (known (codes "set") refl, (name_atom name h, pairs_good kept good)))

record ReadPairs (text : List ℕ) (tokens : List Token) (place : ℕ) (xs : List Word) (kept : List KeptAttr) : Type 0 where
  pairs : List Pair
  are : pairs_of text tokens place xs ≡ Some pairs
  form : list_all (has_form text tokens) pairs ≡ true
  named : find (λ (p : Pair). not (is_named p)) pairs ≡ None
  many : length pairs ≡ length kept
  same : map (kept_attr text tokens) pairs ≡ kept

both : (a b : Bool) → a ≡ true → b ≡ true → (a && b) ≡ true
both a b h k = cc

pairs_read : (text : List ℕ) (tokens : List Token) (place : ℕ) (xs : List Word) (kept : List KeptAttr) → AreRead text tokens xs (pairs_spelled kept) → AllByRecursion IsAttribute kept → ReadPairs text tokens place xs kept
pairs_read text tokens place [] [] h good = record { pairs = []; are = refl; form = refl; named = refl; many = refl; same = refl }
pairs_read text tokens place [] (k ∷ ks) h good = absurd h
pairs_read text tokens place (x ∷ xs) [] h good = absurd h
pairs_read text tokens place (x ∷ []) (k ∷ ks) h good = absurd h.1
pairs_read text tokens place (x ∷ y ∷ zs) (k ∷ ks) h good =
    let more : ReadPairs text tokens (place + 2) zs ks = pairs_read text tokens (place + 2) zs ks h.1.1 good.1 in
    let p : Pair = pair (Some k.name) y (place + 1) in
    let value : word_text text tokens y ≡ k.value = ap (λ (o : Option (List ℕ)). unwrap_or o (unwrap_or (atom_of text tokens y) [])) h.1.0 in
    record {
      pairs = p ∷ more.pairs;
      are = ap (λ (o : Option (List Pair)). option_map (λ (pairs : List Pair). pair (atom_of text tokens x) y (place + 1) ∷ pairs) o) more.are ∙ ap (λ (a : Option (List ℕ)). Some (pair a y (place + 1) ∷ more.pairs)) h.0.0;
      form = both (has_form text tokens p) (list_all (has_form text tokens) more.pairs) (ap is_text value ∙ text_is k.value good.0.1) more.form;
      named = ap (λ (b : Bool). cond (not b) (Some p) (find (λ (q : Pair). not (is_named q)) more.pairs)) ((accepted k.name).1 good.0.0) ∙ more.named;
      many = omega (arith, more.many);
      same = ap (λ (v : List ℕ). (let a : KeptAttr = record { name = k.name; value = v } in a) ∷ map (kept_attr text tokens) more.pairs) value ∙ ap (λ (more_kept : List KeptAttr). k ∷ more_kept) more.same;
    }

kept_read : (text : List ℕ) (tokens : List Token) (place : ℕ) (xs : List Word) (kept : List KeptAttr) → AreRead text tokens xs (pairs_spelled kept) → AllByRecursion IsAttribute kept → 0 < length kept → kept_of text tokens (pairs_of text tokens place xs) ≡ Ok kept
kept_read text tokens place xs kept h good some =
    let is : ReadPairs text tokens place xs kept = pairs_read text tokens place xs kept h good in
    let all : List KeptAttr = map (kept_attr text tokens) is.pairs in
    let bad : Option Pair = find (λ (p : Pair). not (is_named p)) is.pairs in
    ap (kept_of text tokens) is.are
    ∙ ap (λ (b : Bool). if not b && list_all (has_form text tokens) is.pairs then kept_or (unnamed_at bad) all else Err put.Attr) (ne_eqb (length is.pairs) 0 (λ e. omega (arith, some, is.many, e)))
    ∙ ap (λ (b : Bool). if b then kept_or (unnamed_at bad) all else Err put.Attr) is.form
    ∙ ap (λ (o : Option Pair). kept_or (unnamed_at o) all) is.named
    ∙ ap (λ (attributes : List KeptAttr). Ok attributes) is.same

keep_ok : (d : Listing) (name : List ℕ) (object : Parts) (kept : List KeptAttr) → is_ok (read_name name) ≡ true → object_of d.objects name ≡ Some object → keep_with d (Some name) (Ok kept) ≡ Ok (record d { objects = kept_in d.objects name object kept })
keep_ok d name object kept named there =
    ap (λ (b : Bool). unless_kind (None ∷ when (b && is_none (object_of d.objects name)) Attr ∷ when (not b) Name ∷ None ∷ []) (kept_by d name kept (object_of d.objects name))) named
    ∙ ap (λ (o : Option Parts). unless_kind (None ∷ when (true && is_none o) Attr ∷ None ∷ None ∷ []) (kept_by d name kept o)) there

kept_words : (d : Listing) (text : List ℕ) (tokens : List Token) (xs : List Word) (name : List ℕ) (object : Parts) (kept : List KeptAttr) → AreRead text tokens xs (Plain (codes "attr") ∷ Plain (codes "set") ∷ Plain name ∷ pairs_spelled kept)
    → IsName name → AllByRecursion IsAttribute kept → 0 < length kept → object_of d.objects name ≡ Some object → words_made d text tokens xs ≡ Ok (record d { objects = kept_in d.objects name object kept })
kept_words d text tokens [] name object kept h n good some there = absurd h
kept_words d text tokens (x ∷ []) name object kept h n good some there = absurd h.1
kept_words d text tokens (x ∷ y ∷ []) name object kept h n good some there = absurd h.1.1
kept_words d text tokens (x ∷ y ∷ z ∷ zs) name object kept h n good some there =
    ap (named_made d text tokens x (y ∷ z ∷ zs)) h.0.0
    ∙ ap (λ (o : Option (List ℕ)). if is_word (codes "set") o then keep_with d (atom_of text tokens z) (kept_of text tokens (pairs_of text tokens 4 zs)) else Err NoType) h.1.0.0
    ∙ ap (λ (o : Option (List ℕ)). keep_with d o (kept_of text tokens (pairs_of text tokens 4 zs))) h.1.1.0.0
    ∙ ap (keep_with d (Some name)) (kept_read text tokens 4 zs kept h.1.1.1 good some)
    ∙ keep_ok d name object kept ((accepted name).1 n) there

-- the `attr set` line of an object that is there
pub kept_made_again : (d : Listing) (name : List ℕ) (object : Parts) (kept : List KeptAttr) → IsName name → AllByRecursion IsAttribute kept → 0 < length kept → object_of d.objects name ≡ Some object
    → made_by d (kept_line name kept) ≡ Ok (record d { objects = kept_in d.objects name object kept })
kept_made_again d name object kept h good some there =
    let is : IsReadLine (kept_line name kept) (kept_spelled name kept) = kept_is_read name kept h good in
    ap (read_made d (kept_line name kept)) is.words ∙ kept_words d (kept_line name kept) is.tokens (top_words is.tokens) name object kept is.read h good some there
