-- Objects that keep what was gathered for their names: the list with all of it put in, and each edit of it.
use Rattle.std.proofs.Common.{◌≡◌, ◌≢◌, inl, inr, ◌++◌, ◌∷◌, ◌∙◌, ◌+◌, ◌-◌, [], ℕ, zero, suc, Bool, true, false, cond, List, Option, Some, None, IsSome, Result, Ok, Err, length, length-append, take, map, refl, ap, sym, subst, arith}
use Rattle.std.specs.Prelude.{is_err, is_some, nat_le}
use Rattle.std.specs.Option.{option_map}
use Rattle.std.specs.List.{AllByRecursion, Contains, IsDistinct}
use Rattle.std.specs.Map.{keys_of, lookup}
use Rattle.std.proofs.lemmas.List.{length-map}
use Rattle.std.proofs.lemmas.Map.Keys.{IsDistinct-head, IsDistinct-tail}
use Rattle.std.proofs.lemmas.List.Elements.{All-append}
use Rattle.name_core.specs.Same.{same_name}
use Rattle.name_core.specs.declared.name.Name.{Name}
use Rattle.object_set.specs.Keeping.{with_kept, kept_after}
use Rattle.object_set.specs.Objects.{Parts, member_names}
use Rattle.object_set.specs.TextValues.{IsTextValue}
use Rattle.object_set.specs.declared.kept.KeptAttr.{KeptAttr}
use Rattle.object_set.specs.declared.object.Body.{Body}
use Rattle.object_set.specs.declared.object.Body.TheVariants.{Solid, Comb}
use Rattle.directory.specs.declared.fault.DirFault.{DirFault}
use Rattle.directory.specs.declared.fault.DirFault.TheVariants.{Exists, Missing, Full, Cycle, Deep, Memory}
use Rattle.directory.specs.Drafts.{gather_fault}
use Rattle.directory.specs.Edits.{first_of, when, appended, put_fault, replaced, replace_fault, judged, judged_by, IsCause, Follows}
use Rattle.directory.specs.Listing.{Listing}
use Rattle.directory.specs.Walks.{Entries, IsSound, object_of, body_weight, body_depth, depth_over, depth_within, greatest_of, deepest, unbounded, most_objects}
use Rattle.directory.proofs.DraftLemmas.{gather_put}
use Rattle.object_pages.proofs.EntryLemmas.{replace_other}
use Rattle.directory.proofs.FindLemmas.{none_or}
use Rattle.directory.proofs.PlaceLemmas.{map_same, over_same}
use Rattle.object_pages.proofs.EntryLemmas.{past_head}
use Rattle.directory.proofs.RelaxLemmas.{same_judged}
use Rattle.directory.proofs.TellLemmas.{first_holds, put_exists, replace_rest}
use Rattle.shared_pages.proofs.NameLemmas.{name_tells}
use Rattle.object_pages.proofs.EntryLemmas.{same_or_apart}
use Rattle.asc_form.specs.Gathering.{Gathered, pairs_in, gathered_of, keeping, settled_by, settled, AreTexts, IsGathered, KeepsNames, Puts, Gathers, Settles}
use Rattle.asc_form.specs.Progress.{IsReader, Progress, PutsObject}
use Rattle.asc_form.specs.Reading.{kept_by}

abbrev Pairs : Type 0
Pairs = List KeptAttr

-- ---- to keep twice is to keep all of it
kept_twice : (kept a b : Pairs) → kept_after (kept_after kept a) b ≡ kept_after kept (a ++ b)
kept_twice kept [] b = refl
kept_twice kept (pair ∷ a) b = kept_twice (with_kept kept pair) a b

keeping_twice : (o : Parts) (a b : Pairs) → keeping (keeping o a) b ≡ keeping o (a ++ b)
keeping_twice o a b = ap (λ (ks : Pairs). let p : Parts = record o { kept = ks } in p) (kept_twice o.kept a b)

-- ---- names, objects and depths
pub look_settled : (f : Name → Pairs) (es : Entries) (x : Name) → object_of (settled_by f es) x ≡ option_map (λ o. keeping o (f x)) (object_of es x)
look_settled f [] x = refl
look_settled f ((k, o) ∷ es) x =
    elim (name_tells x k) [
      | inl t ↦ rw t.0 (ap (λ (n : Name). Some (keeping o (f n))) (sym t.1))
      | inr t ↦ rw t.0 (look_settled f es x)
    ]

some_kept : (o : Option Parts) (pairs : Pairs) → is_some (option_map (λ p. keeping p pairs) o) ≡ is_some o
some_kept None pairs = refl
some_kept (Some p) pairs = refl

pub has_settled : (f : Name → Pairs) (es : Entries) (x : Name) → is_some (object_of (settled_by f es) x) ≡ is_some (object_of es x)
has_settled f es x = ap is_some (look_settled f es x) ∙ some_kept (object_of es x) (f x)

keys_settled : (f : Name → Pairs) (es : Entries) → keys_of (settled_by f es) ≡ keys_of es
keys_settled f [] = refl
keys_settled f (e ∷ es) = ap (λ (l : List Name). e.0 ∷ l) (keys_settled f es)

over_kept : (o : Option Parts) (pairs : Pairs) (below : Name → ℕ) → depth_over (option_map (λ p. keeping p pairs) o) below ≡ depth_over o below
over_kept None pairs below = refl
over_kept (Some p) pairs below = refl

depth_settled : (f : Name → Pairs) (es : Entries) (most : ℕ) (x : Name) → depth_within most (settled_by f es) x ≡ depth_within most es x
depth_settled f es zero x = refl
depth_settled f es (suc most) x =
    ap (λ (q : Option Parts). depth_over q (depth_within most (settled_by f es))) (look_settled f es x)
    ∙ over_kept (object_of es x) (f x) (depth_within most (settled_by f es))
    ∙ over_same (depth_within most (settled_by f es)) (depth_within most es) (depth_settled f es most) (object_of es x)

deepest_settled : (f : Name → Pairs) (es : Entries) → deepest (settled_by f es) ≡ deepest es
deepest_settled f es =
    ap (λ (ks : List Name). greatest_of (map (depth_within unbounded (settled_by f es)) ks)) (keys_settled f es)
    ∙ ap greatest_of (map_same (depth_within unbounded (settled_by f es)) (depth_within unbounded es) (keys_of es) (λ x c. depth_settled f es unbounded x))

pub settled_none : (es : Entries) → settled es [] ≡ es
settled_none [] = refl
settled_none (e ∷ es) = ap (λ (l : Entries). e ∷ l) (settled_none es)

-- ---- an object is put
settled_append : (f : Name → Pairs) (es : Entries) (a : Name) (o : Parts) → f a ≡ [] → settled_by f (appended es a o) ≡ appended (settled_by f es) a o
settled_append f [] a o h = ap (λ (pairs : Pairs). (a, keeping o pairs) ∷ []) h
settled_append f (e ∷ es) a o h = ap (λ (l : Entries). (e.0, keeping e.1 (f e.0)) ∷ l) (settled_append f es a o h)

put_same : (f : Name → Pairs) (es : Entries) (a : Name) (o : Parts) → (object_of es a ≡ None → f a ≡ []) → put_fault (settled_by f es) a o ≡ put_fault es a o
put_same f es a o nothing =
    elim (none_or (object_of es a)) [
      | inl none ↦ let deep : deepest (appended (settled_by f es) a o) ≡ deepest (appended es a o) = sym (ap deepest (settled_append f es a o (nothing none))) ∙ deepest_settled f (appended es a o) in
          ap (λ (b : Bool). first_of (when b Exists ∷ when (nat_le most_objects (length (settled_by f es))) Full ∷ judged (appended (settled_by f es) a o) a ∷ [])) (has_settled f es a)
          ∙ ap (λ (n : ℕ). first_of (when (is_some (object_of es a)) Exists ∷ when (nat_le most_objects n) Full ∷ judged (appended (settled_by f es) a o) a ∷ [])) (length-map es (λ (e : Name × Parts). (e.0, keeping e.1 (f e.0))))
          ∙ ap (λ (n : ℕ). first_of (when (is_some (object_of es a)) Exists ∷ when (nat_le most_objects (length es)) Full ∷ judged_by n a ∷ [])) deep
      | inr there ↦ put_exists (settled_by f es) a o (has_settled f es a ∙ ap is_some there.1) ∙ sym (put_exists es a o (ap is_some there.1))
    ]

nothing_for : (g : Gathered) (es : Entries) (a : Name) → IsGathered es g → object_of es a ≡ None → gathered_of g a ≡ []
nothing_for g es a h none = ap pairs_in (h.there a none)

gather_new : (es : Entries) (a : Name) → gather_fault es a ≡ None → object_of es a ≡ None
gather_new es a e =
    elim (none_or (object_of es a)) [
      | inl none ↦ none
      | inr there ↦ let wrong : Some Exists ≡ None = sym (first_holds (is_some (object_of es a)) Exists _ (ap is_some there.1)) ∙ e in cc
    ]

-- a reader with these parts
abbrev pub progress_of : List ℕ → Entries → Entries → List ℕ → ℕ → Progress
progress_of title objects bare lines line = record { made = record { title = title; objects = objects }; bare = bare; lines = lines; line = line }

pub object_put : (title : List ℕ) (g : Gathered) (es after : Entries) (lines left : List ℕ) (line : ℕ) (a : Name) (o : Parts) → IsGathered es g → Follows es (gather_fault es a) (appended es a o) (Ok tt) after
    → left ≡ lines ++ line ∷ [] → PutsObject a o (progress_of title (settled es g) es lines line) (Ok tt) (progress_of title (settled after g) after left line)
object_put title g es after lines left line a o gathered h more = (
  ap (λ (l : Entries). progress_of title (settled l g) l left line) h.1
      ∙ ap (λ (l : Entries). progress_of title l (appended es a o) left line) (settled_append (gathered_of g) es a o (nothing_for g es a gathered (gather_new es a h.0)))
      ∙ ap (λ (ls : List ℕ). progress_of title (appended (settled es g) a o) (appended es a o) ls line) more,
  put_same (gathered_of g) es a o (nothing_for g es a gathered),
)

not_put : (title : List ℕ) (g : Gathered) (es after : Entries) (lines left : List ℕ) (line : ℕ) (a : Name) (o : Parts) (fault : DirFault) → IsGathered es g → gather_fault es a ≡ Some fault → after ≡ es → left ≡ lines
    → (put_fault (settled es g) a o ≡ Some fault) × (progress_of title (settled after g) after left line ≡ progress_of title (settled es g) es lines line)
not_put title g es after lines left line a o fault gathered is same kept = (
  put_same (gathered_of g) es a o (nothing_for g es a gathered) ∙ gather_put es a o fault is,
  ap (λ (l : Entries). progress_of title (settled l g) l left line) same ∙ ap (λ (ls : List ℕ). progress_of title (settled es g) es ls line) kept,
)

pub object_not_put : (title : List ℕ) (g : Gathered) (es after : Entries) (lines left : List ℕ) (line : ℕ) (a : Name) (o : Parts) (fault : DirFault) → IsGathered es g
    → Follows es (gather_fault es a) (appended es a o) (Err fault) after → left ≡ lines → PutsObject a o (progress_of title (settled es g) es lines line) (Err fault) (progress_of title (settled after g) after left line)
object_not_put title g es after lines left line a o Exists gathered h kept = not_put title g es after lines left line a o Exists gathered h.0 h.1 kept
object_not_put title g es after lines left line a o Missing gathered h kept = not_put title g es after lines left line a o Missing gathered h.0 h.1 kept
object_not_put title g es after lines left line a o Full gathered h kept = not_put title g es after lines left line a o Full gathered h.0 h.1 kept
object_not_put title g es after lines left line a o (Cycle b) gathered h kept = not_put title g es after lines left line a o (Cycle b) gathered h.0 h.1 kept
object_not_put title g es after lines left line a o (Deep n) gathered h kept = not_put title g es after lines left line a o (Deep n) gathered h.0 h.1 kept
object_not_put title g es after lines left line a o Memory gathered h kept = tt

pub put_done : (title : List ℕ) (g : Gathered) (es after : Entries) (lines left : List ℕ) (line : ℕ) (a : Name) (o : Parts) (r : Result (Unit {0}) DirFault) → is_err r ≡ false → IsGathered es g
    → Follows es (gather_fault es a) (appended es a o) r after → left ≡ lines ++ line ∷ [] → PutsObject a o (progress_of title (settled es g) es lines line) r (progress_of title (settled after g) after left line)
put_done title g es after lines left line a o (Ok u) e gathered h more = object_put title g es after lines left line a o gathered h more
put_done title g es after lines left line a o (Err fault) e gathered h more = cc

pub put_refused : (title : List ℕ) (g : Gathered) (es after : Entries) (lines left : List ℕ) (line : ℕ) (a : Name) (o : Parts) (r : Result (Unit {0}) DirFault) → is_err r ≡ true → IsGathered es g
    → Follows es (gather_fault es a) (appended es a o) r after → left ≡ lines → PutsObject a o (progress_of title (settled es g) es lines line) r (progress_of title (settled after g) after left line)
put_refused title g es after lines left line a o (Ok u) e gathered h kept = cc
put_refused title g es after lines left line a o (Err fault) e gathered h kept = object_not_put title g es after lines left line a o fault gathered h kept

front_of : (xs : List ℕ) (x : ℕ) → take (length xs) (xs ++ x ∷ []) ≡ xs
front_of [] x = refl
front_of (y ∷ xs) x = ap (λ (l : List ℕ). y ∷ l) (front_of xs x)

pub popped : (xs ys zs : List ℕ) (x n : ℕ) → ys ≡ xs ++ x ∷ [] → n ≡ length ys → zs ≡ take (n - 1) ys → zs ≡ xs
popped xs ys zs x n pushed len e =
    let one : length ys ≡ length xs + 1 = ap (length {A = ℕ}) pushed ∙ length-append xs (x ∷ []) in
    let k : n - 1 ≡ length xs = omega (arith, len, one) in
    e ∙ ap (λ (m : ℕ). take m ys) k ∙ ap (take (length xs)) pushed ∙ front_of xs x

still_none : (b : Bool) (o : Parts) (more less : Option Parts) → (more ≡ None → less ≡ None) → cond b (Some o) more ≡ None → cond b (Some o) less ≡ None
still_none true o more less h e = cc
still_none false o more less h e = h e

append_none : (es fs : Entries) (x : Name) → object_of (es ++ fs) x ≡ None → object_of es x ≡ None
append_none [] fs x e = refl
append_none ((k, o) ∷ es) fs x e = still_none (same_name x k) o (object_of (es ++ fs) x) (object_of es x) (append_none es fs x) e

pub put_gathered : (g : Gathered) (es after : Entries) (a : Name) (o : Parts) (v : Option DirFault) (r : Result (Unit {0}) DirFault) → IsGathered es g → Follows es v (appended es a o) r after → IsGathered after g
put_gathered g es after a o v (Ok u) h follows =
    record { there = λ x none. h.there x (append_none es ((a, o) ∷ []) x (sym (ap (λ (l : Entries). object_of l x) follows.1) ∙ none)); texts = h.texts }
put_gathered g es after a o v (Err why) h follows = subst (λ (l : Entries). IsGathered l g) (sym follows.1) h

pub reader_more : (g : Gathered) (es after : Entries) (lines left : List ℕ) (line : ℕ) (a : Name) (o : Parts) (v : Option DirFault) (r : Result (Unit {0}) DirFault) → is_err r ≡ false → IsReader es g lines
    → Follows es v (appended es a o) r after → left ≡ lines ++ line ∷ [] → IsReader after g left
reader_more g es after lines left line a o v (Ok u) e h follows more =
    let one : length left ≡ length lines + 1 = ap (length {A = ℕ}) more ∙ length-append lines (line ∷ []) in
    let two : length after ≡ length es + 1 = ap (length {A = Name × Parts}) follows.1 ∙ length-append es ((a, o) ∷ []) in
    record { gathered = put_gathered g es after a o v (Ok u) h.gathered follows; even = omega (arith, one, two, h.even) }
reader_more g es after lines left line a o v (Err fault) e h follows more = cc

-- ---- more is gathered
settled_same : (f g : Name → Pairs) (es : Entries) → ((x : Name) → Contains (keys_of es) x → f x ≡ g x) → settled_by f es ≡ settled_by g es
settled_same f g [] h = refl
settled_same f g (e ∷ es) h =
    ap (λ (pairs : Pairs). (e.0, keeping e.1 pairs) ∷ settled_by f es) (h e.0 (0, omega arith, refl))
    ∙ ap (λ (l : Entries). (e.0, keeping e.1 (g e.0)) ∷ l) (settled_same f g es (λ x c. h x (suc c.0, omega (arith, c.1), c.2)))

the_same : (p q : Parts) → Some p ≡ Some q → p ≡ q
the_same p q e = cc

settled_more : (f g : Name → Pairs) (es : Entries) (a : Name) (pairs : Pairs) (p : Parts) → IsDistinct same_name (keys_of es) → g a ≡ f a ++ pairs → ((x : Name) → x ≢ a → g x ≡ f x)
    → object_of (settled_by f es) a ≡ Some p → settled_by g es ≡ replaced (settled_by f es) a (keeping p pairs)
settled_more f g [] a pairs p distinct here away there = cc
settled_more f g ((k, o) ∷ es) a pairs p distinct here away there =
    elim (name_tells a k) [
      | inl t ↦ let found : Some (keeping o (f k)) ≡ Some p = rw t.0 at there in
          rw t.0 (ap (λ (x : Name). (k, keeping o (g x)) ∷ settled_by g es) (sym t.1)
          ∙ ap (λ (ps : Pairs). (k, keeping o ps) ∷ settled_by g es) here
          ∙ ap (λ (q : Parts). (k, q) ∷ settled_by g es) (sym (keeping_twice o (f a) pairs))
          ∙ ap (λ (x : Name). (k, keeping (keeping o (f x)) pairs) ∷ settled_by g es) t.1
          ∙ ap (λ (q : Parts). (k, keeping q pairs) ∷ settled_by g es) (the_same (keeping o (f k)) p found)
          ∙ ap (λ (l : Entries). (k, keeping p pairs) ∷ l)
          (settled_same g f es (λ x c. away x (λ e. past_head k (keys_of es) (IsDistinct-head same_name k (keys_of es) distinct) x c (e ∙ t.1)))))
      | inr t ↦ let found : object_of (settled_by f es) a ≡ Some p = rw t.0 at there in
          rw t.0 (ap (λ (ps : Pairs). (k, keeping o ps) ∷ settled_by g es) (away k (λ e. t.1 (sym e)))
          ∙ ap (λ (l : Entries). (k, keeping o (f k)) ∷ l) (settled_more f g es a pairs p (IsDistinct-tail same_name k (keys_of es) distinct) here away found))
    ]

cond_true : {A : Type 0} (b : Bool) (x y : A) → b ≡ true → cond b x y ≡ x
cond_true true x y e = refl
cond_true false x y e = cc

cond_false : {A : Type 0} (b : Bool) (x y : A) → b ≡ false → cond b x y ≡ y
cond_false true x y e = cc
cond_false false x y e = refl

same_here : (a : Name) → same_name a a ≡ true
same_here a = elim (name_tells a a) [ inl t ↦ t.0 | inr t ↦ absurd (t.1 refl) ]

apart_here : (x a : Name) → x ≢ a → same_name x a ≡ false
apart_here x a apart = elim (name_tells x a) [ inl t ↦ absurd (apart t.1) | inr t ↦ t.0 ]

pub some_object : (o : Option Parts) → IsSome o → (p : Parts) × (o ≡ Some p)
some_object None h = cc
some_object (Some p) h = (p, refl)

pub puts_gathered : (es : Entries) (old new : Gathered) (a : Name) (pairs : Pairs) → Puts a pairs old new → IsSome (object_of es a) → AreTexts pairs → IsGathered es old → IsGathered es new
puts_gathered es old new a pairs puts there texts h =
    record {
      there = λ x none. elim (name_tells a x) [
        | inl t ↦ let found = some_object (object_of es a) there in
            let wrong : Some found.0 ≡ None = sym found.1 ∙ ap (object_of es) t.1 ∙ none in cc
        | inr t ↦ puts x ∙ cond_false (same_name a x) _ _ t.0 ∙ h.there x none
      ];
      texts = λ x. elim (name_tells a x) [
        | inl t ↦ subst AreTexts (sym (ap pairs_in (puts x ∙ cond_true (same_name a x) _ _ t.0))) texts
        | inr t ↦ subst AreTexts (sym (ap pairs_in (puts x ∙ cond_false (same_name a x) _ _ t.0))) (h.texts x)
      ];
    }

pub gathers : (old mid new : Gathered) (a : Name) (pairs more all : Pairs) → Puts a [] old mid → Puts a all mid new → pairs ≡ gathered_of old a → all ≡ pairs ++ more → Gathers a more old new
gathers old mid new a pairs more all one two held is x =
    elim (name_tells a x) [
      | inl t ↦ ap pairs_in (two x ∙ cond_true (same_name a x) _ _ t.0) ∙ is ∙ ap (λ (ps : Pairs). ps ++ more) held
          ∙ sym (cond_true (same_name x a) _ _ (subst (λ (n : Name). same_name n a ≡ true) t.1 (same_here a)))
      | inr t ↦ ap pairs_in (two x ∙ cond_false (same_name a x) _ _ t.0 ∙ one x ∙ cond_false (same_name a x) _ _ t.0)
          ∙ sym (cond_false (same_name x a) _ _ (apart_here x a (λ e. t.1 (sym e))))
    ]

no_texts : AreTexts []
no_texts = λ i d lt. absurd (omega (arith, lt))

pub taken_gathered : (es : Entries) (old new : Gathered) (a : Name) → Puts a [] old new → IsSome (object_of es a) → IsGathered es old → IsGathered es new
taken_gathered es old new a puts there h = puts_gathered es old new a [] puts there no_texts h

pub texts_joined : (g : Gathered) (es : Entries) (a : Name) (pairs more all : Pairs) → IsGathered es g → pairs ≡ gathered_of g a → all ≡ pairs ++ more → AreTexts more → AreTexts all
texts_joined g es a pairs more all h held is texts =
    subst AreTexts (sym (is ∙ ap (λ (ps : Pairs). ps ++ more) held)) (All-append (λ (k : KeptAttr). IsTextValue k.value) (gathered_of g a) more (h.texts a) texts)

some_of : (o p : Option Parts) → is_some o ≡ is_some p → IsSome o → IsSome p
some_of o p e h = sym e ∙ h

pub there_in : (g : Gathered) (es : Entries) (a : Name) → IsSome (object_of (settled es g) a) → IsSome (object_of es a)
there_in g es a h = some_of (object_of (settled es g) a) (object_of es a) (has_settled (gathered_of g) es a) h

pub gathered_more : (title : List ℕ) (es : Entries) (old new : Gathered) (a : Name) (pairs : Pairs) → IsDistinct same_name (keys_of es) → IsSome (object_of (settled es old) a) → Gathers a pairs old new
    → (let l : Listing = record { title = title; objects = settled es new } in l) ≡ (let l : Listing = record { title = title; objects = settled es old } in kept_by l a pairs (object_of l.objects a))
gathered_more title es old new a pairs distinct there more =
    let found = some_object (object_of (settled es old) a) there in
    let d : Listing = record { title = title; objects = settled es old } in
    ap (λ (l : Entries). let d : Listing = record { title = title; objects = l } in d)
    (settled_more (gathered_of old) (gathered_of new) es a pairs found.0 distinct (more a ∙ cond_true (same_name a a) _ _ (same_here a))
    (λ x apart. more x ∙ cond_false (same_name x a) _ _ (apart_here x a apart)) found.1)
    ∙ sym (ap (kept_by d a pairs) found.1)

-- ---- what was gathered for a name is put in
settled_replaced : (f : Name → Pairs) (es : Entries) (a : Name) (q : Parts) → settled_by f (replaced es a q) ≡ replaced (settled_by f es) a (keeping q (f a))
settled_replaced f [] a q = refl
settled_replaced f ((k, o) ∷ es) a q =
    elim (name_tells a k) [
      | inl t ↦ rw t.0 (ap (λ (x : Name). (k, keeping q (f x)) ∷ settled_by f es) (sym t.1))
      | inr t ↦ rw t.0 (ap (λ (l : Entries). (k, keeping o (f k)) ∷ l) (settled_replaced f es a q))
    ]

gathered_first : (a : Name) (pairs : Pairs) (rest : Gathered) → gathered_of ((a, pairs) ∷ rest) a ≡ pairs
gathered_first a pairs rest = ap pairs_in (cond_true (same_name a a) _ _ (same_here a))

gathered_past : (a : Name) (pairs : Pairs) (rest : Gathered) (x : Name) → x ≢ a → gathered_of ((a, pairs) ∷ rest) x ≡ gathered_of rest x
gathered_past a pairs rest x apart = ap pairs_in (cond_false (same_name x a) _ _ (apart_here x a apart))

put_in : (es : Entries) (a : Name) (pairs : Pairs) (p : Parts) (rest : Gathered) → IsDistinct same_name (keys_of es) → object_of es a ≡ Some p → lookup (same_name a) rest ≡ None
    → settled (replaced es a (keeping p pairs)) rest ≡ settled es ((a, pairs) ∷ rest)
put_in es a pairs p rest distinct there none =
    let nothing : gathered_of rest a ≡ [] = ap pairs_in none in
    let found : object_of (settled es rest) a ≡ Some p = look_settled (gathered_of rest) es a ∙ ap (option_map (λ o. keeping o (gathered_of rest a))) there ∙ ap (λ (ps : Pairs). Some (keeping p ps)) nothing in
    settled_replaced (gathered_of rest) es a (keeping p pairs)
    ∙ ap (λ (ps : Pairs). replaced (settled es rest) a (keeping (keeping p pairs) ps)) nothing
    ∙ sym (settled_more (gathered_of rest) (gathered_of ((a, pairs) ∷ rest)) es a pairs p distinct (gathered_first a pairs rest ∙ sym (ap (λ (ps : Pairs). ps ++ pairs) nothing)) (gathered_past a pairs rest) found)

pub keeps_names : (es : Entries) (a : Name) (o p : Parts) (pairs : Pairs) → object_of es a ≡ Some p → o ≡ keeping p pairs → KeepsNames es a o
keeps_names es a o p pairs there is = (p, there, (ap (λ (q : Parts). member_names q.body) is, ap (λ (q : Parts). body_weight q.body) is))

over_names : (o p : Body) → member_names o ≡ member_names p → body_weight o ≡ body_weight p → (f : Name → ℕ) → body_depth o f ≡ body_depth p f
over_names (Solid s) (Solid t) names weight f = refl
over_names (Solid s) (Comb attr tree) names weight f = absurd (omega (arith, weight))
over_names (Comb attr tree) (Solid t) names weight f = absurd (omega (arith, weight))
over_names (Comb attr tree) (Comb attr2 tree2) names weight f = ap (λ (l : List Name). greatest_of (map f l) + 1) names

-- where the names stay, so does the depth, and the list may stand
names_judged : (es : Entries) (a : Name) (o : Parts) → IsSound es → KeepsNames es a o → judged (replaced es a o) a ≡ None
names_judged es a o sound keeps = same_judged es a o keeps.0 sound keeps.1 (over_names o.body keeps.0.body keeps.2.0 keeps.2.1 (depth_within unbounded es))

no_fault : (es : Entries) (a : Name) (o : Parts) → IsSound es → KeepsNames es a o → replace_fault es a o ≡ None
no_fault es a o sound keeps = sym (replace_rest es a o (ap is_some keeps.1)) ∙ names_judged es a o sound keeps

no_cause : (fault : DirFault) → IsCause None fault → fault ≡ Memory
no_cause Exists h = cc
no_cause Missing h = cc
no_cause Full h = cc
no_cause (Cycle a) h = cc
no_cause (Deep n) h = cc
no_cause Memory h = refl

pub only_memory : (es : Entries) (a : Name) (o : Parts) (fault : DirFault) → IsSound es → KeepsNames es a o → IsCause (replace_fault es a o) fault → fault ≡ Memory
only_memory es a o fault sound keeps h = no_cause fault (subst (λ (v : Option DirFault). IsCause v fault) (no_fault es a o sound keeps) h)

pub settles : (old new : Listing) (a : Name) (pairs : Pairs) (o : Parts) → IsDistinct same_name (keys_of old.objects) → IsSome (object_of old.objects a)
    → ((p : Parts) → object_of old.objects a ≡ Some p → o ≡ keeping p pairs) → new ≡ record old { objects = replaced old.objects a o } → Settles a pairs old new
settles old new a pairs o distinct there made is =
    let found = some_object (object_of old.objects a) there in
    let objects : new.objects ≡ replaced old.objects a o = ap (λ (d : Listing). d.objects) is in
    let kept : new.objects ≡ replaced old.objects a (keeping found.0 pairs) = objects ∙ ap (replaced old.objects a) (made found.0 found.1) in
    record {
      title = ap (λ (d : Listing). d.title) is;
      objects = λ rest none. ap (λ (l : Entries). settled l rest) kept ∙ put_in old.objects a pairs found.0 rest distinct found.1 none;
      there = λ rest h none. record {
        there = λ x gone. elim (same_or_apart x a) [
          | inl e ↦ subst (λ (n : Name). lookup (same_name n) rest ≡ None) (sym e) none
          | inr apart ↦ sym (cond_false (same_name x a) _ _ (apart_here x a apart)) ∙ h.there x (sym (replace_other old.objects a o x apart) ∙ sym (ap (λ (l : Entries). object_of l x) objects) ∙ gone)
        ];
        texts = λ x. elim (same_or_apart x a) [
          | inl e ↦ subst AreTexts (sym (ap (gathered_of rest) e ∙ ap pairs_in none)) no_texts
          | inr apart ↦ subst AreTexts (gathered_past a pairs rest x apart) (h.texts x)
        ];
      };
    }

-- ---- the end
pub same_listing : (d e : Listing) → d.title ≡ e.title → d.objects ≡ e.objects → d ≡ e
same_listing d e title objects =
    ap (λ (t : List ℕ). let l : Listing = record { title = t; objects = d.objects } in l) title
    ∙ ap (λ (o : Entries). let l : Listing = record { title = e.title; objects = o } in l) objects

pub finished : (d e : Listing) (rest : Gathered) → d.title ≡ e.title → settled d.objects rest ≡ e.objects → rest ≡ [] → d ≡ e
finished d e rest title objects done = same_listing d e title (sym (settled_none d.objects) ∙ ap (settled d.objects) (sym done) ∙ objects)

pub first_texts : (es : Entries) (rest more : Gathered) (a : Name) (pairs : Pairs) → IsGathered es rest → rest ≡ (a, pairs) ∷ more → AreTexts pairs
first_texts es rest more a pairs h is = subst AreTexts (ap (λ (g : Gathered). gathered_of g a) is ∙ gathered_first a pairs more) (h.texts a)

none_after : (k : Name) (g : Gathered) → AllByRecursion (λ y. same_name k y ≡ false) (keys_of g) → lookup (same_name k) g ≡ None
none_after k [] h = refl
none_after k (e ∷ g) h = cond_false (same_name k e.0) _ _ h.0 ∙ none_after k g h.1

-- one name more is done
pub next_name : (whole old new : Listing) (rest more : Gathered) (a : Name) (pairs ps : Pairs) → rest ≡ (a, pairs) ∷ more → ps ≡ pairs → Settles a ps old new → old.title ≡ whole.title → settled old.objects rest ≡ whole.objects
    → IsGathered old.objects rest → IsDistinct same_name (keys_of rest)
    → (new.title ≡ whole.title) × (settled new.objects more ≡ whole.objects) × IsGathered new.objects more × IsDistinct same_name (keys_of more)
next_name whole old new rest more a pairs ps is same done title objects gathered distinct =
    let settles : Settles a pairs old new = subst (λ (l : Pairs). Settles a l old new) same done in
    let apart : IsDistinct same_name (keys_of ((a, pairs) ∷ more)) = subst (λ (g : Gathered). IsDistinct same_name (keys_of g)) is distinct in
    let none : lookup (same_name a) more ≡ None = none_after a more (IsDistinct-head same_name a (keys_of more) apart) in (
      settles.title ∙ title,
      settles.objects more none ∙ ap (settled old.objects) (sym is) ∙ objects,
      settles.there more (subst (IsGathered old.objects) is gathered) none,
      IsDistinct-tail same_name a (keys_of more) apart,
    )
