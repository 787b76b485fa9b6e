-- The words of a line, and numbers among them.
use Rattle.std.proofs.Common.{◌≡◌, ◌<◌, ◌≤◌, ◌+◌, ◌++◌, ◌∷◌, [], ◌∙◌, ℕ, ℤ, List, set, take, length, get_or, drop, map, Option, Some, None, arith, ap, sym, refl}
use Rattle.std.specs.Borrow.{Bor}
use Rattle.std.proofs.lemmas.Grind.{common_steps}
use Rattle.std.proofs.lemmas.List.{drop_more, take_more, map-append, length-take}
use Rattle.std.proofs.Common.{cond, Bool, true, false, ◌==◌, eq-eqb, ne_eqb, Ok, Err, nat_lt, ◌≢◌}
use Rattle.name_core.specs.NameText.{read_name, read_with, first_bad}
use Rattle.name_core.specs.declared.name.NameFault.TheVariants.{Empty, Long}
use Rattle.std.proofs.lemmas.Bool.{cond-true, cond-false}
use Rattle.std.proofs.lemmas.List.{length-map}
use Rattle.word_values.specs.declared.solid.SolidKind.{SolidKind}
use Rattle.command_set.specs.declared.command.Command.{Command}
use Rattle.command_set.specs.declared.refusal.Refusal.{Refusal}
use Rattle.word_values.specs.Solids.{number_count}
use Rattle.word_values.specs.Kinds.{kind_at, number_as, numbers_as, numbers_from}
use Rattle.word_values.specs.declared.atoms.NumberKind.{NumberKind}
use Rattle.word_values.specs.declared.atoms.NumberList.{NumberList}
use Rattle.word_values.specs.declared.atoms.NumberList.TheVariants as lists
use Rattle.word_values.proofs.KindLaws.{numbers_append}
use Rattle.mged_words.specs.Commands.{unless_refused, kind_command, solid_command, numbers_fault, in_command, nirt_command, shot_command, direction_of}
use Rattle.command_set.specs.declared.command.Command.TheVariants.{Bad}
use Rattle.command_set.specs.declared.refusal.Refusal.TheVariants.{Syntax}

-- a number of the kind that its place has
pub placed : (list : NumberList) (place : ℕ) (kind : NumberKind) (atom : List ℕ) (o : Option ℤ) → kind ≡ kind_at list place → o ≡ number_as kind atom → o ≡ number_as (kind_at list place) atom
placed list place kind atom o is h = h ∙ ap (λ (k : NumberKind). number_as k atom) is

-- one number more
pub next_fault : (list : NumberList) (atoms : List (Bor (List ℕ))) (word i : ℕ) (d : Bor (List ℕ)) (n : ℤ) → i < length atoms → Some n ≡ number_as (kind_at list i) (get_or atoms i d).now
    → numbers_fault (word + (i + 1)) 1 (numbers_from list (i + 1) (map (λ (a : Bor (List ℕ)). a.now) (drop (i + 1) atoms))) ≡ numbers_fault (word + i) 1 (numbers_from list i (map (λ (a : Bor (List ℕ)). a.now) (drop i atoms)))
next_fault list atoms word i d n lt is =
    let rest : List (Option ℤ) = numbers_from list (i + 1) (map (λ (a : Bor (List ℕ)). a.now) (drop (i + 1) atoms)) in
    let sum : word + (i + 1) ≡ (word + i) + 1 = omega arith in
    ap (λ w. numbers_fault w 1 rest) sum ∙ ap (λ o. numbers_fault (word + i) 1 (o ∷ rest)) is
    ∙ sym (ap (λ (xs : List (Bor (List ℕ))). numbers_fault (word + i) 1 (numbers_from list i (map (λ (a : Bor (List ℕ)). a.now) xs))) (drop_more atoms i d lt))

pub next_read : (list : NumberList) (atoms : List (Bor (List ℕ))) (out : List ℤ) (i : ℕ) (d : Bor (List ℕ)) (n : ℤ) → i < length atoms → length out ≡ length atoms → Some n ≡ number_as (kind_at list i) (get_or atoms i d).now
    → numbers_as list (map (λ (a : Bor (List ℕ)). a.now) (take i atoms)) ≡ map (λ (m : ℤ). Some m) (take i out)
    → numbers_as list (map (λ (a : Bor (List ℕ)). a.now) (take (i + 1) atoms)) ≡ map (λ (m : ℤ). Some m) (take (i + 1) (set out i n))
next_read list atoms out i d n lt len is h =
    let now : Bor (List ℕ) → List ℕ = λ a. a.now in
    let before : List (List ℕ) = map now (take i atoms) in
    let count : 0 + length before ≡ i = omega (arith, lt, length-map (take i atoms) now, length-take i atoms) in
    let left : numbers_as list (map now (take (i + 1) atoms)) ≡ numbers_as list before ++ Some n ∷ [] =
    ap (λ (xs : List (Bor (List ℕ))). numbers_as list (map now xs)) (take_more atoms i d lt)
    ∙ ap (numbers_as list) (map-append now (take i atoms) (get_or atoms i d ∷ [])) ∙ numbers_append list 0 before ((get_or atoms i d).now ∷ [])
    ∙ ap (λ (k : ℕ). numbers_as list before ++ number_as (kind_at list k) (get_or atoms i d).now ∷ []) count
    ∙ ap (λ o. numbers_as list before ++ o ∷ []) (sym is) in
    let right : take (i + 1) (set out i n) ≡ take i out ++ n ∷ [] = grind (arith, common_steps) in
    left ∙ ap (λ xs. xs ++ Some n ∷ []) h ∙ sym (ap (map (λ (m : ℤ). Some m)) right ∙ map-append (λ (m : ℤ). Some m) (take i out) (n ∷ []))

-- too few words behind `in`
pub in_short : (atoms : List (Bor (List ℕ))) → length atoms < 2 → Bad Syntax ≡ in_command (map (λ (a : Bor (List ℕ)). a.now) atoms)
in_short [] lt = refl
in_short (a ∷ []) lt = refl
in_short (a ∷ b ∷ rest) lt = absurd (omega (arith, lt))

-- fewer words behind `nirt` than five
pub nirt_short : (atoms : List (Bor (List ℕ))) → length atoms < 5 → Bad Syntax ≡ nirt_command (map (λ (a : Bor (List ℕ)). a.now) atoms)
nirt_short [] lt = refl
nirt_short (a ∷ []) lt = refl
nirt_short (a ∷ b ∷ []) lt = refl
nirt_short (a ∷ b ∷ c ∷ []) lt = refl
nirt_short (a ∷ b ∷ c ∷ d ∷ []) lt = refl
nirt_short (a ∷ b ∷ c ∷ d ∷ e ∷ rest) lt = absurd (omega (arith, lt))

-- at least five
pub nirt_long : (atoms : List (Bor (List ℕ))) (d : Bor (List ℕ)) → 5 ≤ length atoms
    → nirt_command (map (λ (a : Bor (List ℕ)). a.now) atoms) ≡ shot_command (numbers_as lists.Point (map (λ (a : Bor (List ℕ)). a.now) (take 3 atoms))) (direction_of (get_or atoms 3 d).now) (map (λ (a : Bor (List ℕ)). a.now) (drop 4 atoms))
nirt_long (a ∷ b ∷ c ∷ e ∷ f ∷ rest) d le = refl
nirt_long [] d le = absurd (omega (arith, le))
nirt_long (a ∷ []) d le = absurd (omega (arith, le))
nirt_long (a ∷ b ∷ []) d le = absurd (omega (arith, le))
nirt_long (a ∷ b ∷ c ∷ []) d le = absurd (omega (arith, le))
nirt_long (a ∷ b ∷ c ∷ e ∷ []) d le = absurd (omega (arith, le))

-- a kind of solid with as many numbers as it takes, or with others
pub kind_right : (name : List ℕ) (kind : Option SolidKind) (k : SolidKind) (atoms : List (Bor (List ℕ))) → kind ≡ Some k → length atoms ≡ number_count k
    → kind_command name kind (map (λ (a : Bor (List ℕ)). a.now) atoms) ≡ solid_command name k (numbers_as (lists.Solid k) (map (λ (a : Bor (List ℕ)). a.now) atoms))
kind_right name kind k atoms is count =
    let words : List (List ℕ) = map (λ (a : Bor (List ℕ)). a.now) atoms in
    ap (λ (o : Option SolidKind). kind_command name o words) is
    ∙ cond-true (length words == number_count k) (solid_command name k (numbers_as (lists.Solid k) words)) (Bad Syntax) (eq-eqb _ _ (length-map atoms (λ (a : Bor (List ℕ)). a.now) ∙ count))

pub kind_wrong : (name : List ℕ) (kind : Option SolidKind) (k : SolidKind) (atoms : List (Bor (List ℕ))) → kind ≡ Some k → length atoms ≢ number_count k
    → kind_command name kind (map (λ (a : Bor (List ℕ)). a.now) atoms) ≡ Bad Syntax
kind_wrong name kind k atoms is other =
    let words : List (List ℕ) = map (λ (a : Bor (List ℕ)). a.now) atoms in
    ap (λ (o : Option SolidKind). kind_command name o words) is
    ∙ cond-false (length words == number_count k) (solid_command name k (numbers_as (lists.Solid k) words)) (Bad Syntax)
    (ne_eqb _ _ (λ e. other (sym (length-map atoms (λ (a : Bor (List ℕ)). a.now)) ∙ e)))

pub past_fault : (t : Bool) (refusal : Refusal) (rest : List (Option Refusal)) (command : Command) → t ≡ true
    → unless_refused (cond t None (Some refusal) ∷ rest) command ≡ unless_refused rest command
past_fault true refusal rest command e = refl
past_fault false refusal rest command e = absurd cc

-- a name that was read is the bytes that were given
read_by : (t u : Bool) (bad : Option ℕ) (bytes name : List ℕ) → cond t (Err Empty) (cond u (Err Long) (read_with bad bytes)) ≡ Ok name → name ≡ bytes
read_by true u bad bytes name h = absurd cc
read_by false true bad bytes name h = absurd cc
read_by false false None bytes name h = cc
read_by false false (Some i) bytes name h = absurd cc

pub read_same : (bytes name : List ℕ) → read_name bytes ≡ Ok name → name ≡ bytes
read_same bytes name h = read_by (length bytes == 0) (nat_lt 64 (length bytes)) (first_bad bytes) bytes name h
