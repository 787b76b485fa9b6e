-- What a reading gives where a part of the line is refused.
use Rattle.std.proofs.Common.{◌≡◌, ◌<◌, ◌+◌, ◌-◌, ◌==◌, ◌∷◌, [], ◌∙◌, ℕ, Bool, true, false, List, length, get_or, drop, take, map, zero, suc, length-drop, Option, Some, None, Result, Ok, Err, is_ok, is_some, arith, ap, sym, refl, subst}
use Rattle.std.proofs.lemmas.Bool.{cond-true}
use Rattle.std.specs.Borrow.{Bor}
use Rattle.std.specs.Result.{IsErr, IsErrAnd}
use Rattle.std.proofs.Math.Seq.{take-length}
use Rattle.name_core.specs.NameText.{read_name}
use Rattle.command_set.specs.declared.command.Command.{Command}
use Rattle.command_set.specs.declared.command.Command.TheVariants.{Bad, Edit}
use Rattle.command_set.specs.declared.command.Edit.TheVariants.{RenameAll, Remove, Group, Region}
use Rattle.command_set.specs.declared.refusal.Refusal.{Refusal}
use Rattle.command_set.specs.declared.refusal.Refusal.TheVariants.{Syntax, Name}
use Rattle.tree_forms.specs.declared.Op.TheVariants.{U}
use Rattle.mged_words.specs.declared.fault.LineFault.{LineFault}
use Rattle.mged_words.specs.declared.fault.LineFault.TheVariants as line
use Rattle.tree_forms.specs.declared.Op.{Op}
use Rattle.comb_tree.specs.declared.node.ListEntry.{ListEntry}
use Rattle.mged_words.specs.Commands.{name_fault, names_fault, members_fault, unless_refused, mvall_command, rm_command, g_command, region_command, entries_of, entry_before, entry_of, operator_of}
use Rattle.mged_words.specs.Readings.{HasFault, IsRead}
use Rattle.mged_words.proofs.ListLaws.{named, unnamed}

-- a refusal that is passed on
pub read_refused : {G : LineFault → Type 0} (r : Result Command LineFault) (refusal : Refusal) (command : Command) → IsErr r × IsErrAnd r G → ((e : LineFault) → G e → e ≡ line.Refused refusal)
    → Bad refusal ≡ command → IsRead r command
read_refused {G} (Ok c) refusal command h is bad = absurd h.1
read_refused {G} (Err e) refusal command h is bad = subst (λ (x : LineFault). IsRead (Err x) command) (sym (is e h.1)) bad

pub fault_refused : {T : Type 0} {G : LineFault → Type 0} (r : Result T LineFault) (refusal : Refusal) (fault : Option Refusal) → IsErr r × IsErrAnd r G → ((e : LineFault) → G e → e ≡ line.Refused refusal)
    → fault ≡ Some refusal → HasFault r fault
fault_refused {T} {G} (Ok c) refusal fault h is bad = absurd h.1
fault_refused {T} {G} (Err e) refusal fault h is bad = subst (λ (x : LineFault). HasFault {T = T} (Err x) fault) (sym (is e h.1)) bad

-- a fault of names that is passed on
passed : (T : Type 0) (e : LineFault) (fault : Option Refusal) (command : Command) → HasFault {T = T} (Err e) fault → ((refusal : Refusal) → fault ≡ Some refusal → Bad refusal ≡ command) → IsRead (Err e) command
passed T (line.Refused refusal) fault command h k = k refusal h
passed T line.Memory fault command h k = tt

pub read_passed : (T : Type 0) {G : LineFault → Type 0} (r : Result Command LineFault) (x : LineFault) (fault : Option Refusal) (command : Command) → IsErr r × IsErrAnd r G → ((e : LineFault) → G e → e ≡ x)
    → HasFault {T = T} (Err x) fault → ((refusal : Refusal) → fault ≡ Some refusal → Bad refusal ≡ command) → IsRead r command
read_passed T {G} (Ok c) x fault command h is bad k = absurd h.1
read_passed T {G} (Err e) x fault command h is bad k = subst (λ (y : LineFault). IsRead (Err y) command) (sym (is e h.1)) (passed T x fault command bad k)

pub bad_first : (word step : ℕ) (atom : List ℕ) (rest : List (List ℕ)) (more : List (Option Refusal)) (command : Command) (refusal : Refusal) → name_fault word atom ≡ Some refusal
    → Bad refusal ≡ unless_refused (names_fault word step (atom ∷ rest) ∷ more) command
bad_first word step atom rest more command refusal h = sym (ap (λ (o : Option Refusal). unless_refused (o ∷ more) command) (unnamed (is_ok (read_name atom)) word (names_fault (word + step) step rest) refusal h))

pub good_first : (word step : ℕ) (atom : List ℕ) (rest : List (List ℕ)) → name_fault word atom ≡ None → names_fault word step (atom ∷ rest) ≡ names_fault (word + step) step rest
good_first word step atom rest h = cond-true (is_ok (read_name atom)) (names_fault (word + step) step rest) (Some (Name word)) (named (is_ok (read_name atom)) (Name word) h)

pub bad_rest : (word step : ℕ) (atom : List ℕ) (rest : List (List ℕ)) (more : List (Option Refusal)) (command : Command) (refusal : Refusal) → name_fault word atom ≡ None → names_fault (word + step) step rest ≡ Some refusal
    → Bad refusal ≡ unless_refused (names_fault word step (atom ∷ rest) ∷ more) command
bad_rest word step atom rest more command refusal fine h = sym (ap (λ (o : Option Refusal). unless_refused (o ∷ more) command) (good_first word step atom rest fine ∙ h))

-- the names of commands
pub mvall_two : (atoms : List (Bor (List ℕ))) (d : Bor (List ℕ)) → length atoms ≡ 2
    → mvall_command (map (λ (a : Bor (List ℕ)). a.now) atoms) ≡ unless_refused (names_fault 2 1 ((get_or atoms 0 d).now ∷ (get_or atoms 1 d).now ∷ []) ∷ []) (Edit (RenameAll (get_or atoms 0 d).now (get_or atoms 1 d).now))
mvall_two [] d n = absurd (omega (arith, n))
mvall_two (a ∷ []) d n = absurd (omega (arith, n))
mvall_two (a ∷ b ∷ []) d n = refl
mvall_two (a ∷ b ∷ c ∷ rest) d n = absurd (omega (arith, n))

pub mvall_other : (atoms : List (Bor (List ℕ))) → (length atoms ≡ 2 → ⊥) → Bad Syntax ≡ mvall_command (map (λ (a : Bor (List ℕ)). a.now) atoms)
mvall_other [] n = refl
mvall_other (a ∷ []) n = refl
mvall_other (a ∷ b ∷ []) n = absurd (n refl)
mvall_other (a ∷ b ∷ c ∷ rest) n = refl

pub rm_names : (atoms : List (Bor (List ℕ))) (d : Bor (List ℕ)) → 1 < length atoms
    → rm_command (map (λ (a : Bor (List ℕ)). a.now) atoms)
    ≡ unless_refused (names_fault 2 1 ((get_or atoms 0 d).now ∷ map (λ (a : Bor (List ℕ)). a.now) (drop 1 atoms)) ∷ []) (Edit (Remove (get_or atoms 0 d).now (map (λ (a : Bor (List ℕ)). a.now) (drop 1 atoms))))
rm_names [] d n = absurd (omega (arith, n))
rm_names (a ∷ []) d n = absurd (omega (arith, n))
rm_names (a ∷ b ∷ rest) d n = refl

pub g_names : (atoms : List (Bor (List ℕ))) (d : Bor (List ℕ)) → 1 < length atoms
    → g_command (map (λ (a : Bor (List ℕ)). a.now) atoms)
    ≡ unless_refused (names_fault 2 1 ((get_or atoms 0 d).now ∷ map (λ (a : Bor (List ℕ)). a.now) (drop 1 atoms)) ∷ []) (Edit (Group (get_or atoms 0 d).now (map (entry_of U) (map (λ (a : Bor (List ℕ)). a.now) (drop 1 atoms)))))
g_names [] d n = absurd (omega (arith, n))
g_names (a ∷ []) d n = absurd (omega (arith, n))
g_names (a ∷ b ∷ rest) d n = refl

-- the slice from a place to the end
pub rest_from : (n : ℕ) (atoms : List (Bor (List ℕ))) → take (length atoms - n) (drop n atoms) ≡ drop n atoms
rest_from n atoms =
    let len : length atoms - n ≡ length (drop n atoms) = omega (arith, length-drop {A = Bor (List ℕ)} n atoms) in
    ap (λ k. take k (drop n atoms)) len ∙ take-length (drop n atoms)

rest_whole : (atoms : List (Bor (List ℕ))) → take (length atoms - 1) (drop 1 atoms) ≡ drop 1 atoms
rest_whole atoms = rest_from 1 atoms

pub not_empty : (n : ℕ) (b : Bool) → b ≡ (n == 0) → b ≡ false → 0 < n
not_empty zero b e h = absurd cc
not_empty (suc n) b e h = omega arith

pub mvall_bad : (atoms : List (Bor (List ℕ))) (d : Bor (List ℕ)) (refusal : Refusal) → length atoms ≡ 2 → name_fault 2 (get_or atoms 0 d).now ≡ Some refusal → Bad refusal ≡ mvall_command (map (λ (a : Bor (List ℕ)). a.now) atoms)
mvall_bad atoms d refusal n h =
    bad_first 2 1 (get_or atoms 0 d).now ((get_or atoms 1 d).now ∷ []) [] (Edit (RenameAll (get_or atoms 0 d).now (get_or atoms 1 d).now)) refusal h ∙ sym (mvall_two atoms d n)

pub rm_bad : (atoms : List (Bor (List ℕ))) (d : Bor (List ℕ)) (refusal : Refusal) → 1 < length atoms → name_fault 2 (get_or atoms 0 d).now ≡ Some refusal → Bad refusal ≡ rm_command (map (λ (a : Bor (List ℕ)). a.now) atoms)
rm_bad atoms d refusal n h =
    bad_first 2 1 (get_or atoms 0 d).now (map (λ (a : Bor (List ℕ)). a.now) (drop 1 atoms)) [] (Edit (Remove (get_or atoms 0 d).now (map (λ (a : Bor (List ℕ)). a.now) (drop 1 atoms)))) refusal h ∙ sym (rm_names atoms d n)

pub rm_rest : (atoms : List (Bor (List ℕ))) (d : Bor (List ℕ)) (refusal : Refusal) → 1 < length atoms → name_fault 2 (get_or atoms 0 d).now ≡ None → names_fault 3 1 (map (λ (a : Bor (List ℕ)). a.now) (take (length atoms - 1) (drop 1 atoms))) ≡ Some refusal
    → Bad refusal ≡ rm_command (map (λ (a : Bor (List ℕ)). a.now) atoms)
rm_rest atoms d refusal n fine h =
    bad_rest 2 1 (get_or atoms 0 d).now (map (λ (a : Bor (List ℕ)). a.now) (drop 1 atoms)) [] (Edit (Remove (get_or atoms 0 d).now (map (λ (a : Bor (List ℕ)). a.now) (drop 1 atoms)))) refusal fine (ap (λ (xs : List (Bor (List ℕ))). names_fault 3 1 (map (λ (a : Bor (List ℕ)). a.now) xs)) (sym (rest_whole atoms)) ∙ h) ∙ sym (rm_names atoms d n)

pub g_bad : (atoms : List (Bor (List ℕ))) (d : Bor (List ℕ)) (refusal : Refusal) → 1 < length atoms → name_fault 2 (get_or atoms 0 d).now ≡ Some refusal → Bad refusal ≡ g_command (map (λ (a : Bor (List ℕ)). a.now) atoms)
g_bad atoms d refusal n h =
    bad_first 2 1 (get_or atoms 0 d).now (map (λ (a : Bor (List ℕ)). a.now) (drop 1 atoms)) [] (Edit (Group (get_or atoms 0 d).now (map (entry_of U) (map (λ (a : Bor (List ℕ)). a.now) (drop 1 atoms))))) refusal h ∙ sym (g_names atoms d n)

pub g_rest : (atoms : List (Bor (List ℕ))) (d : Bor (List ℕ)) (refusal : Refusal) → 1 < length atoms → name_fault 2 (get_or atoms 0 d).now ≡ None → names_fault 3 1 (map (λ (a : Bor (List ℕ)). a.now) (take (length atoms - 1) (drop 1 atoms))) ≡ Some refusal
    → Bad refusal ≡ g_command (map (λ (a : Bor (List ℕ)). a.now) atoms)
g_rest atoms d refusal n fine h =
    bad_rest 2 1 (get_or atoms 0 d).now (map (λ (a : Bor (List ℕ)). a.now) (drop 1 atoms)) [] (Edit (Group (get_or atoms 0 d).now (map (entry_of U) (map (λ (a : Bor (List ℕ)). a.now) (drop 1 atoms))))) refusal fine (ap (λ (xs : List (Bor (List ℕ))). names_fault 3 1 (map (λ (a : Bor (List ℕ)). a.now) xs)) (sym (rest_whole atoms)) ∙ h) ∙ sym (g_names atoms d n)

-- a list that begins or ends badly
pub r_syntax : (name : List ℕ) (entries : Option (List ListEntry)) → is_some entries ≡ false → Bad Syntax ≡ region_command name entries
r_syntax name None h = refl
r_syntax name (Some list) h = absurd cc

pub r_empty : (name : List ℕ) (words : List (Bor (List ℕ))) → length words ≡ 0 → Bad Syntax ≡ region_command name (entries_of (map (λ (a : Bor (List ℕ)). a.now) words))
r_empty name [] h = refl
r_empty name (w ∷ ws) h = absurd (omega (arith, h))

some_entries : (words : List (Bor (List ℕ))) (list : List ListEntry) → 0 < length words → entries_of (map (λ (a : Bor (List ℕ)). a.now) words) ≡ Some list → 0 < length list
some_entries [] list lt h = absurd (omega (arith, lt))
some_entries (a ∷ []) list lt h = absurd cc
some_entries (a ∷ b ∷ rest) list lt h = by (operator_of a.now) (entries_of (map (λ (a : Bor (List ℕ)). a.now) rest)) h
  where
    by : (o : Option Op) (more : Option (List ListEntry)) → entry_before o b.now more ≡ Some list → 0 < length list
    by None more e = absurd cc
    by (Some op) None e = absurd cc
    by (Some op) (Some l) e = let is : entry_of op b.now ∷ l ≡ list = cc in let len : length (entry_of op b.now ∷ l) ≡ length list = ap length is in omega (arith, len)

region_is : (name : List ℕ) (list : List ListEntry) → 0 < length list → region_command name (Some list) ≡ unless_refused (name_fault 2 name ∷ members_fault 4 (Some list) ∷ []) (Edit (Region name list))
region_is name [] lt = absurd (omega (arith, lt))
region_is name (e ∷ es) lt = refl

known : (entries : Option (List ListEntry)) → is_some entries ≡ true → (list : List ListEntry) × (entries ≡ Some list)
known (Some list) h = (list, refl)
known None h = absurd cc

pub r_bad : (name : List ℕ) (words : List (Bor (List ℕ))) (refusal : Refusal) → 0 < length words → is_some (entries_of (map (λ (a : Bor (List ℕ)). a.now) words)) ≡ true → name_fault 2 name ≡ Some refusal
    → Bad refusal ≡ region_command name (entries_of (map (λ (a : Bor (List ℕ)). a.now) words))
r_bad name words refusal lt some h =
    let list = known (entries_of (map (λ (a : Bor (List ℕ)). a.now) words)) some in
    sym (ap (region_command name) list.1 ∙ region_is name list.0 (some_entries words list.0 lt list.1)
    ∙ ap (λ (o : Option Refusal). unless_refused (o ∷ members_fault 4 (Some list.0) ∷ []) (Edit (Region name list.0))) h)

pub r_rest : (name : List ℕ) (words : List (Bor (List ℕ))) (refusal : Refusal) → 0 < length words → is_some (entries_of (map (λ (a : Bor (List ℕ)). a.now) words)) ≡ true → name_fault 2 name ≡ None → members_fault 4 (entries_of (map (λ (a : Bor (List ℕ)). a.now) words)) ≡ Some refusal
    → Bad refusal ≡ region_command name (entries_of (map (λ (a : Bor (List ℕ)). a.now) words))
r_rest name words refusal lt some fine h =
    let list = known (entries_of (map (λ (a : Bor (List ℕ)). a.now) words)) some in
    sym (ap (region_command name) list.1 ∙ region_is name list.0 (some_entries words list.0 lt list.1)
    ∙ ap (λ (o : Option Refusal). unless_refused (o ∷ members_fault 4 (Some list.0) ∷ []) (Edit (Region name list.0))) fine
    ∙ ap (λ (o : Option Refusal). unless_refused (None ∷ o ∷ []) (Edit (Region name list.0))) (sym (ap (members_fault 4) list.1) ∙ h))

pub r_good : (name : List ℕ) (words : List (Bor (List ℕ))) (list : List ListEntry) → 0 < length words → entries_of (map (λ (a : Bor (List ℕ)). a.now) words) ≡ Some list → name_fault 2 name ≡ None → members_fault 4 (entries_of (map (λ (a : Bor (List ℕ)). a.now) words)) ≡ None
    → Edit (Region name list) ≡ region_command name (entries_of (map (λ (a : Bor (List ℕ)). a.now) words))
r_good name words list lt is fine h =
    sym (ap (region_command name) is ∙ region_is name list (some_entries words list lt is)
    ∙ ap (λ (o : Option Refusal). unless_refused (o ∷ members_fault 4 (Some list) ∷ []) (Edit (Region name list))) fine
    ∙ ap (λ (o : Option Refusal). unless_refused (None ∷ o ∷ []) (Edit (Region name list))) (sym (ap (members_fault 4) is) ∙ h))

pub g_good : (atoms : List (Bor (List ℕ))) (d : Bor (List ℕ)) → 1 < length atoms → name_fault 2 (get_or atoms 0 d).now ≡ None → names_fault 3 1 (map (λ (a : Bor (List ℕ)). a.now) (take (length atoms - 1) (drop 1 atoms))) ≡ None
    → Edit (Group (get_or atoms 0 d).now (map (entry_of U) (map (λ (a : Bor (List ℕ)). a.now) (take (length atoms - 1) (drop 1 atoms))))) ≡ g_command (map (λ (a : Bor (List ℕ)). a.now) atoms)
g_good atoms d n fine h =
    let name : List ℕ = (get_or atoms 0 d).now in
    let members : List (List ℕ) = map (λ (a : Bor (List ℕ)). a.now) (drop 1 atoms) in
    let same : map (λ (a : Bor (List ℕ)). a.now) (take (length atoms - 1) (drop 1 atoms)) ≡ members = ap (map (λ (a : Bor (List ℕ)). a.now)) (rest_whole atoms) in
    ap (λ (ms : List (List ℕ)). Edit (Group name (map (entry_of U) ms))) same
    ∙ sym (g_names atoms d n ∙ ap (λ (o : Option Refusal). unless_refused (o ∷ []) (Edit (Group name (map (entry_of U) members)))) (good_first 2 1 name members fine ∙ ap (names_fault 3 1) (sym same) ∙ h))
