-- What a shelf has after files were put on it.
use Rattle.std.proofs.Common.{◌≡◌, ◌∙◌, ◌++◌, ℕ, Bool, true, false, cond, List, [], ◌∷◌, Option, Some, None, Result, Ok, Err, OnOk, option_map, find, reverse, append_assoc, append-nil, refl, ap, sym, subst}
use Rattle.std.specs.Option.{option_or}
use Rattle.std.proofs.lemmas.List.{reverse-append}
use Rattle.std.proofs.lemmas.List.Folds.{find-append}
use Rattle.name_core.specs.Same.{same_name, same_name_decides}
use Rattle.outside_core.specs.Files.{HasSet, SetsFile, bytes_in}
use Rattle.outside_core.specs.Told.{Grows, Stays}
use Rattle.outside_core.specs.declared.traits.File.{File}
use Rattle.outside_core.specs.declared.traits.ShelfFault.{ShelfFault}
use Rattle.mged_top.specs.Outside.{Added, AreSet, HasGrown}

-- a later file of a name hides an earlier one
bytes_or : (one other : Option File) → option_map (λ (f : File). f.bytes) (option_or one other) ≡ option_or (option_map (λ (f : File). f.bytes) one) (option_map (λ (f : File). f.bytes) other)
bytes_or None other = refl
bytes_or (Some file) other = refl

last_bytes : (xs ys : List File) (name : List ℕ) → bytes_in (xs ++ ys) name ≡ option_or (bytes_in ys name) (bytes_in xs name)
last_bytes xs ys name =
    let p : File → Bool = λ file. same_name file.name name in
    ap (λ (fs : List File). option_map (λ (f : File). f.bytes) (find p fs)) (reverse-append xs ys)
    ∙ ap (option_map (λ (f : File). f.bytes)) (find-append p (reverse ys) (reverse xs)) ∙ bytes_or (find p (reverse ys)) (find p (reverse xs))

-- one file more
one_by : (t : Bool) (told after : List File) (file : File) (name : List ℕ) → same_name file.name name ≡ t → HasSet told after file.name file.bytes
    → bytes_in after name ≡ option_or (option_map (λ (f : File). f.bytes) (cond t (Some file) None)) (bytes_in told name)
one_by true told after file name same h = subst (λ n. bytes_in after n ≡ Some file.bytes) ((same_name_decides file.name name).0 same) h.here
one_by false told after file name same h = h.others name (λ e. let is : true ≡ false = sym ((same_name_decides file.name name).1 (sym e)) ∙ same in absurd cc)

one_set : (files files' : Option (List File)) (file : File) → SetsFile files files' file.name file.bytes → AreSet files files' (file ∷ [])
one_set None files' file h = tt
one_set (Some told) files' file h = (h.0, h.1, λ name. one_by (same_name file.name name) told h.0 file name refl h.2 ∙ sym (last_bytes told (file ∷ []) name))

-- the put of a file, or none
pub grown_one : (r : Result (Unit {0}) ShelfFault) (files files' puts puts' : Option (List File)) (file : File) → OnOk r (SetsFile files files' file.name file.bytes) → OnOk r (Grows puts puts' file)
    → OnOk r (HasGrown files files' puts puts' (file ∷ []))
grown_one (Ok done) files files' puts puts' file set grows = record { added = grows; set = one_set files files' file set }
grown_one (Err fault) files files' puts puts' file set grows = tt

added_none : (puts : Option (List File)) → Added puts puts []
added_none None = tt
added_none (Some told) = ap Some (sym (append-nil told))

set_none : (files : Option (List File)) → AreSet files files []
set_none None = tt
set_none (Some told) = (told, refl, λ name. ap (λ fs. bytes_in fs name) (sym (append-nil told)))

pub grown_none : (files puts : Option (List File)) → HasGrown files files puts puts []
grown_none files puts = record { added = added_none puts; set = set_none files }

-- files put one part after the other
added_both : (a b c : Option (List File)) (xs ys : List File) → Added a b xs → Added b c ys → Added a c (xs ++ ys)
added_both None b c xs ys h k = tt
added_both (Some told) b c xs ys h k =
    subst (λ (m : Option (List File)). Added m c ys → c ≡ Some (told ++ (xs ++ ys))) (sym h) (λ e. e ∙ ap Some (append_assoc told xs ys)) k

then_set : (told after : List File) (c : Option (List File)) (xs ys : List File) → ((name : List ℕ) → bytes_in after name ≡ bytes_in (told ++ xs) name) → AreSet (Some after) c ys → AreSet (Some told) c (xs ++ ys)
then_set told after c xs ys h k =
    (k.0, k.1, λ name. k.2 name ∙ last_bytes after ys name ∙ ap (option_or (bytes_in ys name)) (h name) ∙ sym (last_bytes (told ++ xs) ys name) ∙ ap (λ fs. bytes_in fs name) (append_assoc told xs ys))

set_both : (a b c : Option (List File)) (xs ys : List File) → AreSet a b xs → AreSet b c ys → AreSet a c (xs ++ ys)
set_both None b c xs ys h k = tt
set_both (Some told) b c xs ys h k = then_set told h.0 c xs ys h.2 (subst (λ (m : Option (List File)). AreSet m c ys) h.1 k)

pub grown_both : (a b c p q r : Option (List File)) (xs ys : List File) → HasGrown a b p q xs → HasGrown b c q r ys → HasGrown a c p r (xs ++ ys)
grown_both a b c p q r xs ys h k = record { added = added_both p q r xs ys h.added k.added; set = set_both a b c xs ys h.set k.set }

-- files put before or after a call that put none
added_before : (a b c : Option (List File)) (xs : List File) → Added a b xs → Stays b c → Added a c xs
added_before None b c xs h k = tt
added_before (Some told) b c xs h k = subst (λ (m : Option (List File)). Stays m c → c ≡ Some (told ++ xs)) (sym h) (λ e. e) k

set_before : (a b c : Option (List File)) (xs : List File) → AreSet a b xs → Stays b c → AreSet a c xs
set_before None b c xs h k = tt
set_before (Some told) b c xs h k = (h.0, subst (λ (m : Option (List File)). Stays m c) h.1 k, h.2)

pub grown_before : (a b c p q r : Option (List File)) (xs : List File) → HasGrown a b p q xs → Stays b c → Stays q r → HasGrown a c p r xs
grown_before a b c p q r xs h files_stay puts_stay = record { added = added_before p q r xs h.added puts_stay; set = set_before a b c xs h.set files_stay }

added_after : (a b c : Option (List File)) (xs : List File) → Stays a b → Added b c xs → Added a c xs
added_after None b c xs h k = tt
added_after (Some told) b c xs h k = subst (λ (m : Option (List File)). Added m c xs → c ≡ Some (told ++ xs)) (sym h) (λ e. e) k

set_after : (a b c : Option (List File)) (xs : List File) → Stays a b → AreSet b c xs → AreSet a c xs
set_after None b c xs h k = tt
set_after (Some told) b c xs h k = subst (λ (m : Option (List File)). AreSet m c xs) h k

pub grown_after : (a b c p q r : Option (List File)) (xs : List File) → Stays a b → Stays p q → HasGrown b c q r xs → HasGrown a c p r xs
grown_after a b c p q r xs files_stay puts_stay h = record { added = added_after p q r xs puts_stay h.added; set = set_after a b c xs files_stay h.set }
