-- A file at the end of a list of files is the one of its name, and hides no other.
use Rattle.std.proofs.Common.{◌≡◌, ℕ, cond, List, [], ◌∷◌, ◌++◌, Some, option_map, find, reverse, refl, ap, sym, ◌∙◌}
use Rattle.std.proofs.lemmas.Bool.{false_from_ne_true}
use Rattle.std.proofs.lemmas.List.{reverse-append}
use Rattle.name_core.specs.Same.{same_name, same_name_decides}
use Rattle.outside_core.specs.Files.{bytes_in, HasSet}
use Rattle.outside_core.specs.declared.traits.File.{File}

last_or_before : (files : List File) (file : File) (name : List ℕ) → bytes_in (files ++ file ∷ []) name ≡ option_map (λ (f : File). f.bytes) (cond (same_name file.name name) (Some file) (find (λ (f : File). same_name f.name name) (reverse files)))
last_or_before files file name = ap (λ (fs : List File). option_map (λ (f : File). f.bytes) (find (λ (f : File). same_name f.name name) fs)) (reverse-append files (file ∷ []))

pub file_set : (files : List File) (file : File) → HasSet files (files ++ file ∷ []) file.name file.bytes
file_set files file = record {
  here = last_or_before files file file.name ∙ ap (λ b. option_map (λ (f : File). f.bytes) (cond b (Some file) (find (λ (f : File). same_name f.name file.name) (reverse files)))) ((same_name_decides file.name file.name).1 refl);
  others = λ other different. last_or_before files file other ∙ ap (λ b. option_map (λ (f : File). f.bytes) (cond b (Some file) (find (λ (f : File). same_name f.name other) (reverse files)))) (false_from_ne_true (same_name file.name other) (λ e. different (sym ((same_name_decides file.name other).0 e))));
}

pub file_put : (files after : List File) (name bytes : List ℕ) → (let file : File = record { name = name; bytes = bytes } in after ≡ files ++ file ∷ []) → HasSet files after name bytes
file_put files after name bytes put = rw put (file_set files (record { name = name; bytes = bytes }))
