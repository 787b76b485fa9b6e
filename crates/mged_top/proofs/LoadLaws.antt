-- A load file is judged by its first bytes, of which one more is asked for than it may have.
use Rattle.std.proofs.Common.{◌≡◌, ◌∙◌, ◌≤◌, ◌<◌, ◌^◌, ℕ, Bool, true, false, cond, List, [], ◌∷◌, Option, Some, None, Result, Ok, Err, length, take, nat_le, refl, ap, sym, arith, if◌then◌else◌}
use Rattle.std.specs.Option.{option_map}
use Rattle.std.proofs.lemmas.Bool.{leb-true, leb-false, le-leb, lt-leb}
use Rattle.std.proofs.lemmas.List.{take_all, length-take-le}
use Rattle.name_core.specs.declared.name.Name.{Name}
use Rattle.name_core.specs.Same.{same_name_equiv}
use Rattle.option_words.specs.declared.options.Model.{Model}
use Rattle.option_words.specs.declared.options.Model.TheVariants.{OfDemo, OfFile}
use Rattle.outside_core.specs.Files.{Gives, bytes_in}
use Rattle.outside_core.specs.declared.traits.File.{File}
use Rattle.directory.specs.Listing.{Listing}
use Rattle.asc_form.specs.Reading.{directory_of}
use Rattle.asc_form.specs.Written.{written}
use Rattle.text_laws.specs.TextAgain.{IsTextAgain}
use Rattle.scene_make.specs.Demo.{demo, demo_script}
use Rattle.mged_top.specs.Courses.{loaded, loaded_from, model_in, model_of}
use Rattle.mged_top.specs.Stages.{CanLoad, IsLoad, IsModel, without_script}
use Rattle.mged_top.specs.declared.load.LoadStop.{LoadStop}
use Rattle.mged_top.specs.declared.load.LoadStop.TheVariants as load
use Rattle.mged_top.specs.declared.status.LoadFault.{LoadFault}
use Rattle.mged_top.specs.declared.status.LoadFault.TheVariants.{Size}

abbrev judged_by : Bool → List ℕ → Result Listing LoadFault
judged_by fits text = if fits then model_of (directory_of text) else Err Size

prefix_by : (t : Bool) (text : List ℕ) → t ≡ nat_le (length text) 16777216 → judged_by (nat_le (length (take 16777217 text)) 16777216) (take 16777217 text) ≡ judged_by t text
prefix_by true text is =
    let small : length text ≤ 16777216 = leb-true (length text) 16777216 (sym is) in
    let whole : take 16777217 text ≡ text = take_all 16777217 text (omega (arith, small)) in
    ap (λ t. judged_by (nat_le (length t) 16777216) t) whole ∙ ap (λ b. judged_by b text) (sym is)
prefix_by false text is =
    let large : 16777216 < length text = leb-false (length text) 16777216 (sym is) in
    let long : length (take 16777217 text) ≡ 16777217 = length-take-le 16777217 text (omega (arith, large)) in
    ap (λ b. judged_by b (take 16777217 text)) (lt-leb (length (take 16777217 text)) 16777216 (omega (arith, long)))

prefix_loaded : (name : Name) (full : Option (List ℕ)) → loaded_from name (option_map (take 16777217) full) ≡ loaded_from name full
prefix_loaded name None = refl
prefix_loaded name (Some text) = prefix_by (nat_le (length text) 16777216) text refl

pub one_file : (name text : List ℕ) → bytes_in (record { name = name; bytes = text } ∷ []) name ≡ Some text
one_file name text = ap (λ (t : Bool). option_map (λ (file : File). file.bytes) (cond t (Some (record { name = name; bytes = text })) None)) (same_name_equiv.refl name)

-- what was found of a file of that name, and what comes of it
pub file_loaded : (told : Option (List File)) (name : Name) (found : Option (List ℕ)) (start : Result Listing LoadFault) → Gives told name 16777217 found → loaded_from name found ≡ start → CanLoad told (OfFile name) start
file_loaded None name None start gives is = record { files = []; as_told = tt; gives = is }
file_loaded None name (Some text) start gives is = record { files = record { name = name; bytes = text } ∷ []; as_told = tt; gives = ap (loaded_from name) (one_file name text) ∙ is }
file_loaded (Some files) name found start gives is =
    record { files = files; as_told = refl; gives = sym (prefix_loaded name (bytes_in files name)) ∙ ap (loaded_from name) (sym gives) ∙ is }

pub model_loaded : (told : Option (List File)) (name : Name) (text : List ℕ) (r : Result Listing LoadStop) → Gives told name 16777217 (Some text) → IsModel r text → IsLoad (without_script r) (OfFile name) told
model_loaded told name text (Ok d) gives is = (file_loaded told name (Some text) (Ok d) gives is, refl)
model_loaded told name text (Err (load.Refused fault)) gives is = file_loaded told name (Some text) (Err fault) gives is
model_loaded told name text (Err load.Failed) gives is = absurd is
model_loaded told name text (Err LoadStop.Memory) gives is = tt

-- where no file is asked for, the files are of no matter
pub no_file : (told : Option (List File)) (model : Model) (start : Result Listing LoadFault) → ((files : List File) → loaded model files ≡ start) → CanLoad told model start
no_file None model start is = record { files = []; as_told = tt; gives = is [] }
no_file (Some files) model start is = record { files = files; as_told = refl; gives = is files }

-- what the text of a demo gives
demo_read : (number : ℕ) (text : List ℕ) → text ≡ written (demo number) → IsTextAgain (demo number) → length text < 2 ^ 24 → model_in text ≡ Ok (demo number)
demo_read number text is again short =
    ap (λ (fits : Bool). judged_by fits text) (le-leb (length text) 16777216 (omega (arith, short))) ∙ ap (λ t. model_of (directory_of t)) is ∙ ap model_of again

pub demo_loaded : (number : ℕ) (d : Listing) (text script : List ℕ) (told : Option (List File)) → text ≡ written (demo number) → IsTextAgain (demo number) → length text < 2 ^ 24 → script ≡ demo_script → model_in text ≡ Ok d
    → IsLoad (Ok (record { directory = d; script = Some script })) (OfDemo number) told
demo_loaded number d text script told is again short own made = (no_file told (OfDemo number) (Ok d) (λ files. sym (demo_read number text is again short) ∙ made), ap Some own)

pub demo_stopped : (number : ℕ) (stop : LoadStop) (text : List ℕ) (told : Option (List File)) → text ≡ written (demo number) → IsTextAgain (demo number) → length text < 2 ^ 24 → IsModel (Err stop) text → IsLoad (Err stop) (OfDemo number) told
demo_stopped number (load.Refused fault) text told is again short refused = no_file told (OfDemo number) (Err fault) (λ files. sym (demo_read number text is again short) ∙ refused)
demo_stopped number load.Failed text told is again short bad = absurd bad
demo_stopped number LoadStop.Memory text told is again short none = tt
