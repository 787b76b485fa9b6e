-- A text that is being read: what each command does to what the whole text comes to, and the end.
use Rattle.std.proofs.Common.{◌≡◌, ◌≢◌, ◌⊎◌, inl, inr, ◌<◌, ◌+◌, ◌∙◌, ◌∷◌, ◌++◌, [], ℕ, zero, suc, List, Option, Some, Result, Ok, Err, length, length-append, refl, ap, sym, subst, arith}
use Rattle.std.specs.Prelude.{slice_index}
use Rattle.std.specs.Option.{option_map}
use Rattle.std.proofs.lemmas.Bool.{cases_lt}
use Rattle.name_core.specs.declared.name.Name.{Name}
use Rattle.object_set.specs.Objects.{Parts}
use Rattle.directory.specs.Drafts.{IsFirstRefused}
use Rattle.directory.specs.Edits.{appended, put_fault}
use Rattle.directory.specs.Listing.{Listing}
use Rattle.directory.specs.Walks.{Entries, IsSound}
use Rattle.directory.specs.declared.fault.DirFault.{DirFault}
use Rattle.directory.specs.declared.fault.DirFault.TheVariants as dir
use Rattle.directory.proofs.DraftLemmas.{first_before, first_last, first_within, put_sound}
use Rattle.asc_form.specs.Commands.{pieces_of}
use Rattle.asc_form.specs.Progress.{Progress, nothing_read, with_object, PutsObject, Makes, MakesObject, HasRead, ended, IsRead, IsToldAt, IsSettled, IsEnd}
use Rattle.asc_form.specs.Reading.{Made, unless_kind, kind_of_dir, put_into, made_by, made_from, made_of, directory_of, IsAsc}
use Rattle.asc_form.specs.Steps.{IsMade, IsMadeAt, of_directory, at, at_line}
use Rattle.asc_form.specs.declared.fault.AscFault.{AscFault}
use Rattle.asc_form.specs.declared.fault.AscFault.TheVariants.{At}

-- ---- what a command makes
pub stays : (made : Made) (p : Progress) → made ≡ Ok p.made → IsMade made p (Ok tt) p
stays made p is = inl (record { is = is; bare = refl; lines = refl })

pub remakes : (made : Made) (p after : Progress) (d : Listing) → made ≡ Ok d → after ≡ record p { made = d } → IsMade made p (Ok tt) after
remakes made p after d is e = inl (record {
  is = is ∙ ap (λ (q : Progress). Ok q.made) (sym e);
  bare = ap (λ (q : Progress). q.bare) e;
  lines = ap (λ (q : Progress). q.lines) e;
})

pub puts : (name : Name) (object : Parts) (p after : Progress) → PutsObject name object p (Ok tt) after → IsMade (put_into p.made (Ok (name, object))) p (Ok tt) after
puts name object p after h = inr (record {
  name = name;
  object = object;
  is = ap (λ v. unless_kind (option_map kind_of_dir v ∷ []) (with_object p name object).made) h.1
      ∙ ap (λ (q : Progress). unless_kind (option_map kind_of_dir (put_fault p.bare name object) ∷ []) q.made) (sym h.0);
  bare = ap (λ (q : Progress). q.bare) h.0;
  lines = ap (λ (q : Progress). q.lines) h.0;
})

told_at_once : (name : Name) (object : Parts) (p after : Progress) (fault : DirFault) → put_fault p.made.objects name object ≡ Some fault → after ≡ p
    → (put_into p.made (Ok (name, object)) ≡ Err (kind_of_dir fault)) × (after ≡ p)
told_at_once name object p after fault is same = (ap (λ v. unless_kind (option_map kind_of_dir v ∷ []) (with_object p name object).made) is, same)

pub puts_not : (name : Name) (object : Parts) (p after : Progress) (fault : DirFault) → PutsObject name object p (Err fault) after → IsMade (put_into p.made (Ok (name, object))) p (Err (of_directory fault)) after
puts_not name object p after dir.Exists h = told_at_once name object p after dir.Exists h.0 h.1
puts_not name object p after dir.Missing h = told_at_once name object p after dir.Missing h.0 h.1
puts_not name object p after dir.Full h = told_at_once name object p after dir.Full h.0 h.1
puts_not name object p after (dir.Cycle a) h = told_at_once name object p after (dir.Cycle a) h.0 h.1
puts_not name object p after (dir.Deep n) h = told_at_once name object p after (dir.Deep n) h.0 h.1
puts_not name object p after DirFault.Memory h = tt

-- ---- the lines of the objects
line_before : (lines : List ℕ) (line i : ℕ) → i < length lines → slice_index (lines ++ line ∷ []) i ≡ slice_index lines i
line_before [] line i lt = absurd (omega (arith, lt))
line_before (l ∷ lines) line zero lt = refl
line_before (l ∷ lines) line (suc i) lt = line_before lines line i (omega (arith, lt))

line_last : (lines : List ℕ) (line : ℕ) → slice_index (lines ++ line ∷ []) (length lines) ≡ line
line_last [] line = refl
line_last (l ∷ lines) line = line_last lines line

-- ---- a text is read command by command
pub read_nothing : (text : List ℕ) → HasRead (directory_of text) (made_of (pieces_of text)) nothing_read
read_nothing text = record {
  sound = λ _. refl;
  refused = λ i fault h. let wrong = first_within [] i fault h in absurd (omega (arith, wrong));
  even = refl;
}

pub read_by : (whole : Result Listing AscFault) (f g : Listing → Result Listing AscFault) (p : Progress) → ((d : Listing) → f d ≡ g d) → HasRead whole f p → HasRead whole g p
read_by whole f g p e h = record { sound = λ s. sym (e p.made) ∙ h.sound s; refused = h.refused; even = h.even }

pub goes_on : (whole : Result Listing AscFault) (others : Listing → Result Listing AscFault) (line : ℕ) (text : List ℕ) (p after : Progress) → HasRead whole (λ d. made_from others line (made_by d text)) p
    → Makes (made_by p.made text) (at p line) after ⊎ MakesObject (made_by p.made text) (at p line) after → HasRead whole others after
goes_on whole others line text p after h (inl m) = record {
  sound = λ s. sym (ap (made_from others line) m.is) ∙ h.sound (subst (λ (es : Entries). IsSound es) m.bare s);
  refused = λ i fault r. h.refused i fault (subst (λ (es : Entries). IsFirstRefused es i fault) m.bare r) ∙ ap (λ (ls : List ℕ). Err (At (slice_index ls i) (kind_of_dir fault))) (sym m.lines);
  even = ap (length {A = ℕ}) m.lines ∙ h.even ∙ sym (ap (length {A = Name × Parts}) m.bare);
}
goes_on whole others line text p after h (inr m) =
    let made : Made = made_by p.made text in
    let list : Entries = appended p.bare m.name m.object in
    let few : length after.lines ≡ length p.lines + 1 = ap (length {A = ℕ}) m.lines ∙ length-append p.lines (line ∷ []) in
    let more : length after.bare ≡ length p.bare + 1 = ap (length {A = Name × Parts}) m.bare ∙ length-append p.bare ((m.name, m.object) ∷ []) in
    let is : (v : Option DirFault) → put_fault p.bare m.name m.object ≡ v → made ≡ unless_kind (option_map kind_of_dir v ∷ []) after.made = λ v e. m.is ∙ ap (λ w. unless_kind (option_map kind_of_dir w ∷ []) after.made) e in
    record {
      sound = λ s.
          let before = put_sound p.bare m.name m.object (subst (λ (es : Entries). IsSound es) m.bare s) in
          sym (ap (made_from others line) (is _ before.1)) ∙ h.sound before.0;
      refused = λ i fault r.
          let here : IsFirstRefused list i fault = subst (λ (es : Entries). IsFirstRefused es i fault) m.bare r in
          elim (cases_lt i (length p.bare)) [
            | inl lt ↦ h.refused i fault (first_before p.bare (m.name, m.object) i fault lt here)
                ∙ ap (λ (n : ℕ). Err (At n (kind_of_dir fault))) (sym (line_before p.lines line i (omega (arith, lt, h.even))) ∙ ap (λ (ls : List ℕ). slice_index ls i) (sym m.lines))
            | inr le ↦
                let within = first_within list i fault here in
                let end : i ≡ length p.bare = omega (arith, le, within, length-append p.bare ((m.name, m.object) ∷ [])) in
                let last = first_last p.bare m.name m.object fault (subst (λ (n : ℕ). IsFirstRefused list n fault) end here) in
                let own : slice_index after.lines i ≡ line = ap (λ (ls : List ℕ). slice_index ls i) m.lines ∙ ap (slice_index (p.lines ++ line ∷ [])) (end ∙ sym h.even) ∙ line_last p.lines line in
                sym (h.sound last.0) ∙ ap (made_from others line) (is _ last.1) ∙ ap (λ (n : ℕ). Err (At n (kind_of_dir fault))) (sym own)
          ];
      even = omega (arith, few, more, h.even);
    }

pub fails : (text : List ℕ) (others : Listing → Result Listing AscFault) (line : ℕ) (command : List ℕ) (p after : Progress) (fault : AscFault)
    → HasRead (directory_of text) (λ d. made_from others line (made_by d command)) p → IsMadeAt (made_by p.made command) p line (Err fault) after → IsRead text (Err fault) after
fails text others line command p after AscFault.Memory h m = tt
fails text others line command p after (At place kind) h m =
    subst (λ (q : Progress). HasRead (directory_of text) (ended (Err (At place kind))) q) (sym m.2) (record {
      sound = λ s. ap (λ (n : ℕ). Err (At n kind)) m.0 ∙ sym (ap (made_from others line) m.1) ∙ h.sound s;
      refused = h.refused;
      even = h.even;
    })

pub last_read : (text : List ℕ) (line : ℕ) (command : List ℕ) (p after : Progress) (result : Result (Unit {0}) AscFault) → HasRead (directory_of text) (λ d. made_from (made_of []) line (made_by d command)) p
    → IsMadeAt (made_by p.made command) p line result after → IsRead text result after
last_read text line command p after (Ok u) h m = read_by (directory_of text) (made_of []) (ended (Ok u)) after (λ d. refl) (goes_on (directory_of text) (made_of []) line command p after h m)
last_read text line command p after (Err fault) h m = fails text (made_of []) line command p after fault h m

-- ---- the end
pub told : (draft : Listing) (lines : List ℕ) (place : ℕ) (fault : DirFault) → IsFirstRefused draft.objects place fault → IsSettled draft lines (Err (at_line (slice_index lines place) (of_directory fault)))
told draft lines place dir.Exists h = (place, dir.Exists, h, refl)
told draft lines place dir.Missing h = (place, dir.Missing, h, refl)
told draft lines place dir.Full h = (place, dir.Full, h, refl)
told draft lines place (dir.Cycle a) h = (place, dir.Cycle a, h, refl)
told draft lines place (dir.Deep n) h = (place, dir.Deep n, h, refl)
told draft lines place DirFault.Memory h = tt

pub told_first : (p : Progress) (read : Result (Unit {0}) AscFault) (draft : Listing) (fault : AscFault) → draft.objects ≡ p.bare → IsSettled draft p.lines (Err fault) → IsEnd p read (Err fault)
told_first p read draft AscFault.Memory is h = tt
told_first p read draft (At line kind) is h = inr (subst (λ (es : Entries). IsToldAt es p.lines (Err (At line kind))) is h)

pub told_last : (p : Progress) (fault : AscFault) → IsSound p.bare → IsEnd p (Err fault) (Err fault)
told_last p AscFault.Memory sound = tt
told_last p (At line kind) sound = inl (sound, refl)

by_end : (whole : Result Listing AscFault) (p : Progress) (read : Result (Unit {0}) AscFault) (result : Result Listing AscFault) → HasRead whole (ended read) p
    → (IsSound p.bare × (ended read p.made ≡ result)) ⊎ IsToldAt p.bare p.lines result → whole ≡ result
by_end whole p read result h (inl e) = sym (h.sound e.0) ∙ e.1
by_end whole p read result h (inr e) = h.refused e.0 e.1 e.2 ∙ sym e.3

end_is : (text : List ℕ) (p : Progress) (read : Result (Unit {0}) AscFault) (result : Result Listing AscFault) → HasRead (directory_of text) (ended read) p → IsEnd p read result → IsAsc result text
end_is text p read (Ok d) h e = by_end (directory_of text) p read (Ok d) h e
end_is text p read (Err (At line kind)) h e = by_end (directory_of text) p read (Err (At line kind)) h e
end_is text p read (Err AscFault.Memory) h e = tt

pub end_of_reading : (text : List ℕ) (p : Progress) (read : Result (Unit {0}) AscFault) (result : Result Listing AscFault) → read ≢ Err AscFault.Memory → IsRead text read p → IsEnd p read result → IsAsc result text
end_of_reading text p (Ok u) result apart h e = end_is text p (Ok u) result h e
end_of_reading text p (Err (At line kind)) result apart h e = end_is text p (Err (At line kind)) result h e
end_of_reading text p (Err AscFault.Memory) result apart h e = absurd (apart refl)
