-- Keys and values of attributes.
use Rattle.std.proofs.Common.{◌≡◌, ◌↔◌, ◌∙◌, ℕ, Bool, true, false, List, codes, bytes_eq, Option, Some, None, is_none, Result, Ok, Err, is_ok, IfOk, IsTrue, ap, sym, refl}
use Rattle.std.specs.Option.{IsNone}
use Rattle.std.specs.Result.{IsOk}
use Rattle.std.proofs.lemmas.Bool.{cond-false}
use Rattle.std.proofs.lemmas.Slice.Eq.{bytes_eq-Decides}
use Rattle.name_core.specs.NameText.{read_name}
use Rattle.region_attr.specs.Attrs.{is_setting}
use Rattle.region_attr.specs.Keys.{key_of}
use Rattle.region_attr.specs.declared.key.Key.{Key}
use Rattle.region_attr.specs.declared.attr.AttrFault.{AttrFault}
use Rattle.region_attr.specs.declared.attr.AttrFault.TheVariants.{UnknownKey, BadValue}
use Rattle.command_set.specs.Lawful.{KeyAndValue}
use Rattle.mged_words.specs.Readings.{IsSettingRead}

other_key : (key word : List ℕ) (t : Bool) → bytes_eq key word ≡ t → is_ok (read_name word) ≡ true → is_ok (read_name key) ≡ false → bytes_eq key word ≡ false
other_key key word true e good bad =
    let same : key ≡ word = (bytes_eq-Decides key word).0 e in
    let clash : true ≡ false = sym good ∙ sym (ap (λ (k : List ℕ). is_ok (read_name k)) same) ∙ bad in
    absurd cc
other_key key word false e good bad = e

-- the key of an attribute is a name
pub no_key : (key : List ℕ) → is_ok (read_name key) ≡ false → is_none (key_of key) ≡ true
no_key key bad =
    let differs : (word : List ℕ) → is_ok (read_name word) ≡ true → bytes_eq key word ≡ false = λ word good. other_key key word (bytes_eq key word) refl good bad in
    ap is_none (cond-false (bytes_eq key (codes "region")) _ _ (differs (codes "region") refl) ∙ cond-false (bytes_eq key (codes "id")) _ _ (differs (codes "id") refl)
    ∙ cond-false (bytes_eq key (codes "air")) _ _ (differs (codes "air") refl) ∙ cond-false (bytes_eq key (codes "los")) _ _ (differs (codes "los") refl)
    ∙ cond-false (bytes_eq key (codes "mater")) _ _ (differs (codes "mater") refl) ∙ cond-false (bytes_eq key (codes "rgb")) _ _ (differs (codes "rgb") refl)
    ∙ cond-false (bytes_eq key (codes "inherit")) _ _ (differs (codes "inherit") refl))

not_true : (b : Bool) → (b ≡ true → ⊥) → b ≡ false
not_true true h = absurd (h refl)
not_true false h = refl

none_to : (o : Option Key) → is_none o ≡ true → IsNone o
none_to None h = refl
none_to (Some k) h = absurd cc

none_from : (o : Option Key) → IsNone o → is_none o ≡ true
none_from None h = refl
none_from (Some k) h = absurd cc

pub setting_read : (r : Result KeyAndValue AttrFault) (key value : List ℕ) → IfOk r (λ s. s ≡ record { key = key; value = value }) → (IsOk r ↔ IsTrue (is_setting key value))
    → ((r ≡ Err UnknownKey) ↔ IsNone (key_of key)) → IsSettingRead r key value
setting_read (Ok s) key value is accepted unknown = (is, not_true (is_none (key_of key)) (λ h. let e = unknown.1 (none_to (key_of key) h) in absurd cc), accepted.0 refl)
setting_read (Err UnknownKey) key value is accepted unknown = none_from (key_of key) (unknown.0 refl)
setting_read (Err BadValue) key value is accepted unknown =
    (not_true (is_none (key_of key)) (λ h. let e = unknown.1 (none_to (key_of key) h) in absurd cc), not_true (is_setting key value) (λ h. let e = accepted.1 h in absurd cc))
