-- What setting an attribute keeps, and when it is refused.
use Rattle.std.proofs.Common.{◌≡◌, ℕ, ◌≤◌, List, true, false, Option, Some, None, Ok, Err, refl, sym, subst}
use Rattle.std.specs.Prelude.{IsSomeAnd, is_some}
use Rattle.std.specs.Option.{option_map}
use Rattle.region_attr.specs.Ranges.{most_number, most_los, HasRanges}
use Rattle.region_attr.specs.Values.{truth_of, number_to}
use Rattle.region_attr.specs.Colours.{colour_of}
use Rattle.region_attr.specs.Attrs.{IsValueOf, IsSetTo, with_value, or_bad, set_known, takes, known_takes}
use Rattle.region_attr.proofs.ValueForm.{truth_read, truth_form, number_read, number_form}
use Rattle.region_attr.proofs.ColourForm.{colour_read, colour_form}
use Rattle.region_attr.specs.declared.attr.Attr.{Attr}
use Rattle.region_attr.specs.declared.attr.AttrFault.{AttrFault}
use Rattle.region_attr.specs.declared.attr.AttrFault.TheVariants.{BadValue}
use Rattle.region_attr.specs.declared.key.Key.{Key}
use Rattle.region_attr.specs.declared.key.Key.TheVariants.{Region, Id, Air, Los, Mater, Rgb, Inherit}

-- a refused value is none
refused : {V : Type 0} (put : V → Attr) (o : Option V) (f : AttrFault) (v : V) → Err f ≡ or_bad (option_map put o) → o ≡ Some v → ⊥
refused put None f v e is = cc
refused put (Some w) f v e is = cc

no_value : (k : Key) (value : List ℕ) (attr : Attr) (f : AttrFault) → Err f ≡ or_bad (with_value k value attr) → IsValueOf k value → ⊥
no_value Region value attr f e is = refused (λ v. record attr { region = v }) (truth_of value) f is.0 e (truth_read value is.0 is.1)
no_value Id value attr f e is = refused (λ (v : ℕ). record attr { id = v }) (number_to most_number value) f is.0 e (number_read most_number value is.0 is.1)
no_value Air value attr f e is = refused (λ (v : ℕ). record attr { air = v }) (number_to most_number value) f is.0 e (number_read most_number value is.0 is.1)
no_value Los value attr f e is = refused (λ (v : ℕ). record attr { los = v }) (number_to most_los value) f is.0 e (number_read most_los value is.0 is.1)
no_value Mater value attr f e is = refused (λ (v : ℕ). record attr { mater = v }) (number_to most_number value) f is.0 e (number_read most_number value is.0 is.1)
no_value Rgb value attr f e is = refused (λ v. record attr { rgb = Some v }) (colour_of value) f is.0 e (colour_read value is.0 is.1)
no_value Inherit value attr f e is = refused (λ v. record attr { inherit = v }) (truth_of value) f is.0 e (truth_read value is.0 is.1)

bad_only : (o : Option Attr) (f : AttrFault) → Err f ≡ or_bad o → f ≡ BadValue
bad_only None f e = cc
bad_only (Some a) f e = cc

pub bad_value : (named : Option Key) (value : List ℕ) (attr : Attr) (f : AttrFault) → Err f ≡ set_known named value attr → (f ≡ BadValue → IsSomeAnd named (λ k. ¬ IsValueOf k value)) × (IsSomeAnd named (λ k. ¬ IsValueOf k value) → f ≡ BadValue)
bad_value None value attr f e = ((λ bad. cc), (λ h. absurd h))
bad_value (Some k) value attr f e = ((λ bad. no_value k value attr f e), (λ h. bad_only (with_value k value attr) f e))

-- what was put in
put_in : {V : Type 0} (put : V → Attr) (o : Option V) (new : Attr) → Ok new ≡ or_bad (option_map put o) → (v : V) × (o ≡ Some v) × (new ≡ put v)
put_in put None new e = cc
put_in put (Some v) new e = (v, refl, cc)

within : (most : ℕ) (value : List ℕ) (v : ℕ) → number_to most value ≡ Some v → v ≤ most
within most value v e = (number_form most value v e).1

kept : (k : Key) (value : List ℕ) (attr new : Attr) → Ok new ≡ or_bad (with_value k value attr) → HasRanges attr → HasRanges new
kept Region value attr new e was = let p = put_in (λ v. record attr { region = v }) (truth_of value) new e in subst HasRanges (sym p.2) (record { id = was.id; air = was.air; los = was.los; mater = was.mater })
kept Id value attr new e was = let p = put_in (λ (v : ℕ). record attr { id = v }) (number_to most_number value) new e in subst HasRanges (sym p.2) (record { id = within most_number value p.0 p.1; air = was.air; los = was.los; mater = was.mater })
kept Air value attr new e was = let p = put_in (λ (v : ℕ). record attr { air = v }) (number_to most_number value) new e in subst HasRanges (sym p.2) (record { id = was.id; air = within most_number value p.0 p.1; los = was.los; mater = was.mater })
kept Los value attr new e was = let p = put_in (λ (v : ℕ). record attr { los = v }) (number_to most_los value) new e in subst HasRanges (sym p.2) (record { id = was.id; air = was.air; los = within most_los value p.0 p.1; mater = was.mater })
kept Mater value attr new e was = let p = put_in (λ (v : ℕ). record attr { mater = v }) (number_to most_number value) new e in subst HasRanges (sym p.2) (record { id = was.id; air = was.air; los = was.los; mater = within most_number value p.0 p.1 })
kept Rgb value attr new e was = let p = put_in (λ v. record attr { rgb = Some v }) (colour_of value) new e in subst HasRanges (sym p.2) (record { id = was.id; air = was.air; los = was.los; mater = was.mater })
kept Inherit value attr new e was = let p = put_in (λ v. record attr { inherit = v }) (truth_of value) new e in subst HasRanges (sym p.2) (record { id = was.id; air = was.air; los = was.los; mater = was.mater })

-- what was put in is what the text says
is_set : (k : Key) (value : List ℕ) (attr new : Attr) → Ok new ≡ or_bad (with_value k value attr) → IsSetTo k value attr new
is_set Region value attr new e = let p = put_in (λ v. record attr { region = v }) (truth_of value) new e in (p.0, truth_form value p.0 p.1, p.2)
is_set Id value attr new e = let p = put_in (λ (v : ℕ). record attr { id = v }) (number_to most_number value) new e in (p.0, number_form most_number value p.0 p.1, p.2)
is_set Air value attr new e = let p = put_in (λ (v : ℕ). record attr { air = v }) (number_to most_number value) new e in (p.0, number_form most_number value p.0 p.1, p.2)
is_set Los value attr new e = let p = put_in (λ (v : ℕ). record attr { los = v }) (number_to most_los value) new e in (p.0, number_form most_los value p.0 p.1, p.2)
is_set Mater value attr new e = let p = put_in (λ (v : ℕ). record attr { mater = v }) (number_to most_number value) new e in (p.0, number_form most_number value p.0 p.1, p.2)
is_set Rgb value attr new e = let p = put_in (λ v. record attr { rgb = Some v }) (colour_of value) new e in (p.0, colour_form value p.0 p.1, p.2)
is_set Inherit value attr new e = let p = put_in (λ v. record attr { inherit = v }) (truth_of value) new e in (p.0, truth_form value p.0 p.1, p.2)

pub set_to : (named : Option Key) (value : List ℕ) (attr new : Attr) → Ok new ≡ set_known named value attr → IsSomeAnd named (λ k. IsSetTo k value attr new)
set_to None value attr new e = cc
set_to (Some k) value attr new e = is_set k value attr new e

-- what is set is a value of the attribute that is named
pub good_value : (named : Option Key) (value : List ℕ) (attr new : Attr) → Ok new ≡ set_known named value attr → IsSomeAnd named (λ k. ¬ IsValueOf k value) → ⊥
good_value None value attr new e none = cc
good_value (Some k) value attr new e none = let is = is_set k value attr new e in none (is.0, is.1)

pub ranges_kept : (named : Option Key) (value : List ℕ) (attr new : Attr) → Ok new ≡ set_known named value attr → HasRanges attr → HasRanges new
ranges_kept None value attr new e was = cc
ranges_kept (Some k) value attr new e was = kept k value attr new e was

-- ---- which keys and values set something

none_refused : {V : Type 0} (put : V → Attr) (o : Option V) (f : AttrFault) → Err f ≡ or_bad (option_map put o) → is_some o ≡ false
none_refused put None f e = refl
none_refused put (Some v) f e = cc

some_taken : {V : Type 0} (put : V → Attr) (o : Option V) (new : Attr) → Ok new ≡ or_bad (option_map put o) → is_some o ≡ true
some_taken put None new e = cc
some_taken put (Some v) new e = refl

key_refuses : (k : Key) (value : List ℕ) (attr : Attr) (f : AttrFault) → Err f ≡ or_bad (with_value k value attr) → takes k value ≡ false
key_refuses Region value attr f e = none_refused (λ v. record attr { region = v }) (truth_of value) f e
key_refuses Id value attr f e = none_refused (λ (v : ℕ). record attr { id = v }) (number_to most_number value) f e
key_refuses Air value attr f e = none_refused (λ (v : ℕ). record attr { air = v }) (number_to most_number value) f e
key_refuses Los value attr f e = none_refused (λ (v : ℕ). record attr { los = v }) (number_to most_los value) f e
key_refuses Mater value attr f e = none_refused (λ (v : ℕ). record attr { mater = v }) (number_to most_number value) f e
key_refuses Rgb value attr f e = none_refused (λ v. record attr { rgb = Some v }) (colour_of value) f e
key_refuses Inherit value attr f e = none_refused (λ v. record attr { inherit = v }) (truth_of value) f e

key_takes : (k : Key) (value : List ℕ) (attr new : Attr) → Ok new ≡ or_bad (with_value k value attr) → takes k value ≡ true
key_takes Region value attr new e = some_taken (λ v. record attr { region = v }) (truth_of value) new e
key_takes Id value attr new e = some_taken (λ (v : ℕ). record attr { id = v }) (number_to most_number value) new e
key_takes Air value attr new e = some_taken (λ (v : ℕ). record attr { air = v }) (number_to most_number value) new e
key_takes Los value attr new e = some_taken (λ (v : ℕ). record attr { los = v }) (number_to most_los value) new e
key_takes Mater value attr new e = some_taken (λ (v : ℕ). record attr { mater = v }) (number_to most_number value) new e
key_takes Rgb value attr new e = some_taken (λ v. record attr { rgb = Some v }) (colour_of value) new e
key_takes Inherit value attr new e = some_taken (λ v. record attr { inherit = v }) (truth_of value) new e

pub refuses : (named : Option Key) (value : List ℕ) (attr : Attr) (f : AttrFault) → Err f ≡ set_known named value attr → known_takes named value ≡ false
refuses None value attr f e = refl
refuses (Some k) value attr f e = key_refuses k value attr f e

pub sets : (named : Option Key) (value : List ℕ) (attr new : Attr) → Ok new ≡ set_known named value attr → known_takes named value ≡ true
sets None value attr new e = cc
sets (Some k) value attr new e = key_takes k value attr new e
