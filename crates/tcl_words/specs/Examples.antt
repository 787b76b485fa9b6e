-- Examples, each proved by computing.
use Rattle.std.specs.Prelude.{◌≡◌, [], ◌∷◌, ◌++◌, Ok, Err, Some, None, refl, codes, map, pos, negsuc, replicate, true, false}
use Rattle.tcl_words.specs.GroupText.{is_group_text}
use Rattle.tcl_words.specs.Reading.{words_of}
use Rattle.tcl_words.specs.Tokens.{token, tokens_of}
use Rattle.tcl_words.specs.TopWords.{top_words, atom_of, raw_of}
use Rattle.tcl_words.specs.Pieces.{written}
use Rattle.tcl_words.specs.Numbers.{number_of, tenths_of}
use Rattle.tcl_words.specs.Faults.{fault_at}
use Rattle.tcl_words.specs.declared.token.Kind.TheVariants.{Open, Close, Atom}
use Rattle.tcl_words.specs.declared.fault.WordFault.TheVariants.{BadByte, Extra, Unclosed, TooDeep}

pub two_atoms : words_of (codes "ab  c") ≡ Ok (token Atom 0 2 ∷ token Atom 4 5 ∷ [])
two_atoms = refl

pub a_group : words_of (codes "{ yes }") ≡ Ok (token Open 0 1 ∷ token Atom 2 5 ∷ token Close 6 7 ∷ [])
a_group = refl

pub no_words : words_of (codes " \t\r\n") ≡ Ok []
no_words = refl

pub empty_group_alone : words_of (codes "{}") ≡ Ok (token Open 0 1 ∷ token Close 1 2 ∷ [])
empty_group_alone = refl

pub semicolon_inside : words_of (codes "{;}") ≡ Ok (token Open 0 1 ∷ token Atom 1 2 ∷ token Close 2 3 ∷ [])
semicolon_inside = refl

pub semicolon_outside : words_of (codes "a ;}") ≡ Err (BadByte 2)
semicolon_outside = refl

pub backslash_inside : words_of (codes "{\\}") ≡ Err (BadByte 1)
backslash_inside = refl

pub touching : words_of (codes "a{b") ≡ Err (Extra 1)
touching = refl

pub after_a_group : words_of (codes "{a}b") ≡ Err (Extra 3)
after_a_group = refl

pub not_closed : words_of (codes "{a") ≡ Err Unclosed
not_closed = refl

pub nothing_open : words_of (codes "}{") ≡ Err (Extra 0)
nothing_open = refl

pub first_wins : words_of (codes "} \\") ≡ Err (Extra 0)
first_wins = refl

-- `in {a b} {c}` has three words, and only the last group counts as an atom
pub words_of_line : top_words (tokens_of (codes "in {a b} {c}")) ≡ record { first = 0; last = 0 } ∷ record { first = 1; last = 4 } ∷ record { first = 5; last = 7 } ∷ []
words_of_line = refl

pub group_as_atom : map (atom_of (codes "in {a b} { c }") (tokens_of (codes "in {a b} { c }"))) (top_words (tokens_of (codes "in {a b} { c }"))) ≡ Some (codes "in") ∷ None ∷ Some (codes "c") ∷ []
group_as_atom = refl

pub group_raw : map (raw_of (codes "in { a  b}") (tokens_of (codes "in { a  b}"))) (top_words (tokens_of (codes "in { a  b}"))) ≡ None ∷ Some (codes " a  b") ∷ []
group_raw = refl

pub written_words : written (codes "  in  {  a  b}\t{c }") (tokens_of (codes "  in  {  a  b}\t{c }")) ≡ codes "in {a b} {c}"
written_words = refl

pub whole_number : number_of (codes "-0012.00") ≡ Some (negsuc 11)
whole_number = refl

pub minus_zero : number_of (codes "-0") ≡ Some (pos 0)
minus_zero = refl

pub ten_digits : number_of (codes "1234567890") ≡ None
ten_digits = refl

pub leading_zeros : number_of (codes "+000123456789.") ≡ Some (pos 123456789)
leading_zeros = refl

pub no_exponent : number_of (codes "1e3") ≡ None
no_exponent = refl

pub no_fraction : number_of (codes "1.5") ≡ None
no_fraction = refl

pub too_deep : fault_at (replicate 4101 123) 4100 ≡ Some (TooDeep 4100)
too_deep = refl

pub extra_before_too_deep : fault_at (replicate 4100 123 ++ 97 ∷ 123 ∷ []) 4101 ≡ Some (Extra 4101)
extra_before_too_deep = refl

pub sign_alone : number_of (codes "-") ≡ None
sign_alone = refl

pub no_whole_part : number_of (codes ".5") ≡ None
no_whole_part = refl

pub two_groups : is_group_text (codes "a} {b") ≡ false
two_groups = refl

pub group_inside : is_group_text (codes " x; {y} ") ≡ true
group_inside = refl

pub empty_group : is_group_text [] ≡ true
empty_group = refl

pub half_below : tenths_of (codes "-0.5") ≡ Some (negsuc 4)
half_below = refl

pub a_point_alone : tenths_of (codes "1.") ≡ Some (pos 10)
a_point_alone = refl

pub a_tenth : tenths_of (codes "0.10") ≡ Some (pos 1)
a_tenth = refl

pub zeros_before_a_half : tenths_of (codes "000000000.5") ≡ Some (pos 5)
zeros_before_a_half = refl

pub minus_zero_tenths : tenths_of (codes "-0.0") ≡ Some (pos 0)
minus_zero_tenths = refl

pub a_length_without_a_point : tenths_of (codes "30") ≡ Some (pos 300)
a_length_without_a_point = refl

pub tenths_alone : tenths_of (codes ".5") ≡ None
tenths_alone = refl

pub an_exponent : tenths_of (codes "1e1") ≡ None
an_exponent = refl

pub two_decimals : tenths_of (codes "0.25") ≡ None
two_decimals = refl

pub a_late_decimal : tenths_of (codes "1.05") ≡ None
a_late_decimal = refl

pub nine_digits_and_a_tenth : tenths_of (codes "999999999.9") ≡ Some (pos 9999999999)
nine_digits_and_a_tenth = refl

pub ten_digits_and_a_tenth : tenths_of (codes "1000000000.0") ≡ None
ten_digits_and_a_tenth = refl
