-- The order that a text names, at worked examples, by computation.
use Rattle.std.specs.Prelude.{◌≡◌, ℕ, ◌==◌, cond, List, [], ◌∷◌, codes, refl, None, Some, true, false}
use Rattle.transcript.specs.Transcript.{transcript}
use Rattle.script_run.specs.Orders.{named_order, is_merge, order_for}

-- session 1 has the items 10 and 11, session 2 has 20
abbrev pub items : ℕ → List ℕ
items session = cond (session == 1) (10 ∷ 11 ∷ []) (cond (session == 2) (20 ∷ []) [])

-- no session has an item
abbrev pub no_items : ℕ → List ℕ
no_items session = []

pub first_line_of_a_transcript : order_for (codes "order 1 2 1\n1.1 ok v1 0\n") items ≡ Some (1 ∷ 2 ∷ 1 ∷ [])
first_line_of_a_transcript = refl

pub line_without_a_line_feed : order_for (codes "order 2 1 1") items ≡ Some (2 ∷ 1 ∷ 1 ∷ [])
line_without_a_line_feed = refl

-- what follows the first line is not looked at
pub second_line_is_anything : order_for (codes "order 1 1 2\n\t9 order") items ≡ Some (1 ∷ 1 ∷ 2 ∷ [])
second_line_is_anything = refl

pub no_commands : named_order (codes "order") ≡ Some []
no_commands = refl

pub no_commands_merge_an_empty_script : order_for (codes "order\n") no_items ≡ Some []
no_commands_merge_an_empty_script = refl

pub no_commands_do_not_merge_a_script : order_for (codes "order\n") items ≡ None
no_commands_do_not_merge_a_script = refl

pub tab_for_a_blank : named_order (codes "order 1\t2 1\n") ≡ None
tab_for_a_blank = refl

pub blank_at_the_end : named_order (codes "order 1 2 1 \n") ≡ None
blank_at_the_end = refl

pub carriage_return_at_the_end : named_order (codes "order 1 2 1\r\n") ≡ None
carriage_return_at_the_end = refl

pub digit_nine : order_for (codes "order 1 2 1 9\n") items ≡ None
digit_nine = refl

pub digit_zero : order_for (codes "order 0 1 2 1\n") items ≡ None
digit_zero = refl

-- a byte behind the digits is none of a session's either
pub letter_for_a_digit : order_for (codes "order 1 2 a\n") items ≡ None
letter_for_a_digit = refl

pub sign_for_a_digit : named_order (codes "order 1 2 -\n") ≡ None
sign_for_a_digit = refl

pub two_digits_without_a_blank : named_order (codes "order 12 1\n") ≡ None
two_digits_without_a_blank = refl

pub digit_too_many : order_for (codes "order 1 2 1 1\n") items ≡ None
digit_too_many = refl

pub digit_too_few : order_for (codes "order 1 2\n") items ≡ None
digit_too_few = refl

pub digit_of_another_session : order_for (codes "order 1 2 2\n") items ≡ None
digit_of_another_session = refl

pub digit_of_a_session_without_items : order_for (codes "order 1 2 1 3\n") items ≡ None
digit_of_a_session_without_items = refl

pub empty_text : named_order [] ≡ None
empty_text = refl

pub empty_first_line : named_order (codes "\norder 1 2 1\n") ≡ None
empty_first_line = refl

pub longer_word : named_order (codes "orders 1\n") ≡ None
longer_word = refl

pub shorter_word : named_order (codes "orde 1\n") ≡ None
shorter_word = refl

pub capital_letter : named_order (codes "Order 1\n") ≡ None
capital_letter = refl

pub two_blanks : named_order (codes "order  1\n") ≡ None
two_blanks = refl

-- a run's own transcript names its order
pub order_of_a_transcript : named_order (transcript {F = Unit {0}} (8 ∷ 1 ∷ 8 ∷ []) (λ session. [])) ≡ Some (8 ∷ 1 ∷ 8 ∷ [])
order_of_a_transcript = refl

pub merge_of_two_sessions : is_merge (1 ∷ 2 ∷ 1 ∷ []) items ≡ true
merge_of_two_sessions = refl

pub no_merge_of_nine : is_merge (1 ∷ 2 ∷ 1 ∷ 9 ∷ []) items ≡ false
no_merge_of_nine = refl
