-- Texts that stand for themselves: titles, and the values of kept attributes.
use Rattle.std.specs.Prelude.{◌≡◌, ◌≢◌, ◌≤◌, ℕ, true, List, length, All}
use Rattle.tcl_words.specs.GroupText.{is_group_text}

-- at most 1024 bytes, no line feed, no carriage return, and between braces it reads as one group
pub record IsTextValue (text : List ℕ) : Type 0 where
  pub short : length text ≤ 1024
  pub one_line : All (λ b. b ≢ 10) text
  pub no_return : All (λ b. b ≢ 13) text
  pub group : is_group_text text ≡ true
