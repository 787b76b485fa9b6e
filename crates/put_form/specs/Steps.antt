-- The words of the code: pairs, and what is read of them.
use Rattle.std.specs.Prelude.{◌≡◌, ◌<◌, ℕ, List, All, Option, None, Some, Ok, Err}
use Rattle.tcl_words.specs.TopWords.{IsWordOf}
use Rattle.tcl_words.specs.declared.token.Token.{Token}
use Rattle.put_form.specs.Pairs.{Pair}
use Rattle.put_form.specs.Puts.{Put}
use Rattle.put_form.specs.declared.fault.PutFault.{PutFault}
use Rattle.put_form.specs.declared.fault.PutFault.TheVariants.{Number}

-- the values are words of these tokens
abbrev pub HaveWords : List Token → List Pair → Type 0
HaveWords tokens pairs = All (λ (p : Pair). IsWordOf tokens p.value) pairs

-- each value stands behind a key
abbrev pub HavePlaces : List Pair → Type 0
HavePlaces pairs = All (λ (p : Pair). 0 < p.place) pairs

-- what a call gave is this, unless memory ran out
abbrev pub IsPutRead : Put → Put → Type 0
IsPutRead (Err PutFault.Memory) put = Unit {0}
IsPutRead (Ok made) put = put ≡ Ok made
IsPutRead (Err fault) put = put ≡ Err fault

-- the number of the word of a pair's value
abbrev pub word_of : Option Pair → Option ℕ
word_of None = None
word_of (Some p) = Some p.place

abbrev pub word_fault : Option ℕ → Option PutFault
word_fault None = None
word_fault (Some place) = Some (Number place)
