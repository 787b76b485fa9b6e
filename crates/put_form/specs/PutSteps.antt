-- The words of the code: one object.
use Rattle.std.specs.Prelude.{ℕ, List, Err, if◌then◌else◌}
use Rattle.tcl_words.specs.TopWords.{atom_of}
use Rattle.tcl_words.specs.declared.token.Token.{Token}
use Rattle.tcl_words.specs.declared.token.Word.{Word}
use Rattle.put_form.specs.Pairs.{pairs_of}
use Rattle.put_form.specs.Puts.{Put, is_put, kind_named, kind_put}
use Rattle.put_form.specs.declared.fault.PutFault.TheVariants.{NoType}

-- the object of `put`, a name, a type and the words behind them
abbrev pub words_put : List ℕ → List Token → Word → Word → Word → List Word → Put
words_put text tokens word name kind rest =
    if is_put (atom_of text tokens word) then kind_put text tokens (atom_of text tokens name) (kind_named (atom_of text tokens kind)) (pairs_of text tokens 4 rest)
    else Err NoType
