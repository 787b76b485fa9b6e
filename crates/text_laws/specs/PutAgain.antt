-- The written line of an object reads as that object.
use Rattle.std.specs.Prelude.{◌≡◌, List, [], Ok}
use Rattle.tcl_words.specs.Reading.{words_of}
use Rattle.tcl_words.specs.TopWords.{top_words}
use Rattle.tcl_words.specs.declared.token.Token.{Token}
use Rattle.name_core.specs.declared.name.Name.{Name}
use Rattle.object_set.specs.declared.object.Body.{Body}
use Rattle.put_form.specs.Puts.{put_of}
use Rattle.put_form.specs.Written.{put_line}

-- the words of a written line are those of that object
abbrev pub IsPutAgain : Name → Body → Type 0
IsPutAgain name body =
    (tokens : List Token) × (words_of (put_line name body) ≡ Ok tokens)
    × (put_of (put_line name body) tokens (top_words tokens) ≡ Ok (name, record { body = body; kept = [] }))
