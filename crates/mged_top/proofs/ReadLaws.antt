-- A script is judged by its size first.
use Rattle.std.proofs.Common.{◌≡◌, ◌<◌, ℕ, Bool, List, Option, Some, None, Result, Err, length, replicate, refl, ap, arith, if◌then◌else◌, IfSome}
use Rattle.std.proofs.lemmas.Bool.{lt-ltb}
use Rattle.std.proofs.lemmas.List.{length-replicate}
use Rattle.transcript.specs.Lines.{lines_in}
use Rattle.transcript.specs.Merge.{Entry}
use Rattle.command_set.specs.declared.command.Command.{Command}
use Rattle.mged_words.specs.Scripts.{script_of, script_read, lines_flaw, commands_in}
use Rattle.mged_words.specs.declared.script.ScriptFlaw.{ScriptFlaw}
use Rattle.mged_words.specs.declared.script.ScriptFlaw.TheVariants.{Size}
use Rattle.mged_top.specs.Stages.{CanRead}

size_flaw : (text : List ℕ) → 4194304 < length text → script_of text ≡ Err Size
size_flaw text long =
    ap (λ (t : Bool). script_read (if t then Some Size else lines_flaw 1 (lines_in text)) (commands_in (lines_in text))) (lt-ltb 4194304 (length text) long)

long_text : (n : ℕ) → 4194304 < n → CanRead None (Err Size)
long_text n long = record { script = replicate n 0; as_told = tt; gives = size_flaw (replicate n 0) (omega (arith, long, length-replicate {A = ℕ} n 0)) }

-- a source that had more bytes than a script may have
pub too_long : (left : Option (List ℕ)) → IfSome left (λ all. 4194304 < length all) → CanRead left (Err Size)
too_long None long = long_text 4194305 (omega arith)
too_long (Some all) long = record { script = all; as_told = refl; gives = size_flaw all long }

-- a text that is all that the source had
pub as_read : (left : Option (List ℕ)) (text : List ℕ) (read : Result (List (Entry Command)) ScriptFlaw) → IfSome left (λ all. text ≡ all) → script_of text ≡ read → CanRead left read
as_read left text read whole is = record { script = text; as_told = whole; gives = is }
