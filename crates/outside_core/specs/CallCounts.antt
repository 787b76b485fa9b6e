-- The calls that were made on an object in memory, counted from 1, and those of them that fail.
use Rattle.std.specs.Prelude.{Contains}
use Rattle.outside_core.specs.Faults.{next_count}
use Rattle.outside_core.specs.declared.calls.Calls.{Calls}

-- the number of the next call is listed
abbrev pub NextIsListed : Calls → Type 0
NextIsListed calls = Contains calls.fail_at (next_count calls.made)

-- after one more call
abbrev pub counted : Calls → Calls
counted calls = record calls { made = next_count calls.made }

-- after one more call, which failed
abbrev pub faulted : Calls → Calls
faulted calls = record calls { made = next_count calls.made; faults = next_count calls.faults }
