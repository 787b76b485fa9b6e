-- What the code keeps of a session's run, as the plain data of its definition.
use Rattle.outside_core.specs.declared.traits.File.{File}
use Rattle.transcript.specs.Run as run
use Rattle.directory.specs.Listing.{Listing}
use Rattle.session_run.specs.Replies.{shown}
use Rattle.session_run.specs.declared.answer.Answer.{Answer}
use Rattle.session_run.specs.declared.answer.Book.{Book}

-- a directory and its version as those of the run
abbrev pub core_book : Book → run.Book Listing
core_book book = record { directory = book.directory; version = book.version }

-- a session's answer as one of the run
abbrev pub core_answer : Answer → run.Answer File
core_answer answer = record { version = answer.version; reply = shown answer.outcome }
