-- What a session has used stays within its room.
use Rattle.std.proofs.Common.{◌≡◌, ◌≤◌, ◌+◌, ℕ, Bool, true, false, cond, nat_le, Result, Ok, Err, refl, sym, arith}
use Rattle.std.proofs.lemmas.Bool.{leb-true}
use Rattle.command_set.specs.declared.command.Command.{Command}
use Rattle.command_set.specs.declared.command.Command.TheVariants.{Bad, Edit as IsEdit, Query as IsQuery, Shoot as IsShoot}
use Rattle.command_set.specs.declared.refusal.Refusal.{Refusal}
use Rattle.command_set.specs.declared.refusal.Refusal.TheVariants.{Quota}
use Rattle.directory.specs.Listing.{Listing}
use Rattle.edit_core.specs.Refused.{edited}
use Rattle.session_run.specs.Own.{OwnState}
use Rattle.session_run.specs.Replies.{Outcome, most_used, size_of, within_quota, found, viewed, edit_outcome, outcome_of, used_after}
use Rattle.session_run.specs.declared.answer.Found.{Found}

by_room : (t : Bool) (used : ℕ) (f : Found) → t ≡ nat_le (used + size_of f) most_used → used ≤ most_used → used_after used (cond t (Ok f) (Err Quota)) ≤ most_used
by_room true used f t h = leb-true (used + size_of f) most_used (sym t)
by_room false used f t h = h

quota_within : (used : ℕ) (outcome : Outcome) → used ≤ most_used → used_after used (within_quota used outcome) ≤ most_used
quota_within used (Ok f) h = by_room (nat_le (used + size_of f) most_used) used f refl h
quota_within used (Err refusal) h = h

edit_within : (used : ℕ) (made : Result Listing Refusal) → used ≤ most_used → used_after used (edit_outcome made) ≤ most_used
edit_within used (Ok d) h = omega (arith, h)
edit_within used (Err refusal) h = h

pub used_within : (d : Listing) (own : OwnState) (command : Command) → own.used ≤ most_used → used_after own.used (outcome_of d own command) ≤ most_used
used_within d own (Bad refusal) h = h
used_within d own (IsEdit edit) h = edit_within own.used (edited d edit) h
used_within d own (IsQuery query) h = quota_within own.used (found d query) h
used_within d own (IsShoot shoot) h = quota_within own.used (viewed d own.tiles shoot) h
