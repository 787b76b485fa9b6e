-- Replies stand on lines of their own, and none says memory.
use Rattle.std.proofs.Common.{◌≡◌, ◌≤◌, ◌+◌, ◌^◌, ◌<◌, ℕ, Bool, true, false, not, nat_le, nat_lt, cond, List, Option, Some, None, is_some, is_none, Ok, Err, length, bytes_eq, codes, refl, arith}
use Rattle.std.specs.List.{AllByRecursion}
use Rattle.std.specs.Option.{option_map, option_or}
use Rattle.std.proofs.lemmas.Bool.{leb-true}
use Rattle.transcript.specs.Lines.{Lacks}
use Rattle.transcript.proofs.LineLaws.{lacks_append}
use Rattle.transcript.proofs.Printable.{says_memory, IsPrintableReply}
use Rattle.transcript.proofs.Readable.{KeepsLines, IfSomeKeeps}
use Rattle.transcript.proofs.TranscriptLaws.{computed}
use Rattle.name_core.specs.declared.name.Name.{Name}
use Rattle.scene_prep.specs.declared.fault.PrepFault.{PrepFault}
use Rattle.scene_prep.specs.declared.fault.PrepFault.TheVariants as prep
use Rattle.scene_prep.specs.declared.fault.PrepFault.TheVariants.{TooMany}
use Rattle.scene_prep.specs.Outcomes.{first_missing, too_many, prep_fault}
use Rattle.scene_prep.specs.Scenes.{scene_of}
use Rattle.scene_prep.specs.Sizes.{names_size, most_size, told_size}
use Rattle.command_set.specs.Refusals.{refusal_text}
use Rattle.command_set.specs.declared.command.Command.{Command}
use Rattle.command_set.specs.declared.command.Command.TheVariants.{Bad, Edit as IsEdit, Query as IsQuery, Shoot as IsShoot}
use Rattle.command_set.specs.declared.command.Query.{Query}
use Rattle.command_set.specs.declared.command.Query.TheVariants as queries
use Rattle.command_set.specs.declared.command.Shoot.{Shoot}
use Rattle.command_set.specs.declared.command.Shoot.TheVariants.{Picture, Check, Area, Edge}
use Rattle.command_set.specs.declared.refusal.Refusal.{Refusal}
use Rattle.command_set.specs.declared.refusal.Refusal.TheVariants.{Quota}
use Rattle.directory.specs.Listing.{Listing}
use Rattle.directory.specs.Walks.{Entries, object_of}
use Rattle.edit_core.specs.Edits.{made}
use Rattle.edit_core.specs.Refused.{refusal_of, unless}
use Rattle.mged_words.specs.Readable.{IsPlain, IsPlainRefusal, IsPlainQuery, IsPlainShoot, ArePlain}
use Rattle.report_text.specs.Listings.{listings, written_lines}
use Rattle.session_run.specs.declared.answer.Found.{Found}
use Rattle.tile_shot.specs.Named.{TileName}
use Rattle.view_shot.specs.Kept.{reused, shot, tile_names}
use Rattle.session_run.specs.Own.{OwnState}
use Rattle.session_run.specs.Replies.{first_missing as first_absent, lines_unless_missing, Outcome, core_rules, most_used, size_of, within_quota, found_unless, lines_alone, lines_of_areas, lines_of_scene, lines_of_slant, edged, pictured, lines_of_check, viewed, found, edit_outcome, outcome_of, directory_made, shown}
use Rattle.session_run.proofs.EditLaws.{MayBePlain, IsPlainName, IsPlainListing, find_plain, plain_names, plain_missing, plain_instances, refusal_plain, edit_keeps, names_plain, lines_few}
use Rattle.session_run.proofs.ListingLaws.{written_plain, listings_plain}
use Rattle.session_run.proofs.ShotLaws.{areas_plain, shot_plain, slant_plain, check_plain}
use Rattle.session_run.proofs.PictureLaws.{picture_plain}
use Rattle.session_run.proofs.PresentLaws.{edge_plain}
use Rattle.area_tool.specs.Presented.{presented_in}
use Rattle.edge_tool.specs.Edges.{edge_count}

abbrev pub Any_own : OwnState → Type 0
Any_own own = Unit {0}

-- replies stand on lines of their own
edited_fits : (d : Listing) (c : Command) → IsPlainListing d → IsPlain c → IfSomeKeeps IsPlainListing (directory_made d c)
edited_fits d (Bad refusal) h k = tt
edited_fits d (IsEdit edit) h k = edit_keeps d edit h k
edited_fits d (IsQuery query) h k = tt
edited_fits d (IsShoot shoot) h k = tt

-- an outcome whose lines have no line feed
abbrev IsPlainOutcome : Outcome → Type 0
IsPlainOutcome (Ok found) = AllByRecursion (Lacks 10) found.body
IsPlainOutcome (Err refusal) = IsPlainRefusal refusal

edit_fits : (d : Listing) (refusal : Option Refusal) (made : Listing) → MayBePlain refusal → IsPrintableReply (shown (edit_outcome (unless refusal made)))
edit_fits d None made h = (tt, omega arith)
edit_fits d (Some refusal) made h = h.one_line

plain_quota : IsPlainRefusal Quota
plain_quota = record { one_line = computed 10 (codes "quota") refl; other = refl }

fit_by : (t : Bool) (found : Found) → AllByRecursion (Lacks 10) found.body → (t ≡ true → length found.body < 2 ^ 64) → IsPrintableReply (shown (cond t (Ok found) (Err Quota)))
fit_by true found h few = (h, few refl)
fit_by false found h few = plain_quota.one_line

within_fits : (used : ℕ) (outcome : Outcome) → IsPlainOutcome outcome → IsPrintableReply (shown (within_quota used outcome))
within_fits used (Ok found) h =
    fit_by (nat_le (used + size_of found) most_used) found h
    (λ e. let small : used + size_of found ≤ 67108864 = leb-true (used + size_of found) 67108864 e in omega (arith, small, lines_few found.body))
within_fits used (Err refusal) h = h.one_line

missing_plain : (missing : Option Name) (size : Option PrepFault) (found : Found) → IsPlainName missing → IsPlainOutcome (found_unless size found) → IsPlainOutcome (found_unless (option_or (option_map prep.Missing missing) size) found)
missing_plain None size found h k = k
missing_plain (Some name) size found h k = plain_missing name h

size_plain : (t : Bool) (size : ℕ) (found : Found) → AllByRecursion (Lacks 10) found.body → IsPlainOutcome (found_unless (cond t (Some (TooMany size)) None) found)
size_plain true size found h = plain_instances size
size_plain false size found h = h

-- what is found of the scene of names
scene_fits : (es : Entries) (names : List Name) (found : Found) → ArePlain names → AllByRecursion (Lacks 10) found.body → IsPlainOutcome (found_unless (prep_fault es names) found)
scene_fits es names found k h =
    missing_plain (first_missing es names) (too_many es names) found (find_plain (λ name. not (is_some (object_of es name))) names k)
    (size_plain (nat_lt most_size (names_size es names)) (told_size (names_size es names)) found h)

viewed_plain : (d : Listing) (kept : List TileName) (shoot : Shoot) → IsPlainListing d → IsPlainShoot shoot → IsPlainOutcome (viewed d kept shoot)
viewed_plain d kept (Picture file view names) h k =
    let tiles : List TileName = tile_names (scene_of d.objects names) view in
    scene_fits d.objects names (pictured kept (scene_of d.objects names) file view) k.1.one_line (picture_plain file view (length (shot kept tiles)) (length (reused kept tiles)) k.0, tt)
viewed_plain d kept (Check view names) h k = scene_fits d.objects names (lines_alone (lines_of_check (scene_of d.objects names) view)) k.one_line (check_plain d.objects names view (plain_names d.objects h))
viewed_plain d kept (Area view names) h k = scene_fits d.objects names (lines_alone (lines_of_areas (scene_of d.objects names) view)) k.one_line (areas_plain d.objects names view (plain_names d.objects h))
viewed_plain d kept (Edge file view names) h k =
    scene_fits d.objects names (edged (scene_of d.objects names) file view) k.1.one_line (edge_plain file view (edge_count view (presented_in (scene_of d.objects names) view)) k.0, tt)

all_there_plain : (missing : Option Name) (lines : List (List ℕ)) → IsPlainName missing → AllByRecursion (Lacks 10) lines → IsPlainOutcome (lines_unless_missing missing lines)
all_there_plain None lines h k = k
all_there_plain (Some name) lines h k = plain_missing name h

found_plain : (d : Listing) (query : Query) → IsPlainListing d → IsPlainQuery query → IsPlainOutcome (found d query)
found_plain d (queries.List names) h k = all_there_plain (first_absent d.objects names) (written_lines d.objects names) (find_plain (λ name. is_none (object_of d.objects name)) names k) (written_plain d.objects names h k)
found_plain d queries.Names h k = names_plain d.objects (plain_names d.objects h)
found_plain d (queries.Tree names) h k = all_there_plain (first_absent d.objects names) (listings d.objects names) (find_plain (λ name. is_none (object_of d.objects name)) names k) (listings_plain d.objects names h k)
found_plain d (queries.Save file) h k = (lacks_append 10 (codes "saved ") file (computed 10 (codes "saved ") refl) k, tt)
found_plain d (queries.Shot ray names) h k = scene_fits d.objects names (lines_alone (lines_of_scene (scene_of d.objects names) ray)) k.one_line (shot_plain d.objects names ray (plain_names d.objects h))
found_plain d (queries.Slant ray names) h k = scene_fits d.objects names (lines_alone (lines_of_slant (scene_of d.objects names) ray)) k.one_line (slant_plain d.objects names ray (plain_names d.objects h))

reply_fits : (d : Listing) (own : OwnState) (c : Command) → IsPlainListing d → Any_own own → IsPlain c → IsPrintableReply (shown (outcome_of d own c))
reply_fits d own (Bad refusal) h q k = k.one_line
reply_fits d own (IsEdit edit) h q k = edit_fits d (refusal_of d edit) (made d edit) (refusal_plain d edit k)
reply_fits d own (IsQuery query) h q k = within_fits own.used (found d query) (found_plain d query h k)
reply_fits d own (IsShoot shoot) h q k = within_fits own.used (viewed d own.tiles shoot) (viewed_plain d own.tiles shoot h k)

-- none of them says memory
edit_tells : (refusal : Option Refusal) (made : Listing) → MayBePlain refusal → says_memory (shown (edit_outcome (unless refusal made))) ≡ false
edit_tells None made h = refl
edit_tells (Some refusal) made h = h.other

tells_by : (t : Bool) (found : Found) → says_memory (shown (cond t (Ok found) (Err Quota))) ≡ false
tells_by true found = refl
tells_by false found = refl

abbrev Tells : Outcome → Type 0
Tells (Ok found) = Unit {0}
Tells (Err refusal) = bytes_eq (refusal_text refusal) (codes "memory") ≡ false

within_tells : (used : ℕ) (outcome : Outcome) → Tells outcome → says_memory (shown (within_quota used outcome)) ≡ false
within_tells used (Ok found) h = tells_by (nat_le (used + size_of found) most_used) found
within_tells used (Err refusal) h = h

missing_tells : (missing : Option Name) (size : Option PrepFault) (found : Found) → Tells (found_unless size found) → Tells (found_unless (option_or (option_map prep.Missing missing) size) found)
missing_tells None size found k = k
missing_tells (Some name) size found k = refl

size_tells : (t : Bool) (size : ℕ) (found : Found) → Tells (found_unless (cond t (Some (TooMany size)) None) found)
size_tells true size found = refl
size_tells false size found = tt

scene_tells : (es : Entries) (names : List Name) (found : Found) → Tells (found_unless (prep_fault es names) found)
scene_tells es names found = missing_tells (first_missing es names) (too_many es names) found (size_tells (nat_lt most_size (names_size es names)) (told_size (names_size es names)) found)

viewed_tells : (d : Listing) (kept : List TileName) (shoot : Shoot) → Tells (viewed d kept shoot)
viewed_tells d kept (Picture file view names) = scene_tells d.objects names (pictured kept (scene_of d.objects names) file view)
viewed_tells d kept (Check view names) = scene_tells d.objects names (lines_alone (lines_of_check (scene_of d.objects names) view))
viewed_tells d kept (Area view names) = scene_tells d.objects names (lines_alone (lines_of_areas (scene_of d.objects names) view))
viewed_tells d kept (Edge file view names) = scene_tells d.objects names (edged (scene_of d.objects names) file view)

all_there_tell : (missing : Option Name) (lines : List (List ℕ)) → Tells (lines_unless_missing missing lines)
all_there_tell None lines = tt
all_there_tell (Some name) lines = refl

found_tells : (d : Listing) (query : Query) → Tells (found d query)
found_tells d (queries.List names) = all_there_tell (first_absent d.objects names) (written_lines d.objects names)
found_tells d queries.Names = tt
found_tells d (queries.Tree names) = all_there_tell (first_absent d.objects names) (listings d.objects names)
found_tells d (queries.Save file) = tt
found_tells d (queries.Shot ray names) = scene_tells d.objects names (lines_alone (lines_of_scene (scene_of d.objects names) ray))
found_tells d (queries.Slant ray names) = scene_tells d.objects names (lines_alone (lines_of_slant (scene_of d.objects names) ray))

reply_tells : (d : Listing) (own : OwnState) (c : Command) → IsPlain c → says_memory (shown (outcome_of d own c)) ≡ false
reply_tells d own (Bad refusal) k = k.other
reply_tells d own (IsEdit edit) k = edit_tells (refusal_of d edit) (made d edit) (refusal_plain d edit k)
reply_tells d own (IsQuery query) k = within_tells own.used (found d query) (found_tells d query)
reply_tells d own (IsShoot shoot) k = within_tells own.used (viewed d own.tiles shoot) (viewed_tells d own.tiles shoot)

pub keeps : KeepsLines core_rules IsPlainListing Any_own IsPlain
keeps = record { edited = edited_fits; kept = λ d own c h q k. tt; forgotten = λ own c q k. tt; reply = reply_fits; tells = reply_tells }
