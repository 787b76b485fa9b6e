-- The answer to a shot tells what lies at the points of its ray.
use Rattle.std.proofs.Common.{◌≡◌, ◌≢◌, arith, ◌∙◌, ap, ap₂, sym, subst, ℕ, ◌+◌, Bool, true, false, cond, nat_le, List, Option, Some, None, Ok, Err, codes, refl}
use Rattle.std.proofs.lemmas.Int.{ints}
use Rattle.name_core.specs.declared.name.Name.{Name}
use Rattle.lattice_core.specs.declared.ray.Ray.{Ray}
use Rattle.outside_core.specs.declared.traits.File.{File}
use Rattle.transcript.specs.Run.{Answer, Book, Marked, Reply, Accepted, Refused, answer_of}
use Rattle.command_set.specs.declared.command.Command.{Command}
use Rattle.command_set.specs.declared.command.Command.TheVariants.{Bad, Edit as IsEdit, Query as IsQuery, Shoot as IsShoot}
use Rattle.command_set.specs.declared.command.Query.{Query}
use Rattle.command_set.specs.declared.command.Query.TheVariants as queries
use Rattle.command_set.specs.declared.refusal.Refusal.{Refusal}
use Rattle.command_set.specs.declared.refusal.Refusal.TheVariants.{Quota}
use Rattle.directory.specs.Listing.{Listing}
use Rattle.directory.specs.Walks.{Entries}
use Rattle.shot_core.specs.Shots.{lit_of}
use Rattle.scene_prep.specs.declared.fault.PrepFault.{PrepFault}
use Rattle.scene_prep.specs.Outcomes.{prep_fault}
use Rattle.scene_prep.specs.Scenes.{scene_of}
use Rattle.scene_prep.proofs.Pointing.{partitions_tell_points, scene_leaves}
use Rattle.scene_prep.proofs.Scening.{scene_rising}
use Rattle.lattice_core.specs.declared.limit.TheConstants.{FAR}
use Rattle.lattice_core.specs.declared.vector.V3.{V3}
use Rattle.lattice_core.specs.Units.{unit_of}
use Rattle.lattice_core.specs.Vectors.{zero_vector}
use Rattle.shot_core.specs.Regions.{Region}
use Rattle.slant_ray.specs.declared.ray.SlantRay.{SlantRay}
use Rattle.slant_ray.specs.Rays.{direction_of}
use Rattle.oblique_ray.specs.Shots.{slabs_on}
use Rattle.oblique_ray.proofs.SlabTruth.{true_of_slant}
use Rattle.oblique_ray.proofs.Runs.{has_length}
use Rattle.oblique_ray.proofs.ShotAxes.{partitions_along_axes}
use Rattle.report_text.specs.Slants.{slant_lines}
use Rattle.report_text.proofs.SlantLaws.{same_lines}
use Rattle.session_run.specs.declared.answer.Found.{Found}
use Rattle.session_run.specs.Own.{OwnState}
use Rattle.session_run.specs.Sessions.{book_at}
use Rattle.session_run.specs.Points.{IsTrueShot, IsTrueSlant, IsTrueOfQuery, IsTrueReply, ShotsAreTrue, SlantsAlongAxes}
use Rattle.session_run.specs.Replies.{core_rules, most_used, size_of, within_quota, found_unless, lines_alone, lines_of_scene, lines_of_slant, found, outcome_of, shown}

pub true_shot : (objects : Entries) (ray : Ray) (names : List Name) → IsTrueShot objects ray names (lines_of_scene (scene_of objects names) ray)
true_shot objects ray names = record { lit = lit_of (scene_of objects names) ray; lines_are = refl; points = partitions_tell_points objects names ray }

-- what is left of a body where there is room for it is the body
roomy : (objects : Entries) (query : Query) (found : Found) → IsTrueOfQuery objects query found.body → (room : Bool) (refusal : Refusal) → IsTrueReply objects (IsQuery query) (shown (cond room (Ok found) (Err refusal)))
roomy objects query found h true refusal = h
roomy objects query found h false refusal = tt

shot_true : (objects : Entries) (ray : Ray) (names : List Name) (used : ℕ) (fault : Option PrepFault)
    → IsTrueReply objects (IsQuery (queries.Shot ray names)) (shown (within_quota used (found_unless fault (lines_alone (lines_of_scene (scene_of objects names) ray)))))
shot_true objects ray names used None =
    roomy objects (queries.Shot ray names) (lines_alone (lines_of_scene (scene_of objects names) ray)) (true_shot objects ray names)
    (nat_le (used + size_of (lines_alone (lines_of_scene (scene_of objects names) ray))) most_used) Quota
shot_true objects ray names used (Some fault) = tt

pub true_slant : (objects : Entries) (ray : SlantRay) (names : List Name) → (direction_of ray ≢ zero_vector) → IsTrueSlant objects ray names (lines_of_slant (scene_of objects names) ray)
true_slant objects ray names some = record {
  slabs = slabs_on (scene_of objects names) ray.origin (direction_of ray);
  lines_are = refl;
  points = true_of_slant FAR (scene_of objects names) ray.origin (direction_of ray) (omega (arith, ints)) (has_length (direction_of ray) some) (scene_rising objects names) (scene_leaves objects names);
}

slant_true : (objects : Entries) (ray : SlantRay) (names : List Name) (used : ℕ) (fault : Option PrepFault)
    → IsTrueReply objects (IsQuery (queries.Slant ray names)) (shown (within_quota used (found_unless fault (lines_alone (lines_of_slant (scene_of objects names) ray)))))
slant_true objects ray names used None =
    roomy objects (queries.Slant ray names) (lines_alone (lines_of_slant (scene_of objects names) ray)) (true_slant objects ray names)
    (nat_le (used + size_of (lines_alone (lines_of_slant (scene_of objects names) ray))) most_used) Quota
slant_true objects ray names used (Some fault) = tt

other : (objects : Entries) (query : Query) (reply : Reply File) → ((lines : List (List ℕ)) → IsTrueOfQuery objects query lines) → IsTrueReply objects (IsQuery query) reply
other objects query (Accepted lines file) h = h lines
other objects query (Refused text) h = tt

found_true : (d : Listing) (own : OwnState) (query : Query) → IsTrueReply d.objects (IsQuery query) (shown (outcome_of d own (IsQuery query)))
found_true d own (queries.List names) = other d.objects (queries.List names) (shown (outcome_of d own (IsQuery (queries.List names)))) (λ lines. tt)
found_true d own queries.Names = other d.objects queries.Names (shown (outcome_of d own (IsQuery queries.Names))) (λ lines. tt)
found_true d own (queries.Tree names) = other d.objects (queries.Tree names) (shown (outcome_of d own (IsQuery (queries.Tree names)))) (λ lines. tt)
found_true d own (queries.Save file) = other d.objects (queries.Save file) (shown (outcome_of d own (IsQuery (queries.Save file)))) (λ lines. tt)
found_true d own (queries.Shot ray names) = shot_true d.objects ray names own.used (prep_fault d.objects names)
found_true d own (queries.Slant ray names) = slant_true d.objects ray names own.used (prep_fault d.objects names)

marked_true : (book : Book Listing) (own : OwnState) (command : Command) (memory : Bool) → IsTrueReply book.directory.objects command (cond memory (Refused (codes "memory")) (core_rules.reply book.directory own command))
marked_true book own (Bad refusal) memory = tt
marked_true book own (IsEdit edit) memory = tt
marked_true book own (IsShoot shoot) memory = tt
marked_true book own (IsQuery query) true = tt
marked_true book own (IsQuery query) false = found_true book.directory own query

pub shots_are_true : ShotsAreTrue
shots_are_true book own m = marked_true book own m.command m.memory

-- also where the directory is that of some version
pub answered_true : (d : Listing) (version : ℕ) (own : OwnState) (m : Marked Command) (answer : Answer File) → answer ≡ answer_of core_rules (book_at d version) own m → IsTrueReply d.objects m.command answer.reply
answered_true d version own m answer e = subst (λ (a : Answer File). IsTrueReply d.objects m.command a.reply) (sym e) (shots_are_true (book_at d version) own m)

same_slant : (scene : List Region) (slant : SlantRay) (ray : Ray) → slant.origin ≡ ray.origin → direction_of slant ≡ unit_of ray.dir → lines_of_slant scene slant ≡ lines_of_scene scene ray
same_slant scene slant ray at along =
    ap₂ (λ (o e : V3). slant_lines scene (slabs_on scene o e)) at along
    ∙ ap (slant_lines scene) (partitions_along_axes scene ray)
    ∙ same_lines scene (lit_of scene ray)

pub slants_along_axes : SlantsAlongAxes
slants_along_axes d slant ray names at along =
    ap (λ (lines : List (List ℕ)). found_unless (prep_fault d.objects names) (lines_alone lines)) (same_slant (scene_of d.objects names) slant ray at along)
