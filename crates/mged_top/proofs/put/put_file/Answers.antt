use Rattle.std.proofs.Common.{◌≡◌, ◌∙◌, ◌∷◌, [], ℕ, List, Option, OnOk, ap, sym, subst}
use Rattle.outside_core.specs.Files.{SetsFile}
use Rattle.outside_core.specs.Told.{Grows}
use Rattle.outside_core.specs.declared.traits.File.{File}
use Rattle.transcript.specs.Run.{Accepted, file_in}
use Rattle.session_run.specs.Replies.{Outcome, shown}
use Rattle.mged_top.specs.Outside.{HasGrown}
use Rattle.mged_top.proofs.ShelfLaws.{grown_one}
use Rattle.mged_top.proofs.put.put_file.Goals as goal

pub returns-in-Some-clause-grown : goal.returns-in-Some-clause-grown
returns-in-Some-clause-grown g c =
    let files = g.F.Shelf.files c.args.shelf.now in
    let files' = g.F.Shelf.files c.put.new.self in
    let puts = g.F.Shelf.puts c.args.shelf.now in
    let puts' = g.F.Shelf.puts c.put.new.self in
    let file : File = c.in-Some.file in
    let whole : List File → Type 0 = λ fs. OnOk c.put.result (HasGrown files files' puts puts' fs) in
    let answered : file_in (shown c.args.answer.now.outcome) ≡ file ∷ [] =
    ap (λ (o : Outcome). file_in (shown o)) c.in-Ok.is ∙ ap (λ (f : Option File). file_in (Accepted c.in-Ok.found.body f)) c.in-Some.is in
    let set = subst (λ (bytes : List ℕ). OnOk c.put.result (SetsFile files files' file.name bytes)) c.items.ensures c.put.ensures.set in
    let grows = subst (λ (bytes : List ℕ). OnOk c.put.result (Grows puts puts' (record { name = file.name; bytes = bytes }))) c.items.ensures c.put.ensures.added in
    subst whole (sym answered) (grown_one c.put.result files files' puts puts' file set grows)
