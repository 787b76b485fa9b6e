use Rattle.std.proofs.Common.{◌≡◌, ◌∙◌, ℕ, suc, List, [], length, get_or, arith, sym}
use Rattle.std.proofs.lemmas.Bool.{ltb-true, ltb-false}
use Rattle.std.proofs.lemmas.List.{get_or_read}
use Rattle.session_run.specs.declared.answer.Answer.{Answer}
use Rattle.mged_top.proofs.PutLaws.{put_one, put_none}
use Rattle.mged_top.proofs.put.put_next.Goals as goal

pub returns-in-Some-clause-put : goal.returns-in-Some-clause-put
returns-in-Some-clause-put g c = λ rest.
    let lists : List (List Answer) = c.args.lists.now in
    let taken : List ℕ = c.args.taken.now in
    let i : ℕ = c.from-place.result in
    let same : c.args.session ≡ suc i = omega (arith, c.from-place.ensures, c.requires.session.0) in
    let items : c.items.result.now ≡ get_or lists i [] = c.items.ensures ∙ get_or_read lists i c.index-lists-place.result (omega (arith, c.requires.eight, same, c.requires.session.1)) c.index-lists-place.is [] in
    put_one c.put_file.result (g.F.Shelf.files c.args.shelf.now) (g.F.Shelf.files c.put_file.new.shelf) (g.F.Shelf.puts c.args.shelf.now) (g.F.Shelf.puts c.put_file.new.shelf) taken lists i c.args.session rest c.items.result.now c.in-Some.answer.now
    same (omega (arith, c.requires.numbers, same, c.requires.session.1)) items (ltb-true (get_or taken i 0) (length c.items.result.now) (sym c.in-Some.ensures.lookup.0)) c.in-Some.ensures.lookup.1
    c.put_file.ensures.grown c.put_file.ensures.files_stay c.put_file.ensures.puts_stay c.put_file.ensures.some

pub returns-in-None-clause-put : goal.returns-in-None-clause-put
returns-in-None-clause-put g c = λ rest.
    let lists : List (List Answer) = c.args.lists.now in
    let taken : List ℕ = c.args.taken.now in
    let i : ℕ = c.from-place.result in
    let same : c.args.session ≡ suc i = omega (arith, c.from-place.ensures, c.requires.session.0) in
    let items : c.items.result.now ≡ get_or lists i [] = c.items.ensures ∙ get_or_read lists i c.index-lists-place.result (omega (arith, c.requires.eight, same, c.requires.session.1)) c.index-lists-place.is [] in
    put_none (g.F.Shelf.files c.args.shelf.now) (g.F.Shelf.puts c.args.shelf.now) taken lists i c.args.session rest c.items.result.now same items (ltb-false (get_or taken i 0) (length c.items.result.now) (sym c.in-None.ensures.lookup.0))
