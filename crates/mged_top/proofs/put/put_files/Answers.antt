use Rattle.std.proofs.Common.{◌≡◌, ◌<◌, ◌+◌, ◌∷◌, ◌∙◌, ℕ, List, Ok, Err, OnErr, drop, get_or, length, subst, arith}
use Rattle.std.proofs.lemmas.List.{drop_more}
use Rattle.mged_top.specs.Outside.{AreCutShort}
use Rattle.mged_top.specs.Stages.{ArePut, files_among, files_left}
use Rattle.mged_top.proofs.PutLaws.{put_more, put_cut}
use Rattle.mged_top.proofs.put.put_files.Goals as goal

pub returns-in_err-put_next-clause-cut_short : goal.returns-in_err-put_next-clause-cut_short
returns-in_err-put_next-clause-cut_short g c =
    let files = g.F.Shelf.files in
    let puts = g.F.Shelf.puts in
    let first = c.args.shelf.now in
    let before = c.loop-session.shelf in
    let last = c.put_next.new.shelf in
    let order : List ℕ = c.args.order.now in
    let i : ℕ = c.loop-session.session-index in
    let rest : List ℕ = drop (i + 1) order in
    let lt : i < length order = omega arith in
    let cut : drop i order ≡ get_or order i 0 ∷ rest = drop_more order i 0 lt in
    let h = subst (λ (o : List ℕ). ArePut (files first) (files before) (puts first) (puts before) (files_among order c.args.lists.now) (files_left o c.loop-session.taken c.args.lists.now)) cut c.loop-session.invariant.put in
    let stopped = c.in_err-put_next.ensures.put rest in
    let all : AreCutShort (files first) (files last) (puts first) (puts last) (files_among order c.args.lists.now) =
    put_cut (files first) (files before) (files last) (puts first) (puts before) (puts last) (files_among order c.args.lists.now) (files_left (get_or order i 0 ∷ rest) c.loop-session.taken c.args.lists.now) h stopped.0 stopped.1 stopped.2 in
    elim c.from_residual.result as (λ r. OnErr r (AreCutShort (files first) (files last) (puts first) (puts last) (files_among order c.args.lists.now))) [
      | Ok done ↦ tt
      | Err fault ↦ all
    ]

pub loop-session-preserved : goal.loop-session-preserved
loop-session-preserved g c =
    let files = g.F.Shelf.files in
    let puts = g.F.Shelf.puts in
    let first = c.args.shelf.now in
    let before = c.loop-session.shelf in
    let last = c.put_next.new.shelf in
    let order : List ℕ = c.args.order.now in
    let i : ℕ = c.loop-session.session-index in
    let rest : List ℕ = drop (i + 1) order in
    let lt : i < length order = omega arith in
    let cut : drop i order ≡ get_or order i 0 ∷ rest = drop_more order i 0 lt in
    let h = subst (λ (o : List ℕ). ArePut (files first) (files before) (puts first) (puts before) (files_among order c.args.lists.now) (files_left o c.loop-session.taken c.args.lists.now)) cut c.loop-session.invariant.put in
    record {
      numbers = c.in_ok-put_next.ensures.numbers;
      put = put_more (files first) (files before) (files last) (puts first) (puts before) (puts last) (files_among order c.args.lists.now)
          (files_left (get_or order i 0 ∷ rest) c.loop-session.taken c.args.lists.now) (files_left rest c.put_next.new.taken c.args.lists.now) h (c.in_ok-put_next.ensures.put rest);
      steady = c.in_ok-put_next.ensures.steady (λ e. absurd cc) ∙ c.loop-session.invariant.steady;
    }
