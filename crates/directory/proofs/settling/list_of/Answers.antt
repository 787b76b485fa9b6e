use Rattle.std.proofs.Common.{◌≡◌, ◌∷◌, ◌++◌, ◌∙◌, ℕ, [], None, Some, refl, ap, sym, take, add-one, arith}
use Rattle.std.specs.Prelude.{slice_get}
use Rattle.std.specs.Arc.{arc_value}
use Rattle.std.specs.Option.{option_map}
use Rattle.std.proofs.lemmas.Option.{none-some}
use Rattle.object_pages.proofs.EntryLemmas.{take_one_more}
use Rattle.directory.specs.Walks.{Entries, object_of}
use Rattle.directory.proofs.FindLemmas.{some_at}
use Rattle.directory.proofs.WholeLemmas.{copy_fresh}
use Rattle.directory.proofs.settling.list_of.Goals as goal
use Rattle.directory.proofs.settling.list_of.Goals.{in-Some+in_ok-list, in_default}

pub append-requires-clause-absent : goal.append-requires-clause-absent
append-requires-clause-absent c =
    let es : Entries = c.args.objects.now in
    let i : ℕ = c.loop-place.place in
    let at : slice_get es i ≡ Some (c.in-Some.name.now, arc_value c.in-Some.object) = sym c.in_ok-name.ensures ∙ ap (λ r. option_map (λ e. (e.0.now, arc_value e.1)) r) c.in-Some.is in
    ap (λ (l : Entries). object_of l c.in-Some.name.now) c.loop-place.invariant ∙ copy_fresh es (take i es) i c.in-Some.name.now (arc_value c.in-Some.object) c.len-count.ensures.distinct at refl

pub loop-place-preserved : goal.loop-place-preserved
loop-place-preserved c =
    let es : Entries = c.args.objects.now in
    let i : ℕ = c.loop-place.place in
    elim c.match-branch-2.branch [
      | in-Some+in_ok-list w ↦
          let at : slice_get es i ≡ Some (w.in-Some.name.now, arc_value w.in-Some.object) = sym c.in_ok-name.ensures ∙ ap (λ r. option_map (λ e. (e.0.now, arc_value e.1)) r) w.in-Some.is in
          w.list-is ∙ w.in_ok-list.ensures ∙ ap (λ (l : Entries). l ++ (w.in-Some.name.now, arc_value w.in-Some.object) ∷ []) c.loop-place.invariant ∙ sym (rw add-one (take_one_more es i (w.in-Some.name.now, arc_value w.in-Some.object) at))
      | in_default w ↦
          let gone : slice_get es i ≡ None = sym c.in_ok-name.ensures ∙ ap (λ r. option_map (λ e. (e.0.now, arc_value e.1)) r) w.in_default.is in
          let one = some_at es i (omega (arith, c.loop-place-test.true, c.len-count.ensures.value)) in
          absurd (none-some (one.0, one.1) (sym gone ∙ one.2))
    ]
