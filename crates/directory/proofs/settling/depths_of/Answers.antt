use Rattle.std.proofs.Common.{◌≡◌, ◌<◌, ◌+◌, ◌∙◌, ℕ, None, Some, length, rules, arith, subst, sym}
use Rattle.std.specs.Prelude.{slice_get, slice_index}
use Rattle.std.proofs.lemmas.Option.{none-some}
use Rattle.shared_pages.specs.Buckets.{Shelves}
use Rattle.directory.specs.Walks.{Entries, depth_within, unbounded}
use Rattle.directory.proofs.FindLemmas.{some_at, known_length}
use Rattle.directory.proofs.SettleLemmas.{HaveDepths, known_at, depths_next, depths_skip}
use Rattle.directory.proofs.settling.depths_of.Goals as goal
use Rattle.directory.proofs.settling.depths_of.Goals.{in-Some+then-depths-place-gt0+in_ok-levels, in-Some+else-depths-place-gt0, in_default}

pub loop-place-preserved : goal.loop-place-preserved
loop-place-preserved c =
    let es : Entries = c.args.objects.now in
    let i : ℕ = c.loop-place.place in
    elim c.match-at.branch [
      | in-Some+then-depths-place-gt0+in_ok-levels w ↦
          let at : slice_get es i ≡ Some (w.in-Some.name.now, w.in-Some._object.now) = search rules in
          let depth : slice_index c.args.depths.now i ≡ depth_within unbounded es w.in-Some.name.now = known_at es c.args.depths.now i w.in-Some.name.now w.in-Some._object.now c.requires at in
          subst (λ (l : Shelves ℕ). HaveDepths es (i + 1) l) (sym w.levels-is)
          (depths_next es c.loop-place.levels w.in_ok-levels.levels i w.in-Some.name.now w.in-Some._object.now (slice_index c.args.depths.now i) c.len-count.ensures.distinct at depth c.loop-place.invariant w.in_ok-levels.ensures)
      | in-Some+else-depths-place-gt0 w ↦
          let at : slice_get es i ≡ Some (w.in-Some.name.now, w.in-Some._object.now) = search rules in
          let depth : slice_index c.args.depths.now i ≡ depth_within unbounded es w.in-Some.name.now = known_at es c.args.depths.now i w.in-Some.name.now w.in-Some._object.now c.requires at in
          let none : slice_index c.args.depths.now i ≡ 0 = omega (arith, w.if-depths-place-gt0.false) in
          subst (λ (l : Shelves ℕ). HaveDepths es (i + 1) l) (sym w.levels-is)
          (depths_skip es c.loop-place.levels i w.in-Some.name.now w.in-Some._object.now (slice_index c.args.depths.now i) c.len-count.ensures.distinct at depth none c.loop-place.invariant)
      | in_default w ↦
          let gone : slice_get es i ≡ None = search rules in
          let lt : i < length es = omega (arith, c.loop-place-test.true, known_length es c.args.depths.now c.requires) in
          let one = some_at es i lt in
          absurd (none-some (one.0, one.1) (sym gone ∙ one.2))
    ]
