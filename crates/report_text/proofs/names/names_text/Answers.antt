use Rattle.std.proofs.Common.{◌≡◌, ◌<◌, ◌+◌, ◌∙◌, ◌∷◌, ◌++◌, [], ℕ, List, Some, None, Err, length, ap, sym, subst, arith, rules}
use Rattle.std.specs.List.{slice_get}
use Rattle.name_core.specs.declared.name.Name.{Name}
use Rattle.object_set.specs.Objects.{Parts}
use Rattle.report_text.specs.Names.{name_line, names_lines}
use Rattle.report_text.specs.Texts.{IsText}
use Rattle.report_text.proofs.LineLaws.{there_is, one_more, too_long, refused}
use Rattle.report_text.proofs.names.names_text.Goals as goal
use Rattle.report_text.proofs.names.names_text.Goals.{in-Some+in_ok-left, in_default}

abbrev entry_line : Name × Parts → List ℕ
entry_line e = name_line e.0 e.1

pub returns-in_err-left : goal.returns-in_err-left
returns-in_err-left c =
    let same : c.from_residual.result ≡ Err c.in_err-left.field-0.0 = search rules in
    let there : slice_get c.args.directory.now.objects c.loop-place.place ≡ Some (c.in-Some.name.now, c.in-Some.object.now) = search rules in
    let line : c.bytes.result.now ≡ name_line c.in-Some.name.now c.in-Some.object.now = c.bytes.ensures ∙ c.write_line.ensures.value in
    subst (λ r. IsText r (names_lines c.args.directory.now.objects) c.args.room) (sym same)
    (refused c.in_err-left.field-0.0 (names_lines c.args.directory.now.objects) c.args.room
    (λ e. let short : c.loop-place.left < length c.bytes.result.now + 1 = c.push_line.ensures.room (c.in_err-left.was ∙ ap Err e) in
    too_long entry_line c.args.directory.now.objects c.loop-place.place (c.in-Some.name.now, c.in-Some.object.now) c.loop-place.body c.loop-place.left c.args.room there c.loop-place.invariant.0 c.loop-place.invariant.1
    (omega (arith, short, ap (length {A = ℕ}) line))))

pub loop-place-preserved : goal.loop-place-preserved
loop-place-preserved c =
    elim c.match-at.branch [
      | in-Some+in_ok-left w ↦
          let there : slice_get c.args.directory.now.objects c.loop-place.place ≡ Some (w.in-Some.name.now, w.in-Some.object.now) = search rules in
          let line : w.bytes.result.now ≡ name_line w.in-Some.name.now w.in-Some.object.now = w.bytes.ensures ∙ w.write_line.ensures.value in
          let told = w.in_ok-left.ensures in
          let new : c.match-at.body ≡ c.loop-place.body ++ name_line w.in-Some.name.now w.in-Some.object.now ∷ [] = w.body-is ∙ told.ok.0 ∙ ap (λ (l : List ℕ). c.loop-place.body ++ l ∷ []) line in
          one_more entry_line c.args.directory.now.objects c.loop-place.place (w.in-Some.name.now, w.in-Some.object.now) c.loop-place.body c.match-at.body c.loop-place.left c.match-at.left c.args.room
          there c.loop-place.invariant.0 c.loop-place.invariant.1 new (omega (arith, w.left-is, told.ok.1, ap (length {A = ℕ}) line))
      | in_default w ↦
          let gone : slice_get c.args.directory.now.objects c.loop-place.place ≡ None = search rules in
          absurd (there_is c.args.directory.now.objects c.loop-place.place (omega (arith, c.loop-place-test.true, c.len-place-end.ensures.value)) gone)
    ]
