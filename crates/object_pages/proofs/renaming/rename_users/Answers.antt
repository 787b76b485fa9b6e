use Rattle.std.proofs.Common.{◌≡◌, [], ◌≢◌, ◌∙◌, ◌<◌, ◌+◌, ℕ, List, ap, sym, subst, rules, arith, take, length, Some, inl, inr}
use Rattle.std.specs.Prelude.{slice_get, unwrap_or}
use Rattle.std.specs.Option.{option_copied}
use Rattle.shared_pages.specs.Pages.{page_of}
use Rattle.object_pages.specs.Entries.{Entries, object_of}
use Rattle.object_pages.specs.Tallies.{Pages, count_on}
use Rattle.object_pages.proofs.RenamingLemmas.{AreRenamed, page_there, not_met, passed_next, renamed_next}
use Rattle.object_pages.proofs.TallyLemmas.{count_at, no_place}
use Rattle.object_pages.proofs.renaming.rename_users.Goals as goal
use Rattle.object_pages.proofs.renaming.rename_users.Goals.{in-Some-at+then-number-own+then-leaves-gt0+in_ok-renamed, in-Some-at+else-number-own, else-number-own-via-then-number-own+else-leaves-gt0, else-number-own-via-else-number-own, in_default-at}

pub rename_page-requires-clause-there : goal.rename_page-requires-clause-there
rename_page-requires-clause-there c =
    let counts : List (ℕ × ℕ) = c.in-Some.tally.now in
    let m : ℕ = c.in-Some-at.number in
    let v : ℕ = c.in-Some-at.leaves in
    let at : slice_get counts c.loop-place.place ≡ Some (m, v) = sym c.in-Some-at.ensures in
    let is : count_on counts m ≡ v = count_at counts c.loop-place.place m v c.len-place-end.ensures.distinct at in
    let same = not_met c.args.old.now c.args.new.now c.args.own counts c.loop-place.place m v c.args.pages c.loop-place.renamed at c.len-place-end.ensures.distinct c.loop-place.invariant in
    let from = ap (λ u. count_on (unwrap_or (option_copied u) []) m) c.in-Some.is in
    let some : 0 < length (page_of c.args.pages m) = c.requires.there m (omega (arith, from, is, c.if-leaves-gt0.true)) in
    page_there c.loop-place.renamed m (omega (arith, some, ap (λ (es : Entries). length es) same))

pub rename_page-requires-clause-absent : goal.rename_page-requires-clause-absent
rename_page-requires-clause-absent c =
    let counts : List (ℕ × ℕ) = c.in-Some.tally.now in
    let m : ℕ = c.in-Some-at.number in
    let at : slice_get counts c.loop-place.place ≡ Some (m, c.in-Some-at.leaves) = sym c.in-Some-at.ensures in
    let apart : c.args.own ≢ m = search rules in
    ap (λ (es : Entries). object_of es c.args.new.now) (not_met c.args.old.now c.args.new.now c.args.own counts c.loop-place.place m c.in-Some-at.leaves c.args.pages c.loop-place.renamed at c.len-place-end.ensures.distinct c.loop-place.invariant)
    ∙ c.requires.absent m apart

pub loop-place-preserved : goal.loop-place-preserved
loop-place-preserved c =
    let counts : List (ℕ × ℕ) = c.in-Some.tally.now in
    let i : ℕ = c.loop-place.place in
    let Are : Pages → Type 0 = λ new. AreRenamed c.args.old.now c.args.new.now c.args.own (take (i + 1) counts) c.args.pages new in
    elim c.match-at.branch [
      | in-Some-at+then-number-own+then-leaves-gt0+in_ok-renamed w ↦
          let m : ℕ = w.in-Some-at.number in
          let v : ℕ = w.in-Some-at.leaves in
          let at : slice_get counts i ≡ Some (m, v) = sym w.in-Some-at.ensures in
          let is : count_on counts m ≡ v = count_at counts i m v c.len-place-end.ensures.distinct at in
          let apart : m ≢ c.args.own = search rules in
          let some : 0 < count_on counts m = omega (arith, is, w.if-leaves-gt0.true) in
          subst Are (sym w.renamed-is)
          (renamed_next c.args.old.now c.args.new.now c.args.own counts i m v c.args.pages c.loop-place.renamed w.in_ok-renamed.renamed at c.len-place-end.ensures.distinct apart some c.loop-place.invariant w.in_ok-renamed.ensures)
      | in-Some-at+else-number-own w ↦
          let m : ℕ = w.in-Some-at.number in
          let v : ℕ = w.in-Some-at.leaves in
          let at : slice_get counts i ≡ Some (m, v) = sym w.in-Some-at.ensures in
          let is : count_on counts m ≡ v = count_at counts i m v c.len-place-end.ensures.distinct at in
          subst Are (sym w.renamed-is)
          (passed_next c.args.old.now c.args.new.now c.args.own counts i m v c.args.pages c.loop-place.renamed at c.len-place-end.ensures.distinct
          (elim w.else-number-own.branch [
            | else-number-own-via-then-number-own+else-leaves-gt0 u ↦ let none : count_on counts m ≡ 0 = omega (arith, is, u.if-leaves-gt0.false) in inr none
            | else-number-own-via-else-number-own u ↦ let same : m ≡ c.args.own = search rules in inl same
          ]) c.loop-place.invariant)
      | in_default-at w ↦
          let within : i < length counts = search rules in
          absurd (no_place counts i (sym w.in_default-at.ensures) within)
    ]
