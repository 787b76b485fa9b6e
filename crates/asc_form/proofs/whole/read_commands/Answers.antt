use Rattle.std.proofs.Common.{◌≡◌, ◌<◌, ◌≤◌, ◌+◌, ◌-◌, ◌∙◌, ℕ, List, Some, None, Result, Err, [], rules, length, take, drop, length-drop, arith, ap, sym, subst}
use Rattle.std.proofs.lemmas.List.{length-take-le}
use Rattle.directory.specs.Listing.{Listing}
use Rattle.asc_form.specs.Commands.{end_of, line_after, pieces_of, pieces_within}
use Rattle.asc_form.specs.Progress.{Progress, HasRead, IsRead}
use Rattle.asc_form.specs.Reading.{made_by, made_from, made_of, directory_of}
use Rattle.asc_form.specs.declared.fault.AscFault.{AscFault}
use Rattle.asc_form.proofs.ProgressLaws.{fails, goes_on, last_read, read_by, read_nothing}
use Rattle.asc_form.proofs.ReadLaws.{cut_on, cut_last}
use Rattle.asc_form.proofs.whole.read_commands.Goals as goal

pub loop-end-init : goal.loop-end-init
loop-end-init c = record {
  short = omega arith;
  lines = omega arith;
  made = (length c.args.text.now + 1, omega arith, subst (λ (p : Progress). HasRead (directory_of c.args.text.now) (made_of (pieces_of c.args.text.now)) p) (sym c.requires.new) (read_nothing c.args.text.now));
}

pub loop-end-preserved : goal.loop-end-preserved
loop-end-preserved c =
    let text : List ℕ = c.args.text.now in
    let rest : List ℕ = c.loop-end.rest.now in
    let end : ℕ = c.in-Some.end in
    let new : Progress = c.apply_at.new.reader in
    let h = c.loop-end.invariant in
    let ends : end_of rest ≡ Some end = sym c.in-Some.ensures.end in
    let cut = cut_on h.made.0 c.loop-end.line rest end ends h.made.1 in
    let within : end < length rest = c.in-Some.ensures.within in
    let left : length c.text_from-rest.result.now ≡ length rest - (end + 1) = ap length c.text_from-rest.ensures ∙ length-drop {A = ℕ} (end + 1) rest in
    let few : c.line_feeds.result ≤ end = omega (arith, c.line_feeds.ensures.few, length-take-le end rest (omega (arith, within))) in
    let after : c.loop-end.line + (1 + c.line_feeds.result) ≡ line_after c.loop-end.line rest end = omega (arith, c.line_feeds.ensures.value) in
    let others : Listing → Result Listing AscFault = made_of (pieces_within cut.0 (line_after c.loop-end.line rest end) (drop (end + 1) rest)) in
    let next : HasRead (directory_of text) others new = goes_on (directory_of text) others c.loop-end.line (take end rest) c.loop-end.reader new
    (read_by (directory_of text) _ (λ d. made_from others c.loop-end.line (made_by d (take end rest))) c.loop-end.reader cut.2 h.made.2) c.in_ok-apply_at.ensures in
    record {
      short = omega (arith, left, within, h.short);
      lines = omega (arith, left, within, few, h.lines);
      made = (
        cut.0,
        omega (arith, left, within, cut.1),
        read_by (directory_of text) others _ new
            (λ d. sym (ap (λ (xs : List ℕ). made_of (pieces_within cut.0 (c.loop-end.line + (1 + c.line_feeds.result)) xs) d) c.text_from-rest.ensures
            ∙ ap (λ (l : ℕ). made_of (pieces_within cut.0 l (drop (end + 1) rest)) d) after)) next,
      );
    }

pub returns-in_err-apply_at : goal.returns-in_err-apply_at
returns-in_err-apply_at c =
    let text : List ℕ = c.args.text.now in
    let rest : List ℕ = c.loop-end.rest.now in
    let end : ℕ = c.in-Some.end in
    let h = c.loop-end.invariant.made in
    let ends : end_of rest ≡ Some end = sym c.in-Some.ensures.end in
    let cut = cut_on h.0 c.loop-end.line rest end ends h.1 in
    let others : Listing → Result Listing AscFault = made_of (pieces_within cut.0 (line_after c.loop-end.line rest end) (drop (end + 1) rest)) in
    let given : c.from_residual.result ≡ Err c.in_err-apply_at.field-0.0 = search rules in
    subst (λ (r : Result (Unit {0}) AscFault). IsRead text r c.apply_at.new.reader) (sym given)
    (fails text others c.loop-end.line (take end rest) c.loop-end.reader c.apply_at.new.reader c.in_err-apply_at.field-0.0
    (read_by (directory_of text) _ (λ d. made_from others c.loop-end.line (made_by d (take end rest))) c.loop-end.reader cut.2 h.2) c.in_err-apply_at.ensures)

pub returns : goal.returns
returns c =
    let text : List ℕ = c.args.text.now in
    let rest : List ℕ = c.loop-end.rest.now in
    let h = c.loop-end.invariant.made in
    let ends : end_of rest ≡ None = sym c.in_default.ensures.end in
    last_read text c.loop-end.line rest c.loop-end.reader c.apply_at-2.new.reader c.apply_at-2.result
    (read_by (directory_of text) _ (λ d. made_from (made_of []) c.loop-end.line (made_by d rest)) c.loop-end.reader (cut_last h.0 c.loop-end.line rest ends h.1) h.2) c.apply_at-2.ensures
