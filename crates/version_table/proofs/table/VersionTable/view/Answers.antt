use Rattle.std.proofs.Common.{◌≡◌, ◌∙◌, refl, ap, sym, subst, arith, length, false}
use Rattle.std.specs.Arc.{arc_value}
use Rattle.version_table.specs.Claims.{claim_of, places_of}
use Rattle.version_table.specs.History.{book_of}
use Rattle.version_table.specs.Passes.{Adds, PassView, TableView, pass_of}
use Rattle.version_table.specs.Run.{note_of}
use Rattle.version_table.specs.Steps.{at_rest, with_entry, with_turn}
use Rattle.version_table.proofs.Claims.{places_more}
use Rattle.version_table.proofs.table.VersionTable.view.Goals as goal

pub slot_out-book-requires-clause-turn : goal.slot_out-book-requires-clause-turn
slot_out-book-requires-clause-turn g c κs within = let t = c.wait_for_turn.ensures.took in (book_of c.self.inside.table.shared.key t.0, ap (λ m. m.1) t.3)

pub returns-clause-adds : goal.returns-clause-adds
returns-clause-adds g c =
    let t = c.wait_for_turn.ensures.took in
    let v = c.pass.inside.token.me.0 in
    let end = c.end_turn.new.token in
    let new = pass_of end.table_id c.pass.inside.session end.me.0.seen (places_of end.me.0.claims) end.me.0.left in
    let e = note_of c.pass.inside.session (arc_value c.args.command) false in
    let all : end.me.0 ≡ at_rest (with_entry e (with_turn t.0 v)) = ap (λ m. m.0) c.end_turn.ensures.gave ∙ ap (λ m. at_rest m.0) c.count_entry.ensures.counted ∙ ap (λ x. at_rest (with_entry e x)) (c.slot_out-book.ensures.own.2 ∙ ap (λ m. m.0) t.3) in
    let table = c.end_turn.ensures.own.0.0 ∙ ap (λ (x : TableView _). x.id) c.self.view_is ∙ sym c.requires.table ∙ sym (ap (λ (p : PassView _). p.table) c.pass.view_is) in (
      t.0,
      subst (λ (p : PassView _). Adds t.0 (note_of p.session (arc_value c.args.command) false) p new) c.pass.view_is record {
        begins = t.1;
        seen = ap (λ x. x.seen) all;
        own = ap (λ x. places_of x.claims) all ∙ places_more v.claims (claim_of v.session (length t.0));
        left = omega (arith, ap (λ x. x.left) all, c.requires.call, ap (λ (p : PassView _). p.left) c.pass.view_is);
        table = table;
        session = refl;
      },
    )
