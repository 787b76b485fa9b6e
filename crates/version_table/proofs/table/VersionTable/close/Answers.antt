use Rattle.std.proofs.Common.{◌≡◌, ◌+◌, ◌∙◌, length, ap, sym, subst}
use Rattle.version_table.specs.History.{book_of}
use Rattle.version_table.specs.Passes.{PassView, TableView}
use Rattle.version_table.specs.Run.{BookView, state_after, commits_in}
use Rattle.version_table.specs.Places.{places_from}
use Rattle.version_table.proofs.Moves.{closed_sound, closed_book}
use Rattle.version_table.proofs.table.VersionTable.close.Goals as goal

pub unreachable-requires : goal.unreachable-requires
unreachable-requires g c =
    let all = ap (λ (p : PassView _). p.left + length p.own) c.pass.view_is ∙ c.requires.all ∙ sym (ap (λ (t : TableView _). t.told.calls) c.self.view_is) in
    let final = c.close_with-closed.ensures.values.2 in
    let book = closed_book c.self.inside.table.shared.key c.pass.inside.token.id c.pass.inside.token.me.0 _ _ c.take-book.result c.pass.invariant.0.0 all final c.take-book.ensures.value in
    let none = sym c.in_default.is ∙ book in cc

pub returns-clause-entries : goal.returns-clause-entries
returns-clause-entries g c =
    let all = ap (λ (p : PassView _). p.left + length p.own) c.pass.view_is ∙ c.requires.all ∙ sym (ap (λ (t : TableView _). t.told.calls) c.self.view_is) in
    let final = c.close_with-closed.ensures.values.2 in
    let book = closed_book c.self.inside.table.shared.key c.pass.inside.token.id c.pass.inside.token.me.0 _ _ c.take-book.result c.pass.invariant.0.0 all final c.take-book.ensures.value in
    let same : c.in-Some.book ≡ book_of c.self.inside.table.shared.key c.pass.inside.token.me.0.seen = let both = sym c.in-Some.is ∙ book in cc in
    c.end-state.ensures.entries ∙ ap (λ (b : BookView _ _). b.entries) same ∙ ap (λ (p : PassView _). p.seen) c.pass.view_is

pub returns-clause-state : goal.returns-clause-state
returns-clause-state g c =
    let all = ap (λ (p : PassView _). p.left + length p.own) c.pass.view_is ∙ c.requires.all ∙ sym (ap (λ (t : TableView _). t.told.calls) c.self.view_is) in
    let final = c.close_with-closed.ensures.values.2 in
    let book = closed_book c.self.inside.table.shared.key c.pass.inside.token.id c.pass.inside.token.me.0 _ _ c.take-book.result c.pass.invariant.0.0 all final c.take-book.ensures.value in
    let same : c.in-Some.book ≡ book_of c.self.inside.table.shared.key c.pass.inside.token.me.0.seen = let both = sym c.in-Some.is ∙ book in cc in
    c.end-state.ensures.state ∙ ap (λ (b : BookView _ _). state_after g.M.Machine.next b.told.state b.entries) same ∙ ap (λ (t : TableView _). state_after g.M.Machine.next t.told.state c.pass.inside.token.me.0.seen) c.self.view_is ∙ ap (λ (p : PassView _). state_after g.M.Machine.next c.args.self.told.state p.seen) c.pass.view_is

pub returns-clause-version : goal.returns-clause-version
returns-clause-version g c =
    let all = ap (λ (p : PassView _). p.left + length p.own) c.pass.view_is ∙ c.requires.all ∙ sym (ap (λ (t : TableView _). t.told.calls) c.self.view_is) in
    let final = c.close_with-closed.ensures.values.2 in
    let book = closed_book c.self.inside.table.shared.key c.pass.inside.token.id c.pass.inside.token.me.0 _ _ c.take-book.result c.pass.invariant.0.0 all final c.take-book.ensures.value in
    let same : c.in-Some.book ≡ book_of c.self.inside.table.shared.key c.pass.inside.token.me.0.seen = let both = sym c.in-Some.is ∙ book in cc in
    c.end-state.ensures.version ∙ ap (λ (b : BookView _ _). commits_in g.M.Machine.next g.M.Machine.commits b.told.state b.entries) same ∙ ap (λ (t : TableView _). commits_in g.M.Machine.next g.M.Machine.commits t.told.state c.pass.inside.token.me.0.seen) c.self.view_is ∙ ap (λ (p : PassView _). commits_in g.M.Machine.next g.M.Machine.commits c.args.self.told.state p.seen) c.pass.view_is

pub returns-clause-own : goal.returns-clause-own
returns-clause-own g c =
    let all = ap (λ (p : PassView _). p.left + length p.own) c.pass.view_is ∙ c.requires.all ∙ sym (ap (λ (t : TableView _). t.told.calls) c.self.view_is) in
    let final = c.close_with-closed.ensures.values.2 in
    subst (λ (p : PassView _). p.own ≡ places_from 0 (length p.seen)) c.pass.view_is (closed_sound c.self.inside.table.shared.key c.pass.inside.token.id c.pass.inside.token.me.0 _ _ c.pass.invariant.0.0 all final).1
