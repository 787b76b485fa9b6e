use Rattle.std.proofs.Common.{◌≡◌, ◌+◌, ◌∙◌, ap, sym, subst, arith}
use Rattle.version_table.specs.Claims.{places_of}
use Rattle.version_table.specs.Passes.{PassView, TableView, pass_of, together}
use Rattle.version_table.specs.Steps.{at_rest, joined, longer}
use Rattle.version_table.proofs.Claims.{places_merged}
use Rattle.version_table.proofs.Moves.{join_allows}
use Rattle.version_table.proofs.table.VersionTable.join.Goals as goal

pub join_seat-requires : goal.join_seat-requires
join_seat-requires g c =
    let table = sym (ap (λ (t : TableView _). t.id) c.self.view_is) in (
      ap (λ (p : PassView _). p.table) c.pass.view_is ∙ c.requires.table.0 ∙ table,
      ap (λ (p : PassView _). p.table) c.other.view_is ∙ c.requires.table.1 ∙ table,
      c.other.invariant.0.2,
      omega (arith, c.self.invariant.0),
      join_allows c.self.inside.table.shared.key c.pass.inside.token.id c.other.inside.token.id c.pass.inside.token.me.0 c.other.inside.token.me.0 c.pass.invariant.0.0 c.other.invariant.0.0,
    )

pub returns-clause-both : goal.returns-clause-both
returns-clause-both g c =
    let v = c.pass.inside.token.me.0 in
    let w = c.other.inside.token.me.0 in
    let id = c.pass.inside.token.table_id in
    let session = c.pass.inside.session in
    let new = c.learn.new.token in
    let all : new.me.0 ≡ at_rest (joined v w) = ap (λ m. m.0) c.learn.ensures.same ∙ ap (λ m. at_rest m.0) c.join_seat.ensures.2 in
    let table : new.table_id ≡ id = c.learn.ensures.own.0 ∙ ap (λ (t : TableView _). t.id) c.self.view_is ∙ sym c.requires.table.0 ∙ sym (ap (λ (p : PassView _). p.table) c.pass.view_is) in
    let same : pass_of new.table_id session new.me.0.seen (places_of new.me.0.claims) new.me.0.left ≡ together (pass_of id session v.seen (places_of v.claims) v.left) (pass_of c.other.inside.token.table_id c.other.inside.session w.seen (places_of w.claims) w.left)
    = ap (λ t. pass_of t session new.me.0.seen (places_of new.me.0.claims) new.me.0.left) table
    ∙ ap (λ x. pass_of id session x.seen (places_of x.claims) x.left) all
    ∙ ap (λ l. pass_of id session (longer v.seen w.seen) l (v.left + w.left)) (places_merged v.claims w.claims) in
    subst (λ (p : PassView _). pass_of new.table_id session new.me.0.seen (places_of new.me.0.claims) new.me.0.left ≡ together p c.args.other) c.pass.view_is
    (subst (λ (q : PassView _). pass_of new.table_id session new.me.0.seen (places_of new.me.0.claims) new.me.0.left ≡ together (pass_of id session v.seen (places_of v.claims) v.left) q) c.other.view_is same)
