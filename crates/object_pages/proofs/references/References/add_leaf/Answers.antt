use Rattle.std.proofs.Common.{◌≡◌, ◌+◌, ◌∙◌, [], Some, ap, cond, nat_eq, refl}
use Rattle.std.specs.Prelude.{unwrap_or}
use Rattle.name_core.specs.Same.{same_name}
use Rattle.shared_pages.specs.Buckets.{value_of}
use Rattle.shared_pages.proofs.OpenLemmas.{closed_gives}
use Rattle.object_pages.specs.Tallies.{count_on, leaves_on}
use Rattle.object_pages.proofs.TallyLemmas.{leaves_given}
use Rattle.object_pages.proofs.references.References.add_leaf.Goals as goal

pub returns : goal.returns
returns c =
    λ a n.
    let was = ap (λ o. count_on (unwrap_or o []) n) (c.in_ok-open.ensures.value ∙ ap (λ s. value_of s c.args.name.now) c.self.view_is) in
    leaves_given c.self.inside.tallies c.args.self c.in_ok-tallies.tallies c.args.name.now (Some c.in_ok-tally.tally) c.in_ok-tally.tally refl c.self.view_is (closed_gives c.self.inside.tallies c.in_ok-tallies.tallies c.in_ok-open.open c.args.name.now (Some c.in_ok-tally.tally) c.in_ok-open.ensures.map c.in_ok-open.ensures.name c.in_ok-tallies.ensures) a n
    ∙ ap (λ m. cond (same_name c.args.name.now a) m (leaves_on c.args.self a n)) (c.in_ok-tally.ensures n ∙ ap (λ m. m + cond (nat_eq c.args.page n) 1 0) was)
