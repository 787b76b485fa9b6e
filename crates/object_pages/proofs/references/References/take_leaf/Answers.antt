use Rattle.std.proofs.Common.{◌≡◌, ◌-◌, ◌∙◌, [], ap, arith, cond, nat_eq, refl}
use Rattle.std.specs.Prelude.{unwrap_or}
use Rattle.name_core.specs.Same.{same_name}
use Rattle.shared_pages.specs.Buckets.{value_of}
use Rattle.shared_pages.proofs.OpenLemmas.{closed_gives}
use Rattle.object_pages.specs.Tallies.{count_on, leaves_on}
use Rattle.object_pages.proofs.TallyLemmas.{leaves_given}
use Rattle.object_pages.proofs.references.References.take_leaf.Goals as goal

pub returns : goal.returns
returns c =
    λ a n.
    let was = ap (λ o. count_on (unwrap_or o []) n) (c.in_ok-open.ensures.value ∙ ap (λ s. value_of s c.args.name.now) c.self.view_is) in
    let left : count_on (unwrap_or c.in_ok-left.left []) n ≡ leaves_on c.args.self c.args.name.now n - cond (nat_eq c.args.page n) 1 0 = omega (arith, c.in_ok-left.ensures n, was) in
    leaves_given c.self.inside.tallies c.args.self c.in_ok-tallies.tallies c.args.name.now c.in_ok-left.left (unwrap_or c.in_ok-left.left []) refl c.self.view_is (closed_gives c.self.inside.tallies c.in_ok-tallies.tallies c.in_ok-open.open c.args.name.now c.in_ok-left.left c.in_ok-open.ensures.map c.in_ok-open.ensures.name c.in_ok-tallies.ensures) a n
    ∙ ap (λ m. cond (same_name c.args.name.now a) m (leaves_on c.args.self a n)) left
