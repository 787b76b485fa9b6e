use Rattle.std.proofs.Common.{arith}
use Rattle.object_set.specs.Objects.{member_names}
use Rattle.object_pages.proofs.UserLemmas.{not_user}
use Rattle.object_pages.proofs.users.put_user.Goals as goal

pub returns-else-leaves_named-gt0-clause-user : goal.returns-else-leaves_named-gt0-clause-user
returns-else-leaves_named-gt0-clause-user c =
    not_user (member_names c.args.object.now.body) c.args.name.now c.args.user.now c.args.names.now c.leaves_named.result c.leaves_named.ensures (λ lt. omega (arith, lt, c.if-leaves_named-gt0.false))
