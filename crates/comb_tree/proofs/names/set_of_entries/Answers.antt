use Rattle.std.proofs.Common.{rules, Ok}
use Rattle.std.specs.declared.alloc.AllocError.{AllocError}
use Rattle.std.specs.HashSet.{IsFromIterResult}
use Rattle.std.proofs.lemmas.Iterator.{YieldsList-from_map, YieldsList-from_slice}
use Rattle.std.proofs.lemmas.Iterator.Adapters.{fact_from_collect}
use Rattle.std.proofs.lemmas.Iterator.Consumers.{YieldsList-at}
use Rattle.name_core.specs.Same.{same_name}
use Rattle.comb_tree.specs.declared.node.ListEntry.{ListEntry}
use Rattle.comb_tree.proofs.names.set_of_entries.Goals as goal

pub returns : goal.returns
returns c =
    fact_from_collect {E = AllocError} (IsFromIterResult same_name) (Ok c.in_ok-collect.field-0) c.in_ok-collect.ensures.ran
    (YieldsList-from_map _ (λ (e : ListEntry). e.name) (YieldsList-at c.map.ensures.source (YieldsList-from_slice c.args.list.now c.iter.ensures.rest)) c.map.ensures.closure (λ x r q k. search rules))
