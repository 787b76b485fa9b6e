use Rattle.std.proofs.Common.{◌≤◌, ℕ, Option, Some, IfSome, Vec, Global, map, subst, sym, arith, vec_len}
use Rattle.std.specs.Option.{option_map}
use Rattle.outside_core.specs.Files.{Gives}
use Rattle.mged_words.specs.Entries.{command_entry}
use Rattle.mged_top.proofs.OrderLaws.{order_found, refused_found, none_found}
use Rattle.mged_top.proofs.order.order_of.Goals as goal

pub returns-in-Ok-Some-clause-order : goal.returns-in-Ok-Some-clause-order
returns-in-Ok-Some-clause-order g c =
    let files = g.F.Shelf.files c.args.shelf.now in
    let name = c.args.name.now in
    let found = subst (λ (f : Option (Vec ℕ Global)). Gives files name 131078 (option_map (λ bytes. bytes.items) f)) c.in-Ok-Some.field-0-is c.in-Ok-Some.ensures.content in
    let short = subst (λ (f : Option (Vec ℕ Global)). IfSome f (λ bytes. vec_len bytes ≤ 131078)) c.in-Ok-Some.field-0-is c.in-Ok-Some.ensures.within in
    order_found files name (map command_entry c.args.script.now) c.deref.result.now c.order_in_text.result (subst (λ text. Gives files name 131078 (Some text)) (sym c.deref.ensures.value) found)
    (omega (arith, short, c.deref.ensures.len)) c.order_in_text.ensures.order

pub returns-in-Ok-Some-clause-refused : goal.returns-in-Ok-Some-clause-refused
returns-in-Ok-Some-clause-refused g c =
    let files = g.F.Shelf.files c.args.shelf.now in
    let name = c.args.name.now in
    let found = subst (λ (f : Option (Vec ℕ Global)). Gives files name 131078 (option_map (λ bytes. bytes.items) f)) c.in-Ok-Some.field-0-is c.in-Ok-Some.ensures.content in
    let short = subst (λ (f : Option (Vec ℕ Global)). IfSome f (λ bytes. vec_len bytes ≤ 131078)) c.in-Ok-Some.field-0-is c.in-Ok-Some.ensures.within in
    refused_found files name (map command_entry c.args.script.now) c.deref.result.now c.order_in_text.result (subst (λ text. Gives files name 131078 (Some text)) (sym c.deref.ensures.value) found)
    (omega (arith, short, c.deref.ensures.len)) c.order_in_text.ensures.refused

pub returns-in-Ok-None-clause-refused : goal.returns-in-Ok-None-clause-refused
returns-in-Ok-None-clause-refused g c =
    let files = g.F.Shelf.files c.args.shelf.now in
    let name = c.args.name.now in
    let found = subst (λ (f : Option (Vec ℕ Global)). Gives files name 131078 (option_map (λ bytes. bytes.items) f)) c.in-Ok-None.field-0-is c.in-Ok-None.ensures.content in
    none_found files name (map command_entry c.args.script.now) found
