use Rattle.std.proofs.Common.{◌≡◌, ◌≤◌, length, ap, arith, rules}
use Rattle.object_pages.specs.Entries.{Entries}
use Rattle.object_pages.specs.Changes.{renamed_all}
use Rattle.shared_pages.specs.Pages.{page_of, most_pairs}
use Rattle.shared_pages.proofs.DistinctPages.{page_short}
use Rattle.object_pages.proofs.EntryLemmas.{length-renamed_all}
use Rattle.object_pages.proofs.renaming.rename_page.Goals as goal

pub with_page-requires-clause-small : goal.with_page-requires-clause-small
with_page-requires-clause-small c =
    let pairs : Entries = c.in-Some.pairs.now in
    let page : page_of c.args.pages c.args.number ≡ pairs = search rules in
    let short : length (page_of c.args.pages c.args.number) ≤ most_pairs = page_short c.args.pages c.args.number c.len-count.ensures.pages.filled in
    let made : length c.in_ok-renamed-in-Some.renamed ≡ length (renamed_all pairs c.args.old.now c.args.new.now) = ap (λ (l : Entries). length l) c.in_ok-renamed-in-Some.ensures in
    omega (arith, made, length-renamed_all pairs c.args.old.now c.args.new.now, ap (λ (l : Entries). length l) page, short)
