use Rattle.std.proofs.Common.{◌∙◌, [], ap}
use Rattle.std.specs.Prelude.{unwrap_or}
use Rattle.std.specs.Option.{option_copied}
use Rattle.shared_pages.specs.Pages.{page_of}
use Rattle.object_pages.specs.Entries.{Entries, object_of}
use Rattle.object_pages.specs.Changes.{renamed_all}
use Rattle.object_pages.proofs.PagesLemmas.{rises_sorted}
use Rattle.object_pages.proofs.PageEditLemmas.{pages_renamed}
use Rattle.object_pages.proofs.PageNameLemmas.{page_none}
use Rattle.object_pages.proofs.RenamingLemmas.{all_renamed, beside}
use Rattle.object_pages.proofs.renaming.rename_pages.Goals as goal

pub rename_page-requires-clause-absent : goal.rename_page-requires-clause-absent
rename_page-requires-clause-absent c = page_none c.args.pages c.args.new.now c.args.own c.requires.absent

pub rename_users-requires-clause-absent : goal.rename_users-requires-clause-absent
rename_users-requires-clause-absent c = λ n apart.
    ap (λ (es : Entries). object_of es c.args.new.now)
    (c.in_ok-begun.ensures n ∙ beside c.args.own n (renamed_all (page_of c.args.pages c.args.own) c.args.old.now c.args.new.now) (page_of c.args.pages n) apart)
    ∙ page_none c.args.pages c.args.new.now n c.requires.absent

pub returns-clause-pages : goal.returns-clause-pages
returns-clause-pages c =
    all_renamed c.args.pages c.in_ok-begun.begun c.in_ok-renamed.renamed c.args.own (unwrap_or (option_copied c.args.users) []) c.args.old.now c.args.new.now c.requires.distinct c.requires.there c.requires.counted
    c.in_ok-begun.ensures c.in_ok-renamed.ensures

pub returns-clause-pairs : goal.returns-clause-pairs
returns-clause-pairs c =
    pages_renamed c.args.pages c.in_ok-renamed.renamed c.args.old.now c.args.new.now (rises_sorted 0 c.args.pages c.len-count.ensures.pages.rise) (rises_sorted 0 c.in_ok-renamed.renamed c.len-same.ensures.pages.rise)
    (returns-clause-pages c)
