-- The entries of a directory have lines that read again.
use Rattle.std.proofs.Common.{◌≡◌, ◌∙◌, All, List, [], ◌∷◌, Ok, sym, ap}
use Rattle.std.specs.List.{AllByRecursion}
use Rattle.std.proofs.lemmas.List.Elements.{All-head, All-tail}
use Rattle.object_set.specs.Named.{HasKey, IsNamedEntry}
use Rattle.object_set.specs.TextValues.{IsTextValue}
use Rattle.object_set.specs.declared.kept.KeptAttr.{KeptAttr}
use Rattle.directory.specs.Listing.{Listing}
use Rattle.directory.specs.Walks.{Entries, IsSound}
use Rattle.asc_form.specs.Reading.{directory_of}
use Rattle.text_laws.specs.TextAgain.{IsEntryAgain, HaveLinesAgain, IsTextAgain, AreToldApart}
use Rattle.text_laws.proofs.TextCommands.{IsAttribute}
use Rattle.put_form.proofs.OneLine.{put_lacks, kept_lacks}
use Rattle.text_laws.proofs.TextObjects.{IsReadEntry, text_again}

attributes_of : (kept : List KeptAttr) → All HasKey kept → All (λ (k : KeptAttr). IsTextValue k.value) kept → AllByRecursion IsAttribute kept
attributes_of [] keys texts = tt
attributes_of (k ∷ ks) keys texts =
    let Text : KeptAttr → Type 0 = λ a. IsTextValue a.value in
    ((All-head HasKey k ks keys, All-head Text k ks texts), attributes_of ks (All-tail HasKey k ks keys) (All-tail Text k ks texts))

entries_read : (objects : Entries) → All IsNamedEntry objects → HaveLinesAgain objects → AllByRecursion IsReadEntry objects
entries_read [] named again = tt
entries_read ((a, o) ∷ more) named again =
    let here : IsNamedEntry (a, o) = All-head IsNamedEntry (a, o) more named in (
      record {
        name = here.name;
        put_line_lacks = put_lacks a o.body here.name here.members;
        kept_line_lacks = kept_lacks a o.kept here.name here.keys here.kept;
        attributes = attributes_of o.kept here.keys here.kept.texts;
        distinct = here.kept.distinct;
        again = again.0;
      },
      entries_read more (All-tail IsNamedEntry (a, o) more named) again.1,
    )

-- the written text of a directory reads as the same directory
pub text_is_again : (d : Listing) → IsTextValue d.title → IsSound d.objects → All IsNamedEntry d.objects → HaveLinesAgain d.objects → IsTextAgain d
text_is_again d text sound named again = text_again d text sound (entries_read d.objects named again)

pub lines_again : (objects : Entries) → All IsEntryAgain objects → HaveLinesAgain objects
lines_again [] again = tt
lines_again (e ∷ more) again = (All-head IsEntryAgain e more again, lines_again more (All-tail IsEntryAgain e more again))

-- one text reads as one directory
pub told_apart : (d e : Listing) → IsTextAgain d → IsTextAgain e → AreToldApart d e
told_apart d e first second same =
    let read : Ok d ≡ Ok e = sym first ∙ ap directory_of same ∙ second in
    let one : d ≡ e = cc in one
