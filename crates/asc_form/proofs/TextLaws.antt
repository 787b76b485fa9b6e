-- A title is a text exactly where it can stand as one.
use Rattle.std.proofs.Common.{All, ◌≡◌, ◌≢◌, ◌==◌, ◌∷◌, [], ◌∙◌, ℕ, suc, Bool, true, not, List, length, Ok, arith, refl, ap, sym, ne_eqb}
use Rattle.std.specs.Prelude.{◌&&◌, nat_le}
use Rattle.std.specs.List.{list_all}
use Rattle.std.proofs.lemmas.Bool.{le-leb}
use Rattle.tcl_words.specs.GroupText.{is_group_text}
use Rattle.object_set.specs.TextValues.{IsTextValue}
use Rattle.put_form.specs.Keeps.{is_text}
use Rattle.directory.specs.Listing.{Listing}
use Rattle.asc_form.specs.Reading.{titled, unless_kind, when}
use Rattle.asc_form.specs.declared.fault.AscKind.TheVariants.{Attr}

both : (a b : Bool) → a ≡ true → b ≡ true → (a && b) ≡ true
both a b h k = cc

one_line : (text : List ℕ) → All (λ b. b ≢ 10) text → All (λ b. b ≢ 13) text → list_all (λ b. not (b == 10) && not (b == 13)) text ≡ true
one_line [] feed return = refl
one_line (b ∷ bs) feed return =
    let here : (not (b == 10) && not (b == 13)) ≡ true = both (not (b == 10)) (not (b == 13)) (ap not (ne_eqb b 10 (feed 0 0 (omega arith)))) (ap not (ne_eqb b 13 (return 0 0 (omega arith)))) in
    both (not (b == 10) && not (b == 13)) (list_all (λ b. not (b == 10) && not (b == 13)) bs) here
    (one_line bs (λ i d lt. feed (suc i) d (omega (arith, lt))) (λ i d lt. return (suc i) d (omega (arith, lt))))

pub text_is : (text : List ℕ) → IsTextValue text → is_text text ≡ true
text_is text h =
    both (nat_le (length text) 1024 && list_all (λ b. not (b == 10) && not (b == 13)) text) (is_group_text text)
    (both (nat_le (length text) 1024) (list_all (λ b. not (b == 10) && not (b == 13)) text) (le-leb (length text) 1024 h.short) (one_line text h.one_line h.no_return)) h.group

pub titled_as : (d new : Listing) (text : List ℕ) → IsTextValue text → new.title ≡ text → new.objects ≡ d.objects → titled d text ≡ Ok new
titled_as d new text h title objects =
    ap (λ (b : Bool). unless_kind (when (not b) Attr ∷ []) (record d { title = text })) (text_is text h)
    ∙ ap (λ (t : List ℕ). Ok (let l : Listing = record { title = t; objects = d.objects } in l)) (sym title)
    ∙ ap (λ o. Ok (let l : Listing = record { title = new.title; objects = o } in l)) (sym objects)
