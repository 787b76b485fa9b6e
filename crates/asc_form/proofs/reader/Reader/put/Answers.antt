use Rattle.std.proofs.Common.{◌≡◌, ◌∙◌, ◌++◌, ◌∷◌, [], ℕ, List, length, rules, subst, sym}
use Rattle.std.specs.Prelude.{vec_len}
use Rattle.asc_form.specs.Gathering.{settled}
use Rattle.asc_form.specs.Progress.{Progress, PutsObject}
use Rattle.asc_form.proofs.SettleLaws.{popped, progress_of, put_done, put_refused, reader_more}
use Rattle.asc_form.proofs.reader.Reader.put.Goals as goal

pub invariant_of-self-else-is_err-2 : goal.invariant_of-self-else-is_err-2
invariant_of-self-else-is_err-2 c =
    let pushed : c.push.new.self.items ≡ c.self.inside.lines.items ++ c.self.inside.line ∷ [] = search rules in
    reader_more c.self.inside.gathered.entries c.self.inside.draft.objects c.put-answer.new.self.objects c.self.inside.lines.items c.push.new.self.items c.self.inside.line c.args.name.now c.args.object _ c.put-answer.result
    (sym c.is_err-2.ensures.value ∙ c.if-is_err-2.false) c.self.invariant c.put-answer.ensures.exact pushed

pub returns-then-is_err-2 : goal.returns-then-is_err-2
returns-then-is_err-2 c =
    let pushed : c.push.new.self.items ≡ c.self.inside.lines.items ++ c.self.inside.line ∷ [] = search rules in
    let len : vec_len c.push.new.self ≡ length c.push.new.self.items = search rules in
    let left : c.pop-line.new.self.items ≡ c.self.inside.lines.items = popped c.self.inside.lines.items c.push.new.self.items c.pop-line.new.self.items c.self.inside.line (vec_len c.push.new.self) pushed len c.pop-line.ensures.rest in
    let gathered = c.self.inside.gathered.entries in
    let new : List ℕ → Progress = λ t. progress_of t (settled c.put-answer.new.self.objects gathered) c.put-answer.new.self.objects c.pop-line.new.self.items c.self.inside.line in
    let old : Progress = progress_of c.self.inside.draft.title (settled c.self.inside.draft.objects gathered) c.self.inside.draft.objects c.self.inside.lines.items c.self.inside.line in
    subst (λ (p : Progress). PutsObject c.args.name.now c.args.object p c.put-answer.result (new c.put-answer.new.self.title)) c.self.view_is
    (subst (λ (t : List ℕ). PutsObject c.args.name.now c.args.object old c.put-answer.result (new t)) (sym c.put-answer.ensures.title)
    (put_refused c.self.inside.draft.title gathered c.self.inside.draft.objects c.put-answer.new.self.objects c.self.inside.lines.items c.pop-line.new.self.items c.self.inside.line c.args.name.now c.args.object c.put-answer.result
    (sym c.is_err-2.ensures.value ∙ c.if-is_err-2.true) c.self.invariant.gathered c.put-answer.ensures.exact left))

pub returns-else-is_err-2 : goal.returns-else-is_err-2
returns-else-is_err-2 c =
    let pushed : c.push.new.self.items ≡ c.self.inside.lines.items ++ c.self.inside.line ∷ [] = search rules in
    let gathered = c.self.inside.gathered.entries in
    let new : List ℕ → Progress = λ t. progress_of t (settled c.put-answer.new.self.objects gathered) c.put-answer.new.self.objects c.push.new.self.items c.self.inside.line in
    let old : Progress = progress_of c.self.inside.draft.title (settled c.self.inside.draft.objects gathered) c.self.inside.draft.objects c.self.inside.lines.items c.self.inside.line in
    subst (λ (p : Progress). PutsObject c.args.name.now c.args.object p c.put-answer.result (new c.put-answer.new.self.title)) c.self.view_is
    (subst (λ (t : List ℕ). PutsObject c.args.name.now c.args.object old c.put-answer.result (new t)) (sym c.put-answer.ensures.title)
    (put_done c.self.inside.draft.title gathered c.self.inside.draft.objects c.put-answer.new.self.objects c.self.inside.lines.items c.push.new.self.items c.self.inside.line c.args.name.now c.args.object c.put-answer.result
    (sym c.is_err-2.ensures.value ∙ c.if-is_err-2.false) c.self.invariant.gathered c.put-answer.ensures.exact pushed))
