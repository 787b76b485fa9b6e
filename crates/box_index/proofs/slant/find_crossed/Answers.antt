use Rattle.std.proofs.Common.{◌≡◌, ◌∙◌, ◌++◌, List, ℕ, filter, ap, subst}
use Rattle.std.specs.List.Sorted.{IsPermutation}
use Rattle.box_index.specs.Reaches.{has_points}
use Rattle.box_index.specs.Lines.{is_crossed, whole_line}
use Rattle.box_index.specs.Nodes.{content, is_crossed_at}
use Rattle.box_index.proofs.Listing.{sorted_places}
use Rattle.box_index.proofs.slant.find_crossed.Goals as goal

pub returns : goal.returns
returns c =
    let boxes = c.args.boxes.now in
    let line = c.args.line.now in
    let all = content c.args.nodes.now in
    let out = c.sort_unstable.new.self.items in
    let found : c.add_crossed.new.out.items ≡ filter (is_crossed_at boxes line) all =
    c.in_ok-add_crossed.ensures ∙ ap (λ (l : List ℕ). l ++ filter (is_crossed_at boxes line) all) c.clear.ensures.items in
    sorted_places has_points (λ b. is_crossed line whole_line b) boxes all out c.requires.index.has_all
    (subst (λ (l : List ℕ). IsPermutation l out) found c.sort_unstable.ensures.permutation) c.sort_unstable.ensures.sorted
