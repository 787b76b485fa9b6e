-- What the calls that read a tree answer.
use Rattle.std.proofs.Common.{◌≡◌, ◌∙◌, ◌+◌, ◌≤◌, ◌<◌, refl, ℕ, suc, List, [], ◌∷◌, length, drop, get_or, Option, Some, None, Result, Ok, Err, IsErr, IfErr, ap, sym, subst, arith}
use Rattle.std.specs.List.{slice_range}
use Rattle.std.specs.Option.{option_map}
use Rattle.std.specs.Result.{IsErrAnd}
use Rattle.std.proofs.Math.Seq.{drop-cons}
use Rattle.std.proofs.Math.ListN.{drop_of_length-le}
use Rattle.tree_forms.specs.Stacks.{and_then}
use Rattle.tree_forms.specs.Trees.{Tree}
use Rattle.comb_tree.specs.Nodes.{Comb}
use Rattle.tcl_words.specs.TopWords.{IsBalanced}
use Rattle.tcl_words.specs.declared.token.Token.{Token}
use Rattle.tcl_words.specs.declared.token.Kind.{Kind}
use Rattle.word_values.specs.Groups.{Words, with_token, levels_of}
use Rattle.word_values.specs.Trees.{Given, tree_in, tree_if, IsTreeRead}
use Rattle.word_values.specs.declared.tree.TreeFault.{TreeFault}
use Rattle.word_values.specs.declared.tree.TreeFault.TheVariants as faults
use Rattle.word_values.specs.declared.given.GivenNode.{GivenNode}
use Rattle.word_values.specs.Reading.{given_nodes, State, next, nodes_at, IsNext, IsNone, IsTreeWith}
use Rattle.word_values.proofs.ReadingLaws.{means, step, ended}
use Rattle.word_values.proofs.LevelLaws.{some_level}

-- a fault that is passed on
pub passed_on : {T : Type 0} {G : TreeFault → Type 0} (P : TreeFault → Type 0) (r : Result T TreeFault) (x : TreeFault) → IsErr r × IsErrAnd r G → ((e : TreeFault) → G e → e ≡ x) → P x → IfErr r P
passed_on P (Ok t) x h is p = absurd h.1
passed_on P (Err e) x h is p = subst P (sym (is e h.1)) p

pub refused : {G : TreeFault → Type 0} (r : Result Comb TreeFault) (x : TreeFault) (words : Words) → IsErr r × IsErrAnd r G → ((e : TreeFault) → G e → e ≡ x) → IsTreeRead (Err x) words → IsTreeRead r words
refused (Ok t) x words h is p = absurd h.1
refused (Err e) x words h is p = subst (λ (y : TreeFault). IsTreeRead (Err y) words) (sym (is e h.1)) p

-- the state after a token, and what is read in all
step_levels : (s : State) (kind : Kind) (bytes : List ℕ) (levels : List Words) → 0 < length levels → means s (with_token kind bytes levels) ≡ and_then (λ t. means t levels) (next s kind bytes)
step_levels s kind bytes [] some = absurd (omega (arith, some))
step_levels s kind bytes (w ∷ ws) some = step s kind bytes w ws

pub next_token : (text : List ℕ) (ts : List Token) (i : ℕ) (d : Token) (s : State) (found : Option State) → IsBalanced ts → i < length ts
    → next s (get_or ts i d).kind (slice_range text (get_or ts i d).start (get_or ts i d).end) ≡ found
    → means s (levels_of text (drop i ts)) ≡ and_then (λ t. means t (levels_of text (drop (i + 1) ts))) found
next_token text ts i d s found balanced lt is =
    let bytes : List ℕ = slice_range text (get_or ts i d).start (get_or ts i d).end in
    let more : suc i ≡ i + 1 = omega arith in
    ap (λ (rest : List Token). means s (levels_of text rest)) (drop-cons ts i d lt)
    ∙ ap (λ (n : ℕ). means s (with_token (get_or ts i d).kind bytes (levels_of text (drop n ts)))) more
    ∙ step_levels s (get_or ts i d).kind bytes (levels_of text (drop (i + 1) ts)) (some_level text ts (i + 1) balanced)
    ∙ ap (and_then (λ t. means t (levels_of text (drop (i + 1) ts)))) is

pub not_next : (text : List ℕ) (ts : List Token) (i : ℕ) (d : Token) (s new : State) (total : Option (List GivenNode)) (e : TreeFault) → IsBalanced ts → i < length ts
    → means s (levels_of text (drop i ts)) ≡ total
    → IsNext (Err e) (next s (get_or ts i d).kind (slice_range text (get_or ts i d).start (get_or ts i d).end)) new → IsNone e total
not_next text ts i d s new total faults.Form balanced lt was h = sym was ∙ next_token text ts i d s None balanced lt h
not_next text ts i d s new total faults.Memory balanced lt was h = tt
not_next text ts i d s new total faults.Name balanced lt was h = h
not_next text ts i d s new total faults.Number balanced lt was h = h

-- the state behind all tokens
pub all_read : (text : List ℕ) (ts : List Token) (i : ℕ) (s : State) (total : Option (List GivenNode)) → length ts ≤ i → means s (levels_of text (drop i ts)) ≡ total → nodes_at s.lone s.place s.sides s ≡ total
all_read text ts i s total le was = sym (ended s) ∙ sym (ap (λ (rest : List Token). means s (levels_of text rest)) (drop_of_length-le ts le)) ∙ was

-- no tree is read
no_tree_by : (o : Option (Option (Tree Given))) → option_map given_nodes o ≡ None → tree_if o ≡ Err faults.Form
no_tree_by None h = refl
no_tree_by (Some t) h = absurd cc

pub no_tree : (e : TreeFault) (words : Words) → IsNone e (option_map given_nodes (tree_in words)) → IsTreeRead (Err e) words
no_tree faults.Form words h = no_tree_by (tree_in words) h
no_tree faults.Memory words h = tt
no_tree faults.Name words h = absurd h
no_tree faults.Number words h = absurd h

-- a tree is read
pub record IsFound (o : Option (Option (Tree Given))) (ns : List GivenNode) : Type 0 where
  pub tree : Option (Tree Given)
  pub is : o ≡ Some tree
  pub nodes : given_nodes tree ≡ ns

pub a_tree : (o : Option (Option (Tree Given))) (ns : List GivenNode) → option_map given_nodes o ≡ Some ns → IsFound o ns
a_tree None ns h = absurd cc
a_tree (Some t) ns h = record { tree = t; is = cc; nodes = cc }

pub read_with : (r : Result Comb TreeFault) (t : Option (Tree Given)) (words : Words) → tree_in words ≡ Some t → IsTreeWith r t → IsTreeRead r words
read_with (Ok tree) t words is h = ap tree_if is ∙ h
read_with (Err faults.Memory) t words is h = tt
read_with (Err faults.Form) t words is h = ap tree_if is ∙ h
read_with (Err faults.Name) t words is h = ap tree_if is ∙ h
read_with (Err faults.Number) t words is h = ap tree_if is ∙ h
