-- An order file is judged by its first bytes.
use Rattle.std.proofs.Common.{◌≡◌, ◌∙◌, ◌≤◌, ℕ, List, [], ◌∷◌, Option, Some, None, Result, Ok, Err, Vec, Global, IfOk, IfErr, length, take, refl, ap, sym, subst}
use Rattle.std.specs.Option.{option_map}
use Rattle.std.proofs.lemmas.List.{take_all}
use Rattle.name_core.specs.declared.name.Name.{Name}
use Rattle.outside_core.specs.Files.{Gives, bytes_in}
use Rattle.outside_core.specs.declared.traits.File.{File}
use Rattle.transcript.specs.Merge.{Entry, lane}
use Rattle.command_set.specs.declared.command.Command.{Command}
use Rattle.script_run.specs.Orders.{order_for}
use Rattle.mged_top.specs.Courses.{if_merges, ordered_from}
use Rattle.mged_top.specs.Stages.{CanOrder, IsOrderStop, IsTextStop}
use Rattle.mged_top.specs.declared.order.OrderStop.{OrderStop}
use Rattle.mged_top.specs.declared.order.OrderStop.TheVariants as order
use Rattle.mged_top.specs.declared.status.ReplayFault.{ReplayFault}
use Rattle.mged_top.specs.declared.status.ReplayFault.TheVariants as replay
use Rattle.mged_top.proofs.LoadLaws.{one_file}

module _ (told : Option (List File)) (name : Name) (commands : List (Entry Command)) where
  -- a file of which these are the first bytes
  by_whole : (full : Option (List ℕ)) (text : List ℕ) (due : Option (List ℕ)) → Some text ≡ option_map (take 131078) full → ((whole : List ℕ) → text ≡ take 131078 whole → order_for whole (lane commands) ≡ due)
      → ordered_from name full commands ≡ if_merges due
  by_whole None text due is gives = absurd cc
  by_whole (Some whole) text due is gives = ap if_merges (gives whole (cc))

  -- the order that first bytes give, where a file was found
  can_order : (text : List ℕ) (due : Option (List ℕ)) → Gives told name 131078 (Some text) → length text ≤ 131078 → ((whole : List ℕ) → text ≡ take 131078 whole → order_for whole (lane commands) ≡ due)
      → CanOrder told name commands (if_merges due)
  can_order = can_order_by told
    where
      can_order_by : (known : Option (List File)) (text : List ℕ) (due : Option (List ℕ)) → Gives known name 131078 (Some text) → length text ≤ 131078 → ((whole : List ℕ) → text ≡ take 131078 whole → order_for whole (lane commands) ≡ due)
          → CanOrder known name commands (if_merges due)
      can_order_by None text due found short gives = record {
        later = record { name = name; bytes = text } ∷ [];
        as_told = tt;
        gives = ap (λ (f : Option (List ℕ)). ordered_from name f commands) (one_file name text) ∙ ap if_merges (gives text (sym (take_all 131078 text short)));
      }
      can_order_by (Some files) text due found short gives = record { later = files; as_told = refl; gives = by_whole (bytes_in files name) text due found gives }

  pub order_found : (text : List ℕ) (r : Result (Vec ℕ Global) OrderStop) → Gives told name 131078 (Some text) → length text ≤ 131078
      → IfOk r (λ (o : Vec ℕ Global). (whole : List ℕ) → text ≡ take 131078 whole → order_for whole (lane commands) ≡ Some o.items) → IfOk r (λ (o : Vec ℕ Global). CanOrder told name commands (Ok (Some o.items)))
  order_found text (Ok o) found short gives = can_order text (Some o.items) found short gives
  order_found text (Err stop) found short gives = tt

  stop_found : (text : List ℕ) (stop : OrderStop) → Gives told name 131078 (Some text) → length text ≤ 131078 → IsTextStop stop text commands → IsOrderStop stop told name commands
  stop_found text (order.Refused fault) found short is = subst (λ (f : ReplayFault). CanOrder told name commands (Err f)) (sym is.0) (can_order text None found short is.1)
  stop_found text order.Failed found short is = tt
  stop_found text OrderStop.Memory found short is = tt

  pub refused_found : (text : List ℕ) (r : Result (Vec ℕ Global) OrderStop) → Gives told name 131078 (Some text) → length text ≤ 131078
      → IfErr r (λ stop. IsTextStop stop text commands) → IfErr r (λ stop. IsOrderStop stop told name commands)
  refused_found text (Ok o) found short is = tt
  refused_found text (Err stop) found short is = stop_found text stop found short is

-- there is no file of that name
pub none_found : (told : Option (List File)) (name : Name) (commands : List (Entry Command)) → Gives told name 131078 None → CanOrder told name commands (Err (replay.NoFile name))
none_found None name commands found = record { later = []; as_told = tt; gives = refl }
none_found (Some files) name commands found = record { later = files; as_told = refl; gives = missing (bytes_in files name) found }
  where
    missing : (full : Option (List ℕ)) → ◌≡◌ {A = Option (List ℕ)} None (option_map (take 131078) full) → ordered_from name full commands ≡ Err (replay.NoFile name)
    missing None is = refl
    missing (Some whole) is = absurd cc
