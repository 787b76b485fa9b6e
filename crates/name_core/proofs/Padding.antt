-- A name's bytes copied over zeros.
use Rattle.std.proofs.Common.{sym, subst, take, arith, ap, ◌∙◌, ◌≡◌, ◌≤◌, ◌-◌, ◌++◌, List, drop, length, length-append, replicate, ℕ}
use Rattle.std.proofs.lemmas.List.{drop-replicate}
use Rattle.std.proofs.Math.Seq.{take-append_seam}
use Rattle.std.proofs.Math.ListN.{length-replicate}
use Rattle.name_core.specs.declared.name.Name.TheInside.{Inside}
use Rattle.name_core.specs.NameParts.{IsStored}
use Rattle.name_core.specs.NameText.{IsName}

pub padded_over : (bytes zs : List ℕ) → zs ≡ replicate 64 0 → length bytes ≤ 64 → IsName bytes → (let s : Inside = record { buf = bytes ++ drop (length bytes) zs; len = length bytes } in IsStored s)
padded_over bytes zs zeros short name =
    let rest : drop (length bytes) zs ≡ replicate (64 - length bytes) 0 = ap (drop (length bytes)) zeros ∙ drop-replicate (length bytes) 64 0 in
    let front : take (length bytes) (bytes ++ drop (length bytes) zs) ≡ bytes = take-append_seam bytes (drop (length bytes) zs) in
    record {
      buffer = record {
        short = short;
        whole = omega (arith, length-append bytes (drop (length bytes) zs), ap length rest, length-replicate {A = ℕ} (64 - length bytes) 0);
        zeros = rw take-append_seam (ap (λ r. bytes ++ r) rest);
      };
      named = subst IsName (sym front) name;
    }
