-- A name as a buffer that is filled up with zeros.
use Rattle.std.specs.Prelude.{ℕ, ◌≡◌, ◌≤◌, ◌-◌, List, ◌++◌, length, take, replicate}
use Rattle.std.proofs.Common.{arith, ap, sym, ◌∙◌}
use Rattle.std.proofs.lemmas.List.{length-take-le}
use Rattle.name_core.specs.NameText.{IsName}
use Rattle.name_core.specs.declared.name.Name.TheInside.{Inside}

-- the bytes of a name as it is kept
abbrev pub bytes_of : Inside → List ℕ
bytes_of s = take s.len s.buf

pub record IsPadded (s : Inside) : Type 0 where
  pub short : s.len ≤ 64
  pub whole : length s.buf ≡ 64
  pub zeros : s.buf ≡ take s.len s.buf ++ replicate (64 - s.len) 0

-- the buffer is filled up with zeros, and what stands before them is a name
pub record IsStored (s : Inside) : Type 0 where
  pub buffer : IsPadded s
  pub named : IsName (bytes_of s)

abbrev pub padded : List ℕ → Inside
padded bytes = record { buf = bytes ++ replicate (64 - length bytes) 0; len = length bytes }

pub padded_back : (s : Inside) → IsStored s → padded (bytes_of s) ≡ s
padded_back s stored =
    let h : IsPadded s = stored.buffer in
    let len : length (take s.len s.buf) ≡ s.len = length-take-le s.len s.buf (omega (arith, h.short, h.whole)) in
    ap (λ n. let x : Inside = record { buf = take s.len s.buf ++ replicate (64 - n) 0; len = n } in x) len
    ∙ ap (λ b. let x : Inside = record { buf = b; len = s.len } in x) (sym h.zeros)
