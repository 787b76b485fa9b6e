use Rattle.std.proofs.Common.{◌≡◌, ◌++◌, ◌+◌, ◌∷◌, [], ℕ, take, flat_map}
use Rattle.transcript.proofs.write.append_order.Given as goal

abbrev pub invariant-loop-digit : goal.invariant-loop-digit
invariant-loop-digit l = l.text.items ≡ l.initial.text.items ++ flat_map (λ (session : ℕ). 32 ∷ (48 + session) ∷ []) (take l.digit-index l.order)
