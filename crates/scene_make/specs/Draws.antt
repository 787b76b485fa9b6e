-- The numbers that are drawn for a demo. Each comes from the one before it, so the first decides all.
use Rattle.std.specs.Prelude.{ℕ, zero, suc, ◌+◌, ◌*◌, ◌/◌, ◌%◌, ◌^◌}

-- the number after x
abbrev pub next : ℕ → ℕ
next x = (x * 1103515245 + 12345) % 2 ^ 31

-- the number after so many draws
abbrev pub after : ℕ → ℕ → ℕ
after x zero = x
after x (suc draws) = next (after x draws)

-- what is drawn from x below a bound, after so many other draws
abbrev pub draw : ℕ → ℕ → ℕ → ℕ
draw x earlier bound = next (after x earlier) / 65536 % bound
