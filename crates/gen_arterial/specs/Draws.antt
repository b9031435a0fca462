-- The numbers that are generated from a seed: a linear congruential generator modulo 2^31. The low 16 bits of its
-- state aren't used.
use Rattle.std.specs.Prelude.{ℕ, zero, suc, ◌+◌, ◌*◌, ◌/◌, ◌%◌}

-- the state of the generator after this many numbers
abbrev pub state_after : ℕ → ℕ → ℕ
state_after seed zero = seed % 2147483648
state_after seed (suc places) = (1103515245 * state_after seed places + 12345) % 2147483648

-- the generated number at this place, from 0 to n - 1; places are counted from 0
unfoldable pub drawn : ℕ → ℕ → ℕ → ℕ
drawn seed place n = state_after seed (suc place) / 65536 % n
