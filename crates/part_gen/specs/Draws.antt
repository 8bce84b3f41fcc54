-- The draws of a seed, each by its number.
use Rattle.std.specs.Prelude.{ℕ, zero, suc, ◌+◌, ◌*◌, ◌/◌, ◌%◌}

-- the number behind a number
abbrev pub next : ℕ → ℕ
next x = (x * 1103515245 + 12345) % 2147483648

-- the number behind so many draws; behind none it is the seed, whatever that is
unfoldable pub number_after : ℕ → ℕ → ℕ
number_after seed zero = seed
number_after seed (suc count) = next (number_after seed count)

-- what draw k gives, from 0
abbrev pub draw : ℕ → ℕ → ℕ
draw seed k = next (number_after seed k) / 65536
