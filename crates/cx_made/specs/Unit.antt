-- The unit that is made from a seed.
use Rattle.std.specs.Prelude.{ℕ, zero, suc, ◌+◌, ◌*◌, ◌^◌, ◌%◌, List, ◌++◌, codes, decimal}

-- the next number of the generator
abbrev pub next_state : ℕ → ℕ
next_state s = (s * 1103515245 + 12345) % 2 ^ 31

-- its number after so many steps from the seed
abbrev pub state_after : ℕ → ℕ → ℕ
state_after seed zero = seed
state_after seed (suc k) = next_state (state_after seed k)

abbrev pub first_line : List ℕ
first_line = codes "constexpr unsigned f(unsigned n) { unsigned t = n; for (unsigned i = 0u; i < 8u; ++i) t = t * 3u + i; return t; }\n"

-- `constexpr unsigned vNUMBER = f(STATEu);`
unfoldable pub line : ℕ → ℕ → List ℕ
line number state = codes "constexpr unsigned v" ++ decimal number ++ codes " = f(" ++ decimal state ++ codes "u);\n"

-- the function, and a constant for each number from 1
unfoldable pub unit : ℕ → ℕ → List ℕ
unit seed zero = first_line
unit seed (suc k) = unit seed k ++ line (suc k) (state_after seed (suc k))
