-- Words for the levels of a text ([implimits]): a part that stands one level deeper than the whole counts one more than by itself.
use Rattle.std.specs.Prelude.{ℕ, suc, max, List, [], ◌∷◌, map, Option, Some, None}

-- the greatest of a list, and 0 of none
abbrev pub greatest : List ℕ → ℕ
greatest [] = 0
greatest (n ∷ ns) = max n (greatest ns)

-- the same of parts that each stand one level deeper
abbrev pub deeper : List ℕ → ℕ
deeper ns = greatest (map suc ns)

-- a part that may be missing
abbrev pub perhaps : {A : Type 0} → (A → ℕ) → Option A → ℕ
perhaps f None = 0
perhaps f (Some part) = f part
