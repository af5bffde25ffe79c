-- Names in order of declaration, each with a value.
use Rattle.std.specs.Prelude.{ℕ, List, [], ◌∷◌, map, Option, None, Some, is_some, ◌++◌, if◌then◌else◌, Vec}
use Rattle.std.specs.Str.{bytes_eq}

-- the value of the first entry that has this name
abbrev pub value_among : {V : Type 0} → List (List ℕ × V) → List ℕ → Option V
value_among [] name = None
value_among (entry ∷ entries) name = if bytes_eq entry.0 name then Some entry.1 else value_among entries name

-- each key as its bytes, with its value
abbrev pub named_entries : {A V : Type 0} → List (Vec ℕ A × V) → List (List ℕ × V)
named_entries entries = map (λ entry. (entry.0.items, entry.1)) entries

-- the entries with this name behind them, unless it is among them
abbrev pub with_name : {V : Type 0} → List (List ℕ × V) → List ℕ → V → List (List ℕ × V)
with_name entries name value = if is_some (value_among entries name) then entries else entries ++ (name, value) ∷ []
