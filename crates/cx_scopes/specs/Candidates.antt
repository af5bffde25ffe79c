-- The candidates of a call, that two lookups give together ([basic.lookup.argdep]).
use Rattle.std.specs.Prelude.{List, [], ◌∷◌, ◌++◌, if◌then◌else◌}
use Rattle.cx_scopes.specs.declared.kinds.Entity.{Entity}
use Rattle.cx_scopes.specs.Names.{is_among}

-- the candidates with one more, unless it is among them
abbrev pub with_candidate : List Entity → Entity → List Entity
with_candidate es e = if is_among e es then es else es ++ e ∷ []

-- the candidates with those of a second lookup, each once
abbrev pub united : List Entity → List Entity → List Entity
united es [] = es
united es (f ∷ fs) = united (with_candidate es f) fs
