-- The names of one scope, and which meanings may stand beside each other ([basic.scope.scope]).
--
-- A scope's names are a list in order of their first declarations: each one's bytes, with its meanings in order.
use Rattle.std.specs.Prelude.{ℕ, Bool, true, false, ◌==◌, ◌&&◌, ◌||◌, List, [], ◌∷◌, ◌++◌, if◌then◌else◌}
use Rattle.std.specs.List.{list_all, list_any}
use Rattle.std.specs.Str.{bytes_eq}
use Rattle.cx_scopes.specs.declared.kinds.ScopeId.{ScopeId}
use Rattle.cx_scopes.specs.declared.kinds.ScopeId.TheVariants as scope
use Rattle.cx_scopes.specs.declared.kinds.Entity.{Entity}
use Rattle.cx_scopes.specs.declared.kinds.Entity.TheVariants.{Function, Variable, Field, Enumerator, Named, Space}
use Rattle.cx_scopes.specs.declared.kinds.Sought.{Sought}
use Rattle.cx_scopes.specs.declared.kinds.Sought.TheVariants as sought

abbrev pub Names : Type 0
Names = List (List ℕ × List Entity)

-- what a name means among them: nothing where it isn't there
abbrev pub meanings : Names → List ℕ → List Entity
meanings [] name = []
meanings (entry ∷ names) name = if bytes_eq name entry.0 then entry.1 else meanings names name

-- the names with one more meaning of this name, behind those that it has
abbrev pub with_meaning : Names → List ℕ → Entity → Names
with_meaning [] name e = (name, e ∷ []) ∷ []
with_meaning (entry ∷ names) name e = if bytes_eq name entry.0 then (entry.0, entry.1 ++ e ∷ []) ∷ names else entry ∷ with_meaning names name e

abbrev pub same_scope : ScopeId → ScopeId → Bool
same_scope (scope.Space m) (scope.Space n) = m == n
same_scope (scope.Class c) (scope.Class d) = c.0 == d.0
same_scope (scope.Enum e) (scope.Enum f) = e.0 == f.0
same_scope _ _ = false

abbrev pub same_entity : Entity → Entity → Bool
same_entity (Function f) (Function g) = f.0 == g.0
same_entity (Variable v) (Variable w) = v.0 == w.0
same_entity (Field c i) (Field d j) = (c.0 == d.0) && (i == j)
same_entity (Enumerator e i) (Enumerator f j) = (e.0 == f.0) && (i == j)
same_entity (Named t) (Named u) = t.0 == u.0
same_entity (Space p) (Space q) = same_scope p q
same_entity _ _ = false

abbrev pub is_function : Entity → Bool
is_function (Function f) = true
is_function _ = false

-- two meanings of one name in one scope: overloads, or the same entity again
abbrev pub stand_together : Entity → Entity → Bool
stand_together e f = (is_function e && is_function f) || same_entity e f

-- an entity may come to these meanings
abbrev pub may_join : Entity → List Entity → Bool
may_join e es = list_all (stand_together e) es

abbrev pub is_among : Entity → List Entity → Bool
is_among e es = list_any (same_entity e) es

-- a namespace or a type: what may stand before `::` ([basic.lookup.qual])
abbrev pub can_qualify : Entity → Bool
can_qualify (Named t) = true
can_qualify (Space p) = true
can_qualify _ = false

-- the meanings of a name in one scope are functions alone, or one entity, so the first shows whether they may stand there
abbrev pub qualify : List Entity → Bool
qualify [] = false
qualify (e ∷ es) = can_qualify e

-- what a lookup counts of a name's meanings in one scope
abbrev pub counted : Sought → List Entity → List Entity
counted sought.Qualifier es = if qualify es then es else []
counted sought.Meaning es = es
counted sought.NonMember es = es

-- a lookup looks into this scope; one for what no class has looks into no class
abbrev pub looks_into : Sought → ScopeId → Bool
looks_into sought.NonMember (scope.Class c) = false
looks_into _ _ = true
