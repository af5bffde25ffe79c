-- What `==` says of scopes and entities.
use Rattle.std.proofs.Common.{◌≡◌, Bool, ◌&&◌, List, [], ◌∷◌, refl}
use lib.Pointwise.{pointwise}
use Rattle.cx_scopes.specs.declared.kinds.ScopeId.{ScopeId}
use Rattle.cx_scopes.specs.declared.kinds.ScopeId.TheVariants as scope
use Rattle.cx_scopes.specs.declared.kinds.Entity.{Entity}
use Rattle.cx_scopes.specs.declared.kinds.Entity.TheVariants as entity
use Rattle.cx_scopes.specs.contracts.kinds.ScopeIdPartialEq.TheImpl as scopes
use Rattle.cx_scopes.specs.contracts.kinds.EntityPartialEq.TheImpl as entities
use Rattle.cx_scopes.specs.Names.{same_scope, same_entity}
use Rattle.cx_scopes.specs.Lookup.{same_list}

abbrev pub scope_eq : ScopeId → ScopeId → Bool
scope_eq = scopes.ghosts.eq

abbrev pub entity_eq : Entity → Entity → Bool
entity_eq = entities.ghosts.eq

pub same-scope : (p q : ScopeId) → scope_eq p q ≡ same_scope p q
same-scope (scope.Space m) (scope.Space n) = refl
same-scope (scope.Class c) (scope.Class d) = refl
same-scope (scope.Enum e) (scope.Enum f) = refl
same-scope _ _ = refl

pub same-entity : (e f : Entity) → entity_eq e f ≡ same_entity e f
same-entity (entity.Function f) (entity.Function g) = refl
same-entity (entity.Variable v) (entity.Variable w) = refl
same-entity (entity.Field c i) (entity.Field d j) = refl
same-entity (entity.Enumerator e i) (entity.Enumerator f j) = refl
same-entity (entity.Named t) (entity.Named u) = refl
same-entity (entity.Space p) (entity.Space q) = same-scope p q
same-entity _ _ = refl

pub same-list : (es fs : List Entity) → pointwise entity_eq es fs ≡ same_list es fs
same-list [] [] = refl
same-list [] (f ∷ fs) = refl
same-list (e ∷ es) [] = refl
same-list (e ∷ es) (f ∷ fs) = λ i. same-entity e f i && same-list es fs i
