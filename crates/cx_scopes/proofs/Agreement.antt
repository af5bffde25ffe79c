-- The classes to which one comes declare a member alike.
use Rattle.std.proofs.Common.{◌≡◌, ℕ, zero, suc, ◌<◌, ◌⊎◌, inl, inr, Bool, true, false, ◌&&◌, List, [], ◌∷◌, fold, length, Option, Some, None, refl, sym, ap, subst, ◌∙◌, arith, if◌then◌else◌, ◌≢◌}
use Rattle.std.specs.Prelude.{◌==◌}
use Rattle.std.proofs.lemmas.Bool.{eqb-true}
use Rattle.cx_type_defs.specs.declared.ids.ClassId.{ClassId}
use Rattle.cx_scopes.specs.declared.kinds.ScopeId.{ScopeId}
use Rattle.cx_scopes.specs.declared.kinds.ScopeId.TheVariants as scope
use Rattle.cx_scopes.specs.declared.kinds.Entity.{Entity}
use Rattle.cx_scopes.specs.declared.kinds.Entity.TheVariants as entity
use Rattle.cx_scopes.specs.declared.kinds.Sought.{Sought}
use Rattle.cx_scopes.specs.Names.{same_scope, same_entity}
use Rattle.cx_scopes.specs.Scopes.{ScopeTables, bases_of}
use Rattle.cx_scopes.specs.Lookup.{same_list, together, or_else, said_together, members}
use Rattle.cx_scopes.specs.Reaching.{Among, ReachesThrough, own_members}

both : (a b : Bool) → (a && b) ≡ true → (a ≡ true) × (b ≡ true)
both true b h = (refl, h)
both false b h = cc

scope-is : (p q : ScopeId) → same_scope p q ≡ true → p ≡ q
scope-is (scope.Space m) (scope.Space n) h = ap (λ i. scope.Space i) (eqb-true m n h)
scope-is (scope.Class c) (scope.Class d) h = ap (λ i. scope.Class (record { 0 = i })) (eqb-true c.0 d.0 h)
scope-is (scope.Enum e) (scope.Enum f) h = ap (λ i. scope.Enum (record { 0 = i })) (eqb-true e.0 f.0 h)
scope-is _ _ h = cc

entity-is : (e f : Entity) → same_entity e f ≡ true → e ≡ f
entity-is (entity.Function f) (entity.Function g) h = ap (λ i. entity.Function (record { 0 = i })) (eqb-true f.0 g.0 h)
entity-is (entity.Variable v) (entity.Variable w) h = ap (λ i. entity.Variable (record { 0 = i })) (eqb-true v.0 w.0 h)
entity-is (entity.Field c i) (entity.Field d j) h = let b = both (c.0 == d.0) (i == j) h in λ k. entity.Field (record { 0 = eqb-true c.0 d.0 b.0 k }) (eqb-true i j b.1 k)
entity-is (entity.Enumerator c i) (entity.Enumerator d j) h = let b = both (c.0 == d.0) (i == j) h in λ k. entity.Enumerator (record { 0 = eqb-true c.0 d.0 b.0 k }) (eqb-true i j b.1 k)
entity-is (entity.Named t) (entity.Named u) h = ap (λ i. entity.Named (record { 0 = i })) (eqb-true t.0 u.0 h)
entity-is (entity.Space p) (entity.Space q) h = ap (λ r. entity.Space r) (scope-is p q h)
entity-is _ _ h = cc

-- two lists that are the same, entity by entity, are one
list-is : (es fs : List Entity) → same_list es fs ≡ true → es ≡ fs
list-is [] [] h = refl
list-is [] (f ∷ fs) h = cc
list-is (e ∷ es) [] h = cc
list-is (e ∷ es) (f ∷ fs) h = let b = both (same_entity e f) (same_list es fs) h in λ i. entity-is e f b.0 i ∷ list-is es fs b.1 i

abbrev some : List Entity → Option (List Entity)
some es = Some es

-- what two say together is what each of them says that says something
abbrev SaysSo : Option (List Entity) → List Entity → Type 0
SaysSo o es = (o ≡ some []) ⊎ (o ≡ some es)

together-so : (a b : Option (List Entity)) (es : List Entity) → together a b ≡ some es → SaysSo a es × SaysSo b es
together-so None b es h = cc
together-so (Some []) b es h = (inl refl, inr h)
together-so (Some (x ∷ xs)) None es h = cc
together-so (Some (x ∷ xs)) (Some []) es h = (inr h, inl refl)
together-so (Some (x ∷ xs)) (Some (y ∷ ys)) es h = by (same_list (x ∷ xs) (y ∷ ys)) refl h
  where
    by : (b : Bool) → same_list (x ∷ xs) (y ∷ ys) ≡ b → (if b then Some (x ∷ xs) else None) ≡ some es → SaysSo (Some (x ∷ xs)) es × SaysSo (Some (y ∷ ys)) es
    by true s j = (inr j, inr (ap some (sym (list-is (x ∷ xs) (y ∷ ys) s)) ∙ j))
    by false s j = cc

none-so : (a b : Option (List Entity)) → together a b ≡ some [] → (a ≡ some []) × (b ≡ some [])
none-so None b h = cc
none-so (Some []) b h = (refl, h)
none-so (Some (x ∷ xs)) None h = cc
none-so (Some (x ∷ xs)) (Some []) h = cc
none-so (Some (x ∷ xs)) (Some (y ∷ ys)) h = by (same_list (x ∷ xs) (y ∷ ys)) h
  where
    by : (b : Bool) → (if b then Some (x ∷ xs) else None) ≡ some [] → (some (x ∷ xs) ≡ some []) × (some (y ∷ ys) ≡ some [])
    by true j = cc
    by false j = cc

module _ (said : ClassId → Option (List Entity)) where
  bases-so : (bases : List ClassId) (sum : Option (List Entity)) (es : List Entity) → fold (λ o b. together o (said b)) sum bases ≡ some es → SaysSo sum es × ((b : ClassId) → Among b bases → SaysSo (said b) es)
  bases-so [] sum es h = (inr h, λ b none. absurd none)
  bases-so (c ∷ bases) sum es h =
      let rest = bases-so bases (together sum (said c)) es h in
      let here : SaysSo sum es × SaysSo (said c) es = elim rest.0 as (λ _. SaysSo sum es × SaysSo (said c) es) [
        | inl none ↦ let n = none-so sum (said c) none in (inl n.0, inl n.1)
        | inr some ↦ together-so sum (said c) es some
      ] in
      (here.0, λ b among. elim among as (λ _. SaysSo (said b) es) [ inl same ↦ subst (λ d. SaysSo (said d) es) (sym same) here.1 | inr later ↦ rest.1 b later ])

-- each class to which one comes by few enough bases, hidden by none on the way, says nothing or the same
pub member-agrees : (s : ScopeTables) (sought : Sought) (levels : ℕ) (c : ClassId) (name : List ℕ) (es : List Entity) (path : List ClassId) (d : ClassId) → members s sought levels c name ≡ Some es
    → length path < levels → ReachesThrough s sought name c path d → own_members s sought name d ≢ [] → es ≡ own_members s sought name d
unfolding members
member-agrees s sought zero c name es path d h few way own = absurd (omega arith)
member-agrees s sought (suc levels) c name es [] d h few way own =
    here (own_members s sought name d) own (ap (λ x. or_else (Some (own_members s sought name x)) (said_together (λ b. members s sought levels b name) (bases_of s c))) (sym way) ∙ h)
  where
    here : (xs : List Entity) → xs ≢ [] → or_else (Some xs) (said_together (λ b. members s sought levels b name) (bases_of s c)) ≡ some es → es ≡ xs
    here [] none j = absurd (none refl)
    here (x ∷ xs) none j = cc
member-agrees s sought (suc levels) c name es (b ∷ path) d h few way own =
    let below = bases-so (λ b. members s sought levels b name) (bases_of s c) (Some []) es
    (sym (ap (λ xs. or_else (Some xs) (said_together (λ b. members s sought levels b name) (bases_of s c))) way.0) ∙ h) in
    elim (below.1 b way.1) as (λ _. es ≡ own_members s sought name d) [
      | inl none ↦ absurd (own (sym (member-agrees s sought levels b name [] path d none (omega arith) way.2 own)))
      | inr says ↦ member-agrees s sought levels b name es path d says (omega arith) way.2 own
    ]
