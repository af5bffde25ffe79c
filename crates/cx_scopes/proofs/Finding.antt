-- What was declared is found.
use Rattle.std.proofs.Common.{◌≡◌, ℕ, ◌<◌, Bool, true, false, ◌&&◌, ◌||◌, List, [], ◌∷◌, ◌++◌, cond, length, Option, Some, None, Ok, Err, refl, sym, ap, subst, ◌∙◌, arith, if◌then◌else◌, ◌≢◌}
use Rattle.std.specs.Prelude.{unwrap_or}
use Rattle.std.specs.Map.{lookup}
use Rattle.std.specs.Str.{bytes_eq}
use Rattle.std.proofs.lemmas.List.Folds.{list_any-append}
use Rattle.std.proofs.lemmas.Cmp.{nat_eq_equiv, nat_list_eq_equiv}
use Rattle.cx_scopes.specs.declared.kinds.LookAnswer.TheVariants.{Redeclared}
use Rattle.cx_scopes.specs.declared.kinds.ScopeId.{ScopeId}
use Rattle.cx_scopes.specs.declared.kinds.ScopeId.TheVariants as scope
use Rattle.cx_scopes.specs.declared.kinds.Entity.{Entity}
use Rattle.cx_scopes.specs.declared.kinds.Entity.TheVariants as entity
use Rattle.cx_scopes.specs.declared.kinds.Sought.TheVariants as sought
use Rattle.cx_scopes.specs.declared.entered.Entered.{Entered}
use Rattle.cx_scopes.specs.Names.{Names, meanings, with_meaning, same_scope, same_entity, is_among, may_join}
use Rattle.cx_scopes.specs.Scopes.{ScopeTables, names_at, with_name, meanings_at, place_of}
use Rattle.cx_scopes.specs.Steps.{own_meanings, present_meanings, declared, with_declaration, with_own}
use Rattle.cx_scopes.specs.Lookup.{answer_of, find_answer, levels_of, or_else, said_by, said_from}
use Rattle.cx_scopes.specs.Growth.{IsKept}
use Rattle.cx_scopes.proofs.Agreed.{members-own}
use Rattle.cx_scopes.proofs.Outwards.{or_else-some}

scope-itself : (p : ScopeId) → same_scope p p ≡ true
scope-itself (scope.Space n) = nat_eq_equiv.refl n
scope-itself (scope.Class c) = nat_eq_equiv.refl c.0
scope-itself (scope.Enum e) = nat_eq_equiv.refl e.0

entity-itself : (e : Entity) → same_entity e e ≡ true
entity-itself (entity.Function f) = nat_eq_equiv.refl f.0
entity-itself (entity.Variable v) = nat_eq_equiv.refl v.0
entity-itself (entity.Field c i) = λ j. nat_eq_equiv.refl c.0 j && nat_eq_equiv.refl i j
entity-itself (entity.Enumerator e i) = λ j. nat_eq_equiv.refl e.0 j && nat_eq_equiv.refl i j
entity-itself (entity.Named t) = nat_eq_equiv.refl t.0
entity-itself (entity.Space p) = scope-itself p

or-true : (b : Bool) → (b || (true || false)) ≡ true
or-true true = refl
or-true false = refl

last-among : (e : Entity) (es : List Entity) → is_among e (es ++ e ∷ []) ≡ true
last-among e es =
    list_any-append (same_entity e) es (e ∷ [])
    ∙ ap (λ b. is_among e es || (b || false)) (entity-itself e)
    ∙ or-true (is_among e es)

found-names : (names : Names) (name : List ℕ) (e : Entity) → is_among e (meanings (with_meaning names name e) name) ≡ true
found-names [] name e = ap (λ b. is_among e (if b then e ∷ [] else [])) (nat_list_eq_equiv.refl name) ∙ last-among e []
found-names (entry ∷ names) name e = by (bytes_eq name entry.0) refl (found-names names name e)
  where
    by : (b : Bool) → bytes_eq name entry.0 ≡ b → is_among e (meanings (with_meaning names name e) name) ≡ true
        → is_among e (meanings (if b then (entry.0, entry.1 ++ e ∷ []) ∷ names else entry ∷ with_meaning names name e) name) ≡ true
    by true same rest = ap (λ b. is_among e (if b then entry.1 ++ e ∷ [] else meanings names name)) same ∙ last-among e entry.1
    by false other rest = ap (λ b. is_among e (if b then entry.1 else meanings (with_meaning names name e) name)) other ∙ rest

found-tables : (tables : List (ScopeId × Names)) (p : ScopeId) (name : List ℕ) (e : Entity) → is_among e (meanings (names_at (with_name tables p name e) p) name) ≡ true
found-tables [] p name e = ap (λ b. is_among e (meanings (unwrap_or (cond b (Some (with_meaning [] name e)) None) []) name)) (scope-itself p) ∙ found-names [] name e
found-tables (table ∷ tables) p name e = by (same_scope p table.0) refl (found-tables tables p name e)
  where
    by : (b : Bool) → same_scope p table.0 ≡ b → is_among e (meanings (names_at (with_name tables p name e) p) name) ≡ true
        → is_among e (meanings (names_at (if b then (table.0, with_meaning table.1 name e) ∷ tables else table ∷ with_name tables p name e) p) name) ≡ true
    by true same rest = ap (λ b. is_among e (meanings (unwrap_or (cond b (Some (with_meaning table.1 name e)) (lookup (same_scope p) tables)) []) name)) same ∙ found-names table.1 name e
    by false other rest = ap (λ b. is_among e (meanings (unwrap_or (cond b (Some table.1) (lookup (same_scope p) (with_name tables p name e))) []) name)) other ∙ rest

place-kept : (entered : List Entered) (name : List ℕ) (e : Entity) → place_of (with_own entered name e) ≡ place_of entered
place-kept [] name e = refl
place-kept (x ∷ entered) name e = refl

present-kept : (p : Option ScopeId) (s : ScopeTables) (name : List ℕ) (e : Entity) → place_of ((with_declaration p s name e).entered) ≡ place_of s.entered
present-kept None s name e = place-kept s.entered name e
present-kept (Some p) s name e = refl

found-own : (entered : List Entered) (s : ScopeTables) (name : List ℕ) (e : Entity) → place_of entered ≡ None → is_among e (own_meanings None (with_own entered name e) s name) ≡ true
found-own [] s name e h = cc
found-own (x ∷ entered) s name e h = found-names x.own name e

found-in-place : (p : Option ScopeId) (s : ScopeTables) (name : List ℕ) (e : Entity) → place_of s.entered ≡ p
    → is_among e (own_meanings p ((with_declaration p s name e).entered) (with_declaration p s name e) name) ≡ true
found-in-place None s name e h = found-own s.entered (with_declaration None s name e) name e h
found-in-place (Some p) s name e h = found-tables s.tables p name e

found-added : (s : ScopeTables) (name : List ℕ) (e : Entity) → is_among e (present_meanings (with_declaration (place_of s.entered) s name e) name) ≡ true
found-added s name e =
    ap (λ p. is_among e (own_meanings p ((with_declaration (place_of s.entered) s name e).entered) (with_declaration (place_of s.entered) s name e) name)) (present-kept (place_of s.entered) s name e)
    ∙ found-in-place (place_of s.entered) s name e refl

-- the present scope has what was declared in it
pub found-declared : (s u : ScopeTables) (name : List ℕ) (e : Entity) → declared s name e ≡ Ok u → is_among e (present_meanings u name) ≡ true
found-declared s u name e h = by (may_join e (present_meanings s name)) (is_among e (present_meanings s name)) refl h
  where
    by : (b c : Bool) → is_among e (present_meanings s name) ≡ c → (if b then Ok (if c then s else with_declaration (place_of s.entered) s name e) else Err Redeclared) ≡ Ok u → is_among e (present_meanings u name) ≡ true
    by true true there k = subst (λ (v : ScopeTables). is_among e (present_meanings v name) ≡ true) (let same : s ≡ u = cc in same) there
    by true false there k = subst (λ (v : ScopeTables). is_among e (present_meanings v name) ≡ true) (let same : with_declaration (place_of s.entered) s name e ≡ u = cc in same) (found-added s name e)
    by false c there k = cc

among-some : (e : Entity) (es : List Entity) → is_among e es ≡ true → es ≢ []
among-some e es h k = let z : false ≡ true = sym (ap (is_among e) k) ∙ h in cc

said-own : (p : Option ScopeId) (x : Entered) (entered : List Entered) (u : ScopeTables) (name : List ℕ) (rest : Option (List Entity)) → IsKept u p → own_meanings p (x ∷ entered) u name ≢ []
    → or_else (said_by u sought.Meaning p x name) rest ≡ Some (own_meanings p (x ∷ entered) u name)
said-own None x entered u name rest kept h = or_else-some (meanings x.own name) rest h
said-own (Some (scope.Space n)) x entered u name rest kept h = or_else-some (meanings_at u (scope.Space n) name) rest h
said-own (Some (scope.Enum e)) x entered u name rest kept h = or_else-some (meanings_at u (scope.Enum e) name) rest h
said-own (Some (scope.Class c)) x entered u name rest kept h =
    ap (λ o. or_else o rest) (sym (members-own u sought.Meaning (levels_of u) c name (λ none. let z : 0 < length u.classes = kept in omega arith) h))
    ∙ or_else-some (meanings_at u (scope.Class c) name) rest h

said-present : (entered : List Entered) (u : ScopeTables) (name : List ℕ) → IsKept u (place_of entered) → own_meanings (place_of entered) entered u name ≢ [] → said_from u sought.Meaning entered name ≡ Some (own_meanings (place_of entered) entered u name)
said-present [] u name kept h = refl
said-present (x ∷ entered) u name kept h = said-own x.scope x entered u name (said_from u sought.Meaning entered name) kept h

answered-some : (es : List Entity) → es ≢ [] → answer_of (Some es) ≡ Ok es
answered-some [] h = absurd (h refl)
answered-some (e ∷ es) h = refl

-- and an unqualified look-up gives it
pub found-at-once : (s u : ScopeTables) (name : List ℕ) (e : Entity) → declared s name e ≡ Ok u → IsKept u (place_of u.entered) → find_answer u name ≡ Ok (present_meanings u name)
found-at-once s u name e h kept =
    let some : present_meanings u name ≢ [] = among-some e (present_meanings u name) (found-declared s u name e h) in
    ap answer_of (said-present u.entered u name kept some) ∙ answered-some (present_meanings u name) some
