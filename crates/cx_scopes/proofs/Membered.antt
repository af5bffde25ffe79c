-- From which class a member comes.
use Rattle.std.proofs.Common.{◌≡◌, ℕ, zero, suc, ◌⊎◌, inl, inr, Bool, true, false, List, [], ◌∷◌, fold, Option, Some, None, refl, ap, ◌∙◌, if◌then◌else◌}
use Rattle.cx_type_defs.specs.declared.ids.ClassId.{ClassId}
use Rattle.cx_scopes.specs.declared.kinds.Entity.{Entity}
use Rattle.cx_scopes.specs.declared.kinds.Sought.{Sought}
use Rattle.cx_scopes.specs.Scopes.{ScopeTables, bases_of}
use Rattle.cx_scopes.specs.Lookup.{same_list, together, or_else, said_together, members}
use Rattle.cx_scopes.specs.Reaching.{Among, ComesTo, own_members}

abbrev some : Entity → List Entity → Option (List Entity)
some e es = Some (e ∷ es)

-- what two say together, one of them says
from-either : (a b : Option (List Entity)) (e : Entity) (es : List Entity) → together a b ≡ some e es → (a ≡ some e es) ⊎ (b ≡ some e es)
from-either None b e es h = cc
from-either (Some []) b e es h = inr h
from-either (Some (x ∷ xs)) None e es h = cc
from-either (Some (x ∷ xs)) (Some []) e es h = inl h
from-either (Some (x ∷ xs)) (Some (y ∷ ys)) e es h = by (same_list (x ∷ xs) (y ∷ ys)) h
  where
    by : (b : Bool) → (if b then Some (x ∷ xs) else None) ≡ some e es → (some x xs ≡ some e es) ⊎ (some y ys ≡ some e es)
    by true j = inl j
    by false j = cc

module _ (said : ClassId → Option (List Entity)) where
  abbrev OneSays : List ClassId → Entity → List Entity → Type 0
  OneSays bases e es = (b : ClassId) × Among b bases × (said b ≡ some e es)

  -- what the bases say together, one of them says, or what came before
  from-bases : (bases : List ClassId) (sum : Option (List Entity)) (e : Entity) (es : List Entity) → fold (λ o b. together o (said b)) sum bases ≡ some e es → (sum ≡ some e es) ⊎ OneSays bases e es
  from-bases [] sum e es h = inl h
  from-bases (b ∷ bases) sum e es h = elim (from-bases bases (together sum (said b)) e es h) as (λ _. (sum ≡ some e es) ⊎ OneSays (b ∷ bases) e es) [
    | inl both ↦ elim (from-either sum (said b) e es both) as (λ _. (sum ≡ some e es) ⊎ OneSays (b ∷ bases) e es) [ inl before ↦ inl before | inr now ↦ inr (b, inl refl, now) ]
    | inr later ↦ inr (later.0, inr later.1, later.2)
  ]

-- from no bases before
from-some : (said : ClassId → Option (List Entity)) (bases : List ClassId) (e : Entity) (es : List Entity) → said_together said bases ≡ some e es → OneSays said bases e es
from-some said bases e es h = elim (from-bases said bases (Some []) e es h) as (λ _. OneSays said bases e es) [ inl none ↦ cc | inr one ↦ one ]

pub member-origin : (s : ScopeTables) (sought : Sought) (levels : ℕ) (c : ClassId) (name : List ℕ) (e : Entity) (es : List Entity) → members s sought levels c name ≡ Some (e ∷ es) → ComesTo s sought name c (e ∷ es)
unfolding members
member-origin s sought zero c name e es h = cc
member-origin s sought (suc levels) c name e es h =
    by (own_members s sought name c) refl (λ rest. from-some (λ b. members s sought levels b name) (bases_of s c) e es rest) (λ b rest. member-origin s sought levels b name e es rest) h
  where
    by : (own : List Entity) → own_members s sought name c ≡ own → (said_together (λ b. members s sought levels b name) (bases_of s c) ≡ some e es → OneSays (λ b. members s sought levels b name) (bases_of s c) e es)
        → ((b : ClassId) → members s sought levels b name ≡ some e es → ComesTo s sought name b (e ∷ es))
        → or_else (Some own) (said_together (λ b. members s sought levels b name) (bases_of s c)) ≡ some e es → ComesTo s sought name c (e ∷ es)
    by [] none one again j = let r = one j in let k = again r.0 r.2 in (r.0 ∷ k.0, k.1, (none, r.1, k.2), k.3)
    by (x ∷ xs) is one again j = ([], c, refl, is ∙ (let same : (x ∷ xs) ≡ (e ∷ es) = cc in same))
