-- The scopes that are entered, from the innermost outwards.
use Rattle.std.proofs.Common.{◌≡◌, ℕ, List, [], ◌∷◌, length, reverse, Option, Some, refl, ap, ◌∙◌, arith, ◌≢◌}
use Rattle.std.specs.List.{push}
use Rattle.cx_scopes.specs.declared.kinds.Entity.{Entity}
use Rattle.cx_scopes.specs.declared.kinds.Sought.{Sought}
use Rattle.cx_scopes.specs.declared.entered.Entered.{Entered}
use Rattle.cx_scopes.specs.Scopes.{ScopeTables}
use Rattle.cx_scopes.specs.Lookup.{or_else, said_by, said_from}
use Rattle.cx_scopes.proofs.Stacked.{reverse-last}

-- the last one says something, or those outside do
pub said-last : (s : ScopeTables) (sought : Sought) (name : List ℕ) (entered outer : List Entered) (x : Entered) → entered ≡ push outer x
    → said_from s sought (reverse entered) name ≡ or_else (said_by s sought x.scope x name) (said_from s sought (reverse outer) name)
said-last s sought name entered outer x e =
    ap (λ l. said_from s sought (reverse l) name) e
    ∙ ap (λ l. said_from s sought l name) (reverse-last outer x)

pub or_else-some : (es : List Entity) (rest : Option (List Entity)) → es ≢ [] → or_else (Some es) rest ≡ Some es
or_else-some [] rest h = absurd (h refl)
or_else-some (e ∷ es) rest h = refl

pub or_else-nothing : (es : List Entity) (rest : Option (List Entity)) → es ≡ [] → or_else (Some es) rest ≡ rest
or_else-nothing [] rest h = refl
or_else-nothing (e ∷ es) rest h = cc

pub none-left : (entered : List Entered) → length entered ≡ 0 → reverse entered ≡ []
none-left [] h = refl
none-left (x ∷ xs) h = absurd (omega arith)
