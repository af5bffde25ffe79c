-- A variable that is initialized is there.
use Rattle.std.proofs.Common.{◌≡◌, ℕ, zero, suc, ◌<◌, List, [], ◌∷◌, Some, length, refl, ap}
use Rattle.cx_type_defs.specs.declared.ids.VarId.{VarId}
use Rattle.cx_type_defs.specs.Same.{Form}
use Rattle.cx_type_defs.specs.Tables.{changed_at}
use Rattle.cx_typed.specs.Trees.{Tx, Var}
use Rattle.cx_typed.specs.Well.{MayInitialize}
use Rattle.cx_typed.proofs.Growth.{initialize_there}

length-changed : {A : Type 0} (f : A → A) (xs : List A) (i : ℕ) → length (changed_at f xs i) ≡ length xs
length-changed f [] i = refl
length-changed f (x ∷ xs) zero = refl
length-changed f (x ∷ xs) (suc i) = ap suc (length-changed f xs i)

pub is_there : (vs us : List Var) (v : VarId) (x : Tx Form) → MayInitialize vs v x → us ≡ changed_at (λ (d : Var). record d { init = Some x }) vs v.0 → v.0 < length us
is_there vs us v x m e = rw (e, length-changed (λ (d : Var). record d { init = Some x }) vs v.0) (initialize_there vs v x m)
