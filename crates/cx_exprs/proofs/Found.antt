-- What names mean.
use Rattle.std.proofs.Common.{◌≡◌, ℕ, zero, suc, ◌<◌, true, List, [], ◌∷◌, None, Some, Ok, Err, length, slice_get, refl}
use Rattle.std.specs.List.{AllByRecursion}
use Rattle.std.proofs.lemmas.Option.{slice_get-map}
use Rattle.cx_base.specs.declared.int_type.IntType.{IntType}
use Rattle.cx_base.specs.declared.rule.Rule.TheVariants as rule
use Rattle.cx_type_defs.specs.declared.ids.VarId.{VarId}
use Rattle.cx_type_defs.specs.Same.{form_of}
use Rattle.cx_type_defs.specs.Tables.{Tables}
use Rattle.cx_typed.specs.declared.program.TVariable.{TVariable}
use Rattle.cx_typed.specs.Fitting.{IsProgram, IsVariableIn}
use Rattle.cx_typed.specs.Programs.{Rows}
use Rattle.cx_typed.specs.Shown.{var_shown, vars_shown}
use Rattle.cx_typed.specs.Well.{int_of}
use Rattle.cx_exprs.specs.Forms.{variable_of}

pub variable_missing : (p : Rows) (v : VarId) → None ≡ slice_get p.variables v.0 → Err rule.LeftOutForm ≡ variable_of v (slice_get (vars_shown p) v.0)
variable_missing p v h = rw (slice_get-map (var_shown p.types) p.variables v.0, ← h) refl

pub variable_there : (p : Rows) (v : VarId) (d : TVariable) (ty : IntType) → Some d ≡ slice_get p.variables v.0 → Some ty ≡ int_of (form_of true p.types d.ty) → Ok (v, form_of true p.types d.ty) ≡ variable_of v (slice_get (vars_shown p) v.0)
variable_there p v d ty h k = rw (slice_get-map (var_shown p.types) p.variables v.0, ← h, ← k) refl

pub variable_other : (p : Rows) (v : VarId) (d : TVariable) → Some d ≡ slice_get p.variables v.0 → None ≡ int_of (form_of true p.types d.ty) → Err rule.LeftOutForm ≡ variable_of v (slice_get (vars_shown p) v.0)
variable_other p v d h k = rw (slice_get-map (var_shown p.types) p.variables v.0, ← h, ← k) refl

known-at : (t : Tables) (vs : List TVariable) (k : ℕ) (d : TVariable) → AllByRecursion (IsVariableIn t) vs → Some d ≡ slice_get vs k → IsVariableIn t d
known-at t [] k d h e = absurd (cc)
known-at t (v ∷ vs) zero d h e = let s : d ≡ v = cc in rw s h.0
known-at t (v ∷ vs) (suc k) d h e = known-at t vs k d h.1 e

pub variable_known : (p : Rows) (v : VarId) (d : TVariable) → IsProgram p → Some d ≡ slice_get p.variables v.0 → d.ty.0 < length p.types.rows
variable_known p v d h e = (known-at p.types p.variables v.0 d h.types e).ty
