-- What typing has at hand stays in order where it grows.
use Rattle.std.proofs.Common.{◌≡◌, ◌<◌, true, Some, List, ◌∷◌, [], ◌++◌, length, slice_get, refl}
use Rattle.std.proofs.lemmas.Option.{slice_get_within}
use Rattle.cx_base.specs.declared.int_type.IntType.{IntType}
use Rattle.cx_type_defs.specs.declared.ids.TypeId.{TypeId}
use Rattle.cx_type_defs.specs.declared.ids.VarId.{VarId}
use Rattle.cx_type_defs.specs.declared.kind.TypeKind.TheVariants as kind
use Rattle.cx_type_defs.specs.declared.kind.TypeRow.{TypeRow}
use Rattle.cx_type_defs.specs.Same.{form_of, Form, Int, Const}
use Rattle.cx_type_defs.specs.Sound.{Sound}
use Rattle.cx_type_defs.specs.Tables.{Tables, Grows as TypesGrow, changed_at}
use Rattle.cx_type_defs.proofs.Forms.{form-opens}
use Rattle.cx_type_defs.proofs.Looking.{row-grows}
use Rattle.cx_typed.specs.Trees.{Tx, Var}
use Rattle.cx_typed.specs.Programs.{Rows}
use Rattle.cx_typed.specs.Shown.{vars_shown}
use Rattle.cx_typed.specs.Well.{Grows, IsInteger, MayInitialize}
use Rattle.cx_typed.proofs.Keeping.{grows_declared, grows_initialized}
use Rattle.cx_exprs.specs.Desks.{HasInts, id_in, int_row}
use Rattle.cx_exprs.specs.declared.ints.Ints.{Ints}

abbrev pub const_row : IntType → TypeRow
const_row ty = record { kind = kind.Int ty; konst = true }

pub ints_grown : (t u : Tables) (i : Ints) → TypesGrow t u → HasInts t i → HasInts u i
ints_grown t u i g h = record { each = λ ty. row-grows t u g (id_in i ty).0 (int_row ty) (h.each ty) }

pub ints_same : (t u : Tables) (i : Ints) → u ≡ t → HasInts t i → HasInts u i
ints_same t u i e h = rw e h

pub const_form : (t : Tables) (ty : IntType) (id : TypeId) → Sound t → slice_get t.rows id.0 ≡ Some (const_row ty) → form_of true t id ≡ Const (Int ty)
const_form t ty id s h = form-opens true t s id (const_row ty) h

pub const_known : (t : Tables) (ty : IntType) (id : TypeId) → slice_get t.rows id.0 ≡ Some (const_row ty) → id.0 < length t.rows
const_known t ty id h = slice_get_within t.rows id.0 (const_row ty) h

pub same_fits : (P : List Var → Type 0) (p q : List Var) → q ≡ p → P p → P q
same_fits P p q e h = rw e h

pub declared_fits : (P : List Var → Type 0) → ((p q : List Var) → Grows p q → P p → P q) → (p q : List Var) (v : Var) → q ≡ p ++ v ∷ [] → P p → P q
declared_fits P on p q v e h = rw e (on p (p ++ v ∷ []) (grows_declared p v) h)

pub initialized_fits : (P : List Var → Type 0) → ((p q : List Var) → Grows p q → P p → P q) → (p q : List Var) (v : VarId) (x : Tx Form) → MayInitialize p v x → q ≡ changed_at (λ (w : Var). record w { init = Some x }) p v.0 → P p → P q
initialized_fits P on p q v x may e h = rw e (on p _ (grows_initialized p v x may) h)

pub const_integer : (t : Tables) (ty : IntType) (id : TypeId) → form_of true t id ≡ Const (Int ty) → IsInteger (form_of true t id)
const_integer t ty id h = record { ty = ty; of_type = rw h refl }

pub unchanged_fits : (P : List Var → Type 0) (p q : Rows) → q.types ≡ p.types → q.variables ≡ p.variables → P (vars_shown p) → P (vars_shown q)
unchanged_fits P p q t v h = rw (t, v) h
