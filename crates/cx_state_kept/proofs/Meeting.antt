-- How the conditions of a store's calls are met.
use Rattle.std.proofs.Common.{◌≡◌, ℕ, ◌*◌, ◌≤◌, true, None, Some, inl, inr, sym, subst, ◌∙◌, slice_get, arith}
use Rattle.std.specs.Prelude.{unwrap_or}
use Rattle.cx_type_defs.specs.declared.ids.TypeId.{TypeId}
use Rattle.cx_type_defs.specs.declared.kind.TypeRow.{TypeRow}
use Rattle.cx_type_defs.specs.declared.kind.TypeKind.{TypeKind}
use Rattle.cx_type_defs.specs.declared.kind.TypeKind.TheVariants as kind
use Rattle.cx_type_defs.specs.Tables.{Tables}
use Rattle.cx_type_defs.specs.Sound.{Sound}
use Rattle.cx_type_defs.specs.Questions.{OfType, asked, cells_of, is_complete}
use Rattle.cx_type_defs.proofs.Lists.{some_inj}
use Rattle.cx_state.specs.declared.kind.Scalar.{Scalar}
use Rattle.cx_state.specs.Objects.{Path, Objects}
use Rattle.cx_state.specs.Places.{row_of}
use Rattle.cx_state.specs.Alike.{Alike}
use Rattle.cx_state.specs.Forms.{HoldsValue, IsPointee, Designates, MayHold}
use Rattle.cx_state.proofs.Complete.{complete-cells}
use Rattle.cx_state.proofs.SameTypes.{alike-holds, alike-scalar}
use Rattle.cx_store.specs.Stores.{IsOf, IsWhole, IsScalarAt, MayTake}

-- objects of complete types

pub many_whole : (t : Tables) (ty : TypeId) (n cells : ℕ) → is_complete t ty ≡ true → asked cells_of t (OfType ty) ≡ Some cells → n * cells ≤ 1073741824 → IsWhole t ty (Some n)
many_whole t ty n cells e c l = record { complete = e; few = subst (λ o. n * unwrap_or o 0 ≤ 1073741824) (sym c) l }

pub one_whole : (t : Tables) (ty : TypeId) → Sound t → is_complete t ty ≡ true → IsWhole t ty None
one_whole t ty s e =
    let c = complete-cells t ty e in
    let l = s.few_cells (OfType ty) c.0 c.1 in
    record { complete = e; few = subst (λ o. 1 * unwrap_or o 0 ≤ 1073741824) (sym c.1) (omega arith) }

-- places that take values

pub alike_scalar_at : (t : Tables) (os : Objects) (p : Path) (row : TypeRow) (k : TypeKind) → row_of t os p ≡ Some row → Alike t k row.kind → HoldsValue k → IsScalarAt t os p
alike_scalar_at t os p row k e a h = subst (IsOf (λ r. HoldsValue r.kind)) (sym e) (alike-scalar t k row.kind a h)

pub alike_takes : (t : Tables) (os : Objects) (p : Path) (row : TypeRow) (k : TypeKind) (v : Scalar Path) → row_of t os p ≡ Some row → Alike t k row.kind → MayHold t os k v → MayTake t os p v
alike_takes t os p row k v e a h = subst (IsOf (λ r. MayHold t os r.kind v)) (sym e) (alike-holds t os k row.kind v a h)

-- what a pointer to a scalar leads to is of the same type
led-alike : (t : Tables) (k l : TypeKind) → HoldsValue k → IsPointee t k l → Alike t k l
led-alike t k l h (inl e) = absurd (subst HoldsValue e h)
led-alike t k l h (inr a) = a

led : (t : Tables) (os : Objects) (to : TypeId) (row : TypeRow) (p : Path) → slice_get t.rows to.0 ≡ Some row → HoldsValue row.kind → (d : Designates t os to p) → Alike t row.kind d.found.kind
led t os to row p e h d = led-alike t row.kind d.found.kind h (subst (λ (w : TypeRow). IsPointee t w.kind d.found.kind) (some_inj d.asked row (sym d.is_asked ∙ e)) d.alike)

pub pointee_scalar : (t : Tables) (os : Objects) (to : TypeId) (row : TypeRow) (p : Path) → slice_get t.rows to.0 ≡ Some row → HoldsValue row.kind → Designates t os to p → IsScalarAt t os p
pointee_scalar t os to row p e h d = alike_scalar_at t os p d.found row.kind d.is_found (led t os to row p e h d) h

pub pointee_takes : (t : Tables) (os : Objects) (to : TypeId) (row : TypeRow) (p : Path) (v : Scalar Path) → slice_get t.rows to.0 ≡ Some row → HoldsValue row.kind → Designates t os to p → MayHold t os row.kind v → MayTake t os p v
pointee_takes t os to row p v e h d m = alike_takes t os p d.found row.kind v d.is_found (led t os to row p e h d) m
