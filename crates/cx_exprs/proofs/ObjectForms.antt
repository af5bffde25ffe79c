-- One of two objects or values.
use Rattle.std.proofs.Common.{◌≡◌, Bool, true, false, Option, None, Some, slice_get, refl, sym, ◌∙◌, ap, subst}
use Rattle.std.specs.Prelude.{◌&&◌}
use Rattle.cx_base.specs.declared.diag.Span.{Span}
use Rattle.cx_base.specs.declared.int_type.IntType.{IntType}
use Rattle.cx_base.specs.declared.int_type.IntType.TheVariants as type
use Rattle.cx_type_defs.specs.declared.ids.TypeId.{TypeId}
use Rattle.cx_type_defs.specs.declared.kind.TypeKind.{TypeKind}
use Rattle.cx_type_defs.specs.declared.kind.TypeKind.TheVariants as kind
use Rattle.cx_type_defs.specs.declared.kind.TypeRow.{TypeRow}
use Rattle.cx_type_defs.specs.Same.{Form, Int, form_of, row_form}
use Rattle.cx_type_defs.specs.Sound.{Sound}
use Rattle.cx_type_defs.specs.Tables.{Tables}
use Rattle.cx_type_defs.proofs.Forms.{form-opens}
use Rattle.cx_typed.specs.declared.exprs.TExpr.{TExpr}
use Rattle.cx_typed.specs.Shown.{shown}
use Rattle.cx_typed.specs.Trees.{Conditional, note_of}
use Rattle.cx_typed.proofs.Views.{note_is}
use Rattle.cx_exprs.specs.declared.objects.ObjectType.{ObjectType}
use Rattle.cx_exprs.specs.Forms.{are_alike, chosen, conditional, object_of, same_objects}
use Rattle.cx_exprs.specs.Operators.{between}
use Rattle.cx_exprs.specs.Parts.{Tree, as_value, prvalue, type_of}

row_int : (f : TypeId → Form) (b : Bool) (ty : IntType) → Some (record { ty = ty; konst = b }) ≡ object_of (row_form true f (Some (record { kind = kind.Int ty; konst = b })))
row_int f true ty = refl
row_int f false ty = refl

row_other : (f : TypeId → Form) (b : Bool) (k : TypeKind) → ((ty : IntType) → k ≡ kind.Int ty → ⊥) → None ≡ object_of (row_form true f (Some (record { kind = k; konst = b })))
row_other f b (kind.Int ty) h = absurd (h ty refl)
row_other f true kind.Void h = refl
row_other f true kind.Nullptr h = refl
row_other f true (kind.Enum e) h = refl
row_other f true (kind.Pointer to) h = refl
row_other f true (kind.Reference to) h = refl
row_other f true (kind.Array to n) h = refl
row_other f true (kind.Class cl) h = refl
row_other f false kind.Void h = refl
row_other f false kind.Nullptr h = refl
row_other f false (kind.Enum e) h = refl
row_other f false (kind.Pointer to) h = refl
row_other f false (kind.Reference to) h = refl
row_other f false (kind.Array to n) h = refl
row_other f false (kind.Class cl) h = refl

pub object_int : (t : Tables) → Sound t → (id : TypeId) (r : TypeRow) (ty : IntType) → slice_get t.rows id.0 ≡ Some r → r.kind ≡ kind.Int ty → Some (record { ty = ty; konst = r.konst }) ≡ object_of (form_of true t id)
object_int t s id r ty at h = rw (form-opens true t s id r at) (subst (λ k. Some (record { ty = ty; konst = r.konst }) ≡ object_of (row_form true (form_of true t) (Some (record { kind = k; konst = r.konst })))) (sym h) (row_int (form_of true t) r.konst ty))

pub object_other : (t : Tables) → Sound t → (id : TypeId) (r : TypeRow) → slice_get t.rows id.0 ≡ Some r → ((ty : IntType) → r.kind ≡ kind.Int ty → ⊥) → None ≡ object_of (form_of true t id)
object_other t s id r at h = rw (form-opens true t s id r at) (row_other (form_of true t) r.konst r.kind h)

pub alike_is : (t : Tables) (x y : TExpr) (a b : Option ObjectType) (s : Bool) → a ≡ object_of (form_of true t x.ty) → b ≡ object_of (form_of true t y.ty) → s ≡ same_objects a b → x.lvalue && (y.lvalue && s) ≡ are_alike (note_of (shown t x)) (note_of (shown t y))
alike_is t x y a b s h k e = rw (note_is t x, note_is t y, e, h, k) refl

pub value_chosen : (t : Tables) (c x y u v e : Tree) (a b r : IntType) (f : Form) (at : Span) → a ≡ type_of x → b ≡ type_of y → r ≡ between a b → u ≡ as_value r x → v ≡ as_value r y → f ≡ Int r → e ≡ Conditional c u v (record { ty = f; lvalue = false; span = at }) → e ≡ chosen false c x y at
value_chosen t c x y u v e a b r f at ha hb hr hu hv hf he =
    let s : r ≡ between (type_of x) (type_of y) = hr ∙ ap (λ i. between i b) ha ∙ ap (λ i. between (type_of x) i) hb in
    subst (λ (i : IntType). e ≡ Conditional c (as_value i x) (as_value i y) (prvalue i at)) s (rw (he, hu, hv, hf) refl)

pub object_chosen : (t : Tables) (c : Tree) (x : TExpr) (y e : Tree) (at : Span) → e ≡ Conditional c (shown t x) y (record { ty = form_of true t x.ty; lvalue = x.lvalue; span = at }) → e ≡ chosen true c (shown t x) y at
object_chosen t c x y e at h = rw (h, note_is t x) refl

pub chosen_by : (b : Bool) (z c x y e : Tree) (at : Span) → b ≡ are_alike (note_of x) (note_of y) → z ≡ as_value type.Bool c → e ≡ chosen b z x y at → e ≡ (conditional c x y at).form
chosen_by b z c x y e at h k m = rw (← h, ← k) m
