-- Which integer type a type of the tables is.
use Rattle.std.proofs.Common.{◌≡◌, Bool, true, false, Option, None, Some, refl, sym, ap, ◌∙◌, slice_get, if◌then◌else◌}
use Rattle.std.specs.Prelude.{◌&&◌}
use Rattle.cx_base.specs.declared.int_type.IntType.{IntType}
use Rattle.cx_type_defs.specs.declared.ids.TypeId.{TypeId}
use Rattle.cx_type_defs.specs.declared.kind.TypeRow.{TypeRow}
use Rattle.cx_type_defs.specs.declared.kind.TypeKind.{TypeKind}
use Rattle.cx_type_defs.specs.declared.kind.TypeKind.TheVariants as kind
use Rattle.cx_type_defs.specs.Tables.{Tables}
use Rattle.cx_type_defs.specs.Same.{Form, Void, Nullptr, Int, Enum, Pointer, Reference, Array, Class, Const, Unknown, made_const, kind_form, form_of}
use Rattle.cx_type_defs.specs.Sound.{Sound}
use Rattle.cx_type_defs.proofs.Forms.{form-opens}
use Rattle.cx_typed.specs.Well.{int_of}
use Rattle.cx_typed.specs.Judging.{is_const_int}

-- the integer type that a kind of type is
abbrev pub int_kind : TypeKind → Option IntType
int_kind (kind.Int ty) = Some ty
int_kind _ = None

made-const-int : (f : Form) → int_of (made_const f) ≡ int_of f
made-const-int Void = refl
made-const-int Nullptr = refl
made-const-int (Int ty) = refl
made-const-int (Enum e) = refl
made-const-int (Pointer f) = refl
made-const-int (Reference f) = refl
made-const-int (Array f n) = refl
made-const-int (Class c) = refl
made-const-int (Const f) = refl
made-const-int Unknown = refl

kind-int : (f : TypeId → Form) (k : TypeKind) → int_of (kind_form f k) ≡ int_kind k
kind-int f kind.Void = refl
kind-int f kind.Nullptr = refl
kind-int f (kind.Int ty) = refl
kind-int f (kind.Enum e) = refl
kind-int f (kind.Pointer to) = refl
kind-int f (kind.Reference to) = refl
kind-int f (kind.Array to n) = refl
kind-int f (kind.Class cl) = refl

row-int : (f : TypeId → Form) (b : Bool) (k : TypeKind) → int_of (if b then made_const (kind_form f k) else kind_form f k) ≡ int_kind k
row-int f true k = made-const-int (kind_form f k) ∙ kind-int f k
row-int f false k = kind-int f k

pub int_of_row : (t : Tables) → Sound t → (id : TypeId) (r : TypeRow) → slice_get t.rows id.0 ≡ Some r → int_of (form_of true t id) ≡ int_kind r.kind
int_of_row t s id r at = ap int_of (form-opens true t s id r at) ∙ row-int (form_of true t) (true && r.konst) r.kind

pub int_of_int : (t : Tables) → Sound t → (id : TypeId) (r : TypeRow) (ty : IntType) → slice_get t.rows id.0 ≡ Some r → r.kind ≡ kind.Int ty → Some ty ≡ int_of (form_of true t id)
int_of_int t s id r ty at e = sym (int_of_row t s id r at ∙ ap int_kind e)

no-int : (k : TypeKind) → ((ty : IntType) → k ≡ kind.Int ty → ⊥) → None ≡ int_kind k
no-int kind.Void h = refl
no-int kind.Nullptr h = refl
no-int (kind.Int ty) h = absurd (h ty refl)
no-int (kind.Enum e) h = refl
no-int (kind.Pointer to) h = refl
no-int (kind.Reference to) h = refl
no-int (kind.Array to n) h = refl
no-int (kind.Class cl) h = refl

pub int_of_other : (t : Tables) → Sound t → (id : TypeId) (r : TypeRow) → slice_get t.rows id.0 ≡ Some r → ((ty : IntType) → r.kind ≡ kind.Int ty → ⊥) → None ≡ int_of (form_of true t id)
int_of_other t s id r at h = no-int r.kind h ∙ sym (int_of_row t s id r at)

-- whether it is const, and an integer type

abbrev pub is_int : TypeKind → Bool
is_int (kind.Int ty) = true
is_int _ = false

made-const-is : (f : TypeId → Form) (k : TypeKind) → is_const_int (made_const (kind_form f k)) ≡ is_int k
made-const-is f kind.Void = refl
made-const-is f kind.Nullptr = refl
made-const-is f (kind.Int ty) = refl
made-const-is f (kind.Enum e) = refl
made-const-is f (kind.Pointer to) = refl
made-const-is f (kind.Reference to) = refl
made-const-is f (kind.Array to n) = refl
made-const-is f (kind.Class cl) = refl

plain-const-is : (f : TypeId → Form) (k : TypeKind) → is_const_int (kind_form f k) ≡ false
plain-const-is f kind.Void = refl
plain-const-is f kind.Nullptr = refl
plain-const-is f (kind.Int ty) = refl
plain-const-is f (kind.Enum e) = refl
plain-const-is f (kind.Pointer to) = refl
plain-const-is f (kind.Reference to) = refl
plain-const-is f (kind.Array to n) = refl
plain-const-is f (kind.Class cl) = refl

row-const : (f : TypeId → Form) (b : Bool) (k : TypeKind) → is_const_int (if b then made_const (kind_form f k) else kind_form f k) ≡ b && is_int k
row-const f true k = made-const-is f k
row-const f false k = plain-const-is f k

pub const_of_row : (t : Tables) → Sound t → (id : TypeId) (r : TypeRow) → slice_get t.rows id.0 ≡ Some r → is_const_int (form_of true t id) ≡ r.konst && is_int r.kind
const_of_row t s id r at = ap is_const_int (form-opens true t s id r at) ∙ row-const (form_of true t) r.konst r.kind

module _ (t : Tables) (s : Sound t) (id : TypeId) (r : TypeRow) (at : slice_get t.rows id.0 ≡ Some r) where
  pub const_int : (ty : IntType) → r.konst ≡ true → r.kind ≡ kind.Int ty → true ≡ is_const_int (form_of true t id)
  const_int ty c k = sym (const_of_row t s id r at ∙ ap (λ b. b && is_int r.kind) c ∙ ap is_int k)

  pub const_other : r.konst ≡ true → ((ty : IntType) → r.kind ≡ kind.Int ty → ⊥) → false ≡ is_const_int (form_of true t id)
  const_other c h = sym (const_of_row t s id r at ∙ ap (λ b. b && is_int r.kind) c ∙ other r.kind h)
    where
      other : (k : TypeKind) → ((ty : IntType) → k ≡ kind.Int ty → ⊥) → is_int k ≡ false
      other kind.Void g = refl
      other kind.Nullptr g = refl
      other (kind.Int ty) g = absurd (g ty refl)
      other (kind.Enum e) g = refl
      other (kind.Pointer to) g = refl
      other (kind.Reference to) g = refl
      other (kind.Array to n) g = refl
      other (kind.Class cl) g = refl

  pub const_not : r.konst ≡ false → r.konst ≡ is_const_int (form_of true t id)
  const_not c = c ∙ sym (const_of_row t s id r at ∙ ap (λ b. b && is_int r.kind) c)
