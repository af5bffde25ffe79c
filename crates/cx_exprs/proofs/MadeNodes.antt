-- The nodes that typing makes.
use Rattle.std.proofs.Common.{◌≡◌, Bool, true, false, Option, refl, sym}
use Rattle.cx_base.specs.declared.diag.Span.{Span}
use Rattle.cx_base.specs.declared.int_type.IntType.{IntType}
use Rattle.cx_ints.specs.declared.int.Int.{Int as Number}
use Rattle.cx_ops.specs.declared.StrictOp.{StrictOp}
use Rattle.cx_ops.specs.declared.StrictOp.TheVariants as op
use Rattle.cx_type_defs.specs.declared.ids.TypeId.{TypeId}
use Rattle.cx_type_defs.specs.Same.{Form, form_of, Int}
use Rattle.cx_type_defs.specs.Tables.{Tables}
use Rattle.cx_typed.specs.declared.exprs.TExpr.{TExpr}
use Rattle.cx_typed.specs.declared.exprs.TNode as n
use Rattle.cx_typed.specs.Trees.{Note, Constant, Load, Unary, note_of}
use Rattle.cx_typed.specs.Shown.{shown}
use Rattle.cx_typed.specs.Well.{int_of}
use Rattle.cx_typed.proofs.Views.{texpr, form_note, note_is, shown_constant, shown_load, shown_unary}
use Rattle.cx_exprs.specs.Parts.{Tree, converted, loaded, prvalue, same_type, type_by, type_in, type_of}

pub type_is : (t : Tables) (x : TExpr) (o : Option IntType) → o ≡ int_of (form_of true t x.ty) → type_by o ≡ type_of (shown t x)
type_is t x o h = rw (note_is t x, h) refl

-- the note of a value of that type
pub value_note : (t : Tables) (id : TypeId) (ty : IntType) (at : Span) → form_of true t id ≡ Int ty → form_note t id false at ≡ prvalue ty at
value_note t id ty at h = rw h refl

loaded_of_value : (y : Tree) (i : Note Form) → note_of y ≡ i → i.lvalue ≡ false → loaded y ≡ y
loaded_of_value y i h l = rw (h, l) refl

loaded_of_object : (y : Tree) (i : Note Form) → note_of y ≡ i → i.lvalue ≡ true → loaded y ≡ Load y (prvalue (type_in i) i.span)
loaded_of_object y i h l = rw (h, l) refl

pub loaded_same : (t : Tables) (x : TExpr) → x.lvalue ≡ false → shown t x ≡ loaded (shown t x)
loaded_same t x h = sym (loaded_of_value (shown t x) (form_note t x.ty x.lvalue x.span) (note_is t x) h)

pub loaded_form : (t : Tables) (x : TExpr) (id : TypeId) (ty : IntType) → x.lvalue ≡ true → ty ≡ type_of (shown t x) → form_of true t id ≡ Int ty → shown t (texpr (n.Load x) id false x.span) ≡ loaded (shown t x)
loaded_form t x id ty l h f =
    rw (shown_load t x id false x.span, value_note t id ty x.span f, h, loaded_of_object (shown t x) (form_note t x.ty x.lvalue x.span) (note_is t x) l, note_is t x) refl

pub unary_form : (t : Tables) (o : StrictOp) (x : TExpr) (id : TypeId) (ty : IntType) (at : Span) → form_of true t id ≡ Int ty → shown t (texpr (n.Unary o x) id false at) ≡ Unary o (shown t x) (prvalue ty at)
unary_form t o x id ty at f = rw (shown_unary t o x id false at, value_note t id ty at f) refl

converted_of_same : (y : Tree) (ty : IntType) → same_type (type_of y) ty ≡ true → converted ty y ≡ y
converted_of_same y ty h = rw h refl

converted_of_other : (y : Tree) (ty : IntType) (i : Note Form) → note_of y ≡ i → same_type (type_of y) ty ≡ false → converted ty y ≡ Unary (op.Convert ty) y (prvalue ty i.span)
converted_of_other y ty i h l = rw (l, h) refl

pub converted_same : (t : Tables) (x : TExpr) (ty : IntType) → true ≡ same_type (type_of (shown t x)) ty → shown t x ≡ converted ty (shown t x)
converted_same t x ty h = sym (converted_of_same (shown t x) ty (sym h))

pub converted_form : (t : Tables) (x : TExpr) (ty : IntType) (m : Tree) → false ≡ same_type (type_of (shown t x)) ty → m ≡ Unary (op.Convert ty) (shown t x) (prvalue ty x.span) → m ≡ converted ty (shown t x)
converted_form t x ty m h f = rw (converted_of_other (shown t x) ty (form_note t x.ty x.lvalue x.span) (note_is t x) (sym h)) f

pub constant_form : (t : Tables) (a : Number) (id : TypeId) (ty : IntType) (at : Span) → form_of true t id ≡ Int ty → shown t (texpr (n.Constant a) id false at) ≡ Constant a (prvalue ty at)
constant_form t a id ty at f = rw (shown_constant t a id false at, value_note t id ty at f) refl

loaded_note : (y : Tree) (i : Note Form) → note_of y ≡ i → type_in (note_of (loaded y)) ≡ type_by (int_of i.ty)
loaded_note y i h = by i.lvalue refl
  where
    by : (b : Bool) → i.lvalue ≡ b → type_in (note_of (loaded y)) ≡ type_by (int_of i.ty)
    by true l = rw (h, l) refl
    by false l = rw (h, l, h) refl

-- a value has the type of its object
pub loaded_type : (y : Tree) → type_of (loaded y) ≡ type_of y
loaded_type y = loaded_note y (note_of y) refl
