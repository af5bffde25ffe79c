-- Which implicit conversion leads from an argument to a parameter's type, and its rank ([over.best.ics], [conv],
-- [dcl.init.ref]).
use Rattle.std.specs.Prelude.{ℕ, ◌==◌, nat_lt, Bool, true, false, not, ◌&&◌, ◌||◌, List, Option, None, Some, is_some, slice_get, option_map, option_and_then, if◌then◌else◌}
use Rattle.std.specs.List.{list_any}
use Rattle.cx_base.specs.declared.int_type.IntType.{IntType}
use Rattle.cx_base.specs.declared.int_type.IntType.TheVariants as type
use Rattle.cx_ints.specs.Conversions.{promote}
use Rattle.cx_type_defs.specs.declared.ids.ClassId.{ClassId}
use Rattle.cx_type_defs.specs.declared.decl.EnumDecl.{EnumDecl}
use Rattle.cx_type_defs.specs.Same.{Form, Void, Nullptr, Int, Enum, Pointer, Reference, Array, Class, Const}
use Rattle.cx_type_defs.specs.Tables.{Tables, under_of}
use Rattle.cx_derived.specs.Ways.{ways_to}
use Rattle.cx_lookup.specs.declared.rank.RankKind.{RankKind}
use Rattle.cx_lookup.specs.declared.rank.RankKind.TheVariants as kind

-- an argument: its type, whether it is an lvalue, and whether it is the literal 0 ([conv.ptr])
pub record Argument : Type 0 where
  pub ty : Form
  pub lvalue : Bool
  pub null : Bool

-- the types, and for each class what its constructors take that aren't explicit and may be called with one argument
pub record World : Type 0 where
  pub types : Tables
  pub constructors : ClassId → List Form

-- the rank of a conversion, and the class that it leads to where that is a base ([over.best.ics])
pub record Conversion : Type 0 where
  pub kind : RankKind
  pub base : Option ClassId

-- ---- types

abbrev pub int_number : IntType → ℕ
int_number type.Bool = 0
int_number type.Char = 1
int_number type.SChar = 2
int_number type.UChar = 3
int_number type.Short = 4
int_number type.UShort = 5
int_number type.Int = 6
int_number type.UInt = 7
int_number type.Long = 8
int_number type.ULong = 9
int_number type.LongLong = 10
int_number type.ULongLong = 11

abbrev pub same_int : IntType → IntType → Bool
same_int a b = int_number a == int_number b

abbrev pub unqualified : Form → Form
unqualified (Const f) = f
unqualified f = f

-- an array is const where its elements are
abbrev pub is_const : Form → Bool
is_const (Const f) = true
is_const (Array f n) = is_const f
is_const f = false

-- the type without const at any level
abbrev pub bare : Form → Form
bare (Const f) = bare f
bare (Pointer f) = Pointer (bare f)
bare (Reference f) = Reference (bare f)
bare (Array f n) = Array (bare f) n
bare f = f

-- A pointer to the one converts to a pointer to the other where no const is lost, and one is added at a level only where
-- each level above it, from the pointer on, is const in the target ([conv.qual]). The first flag says that those above
-- are, the second that this one is.
abbrev pub qualifies : Bool → Bool → Form → Form → Bool
qualifies above here (Const f) (Const g) = qualifies above true f g
qualifies above here (Const f) g = false
qualifies above here f (Const g) = above && qualifies above true f g
qualifies above here (Pointer f) (Pointer g) = qualifies (above && here) false f g
qualifies above here (Array f n) (Array g m) = (n == m) && qualifies above false f g
qualifies above here Void Void = true
qualifies above here Nullptr Nullptr = true
qualifies above here (Int a) (Int b) = same_int a b
qualifies above here (Enum e) (Enum d) = e.0 == d.0
qualifies above here (Class c) (Class d) = c.0 == d.0
qualifies above here _ _ = false

-- a pointer to f converts so to a pointer to g
abbrev pub takes_const : Form → Form → Bool
takes_const f g = qualifies true false f g

abbrev pub keeps_const : Form → Form → Bool
keeps_const f g = not (is_const f) || is_const g

-- the same type, const aside at every level ([conv.qual])
abbrev pub similar : Form → Form → Bool
similar f g = takes_const (bare f) (bare g)

-- the class is derived from the other ([class.derived])
abbrev pub derived : Tables → ClassId → ClassId → Bool
derived t c b = not (c.0 == b.0) && nat_lt 0 (ways_to t c b)

-- ---- standard conversions ([conv])

abbrev pub ranked : RankKind → Conversion
ranked k = record { kind = k; base = None }

abbrev pub where_true : Bool → Conversion → Option Conversion
where_true b c = if b then Some c else None

abbrev pub int_kind : IntType → IntType → RankKind
int_kind a b = if same_int a b then kind.Exact else (if same_int (promote a) b then kind.Promotion else kind.Conversion)

-- the types to which an unscoped enumeration is promoted, by its fixed type and its underlying one ([conv.prom])
abbrev pub promotes_to : Option IntType → IntType → IntType → Bool
promotes_to None under b = same_int under b
promotes_to (Some fixed) under b = same_int fixed b || same_int (promote fixed) b

-- a scoped enumeration converts to no integer type, nor does one without an underlying type
abbrev pub enum_conversion : IntType → EnumDecl → Option Conversion
enum_conversion b d =
    if d.scoped then None
    else option_map (λ under. ranked (if promotes_to d.fixed under b then kind.Promotion else kind.Conversion)) (under_of d.fixed d.end)

abbrev pub to_base : Tables → Form → Form → Option Conversion
to_base t (Class c) (Class b) = where_true (derived t c b) (record { kind = kind.Conversion; base = Some b })
to_base t _ _ = None

abbrev pub to_void_or_base : Tables → Form → Form → Option Conversion
to_void_or_base t f Void = Some (ranked kind.Conversion)
to_void_or_base t f g = to_base t f g

-- from a pointer to f to a pointer to g ([conv.qual], [conv.ptr])
abbrev pub pointer_conversion : Tables → Form → Form → Option Conversion
pointer_conversion t f g =
    if takes_const f g then Some (ranked kind.Exact)
    else (if keeps_const f g then to_void_or_base t (unqualified f) (unqualified g) else None)

abbrev pub class_conversion : Tables → ClassId → ClassId → Option Conversion
class_conversion t c b = if c.0 == b.0 then Some (ranked kind.Exact) else to_base t (Class c) (Class b)

-- the value of an object, and a pointer to the first element of an array ([conv.lval], [conv.array])
abbrev pub decayed : Form → Form
decayed (Array f n) = Pointer f
decayed f = unqualified f

-- to a type without const that is no reference; the flag says that the value is the literal 0
abbrev pub standard : Tables → Bool → Form → Form → Option Conversion
standard t null (Int a) (Int b) = Some (ranked (int_kind a b))
standard t null (Int a) (Pointer g) = where_true null (ranked kind.Conversion)
standard t null (Int a) Nullptr = where_true null (ranked kind.Conversion)
standard t null Nullptr Nullptr = Some (ranked kind.Exact)
standard t null Nullptr (Pointer g) = Some (ranked kind.Conversion)
standard t null (Enum e) (Enum d) = where_true (e.0 == d.0) (ranked kind.Exact)
standard t null (Enum e) (Int b) = option_and_then (enum_conversion b) (slice_get t.enums e.0)
standard t null (Pointer f) (Int type.Bool) = Some (ranked kind.Conversion)
standard t null (Pointer f) (Pointer g) = pointer_conversion t f g
standard t null (Class c) (Class b) = class_conversion t c b
standard t null _ _ = None

abbrev pub to_value : Tables → Argument → Form → Option Conversion
to_value t a g = standard t a.null (decayed a.ty) (unqualified g)

-- ---- references ([dcl.init.ref], [over.ics.ref])

-- the same type, const aside, or a class and a base of it
abbrev pub related : Tables → Form → Form → Bool
related t f g = similar f g || is_some (to_base t (unqualified f) (unqualified g))

-- A reference binds to what a pointer to it could designate: to an lvalue, or where it refers to const. Else a reference
-- to const binds to a new object that is converted, but not where the types are related.
abbrev pub binds : Tables → Argument → Form → Option Conversion → Option Conversion → Option Conversion
binds t a g (Some c) converted = where_true (a.lvalue || is_const g) c
binds t a g None converted = if is_const g && not (related t a.ty g) then converted else None

-- ---- implicit conversions ([over.best.ics])

-- without a conversion by user
abbrev pub not_by_user : Tables → Argument → Form → Option Conversion
not_by_user t a (Reference g) = binds t a g (pointer_conversion t a.ty g) (to_value t a g)
not_by_user t a g = to_value t a g

-- a constructor of the class takes the argument; what it takes is converted by no user again ([class.conv.ctor])
abbrev pub by_user : World → Argument → Form → Option Conversion
by_user w a (Class c) = where_true (list_any (λ p. is_some (not_by_user w.types a p)) (w.constructors c)) (ranked kind.User)
by_user w a g = None

abbrev pub or_else : Option Conversion → Option Conversion → Option Conversion
or_else None d = d
or_else (Some c) d = Some c

abbrev pub implicitly : World → Argument → Form → Option Conversion
implicitly w a g = or_else (to_value w.types a g) (by_user w a (unqualified g))

-- the conversion of an argument to a parameter's type, None where there is none
abbrev pub conversion : World → Argument → Form → Option Conversion
conversion w a (Reference g) = binds w.types a g (pointer_conversion w.types a.ty g) (implicitly w a g)
conversion w a g = implicitly w a g
