-- A program's types, classes and enumerations as lists in order of declaration, and how they grow ([basic.types],
-- [class.pre], [dcl.enum]).
use Rattle.std.specs.Prelude.{◌≡◌, ℕ, zero, suc, Bool, false, ◌==◌, ◌<◌, ◌≤◌, List, [], ◌∷◌, ◌++◌, length, Option, None, Some, slice_get, option_and_then, option_map}
use Rattle.std.specs.List.{list_any}
use Rattle.cx_base.specs.declared.int_type.IntType.{IntType}
use Rattle.cx_base.specs.declared.int_type.IntType.TheVariants as int
use Rattle.cx_type_defs.specs.declared.ids.ClassId.{ClassId}
use Rattle.cx_type_defs.specs.declared.ids.EnumId.{EnumId}
use Rattle.cx_type_defs.specs.declared.ids.FuncId.{FuncId}
use Rattle.cx_type_defs.specs.declared.kind.TypeRow.{TypeRow}
use Rattle.cx_type_defs.specs.declared.kind.TypeKind.{TypeKind}
use Rattle.cx_type_defs.specs.declared.kind.TypeKind.TheVariants as kind
use Rattle.cx_type_defs.specs.declared.decl.Field.{Field}
use Rattle.cx_type_defs.specs.declared.decl.ClassDecl.{ClassDecl}
use Rattle.cx_type_defs.specs.declared.decl.ClassBody.{ClassBody}
use Rattle.cx_type_defs.specs.declared.decl.EnumDecl.{EnumDecl}
use Rattle.cx_type_defs.specs.declared.decl.EnumEnd.{EnumEnd}

pub record Tables : Type 0 where
  pub rows : List TypeRow
  pub classes : List ClassDecl
  pub enums : List EnumDecl

-- the bytes that an integer type takes ([basic.fundamental])
abbrev pub int_size : IntType → ℕ
int_size int.Bool = 1
int_size int.Char = 1
int_size int.SChar = 1
int_size int.UChar = 1
int_size int.Short = 2
int_size int.UShort = 2
int_size int.Int = 4
int_size int.UInt = 4
int_size int.Long = 8
int_size int.ULong = 8
int_size int.LongLong = 8
int_size int.ULongLong = 8

-- an enumeration's underlying type: the one that its declaration fixes, or the one that its end gives
abbrev pub under_of : Option IntType → Option EnumEnd → Option IntType
under_of (Some fixed) end = Some fixed
under_of None end = option_map (λ e. e.under) end

abbrev pub under_at : Tables → EnumId → Option IntType
under_at t e = option_and_then (λ (d : EnumDecl). under_of d.fixed d.end) (slice_get t.enums e.0)

-- each item of xs stands in ys at its place, as R allows
abbrev pub Along : {A : Type 0} → (A → A → Type 0) → List A → List A → Type 0
Along R [] ys = Unit {0}
Along R (x ∷ xs) [] = ⊥
Along R (x ∷ xs) (y ∷ ys) = R x y × Along R xs ys

-- what was known stays known
abbrev pub Stays : {A : Type 0} → Option A → Option A → Type 0
Stays None now = Unit {0}
Stays (Some a) now = now ≡ Some a

-- a class stays, or has become complete
pub record ClassGrows (old now : ClassDecl) : Type 0 where
  pub same_name : now.name ≡ old.name
  pub same_key : now.key ≡ old.key
  pub body_stays : Stays old.body now.body

-- an enumeration stays, or its list has ended
pub record EnumGrows (old now : EnumDecl) : Type 0 where
  pub same_name : now.name ≡ old.name
  pub same_scope : now.scoped ≡ old.scoped
  pub same_fixed : now.fixed ≡ old.fixed
  pub end_stays : Stays old.end now.end

-- each list of `old` is a prefix of that of `now`, save that a class or enumeration may have become complete
pub record Grows (old now : Tables) : Type 0 where
  pub row_list : Along (λ a b. b ≡ a) old.rows now.rows
  pub class_list : Along ClassGrows old.classes now.classes
  pub enum_list : Along EnumGrows old.enums now.enums

-- no types at all
abbrev pub no_types : Tables
no_types = record { rows = []; classes = []; enums = [] }

-- the list with the item at i changed by f
abbrev pub changed_at : {A : Type 0} → (A → A) → List A → ℕ → List A
changed_at f [] i = []
changed_at f (x ∷ xs) zero = f x ∷ xs
changed_at f (x ∷ xs) (suc i) = x ∷ changed_at f xs i

abbrev pub with_row : Tables → TypeRow → Tables
with_row t row = record t { rows = t.rows ++ row ∷ [] }

abbrev pub with_class : Tables → ClassDecl → Tables
with_class t d = record t { classes = t.classes ++ d ∷ [] }

abbrev pub with_enum : Tables → EnumDecl → Tables
with_enum t d = record t { enums = t.enums ++ d ∷ [] }

-- the class is complete
abbrev pub with_body : Tables → ClassId → ClassBody → Tables
with_body t c b = record t { classes = changed_at (λ (d : ClassDecl). record d { body = Some b }) t.classes c.0 }

-- the enumeration's list has ended
abbrev pub with_end : Tables → EnumId → EnumEnd → Tables
with_end t id e = record t { enums = changed_at (λ (d : EnumDecl). record d { end = Some e }) t.enums id.0 }

abbrev pub body_at : Tables → ClassId → Option ClassBody
body_at t c = option_and_then (λ (d : ClassDecl). d.body) (slice_get t.classes c.0)

abbrev pub base_of : Tables → ClassId → ℕ → Option ClassId
base_of t c i = option_and_then (λ (b : ClassBody). slice_get b.bases i) (body_at t c)

abbrev pub field_of : Tables → ClassId → ℕ → Option Field
field_of t c i = option_and_then (λ (b : ClassBody). slice_get b.fields i) (body_at t c)

-- the final overrider of a virtual function: what the class's slot holds ([class.virtual])
abbrev pub overrider : Tables → ClassId → ℕ → Option FuncId
overrider t c k = option_and_then (λ (b : ClassBody). slice_get b.slots k) (body_at t c)

-- the ids that a type names are those of the tables, and an array has an element
abbrev pub IsKnown : Tables → TypeKind → Type 0
IsKnown t kind.Void = Unit {0}
IsKnown t kind.Nullptr = Unit {0}
IsKnown t (kind.Int ty) = Unit {0}
IsKnown t (kind.Enum e) = e.0 < length t.enums
IsKnown t (kind.Pointer to) = to.0 < length t.rows
IsKnown t (kind.Reference to) = to.0 < length t.rows
IsKnown t (kind.Array of n) = (of.0 < length t.rows) × (1 ≤ n)
IsKnown t (kind.Class c) = c.0 < length t.classes

-- the function is one of these
abbrev pub lists_function : FuncId → List FuncId → Bool
lists_function f fs = list_any (λ (g : FuncId). f.0 == g.0) fs

-- a complete class has the function among its pures ([class.abstract])
abbrev pub body_declares : FuncId → Option ClassBody → Bool
body_declares f None = false
body_declares f (Some b) = lists_function f b.pures

abbrev pub declared_pure : Tables → FuncId → Bool
declared_pure t f = list_any (λ (d : ClassDecl). body_declares f d.body) t.classes
