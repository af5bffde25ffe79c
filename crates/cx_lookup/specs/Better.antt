-- When one implicit conversion of an argument is better than another ([over.ics.rank]).
use Rattle.std.specs.Prelude.{ℕ, ◌==◌, nat_lt, Bool, true, false, not, ◌&&◌, ◌||◌}
use Rattle.cx_base.specs.declared.int_type.IntType.TheVariants as type
use Rattle.cx_type_defs.specs.declared.ids.ClassId.{ClassId}
use Rattle.cx_type_defs.specs.Same.{Form, Void, Int, Pointer, Reference, Class}
use Rattle.cx_lookup.specs.declared.rank.RankKind.{RankKind}
use Rattle.cx_lookup.specs.declared.rank.RankKind.TheVariants as kind
use Rattle.cx_lookup.specs.Ranks.{Conversion, unqualified, takes_const}

-- a conversion to a type
pub record Converted : Type 0 where
  pub by : Conversion
  pub to : Form

-- exact matches come first, then promotions, conversions, and conversions by user
abbrev pub order : RankKind → ℕ
order kind.Exact = 0
order kind.Promotion = 1
order kind.Conversion = 2
order kind.User = 3

-- what a conversion leads to, as far as it matters beside its rank
pub data Aim : Type 0 where
  AtClass : ClassId → Aim  -- a class, or a pointer to it
  AtVoid : Aim  -- a pointer to void
  AtBool : Aim
  Elsewhere : Aim

abbrev pub referred : Form → Form
referred (Reference f) = f
referred f = f

abbrev pub pointed_aim : Form → Aim
pointed_aim (Class c) = AtClass c
pointed_aim Void = AtVoid
pointed_aim f = Elsewhere

abbrev pub value_aim : Form → Aim
value_aim (Class c) = AtClass c
value_aim (Pointer f) = pointed_aim (unqualified f)
value_aim (Int type.Bool) = AtBool
value_aim f = Elsewhere

abbrev pub aim : Form → Aim
aim f = value_aim (unqualified (referred f))

abbrev pub is_pointer : Form → Bool
is_pointer (Pointer f) = true
is_pointer f = false

-- Of conversions from a pointer one to bool is the last. A class is before its bases, and a pointer to a class before
-- one to void; the argument isn't null then, since what is compared starts at a class or at a pointer.
abbrev pub aims_before : (ClassId → ClassId → Bool) → Bool → Aim → Aim → Bool
aims_before derived pointer AtBool d = false
aims_before derived pointer c AtBool = pointer
aims_before derived pointer (AtClass c) (AtClass d) = derived c d
aims_before derived pointer (AtClass c) AtVoid = pointer
aims_before derived pointer c d = false

-- only a class or a pointer leads so
abbrev pub is_aiming : Form → Bool
is_aiming (Pointer f) = true
is_aiming (Class c) = true
is_aiming f = false

-- to a similar type with less const: of references at what they refer to, of values below the pointer
abbrev pub strictly : Form → Form → Bool
strictly f g = takes_const f g && not (takes_const g f)

abbrev pub below : Form → Form → Bool
below (Pointer f) (Pointer g) = strictly f g
below f g = false

abbrev pub less_const : Form → Form → Bool
less_const (Reference f) (Reference g) = strictly f g
less_const f g = below (unqualified (referred f)) (unqualified (referred g))

abbrev pub closer : (ClassId → ClassId → Bool) → Form → Form → Form → Bool
closer derived from f g = (is_aiming from && aims_before derived (is_pointer from) (aim f) (aim g)) || less_const f g

-- two conversions by user don't compare
abbrev pub is_standard : RankKind → Bool
is_standard kind.User = false
is_standard k = true

abbrev pub better : (ClassId → ClassId → Bool) → Form → Converted → Converted → Bool
better derived from c d =
    nat_lt (order c.by.kind) (order d.by.kind)
    || ((order c.by.kind == order d.by.kind) && (is_standard c.by.kind && closer derived from c.to d.to))
