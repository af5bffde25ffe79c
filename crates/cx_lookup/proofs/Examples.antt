-- The definitions at work: the pairs of integer types by rows that are written from [conv.prom] and [conv.integral], and
-- calls from [over.match].
use Rattle.std.proofs.Common.{◌≡◌, ℕ, zero, suc, refl, true, false, List, [], ◌∷◌, None, Some, map}
use Rattle.cx_base.specs.declared.int_type.IntType.{IntType}
use Rattle.cx_base.specs.declared.int_type.IntType.TheVariants as type
use Rattle.cx_ints.specs.Ranges.{width}
use Rattle.cx_ints.specs.Conversions.{promote}
use Rattle.cx_type_defs.specs.declared.ids.ClassId.{ClassId}
use Rattle.cx_type_defs.specs.declared.decl.ClassDecl.{ClassDecl}
use Rattle.cx_type_defs.specs.declared.decl.ClassKey.TheVariants as key
use Rattle.cx_type_defs.specs.declared.decl.ClassFlags.{ClassFlags}
use Rattle.cx_type_defs.specs.Same.{Form, Void, Int, Enum, Pointer, Reference, Array, Class, Const}
use Rattle.cx_type_defs.specs.Tables.{Tables, no_types}
use Rattle.cx_type_defs.specs.Questions.{most_levels}
use Rattle.cx_derived.specs.Ways.{ways_to, ways_within}
use Rattle.cx_lookup.specs.declared.rank.RankKind.{RankKind}
use Rattle.cx_lookup.specs.declared.rank.RankKind.TheVariants as kind
use Rattle.cx_lookup.specs.Ranks.{Argument, World, conversion, int_kind}
use Rattle.cx_lookup.specs.Choice.{Parameter, Object, Ignored, Signature, Choice, Chosen, NoMatch, Ambiguous, choice}

-- ---- integer types

abbrev all : List IntType
all = type.Bool ∷ type.Char ∷ type.SChar ∷ type.UChar ∷ type.Short ∷ type.UShort ∷ type.Int ∷ type.UInt ∷ type.Long ∷ type.ULong ∷ type.LongLong ∷ type.ULongLong ∷ []

abbrev e : RankKind
e = kind.Exact

abbrev p : RankKind
p = kind.Promotion

abbrev c : RankKind
c = kind.Conversion

-- from each type, in this order, to each
kinds : map (λ from. map (int_kind from) all) all
    ≡ (e ∷ c ∷ c ∷ c ∷ c ∷ c ∷ p ∷ c ∷ c ∷ c ∷ c ∷ c ∷ [])
    ∷ (c ∷ e ∷ c ∷ c ∷ c ∷ c ∷ p ∷ c ∷ c ∷ c ∷ c ∷ c ∷ [])
    ∷ (c ∷ c ∷ e ∷ c ∷ c ∷ c ∷ p ∷ c ∷ c ∷ c ∷ c ∷ c ∷ [])
    ∷ (c ∷ c ∷ c ∷ e ∷ c ∷ c ∷ p ∷ c ∷ c ∷ c ∷ c ∷ c ∷ [])
    ∷ (c ∷ c ∷ c ∷ c ∷ e ∷ c ∷ p ∷ c ∷ c ∷ c ∷ c ∷ c ∷ [])
    ∷ (c ∷ c ∷ c ∷ c ∷ c ∷ e ∷ p ∷ c ∷ c ∷ c ∷ c ∷ c ∷ [])
    ∷ (c ∷ c ∷ c ∷ c ∷ c ∷ c ∷ e ∷ c ∷ c ∷ c ∷ c ∷ c ∷ [])
    ∷ (c ∷ c ∷ c ∷ c ∷ c ∷ c ∷ c ∷ e ∷ c ∷ c ∷ c ∷ c ∷ [])
    ∷ (c ∷ c ∷ c ∷ c ∷ c ∷ c ∷ c ∷ c ∷ e ∷ c ∷ c ∷ c ∷ [])
    ∷ (c ∷ c ∷ c ∷ c ∷ c ∷ c ∷ c ∷ c ∷ c ∷ e ∷ c ∷ c ∷ [])
    ∷ (c ∷ c ∷ c ∷ c ∷ c ∷ c ∷ c ∷ c ∷ c ∷ c ∷ e ∷ c ∷ [])
    ∷ (c ∷ c ∷ c ∷ c ∷ c ∷ c ∷ c ∷ c ∷ c ∷ c ∷ c ∷ e ∷ []) ∷ []
unfolding promote width
kinds = refl

-- ---- calls over scalars

abbrev int : Form
int = Int type.Int

-- `enum class E { .. }` is the first enumeration, and `enum E : unsigned char { .. }` the second
abbrev tables : Tables
tables = record no_types { enums = record { name = []; scoped = true; fixed = Some type.Int; end = None } ∷ record { name = []; scoped = false; fixed = Some type.UChar; end = None } ∷ [] }

-- the first class has a constructor that takes an int, the second one that takes the first class
abbrev made_from : ℕ → List Form
made_from zero = int ∷ []
made_from (suc zero) = Class (record { 0 = 0 }) ∷ []
made_from (suc (suc zero)) = int ∷ []
made_from _ = []

abbrev world : World
world = record { types = tables; constructors = λ k. made_from k.0 }

abbrev class : ℕ → Form
class n = Class (record { 0 = n })

abbrev enum : ℕ → Form
enum n = Enum (record { 0 = n })

-- functions with these parameters, numbered from 0 on
abbrev function : ℕ → List Form → Signature
function n fs = record { id = record { 0 = n }; first = Parameter; parameters = fs; defaults = 0 }

abbrev lvalue : Form → Argument
lvalue f = record { ty = f; lvalue = true; null = false }

abbrev value : Form → Argument
value f = record { ty = f; lvalue = false; null = false }

abbrev zero_literal : Argument
zero_literal = record { ty = int; lvalue = false; null = true }

abbrev two : List Form → List Form → List Argument → Choice
two fs gs args = choice world (function 0 fs ∷ function 1 gs ∷ []) args

abbrev one : List Form → List Argument → Choice
one fs args = choice world (function 0 fs ∷ []) args

abbrev chosen : ℕ → Choice
chosen n = Chosen (record { 0 = n })

-- f(long), f(char) with an int
long_or_char : two (Int type.Long ∷ []) (Int type.Char ∷ []) (value int ∷ []) ≡ Ambiguous
unfolding promote width
long_or_char = refl

-- f(long), f(int) with a char: a promotion is before a conversion
promoted : two (Int type.Long ∷ []) (int ∷ []) (value (Int type.Char) ∷ []) ≡ chosen 1
unfolding promote width
promoted = refl

-- f(int*) with an int, and with 0
no_pointer : one (Pointer int ∷ []) (value int ∷ []) ≡ NoMatch
no_pointer = refl

null_pointer : one (Pointer int ∷ []) (zero_literal ∷ []) ≡ chosen 0
null_pointer = refl

-- int f(int); int f(unsigned char); enum E : unsigned char { a }; f(a)
fixed_type : two (int ∷ []) (Int type.UChar ∷ []) (value (enum 1) ∷ []) ≡ Ambiguous
unfolding promote width
fixed_type = refl

-- f(int) with a scoped enumerator
scoped : one (int ∷ []) (value (enum 0) ∷ []) ≡ NoMatch
scoped = refl

-- int f(const int&); int f(int); f(1)
reference_or_value : two (Reference (Const int) ∷ []) (int ∷ []) (value int ∷ []) ≡ Ambiguous
unfolding promote width
reference_or_value = refl

-- f(int&), f(const int&) with an lvalue, and with a number
less_const_first : two (Reference (Const int) ∷ []) (Reference int ∷ []) (lvalue int ∷ []) ≡ chosen 1
less_const_first = refl

const_binds : two (Reference (Const int) ∷ []) (Reference int ∷ []) (value int ∷ []) ≡ chosen 0
const_binds = refl

-- int f(int, int = 1); int f(int); f(1)
default_argument : choice world (record (function 0 (int ∷ int ∷ [])) { defaults = 1 } ∷ function 1 (int ∷ []) ∷ []) (value int ∷ []) ≡ Ambiguous
unfolding promote width
default_argument = refl

-- a default argument that wasn't walked
no_default : one (int ∷ int ∷ []) (value int ∷ []) ≡ NoMatch
no_default = refl

-- struct S { S(int); }; int f(S); int f(long); f(1)
user_last : two (class 0 ∷ []) (Int type.Long ∷ []) (value int ∷ []) ≡ chosen 1
unfolding promote width
user_last = refl

-- struct S { S(int); }; struct T { T(int); }; int f(S); int f(T); f(1)
two_by_user : two (class 0 ∷ []) (class 2 ∷ []) (value int ∷ []) ≡ Ambiguous
unfolding promote width
two_by_user = refl

-- struct B { B(int); }; struct A { A(B); }; void f(A); f(b), and f(1)
once_by_user : one (class 1 ∷ []) (lvalue (class 0) ∷ []) ≡ chosen 0
unfolding ways_to ways_within most_levels
once_by_user = refl

twice_by_user : one (class 1 ∷ []) (value int ∷ []) ≡ NoMatch
twice_by_user = refl

-- const int** from int**, and const int* const* from it
const_in_between : one (Pointer (Pointer (Const int)) ∷ []) (lvalue (Pointer (Pointer int)) ∷ []) ≡ NoMatch
const_in_between = refl

const_at_each : one (Pointer (Const (Pointer (Const int))) ∷ []) (lvalue (Pointer (Pointer int)) ∷ []) ≡ chosen 0
const_at_each = refl

-- f(bool), f(const void*) with an int*, and with an array of int
bool_last : two (Int type.Bool ∷ []) (Pointer (Const Void) ∷ []) (lvalue (Pointer int) ∷ []) ≡ chosen 1
bool_last = refl

from_array : two (Pointer Void ∷ []) (Pointer int ∷ []) (lvalue (Array int 3) ∷ []) ≡ chosen 1
from_array = refl

-- void f(int&, int); void f(const int&, int&); void f(int, const int&), with two lvalues: the first is better than the
-- second, the second than the third, but the first not than the third
around : choice world (function 0 (Reference int ∷ int ∷ []) ∷ function 1 (Reference (Const int) ∷ Reference int ∷ []) ∷ function 2 (int ∷ Reference (Const int) ∷ []) ∷ []) (lvalue int ∷ lvalue int ∷ []) ≡ Ambiguous
unfolding promote width
around = refl

-- without the third the first is chosen
not_around : two (Reference int ∷ int ∷ []) (Reference (Const int) ∷ Reference int ∷ []) (lvalue int ∷ lvalue int ∷ []) ≡ chosen 0
unfolding promote width
not_around = refl

-- worse for one argument and better for another
crossed : two (int ∷ Int type.Long ∷ []) (Int type.Long ∷ int ∷ []) (value int ∷ value int ∷ []) ≡ Ambiguous
unfolding promote width
crossed = refl

-- struct S { void f(); void f() const; static void g(); } on an S and a const S that are no lvalues
abbrev members : List Signature
members = record (function 0 []) { first = Object (class 0) } ∷ record (function 1 []) { first = Object (Const (class 0)) } ∷ []

on_object : choice world members (value (class 0) ∷ []) ≡ chosen 0
on_object = refl

on_const : choice world members (value (Const (class 0)) ∷ []) ≡ chosen 1
on_const = refl

passed_over : choice world (record (function 0 (int ∷ [])) { first = Ignored } ∷ []) (value (Const (class 0)) ∷ value int ∷ []) ≡ chosen 0
passed_over = refl

-- ---- classes: the third is derived from the second, and that from the first; the fifth has the first as a base twice

abbrev number : ℕ → ClassId
number n = record { 0 = n }

abbrev flags : ClassFlags
flags = record { aggregate = false; constexpr_ctor = false; constexpr_dtor = false; trivial_ctor = false; trivial_copy = false; trivial_dtor = false; virtual_dtor = false; has_virtual = false }

abbrev with_bases : List ClassId → ClassDecl
with_bases bs = record { name = []; key = key.Struct; body = Some (record { bases = bs; fields = []; slots = []; pures = []; flags = flags }) }

abbrev family : World
family = record { types = record no_types { classes = with_bases [] ∷ with_bases (number 0 ∷ []) ∷ with_bases (number 1 ∷ []) ∷ with_bases (number 0 ∷ []) ∷ with_bases (number 1 ∷ number 3 ∷ []) ∷ [] }; constructors = λ k. [] }

abbrev between : Form → Form → Argument → Choice
between f g a = choice family (function 0 (f ∷ []) ∷ function 1 (g ∷ []) ∷ []) (a ∷ [])

-- f(A*), f(B*) with a C*; f(A&), f(const B&) with a C; f(A), f(B) with a C
nearer_pointer : between (Pointer (class 0)) (Pointer (class 1)) (lvalue (Pointer (class 2))) ≡ chosen 1
unfolding ways_to ways_within most_levels
nearer_pointer = refl

nearer_reference : between (Reference (class 0)) (Reference (Const (class 1))) (lvalue (class 2)) ≡ chosen 1
unfolding ways_to ways_within most_levels
nearer_reference = refl

nearer_value : between (class 0) (class 1) (value (class 2)) ≡ chosen 1
unfolding ways_to ways_within most_levels
nearer_value = refl

-- f(void*), f(A*) with a C*, and with 0
before_void : between (Pointer Void) (Pointer (class 0)) (lvalue (Pointer (class 2))) ≡ chosen 1
unfolding ways_to ways_within most_levels
before_void = refl

null_to_either : between (Pointer Void) (Pointer (class 0)) zero_literal ≡ Ambiguous
null_to_either = refl

-- f(C*) with an A*
not_derived : choice family (function 0 (Pointer (class 2) ∷ []) ∷ []) (lvalue (Pointer (class 0)) ∷ []) ≡ NoMatch
unfolding ways_to ways_within most_levels
not_derived = refl

-- a base that is there twice has a rank
twice_a_base : conversion family (lvalue (class 4)) (Reference (class 0)) ≡ Some (record { kind = kind.Conversion; base = Some (number 0) })
unfolding ways_to ways_within most_levels
twice_a_base = refl

-- a member function on an object of a class that is derived from its own
on_derived : choice family (record (function 0 []) { first = Object (class 0) } ∷ record (function 1 []) { first = Object (Const (class 1)) } ∷ []) (lvalue (class 2) ∷ []) ≡ chosen 1
unfolding ways_to ways_within most_levels
on_derived = refl
