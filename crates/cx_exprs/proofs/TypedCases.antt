-- The typed forms and first faults of small texts, worked by hand.
use Rattle.std.proofs.Common.{◌≡◌, ℕ, ◌+◌, List, [], ◌∷◌, pos, false, refl}
use Rattle.cx_base.specs.declared.diag.Span.{Span}
use Rattle.cx_base.specs.declared.int_type.IntType.{IntType}
use Rattle.cx_base.specs.declared.int_type.IntType.TheVariants as type
use Rattle.cx_base.specs.declared.rule.Rule.TheVariants as rule
use Rattle.cx_ints.specs.Conversions.{common, common_promoted, higher, promote, rank}
use Rattle.cx_ints.specs.Ranges.{fits, greatest, is_signed, least, width}
use Rattle.cx_ints.specs.declared.operators.BinOp.TheVariants as int
use Rattle.cx_ints.specs.declared.operators.UnOp.TheVariants as un
use Rattle.cx_ops.specs.declared.StrictOp.TheVariants as op
use Rattle.cx_scopes.specs.Scopes.{no_scopes}
use Rattle.cx_tree.specs.declared.exprs.CastWord.TheVariants.{Static}
use Rattle.cx_tree.specs.declared.names.Last.TheVariants.{Ident}
use Rattle.cx_tree.specs.declared.operators.BinaryOp.TheVariants.{Add, Less}
use Rattle.cx_tree.specs.declared.operators.PrefixOp.TheVariants.{Complement}
use Rattle.cx_tree.specs.declared.specifiers.Modifier.{Modifier}
use Rattle.cx_tree.specs.declared.specifiers.ModifierWord.TheVariants.{Const}
use Rattle.cx_tree.specs.declared.specifiers.SpecsType.TheVariants.{Words}
use Rattle.cx_tree.specs.declared.specifiers.TypeWord.{TypeWord}
use Rattle.cx_tree.specs.declared.specifiers.TypeWord.TheVariants as word
use Rattle.cx_tree.specs.declared.specifiers.WordOrModifier.{WordOrModifier}
use Rattle.cx_tree.specs.declared.specifiers.WordOrModifier.TheVariants.{Word}
use Rattle.cx_plain.specs.Expressions as e
use Rattle.cx_plain.specs.Expressions.{Expression, TypeWritten, Written, no_bounds, no_arguments, argument}
use Rattle.cx_typed.specs.declared.exprs.ChainOp.TheVariants as chain
use Rattle.cx_typed.specs.Trees.{Constant, Unary, Binary, Conditional}
use Rattle.cx_exprs.specs.Expressions.{typed}
use Rattle.cx_exprs.specs.Forms.{number}
use Rattle.cx_exprs.specs.Parts.{Tree, prvalue}
use Rattle.cx_exprs.specs.Typing.{World, Good, broken}

-- from one column of the first line to another
abbrev at : ℕ → ℕ → Span
at a b = record { start = record { byte = a; line = 1; col = a + 1 }; end = record { byte = b; line = 1; col = b + 1 } }

abbrev empty : World
empty = record { names = no_scopes; variables = []; kept = []; limits = record { depth = 512; exprs = 1048576; turns = 16777216; cells = 1048576; objects = 4194304 }; lines = [] }

abbrev literal : ℕ → ℕ → ℕ → Expression
literal n a b = e.Number (number type.Int n) (at a b)

abbrev value : IntType → ℕ → ℕ → ℕ → Tree
value ty n a b = Constant (number ty n) (prvalue ty (at a b))

abbrev name : ℕ → ℕ → Expression
name letter a = e.Name (record { global = false; scopes = []; last = Ident (record { text = letter ∷ []; span = at a (a + 1) }); span = at a (a + 1) }) (at a (a + 1))

abbrev written : List Modifier → TypeWord → List WordOrModifier → TypeWritten
written ms t ps = Written (record { modifiers = ms; ty = Words t ps; span = at 12 20 }) (record { stars = []; is_reference = false }) no_bounds (at 12 20)

abbrev cast : List Modifier → TypeWord → List WordOrModifier → Expression
cast ms t ps = e.NamedCast Static (written ms t ps) (literal 1 22 23) (at 0 24)

-- 1 + 2
sum : typed (e.Binary Add (literal 1 0 1) (literal 2 4 5) (at 0 5)) empty ≡ Good (Binary (chain.Strict (op.Binary int.Add)) (value type.Int 1 0 1) (value type.Int 2 4 5) (prvalue type.Int (at 0 5))) empty
unfolding fits least greatest is_signed width common common_promoted promote higher rank
sum = refl

-- 'a' < 1: the left operand is promoted, and the result is a bool
promoted : typed (e.Binary Less (e.Character (pos 97) (at 0 3)) (literal 1 6 7) (at 0 7)) empty ≡ Good (Binary (chain.Strict (op.Binary int.Lt)) (Unary (op.Convert type.Int) (value type.Char 97 0 3) (prvalue type.Int (at 0 3))) (value type.Int 1 6 7) (prvalue type.Bool (at 0 7))) empty
unfolding fits least greatest is_signed width common common_promoted promote higher rank
promoted = refl

-- ~true
complement : typed (e.Prefix Complement (e.True (at 1 5)) (at 0 5)) empty ≡ Good (Unary (op.Unary un.Complement) (Unary (op.Convert type.Int) (value type.Bool 1 1 5) (prvalue type.Int (at 1 5))) (prvalue type.Int (at 0 5))) empty
unfolding fits least greatest is_signed width common common_promoted promote higher rank
complement = refl

-- true ? 'a' : 'b' is a char
one_type : typed (e.Conditional (e.True (at 0 4)) (e.Character (pos 97) (at 7 10)) (e.Character (pos 98) (at 13 16)) (at 0 16)) empty ≡ Good (Conditional (value type.Bool 1 0 4) (value type.Char 97 7 10) (value type.Char 98 13 16) (prvalue type.Char (at 0 16))) empty
unfolding fits least greatest is_signed width common common_promoted promote higher rank
one_type = refl

-- x, which isn't declared
unknown : typed (name 120 0) empty ≡ broken rule.UnknownName (at 0 1)
unknown = refl

-- x + "": the left operand's fault comes first
left_first : typed (e.Binary Add (name 120 0) (e.String ([] ∷ []) (at 4 6)) (at 0 6)) empty ≡ broken rule.UnknownName (at 0 1)
left_first = refl

-- f(x): a call isn't built, and its parts aren't walked
call : typed (e.Call (name 102 0) (argument (name 120 2) no_arguments) (at 0 4)) empty ≡ broken rule.LeftOutForm (at 0 4)
call = refl

-- static_cast<short long>(1), <const const int>, <void>, <auto>
no_type : typed (cast [] word.Short (Word word.Long ∷ [])) empty ≡ broken rule.BadType (at 12 20)
no_type = refl

twice_const : typed (cast (record { word = Const; span = at 12 17 } ∷ record { word = Const; span = at 12 17 } ∷ []) word.Int []) empty ≡ broken rule.BadSpecifier (at 12 20)
twice_const = refl

to_void : typed (cast [] word.Void []) empty ≡ broken rule.LeftOutForm (at 12 20)
to_void = refl

to_auto : typed (cast [] word.Auto []) empty ≡ broken rule.BadType (at 12 20)
to_auto = refl

-- static_cast<long unsigned long>(1)
spelled : typed (cast [] word.Long (Word word.Unsigned ∷ Word word.Long ∷ [])) empty ≡ Good (Unary (op.Convert type.ULongLong) (value type.Int 1 22 23) (prvalue type.ULongLong (at 0 24))) empty
unfolding fits least greatest is_signed width
spelled = refl

-- sizeof(short)
size : typed (e.SizeofType (written [] word.Short []) (at 0 21)) empty ≡ Good (value type.ULong 2 0 21) empty
size = refl
