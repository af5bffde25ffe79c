-- What each rule gives, from the values of its parts in order.
use Rattle.std.specs.Prelude.{ℕ, Bool, true, List, Option}
use Rattle.cx_base.specs.declared.diag.Span.{Span}
use Rattle.cx_levels.specs.Levels.{perhaps}
use Rattle.cx_tree.specs.declared.names.Ident.{Ident}
use Rattle.cx_tree.specs.declared.specifiers.Specs.{Specs}
use Rattle.cx_tree.specs.declared.exprs.Expr.{Expr}
use Rattle.cx_tree.specs.declared.exprs.TypeId.{TypeId}
use Rattle.cx_tree.specs.declared.decls.Access.{Access}
use Rattle.cx_tree.specs.declared.decls.Access.TheVariants as a
use Rattle.cx_tree.specs.declared.decls.Alias.{Alias}
use Rattle.cx_tree.specs.declared.decls.Assert.{Assert}
use Rattle.cx_tree.specs.declared.decls.Enumeration.{Enumeration}
use Rattle.cx_tree.specs.declared.decls.EnumerationKind.{EnumerationKind}
use Rattle.cx_tree.specs.declared.decls.EnumerationKind.TheVariants as e
use Rattle.cx_tree.specs.declared.decls.Enumerator.{Enumerator}
use Rattle.cx_tree.specs.declared.decls.Tail.{Tail}
use Rattle.cx_tree.specs.declared.decls.Tail.TheVariants as t
use Rattle.cx_tree.specs.declared.decls.Virtual.{Virtual}
use Rattle.cx_tree.specs.declared.decls.Virtual.TheVariants as v
use Rattle.cx_syntax.specs.declared.class.Class.{Class}
use Rattle.cx_syntax.specs.declared.class.Class.TheVariants as k
use Rattle.cx_syntax.specs.declared.lexeme.Lexeme.{Lexeme}
use Rattle.cx_syntax.specs.Values.{is_there}

-- ---- how many levels attributes and `noexcept` nest

-- a token of an attribute nests none
abbrev pub no_levels : Lexeme → ℕ
no_levels token = 0

-- perhaps the word, and perhaps parentheses behind it
abbrev pub noexcept_levels : Option (Option ℕ) → ℕ
noexcept_levels o = perhaps (λ p. perhaps (λ levels. levels) p) o

-- ---- declarations

abbrev pub assert_of : (Expr × Option (List (List ℕ))) × Span → Assert
assert_of u = record { condition = u.0.0; message = u.0.1; span = u.1 }

abbrev pub alias_of : (Ident × (ℕ × TypeId)) × Span → Alias
alias_of u = record { name = u.0.0; attrs = u.0.1.0; ty = u.0.1.1; span = u.1 }

abbrev pub enumerator_of : (Ident × (ℕ × Option Expr)) × Span → Enumerator
enumerator_of u = record { name = u.0.0; attrs = u.0.1.0; value = u.0.1.1; span = u.1 }

-- what stands behind the attributes of an enumeration with a name
abbrev pub Named : Type 0
Named = Ident × (Option Specs × Option (List Enumerator))

abbrev pub named_of : Bool → Named → EnumerationKind
named_of scoped u = e.Named scoped u.0 u.1.0 u.1.1

-- the levels of the attributes, and which enumeration it is
abbrev pub named_enum_of : Option (Unit {0}) × (ℕ × Named) → ℕ × EnumerationKind
named_enum_of u = (u.1.0, named_of (is_there u.0) u.1.1)

abbrev pub scoped_enum_of : ℕ × Named → ℕ × EnumerationKind
scoped_enum_of u = (u.0, named_of true u.1)

abbrev pub unnamed_of : Option Specs × List Enumerator → EnumerationKind
unnamed_of u = e.Unnamed u.0 u.1

abbrev pub unnamed_enum_of : ℕ × (Option Specs × List Enumerator) → ℕ × EnumerationKind
unnamed_enum_of u = (u.0, unnamed_of u.1)

abbrev pub enumeration_of : (ℕ × EnumerationKind) × Span → Enumeration
enumeration_of u = record { attrs = u.0.0; kind = u.0.1; span = u.1 }

-- ---- words

abbrev pub tail_by : Class → Tail
tail_by k.Default = t.Default
tail_by k.Delete = t.Delete
tail_by _ = t.Pure

abbrev pub tail_of : Lexeme → Tail
tail_of token = tail_by token.class

abbrev pub virtual_by : Class → Virtual
virtual_by k.OverrideType = v.Override
virtual_by k.OverrideIdent = v.Override
virtual_by _ = v.Final

abbrev pub virtual_of : Lexeme → Virtual
virtual_of token = virtual_by token.class

abbrev pub access_by : Class → Access
access_by k.Public = a.Public
access_by k.Protected = a.Protected
access_by _ = a.Private

abbrev pub access_of : Lexeme → Access
access_of token = access_by token.class
