-- Declarations as plain data ([dcl.dcl]).
use Rattle.std.specs.Prelude.{ℕ, List, Option}
use Rattle.cx_base.specs.declared.diag.Span.{Span}
use Rattle.cx_tree.specs.declared.names.Ident.{Ident}
use Rattle.cx_tree.specs.declared.specifiers.Ptrs.{Ptrs}
use Rattle.cx_tree.specs.declared.specifiers.Specs.{Specs}
use Rattle.cx_plain.specs.Expressions.{Expression, Arguments, InitializerList, Bounds}

-- How a variable gets its first value ([dcl.init]). What stands in braces or parentheses has their place beside it; the last argument is the
-- place of the whole, a `=` counted.
pub data Initializer : Type 0 where
  -- = e
  Equals : Expression → Span → Initializer
  -- = {a, b}
  EqualsList : InitializerList → Span → Span → Initializer
  -- {a, b}
  DirectList : InitializerList → Span → Span → Initializer
  -- (a, b)
  Direct : Arguments → Span → Span → Initializer

-- a variable behind the specifiers ([dcl.decl]), from its first `*` or its name to its initializer's end
pub record Declarator : Type 0 where
  pub ptrs : Ptrs
  pub name : Ident
  pub bounds : Bounds
  pub init : Option Initializer
  pub extent : Span

-- static_assert ([dcl.pre]), with the pieces of its message
pub record Assertion : Type 0 where
  pub condition : Expression
  pub message : Option (List (List ℕ))
  pub extent : Span

-- The last argument of a form is where the declaration stands.
pub data Declaration : Type 0 where
  -- ;
  Empty : Span → Declaration
  Assert : Assertion → Span → Declaration
  Variables : Specs → List Declarator → Span → Declaration
  -- each other form, so far without its parts
  Other : Span → Declaration
