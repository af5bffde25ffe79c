-- The initializers, variables and declarations of the code as plain data.
use Rattle.std.specs.Prelude.{map, option_map}
use Rattle.cx_base.specs.declared.diag.Span.{Span}
use Rattle.cx_tree.specs.declared.decls.Assert.{Assert}
use Rattle.cx_tree.specs.declared.decls.Decl.{Decl}
use Rattle.cx_tree.specs.declared.decls.DeclKind.TheFolds.{fold-Decl}
use Rattle.cx_tree.specs.declared.decls.DeclKind.TheOpen.{Decl-F, DeclKind-F, Namespace-F}
use Rattle.cx_tree.specs.declared.decls.EntityKind.{EntityKind}
use Rattle.cx_tree.specs.declared.decls.EntityKind.TheVariants as entity
use Rattle.cx_tree.specs.declared.specifiers.Specs.{Specs}
use Rattle.cx_tree.specs.declared.stmts.Init.{Init}
use Rattle.cx_tree.specs.declared.stmts.InitKind.{InitKind}
use Rattle.cx_tree.specs.declared.stmts.InitKind.TheVariants as init
use Rattle.cx_tree.specs.declared.stmts.Var.{Var}
use Rattle.cx_plain.specs.Declarations as d
use Rattle.cx_plain.specs.Declarations.{Initializer, Equals, EqualsList, DirectList, Direct, Declarator, Assertion, Declaration}
use Rattle.cx_plain.specs.ExpressionViews.{tree, arguments, braced, bound_parts, bounds_of}

abbrev pub initializer_at : InitKind → Span → Initializer
initializer_at (init.Equals e) at = Equals (tree e) at
initializer_at (init.EqualsList b) at = EqualsList (braced b).0 (braced b).1 at
initializer_at (init.DirectList b) at = DirectList (braced b).0 (braced b).1 at
initializer_at (init.Direct a) at = Direct (arguments a).0 (arguments a).1 at

abbrev pub initializer : Init → Initializer
initializer i = initializer_at i.kind i.span

abbrev pub declarator : Var → Declarator
declarator v = record {
  ptrs = v.ptrs;
  name = v.name;
  bounds = bounds_of (map bound_parts v.bounds);
  init = option_map initializer v.init;
  extent = v.span;
}

abbrev pub assertion : Assert → Assertion
assertion a = record { condition = tree a.condition; message = a.message; extent = a.span }

abbrev pub entity_at : Specs → EntityKind → Span → Declaration
entity_at s (entity.Vars vs) at = d.Variables s (map declarator vs) at
entity_at s (entity.Function f) at = d.Other at

-- what a declaration is, given its place
abbrev pub kind_step : DeclKind-F (Span → Declaration) Declaration (Unit {0}) → Span → Declaration
kind_step DeclKind-F.Empty at = d.Empty at
kind_step (DeclKind-F.Assert a) at = d.Assert (assertion a) at
kind_step (DeclKind-F.Entity e) at = entity_at e.specs e.kind at
kind_step _ at = d.Other at

abbrev pub decl_step : Decl-F (Span → Declaration) Declaration (Unit {0}) → Declaration
decl_step decl = decl.kind decl.span

abbrev pub space_step : Namespace-F (Span → Declaration) Declaration (Unit {0}) → Unit {0}
space_step n = tt

-- a declaration as plain data
unfoldable pub declaration : Decl → Declaration
declaration = fold-Decl (Span → Declaration) Declaration (Unit {0}) kind_step decl_step space_step
