-- What each form of a declaration of the code is as plain data.
use Rattle.std.proofs.Common.{◌≡◌, rules}
use Rattle.cx_base.specs.declared.diag.Span.{Span}
use Rattle.cx_tree.specs.declared.decls.Alias.{Alias}
use Rattle.cx_tree.specs.declared.decls.Assert.{Assert}
use Rattle.cx_tree.specs.declared.decls.Class.{Class}
use Rattle.cx_tree.specs.declared.decls.Decl.{Decl}
use Rattle.cx_tree.specs.declared.decls.DeclKind as declared
use Rattle.cx_tree.specs.declared.decls.DeclKind.{DeclKind}
use Rattle.cx_tree.specs.declared.decls.DeclKind.TheFolds.{fold-DeclKind}
use Rattle.cx_tree.specs.declared.decls.DeclKind.TheVariants as k
use Rattle.cx_tree.specs.declared.decls.Entity.{Entity}
use Rattle.cx_tree.specs.declared.decls.Enumeration.{Enumeration}
use Rattle.cx_tree.specs.declared.decls.Namespace.{Namespace}
use Rattle.cx_tree.specs.declared.decls.Typedef.{Typedef}
use Rattle.cx_plain.specs.Declarations as d
use Rattle.cx_plain.specs.Declarations.{Declaration}
use Rattle.cx_plain.specs.DeclarationViews.{assertion, decl_step, declaration, entity_at, kind_step, space_step}

unfoldable declaration_of : DeclKind → Span → Declaration
declaration_of = fold-DeclKind (Span → Declaration) Declaration (Unit {0}) kind_step decl_step space_step

by_kind : (x : Decl) → declaration x ≡ declaration_of x.kind x.span
unfolding declaration declaration_of
by_kind x = search (rules, declared.the_lemmas)

form_empty : (at : Span) → declaration_of k.Empty at ≡ d.Empty at
unfolding declaration_of
form_empty at = search (rules, declared.the_lemmas)

pub is_empty : (x : Decl) → x.kind ≡ k.Empty → declaration x ≡ d.Empty x.span
is_empty x h = rw (by_kind x, h) (form_empty x.span)

form_assert : (a : Assert) (at : Span) → declaration_of (k.Assert a) at ≡ d.Assert (assertion a) at
unfolding declaration_of
form_assert a at = search (rules, declared.the_lemmas)

pub is_assert : (x : Decl) (a : Assert) → x.kind ≡ k.Assert a → declaration x ≡ d.Assert (assertion a) x.span
is_assert x a h = rw (by_kind x, h) (form_assert a x.span)

form_entity : (e : Entity) (at : Span) → declaration_of (k.Entity e) at ≡ entity_at e.specs e.kind at
unfolding declaration_of
form_entity e at = search (rules, declared.the_lemmas)

pub is_entity : (x : Decl) (e : Entity) → x.kind ≡ k.Entity e → declaration x ≡ entity_at e.specs e.kind x.span
is_entity x e h = rw (by_kind x, h) (form_entity e x.span)

form_namespace : (n : Namespace) (at : Span) → declaration_of (k.Namespace n) at ≡ d.Other at
unfolding declaration_of
form_namespace n at = search (rules, declared.the_lemmas)

pub is_namespace : (x : Decl) (n : Namespace) → x.kind ≡ k.Namespace n → declaration x ≡ d.Other x.span
is_namespace x n h = rw (by_kind x, h) (form_namespace n x.span)

form_alias : (a : Alias) (at : Span) → declaration_of (k.Alias a) at ≡ d.Other at
unfolding declaration_of
form_alias a at = search (rules, declared.the_lemmas)

pub is_alias : (x : Decl) (a : Alias) → x.kind ≡ k.Alias a → declaration x ≡ d.Other x.span
is_alias x a h = rw (by_kind x, h) (form_alias a x.span)

form_typedef : (t : Typedef) (at : Span) → declaration_of (k.Typedef t) at ≡ d.Other at
unfolding declaration_of
form_typedef t at = search (rules, declared.the_lemmas)

pub is_typedef : (x : Decl) (t : Typedef) → x.kind ≡ k.Typedef t → declaration x ≡ d.Other x.span
is_typedef x t h = rw (by_kind x, h) (form_typedef t x.span)

form_enum : (n : Enumeration) (at : Span) → declaration_of (k.Enum n) at ≡ d.Other at
unfolding declaration_of
form_enum n at = search (rules, declared.the_lemmas)

pub is_enum : (x : Decl) (n : Enumeration) → x.kind ≡ k.Enum n → declaration x ≡ d.Other x.span
is_enum x n h = rw (by_kind x, h) (form_enum n x.span)

form_class : (c : Class) (at : Span) → declaration_of (k.Class c) at ≡ d.Other at
unfolding declaration_of
form_class c at = search (rules, declared.the_lemmas)

pub is_class : (x : Decl) (c : Class) → x.kind ≡ k.Class c → declaration x ≡ d.Other x.span
is_class x c h = rw (by_kind x, h) (form_class c x.span)
