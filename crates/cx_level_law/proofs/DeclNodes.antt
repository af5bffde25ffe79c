-- How many levels each form of a member and of a declaration goes deep, from those of its parts ([class.mem], [dcl.dcl], [implimits]).
use Rattle.std.proofs.Common.{◌≡◌, ℕ, max, List, Option, Some, None, map, ap, rules}
use Rattle.cx_base.specs.declared.diag.Span.{Span}
use Rattle.cx_tree.specs.declared.decls.Access.{Access}
use Rattle.cx_tree.specs.declared.decls.Alias.{Alias}
use Rattle.cx_tree.specs.declared.decls.Assert.{Assert}
use Rattle.cx_tree.specs.declared.decls.Base.{Base}
use Rattle.cx_tree.specs.declared.decls.Class as classes
use Rattle.cx_tree.specs.declared.decls.Class.{Class}
use Rattle.cx_tree.specs.declared.decls.ClassBody.{ClassBody}
use Rattle.cx_tree.specs.declared.decls.Constructor.{Constructor}
use Rattle.cx_tree.specs.declared.decls.Decl as decls
use Rattle.cx_tree.specs.declared.decls.Decl.{Decl}
use Rattle.cx_tree.specs.declared.decls.DeclKind.{DeclKind}
use Rattle.cx_tree.specs.declared.decls.DeclKind.TheVariants as d
use Rattle.cx_tree.specs.declared.decls.Destructor.{Destructor}
use Rattle.cx_tree.specs.declared.decls.Entity.{Entity}
use Rattle.cx_tree.specs.declared.decls.Enumeration.{Enumeration}
use Rattle.cx_tree.specs.declared.decls.Member.{Member}
use Rattle.cx_tree.specs.declared.decls.MemberKind.{MemberKind}
use Rattle.cx_tree.specs.declared.decls.MemberKind.TheVariants as m
use Rattle.cx_tree.specs.declared.decls.Namespace.{Namespace}
use Rattle.cx_tree.specs.declared.decls.Typedef.{Typedef}
use Rattle.cx_tree.specs.declared.names.Ident.{Ident}
use Rattle.cx_tree.specs.declared.specifiers.ClassKey.{ClassKey}
use Rattle.cx_levels.specs.DeclLevels.{levels_of_base, levels_of_class, levels_of_class_body, levels_of_constructor, levels_of_decl, levels_of_decl_kind, levels_of_destructor, levels_of_entity, levels_of_member, levels_of_member_kind, levels_of_namespace}
use Rattle.cx_levels.specs.Levels.{deeper, perhaps}
use Rattle.cx_levels.specs.StmtLevels.{levels_of_alias, levels_of_assert, levels_of_enumeration}
use Rattle.cx_syntax_decls.specs.Values.{member_of, body_of, class_of, namespace_of, decl_of}
use Rattle.cx_level_law.proofs.Counted.{of_all, one_more}
use Rattle.cx_level_law.proofs.ExprNodes.{deeper_all}

-- ---- members

pub member_levels : (u : MemberKind × Span) → levels_of_member (member_of u) ≡ levels_of_member_kind u.0
member_levels u = search (rules, classes.the_lemmas)

pub access_levels : (x : Access) → levels_of_member_kind (m.Access x) ≡ 0
access_levels x = search (rules, classes.the_lemmas)

no_member : levels_of_member_kind m.Empty ≡ 0
no_member = search (rules, classes.the_lemmas)

pub empty_member_levels : (u : Unit {0}) → levels_of_member_kind m.Empty ≡ 0
empty_member_levels u = no_member

pub assert_member_levels : (x : Assert) → levels_of_member_kind (m.Assert x) ≡ levels_of_assert x
assert_member_levels x = search (rules, classes.the_lemmas)

pub alias_member_levels : (x : Alias) → levels_of_member_kind (m.Alias x) ≡ levels_of_alias x
alias_member_levels x = search (rules, classes.the_lemmas)

pub typedef_member_levels : (x : Typedef) → levels_of_member_kind (m.Typedef x) ≡ 0
typedef_member_levels x = search (rules, classes.the_lemmas)

pub enum_member_levels : (x : Enumeration) → levels_of_member_kind (m.Enum x) ≡ levels_of_enumeration x
enum_member_levels x = search (rules, classes.the_lemmas)

pub class_member_levels : (x : Class) → levels_of_member_kind (m.Class x) ≡ levels_of_class x
class_member_levels x = search (rules, classes.the_lemmas)

pub constructor_levels : (x : Constructor) → levels_of_member_kind (m.Constructor x) ≡ levels_of_constructor x
constructor_levels x = search (rules, classes.the_lemmas)

pub destructor_levels : (x : Destructor) → levels_of_member_kind (m.Destructor x) ≡ levels_of_destructor x
destructor_levels x = search (rules, classes.the_lemmas)

pub entity_member_levels : (x : Entity) → levels_of_member_kind (m.Entity x) ≡ levels_of_entity x
entity_member_levels x = search (rules, classes.the_lemmas)

-- ---- classes

body_parts : (u : Option (Unit {0}) × (Option (List Base) × List Member))
    → levels_of_class_body (body_of u) ≡ max (perhaps (of_all levels_of_base) u.1.0) (deeper (map levels_of_member u.1.1))
body_parts (f, (None, l)) = search (rules, classes.the_lemmas)
body_parts (f, (Some bases, l)) = search (rules, classes.the_lemmas)

pub class_body_levels : (u : Option (Unit {0}) × (Option (List Base) × List Member))
    → levels_of_class_body (body_of u) ≡ max (perhaps (of_all levels_of_base) u.1.0) (of_all (one_more levels_of_member) u.1.1)
class_body_levels u = rw (body_parts u) (ap (max (perhaps (of_all levels_of_base) u.1.0)) (deeper_all levels_of_member u.1.1))

pub class_levels : (u : (ClassKey × (ℕ × (Ident × Option ClassBody))) × Span)
    → levels_of_class (class_of u) ≡ max u.0.1.0 (perhaps levels_of_class_body u.0.1.1.1)
class_levels ((key, (attrs, (name, None))), s) = search (rules, classes.the_lemmas)
class_levels ((key, (attrs, (name, Some body))), s) = search (rules, classes.the_lemmas)

-- ---- declarations

pub decl_levels : (u : DeclKind × Span) → levels_of_decl (decl_of u) ≡ levels_of_decl_kind u.0
decl_levels u = search (rules, decls.the_lemmas)

no_decl : levels_of_decl_kind d.Empty ≡ 0
no_decl = search (rules, decls.the_lemmas)

pub empty_decl_levels : (u : Unit {0}) → levels_of_decl_kind d.Empty ≡ 0
empty_decl_levels u = no_decl

pub namespace_decl_levels : (x : Namespace) → levels_of_decl_kind (d.Namespace x) ≡ levels_of_namespace x
namespace_decl_levels x = search (rules, decls.the_lemmas)

pub assert_decl_levels : (x : Assert) → levels_of_decl_kind (d.Assert x) ≡ levels_of_assert x
assert_decl_levels x = search (rules, decls.the_lemmas)

pub alias_decl_levels : (x : Alias) → levels_of_decl_kind (d.Alias x) ≡ levels_of_alias x
alias_decl_levels x = search (rules, decls.the_lemmas)

pub typedef_decl_levels : (x : Typedef) → levels_of_decl_kind (d.Typedef x) ≡ 0
typedef_decl_levels x = search (rules, decls.the_lemmas)

pub enum_decl_levels : (x : Enumeration) → levels_of_decl_kind (d.Enum x) ≡ levels_of_enumeration x
enum_decl_levels x = search (rules, decls.the_lemmas)

pub class_decl_levels : (x : Class) → levels_of_decl_kind (d.Class x) ≡ levels_of_class x
class_decl_levels x = search (rules, decls.the_lemmas)

pub entity_decl_levels : (x : Entity) → levels_of_decl_kind (d.Entity x) ≡ levels_of_entity x
entity_decl_levels x = search (rules, decls.the_lemmas)

namespace_parts : (u : ℕ × (List Ident × List Decl)) → levels_of_namespace (namespace_of u) ≡ max u.0 (deeper (map levels_of_decl u.1.1))
namespace_parts u = search (rules, decls.the_lemmas)

pub namespace_levels : (u : ℕ × (List Ident × List Decl)) → levels_of_namespace (namespace_of u) ≡ max u.0 (of_all (one_more levels_of_decl) u.1.1)
namespace_levels u = rw (namespace_parts u) (ap (max u.0) (deeper_all levels_of_decl u.1.1))
