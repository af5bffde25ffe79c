-- How many levels the text of a declaration, and of a unit, goes deeper than its own place ([gram], [implimits]). A unit stands at level 0.
-- Each line has the form that it counts; what is marked `^` there stands one level deeper than the form itself.
use Rattle.std.specs.Prelude.{ℕ, suc, max, map}
use Rattle.cx_tree.specs.declared.decls.Base.{Base}
use Rattle.cx_tree.specs.declared.decls.Body.{Body}
use Rattle.cx_tree.specs.declared.decls.Body.TheVariants as b
use Rattle.cx_tree.specs.declared.decls.Class.{Class}
use Rattle.cx_tree.specs.declared.decls.Constructor.{Constructor}
use Rattle.cx_tree.specs.declared.decls.ConstructorBody.{ConstructorBody}
use Rattle.cx_tree.specs.declared.decls.ConstructorBody.TheVariants as cb
use Rattle.cx_tree.specs.declared.decls.Decl.{Decl}
use Rattle.cx_tree.specs.declared.decls.DeclKind.{DeclKind}
use Rattle.cx_tree.specs.declared.decls.DeclKind.TheFolds.{fold-Decl, fold-DeclKind, fold-Namespace}
use Rattle.cx_tree.specs.declared.decls.DeclKind.TheOpen.{Decl-F, DeclKind-F, Namespace-F}
use Rattle.cx_tree.specs.declared.decls.Destructor.{Destructor}
use Rattle.cx_tree.specs.declared.decls.Entity.{Entity}
use Rattle.cx_tree.specs.declared.decls.EntityKind.{EntityKind}
use Rattle.cx_tree.specs.declared.decls.EntityKind.TheVariants as e
use Rattle.cx_tree.specs.declared.decls.Function.{Function}
use Rattle.cx_tree.specs.declared.decls.ClassBody.{ClassBody}
use Rattle.cx_tree.specs.declared.decls.Member.{Member}
use Rattle.cx_tree.specs.declared.decls.MemberInit.{MemberInit}
use Rattle.cx_tree.specs.declared.decls.MemberKind.{MemberKind}
use Rattle.cx_tree.specs.declared.decls.MemberKind.TheFolds.{fold-Class, fold-ClassBody, fold-Member, fold-MemberKind}
use Rattle.cx_tree.specs.declared.decls.MemberKind.TheOpen.{Class-F, ClassBody-F, Member-F, MemberKind-F}
use Rattle.cx_tree.specs.declared.decls.Namespace.{Namespace}
use Rattle.cx_tree.specs.declared.decls.Param.{Param}
use Rattle.cx_tree.specs.declared.decls.Unit.{Unit}
use Rattle.cx_levels.specs.ExprLevels.{levels_of_bound, levels_of_given, levels_within}
use Rattle.cx_levels.specs.Levels.{greatest, deeper, perhaps}
use Rattle.cx_levels.specs.StmtLevels.{levels_of_alias, levels_of_assert, levels_of_block, levels_of_enumeration, levels_of_var}

-- [[..]] int a[..] = e^
abbrev pub levels_of_param : Param → ℕ
levels_of_param p = max p.attrs (max (greatest (map levels_of_bound p.bounds)) (perhaps levels_within p.default))

abbrev pub levels_of_body : Body → ℕ
levels_of_body (b.Tail tail) = 0
levels_of_body (b.Block block) = levels_of_block block

-- (..) noexcept(..) {..}
abbrev pub levels_of_function : Function → ℕ
levels_of_function f = max (greatest (map levels_of_param f.params)) (max f.noexcept (levels_of_body f.body))

abbrev pub levels_of_entity_kind : EntityKind → ℕ
levels_of_entity_kind (e.Vars vars) = greatest (map levels_of_var vars)
levels_of_entity_kind (e.Function f) = levels_of_function f

abbrev pub levels_of_entity : Entity → ℕ
levels_of_entity x = max x.attrs (levels_of_entity_kind x.kind)

-- a(..), a{..}
abbrev pub levels_of_member_init : MemberInit → ℕ
levels_of_member_init m = levels_of_given m.given

-- : a(..), b(..) {..}
abbrev pub levels_of_constructor_body : ConstructorBody → ℕ
levels_of_constructor_body (cb.Tail tail) = 0
levels_of_constructor_body (cb.Block inits block) = max (greatest (map levels_of_member_init inits)) (levels_of_block block)

abbrev pub levels_of_constructor : Constructor → ℕ
levels_of_constructor c = max c.attrs (max (greatest (map levels_of_param c.params)) (max c.noexcept (levels_of_constructor_body c.body)))

abbrev pub levels_of_destructor : Destructor → ℕ
levels_of_destructor d = max d.attrs (max d.noexcept (levels_of_body d.body))

abbrev pub levels_of_base : Base → ℕ
levels_of_base base = base.attrs

abbrev pub member_kind_step : MemberKind-F ℕ ℕ ℕ ℕ → ℕ
member_kind_step (MemberKind-F.Access access) = 0
member_kind_step MemberKind-F.Empty = 0
member_kind_step (MemberKind-F.Assert a) = levels_of_assert a
member_kind_step (MemberKind-F.Alias a) = levels_of_alias a
member_kind_step (MemberKind-F.Typedef t) = 0
member_kind_step (MemberKind-F.Enum x) = levels_of_enumeration x
member_kind_step (MemberKind-F.Class c) = c
member_kind_step (MemberKind-F.Constructor c) = levels_of_constructor c
member_kind_step (MemberKind-F.Destructor d) = levels_of_destructor d
member_kind_step (MemberKind-F.Entity x) = levels_of_entity x

-- struct [[..]] A ..
abbrev pub class_step : Class-F ℕ ℕ ℕ ℕ → ℕ
class_step c = max c.attrs (perhaps (λ body. body) c.body)

-- : B, C { member^ member^ }
abbrev pub class_body_step : ClassBody-F ℕ ℕ ℕ ℕ → ℕ
class_body_step body = max (greatest (map levels_of_base body.bases)) (deeper body.members)

abbrev pub member_step : Member-F ℕ ℕ ℕ ℕ → ℕ
member_step m = m.kind

abbrev pub levels_of_class : Class → ℕ
levels_of_class = fold-Class ℕ ℕ ℕ ℕ member_kind_step class_step class_body_step member_step

abbrev pub levels_of_class_body : ClassBody → ℕ
levels_of_class_body = fold-ClassBody ℕ ℕ ℕ ℕ member_kind_step class_step class_body_step member_step

abbrev pub levels_of_member : Member → ℕ
levels_of_member = fold-Member ℕ ℕ ℕ ℕ member_kind_step class_step class_body_step member_step

abbrev pub levels_of_member_kind : MemberKind → ℕ
levels_of_member_kind = fold-MemberKind ℕ ℕ ℕ ℕ member_kind_step class_step class_body_step member_step

abbrev pub decl_kind_step : DeclKind-F ℕ ℕ ℕ → ℕ
decl_kind_step DeclKind-F.Empty = 0
decl_kind_step (DeclKind-F.Namespace n) = n
decl_kind_step (DeclKind-F.Assert a) = levels_of_assert a
decl_kind_step (DeclKind-F.Alias a) = levels_of_alias a
decl_kind_step (DeclKind-F.Typedef t) = 0
decl_kind_step (DeclKind-F.Enum x) = levels_of_enumeration x
decl_kind_step (DeclKind-F.Class c) = levels_of_class c
decl_kind_step (DeclKind-F.Entity x) = levels_of_entity x

abbrev pub decl_step : Decl-F ℕ ℕ ℕ → ℕ
decl_step d = d.kind

-- namespace [[..]] a { decl^ decl^ }
abbrev pub namespace_step : Namespace-F ℕ ℕ ℕ → ℕ
namespace_step n = max n.attrs (deeper n.decls)

abbrev pub levels_of_decl : Decl → ℕ
levels_of_decl = fold-Decl ℕ ℕ ℕ decl_kind_step decl_step namespace_step

abbrev pub levels_of_decl_kind : DeclKind → ℕ
levels_of_decl_kind = fold-DeclKind ℕ ℕ ℕ decl_kind_step decl_step namespace_step

abbrev pub levels_of_namespace : Namespace → ℕ
levels_of_namespace = fold-Namespace ℕ ℕ ℕ decl_kind_step decl_step namespace_step

abbrev pub levels_of_unit : Unit → ℕ
levels_of_unit u = greatest (map levels_of_decl u.decls)
