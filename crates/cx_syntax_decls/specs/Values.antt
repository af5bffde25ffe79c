-- What each rule gives, from the values of its parts in order.
use Rattle.std.specs.Prelude.{ℕ, List, [], Option}
use Rattle.cx_base.specs.declared.diag.Span.{Span}
use Rattle.cx_tree.specs.declared.names.DestructorName.{DestructorName}
use Rattle.cx_tree.specs.declared.names.Ident.{Ident}
use Rattle.cx_tree.specs.declared.names.TypeName.{TypeName}
use Rattle.cx_tree.specs.declared.names.FunctionName.{FunctionName}
use Rattle.cx_tree.specs.declared.specifiers.ClassKey.{ClassKey}
use Rattle.cx_tree.specs.declared.specifiers.ClassKey.TheVariants as key
use Rattle.cx_tree.specs.declared.specifiers.Modifier.{Modifier}
use Rattle.cx_tree.specs.declared.specifiers.Ptrs.{Ptrs}
use Rattle.cx_tree.specs.declared.specifiers.Specs.{Specs}
use Rattle.cx_tree.specs.declared.exprs.Given.{Given}
use Rattle.cx_tree.specs.declared.stmts.Block.{Block}
use Rattle.cx_tree.specs.declared.decls.Access.{Access}
use Rattle.cx_tree.specs.declared.decls.Base.{Base}
use Rattle.cx_tree.specs.declared.decls.Body.{Body}
use Rattle.cx_tree.specs.declared.decls.Class.{Class, roll-Class}
use Rattle.cx_tree.specs.declared.decls.ClassBody.{ClassBody, roll-ClassBody}
use Rattle.cx_tree.specs.declared.decls.Constructor.{Constructor}
use Rattle.cx_tree.specs.declared.decls.ConstructorBody.{ConstructorBody}
use Rattle.cx_tree.specs.declared.decls.ConstructorBody.TheVariants as made
use Rattle.cx_tree.specs.declared.decls.Decl.{Decl, roll-Decl}
use Rattle.cx_tree.specs.declared.decls.DeclKind.{DeclKind}
use Rattle.cx_tree.specs.declared.decls.Destructor.{Destructor}
use Rattle.cx_tree.specs.declared.decls.Entity.{Entity}
use Rattle.cx_tree.specs.declared.decls.EntityKind.{EntityKind}
use Rattle.cx_tree.specs.declared.decls.EntityKind.TheVariants as e
use Rattle.cx_tree.specs.declared.decls.Function.{Function}
use Rattle.cx_tree.specs.declared.decls.Member.{Member, roll-Member}
use Rattle.cx_tree.specs.declared.decls.MemberInit.{MemberInit}
use Rattle.cx_tree.specs.declared.decls.MemberKind.{MemberKind}
use Rattle.cx_tree.specs.declared.decls.MemberKind.TheVariants as m
use Rattle.cx_tree.specs.declared.decls.MemberName.{MemberName}
use Rattle.cx_tree.specs.declared.decls.Namespace.{Namespace, roll-Namespace}
use Rattle.cx_tree.specs.declared.decls.Param.{Param}
use Rattle.cx_tree.specs.declared.decls.Unit.{Unit as TranslationUnit}
use Rattle.cx_tree.specs.declared.decls.Virtual.{Virtual}
use Rattle.cx_syntax.specs.declared.class.Class.{Class as TokenClass}
use Rattle.cx_syntax.specs.declared.class.Class.TheVariants as k
use Rattle.cx_syntax.specs.declared.lexeme.Lexeme.{Lexeme}
use Rattle.cx_syntax.specs.Values.{is_there, or_none, Operand}

-- ---- words

abbrev pub key_by : TokenClass → ClassKey
key_by k.Class = key.Class
key_by k.Union = key.Union
key_by _ = key.Struct

abbrev pub key_of : Lexeme → ClassKey
key_of t = key_by t.class

-- ---- functions ([dcl.fct])

-- what stands behind the parameters
abbrev pub FunctionEnd : Type 0
FunctionEnd = Option (Unit {0}) × (ℕ × (List Virtual × Body))

abbrev pub function_of : Ptrs × (FunctionName × (Option (List Param) × FunctionEnd)) → Function
function_of u = record { ptrs = u.0; name = u.1.0; params = or_none u.1.1.0; is_const = is_there u.1.1.1.0; noexcept = u.1.1.1.1.0; virtuals = u.1.1.1.1.1.0; body = u.1.1.1.1.1.1 }

abbrev pub entity_of : ℕ × (Specs × EntityKind) → Entity
entity_of u = record { attrs = u.0; specs = u.1.0; kind = u.1.1 }

-- what a fault is told with gives no value
abbrev pub no_variables : Operand → EntityKind
no_variables _ = e.Vars []

-- ---- members ([class.mem], [class.ctor], [class.dtor], [class.base.init])

abbrev pub member_init_of : (MemberName × Given) × Span → MemberInit
member_init_of u = record { name = u.0.0; given = u.0.1; span = u.1 }

abbrev pub block_made_of : Option (List MemberInit) × Block → ConstructorBody
block_made_of u = made.Block (or_none u.0) u.1

-- behind the attributes and modifiers
abbrev pub ConstructorEnd : Type 0
ConstructorEnd = Ident × (Option (List Param) × (ℕ × ConstructorBody))

abbrev pub constructor_of : ℕ × (List Modifier × ConstructorEnd) → Constructor
constructor_of u = record { attrs = u.0; modifiers = u.1.0; name = u.1.1.0; params = or_none u.1.1.1.0; noexcept = u.1.1.1.1.0; body = u.1.1.1.1.1 }

abbrev pub DestructorEnd : Type 0
DestructorEnd = DestructorName × (ℕ × (List Virtual × Body))

abbrev pub destructor_of : ℕ × (List Modifier × DestructorEnd) → Destructor
destructor_of u = record { attrs = u.0; modifiers = u.1.0; name = u.1.1.0; noexcept = u.1.1.1.0; virtuals = u.1.1.1.1.0; body = u.1.1.1.1.1 }

-- what a constructor, a destructor or an entity has behind its attributes
pub data Behind : Type 0 where
  of_ctor : List Modifier × ConstructorEnd → Behind
  of_dtor : List Modifier × DestructorEnd → Behind
  of_entity : Specs × EntityKind → Behind

abbrev pub function_by : ℕ → Behind → MemberKind
function_by attrs (of_ctor u) = m.Constructor (constructor_of (attrs, u))
function_by attrs (of_dtor u) = m.Destructor (destructor_of (attrs, u))
function_by attrs (of_entity u) = m.Entity (entity_of (attrs, u))

abbrev pub member_function_of : ℕ × Behind → MemberKind
member_function_of u = function_by u.0 u.1

abbrev pub member_of : MemberKind × Span → Member
member_of u = roll-Member (record { kind = u.0; span = u.1 })

-- ---- classes ([class.pre], [class.derived])

abbrev pub base_of : (ℕ × (Option Access × TypeName)) × Span → Base
base_of u = record { attrs = u.0.0; access = u.0.1.0; name = u.0.1.1; span = u.1 }

abbrev pub body_of : Option (Unit {0}) × (Option (List Base) × List Member) → ClassBody
body_of u = roll-ClassBody (record { is_final = is_there u.0; bases = or_none u.1.0; members = u.1.1 })

abbrev pub class_of : (ClassKey × (ℕ × (Ident × Option ClassBody))) × Span → Class
class_of u = roll-Class (record { key = u.0.0; attrs = u.0.1.0; name = u.0.1.1.0; body = u.0.1.1.1; span = u.1 })

-- ---- namespaces and units ([namespace.def], [basic.link])

abbrev pub namespace_of : ℕ × (List Ident × List Decl) → Namespace
namespace_of u = roll-Namespace (record { attrs = u.0; names = u.1.0; decls = u.1.1 })

abbrev pub decl_of : DeclKind × Span → Decl
decl_of u = roll-Decl (record { kind = u.0; span = u.1 })

abbrev pub unit_of : List Decl → TranslationUnit
unit_of decls = record { decls = decls }
