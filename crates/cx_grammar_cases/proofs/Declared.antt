-- The trees of declarations and statements in short words. All places are one.
use Prim.Native.String.{String}
use Rattle.std.proofs.Common.{ℕ, Bool, false, List, [], map, Option, Some, None}
use Rattle.cx_tree.specs.declared.names.TypeName.{TypeName}
use Rattle.cx_tree.specs.declared.names.FunctionName.{FunctionName}
use Rattle.cx_tree.specs.declared.specifiers.ClassKey.{ClassKey}
use Rattle.cx_tree.specs.declared.specifiers.ModifierWord.{ModifierWord}
use Rattle.cx_tree.specs.declared.specifiers.Specs.{Specs}
use Rattle.cx_tree.specs.declared.specifiers.Ptrs.{Ptrs}
use Rattle.cx_tree.specs.declared.exprs.Expr.{Expr}
use Rattle.cx_tree.specs.declared.exprs.Bound.{Bound}
use Rattle.cx_tree.specs.declared.exprs.TypeId.{TypeId}
use Rattle.cx_tree.specs.declared.exprs.Given.{Given}
use Rattle.cx_tree.specs.declared.stmts.Block.{Block, roll-Block}
use Rattle.cx_tree.specs.declared.stmts.Item.{Item}
use Rattle.cx_tree.specs.declared.stmts.Stmt.{Stmt, roll-Stmt}
use Rattle.cx_tree.specs.declared.stmts.StmtKind.{StmtKind}
use Rattle.cx_tree.specs.declared.stmts.SwitchItem.{SwitchItem}
use Rattle.cx_tree.specs.declared.stmts.SwitchItem.TheVariants as switch
use Rattle.cx_tree.specs.declared.stmts.LabelKind.{LabelKind}
use Rattle.cx_tree.specs.declared.stmts.LabelKind.TheVariants as labels
use Rattle.cx_tree.specs.declared.stmts.Local.{Local}
use Rattle.cx_tree.specs.declared.stmts.Var.{Var}
use Rattle.cx_tree.specs.declared.stmts.Init.{Init}
use Rattle.cx_tree.specs.declared.stmts.InitKind.{InitKind}
use Rattle.cx_tree.specs.declared.decls.Access.{Access}
use Rattle.cx_tree.specs.declared.decls.Alias.{Alias}
use Rattle.cx_tree.specs.declared.decls.Assert.{Assert}
use Rattle.cx_tree.specs.declared.decls.Base.{Base}
use Rattle.cx_tree.specs.declared.decls.Body.{Body}
use Rattle.cx_tree.specs.declared.decls.Class.{Class, roll-Class}
use Rattle.cx_tree.specs.declared.decls.ClassBody.{ClassBody, roll-ClassBody}
use Rattle.cx_tree.specs.declared.decls.Constructor.{Constructor}
use Rattle.cx_tree.specs.declared.decls.ConstructorBody.{ConstructorBody}
use Rattle.cx_tree.specs.declared.decls.Decl.{Decl, roll-Decl}
use Rattle.cx_tree.specs.declared.decls.DeclKind.{DeclKind}
use Rattle.cx_tree.specs.declared.decls.Destructor.{Destructor}
use Rattle.cx_tree.specs.declared.decls.Entity.{Entity}
use Rattle.cx_tree.specs.declared.decls.EntityKind.{EntityKind}
use Rattle.cx_tree.specs.declared.decls.Enumeration.{Enumeration}
use Rattle.cx_tree.specs.declared.decls.EnumerationKind.{EnumerationKind}
use Rattle.cx_tree.specs.declared.decls.Enumerator.{Enumerator}
use Rattle.cx_tree.specs.declared.decls.Function.{Function}
use Rattle.cx_tree.specs.declared.decls.Member.{Member, roll-Member}
use Rattle.cx_tree.specs.declared.decls.MemberInit.{MemberInit}
use Rattle.cx_tree.specs.declared.decls.MemberKind.{MemberKind}
use Rattle.cx_tree.specs.declared.decls.MemberName.{MemberName}
use Rattle.cx_tree.specs.declared.decls.Namespace.{Namespace, roll-Namespace}
use Rattle.cx_tree.specs.declared.decls.Param.{Param}
use Rattle.cx_tree.specs.declared.decls.Typedef.{Typedef}
use Rattle.cx_tree.specs.declared.decls.Unit.{Unit as TranslationUnit}
use Rattle.cx_tree.specs.declared.decls.Virtual.{Virtual}
use Rattle.cx_grammar_cases.proofs.Words.{no_span}
use Rattle.cx_grammar_cases.proofs.Trees.{destructor_name, ident, mod_of, pointers}

-- ---- variables

abbrev pub initial : InitKind → Init
initial kind = record { kind = kind; span = no_span }

abbrev pub variable : Ptrs → String → ℕ → List Bound → Option Init → Var
variable p t attrs bounds init = record { ptrs = p; name = ident t; attrs = attrs; bounds = bounds; init = init; span = no_span }

abbrev pub unset : String → Var
unset t = variable (pointers [] false) t 0 [] None

abbrev pub set : String → Init → Var
set t init = variable (pointers [] false) t 0 [] (Some init)

abbrev pub local : ℕ → Specs → List Var → Local
local attrs s vars = record { attrs = attrs; specs = s; vars = vars; span = no_span }

-- ---- statements

abbrev pub stmt_with : ℕ → StmtKind → Stmt
stmt_with attrs kind = roll-Stmt (record { attrs = attrs; kind = kind; span = no_span })

abbrev pub stmt : StmtKind → Stmt
stmt kind = stmt_with 0 kind

abbrev pub block : List Item → Block
block items = roll-Block (record { items = items; close = no_span; span = no_span })

abbrev pub label : LabelKind → SwitchItem
label kind = switch.Label (record { kind = kind; span = no_span })

abbrev pub case : Expr → SwitchItem
case value = label (labels.Case value)

abbrev pub default : SwitchItem
default = label labels.Default

-- ---- declarations of one kind

abbrev pub assertion : Expr → Option (List (List ℕ)) → Assert
assertion condition message = record { condition = condition; message = message; span = no_span }

abbrev pub alias : String → ℕ → TypeId → Alias
alias t attrs named_type = record { name = ident t; attrs = attrs; ty = named_type; span = no_span }

abbrev pub typed : Specs → Ptrs → String → Typedef
typed s p t = record { specs = s; ptrs = p; name = ident t; span = no_span }

abbrev pub enumerator : String → ℕ → Option Expr → Enumerator
enumerator t attrs value = record { name = ident t; attrs = attrs; value = value; span = no_span }

abbrev pub enumeration : ℕ → EnumerationKind → Enumeration
enumeration attrs kind = record { attrs = attrs; kind = kind; span = no_span }

-- ---- functions

abbrev pub param : ℕ → Specs → Ptrs → Option String → List Bound → Option Expr → Param
param attrs s p None bounds given_value = record { attrs = attrs; specs = s; ptrs = p; name = None; bounds = bounds; default = given_value; span = no_span }
param attrs s p (Some t) bounds given_value = record { attrs = attrs; specs = s; ptrs = p; name = Some (ident t); bounds = bounds; default = given_value; span = no_span }

abbrev pub function : Ptrs → FunctionName → List Param → Bool → ℕ → List Virtual → Body → Function
function p f params is_const levels virtuals body = record { ptrs = p; name = f; params = params; is_const = is_const; noexcept = levels; virtuals = virtuals; body = body }

abbrev pub plain_function : Ptrs → FunctionName → List Param → Body → Function
plain_function p f params body = function p f params false 0 [] body

abbrev pub entity : ℕ → Specs → EntityKind → Entity
entity attrs s kind = record { attrs = attrs; specs = s; kind = kind }

-- ---- classes

abbrev pub base : ℕ → Option Access → TypeName → Base
base attrs access t = record { attrs = attrs; access = access; name = t; span = no_span }

abbrev pub class_body : Bool → List Base → List Member → ClassBody
class_body is_final bases members = roll-ClassBody (record { is_final = is_final; bases = bases; members = members })

abbrev pub class : ClassKey → ℕ → String → Option ClassBody → Class
class key attrs t body = roll-Class (record { key = key; attrs = attrs; name = ident t; body = body; span = no_span })

abbrev pub member : MemberKind → Member
member kind = roll-Member (record { kind = kind; span = no_span })

abbrev pub member_init : MemberName → Given → MemberInit
member_init t given = record { name = t; given = given; span = no_span }

abbrev pub constructor : ℕ → List ModifierWord → String → List Param → ℕ → ConstructorBody → Constructor
constructor attrs before t params levels body = record { attrs = attrs; modifiers = map mod_of before; name = ident t; params = params; noexcept = levels; body = body }

abbrev pub destructor : ℕ → List ModifierWord → String → ℕ → List Virtual → Body → Destructor
destructor attrs before t levels virtuals body = record { attrs = attrs; modifiers = map mod_of before; name = destructor_name t; noexcept = levels; virtuals = virtuals; body = body }

-- ---- units

abbrev pub decl : DeclKind → Decl
decl kind = roll-Decl (record { kind = kind; span = no_span })

abbrev pub space : ℕ → List String → List Decl → Namespace
space attrs scopes decls = roll-Namespace (record { attrs = attrs; names = map ident scopes; decls = decls })

abbrev pub unit : List Decl → TranslationUnit
unit decls = record { decls = decls }
