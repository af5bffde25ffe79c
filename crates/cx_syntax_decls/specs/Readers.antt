-- The readers of the rules: each has the name of its language, and chooses by the tokens ahead and then by the level.
use Rattle.std.specs.Prelude.{ℕ, zero, suc, Bool, true, false, not, ◌&&◌, List, Option, Some, None, if◌then◌else◌}
use Rattle.cx_tree.specs.declared.names.Ident.{Ident}
use Rattle.cx_tree.specs.declared.names.FunctionName.{FunctionName}
use Rattle.cx_tree.specs.declared.names.TypeName.{TypeName}
use Rattle.cx_tree.specs.declared.specifiers.ClassKey.{ClassKey}
use Rattle.cx_tree.specs.declared.specifiers.Modifier.{Modifier}
use Rattle.cx_tree.specs.declared.specifiers.Specs.{Specs}
use Rattle.cx_tree.specs.declared.stmts.Var.{Var}
use Rattle.cx_tree.specs.declared.decls.Access.{Access}
use Rattle.cx_tree.specs.declared.decls.Base.{Base}
use Rattle.cx_tree.specs.declared.decls.Body.{Body}
use Rattle.cx_tree.specs.declared.decls.Body.TheVariants as bodies
use Rattle.cx_tree.specs.declared.decls.Class.{Class}
use Rattle.cx_tree.specs.declared.decls.ClassBody.{ClassBody}
use Rattle.cx_tree.specs.declared.decls.ConstructorBody.{ConstructorBody}
use Rattle.cx_tree.specs.declared.decls.ConstructorBody.TheVariants as ends
use Rattle.cx_tree.specs.declared.decls.Constructor.{Constructor}
use Rattle.cx_tree.specs.declared.decls.Decl.{Decl}
use Rattle.cx_tree.specs.declared.decls.DeclKind.{DeclKind}
use Rattle.cx_tree.specs.declared.decls.DeclKind.TheVariants as d
use Rattle.cx_tree.specs.declared.decls.Destructor.{Destructor}
use Rattle.cx_tree.specs.declared.decls.Entity.{Entity}
use Rattle.cx_tree.specs.declared.decls.EntityKind.{EntityKind}
use Rattle.cx_tree.specs.declared.decls.EntityKind.TheVariants as e
use Rattle.cx_tree.specs.declared.decls.Function.{Function}
use Rattle.cx_tree.specs.declared.decls.Member.{Member}
use Rattle.cx_tree.specs.declared.decls.MemberInit.{MemberInit}
use Rattle.cx_tree.specs.declared.decls.MemberKind.{MemberKind}
use Rattle.cx_tree.specs.declared.decls.MemberKind.TheVariants as m
use Rattle.cx_tree.specs.declared.decls.MemberName.{MemberName}
use Rattle.cx_tree.specs.declared.decls.MemberName.TheVariants as named
use Rattle.cx_tree.specs.declared.decls.Namespace.{Namespace}
use Rattle.cx_tree.specs.declared.decls.Param.{Param}
use Rattle.cx_tree.specs.declared.decls.Unit.{Unit as TranslationUnit}
use Rattle.cx_tree.specs.declared.decls.Virtual.{Virtual}
use Rattle.cx_syntax.specs.declared.class.Class.TheVariants as k
use Rattle.cx_syntax.specs.declared.lexeme.Lexeme.{Lexeme}
use Rattle.cx_grammar.specs.Reading.{Reader, made, refuse, guarded, maybe_if, many_of, measured_by, separated_by, the, token, ◌>>◌, ◌<$>◌, ◌⊳◌, ◌⊲◌}
use Rattle.cx_grammar.specs.Reads.{tail_of}
use Rattle.cx_grammar.specs.Sets.{of}
use Rattle.cx_syntax.specs.Ahead.{type_fault}
use Rattle.cx_syntax.specs.Classes.{class_at, is}
use Rattle.cx_syntax.specs.Values.{pick, span_of}
use Rattle.cx_tree.specs.declared.names.DestructorName.{DestructorName}
use Rattle.cx_syntax.specs.Readers as r
use Rattle.cx_syntax.specs.Readers.{choose, just, id, type_only, destructor_name, fname, qtype, modifiers, ptrs}
use Rattle.cx_syntax_parts.specs.Readers as parts
use Rattle.cx_syntax_parts.specs.Readers.{tail, virt, access}
use Rattle.cx_syntax_parts.specs.Sets.{is_access, starts_tail}
use Rattle.cx_syntax_vars.specs.Readers as variables
use Rattle.cx_syntax_vars.specs.Readers.{specs_before}
use Rattle.cx_syntax_vars.specs.Sets.{starts_param}
use Rattle.cx_syntax_stmts.specs.Ahead.{enum_ahead}
use Rattle.cx_syntax_stmts.specs.Readers as stmts
use Rattle.cx_syntax_decls.specs.Ahead.{rest_of, class_ahead, ctor_ahead, dtor_ahead, function_ahead, id_alone, named_next, parens_ahead}
use Rattle.cx_syntax_decls.specs.Sets.{is_final, is_key, starts_decl, starts_member}
use Rattle.cx_syntax_decls.specs.Values.{key_of, function_of, FunctionEnd, entity_of, member_init_of, block_made_of, ConstructorEnd, DestructorEnd, constructor_of, destructor_of, Behind, of_ctor, of_dtor, of_entity, member_function_of, member_of, base_of, body_of, class_of, namespace_of, decl_of, unit_of, no_variables}

abbrev pub key : Reader Lexeme ClassKey
key = token (pick is_key key_of)

-- an ID with no `::` behind it, or a type's name
unfoldable pub member_name : Reader Lexeme MemberName
member_name ts = if id_alone ts then made named.Ident (id ts) else made named.Type (qtype ts)

module _ (n : ℕ) where
  -- ---- functions and variables

  -- params?
  abbrev pub maybe_params : Reader Lexeme (Option (List Param))
  maybe_params = maybe_if (of class_at starts_param) (variables.params n)

  unfoldable pub paren_params : Reader Lexeme (Option (List Param))
  paren_params = is k.OpenParen ⊳ maybe_params ⊲ is k.CloseParen

  unfoldable pub body : Reader Lexeme Body
  body = choose starts_tail (bodies.Tail <$> tail) (bodies.Block <$> stmts.block n)

  -- "const"?
  abbrev pub maybe_const : Reader Lexeme (Option (Unit {0}))
  maybe_const = maybe_if (is k.Const) (the (is k.Const))

  abbrev pub virt_end : Reader Lexeme (List Virtual × Body)
  virt_end = virt >> body

  abbrev pub noex_end : Reader Lexeme (ℕ × (List Virtual × Body))
  noex_end = parts.noex n >> virt_end

  unfoldable pub function_end : Reader Lexeme FunctionEnd
  function_end = maybe_const >> noex_end

  abbrev pub params_end : Reader Lexeme (Option (List Param) × FunctionEnd)
  params_end = paren_params >> function_end

  abbrev pub fname_end : Reader Lexeme (FunctionName × (Option (List Param) × FunctionEnd))
  fname_end = fname >> params_end

  unfoldable pub function : Reader Lexeme Function
  function = function_of <$> (ptrs >> fname_end)

  unfoldable pub vars_end : Reader Lexeme (List Var)
  vars_end = variables.vars n ⊲ is k.Semicolon

  -- A name and `(` come next, and behind it what parameters do not begin with alone: variables. At the last level no arguments are there, and the fault is where parameters end.
  abbrev pub variables_by : List Lexeme → Reader Lexeme EntityKind
  variables_by u ts = if parens_ahead u && not (r.deeper n).room then made no_variables (type_fault (tail_of (tail_of u))) else made e.Vars (vars_end ts)

  -- from the name behind `*` and `&` on
  abbrev pub entity_kind_by : List Lexeme → Reader Lexeme EntityKind
  entity_kind_by u ts = if function_ahead u then made e.Function (function ts) else variables_by u ts

  unfoldable pub entity_kind : Reader Lexeme EntityKind
  entity_kind ts = entity_kind_by (rest_of (ptrs ts)) ts

  unfoldable pub entity_end : Reader Lexeme (Specs × EntityKind)
  entity_end = specs_before named_next >> entity_kind

  -- an entity, where no class comes next
  unfoldable pub entity : Reader Lexeme Entity
  entity = entity_of <$> (parts.attrs n >> entity_end)

  -- ---- special member functions

  unfoldable pub minit : Reader Lexeme MemberInit
  minit = member_init_of <$> measured_by span_of (member_name >> r.given (r.deeper n))

  -- one member initializer more
  abbrev pub other_minit : Reader Lexeme MemberInit
  other_minit = is k.Comma ⊳ minit

  unfoldable pub minits : Reader Lexeme (List MemberInit)
  minits = is k.Colon ⊳ separated_by (is k.Comma) minit

  abbrev pub maybe_minits : Reader Lexeme (Option (List MemberInit))
  maybe_minits = maybe_if (is k.Colon) minits

  unfoldable pub ctor_body : Reader Lexeme ConstructorBody
  ctor_body = choose starts_tail (ends.Tail <$> tail) (block_made_of <$> (maybe_minits >> stmts.block n))

  abbrev pub ctor_noex : Reader Lexeme (ℕ × ConstructorBody)
  ctor_noex = parts.noex n >> ctor_body

  abbrev pub ctor_params : Reader Lexeme (Option (List Param) × (ℕ × ConstructorBody))
  ctor_params = paren_params >> ctor_noex

  unfoldable pub ctor_end : Reader Lexeme ConstructorEnd
  ctor_end = type_only >> ctor_params

  -- a constructor behind its attributes
  abbrev pub ctor_behind : Reader Lexeme (List Modifier × ConstructorEnd)
  ctor_behind = modifiers >> ctor_end

  -- "~" TYPE "(" ")"
  abbrev pub dtor_name : Reader Lexeme DestructorName
  dtor_name = destructor_name ⊲ is k.OpenParen ⊲ is k.CloseParen

  unfoldable pub dtor_end : Reader Lexeme DestructorEnd
  dtor_end = dtor_name >> noex_end

  -- a destructor behind its attributes
  abbrev pub dtor_behind : Reader Lexeme (List Modifier × DestructorEnd)
  dtor_behind = modifiers >> dtor_end

  unfoldable pub ctor : Reader Lexeme Constructor
  ctor = constructor_of <$> (parts.attrs n >> ctor_behind)

  unfoldable pub dtor : Reader Lexeme Destructor
  dtor = destructor_of <$> (parts.attrs n >> dtor_behind)

  -- from behind the modifiers on
  abbrev pub behind_attrs_by : List Lexeme → Reader Lexeme Behind
  behind_attrs_by u ts = if ctor_ahead u then made of_ctor (ctor_behind ts) else (if dtor_ahead u then made of_dtor (dtor_behind ts) else made of_entity (entity_end ts))

  -- a constructor, a destructor or an entity behind the attributes
  unfoldable pub behind_attrs : Reader Lexeme Behind
  behind_attrs ts = behind_attrs_by (rest_of (modifiers ts)) ts

  unfoldable pub member_function : Reader Lexeme MemberKind
  member_function = member_function_of <$> (parts.attrs n >> behind_attrs)

  -- ---- classes

  -- access?
  abbrev pub maybe_access : Reader Lexeme (Option Access)
  maybe_access = maybe_if (of class_at is_access) access

  abbrev pub base_end : Reader Lexeme (Option Access × TypeName)
  base_end = maybe_access >> qtype

  abbrev pub base_parts : Reader Lexeme (ℕ × (Option Access × TypeName))
  base_parts = parts.attrs n >> base_end

  unfoldable pub base : Reader Lexeme Base
  base = base_of <$> measured_by span_of base_parts

  -- one base more
  abbrev pub other_base : Reader Lexeme Base
  other_base = is k.Comma ⊳ base

  unfoldable pub bases : Reader Lexeme (List Base)
  bases = is k.Colon ⊳ separated_by (is k.Comma) base

  abbrev pub maybe_bases : Reader Lexeme (Option (List Base))
  maybe_bases = maybe_if (is k.Colon) bases

-- the readers of members one level deeper
pub record Members : Type 0 where
  -- there is such a level
  pub room : Bool
  pub member : Reader Lexeme Member

module _ (n : ℕ) (below : Members) where
  unfoldable pub members : Reader Lexeme (List Member)
  members = many_of (of class_at starts_member) (guarded below.room below.member)

  -- "{" member^* "}" ";"
  abbrev pub braced : Reader Lexeme (List Member)
  braced = is k.OpenBrace ⊳ members ⊲ is k.CloseBrace ⊲ is k.Semicolon

  abbrev pub maybe_final : Reader Lexeme (Option (Unit {0}))
  maybe_final = maybe_if (of class_at is_final) (the (of class_at is_final))

  abbrev pub bases_end : Reader Lexeme (Option (List Base) × List Member)
  bases_end = maybe_bases n >> braced

  unfoldable pub class_body : Reader Lexeme ClassBody
  class_body = body_of <$> (maybe_final >> bases_end)

  unfoldable pub class_end : Reader Lexeme (Option ClassBody)
  class_end = choose (just k.Semicolon) ((λ _. None) <$> the (is k.Semicolon)) (Some <$> class_body)

  abbrev pub class_name : Reader Lexeme (Ident × Option ClassBody)
  class_name = type_only >> class_end

  abbrev pub class_attrs : Reader Lexeme (ℕ × (Ident × Option ClassBody))
  class_attrs = parts.attrs n >> class_name

  unfoldable pub class_over : Reader Lexeme Class
  class_over = class_of <$> measured_by span_of (key >> class_attrs)

  -- an enumeration, a class, or what else is declared
  unfoldable pub declared_member : Reader Lexeme MemberKind
  declared_member ts = if enum_ahead ts then made m.Enum (parts.enum n ts) else (if class_ahead ts then made m.Class (class_over ts) else member_function n ts)

  unfoldable pub member_kind : Reader Lexeme MemberKind
  member_kind = choose is_access (m.Access <$> (access ⊲ is k.Colon))
      (choose (just k.Semicolon) ((λ _. m.Empty) <$> the (is k.Semicolon))
      (choose (just k.StaticAssert) (m.Assert <$> parts.assert n)
      (choose (just k.Using) (m.Alias <$> parts.alias n)
      (choose (just k.Typedef) (m.Typedef <$> variables.typedef) declared_member))))

  unfoldable pub member_over : Reader Lexeme Member
  member_over = member_of <$> measured_by span_of member_kind

-- members one level deeper, with so many levels left
unfoldable pub deeper_member : ℕ → Members
deeper_member zero = record { room = false; member = refuse }
deeper_member (suc n) = record { room = true; member = member_over n (deeper_member n) }

abbrev pub member : ℕ → Reader Lexeme Member
member n = member_over n (deeper_member n)

abbrev pub class : ℕ → Reader Lexeme Class
class n = class_over n (deeper_member n)

-- ---- namespaces and declarations

-- one name more
abbrev pub other_name : Reader Lexeme Ident
other_name = is k.ColonColon ⊳ id

unfoldable pub space_names : Reader Lexeme (List Ident)
space_names = separated_by (is k.ColonColon) id

-- the readers of declarations one level deeper
pub record Decls : Type 0 where
  -- there is such a level
  pub room : Bool
  pub decl : Reader Lexeme Decl

module _ (n : ℕ) (below : Decls) where
  unfoldable pub decls : Reader Lexeme (List Decl)
  decls = many_of (of class_at starts_decl) (guarded below.room below.decl)

  -- "{" decl^* "}"
  abbrev pub space_body : Reader Lexeme (List Decl)
  space_body = is k.OpenBrace ⊳ decls ⊲ is k.CloseBrace

  abbrev pub space_end : Reader Lexeme (List Ident × List Decl)
  space_end = space_names >> space_body

  abbrev pub space_parts : Reader Lexeme (ℕ × (List Ident × List Decl))
  space_parts = is k.Namespace ⊳ parts.attrs n >> space_end

  unfoldable pub space_over : Reader Lexeme Namespace
  space_over = namespace_of <$> space_parts

  -- an enumeration, a class or an entity
  unfoldable pub declared : Reader Lexeme DeclKind
  declared ts = if enum_ahead ts then made d.Enum (parts.enum n ts) else (if class_ahead ts then made d.Class (class n ts) else made d.Entity (entity n ts))

  unfoldable pub decl_kind : Reader Lexeme DeclKind
  decl_kind = choose (just k.Semicolon) ((λ _. d.Empty) <$> the (is k.Semicolon))
      (choose (just k.Namespace) (d.Namespace <$> space_over)
      (choose (just k.StaticAssert) (d.Assert <$> parts.assert n)
      (choose (just k.Using) (d.Alias <$> parts.alias n)
      (choose (just k.Typedef) (d.Typedef <$> variables.typedef) declared))))

  unfoldable pub decl_over : Reader Lexeme Decl
  decl_over = decl_of <$> measured_by span_of decl_kind

-- declarations one level deeper, with so many levels left
unfoldable pub deeper_decl : ℕ → Decls
deeper_decl zero = record { room = false; decl = refuse }
deeper_decl (suc n) = record { room = true; decl = decl_over n (deeper_decl n) }

abbrev pub decl : ℕ → Reader Lexeme Decl
decl n = decl_over n (deeper_decl n)

abbrev pub space : ℕ → Reader Lexeme Namespace
space n = space_over n (deeper_decl n)

abbrev pub unit_decls : ℕ → Reader Lexeme (List Decl)
unit_decls n = many_of (of class_at starts_decl) (decl n)

unfoldable pub unit : ℕ → Reader Lexeme TranslationUnit
unit n = unit_of <$> (unit_decls n ⊲ is k.End)
