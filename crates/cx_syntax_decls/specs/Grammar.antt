-- The grammar of functions, classes, namespaces and units ([dcl.fct], [class], [namespace.def], [basic.link]): one line for each alternative.
-- Each symbol is given at the number of levels that are left where it stands.
use Rattle.std.specs.Prelude.{ℕ, zero, suc, Bool, false, ◌&&◌, List, ◌∷◌, Option, Some, None}
use Rattle.cx_tree.specs.declared.names.Ident.{Ident}
use Rattle.cx_tree.specs.declared.specifiers.ClassKey.{ClassKey}
use Rattle.cx_tree.specs.declared.decls.Base.{Base}
use Rattle.cx_tree.specs.declared.decls.Body.{Body}
use Rattle.cx_tree.specs.declared.decls.Body.TheVariants as bodies
use Rattle.cx_tree.specs.declared.decls.Class.{Class}
use Rattle.cx_tree.specs.declared.decls.ClassBody.{ClassBody}
use Rattle.cx_tree.specs.declared.decls.Constructor.{Constructor}
use Rattle.cx_tree.specs.declared.decls.ConstructorBody.{ConstructorBody}
use Rattle.cx_tree.specs.declared.decls.ConstructorBody.TheVariants as ends
use Rattle.cx_tree.specs.declared.decls.Decl.{Decl}
use Rattle.cx_tree.specs.declared.decls.DeclKind.{DeclKind}
use Rattle.cx_tree.specs.declared.decls.DeclKind.TheVariants as d
use Rattle.cx_tree.specs.declared.decls.Destructor.{Destructor}
use Rattle.cx_tree.specs.declared.decls.Entity.{Entity}
use Rattle.cx_tree.specs.declared.decls.EntityKind.{EntityKind}
use Rattle.cx_tree.specs.declared.decls.EntityKind.TheVariants as e
use Rattle.cx_tree.specs.declared.decls.Function.{Function}
use Rattle.cx_tree.specs.declared.decls.Member.{Member}
use Rattle.cx_tree.specs.declared.decls.MemberInit.{MemberInit}
use Rattle.cx_tree.specs.declared.decls.MemberKind.{MemberKind}
use Rattle.cx_tree.specs.declared.decls.MemberKind.TheVariants as m
use Rattle.cx_tree.specs.declared.decls.MemberName.{MemberName}
use Rattle.cx_tree.specs.declared.decls.MemberName.TheVariants as named
use Rattle.cx_tree.specs.declared.decls.Namespace.{Namespace}
use Rattle.cx_tree.specs.declared.decls.Param.{Param}
use Rattle.cx_tree.specs.declared.decls.Unit.{Unit as TranslationUnit}
use Rattle.cx_syntax.specs.declared.class.Class.TheVariants as k
use Rattle.cx_syntax.specs.declared.lexeme.Lexeme.{Lexeme}
use Rattle.cx_grammar.specs.Language.{Language, one, the, ◌>>◌, ◌<$>◌, ◌∥◌, ◌⊳◌, ◌⊲◌, maybe, many, separated, measured, unless, absent, there}
use Rattle.cx_grammar.specs.Sets.{of}
use Rattle.cx_syntax.specs.Classes.{class_at, is}
use Rattle.cx_syntax.specs.Sets.{is_type}
use Rattle.cx_syntax.specs.Values.{pick, span_of}
use Rattle.cx_syntax.specs.Grammar as g
use Rattle.cx_syntax.specs.Grammar.{id, type_only, destructor_name, fname, qtype, modifier, specs, ptrs}
use Rattle.cx_syntax_parts.specs.Grammar as parts
use Rattle.cx_syntax_parts.specs.Grammar.{tail, virt, access}
use Rattle.cx_syntax_vars.specs.Grammar as variables
use Rattle.cx_syntax_stmts.specs.Grammar as stmts
use Rattle.cx_syntax_decls.specs.Sets.{is_key, is_final}
use Rattle.cx_syntax_decls.specs.Values.{key_of, function_of, FunctionEnd, entity_of, member_init_of, block_made_of, ConstructorEnd, constructor_of, DestructorEnd, destructor_of, member_of, base_of, body_of, class_of, namespace_of, decl_of, unit_of}

-- key = "struct" | "class" | "union"
abbrev pub key : Language Lexeme ClassKey
key = one (pick is_key key_of)

-- a key, a TYPE, `final` and `{` come first: a class, and no variable whose name is `final` ([class.pre])
abbrev pub final_class : List Lexeme → Bool
final_class (t ∷ u ∷ v ∷ w ∷ ts) = is_key t.class && is_type u.class && is_final v.class && is k.OpenBrace w
final_class _ = false

-- qtype | ID ([class.base.init])
abbrev pub member_name : Language Lexeme MemberName
member_name = (named.Type <$> qtype) ∥ (named.Ident <$> id)

module _ (n : ℕ) where
  -- ---- functions and variables ([dcl.fct], [dcl.fct.def])

  -- "(" params? ")"
  abbrev pub paren_params : Language Lexeme (Option (List Param))
  paren_params = is k.OpenParen ⊳ maybe (variables.params n) ⊲ is k.CloseParen

  -- tail | block
  abbrev pub body : Language Lexeme Body
  body = (bodies.Tail <$> tail) ∥ (bodies.Block <$> stmts.block n)

  -- "const"? noex virt (tail | block)
  abbrev pub function_end : Language Lexeme FunctionEnd
  function_end = maybe (the (is k.Const)) >> parts.noex n >> virt >> body

  -- ptrs fname "(" params? ")" "const"? noex virt (tail | block)
  abbrev pub function : Language Lexeme Function
  function = function_of <$> (ptrs >> fname >> paren_params >> function_end)

  -- var ("," var)* ";" | ptrs fname "(" params? ")" "const"? noex virt (tail | block)
  abbrev pub entity_kind : Language Lexeme EntityKind
  entity_kind = (e.Vars <$> (variables.vars n ⊲ is k.Semicolon)) ∥ (e.Function <$> function)

  -- entity = attrs specs (var ("," var)* ";" | ptrs fname "(" params? ")" "const"? noex virt (tail | block)), but no class
  abbrev pub entity : Language Lexeme Entity
  entity = unless final_class (entity_of <$> (parts.attrs n >> specs >> entity_kind))

  -- ---- special member functions ([class.ctor], [class.dtor], [class.base.init])

  -- minit = (qtype | ID) ("(" args? ")" | braces)
  abbrev pub minit : Language Lexeme MemberInit
  minit = member_init_of <$> measured span_of (member_name >> g.given (g.deeper n))

  -- ":" minit ("," minit)*
  abbrev pub minits : Language Lexeme (List MemberInit)
  minits = is k.Colon ⊳ separated (is k.Comma) minit

  -- tail | (":" minit ("," minit)*)? block
  abbrev pub ctor_body : Language Lexeme ConstructorBody
  ctor_body = (ends.Tail <$> tail) ∥ (block_made_of <$> (maybe minits >> stmts.block n))

  -- TYPE "(" params? ")" noex (tail | (":" minit ("," minit)*)? block)
  abbrev pub ctor_end : Language Lexeme ConstructorEnd
  ctor_end = type_only >> paren_params >> parts.noex n >> ctor_body

  -- ctor = attrs mod* TYPE "(" params? ")" noex (tail | (":" minit ("," minit)*)? block)
  abbrev pub ctor : Language Lexeme Constructor
  ctor = constructor_of <$> (parts.attrs n >> many modifier >> ctor_end)

  -- "~" TYPE "(" ")" noex virt (tail | block)
  abbrev pub dtor_end : Language Lexeme DestructorEnd
  dtor_end = (destructor_name ⊲ is k.OpenParen ⊲ is k.CloseParen) >> parts.noex n >> virt >> body

  -- dtor = attrs mod* "~" TYPE "(" ")" noex virt (tail | block)
  abbrev pub dtor : Language Lexeme Destructor
  dtor = destructor_of <$> (parts.attrs n >> many modifier >> dtor_end)

  -- ---- classes ([class.pre], [class.derived])

  -- base = attrs access? qtype
  abbrev pub base : Language Lexeme Base
  base = base_of <$> measured span_of (parts.attrs n >> maybe access >> qtype)

  -- ":" base ("," base)*
  abbrev pub bases : Language Lexeme (List Base)
  bases = is k.Colon ⊳ separated (is k.Comma) base

-- over members one level deeper
module _ (n : ℕ) (below : Language Lexeme Member) where
  -- "final"? (":" base ("," base)*)? "{" member^* "}" ";"
  abbrev pub class_body : Language Lexeme ClassBody
  class_body = body_of <$> (maybe (the (of class_at is_final)) >> maybe (bases n) >> is k.OpenBrace ⊳ many below ⊲ is k.CloseBrace ⊲ is k.Semicolon)

  -- ";" | "final"? (":" base ("," base)*)? "{" member^* "}" ";"
  abbrev pub class_end : Language Lexeme (Option ClassBody)
  class_end = ((λ _. None) <$> the (is k.Semicolon)) ∥ (Some <$> class_body)

  -- class = key attrs TYPE (";" | "final"? (":" base ("," base)*)? "{" member^* "}" ";")
  abbrev pub class_over : Language Lexeme Class
  class_over = class_of <$> measured span_of (key >> parts.attrs n >> type_only >> class_end)

  -- member = access ":" | ";" | assert | alias | typedef | enum | class | ctor | dtor | entity
  abbrev pub member_kind : Language Lexeme MemberKind
  member_kind = (m.Access <$> (access ⊲ is k.Colon))
      ∥ ((λ _. m.Empty) <$> the (is k.Semicolon))
      ∥ (m.Assert <$> parts.assert n)
      ∥ (m.Alias <$> parts.alias n)
      ∥ (m.Typedef <$> variables.typedef)
      ∥ (m.Enum <$> parts.enum n)
      ∥ (m.Class <$> class_over)
      ∥ (m.Constructor <$> ctor n)
      ∥ (m.Destructor <$> dtor n)
      ∥ (m.Entity <$> entity n)

  abbrev pub member_over : Language Lexeme Member
  member_over = member_of <$> measured span_of member_kind

-- members one level deeper, with so many levels left
abbrev pub deeper_member : ℕ → Language Lexeme Member
deeper_member zero = absent
deeper_member (suc n) = there (member_over n (deeper_member n))

abbrev pub member : ℕ → Language Lexeme Member
member n = member_over n (deeper_member n)

abbrev pub class : ℕ → Language Lexeme Class
class n = class_over n (deeper_member n)

-- ---- namespaces and declarations ([namespace.def], [dcl.dcl])

-- ID ("::" ID)*
abbrev pub space_names : Language Lexeme (List Ident)
space_names = separated (is k.ColonColon) id

-- over declarations one level deeper
module _ (n : ℕ) (below : Language Lexeme Decl) where
  -- space = "namespace" attrs ID ("::" ID)* "{" decl^* "}"
  abbrev pub space_over : Language Lexeme Namespace
  space_over = namespace_of <$> (is k.Namespace ⊳ parts.attrs n >> space_names >> is k.OpenBrace ⊳ many below ⊲ is k.CloseBrace)

  -- decl = ";" | space | assert | alias | typedef | enum | class | entity
  abbrev pub decl_kind : Language Lexeme DeclKind
  decl_kind = ((λ _. d.Empty) <$> the (is k.Semicolon))
      ∥ (d.Namespace <$> space_over)
      ∥ (d.Assert <$> parts.assert n)
      ∥ (d.Alias <$> parts.alias n)
      ∥ (d.Typedef <$> variables.typedef)
      ∥ (d.Enum <$> parts.enum n)
      ∥ (d.Class <$> class n)
      ∥ (d.Entity <$> entity n)

  abbrev pub decl_over : Language Lexeme Decl
  decl_over = decl_of <$> measured span_of decl_kind

-- declarations one level deeper, with so many levels left
abbrev pub deeper_decl : ℕ → Language Lexeme Decl
deeper_decl zero = absent
deeper_decl (suc n) = there (decl_over n (deeper_decl n))

abbrev pub decl : ℕ → Language Lexeme Decl
decl n = decl_over n (deeper_decl n)

abbrev pub space : ℕ → Language Lexeme Namespace
space n = space_over n (deeper_decl n)

-- unit = decl* END
abbrev pub unit : ℕ → Language Lexeme TranslationUnit
unit n = unit_of <$> (many (decl n) ⊲ is k.End)
