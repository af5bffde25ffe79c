-- The symbols, each at so many levels that are left and their readers.
use Rattle.std.specs.Prelude.{◌≡◌, ℕ, false, List}
use Rattle.cx_tree.specs.declared.decls.Base.{Base}
use Rattle.cx_tree.specs.declared.decls.Class.{Class}
use Rattle.cx_tree.specs.declared.decls.Constructor.{Constructor}
use Rattle.cx_tree.specs.declared.decls.Decl.{Decl}
use Rattle.cx_tree.specs.declared.decls.Destructor.{Destructor}
use Rattle.cx_tree.specs.declared.decls.Entity.{Entity}
use Rattle.cx_tree.specs.declared.decls.EntityKind.{EntityKind}
use Rattle.cx_tree.specs.declared.decls.Member.{Member}
use Rattle.cx_tree.specs.declared.decls.MemberInit.{MemberInit}
use Rattle.cx_tree.specs.declared.decls.Namespace.{Namespace}
use Rattle.cx_tree.specs.declared.decls.Unit.{Unit as TranslationUnit}
use Rattle.cx_syntax.specs.declared.lexeme.Lexeme.{Lexeme}
use Rattle.cx_grammar.specs.Exact.{Family, Exact}
use Rattle.cx_grammar.specs.Reading.{Reader}
use Rattle.cx_syntax.specs.Symbols.{nothing}
use Rattle.cx_syntax_decls.specs.Ahead.{class_ahead}
use Rattle.cx_syntax_decls.specs.Grammar as grammar
use Rattle.cx_syntax_decls.specs.Readers as readers

abbrev pub minit : Family Lexeme MemberInit
minit n = grammar.minit n

abbrev pub entity_kind : Family Lexeme EntityKind
entity_kind n = grammar.entity_kind n

abbrev pub ctor : Family Lexeme Constructor
ctor n = grammar.ctor n

abbrev pub dtor : Family Lexeme Destructor
dtor n = grammar.dtor n

abbrev pub base : Family Lexeme Base
base n = grammar.base n

abbrev pub class : Family Lexeme Class
class n = grammar.class n

abbrev pub member : Family Lexeme Member
member n = grammar.member n

abbrev pub space : Family Lexeme Namespace
space n = grammar.space n

abbrev pub decl : Family Lexeme Decl
decl n = grammar.decl n

abbrev pub unit : Family Lexeme TranslationUnit
unit n = grammar.unit n

abbrev pub entity : Family Lexeme Entity
entity n = grammar.entity n

-- ---- readers

abbrev pub minits_read : ℕ → Reader Lexeme MemberInit
minits_read n = readers.minit n

abbrev pub entity_kinds : ℕ → Reader Lexeme EntityKind
entity_kinds n = readers.entity_kind n

abbrev pub ctors : ℕ → Reader Lexeme Constructor
ctors n = readers.ctor n

abbrev pub dtors : ℕ → Reader Lexeme Destructor
dtors n = readers.dtor n

abbrev pub bases : ℕ → Reader Lexeme Base
bases n = readers.base n

abbrev pub classes : ℕ → Reader Lexeme Class
classes n = readers.class n

abbrev pub members : ℕ → Reader Lexeme Member
members n = readers.member n

abbrev pub spaces : ℕ → Reader Lexeme Namespace
spaces n = readers.space n

abbrev pub decls : ℕ → Reader Lexeme Decl
decls n = readers.decl n

abbrev pub units : ℕ → Reader Lexeme TranslationUnit
units n = readers.unit n

abbrev pub entities : ℕ → Reader Lexeme Entity
entities n = readers.entity n

-- ---- laws of their own

-- An entity is read exactly where no class comes next.
abbrev pub IsExactEntity : Type 0
IsExactEntity = (levels : ℕ) (ts : List Lexeme) → class_ahead ts ≡ false → Exact entity nothing levels ts (entities levels ts)
