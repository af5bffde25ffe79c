-- What the functions read by the way: members behind their attributes, and the alternatives of a member and of a declaration.
use Rattle.std.specs.Prelude.{ℕ, Option}
use Rattle.cx_tree.specs.declared.decls.Access.{Access}
use Rattle.cx_tree.specs.declared.decls.Decl.{Decl}
use Rattle.cx_tree.specs.declared.decls.DeclKind.{DeclKind}
use Rattle.cx_tree.specs.declared.decls.DeclKind.TheVariants as d
use Rattle.cx_tree.specs.declared.decls.Member.{Member}
use Rattle.cx_tree.specs.declared.decls.MemberKind.{MemberKind}
use Rattle.cx_tree.specs.declared.decls.MemberKind.TheVariants as m
use Rattle.cx_syntax.specs.declared.class.Class.TheVariants as k
use Rattle.cx_syntax.specs.declared.lexeme.Lexeme.{Lexeme}
use Rattle.cx_grammar.specs.Reading.{Reader, made, guarded, maybe_if, the, ◌<$>◌, ◌⊲◌}
use Rattle.cx_grammar.specs.Sets.{of}
use Rattle.cx_syntax.specs.Classes.{class_at, is}
use Rattle.cx_syntax_parts.specs.Readers as parts
use Rattle.cx_syntax_parts.specs.Sets.{is_access}
use Rattle.cx_syntax_vars.specs.Readers as variables
use Rattle.cx_syntax_decls.specs.Readers as r
use Rattle.cx_syntax_decls.specs.Values.{function_by, of_ctor, of_dtor, of_entity}

-- ---- members behind attributes that nest so many levels

abbrev pub constructor_with : ℕ → ℕ → Reader Lexeme MemberKind
constructor_with attrs n ts = made (function_by attrs) (made of_ctor (r.ctor_behind n ts))

abbrev pub destructor_with : ℕ → ℕ → Reader Lexeme MemberKind
destructor_with attrs n ts = made (function_by attrs) (made of_dtor (r.dtor_behind n ts))

-- variables or a function
abbrev pub entity_with : ℕ → ℕ → Reader Lexeme MemberKind
entity_with attrs n ts = made (function_by attrs) (made of_entity (r.entity_end n ts))

-- which of them, by what stands behind the modifiers
abbrev pub kind_with : ℕ → ℕ → Reader Lexeme MemberKind
kind_with attrs n ts = made (function_by attrs) (r.behind_attrs n ts)

-- ---- bases

-- access?
abbrev pub maybe_access : Reader Lexeme (Option Access)
maybe_access = maybe_if (of class_at is_access) parts.access

-- ---- members

-- a member one level deeper, where there is such a level
abbrev pub guarded_member : ℕ → Reader Lexeme Member
guarded_member n = guarded (r.deeper_member n).room (r.deeper_member n).member

-- access ":"
abbrev pub access_member : Reader Lexeme MemberKind
access_member = m.Access <$> (parts.access ⊲ is k.Colon)

abbrev pub empty_member : Reader Lexeme MemberKind
empty_member = (λ _. m.Empty) <$> the (is k.Semicolon)

abbrev pub assert_member : ℕ → Reader Lexeme MemberKind
assert_member n = m.Assert <$> parts.assert n

abbrev pub alias_member : ℕ → Reader Lexeme MemberKind
alias_member n = m.Alias <$> parts.alias n

abbrev pub typedef_member : Reader Lexeme MemberKind
typedef_member = m.Typedef <$> variables.typedef

abbrev pub enum_member : ℕ → Reader Lexeme MemberKind
enum_member n = m.Enum <$> parts.enum n

-- ---- declarations

-- a declaration one level deeper, where there is such a level
abbrev pub guarded_decl : ℕ → Reader Lexeme Decl
guarded_decl n = guarded (r.deeper_decl n).room (r.deeper_decl n).decl

abbrev pub empty_decl : Reader Lexeme DeclKind
empty_decl = (λ _. d.Empty) <$> the (is k.Semicolon)

abbrev pub space_decl : ℕ → r.Decls → Reader Lexeme DeclKind
space_decl n below = d.Namespace <$> r.space_over n below

abbrev pub assert_decl : ℕ → Reader Lexeme DeclKind
assert_decl n = d.Assert <$> parts.assert n

abbrev pub alias_decl : ℕ → Reader Lexeme DeclKind
alias_decl n = d.Alias <$> parts.alias n

abbrev pub typedef_decl : Reader Lexeme DeclKind
typedef_decl = d.Typedef <$> variables.typedef

abbrev pub enum_decl : ℕ → Reader Lexeme DeclKind
enum_decl n = d.Enum <$> parts.enum n

abbrev pub entity_decl : ℕ → Reader Lexeme DeclKind
entity_decl n = d.Entity <$> r.entity n
