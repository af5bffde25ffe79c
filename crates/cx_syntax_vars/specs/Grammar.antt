-- The grammar of variables and parameters ([dcl.typedef], [dcl.decl], [dcl.init], [dcl.fct]): one line for each alternative.
-- Each symbol is given at the number of levels that are left where it stands.
use Rattle.std.specs.Prelude.{ℕ, List}
use Rattle.cx_tree.specs.declared.specifiers.Specs.{Specs}
use Rattle.cx_tree.specs.declared.exprs.Args.{Args}
use Rattle.cx_tree.specs.declared.exprs.Braces.{Braces}
use Rattle.cx_tree.specs.declared.exprs.Bound.{Bound}
use Rattle.cx_tree.specs.declared.exprs.Expr.{Expr}
use Rattle.cx_tree.specs.declared.decls.Typedef.{Typedef}
use Rattle.cx_tree.specs.declared.decls.Param.{Param}
use Rattle.cx_tree.specs.declared.stmts.Init.{Init}
use Rattle.cx_tree.specs.declared.stmts.InitKind.{InitKind}
use Rattle.cx_tree.specs.declared.stmts.InitKind.TheVariants as i
use Rattle.cx_tree.specs.declared.stmts.Local.{Local}
use Rattle.cx_tree.specs.declared.stmts.Var.{Var}
use Rattle.cx_syntax.specs.declared.class.Class.TheVariants as k
use Rattle.cx_syntax.specs.declared.lexeme.Lexeme.{Lexeme}
use Rattle.cx_grammar.specs.Language.{Language, ◌>>◌, ◌<$>◌, ◌∥◌, ◌⊳◌, ◌⊲◌, maybe, upto, separated, unless, measured}
use Rattle.cx_syntax.specs.Classes.{is}
use Rattle.cx_syntax.specs.Values.{span_of}
use Rattle.cx_syntax.specs.Grammar as g
use Rattle.cx_syntax.specs.Grammar.{deeper, id, type_only, specs, ptrs}
use Rattle.cx_syntax_parts.specs.Grammar.{attrs}
use Rattle.cx_syntax_vars.specs.Ahead.{begins_made}
use Rattle.cx_syntax_vars.specs.Values.{typedef_of, list_of, init_of, var_of, param_of, local_of, bare_local_of}

-- typedef = "typedef" specs ptrs TYPE ";"
abbrev pub typedef : Language Lexeme Typedef
typedef = typedef_of <$> measured span_of (is k.Typedef ⊳ (specs >> ptrs >> type_only ⊲ is k.Semicolon))

module _ (n : ℕ) where
  abbrev assign : Language Lexeme Expr
  assign = g.assign (deeper n)

  abbrev braces : Language Lexeme Braces
  braces = g.braces (deeper n)

  abbrev bounds : Language Lexeme (List Bound)
  bounds = upto 16 (g.bound (deeper n))

  -- ---- initializers

  -- "=" assign | "=" braces
  abbrev pub equals : Language Lexeme InitKind
  equals = (i.Equals <$> (is k.Equal ⊳ assign)) ∥ (i.EqualsList <$> (is k.Equal ⊳ braces))

  -- args that do not begin with a word, nor with a type's name that something is made of
  abbrev pub init_args : Language Lexeme (List Expr)
  init_args = unless begins_made (g.args (deeper n))

  -- "(" args ")"
  abbrev pub paren_init : Language Lexeme Args
  paren_init = list_of <$> measured span_of (is k.OpenParen ⊳ init_args ⊲ is k.CloseParen)

  -- init = "=" assign | "=" braces | braces | "(" args ")"
  abbrev pub init : Language Lexeme Init
  init = init_of <$> measured span_of (equals ∥ (i.DirectList <$> braces) ∥ (i.Direct <$> paren_init))

  -- ---- variables and parameters

  -- var = ptrs ID attrs bound{0..16} init?
  abbrev pub var : Language Lexeme Var
  var = var_of <$> measured span_of (ptrs >> id >> attrs n >> bounds >> maybe init)

  -- var ("," var)*
  abbrev pub vars : Language Lexeme (List Var)
  vars = separated (is k.Comma) var

  -- "=" assign^
  abbrev pub default_argument : Language Lexeme Expr
  default_argument = is k.Equal ⊳ (deeper n).assign

  -- param = attrs specs ptrs ID? bound{0..16} ("=" assign^)?
  abbrev pub param : Language Lexeme Param
  param = param_of <$> measured span_of (attrs n >> specs >> ptrs >> maybe id >> bounds >> maybe default_argument)

  -- params = param ("," param)*
  abbrev pub params : Language Lexeme (List Param)
  params = separated (is k.Comma) param

  -- specs var ("," var)* ";"
  abbrev pub declared : Language Lexeme (Specs × List Var)
  declared = specs >> vars ⊲ is k.Semicolon

  -- local = attrs specs var ("," var)* ";"
  abbrev pub local : Language Lexeme Local
  local = local_of <$> measured span_of (attrs n >> declared)

  -- the local of a `for`, which has no attributes
  abbrev pub bare_local : Language Lexeme Local
  bare_local = bare_local_of <$> measured span_of declared
