-- The readers of the rules: each has the name of its language, and chooses by the tokens ahead and then by the level.
use Rattle.std.specs.Prelude.{ℕ, Bool, List, [], ◌∷◌, Option, Some, None, if◌then◌else◌}
use Rattle.cx_base.specs.declared.rule.Rule.TheVariants.{Syntax}
use Rattle.cx_tree.specs.declared.names.Ident.{Ident}
use Rattle.cx_tree.specs.declared.specifiers.Modifier.{Modifier}
use Rattle.cx_tree.specs.declared.specifiers.Ptrs.{Ptrs}
use Rattle.cx_tree.specs.declared.specifiers.Specs.{Specs}
use Rattle.cx_tree.specs.declared.specifiers.SpecsType.{SpecsType}
use Rattle.cx_tree.specs.declared.exprs.Args.{Args}
use Rattle.cx_tree.specs.declared.exprs.Bound.{Bound}
use Rattle.cx_tree.specs.declared.exprs.Braces.{Braces}
use Rattle.cx_tree.specs.declared.exprs.Expr.{Expr}
use Rattle.cx_tree.specs.declared.decls.Typedef.{Typedef}
use Rattle.cx_tree.specs.declared.decls.Param.{Param}
use Rattle.cx_tree.specs.declared.stmts.Init.{Init}
use Rattle.cx_tree.specs.declared.stmts.InitKind.{InitKind}
use Rattle.cx_tree.specs.declared.stmts.InitKind.TheVariants as i
use Rattle.cx_tree.specs.declared.stmts.Local.{Local}
use Rattle.cx_tree.specs.declared.stmts.Var.{Var}
use Rattle.cx_syntax.specs.declared.class.Class.TheVariants as k
use Rattle.cx_syntax.specs.declared.lexeme.Lexeme.{Lexeme}
use Rattle.cx_grammar.specs.Exact.{done, stop}
use Rattle.cx_grammar.specs.Reading.{Reader, made, sees_two, guarded, maybe_if, many_when, separated_by, measured_by, ◌>>◌, ◌<$>◌, ◌⊳◌, ◌⊲◌}
use Rattle.cx_grammar.specs.Sets.{of}
use Rattle.cx_syntax.specs.Classes.{class_at, is}
use Rattle.cx_syntax.specs.Linked.{read_then}
use Rattle.cx_syntax.specs.Sets.{is_id}
use Rattle.cx_syntax.specs.Values.{span_of, specs_of}
use Rattle.cx_syntax.specs.Readers as r
use Rattle.cx_syntax.specs.Readers.{deeper, choose, just, id, type_only, modifiers, typed, ptrs}
use Rattle.cx_syntax_parts.specs.Readers.{attribute, attrs}
use Rattle.cx_levels.specs.Levels.{greatest}
use Rattle.cx_syntax_vars.specs.Ahead.{type_next, aliased_next, type_made_at}
use Rattle.cx_syntax_vars.specs.Sets.{starts_init}
use Rattle.cx_syntax_vars.specs.Values.{typedef_of, list_of, init_of, var_of, param_of, local_of, bare_local_of}

-- ---- specifiers before a declarator

-- A type behind modifiers, where the test says that one follows; where there are no modifiers it must follow.
abbrev pub type_behind : (List Lexeme → Bool) → List Modifier → Reader Lexeme (Option SpecsType)
type_behind follows [] ts = made Some (typed ts)
type_behind follows (m ∷ ms) ts = if follows ts then made Some (typed ts) else done None ts

abbrev pub specs_parts : (List Lexeme → Bool) → Reader Lexeme (List Modifier × Option SpecsType)
specs_parts follows = read_then modifiers (type_behind follows)

unfoldable pub specs_before : (List Lexeme → Bool) → Reader Lexeme Specs
specs_before follows = specs_of <$> measured_by span_of (specs_parts follows)

-- ---- typedef

abbrev pub typedef_end : Reader Lexeme (Ptrs × Ident)
typedef_end = ptrs >> type_only ⊲ is k.Semicolon

abbrev pub typedef_parts : Reader Lexeme (Specs × (Ptrs × Ident))
typedef_parts = is k.Typedef ⊳ (specs_before aliased_next >> typedef_end)

unfoldable pub typedef : Reader Lexeme Typedef
typedef = typedef_of <$> measured_by span_of typedef_parts

module _ (n : ℕ) where
  abbrev assign : Reader Lexeme Expr
  assign = r.assign (deeper n)

  abbrev braces : Reader Lexeme Braces
  braces = r.braces (deeper n)

  abbrev args : Reader Lexeme (List Expr)
  args = r.args (deeper n)

  abbrev bounds : Reader Lexeme (List Bound)
  bounds = r.bounds (deeper n)

  -- ---- initializers

  -- behind `=`
  unfoldable pub equals_value : Reader Lexeme InitKind
  equals_value = choose (just k.OpenBrace) (i.EqualsList <$> braces) (i.Equals <$> assign)

  abbrev pub equals : Reader Lexeme InitKind
  equals = is k.Equal ⊳ equals_value

  -- the arguments, where no token of them is refused
  abbrev pub args_by : Option ℕ → Reader Lexeme (List Expr)
  args_by None ts = args ts
  args_by (Some left) ts = stop Syntax left

  unfoldable pub init_args : Reader Lexeme (List Expr)
  init_args ts = args_by (type_made_at ts) ts

  abbrev pub paren_parts : Reader Lexeme (List Expr)
  paren_parts = is k.OpenParen ⊳ init_args ⊲ is k.CloseParen

  unfoldable pub paren_init : Reader Lexeme Args
  paren_init = guarded (deeper n).room (list_of <$> measured_by span_of paren_parts)

  unfoldable pub init_kind : Reader Lexeme InitKind
  init_kind = choose (just k.OpenParen) (i.Direct <$> paren_init) (choose (just k.Equal) equals (i.DirectList <$> braces))

  unfoldable pub init : Reader Lexeme Init
  init = init_of <$> measured_by span_of init_kind

  abbrev pub maybe_init : Reader Lexeme (Option Init)
  maybe_init = maybe_if (of class_at starts_init) init

  -- ---- variables

  -- attributes behind a name: `[` with no other behind it is a bound's
  unfoldable pub name_attrs : Reader Lexeme ℕ
  name_attrs = greatest <$> many_when (sees_two (is k.OpenBracket) (is k.OpenBracket)) (attribute n)

  abbrev pub var_end : Reader Lexeme (List Bound × Option Init)
  var_end = bounds >> maybe_init

  abbrev pub var_attrs : Reader Lexeme (ℕ × (List Bound × Option Init))
  var_attrs = name_attrs >> var_end

  abbrev pub named_var : Reader Lexeme (Ident × (ℕ × (List Bound × Option Init)))
  named_var = id >> var_attrs

  abbrev pub var_parts : Reader Lexeme (Ptrs × (Ident × (ℕ × (List Bound × Option Init))))
  var_parts = ptrs >> named_var

  unfoldable pub var : Reader Lexeme Var
  var = var_of <$> measured_by span_of var_parts

  -- one variable more
  abbrev pub other_var : Reader Lexeme Var
  other_var = is k.Comma ⊳ var

  unfoldable pub vars : Reader Lexeme (List Var)
  vars = separated_by (is k.Comma) var

  -- ---- parameters

  abbrev pub default_parts : Reader Lexeme Expr
  default_parts = is k.Equal ⊳ (deeper n).assign

  unfoldable pub default_argument : Reader Lexeme Expr
  default_argument = guarded (deeper n).room default_parts

  abbrev pub maybe_default : Reader Lexeme (Option Expr)
  maybe_default = maybe_if (is k.Equal) default_argument

  abbrev pub maybe_id : Reader Lexeme (Option Ident)
  maybe_id = maybe_if (of class_at is_id) id

  abbrev pub param_bounds : Reader Lexeme (List Bound × Option Expr)
  param_bounds = bounds >> maybe_default

  abbrev pub param_name : Reader Lexeme (Option Ident × (List Bound × Option Expr))
  param_name = maybe_id >> param_bounds

  abbrev pub param_declarator : Reader Lexeme (Ptrs × (Option Ident × (List Bound × Option Expr)))
  param_declarator = ptrs >> param_name

  abbrev pub param_specs : Reader Lexeme (Specs × (Ptrs × (Option Ident × (List Bound × Option Expr))))
  param_specs = specs_before type_next >> param_declarator

  abbrev pub param_parts : Reader Lexeme (ℕ × (Specs × (Ptrs × (Option Ident × (List Bound × Option Expr)))))
  param_parts = attrs n >> param_specs

  unfoldable pub param : Reader Lexeme Param
  param = param_of <$> measured_by span_of param_parts

  -- one parameter more
  abbrev pub other_param : Reader Lexeme Param
  other_param = is k.Comma ⊳ param

  unfoldable pub params : Reader Lexeme (List Param)
  params = separated_by (is k.Comma) param

  -- ---- local variables

  -- variables and the `;` behind them
  abbrev pub vars_end : Reader Lexeme (List Var)
  vars_end = vars ⊲ is k.Semicolon

  unfoldable pub declared : Reader Lexeme (Specs × List Var)
  declared = specs_before type_next >> vars_end

  abbrev pub local_parts : Reader Lexeme (ℕ × (Specs × List Var))
  local_parts = attrs n >> declared

  unfoldable pub local : Reader Lexeme Local
  local = local_of <$> measured_by span_of local_parts

  unfoldable pub bare_local : Reader Lexeme Local
  bare_local = bare_local_of <$> measured_by span_of declared
