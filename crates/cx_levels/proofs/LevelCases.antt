-- The levels of small texts, counted by hand.
use Rattle.std.proofs.Common.{◌≡◌, ℕ, List, [], ◌∷◌, Some, None, false, rules}
use Rattle.cx_base.specs.declared.diag.Span.{Span}
use Rattle.cx_tree.specs.declared.decls.Class as classes
use Rattle.cx_tree.specs.declared.decls.Class.{Class}
use Rattle.cx_tree.specs.declared.decls.Decl as decls
use Rattle.cx_tree.specs.declared.decls.Decl.{Decl}
use Rattle.cx_tree.specs.declared.decls.DeclKind.{DeclKind}
use Rattle.cx_tree.specs.declared.decls.DeclKind.TheVariants as d
use Rattle.cx_tree.specs.declared.decls.DeclKind.TheViews.{roll-Decl, roll-Namespace}
use Rattle.cx_tree.specs.declared.decls.MemberKind.TheVariants as mk
use Rattle.cx_tree.specs.declared.decls.MemberKind.TheViews.{roll-Class, roll-ClassBody, roll-Member}
use Rattle.cx_tree.specs.declared.exprs.Args.{Args}
use Rattle.cx_tree.specs.declared.exprs.Braces.{Braces}
use Rattle.cx_tree.specs.declared.exprs.Clause.{Clause}
use Rattle.cx_tree.specs.declared.exprs.Clause.TheVariants as c
use Rattle.cx_tree.specs.declared.exprs.Clause.TheViews.{roll-Args, roll-Braces, roll-Expr, roll-More, roll-Operation, roll-TypeId}
use Rattle.cx_tree.specs.declared.exprs.Expr as exprs
use Rattle.cx_tree.specs.declared.exprs.Expr.{Expr}
use Rattle.cx_tree.specs.declared.exprs.ExprKind.{ExprKind}
use Rattle.cx_tree.specs.declared.exprs.ExprKind.TheVariants as k
use Rattle.cx_tree.specs.declared.exprs.Given.TheVariants as g
use Rattle.cx_tree.specs.declared.exprs.More.{More}
use Rattle.cx_tree.specs.declared.exprs.MoreKind.{MoreKind}
use Rattle.cx_tree.specs.declared.exprs.MoreKind.TheVariants as m
use Rattle.cx_tree.specs.declared.names.Ident.{Ident}
use Rattle.cx_tree.specs.declared.operators.BinaryOp.{BinaryOp}
use Rattle.cx_tree.specs.declared.operators.PrefixOp.TheVariants.{Not}
use Rattle.cx_tree.specs.declared.specifiers.ClassKey.{ClassKey}
use Rattle.cx_tree.specs.declared.specifiers.Ptrs.{Ptrs}
use Rattle.cx_tree.specs.declared.specifiers.Specs.{Specs}
use Rattle.cx_tree.specs.declared.specifiers.TypeWord.TheVariants.{Int}
use Rattle.cx_tree.specs.declared.stmts.Block.{Block}
use Rattle.cx_tree.specs.declared.stmts.Item.{Item}
use Rattle.cx_tree.specs.declared.stmts.Item.TheVariants as i
use Rattle.cx_tree.specs.declared.stmts.Item.TheViews.{roll-Block, roll-Stmt}
use Rattle.cx_tree.specs.declared.stmts.Stmt as stmts
use Rattle.cx_tree.specs.declared.stmts.Stmt.{Stmt}
use Rattle.cx_tree.specs.declared.stmts.StmtKind.{StmtKind}
use Rattle.cx_tree.specs.declared.stmts.StmtKind.TheVariants as s
use Rattle.cx_levels.specs.DeclLevels.{levels_of_class, levels_of_decl}
use Rattle.cx_levels.specs.ExprLevels.{levels_of_expr}
use Rattle.cx_levels.specs.StmtLevels.{levels_of_stmt}

module _ (at : Span) where
  abbrev expr : ExprKind → Expr
  expr kind = roll-Expr (record { extent = at; kind = kind })

  -- (e)
  abbrev paren : Expr → Expr
  paren e = expr (k.Paren e)

  abbrev this : Expr
  this = expr k.This

  abbrev part : MoreKind → More
  part kind = roll-More (record { kind = kind; span = at })

  abbrev args : List Expr → Args
  args es = roll-Args (record { items = es; span = at })

  abbrev braces : List Clause → Braces
  braces cs = roll-Braces (record { clauses = cs; span = at })

  -- this
  word : levels_of_expr this ≡ 0
  word = search (rules, exprs.the_lemmas)

  -- ((this))
  parentheses : levels_of_expr (paren (paren this)) ≡ 2
  parentheses = search (rules, exprs.the_lemmas)

  -- this[(this)]
  subscript : levels_of_expr (expr (k.Postfix this (part (m.Subscript (paren this)) ∷ []))) ≡ 2
  subscript = search (rules, exprs.the_lemmas)

  -- this()++
  no_arguments : levels_of_expr (expr (k.Postfix this (part (m.Call (args [])) ∷ part m.Increment ∷ []))) ≡ 0
  no_arguments = search (rules, exprs.the_lemmas)

  -- this(this, (this))
  arguments : levels_of_expr (expr (k.Postfix this (part (m.Call (args (this ∷ paren this ∷ []))) ∷ []))) ≡ 2
  arguments = search (rules, exprs.the_lemmas)

  -- sizeof !this
  size : levels_of_expr (expr (k.SizeofExpr (expr (k.Prefix Not this)))) ≡ 2
  size = search (rules, exprs.the_lemmas)

  -- (T)this
  cast : (specs : Specs) (ptrs : Ptrs) → levels_of_expr (expr (k.Cast (roll-TypeId (record { specs = specs; ptrs = ptrs; bounds = []; span = at })) this)) ≡ 1
  cast specs ptrs = search (rules, exprs.the_lemmas)

  -- this + (this) + this
  chain : (plus : BinaryOp) → levels_of_expr (expr (k.Chain this (roll-Operation (record { operator = plus; operand = paren this }) ∷ roll-Operation (record { operator = plus; operand = this }) ∷ []))) ≡ 1
  chain plus = search (rules, exprs.the_lemmas)

  -- (this) ? this : this
  condition : levels_of_expr (expr (k.Conditional (paren this) this this)) ≡ 1
  condition = search (rules, exprs.the_lemmas)

  -- this ? (this) : this
  middle : levels_of_expr (expr (k.Conditional this (paren this) this)) ≡ 2
  middle = search (rules, exprs.the_lemmas)

  -- throw
  rethrow : levels_of_expr (expr (k.Throw None)) ≡ 0
  rethrow = search (rules, exprs.the_lemmas)

  -- throw this
  throw : levels_of_expr (expr (k.Throw (Some this))) ≡ 1
  throw = search (rules, exprs.the_lemmas)

  -- int{}
  empty_braces : levels_of_expr (expr (k.OfWord (record { word = Int; span = at }) (g.Braces (braces [])))) ≡ 0
  empty_braces = search (rules, exprs.the_lemmas)

  -- int{{this}, this}
  nested_braces : levels_of_expr (expr (k.OfWord (record { word = Int; span = at }) (g.Braces (braces (c.Nested (braces (c.Value this ∷ [])) ∷ c.Value this ∷ []))))) ≡ 2
  nested_braces = search (rules, exprs.the_lemmas)

  abbrev stmt : ℕ → StmtKind → Stmt
  stmt attrs kind = roll-Stmt (record { attrs = attrs; kind = kind; span = at })

  abbrev block : List Item → Block
  block items = roll-Block (record { items = items; close = at; span = at })

  -- [[ .. ]] ; with brackets two deep among the attributes
  attributes : levels_of_stmt (stmt 2 s.Empty) ≡ 2
  attributes = search (rules, stmts.the_lemmas)

  -- { }
  empty_block : levels_of_stmt (stmt 0 (s.Block (block []))) ≡ 0
  empty_block = search (rules, stmts.the_lemmas)

  -- { { ; } }
  blocks : levels_of_stmt (stmt 0 (s.Block (block (i.Stmt (stmt 0 (s.Block (block (i.Stmt (stmt 0 s.Empty) ∷ [])))) ∷ [])))) ≡ 2
  blocks = search (rules, stmts.the_lemmas)

  -- while (this) { ; }
  loop : levels_of_stmt (stmt 0 (s.While at this (stmt 0 (s.Block (block (i.Stmt (stmt 0 s.Empty) ∷ [])))))) ≡ 2
  loop = search (rules, stmts.the_lemmas, exprs.the_lemmas)

  -- if (this) ; else { ; }
  branches : levels_of_stmt (stmt 0 (s.If false this (stmt 0 s.Empty) (Some (stmt 0 (s.Block (block (i.Stmt (stmt 0 s.Empty) ∷ []))))))) ≡ 2
  branches = search (rules, stmts.the_lemmas, exprs.the_lemmas)

  -- struct A { ; }
  member : (key : ClassKey) (name : Ident) → levels_of_class (roll-Class (record { key = key; attrs = 0; name = name; body = Some (roll-ClassBody (record { is_final = false; bases = []; members = roll-Member (record { kind = mk.Empty; span = at }) ∷ [] })); span = at })) ≡ 1
  member key name = search (rules, classes.the_lemmas)

  abbrev decl : DeclKind → Decl
  decl kind = roll-Decl (record { kind = kind; span = at })

  -- namespace a { ; }
  namespaces : (name : Ident) → levels_of_decl (decl (d.Namespace (roll-Namespace (record { attrs = 0; names = name ∷ []; decls = decl d.Empty ∷ [] })))) ≡ 1
  namespaces name = search (rules, decls.the_lemmas)
