-- Variables and parameters are spelled with those numbers of levels left that are as many as they go deep
-- ([dcl.decl], [dcl.init], [dcl.fct], [implimits]): one line for each rule.
use Rattle.std.proofs.Common.{◌≡◌, ℕ, List, map, refl, rules}
use Rattle.cx_base.specs.declared.diag.Span.{Span}
use Rattle.cx_tree.specs.declared.exprs.Expr as exprs
use Rattle.cx_tree.specs.declared.exprs.Expr.{Expr}
use Rattle.cx_tree.specs.declared.specifiers.Specs.{Specs}
use Rattle.cx_tree.specs.declared.stmts.InitKind.TheVariants as i
use Rattle.cx_tree.specs.declared.stmts.Var.{Var}
use Rattle.cx_levels.specs.DeclLevels.{levels_of_param}
use Rattle.cx_levels.specs.ExprLevels.{levels_of_args, levels_of_bound, levels_of_expr, levels_within}
use Rattle.cx_levels.specs.Levels.{deeper}
use Rattle.cx_levels.specs.StmtLevels.{levels_of_init, levels_of_init_kind, levels_of_local, levels_of_var}
use Rattle.cx_syntax.specs.declared.class.Class.TheVariants as k
use Rattle.cx_syntax.specs.Classes.{is}
use Rattle.cx_syntax.specs.Grammar as e
use Rattle.cx_grammar.specs.Language.{upto}
use Rattle.cx_syntax_vars.specs.Ahead.{begins_made}
use Rattle.cx_syntax_vars.specs.Values.{list_of, init_of, var_of, param_of, local_of, bare_local_of}
use Rattle.cx_syntax_vars.specs.Grammar as g
use Rattle.cx_level_law.proofs.Counted.{Counted, zero_max, of_all, counted_as, counted_both, counted_second, counted_before, counted_behind, counted_or, counted_maybe, counted_upto, counted_separated, counted_unless}
use Rattle.cx_level_law.proofs.ExprNodes.{deeper_all}
use Rattle.cx_level_law.proofs.Exprs.{counted_placed, in_parens, below, args_counted, assign_counted, bound_counted, braces_counted}
use Rattle.cx_level_law.proofs.Parts.{attrs_counted}

list_items : (u : List Expr × Span) → levels_of_args (list_of u) ≡ deeper (map levels_of_expr u.0)
list_items u = search (rules, exprs.the_lemmas)

list_levels : (u : List Expr × Span) → levels_of_args (list_of u) ≡ of_all levels_within u.0
list_levels u = rw (list_items u) (deeper_all levels_of_expr u.0)

bare_levels : (u : (Specs × List Var) × Span) → levels_of_local (bare_local_of u) ≡ of_all levels_of_var u.0.1
bare_levels u = zero_max (of_all levels_of_var u.0.1)

abbrev pub levels_of_declared : Specs × List Var → ℕ
levels_of_declared u = of_all levels_of_var u.1

module _ (n m : ℕ) where
  bounds_counted : Counted (of_all levels_of_bound) n m (upto 16 (e.bound (e.deeper n))) (upto 16 (e.bound (e.deeper m)))
  bounds_counted = counted_upto 16 (bound_counted (below n m))

  equals_counted : Counted levels_of_init_kind n m (g.equals n) (g.equals m)
  equals_counted = counted_or (counted_as levels_of_init_kind i.Equals (λ x. refl) (counted_before (is k.Equal) (assign_counted (below n m))))
      (counted_as levels_of_init_kind i.EqualsList (λ x. refl) (counted_before (is k.Equal) (braces_counted (below n m))))

  paren_init_counted : Counted levels_of_args n m (g.paren_init n) (g.paren_init m)
  paren_init_counted = counted_placed levels_of_args list_of list_levels
      (in_parens (counted_unless begins_made (args_counted (below n m))))

  init_counted : Counted levels_of_init n m (g.init n) (g.init m)
  init_counted = counted_placed levels_of_init init_of (λ u. refl) (counted_or equals_counted
      (counted_or (counted_as levels_of_init_kind i.DirectList (λ x. refl) (braces_counted (below n m)))
      (counted_as levels_of_init_kind i.Direct (λ x. refl) paren_init_counted)))

  var_counted : Counted levels_of_var n m (g.var n) (g.var m)
  var_counted = counted_placed levels_of_var var_of (λ u. refl) (counted_second _ (counted_second _
      (counted_both (attrs_counted n m) (counted_both bounds_counted (counted_maybe init_counted)))))

  pub vars_counted : Counted (of_all levels_of_var) n m (g.vars n) (g.vars m)
  vars_counted = counted_separated (is k.Comma) var_counted

  param_counted : Counted levels_of_param n m (g.param n) (g.param m)
  param_counted = counted_placed levels_of_param param_of (λ u. refl) (counted_both (attrs_counted n m)
      (counted_second _ (counted_second _
      (counted_second _ (counted_both bounds_counted (counted_maybe (counted_before (is k.Equal) (below n m).assign)))))))

  pub params_counted : Counted (of_all levels_of_param) n m (g.params n) (g.params m)
  params_counted = counted_separated (is k.Comma) param_counted

  declared_counted : Counted levels_of_declared n m (g.declared n) (g.declared m)
  declared_counted = counted_second _ (counted_behind (is k.Semicolon) vars_counted)

  pub local_counted : Counted levels_of_local n m (g.local n) (g.local m)
  local_counted = counted_placed levels_of_local local_of (λ u. refl) (counted_both (attrs_counted n m) declared_counted)

  pub bare_local_counted : Counted levels_of_local n m (g.bare_local n) (g.bare_local m)
  bare_local_counted = counted_placed levels_of_local bare_local_of bare_levels declared_counted
