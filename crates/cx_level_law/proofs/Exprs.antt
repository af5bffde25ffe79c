-- Expressions are spelled with those numbers of levels left that are as many as they go deep ([expr], [implimits]): one line for each rule.
use Rattle.std.proofs.Common.{◌≡◌, ℕ, zero, suc, Bool, true, false, Some, None, refl, ap, if◌then◌else◌, ◌∙◌, arith}
use Rattle.cx_base.specs.declared.diag.Span.{Span}
use Rattle.cx_tree.specs.declared.exprs.ExprKind.TheVariants as e
use Rattle.cx_tree.specs.declared.exprs.Clause.TheVariants as clauses
use Rattle.cx_tree.specs.declared.exprs.Given.TheVariants as gives
use Rattle.cx_tree.specs.declared.exprs.MoreKind.TheVariants as more
use Rattle.cx_grammar.specs.Language.{Language, one, ◌<$>◌, ◌∥◌, ◌⊳◌, ◌⊲◌, measured}
use Rattle.cx_levels.specs.ExprLevels.{levels_of_expr, levels_of_expr_kind, levels_of_more, levels_of_part, levels_of_args, levels_of_braces, levels_of_clause, levels_of_given, levels_of_bound, levels_of_type_id, levels_within}
use Rattle.cx_syntax.specs.declared.class.Class.{Class}
use Rattle.cx_syntax.specs.declared.class.Class.TheVariants as k
use Rattle.cx_syntax.specs.declared.lexeme.Lexeme.{Lexeme}
use Rattle.cx_syntax.specs.Classes.{is}
use Rattle.cx_syntax.specs.Sets.{is_literal, is_step}
use Rattle.cx_syntax.specs.Values.{pick, span_of, literal_of, step_of, bound_of, typeid_of, expr_of, args_of, braces_of, name_of, made_of_word, made_of_type, named_cast, member_of, more_of, postfixed, Operand, closed, closed_kind, prefixed, sizeof_operand, deleted, new_operand, cast_of, ends_open, chained, assigned_of, chosen_of, tailed, condition, thrown, comma_of}
use Rattle.cx_syntax.specs.Grammar as g
use Rattle.cx_level_law.proofs.Counted.{Counted, of_all, one_more, counted_flat, counted_as, counted_both, counted_second, counted_before, counted_behind, counted_or, counted_maybe, counted_many, counted_upto, counted_separated, counted_trailed, counted_measured, counted_then, counted_links, counted_absent, counted_last, counted_there}
use Rattle.cx_level_law.proofs.ExprNodes.{levels_of_operand, levels_of_turn, levels_of_choice, levels_of_tail, bound_levels, typeid_levels, args_levels, value_levels, nested_levels, braces_levels, given_args_levels, given_braces_levels, literal_levels, string_levels, paren_levels, cast_word_levels, word_made_levels, name_levels, type_made_levels, expr_levels, subscript_levels, call_levels, step_levels, member_levels, more_levels, postfixed_levels, prefix_levels, sizeof_levels, sizeof_type_levels, alignof_levels, closed_levels, delete_levels, new_levels, cast_levels, chained_levels, tailed_levels, condition_levels, thrown_levels, comma_levels}

-- ---- a token whose value nests nothing

picked : {A : Type 0} (own : A → ℕ) (b : Bool) (x v : A) → own x ≡ 0 → (if b then Some x else None) ≡ Some v → own v ≡ 0
picked own true x v e h = let i : v ≡ x = cc in ap own i ∙ e
picked own false x v e h = absurd (let i : None ≡ Some v = h in cc)

pub counted_pick : {A : Type 0} {n m : ℕ} (own : A → ℕ) (set : Class → Bool) (f : Lexeme → A) → ((t : Lexeme) → own (f t) ≡ 0)
    → Counted own n m (one (pick set f)) (one (pick set f))
counted_pick own set f e = record {
  within = λ ts v s. let z = picked own (set s.token.class) (f s.token) v (e s.token) s.fits in omega arith;
  again = λ ts v s l. s;
}

-- ---- a value with its place, and parts in brackets

pub counted_placed : {A B : Type 0} {levels : A → ℕ} {n m : ℕ} {x y : Language Lexeme A} (own : B → ℕ) (f : A × Span → B)
    → ((v : A × Span) → own (f v) ≡ levels v.0) → Counted levels n m x y → Counted own n m (f <$> measured span_of x) (f <$> measured span_of y)
counted_placed own f e c = counted_as own f e (counted_measured span_of c)

module _ {A : Type 0} {levels : A → ℕ} {n m : ℕ} {x y : Language Lexeme A} (c : Counted levels n m x y) where
  pub in_parens : Counted levels n m (is k.OpenParen ⊳ x ⊲ is k.CloseParen) (is k.OpenParen ⊳ y ⊲ is k.CloseParen)
  in_parens = counted_before (is k.OpenParen) (counted_behind (is k.CloseParen) c)

  pub in_brackets : Counted levels n m (is k.OpenBracket ⊳ x ⊲ is k.CloseBracket) (is k.OpenBracket ⊳ y ⊲ is k.CloseBracket)
  in_brackets = counted_before (is k.OpenBracket) (counted_behind (is k.CloseBracket) c)

  pub in_braces : Counted levels n m (is k.OpenBrace ⊳ x ⊲ is k.CloseBrace) (is k.OpenBrace ⊳ y ⊲ is k.CloseBrace)
  in_braces = counted_before (is k.OpenBrace) (counted_behind (is k.CloseBrace) c)

-- the symbols one level deeper
pub record Below (n m : ℕ) (d b : g.Deeper) : Type 0 where
  pub expr : Counted levels_within n m d.expr b.expr
  pub assign : Counted levels_within n m d.assign b.assign
  pub cond : Counted levels_within n m d.cond b.cond
  pub cast : Counted (one_more levels_of_operand) n m d.cast b.cast
  pub unary : Counted (one_more levels_of_operand) n m d.unary b.unary
  pub braces : Counted (one_more levels_of_braces) n m d.braces b.braces

module _ {n m : ℕ} {d b : g.Deeper} (h : Below n m d b) where
  -- ---- types and lists

  pub bound_counted : Counted levels_of_bound n m (g.bound d) (g.bound b)
  bound_counted = counted_placed levels_of_bound bound_of bound_levels (in_brackets (counted_maybe h.cond))

  pub typeid_counted : Counted levels_of_type_id n m (g.typeid d) (g.typeid b)
  typeid_counted = counted_placed levels_of_type_id typeid_of typeid_levels (counted_second _ (counted_second _ (counted_upto 16 bound_counted)))

  pub args_counted : Counted (of_all levels_within) n m (g.args d) (g.args b)
  args_counted = counted_separated (is k.Comma) h.assign

  pub paren_args_counted : Counted levels_of_args n m (g.paren_args d) (g.paren_args b)
  paren_args_counted = counted_placed levels_of_args args_of args_levels (in_parens (counted_maybe args_counted))

  clause_counted : Counted levels_of_clause n m (g.clause d) (g.clause b)
  clause_counted = counted_or (counted_as levels_of_clause clauses.Value value_levels h.assign)
      (counted_as levels_of_clause clauses.Nested nested_levels h.braces)

  pub braces_counted : Counted levels_of_braces n m (g.braces d) (g.braces b)
  braces_counted = counted_placed levels_of_braces braces_of braces_levels (in_braces (counted_maybe (counted_trailed (is k.Comma) clause_counted)))

  pub given_counted : Counted levels_of_given n m (g.given d) (g.given b)
  given_counted = counted_or (counted_as levels_of_given gives.Args given_args_levels paren_args_counted)
      (counted_as levels_of_given gives.Braces given_braces_levels braces_counted)

  -- ---- heads, and what stands behind them

  paren_counted : Counted levels_of_expr_kind n m (g.paren d) (g.paren b)
  paren_counted = counted_as levels_of_expr_kind e.Paren paren_levels (in_parens h.expr)

  word_cast_counted : Counted levels_of_expr_kind n m (g.word_cast d) (g.word_cast b)
  word_cast_counted = counted_as levels_of_expr_kind named_cast cast_word_levels (counted_second _
      (counted_both (counted_before (is k.Less) (counted_behind (is k.Greater) typeid_counted)) (in_parens h.expr)))

  head_kind_counted : Counted levels_of_expr_kind n m (g.head_kind d) (g.head_kind b)
  head_kind_counted = counted_or (counted_pick levels_of_expr_kind is_literal literal_of literal_levels)
      (counted_or (counted_as levels_of_expr_kind e.Str string_levels (counted_flat _))
      (counted_or paren_counted
      (counted_or word_cast_counted
      (counted_or (counted_as levels_of_expr_kind made_of_word word_made_levels (counted_second _ given_counted))
      (counted_or (counted_as levels_of_expr_kind name_of name_levels (counted_flat _))
      (counted_as levels_of_expr_kind made_of_type type_made_levels (counted_second _ given_counted)))))))

  head_counted : Counted levels_of_expr n m (g.head d) (g.head b)
  head_counted = counted_placed levels_of_expr expr_of expr_levels head_kind_counted

  more_kind_counted : Counted levels_of_part n m (g.more_kind d) (g.more_kind b)
  more_kind_counted = counted_or (counted_as levels_of_part more.Subscript subscript_levels (in_brackets h.expr))
      (counted_or (counted_as levels_of_part more.Call call_levels paren_args_counted)
      (counted_or (counted_pick levels_of_part is_step step_of step_levels)
      (counted_as levels_of_part member_of member_levels (counted_flat _))))

  more_counted : Counted levels_of_more n m (g.more d) (g.more b)
  more_counted = counted_placed levels_of_more more_of more_levels more_kind_counted

  postfix_counted : Counted levels_of_expr n m (g.postfix d) (g.postfix b)
  postfix_counted = counted_placed levels_of_expr postfixed postfixed_levels (counted_both head_counted (counted_many more_counted))

  -- ---- operands

  prefix_counted : Counted levels_of_operand n m (g.prefix d) (g.prefix b)
  prefix_counted = counted_placed levels_of_operand prefixed prefix_levels (counted_second _ h.cast)

  delete_counted : Counted levels_of_operand n m (g.delete d) (g.delete b)
  delete_counted = counted_placed levels_of_operand deleted delete_levels (counted_second _ h.cast)

  new_counted : Counted levels_of_operand n m (g.new d) (g.new b)
  new_counted = counted_placed levels_of_operand new_operand new_levels (counted_second _ (counted_second _
      (counted_both (counted_maybe (in_brackets h.expr)) (counted_maybe given_counted))))

  alignof_counted : Counted levels_of_operand n m (g.alignof_type d) (g.alignof_type b)
  alignof_counted = counted_placed levels_of_operand closed_kind closed_levels
      (counted_as levels_of_expr_kind e.AlignofType alignof_levels (counted_before (is k.Alignof) (in_parens typeid_counted)))

  sizeof_type_counted : Counted levels_of_operand n m (g.sizeof_type d) (g.sizeof_type b)
  sizeof_type_counted = counted_placed levels_of_operand closed_kind closed_levels
      (counted_as levels_of_expr_kind e.SizeofType sizeof_type_levels (counted_before (is k.Sizeof) (in_parens typeid_counted)))

  sizeof_expr_counted : Counted levels_of_operand n m (g.sizeof_expr d) (g.sizeof_expr b)
  sizeof_expr_counted = counted_placed levels_of_operand sizeof_operand sizeof_levels (counted_before (is k.Sizeof) h.unary)

  pub unary_counted : Counted levels_of_operand n m (g.unary d) (g.unary b)
  unary_counted = counted_or prefix_counted (counted_or delete_counted (counted_or new_counted (counted_or alignof_counted
      (counted_or (counted_or sizeof_type_counted sizeof_expr_counted) (counted_as levels_of_operand closed (λ x. refl) postfix_counted)))))

  type_cast_counted : Counted levels_of_operand n m (g.type_cast d) (g.type_cast b)
  type_cast_counted = counted_placed levels_of_operand cast_of cast_levels (counted_both (in_parens typeid_counted) h.cast)

  pub cast_counted : Counted levels_of_operand n m (g.cast d) (g.cast b)
  cast_counted = counted_or type_cast_counted unary_counted

  -- ---- chains

  turn_counted : (p : ℕ) (open_new : Bool) → (x y : Language Lexeme Operand) → Counted levels_of_operand n m x y
      → Counted levels_of_turn n m (g.turn d p x open_new) (g.turn b p y open_new)
  turn_counted p open_new x y c = counted_second _ c

  pub chain_counted : (p : ℕ) → Counted levels_of_operand n m (g.chain d p) (g.chain b p)
  chain_counted zero = cast_counted
  chain_counted (suc p) = counted_placed levels_of_operand chained chained_levels
      (counted_then (chain_counted p) (λ first.
      counted_links ends_open (λ open_new. turn_counted p open_new (g.chain d p) (g.chain b p) (chain_counted p)) first.1))

  -- ---- assignment and conditional expressions

  choice_counted : Counted levels_of_choice n m (g.choice d) (g.choice b)
  choice_counted = counted_both (counted_before (is k.Question) (counted_behind (is k.Colon) h.expr)) h.assign

  tail_counted : Counted levels_of_tail n m (g.assigned d ∥ (chosen_of <$> g.choice d)) (g.assigned b ∥ (chosen_of <$> g.choice b))
  tail_counted = counted_or (counted_as levels_of_tail assigned_of (λ u. refl) (counted_second _ h.assign))
      (counted_as levels_of_tail chosen_of (λ u. refl) choice_counted)

  chain_or_more_counted : Counted levels_of_expr n m (g.chain_or_more d) (g.chain_or_more b)
  chain_or_more_counted = counted_placed levels_of_expr tailed tailed_levels (counted_both (chain_counted 10) (counted_maybe tail_counted))

  throw_counted : Counted levels_of_expr n m (g.throw d) (g.throw b)
  throw_counted = counted_placed levels_of_expr thrown thrown_levels (counted_before (is k.Throw) (counted_maybe h.assign))

  pub assign_counted : Counted levels_of_expr n m (g.assign d) (g.assign b)
  assign_counted = counted_or throw_counted chain_or_more_counted

  pub cond_counted : Counted levels_of_expr n m (g.cond d) (g.cond b)
  cond_counted = counted_placed levels_of_expr condition condition_levels (counted_both (chain_counted 10) (counted_maybe choice_counted))

  pub expr_counted : Counted levels_of_expr n m (g.expr d) (g.expr b)
  expr_counted =
      counted_placed levels_of_expr comma_of comma_levels (counted_both assign_counted (counted_many (counted_before (is k.Comma) assign_counted)))

-- ---- at each two numbers of levels

pub below : (n m : ℕ) → Below n m (g.deeper n) (g.deeper m)
below zero m = let b = g.deeper m in record {
  expr = counted_absent _ m b.expr;
  assign = counted_absent _ m b.assign;
  cond = counted_absent _ m b.cond;
  cast = counted_absent _ m b.cast;
  unary = counted_absent _ m b.unary;
  braces = counted_absent _ m b.braces;
}
below (suc n) zero = let h = below n 0 in record {
  expr = counted_last (expr_counted h);
  assign = counted_last (assign_counted h);
  cond = counted_last (cond_counted h);
  cast = counted_last (cast_counted h);
  unary = counted_last (unary_counted h);
  braces = counted_last (braces_counted h);
}
below (suc n) (suc m) = let h = below n m in record {
  expr = counted_there (expr_counted h);
  assign = counted_there (assign_counted h);
  cond = counted_there (cond_counted h);
  cast = counted_there (cast_counted h);
  unary = counted_there (unary_counted h);
  braces = counted_there (braces_counted h);
}
