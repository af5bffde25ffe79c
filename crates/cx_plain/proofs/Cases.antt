-- Where expressions and operations stand, for texts that are counted by hand.
use Rattle.std.proofs.Common.{◌≡◌, ℕ, ◌+◌, [], ◌∷◌, pos, false, rules}
use Rattle.cx_base.specs.declared.diag.Span.{Span}
use Rattle.cx_base.specs.declared.int_type.IntType.TheVariants.{Int}
use Rattle.cx_tree.specs.declared.exprs.Clause as declared
use Rattle.cx_tree.specs.declared.exprs.Clause.TheViews.{roll-Args, roll-Braces, roll-Expr, roll-Operation}
use Rattle.cx_tree.specs.declared.exprs.Clause.TheVariants as c
use Rattle.cx_tree.specs.declared.exprs.Expr.{Expr}
use Rattle.cx_tree.specs.declared.exprs.ExprKind.{ExprKind}
use Rattle.cx_tree.specs.declared.exprs.ExprKind.TheVariants as k
use Rattle.cx_tree.specs.declared.exprs.Operation.{Operation}
use Rattle.cx_tree.specs.declared.names.Last.TheVariants.{Ident}
use Rattle.cx_tree.specs.declared.operators.AssignOp.TheVariants.{Plain}
use Rattle.cx_tree.specs.declared.operators.BinaryOp.{BinaryOp}
use Rattle.cx_tree.specs.declared.operators.BinaryOp.TheVariants.{Add, Multiply, Subtract}
use Rattle.cx_tree.specs.declared.stmts.Init.{Init}
use Rattle.cx_tree.specs.declared.stmts.InitKind.TheVariants as i
use Rattle.cx_plain.specs.Expressions as e
use Rattle.cx_plain.specs.Expressions.{Expression, Assign, Binary, Comma, InitializerClause, Value}
use Rattle.cx_plain.specs.DeclarationViews.{initializer}
use Rattle.cx_plain.specs.ExpressionViews.{arguments, braced, clause_seen, placed, tree}
use Rattle.cx_plain.specs.Spans.{scalar_span, span_of}

-- from one column of the first line to another
abbrev at : ℕ → ℕ → Span
at a b = record { start = record { byte = a; line = 1; col = a + 1 }; end = record { byte = b; line = 1; col = b + 1 } }

abbrev expr : ℕ → ℕ → ExprKind → Expr
expr a b kind = roll-Expr (record { extent = at a b; kind = kind })

-- a name of one letter
abbrev name : ℕ → ℕ → Expr
name letter a = expr a (a + 1) (k.Name (record { global = false; scopes = []; last = Ident (record { text = letter ∷ []; span = at a (a + 1) }); span = at a (a + 1) }))

abbrev number : ℕ → ℕ → ℕ → Expr
number value a b = expr a b (k.Number (record { ty = Int; value = pos value }))

abbrev operation : BinaryOp → Expr → Operation
operation o e = roll-Operation (record { operator = o; operand = e })

-- ---- (b + 1) = 2 is told at b + 1

abbrev sum : Expr
sum = expr 1 6 (k.Chain (name 98 1) (operation Add (number 1 5 6) ∷ []))

abbrev assigned : Expr
assigned = expr 0 11 (k.Assign (expr 0 7 (k.Paren sum)) Plain (number 2 10 11))

abbrev target_span : Expression → Span
target_span (Assign o a b s) = span_of a
target_span e = span_of e

target_in_parentheses : target_span (tree assigned) ≡ at 1 6
unfolding tree placed
target_in_parentheses = search (rules, declared.the_lemmas)

assignment_whole : span_of (tree assigned) ≡ at 0 11
unfolding tree placed
assignment_whole = search (rules, declared.the_lemmas)

-- ---- {(300)} is told at 300

abbrev clause_span : InitializerClause → Span
clause_span (Value e) = span_of e
clause_span (e.Nested cs s) = s

clause_in_parentheses : clause_span (clause_seen (c.Value (expr 1 6 (k.Paren (number 300 2 5))))) ≡ at 2 5
unfolding clause_seen
clause_in_parentheses = search (rules, declared.the_lemmas)

-- (300) and ((300)) as initializers are judged at 300, and = {300} and {300} at the braces
abbrev direct : Expr → Init
direct e = record { kind = i.Direct (roll-Args (record { items = e ∷ []; span = at 0 9 })); span = at 0 9 }

abbrev listed : Init
listed = record { kind = i.EqualsList (roll-Braces (record { clauses = c.Value (number 300 3 6) ∷ []; span = at 2 7 })); span = at 0 7 }

initializer_in_parentheses : scalar_span (initializer (direct (number 300 3 6))) ≡ at 3 6
unfolding arguments
initializer_in_parentheses = search (rules, declared.the_lemmas)

initializer_in_two : scalar_span (initializer (direct (expr 1 8 (k.Paren (number 300 3 6))))) ≡ at 3 6
unfolding arguments
initializer_in_two = search (rules, declared.the_lemmas)

initializer_in_braces : scalar_span (initializer listed) ≡ at 2 7
unfolding braced
initializer_in_braces = search (rules, declared.the_lemmas)

-- ---- (a) - b * c - (d): operations begin at the first operand, parentheses round an operand counted

abbrev chain : Expr
chain = expr 0 17 (k.Chain (expr 0 3 (k.Paren (name 97 1))) (operation Subtract (expr 6 11 (k.Chain (name 98 6) (operation Multiply (name 99 10) ∷ []))) ∷ operation Subtract (expr 14 17 (k.Paren (name 100 15))) ∷ []))

abbrev left_span : Expression → Span
left_span (Binary o a b s) = span_of a
left_span e = span_of e

abbrev right_of_left_span : Expression → Span
right_of_left_span (Binary o (Binary p a b s) c t) = span_of b
right_of_left_span e = span_of e

chain_whole : span_of (tree chain) ≡ at 0 17
unfolding tree placed
chain_whole = search (rules, declared.the_lemmas)

chain_first : left_span (tree chain) ≡ at 0 11
unfolding tree placed
chain_first = search (rules, declared.the_lemmas)

chain_inner : right_of_left_span (tree chain) ≡ at 6 11
unfolding tree placed
chain_inner = search (rules, declared.the_lemmas)
