-- What the functions read by the way.
use Rattle.std.specs.Prelude.{ℕ, Bool, List, [], ◌∷◌, map, Option}
use Rattle.cx_tree.specs.declared.exprs.Expr.{Expr}
use Rattle.cx_tree.specs.declared.exprs.Clause.{Clause}
use Rattle.cx_tree.specs.declared.exprs.Given.{Given}
use Rattle.cx_tree.specs.declared.exprs.Operation.{Operation}
use Rattle.cx_syntax.specs.declared.parts.Tail.{Tail}
use Rattle.cx_base.specs.declared.diag.Span.{Span}
use Rattle.cx_tree.specs.declared.exprs.ExprKind.{ExprKind}
use Rattle.cx_tree.specs.declared.exprs.ExprKind.TheVariants as e
use Rattle.cx_tree.specs.declared.exprs.MoreKind.{MoreKind}
use Rattle.cx_syntax.specs.declared.parts.MemberPart.{MemberPart}
use Rattle.cx_syntax.specs.declared.parts.MemberPart.TheVariants as part
use Rattle.cx_syntax.specs.declared.class.Class.TheVariants as k
use Rattle.cx_syntax.specs.declared.lexeme.Lexeme.{Lexeme}
use Rattle.cx_grammar.specs.Sets.{of}
use Rattle.cx_grammar.specs.Reading.{Reader, token, the, maybe_if, made, guarded, measured_by, ◌<$>◌, ◌>>◌, ◌⊳◌, ◌⊲◌}
use Rattle.cx_syntax.specs.Classes.{class_at, is}
use Rattle.cx_syntax.specs.Sets.{starts_assign, starts_clause, starts_given, starts_tail, is_reach}
use Rattle.cx_syntax.specs.Values.{pick, span_of, Turn, Operand, operation_of, last_open, name_of, member_of, reach_of, expr_of}
use Rattle.cx_syntax.specs.Readers as r

-- arguments, perhaps none
abbrev pub maybe_args : r.Readers → Reader Lexeme (Option (List Expr))
maybe_args d = maybe_if (of class_at starts_assign) (r.args d)

-- clauses, perhaps none
abbrev pub maybe_clauses : r.Readers → Reader Lexeme (Option (List Clause))
maybe_clauses d = maybe_if (of class_at starts_clause) (r.clauses_in d)

-- the type or the expression of a `new` in brackets, if it is there
abbrev pub maybe_bound : r.Readers → Reader Lexeme (Option Expr)
maybe_bound d = maybe_if (is k.OpenBracket) (r.new_bound d)

-- what an object is made from, if it is there
abbrev pub maybe_given : r.Readers → Reader Lexeme (Option Given)
maybe_given d = maybe_if (of class_at starts_given) (r.given d)

-- what stands behind a chain, if it is there
abbrev pub maybe_tail : r.Readers → Reader Lexeme (Option Tail)
maybe_tail d = maybe_if (of class_at starts_tail) (r.tail d)

abbrev pub maybe_choice : r.Readers → Reader Lexeme (Option (Expr × Expr))
maybe_choice d = maybe_if (is k.Question) (r.choice d)

-- what is thrown, if it is there
abbrev pub maybe_thrown : r.Readers → Reader Lexeme (Option Expr)
maybe_thrown d = maybe_if (of class_at starts_assign) (guarded d.room d.assign)

-- `[]`, if it is there
abbrev pub maybe_brackets : Reader Lexeme (Option (Unit {0}))
maybe_brackets = maybe_if (is k.OpenBracket) (is k.OpenBracket ⊳ the (is k.CloseBracket))

-- what turns of a chain give, and whether the last operand ends in the type of a `new`
abbrev pub operations : Bool → List Turn → List Operation × Bool
operations open_new us = (map operation_of us, last_open open_new us)

abbrev pub turned : r.Readers → ℕ → Bool → Reader Lexeme (List Operation × Bool)
turned d p open_new ts = made (operations open_new) (r.turns d p (r.chain d p) open_new ts)

-- a name that is an expression
abbrev pub id_expression : Reader Lexeme ExprKind
id_expression = name_of <$> measured_by span_of (r.colons >> r.fname_parts)

-- what stands behind `.` or `->`
abbrev pub member_part : Reader Lexeme MemberPart
member_part = r.choose (r.just k.Tilde) (part.Destructor <$> (r.destructor_name ⊲ is k.OpenParen ⊲ is k.CloseParen)) (part.Name <$> r.fname)

abbrev pub member : Reader Lexeme MoreKind
member = member_of <$> (token (pick is_reach reach_of) >> member_part)

-- a chain, from its first operand and what follows it
abbrev pub chained_with : Operand → List Operation × Bool → Span → Operand
chained_with first ([], open_new) s = first
chained_with first (operation ∷ operations, open_new) s = (expr_of (e.Chain first.0 (operation ∷ operations), s), open_new)
