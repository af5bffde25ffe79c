-- How many levels each form of an expression goes deep, from those of its parts ([expr], [implimits]).
use Rattle.std.proofs.Common.{◌≡◌, ℕ, suc, max, Bool, List, [], ◌∷◌, Option, Some, None, map, refl, sym, ap, rules}
use Rattle.cx_base.specs.declared.diag.Span.{Span}
use Rattle.cx_token_defs.specs.declared.TokenKind.{TokenKind}
use Rattle.cx_tree.specs.declared.exprs.Args.{Args}
use Rattle.cx_tree.specs.declared.exprs.Braces.{Braces}
use Rattle.cx_tree.specs.declared.exprs.CastWord.{CastWord}
use Rattle.cx_tree.specs.declared.exprs.Clause.{Clause}
use Rattle.cx_tree.specs.declared.exprs.Clause.TheVariants as clauses
use Rattle.cx_tree.specs.declared.exprs.Expr as exprs
use Rattle.cx_tree.specs.declared.exprs.Expr.{Expr}
use Rattle.cx_tree.specs.declared.exprs.ExprKind.{ExprKind}
use Rattle.cx_tree.specs.declared.exprs.ExprKind.TheVariants as e
use Rattle.cx_tree.specs.declared.exprs.Given.{Given}
use Rattle.cx_tree.specs.declared.exprs.Given.TheVariants as gives
use Rattle.cx_tree.specs.declared.exprs.More.{More}
use Rattle.cx_tree.specs.declared.exprs.MoreKind.{MoreKind}
use Rattle.cx_tree.specs.declared.exprs.MoreKind.TheVariants as m
use Rattle.cx_tree.specs.declared.exprs.New.{New}
use Rattle.cx_tree.specs.declared.exprs.Operation.{Operation}
use Rattle.cx_tree.specs.declared.exprs.Reach.{Reach}
use Rattle.cx_tree.specs.declared.exprs.TypeId.{TypeId}
use Rattle.cx_tree.specs.declared.exprs.Bound.{Bound}
use Rattle.cx_tree.specs.declared.names.Ident.{Ident}
use Rattle.cx_tree.specs.declared.names.Last.{Last}
use Rattle.cx_tree.specs.declared.names.TypeName.{TypeName}
use Rattle.cx_tree.specs.declared.operators.AssignOp.{AssignOp}
use Rattle.cx_tree.specs.declared.operators.PrefixOp.{PrefixOp}
use Rattle.cx_tree.specs.declared.specifiers.Ptrs.{Ptrs}
use Rattle.cx_tree.specs.declared.specifiers.SimpleType.{SimpleType}
use Rattle.cx_tree.specs.declared.specifiers.Specs.{Specs}
use Rattle.cx_tree.specs.declared.specifiers.Star.{Star}
use Rattle.cx_levels.specs.ExprLevels.{levels_of_expr, levels_of_expr_kind, levels_of_more, levels_of_part, levels_of_operation, levels_of_args, levels_of_braces, levels_of_clause, levels_of_given, levels_of_bound, levels_of_new, levels_of_type_id, levels_within}
use Rattle.cx_levels.specs.Levels.{deeper, perhaps}
use Rattle.cx_syntax.specs.declared.class.Class.{Class}
use Rattle.cx_syntax.specs.declared.class.Class.TheVariants as k
use Rattle.cx_syntax.specs.declared.lexeme.Lexeme.{Lexeme}
use Rattle.cx_syntax.specs.declared.parts.MemberPart.{MemberPart}
use Rattle.cx_syntax.specs.declared.parts.MemberPart.TheVariants as part
use Rattle.cx_syntax.specs.declared.parts.Tail.{Tail}
use Rattle.cx_syntax.specs.declared.parts.Tail.TheVariants as tail
use Rattle.cx_syntax.specs.Values.{is_there, literal_by, literal_of, number_of, step_by, step_of, bound_of, typeid_of, expr_of, args_of, braces_of, name_of, made_of_word, made_of_type, named_cast, member_of, more_of, postfixed, Operand, closed_kind, prefixed, sizeof_operand, deleted, new_of, new_operand, cast_of, Turn, operation_of, chained, tailed, condition, thrown, comma_of}
use Rattle.cx_level_law.proofs.Counted.{max_zero, of_all, one_more}

-- ---- lists

pub deeper_all : {A : Type 0} (levels : A → ℕ) (vs : List A) → deeper (map levels vs) ≡ of_all (one_more levels) vs
deeper_all levels [] = refl
deeper_all levels (v ∷ vs) = ap (max (suc (levels v))) (deeper_all levels vs)

-- ---- operands and what stands behind them

abbrev pub levels_of_operand : Operand → ℕ
levels_of_operand o = levels_of_expr o.0

abbrev pub levels_of_turn : Turn → ℕ
levels_of_turn t = levels_of_expr t.1.0

-- a^ : b^
abbrev pub levels_of_choice : Expr × Expr → ℕ
levels_of_choice c = max (levels_within c.0) (levels_within c.1)

abbrev pub levels_of_tail : Tail → ℕ
levels_of_tail (tail.Assigned operator right) = levels_within right
levels_of_tail (tail.Chosen left right) = max (levels_within left) (levels_within right)

-- ---- types and lists

pub bound_levels : (u : Option Expr × Span) → levels_of_bound (bound_of u) ≡ perhaps levels_within u.0
bound_levels (None, s) = search (rules, exprs.the_lemmas)
bound_levels (Some x, s) = search (rules, exprs.the_lemmas)

pub typeid_levels : (u : (Specs × (Ptrs × List Bound)) × Span) → levels_of_type_id (typeid_of u) ≡ of_all levels_of_bound u.0.1.1
typeid_levels u = search (rules, exprs.the_lemmas)

args_items : (l : List Expr) (s : Span) → levels_of_args (args_of (Some l, s)) ≡ deeper (map levels_of_expr l)
args_items l s = search (rules, exprs.the_lemmas)

pub args_levels : (u : Option (List Expr) × Span) → levels_of_args (args_of u) ≡ perhaps (of_all levels_within) u.0
args_levels (None, s) = search (rules, exprs.the_lemmas)
args_levels (Some l, s) = rw (args_items l s) (deeper_all levels_of_expr l)

pub value_levels : (x : Expr) → levels_of_clause (clauses.Value x) ≡ levels_within x
value_levels x = search (rules, exprs.the_lemmas)

pub nested_levels : (b : Braces) → levels_of_clause (clauses.Nested b) ≡ suc (levels_of_braces b)
nested_levels b = search (rules, exprs.the_lemmas)

pub braces_levels : (u : Option (List Clause) × Span) → levels_of_braces (braces_of u) ≡ perhaps (of_all levels_of_clause) u.0
braces_levels (None, s) = search (rules, exprs.the_lemmas)
braces_levels (Some l, s) = search (rules, exprs.the_lemmas)

pub given_args_levels : (a : Args) → levels_of_given (gives.Args a) ≡ levels_of_args a
given_args_levels a = search (rules, exprs.the_lemmas)

pub given_braces_levels : (b : Braces) → levels_of_given (gives.Braces b) ≡ levels_of_braces b
given_braces_levels b = search (rules, exprs.the_lemmas)

-- ---- heads

char_levels : (t : TokenKind) → levels_of_expr_kind (literal_by k.CharLiteral t) ≡ 0
char_levels t = search (rules, exprs.the_lemmas)

true_levels : levels_of_expr_kind e.True ≡ 0
true_levels = search (rules, exprs.the_lemmas)

false_levels : levels_of_expr_kind e.False ≡ 0
false_levels = search (rules, exprs.the_lemmas)

nullptr_levels : levels_of_expr_kind e.Nullptr ≡ 0
nullptr_levels = search (rules, exprs.the_lemmas)

this_levels : levels_of_expr_kind e.This ≡ 0
this_levels = search (rules, exprs.the_lemmas)

number_levels : (t : TokenKind) → levels_of_expr_kind (e.Number (number_of t)) ≡ 0
number_levels t = search (rules, exprs.the_lemmas)

literal_by_levels : (c : Class) (t : TokenKind) → levels_of_expr_kind (literal_by c t) ≡ 0
literal_by_levels k.CharLiteral t = char_levels t
literal_by_levels k.True t = true_levels
literal_by_levels k.False t = false_levels
literal_by_levels k.Nullptr t = nullptr_levels
literal_by_levels k.This t = this_levels
literal_by_levels _ t = number_levels t

pub literal_levels : (t : Lexeme) → levels_of_expr_kind (literal_of t) ≡ 0
literal_levels t = literal_by_levels t.class t.kind

pub string_levels : (pieces : List (List ℕ)) → levels_of_expr_kind (e.Str pieces) ≡ 0
string_levels pieces = search (rules, exprs.the_lemmas)

pub paren_levels : (x : Expr) → levels_of_expr_kind (e.Paren x) ≡ levels_within x
paren_levels x = search (rules, exprs.the_lemmas)

pub cast_word_levels : (u : CastWord × (TypeId × Expr)) → levels_of_expr_kind (named_cast u) ≡ max (levels_of_type_id u.1.0) (levels_within u.1.1)
cast_word_levels u = search (rules, exprs.the_lemmas)

pub word_made_levels : (u : SimpleType × Given) → levels_of_expr_kind (made_of_word u) ≡ levels_of_given u.1
word_made_levels u = search (rules, exprs.the_lemmas)

pub name_levels : (u : (Option (Unit {0}) × (List Ident × Last)) × Span) → levels_of_expr_kind (name_of u) ≡ 0
name_levels u = search (rules, exprs.the_lemmas)

pub type_made_levels : (u : TypeName × Given) → levels_of_expr_kind (made_of_type u) ≡ levels_of_given u.1
type_made_levels u = search (rules, exprs.the_lemmas)

pub expr_levels : (u : ExprKind × Span) → levels_of_expr (expr_of u) ≡ levels_of_expr_kind u.0
expr_levels u = search (rules, exprs.the_lemmas)

-- ---- what stands behind a head

pub subscript_levels : (x : Expr) → levels_of_part (m.Subscript x) ≡ levels_within x
subscript_levels x = search (rules, exprs.the_lemmas)

pub call_levels : (a : Args) → levels_of_part (m.Call a) ≡ levels_of_args a
call_levels a = search (rules, exprs.the_lemmas)

increment_levels : levels_of_part m.Increment ≡ 0
increment_levels = search (rules, exprs.the_lemmas)

decrement_levels : levels_of_part m.Decrement ≡ 0
decrement_levels = search (rules, exprs.the_lemmas)

step_by_levels : (c : Class) → levels_of_part (step_by c) ≡ 0
step_by_levels k.MinusMinus = decrement_levels
step_by_levels _ = increment_levels

pub step_levels : (t : Lexeme) → levels_of_part (step_of t) ≡ 0
step_levels t = step_by_levels t.class

pub member_levels : (u : Reach × MemberPart) → levels_of_part (member_of u) ≡ 0
member_levels (r, part.Name f) = search (rules, exprs.the_lemmas)
member_levels (r, part.Destructor t) = search (rules, exprs.the_lemmas)

pub more_levels : (u : MoreKind × Span) → levels_of_more (more_of u) ≡ levels_of_part u.0
more_levels u = search (rules, exprs.the_lemmas)

postfix_levels : (x : Expr) (l : List More) → levels_of_expr_kind (e.Postfix x l) ≡ max (levels_of_expr x) (of_all levels_of_more l)
postfix_levels x l = search (rules, exprs.the_lemmas)

pub postfixed_levels : (u : (Expr × List More) × Span) → levels_of_expr (postfixed u) ≡ max (levels_of_expr u.0.0) (of_all levels_of_more u.0.1)
postfixed_levels ((x, []), s) = sym (max_zero (levels_of_expr x))
postfixed_levels ((x, y ∷ ys), s) = rw (expr_levels (e.Postfix x (y ∷ ys), s)) (postfix_levels x (y ∷ ys))

-- ---- operands

prefix_kind_levels : (p : PrefixOp) (x : Expr) → levels_of_expr_kind (e.Prefix p x) ≡ levels_within x
prefix_kind_levels p x = search (rules, exprs.the_lemmas)

pub prefix_levels : (u : (PrefixOp × Operand) × Span) → levels_of_operand (prefixed u) ≡ suc (levels_of_operand u.0.1)
prefix_levels u = rw (expr_levels (e.Prefix u.0.0 u.0.1.0, u.1)) (prefix_kind_levels u.0.0 u.0.1.0)

sizeof_kind_levels : (x : Expr) → levels_of_expr_kind (e.SizeofExpr x) ≡ levels_within x
sizeof_kind_levels x = search (rules, exprs.the_lemmas)

pub sizeof_levels : (u : Operand × Span) → levels_of_operand (sizeof_operand u) ≡ suc (levels_of_operand u.0)
sizeof_levels u = rw (expr_levels (e.SizeofExpr u.0.0, u.1)) (sizeof_kind_levels u.0.0)

pub sizeof_type_levels : (t : TypeId) → levels_of_expr_kind (e.SizeofType t) ≡ levels_of_type_id t
sizeof_type_levels t = search (rules, exprs.the_lemmas)

pub alignof_levels : (t : TypeId) → levels_of_expr_kind (e.AlignofType t) ≡ levels_of_type_id t
alignof_levels t = search (rules, exprs.the_lemmas)

pub closed_levels : (u : ExprKind × Span) → levels_of_operand (closed_kind u) ≡ levels_of_expr_kind u.0
closed_levels u = expr_levels u

delete_kind_levels : (array : Bool) (x : Expr) → levels_of_expr_kind (e.Delete array x) ≡ levels_within x
delete_kind_levels array x = search (rules, exprs.the_lemmas)

pub delete_levels : (u : (Option (Unit {0}) × Operand) × Span) → levels_of_operand (deleted u) ≡ suc (levels_of_operand u.0.1)
delete_levels u = rw (expr_levels (e.Delete (is_there u.0.0) u.0.1.0, u.1)) (delete_kind_levels (is_there u.0.0) u.0.1.0)

new_kind_levels : (n : New) → levels_of_expr_kind (e.New n) ≡ levels_of_new n
new_kind_levels n = search (rules, exprs.the_lemmas)

new_of_levels : (u : Specs × (List Star × (Option Expr × Option Given)))
    → levels_of_new (new_of u) ≡ max (perhaps levels_within u.1.1.0) (perhaps levels_of_given u.1.1.1)
new_of_levels (s, (l, (None, None))) = search (rules, exprs.the_lemmas)
new_of_levels (s, (l, (None, Some g))) = search (rules, exprs.the_lemmas)
new_of_levels (s, (l, (Some b, None))) = search (rules, exprs.the_lemmas)
new_of_levels (s, (l, (Some b, Some g))) = search (rules, exprs.the_lemmas)

pub new_levels : (u : (Specs × (List Star × (Option Expr × Option Given))) × Span)
    → levels_of_operand (new_operand u) ≡ max (perhaps levels_within u.0.1.1.0) (perhaps levels_of_given u.0.1.1.1)
new_levels u = rw (expr_levels (e.New (new_of u.0), u.1), new_kind_levels (new_of u.0)) (new_of_levels u.0)

cast_kind_levels : (t : TypeId) (x : Expr) → levels_of_expr_kind (e.Cast t x) ≡ max (levels_of_type_id t) (levels_within x)
cast_kind_levels t x = search (rules, exprs.the_lemmas)

pub cast_levels : (u : (TypeId × Operand) × Span) → levels_of_operand (cast_of u) ≡ max (levels_of_type_id u.0.0) (suc (levels_of_operand u.0.1))
cast_levels u = rw (expr_levels (e.Cast u.0.0 u.0.1.0, u.1)) (cast_kind_levels u.0.0 u.0.1.0)

-- ---- chains

operation_levels : (t : Turn) → levels_of_operation (operation_of t) ≡ levels_of_turn t
operation_levels t = search (rules, exprs.the_lemmas)

operations_levels : (ts : List Turn) → of_all levels_of_operation (map operation_of ts) ≡ of_all levels_of_turn ts
operations_levels [] = refl
operations_levels (t ∷ ts) = rw (operation_levels t, operations_levels ts) refl

chain_kind_levels : (x : Expr) (os : List Operation) → levels_of_expr_kind (e.Chain x os) ≡ max (levels_of_expr x) (of_all levels_of_operation os)
chain_kind_levels x os = search (rules, exprs.the_lemmas)

pub chained_levels : (u : (Operand × List Turn) × Span)
    → levels_of_operand (chained u) ≡ max (levels_of_operand u.0.0) (of_all levels_of_turn u.0.1)
chained_levels ((x, []), s) = sym (max_zero (levels_of_operand x))
chained_levels ((x, t ∷ ts), s) = rw (expr_levels (e.Chain x.0 (map operation_of (t ∷ ts)), s), chain_kind_levels x.0 (map operation_of (t ∷ ts)))
    (ap (max (levels_of_operand x)) (operations_levels (t ∷ ts)))

-- ---- what holds chains

assign_kind_levels : (x : Expr) (o : AssignOp) (y : Expr) → levels_of_expr_kind (e.Assign x o y) ≡ max (levels_of_expr x) (levels_within y)
assign_kind_levels x o y = search (rules, exprs.the_lemmas)

choice_kind_levels : (x y z : Expr) → levels_of_expr_kind (e.Conditional x y z) ≡ max (levels_of_expr x) (levels_of_choice (y, z))
choice_kind_levels x y z = search (rules, exprs.the_lemmas)

pub tailed_levels : (u : (Operand × Option Tail) × Span) → levels_of_expr (tailed u) ≡ max (levels_of_operand u.0.0) (perhaps levels_of_tail u.0.1)
tailed_levels ((x, None), s) = sym (max_zero (levels_of_operand x))
tailed_levels ((x, Some (tail.Assigned o y)), s) = rw (expr_levels (e.Assign x.0 o y, s)) (assign_kind_levels x.0 o y)
tailed_levels ((x, Some (tail.Chosen y z)), s) = rw (expr_levels (e.Conditional x.0 y z, s)) (choice_kind_levels x.0 y z)

pub condition_levels : (u : (Operand × Option (Expr × Expr)) × Span)
    → levels_of_expr (condition u) ≡ max (levels_of_operand u.0.0) (perhaps levels_of_choice u.0.1)
condition_levels ((x, None), s) = sym (max_zero (levels_of_operand x))
condition_levels ((x, Some (y, z)), s) = rw (expr_levels (e.Conditional x.0 y z, s)) (choice_kind_levels x.0 y z)

throw_kind_levels : (x : Option Expr) → levels_of_expr_kind (e.Throw x) ≡ perhaps levels_within x
throw_kind_levels None = search (rules, exprs.the_lemmas)
throw_kind_levels (Some x) = search (rules, exprs.the_lemmas)

pub thrown_levels : (u : Option Expr × Span) → levels_of_expr (thrown u) ≡ perhaps levels_within u.0
thrown_levels u = rw (expr_levels (e.Throw u.0, u.1)) (throw_kind_levels u.0)

comma_kind_levels : (x : Expr) (l : List Expr) → levels_of_expr_kind (e.Comma x l) ≡ max (levels_of_expr x) (of_all levels_of_expr l)
comma_kind_levels x l = search (rules, exprs.the_lemmas)

pub comma_levels : (u : (Expr × List Expr) × Span) → levels_of_expr (comma_of u) ≡ max (levels_of_expr u.0.0) (of_all levels_of_expr u.0.1)
comma_levels ((x, []), s) = sym (max_zero (levels_of_expr x))
comma_levels ((x, y ∷ ys), s) = rw (expr_levels (e.Comma x (y ∷ ys), s)) (comma_kind_levels x (y ∷ ys))
