-- How many levels the text of an expression, and of what stands in one, goes deeper than its own place ([gram], [implimits]).
-- Each line has the form that it counts; what is marked `^` there stands one level deeper than the form itself.
use Rattle.std.specs.Prelude.{ℕ, suc, max}
use Rattle.cx_tree.specs.declared.exprs.Clause.TheFolds.{fold-Args, fold-Bound, fold-Braces, fold-Clause, fold-Expr, fold-ExprKind, fold-Given, fold-More, fold-MoreKind, fold-New, fold-Operation, fold-TypeId}
use Rattle.cx_tree.specs.declared.exprs.Clause.TheOpen.{Args-F, Bound-F, Braces-F, Clause-F, Expr-F, ExprKind-F, Given-F, More-F, MoreKind-F, New-F, Operation-F, TypeId-F}
use Rattle.cx_tree.specs.declared.exprs.Args.{Args}
use Rattle.cx_tree.specs.declared.exprs.Bound.{Bound}
use Rattle.cx_tree.specs.declared.exprs.Braces.{Braces}
use Rattle.cx_tree.specs.declared.exprs.Clause.{Clause}
use Rattle.cx_tree.specs.declared.exprs.Expr.{Expr}
use Rattle.cx_tree.specs.declared.exprs.ExprKind.{ExprKind}
use Rattle.cx_tree.specs.declared.exprs.Given.{Given}
use Rattle.cx_tree.specs.declared.exprs.More.{More}
use Rattle.cx_tree.specs.declared.exprs.MoreKind.{MoreKind}
use Rattle.cx_tree.specs.declared.exprs.New.{New}
use Rattle.cx_tree.specs.declared.exprs.Operation.{Operation}
use Rattle.cx_tree.specs.declared.exprs.TypeId.{TypeId}
use Rattle.cx_levels.specs.Levels.{greatest, deeper, perhaps}

abbrev pub clause_step : Clause-F ℕ ℕ ℕ ℕ ℕ ℕ ℕ ℕ ℕ ℕ ℕ ℕ → ℕ
-- e^
clause_step (Clause-F.Value e) = suc e
-- { .. }^
clause_step (Clause-F.Nested b) = suc b

abbrev pub kind_step : ExprKind-F ℕ ℕ ℕ ℕ ℕ ℕ ℕ ℕ ℕ ℕ ℕ ℕ → ℕ
kind_step (ExprKind-F.Number n) = 0
kind_step (ExprKind-F.Char c) = 0
kind_step (ExprKind-F.Str s) = 0
kind_step ExprKind-F.True = 0
kind_step ExprKind-F.False = 0
kind_step ExprKind-F.Nullptr = 0
kind_step ExprKind-F.This = 0
-- ( e^ )
kind_step (ExprKind-F.Paren e) = suc e
kind_step (ExprKind-F.Name name) = 0
-- int(..), int{..}
kind_step (ExprKind-F.OfWord word given) = given
-- T(..), T{..}
kind_step (ExprKind-F.OfType name given) = given
-- static_cast<T>( e^ )
kind_step (ExprKind-F.NamedCast word ty e) = max ty (suc e)
-- e[..](..)
kind_step (ExprKind-F.Postfix e parts) = max e (greatest parts)
-- sizeof e^
kind_step (ExprKind-F.SizeofExpr e) = suc e
-- ! e^
kind_step (ExprKind-F.Prefix operator e) = suc e
-- sizeof(T)
kind_step (ExprKind-F.SizeofType ty) = ty
-- alignof(T)
kind_step (ExprKind-F.AlignofType ty) = ty
-- delete e^
kind_step (ExprKind-F.Delete array e) = suc e
kind_step (ExprKind-F.New n) = n
-- (T) e^
kind_step (ExprKind-F.Cast ty e) = max ty (suc e)
-- a + b + c
kind_step (ExprKind-F.Chain e operations) = max e (greatest operations)
-- a = b^
kind_step (ExprKind-F.Assign a operator b) = max a (suc b)
-- c ? a^ : b^
kind_step (ExprKind-F.Conditional c a b) = max c (max (suc a) (suc b))
-- throw e^
kind_step (ExprKind-F.Throw e) = perhaps suc e
-- a, b, c
kind_step (ExprKind-F.Comma e others) = max e (greatest others)

abbrev pub given_step : Given-F ℕ ℕ ℕ ℕ ℕ ℕ ℕ ℕ ℕ ℕ ℕ ℕ → ℕ
given_step (Given-F.Args a) = a
given_step (Given-F.Braces b) = b

abbrev pub part_step : MoreKind-F ℕ ℕ ℕ ℕ ℕ ℕ ℕ ℕ ℕ ℕ ℕ ℕ → ℕ
-- [ e^ ]
part_step (MoreKind-F.Subscript e) = suc e
part_step (MoreKind-F.Call a) = a
part_step MoreKind-F.Increment = 0
part_step MoreKind-F.Decrement = 0
part_step (MoreKind-F.Member reach name) = 0
part_step (MoreKind-F.Destroy reach name) = 0

abbrev pub args_step : Args-F ℕ ℕ ℕ ℕ ℕ ℕ ℕ ℕ ℕ ℕ ℕ ℕ → ℕ
-- ( a^ , b^ )
args_step a = deeper a.items

abbrev pub bound_step : Bound-F ℕ ℕ ℕ ℕ ℕ ℕ ℕ ℕ ℕ ℕ ℕ ℕ → ℕ
-- [ e^ ]
bound_step b = perhaps suc b.size

abbrev pub braces_step : Braces-F ℕ ℕ ℕ ℕ ℕ ℕ ℕ ℕ ℕ ℕ ℕ ℕ → ℕ
-- { .. , .. }
braces_step b = greatest b.clauses

abbrev pub expr_step : Expr-F ℕ ℕ ℕ ℕ ℕ ℕ ℕ ℕ ℕ ℕ ℕ ℕ → ℕ
expr_step e = e.kind

abbrev pub more_step : More-F ℕ ℕ ℕ ℕ ℕ ℕ ℕ ℕ ℕ ℕ ℕ ℕ → ℕ
more_step m = m.kind

abbrev pub new_step : New-F ℕ ℕ ℕ ℕ ℕ ℕ ℕ ℕ ℕ ℕ ℕ ℕ → ℕ
-- new T[ e^ ](..)
new_step n = max (perhaps suc n.bound) (perhaps (λ given. given) n.given)

abbrev pub operation_step : Operation-F ℕ ℕ ℕ ℕ ℕ ℕ ℕ ℕ ℕ ℕ ℕ ℕ → ℕ
operation_step o = o.operand

abbrev pub type_id_step : TypeId-F ℕ ℕ ℕ ℕ ℕ ℕ ℕ ℕ ℕ ℕ ℕ ℕ → ℕ
-- T[..]
type_id_step t = greatest t.bounds

abbrev pub levels_of_expr : Expr → ℕ
levels_of_expr = fold-Expr ℕ ℕ ℕ ℕ ℕ ℕ ℕ ℕ ℕ ℕ ℕ ℕ clause_step kind_step given_step part_step args_step bound_step braces_step expr_step more_step new_step operation_step type_id_step

abbrev pub levels_of_expr_kind : ExprKind → ℕ
levels_of_expr_kind = fold-ExprKind ℕ ℕ ℕ ℕ ℕ ℕ ℕ ℕ ℕ ℕ ℕ ℕ clause_step kind_step given_step part_step args_step bound_step braces_step expr_step more_step new_step operation_step type_id_step

abbrev pub levels_of_more : More → ℕ
levels_of_more = fold-More ℕ ℕ ℕ ℕ ℕ ℕ ℕ ℕ ℕ ℕ ℕ ℕ clause_step kind_step given_step part_step args_step bound_step braces_step expr_step more_step new_step operation_step type_id_step

abbrev pub levels_of_part : MoreKind → ℕ
levels_of_part = fold-MoreKind ℕ ℕ ℕ ℕ ℕ ℕ ℕ ℕ ℕ ℕ ℕ ℕ clause_step kind_step given_step part_step args_step bound_step braces_step expr_step more_step new_step operation_step type_id_step

abbrev pub levels_of_operation : Operation → ℕ
levels_of_operation = fold-Operation ℕ ℕ ℕ ℕ ℕ ℕ ℕ ℕ ℕ ℕ ℕ ℕ clause_step kind_step given_step part_step args_step bound_step braces_step expr_step more_step new_step operation_step type_id_step

abbrev pub levels_of_args : Args → ℕ
levels_of_args = fold-Args ℕ ℕ ℕ ℕ ℕ ℕ ℕ ℕ ℕ ℕ ℕ ℕ clause_step kind_step given_step part_step args_step bound_step braces_step expr_step more_step new_step operation_step type_id_step

abbrev pub levels_of_braces : Braces → ℕ
levels_of_braces = fold-Braces ℕ ℕ ℕ ℕ ℕ ℕ ℕ ℕ ℕ ℕ ℕ ℕ clause_step kind_step given_step part_step args_step bound_step braces_step expr_step more_step new_step operation_step type_id_step

abbrev pub levels_of_clause : Clause → ℕ
levels_of_clause = fold-Clause ℕ ℕ ℕ ℕ ℕ ℕ ℕ ℕ ℕ ℕ ℕ ℕ clause_step kind_step given_step part_step args_step bound_step braces_step expr_step more_step new_step operation_step type_id_step

abbrev pub levels_of_given : Given → ℕ
levels_of_given = fold-Given ℕ ℕ ℕ ℕ ℕ ℕ ℕ ℕ ℕ ℕ ℕ ℕ clause_step kind_step given_step part_step args_step bound_step braces_step expr_step more_step new_step operation_step type_id_step

abbrev pub levels_of_new : New → ℕ
levels_of_new = fold-New ℕ ℕ ℕ ℕ ℕ ℕ ℕ ℕ ℕ ℕ ℕ ℕ clause_step kind_step given_step part_step args_step bound_step braces_step expr_step more_step new_step operation_step type_id_step

abbrev pub levels_of_bound : Bound → ℕ
levels_of_bound = fold-Bound ℕ ℕ ℕ ℕ ℕ ℕ ℕ ℕ ℕ ℕ ℕ ℕ clause_step kind_step given_step part_step args_step bound_step braces_step expr_step more_step new_step operation_step type_id_step

abbrev pub levels_of_type_id : TypeId → ℕ
levels_of_type_id = fold-TypeId ℕ ℕ ℕ ℕ ℕ ℕ ℕ ℕ ℕ ℕ ℕ ℕ clause_step kind_step given_step part_step args_step bound_step braces_step expr_step more_step new_step operation_step type_id_step

-- an expression one level deeper
abbrev pub levels_within : Expr → ℕ
levels_within e = suc (levels_of_expr e)
