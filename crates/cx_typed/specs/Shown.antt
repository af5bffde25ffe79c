-- The typed trees and programs of the code as plain data, in which types are what is said of them, whatever numbers
-- they have in the tables.
use Rattle.std.specs.Prelude.{◌<◌, List, [], ◌∷◌, true, false, length, map, Option, None, Some, option_map}
use Rattle.cx_type_defs.specs.declared.ids.TypeId.{TypeId}
use Rattle.cx_type_defs.specs.Tables.{Tables}
use Rattle.cx_type_defs.specs.Same.{Form, form_of}
use Rattle.cx_ops.specs.declared.StrictOp.TheVariants as op
use Rattle.cx_typed.specs.declared.exprs.ChainOp.{ChainOp}
use Rattle.cx_typed.specs.declared.exprs.Conversion.{Conversion}
use Rattle.cx_typed.specs.declared.exprs.TExpr.{TExpr}
use Rattle.cx_typed.specs.declared.exprs.TPart.{TPart}
use Rattle.cx_typed.specs.declared.exprs.TStep.{TStep}
use Rattle.cx_typed.specs.declared.exprs.TNode.TheFolds.{fold-TExpr, fold-TPart, fold-TStep}
use Rattle.cx_typed.specs.declared.exprs.TNode.TheOpen.{TExpr-F, TNode-F, TPart-F, TStep-F}
use Rattle.cx_typed.specs.declared.program.TVariable.{TVariable}
use Rattle.cx_typed.specs.declared.judge.Full.{Full}
use Rattle.cx_typed.specs.declared.judge.FullBody.{FullBody}
use Rattle.cx_typed.specs.declared.judge.FullBody.TheVariants as full
use Rattle.cx_typed.specs.Programs.{Rows}
use Rattle.cx_typed.specs.Trees.{Note, Tx, Constant, Variable, Load, Unary, Binary, Conditional, note_of, with_types, AllTypes, Var, Body, OfExpr, OfVariable, FullTree}

-- ---- a tree of the code, level by level, with what stands inside already seen as plain

-- an operation, without what stands left of it
pub record Joined : Type 0 where
  pub left : Option Conversion
  pub op : ChainOp
  pub operand : Tx TypeId

abbrev pub converted : Option Conversion → Tx TypeId → Tx TypeId
converted None x = x
converted (Some c) x = Unary (op.Convert c.to) x (record { ty = c.ty; lvalue = false; span = (note_of x).span })

abbrev pub joined : Tx TypeId → Joined → Note TypeId → Tx TypeId
joined x j i = Binary j.op (converted j.left x) j.operand i

-- operations from left to right, each on all before it
abbrev pub chained : Tx TypeId → List (Joined × Note TypeId) → Tx TypeId
chained x [] = x
chained x (s ∷ ss) = chained (joined x s.0 s.1) ss

abbrev pub node_step : TNode-F (Note TypeId → Tx TypeId) (Tx TypeId) Joined (Joined × Note TypeId) → Note TypeId → Tx TypeId
node_step (TNode-F.Constant a) i = Constant a i
node_step (TNode-F.Variable v) i = Variable v i
node_step (TNode-F.Load x) i = Load x i
node_step (TNode-F.Unary o x) i = Unary o x i
node_step (TNode-F.Chain x ss j) i = joined (chained x ss) j i
node_step (TNode-F.Conditional c x y) i = Conditional c x y i

abbrev pub expr_step : TExpr-F (Note TypeId → Tx TypeId) (Tx TypeId) Joined (Joined × Note TypeId) → Tx TypeId
expr_step e = e.node (record { ty = e.ty; lvalue = e.lvalue; span = e.span })

abbrev pub part_step : TPart-F (Note TypeId → Tx TypeId) (Tx TypeId) Joined (Joined × Note TypeId) → Joined
part_step p = record { left = p.left; op = p.op; operand = p.operand }

abbrev pub step_step : TStep-F (Note TypeId → Tx TypeId) (Tx TypeId) Joined (Joined × Note TypeId) → Joined × Note TypeId
step_step s = (s.part, record { ty = s.ty; lvalue = s.lvalue; span = s.span })

abbrev pub plain : TExpr → Tx TypeId
plain = fold-TExpr (Note TypeId → Tx TypeId) (Tx TypeId) Joined (Joined × Note TypeId) node_step expr_step part_step step_step

abbrev pub plain_part : TPart → Joined
plain_part = fold-TPart (Note TypeId → Tx TypeId) (Tx TypeId) Joined (Joined × Note TypeId) node_step expr_step part_step step_step

abbrev pub plain_step : TStep → Joined × Note TypeId
plain_step = fold-TStep (Note TypeId → Tx TypeId) (Tx TypeId) Joined (Joined × Note TypeId) node_step expr_step part_step step_step

-- a typed expression of the code in a program with these types
abbrev pub shown : Tables → TExpr → Tx Form
shown t e = with_types (form_of true t) (plain e)

-- each type in it is one of these; wrapped, so that proofs see it whole
pub record Within (t : Tables) (e : TExpr) : Type 0 where
  pub each : AllTypes (λ (id : TypeId). id.0 < length t.rows) (plain e)

-- ---- programs

abbrev pub var_shown : Tables → TVariable → Var
var_shown t v = record { name = v.name; ty = form_of true t v.ty; at = v.at; is_constexpr = v.is_constexpr; init = option_map (shown t) v.init }

abbrev pub vars_shown : Rows → List Var
vars_shown p = map (var_shown p.types) p.variables

-- ---- what is judged

abbrev pub body_shown : Tables → FullBody → Body
body_shown t (full.Expr e) = OfExpr (shown t e)
body_shown t (full.Variable v) = OfVariable v

abbrev pub full_shown : Rows → Full → FullTree
full_shown p f = record { body = body_shown p.types f.body; span = f.span }
