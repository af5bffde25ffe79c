-- An operation behind an expression: chains stay lists.
use Rattle.std.proofs.Common.{◌≡◌, ◌<◌, ◌++◌, Bool, true, false, List, [], ◌∷◌, Option, None, Some, length, map, refl, ap, subst, ◌∙◌}
use Rattle.cx_base.specs.declared.diag.Span.{Span}
use Rattle.cx_base.specs.declared.int_type.IntType.{IntType}
use Rattle.cx_ops.specs.declared.StrictOp.TheVariants as op
use Rattle.cx_type_defs.specs.declared.ids.TypeId.{TypeId}
use Rattle.cx_type_defs.specs.Same.{Form, form_of, Int}
use Rattle.cx_type_defs.specs.Tables.{Tables}
use Rattle.cx_typed.specs.declared.exprs.Conversion.{Conversion}
use Rattle.cx_typed.specs.declared.exprs.TExpr.{TExpr}
use Rattle.cx_typed.specs.declared.exprs.TNode as n
use Rattle.cx_typed.specs.declared.exprs.TPart.{TPart}
use Rattle.cx_typed.specs.declared.exprs.TStep.{TStep}
use Rattle.cx_typed.specs.Trees.{Note, Tx, Constant, Variable, Load, Unary, Binary, Conditional, note_of, with_types, AllTypes}
use Rattle.cx_typed.specs.Shown.{chained, converted, joined, plain, plain_part, plain_step, shown, Within}
use Rattle.cx_typed.proofs.Growth.{map_push}
use Rattle.cx_typed.proofs.Views.{texpr, form_note, note, note_is, own_note, plain_chain, part_is, step_is, chained_push, known_converted, known_joined, within_chain}
use Rattle.cx_typed.specs.declared.exprs.ChainOp.TheVariants as chain
use Rattle.cx_exprs.specs.Forms.{binary, comma, planned_form}
use Rattle.cx_exprs.specs.Operators.{planned}
use Rattle.cx_tree.specs.declared.operators.BinaryOp.{BinaryOp}
use Rattle.cx_exprs.specs.Parts.{Tree, as_value, loaded, type_of}
use Rattle.cx_exprs.specs.declared.operators.Plan.{Plan}
use Rattle.cx_exprs.proofs.MadeNodes.{loaded_type}
use Rattle.cx_exprs.specs.Chains.{left_value, behind, Converts, KnownPart}

span_kept : (f : TypeId → Form) (z : Tx TypeId) → (note_of z).span ≡ (note_of (with_types f z)).span
span_kept f (Constant a i) = refl
span_kept f (Variable v i) = refl
span_kept f (Load x i) = refl
span_kept f (Unary o x i) = refl
span_kept f (Binary o x y i) = refl
span_kept f (Conditional c x y i) = refl

left_in : (t : Tables) (y : Tx TypeId) (c : Option Conversion) → with_types (form_of true t) (converted c y) ≡ left_value t c (with_types (form_of true t) y)
left_in t y None = refl
left_in t y (Some c) = ap (λ (at : Span). Unary (op.Convert c.to) (with_types (form_of true t) y) (record { ty = form_of true t c.ty; lvalue = false; span = at })) (span_kept (form_of true t) y)

part_in : (t : Tables) (y : Tx TypeId) (p : TPart) (ty : TypeId) (l : Bool) (at : Span) → with_types (form_of true t) (joined y (plain_part p) (note ty l at)) ≡ behind t (with_types (form_of true t) y) p.left p.op (shown t p.operand) (form_note t ty l at)
part_in t y p ty l at = rw (part_is p, left_in t y p.left) refl

abbrev step : TPart → TExpr → TStep
step q e = record { part = q; ty = e.ty; lvalue = e.lvalue; span = e.span }

pub append_new : (t : Tables) (x : TExpr) (p : TPart) (ty : TypeId) (l : Bool) (at : Span) → shown t (texpr (n.Chain x [] p) ty l at) ≡ behind t (shown t x) p.left p.op (shown t p.operand) (form_note t ty l at)
append_new t x p ty l at = rw (plain_chain x [] p ty l at) (part_in t (plain x) p ty l at)

-- a chain, and the operations of one with a further one
chain_plain : (e x : TExpr) (ss : List TStep) (q : TPart) → e.node ≡ n.Chain x ss q → plain e ≡ joined (chained (plain x) (map plain_step ss)) (plain_part q) (own_note e)
chain_plain e x ss q h = rw (← h) at (plain_chain x ss q e.ty e.lvalue e.span)

steps_more : (e x : TExpr) (ss : List TStep) (q : TPart) → e.node ≡ n.Chain x ss q → chained (plain x) (map plain_step (ss ++ step q e ∷ [])) ≡ plain e
steps_more e x ss q h = rw (map_push plain_step ss (step q e), chained_push (plain x) (map plain_step ss) (plain_step (step q e)), step_is (step q e), chain_plain e x ss q h) refl

pub append_more : (t : Tables) (e x : TExpr) (ss : List TStep) (q p : TPart) (ty : TypeId) (l : Bool) (at : Span) → e.node ≡ n.Chain x ss q → shown t (texpr (n.Chain x (ss ++ step q e ∷ []) p) ty l at) ≡ behind t (shown t e) p.left p.op (shown t p.operand) (form_note t ty l at)
append_more t e x ss q p ty l at h = rw (plain_chain x (ss ++ step q e ∷ []) p ty l at, steps_more e x ss q h) (part_in t (plain e) p ty l at)

-- ---- which types are in it

known_part : (t : Tables) (y : Tx TypeId) (p : TPart) (ty : TypeId) (l : Bool) (at : Span) → AllTypes (λ (id : TypeId). id.0 < length t.rows) y → KnownPart t p → ty.0 < length t.rows → AllTypes (λ (id : TypeId). id.0 < length t.rows) (joined y (plain_part p) (note ty l at))
known_part t y p ty l at h k w = rw (part_is p) (known_joined t y (record { left = p.left; op = p.op; operand = plain p.operand }) (note ty l at) (known_converted t y p.left h k.left) k.operand.each w)

pub within_new : (t : Tables) (x : TExpr) (p : TPart) (ty : TypeId) (l : Bool) (at : Span) → Within t x → KnownPart t p → ty.0 < length t.rows → Within t (texpr (n.Chain x [] p) ty l at)
within_new t x p ty l at h k w = within_chain t x [] p ty l at (known_part t (plain x) p ty l at h.each k w)

pub within_more : (t : Tables) (e x : TExpr) (ss : List TStep) (q p : TPart) (ty : TypeId) (l : Bool) (at : Span) → e.node ≡ n.Chain x ss q → Within t e → KnownPart t p → ty.0 < length t.rows → Within t (texpr (n.Chain x (ss ++ step q e ∷ []) p) ty l at)
within_more t e x ss q p ty l at h v k w = within_chain t x (ss ++ step q e ∷ []) p ty l at (rw (steps_more e x ss q h) (known_part t (plain e) p ty l at v.each k w))

-- ---- operators and commas

left_as_value : (t : Tables) (x z : Tree) (from to : IntType) (c : Option Conversion) → from ≡ type_of x → z ≡ loaded x → Converts t from to c → left_value t c z ≡ as_value to x
left_as_value t x z from to c h k v = rw k (by c v)
  where
    i : Note Form
    i = note_of (loaded x)

    kept : type_of (loaded x) ≡ from
    kept = rw h (loaded_type x)

    by : (c : Option Conversion) → Converts t from to c → left_value t c (loaded x) ≡ as_value to x
    by None v = rw (kept, v) refl
    by (Some c) v = rw (kept, v.0, v.1, v.2) refl

pub binary_form : (t : Tables) (p : Plan) (x y z u e : Tree) (from : IntType) (c : Option Conversion) (f : Form) (at : Span) → from ≡ type_of x → z ≡ loaded x → u ≡ as_value p.right y → Converts t from p.left c → f ≡ Int p.result → e ≡ behind t z c p.op u (record { ty = f; lvalue = false; span = at }) → e ≡ planned_form p x y at
binary_form t p x y z u e from c f at h k v w g m = rw (m, left_as_value t x z from p.left c h k w, v, g) refl

pub binary_made : (t : Tables) (o : BinaryOp) (p : Plan) (x y z u e : Tree) (from to : IntType) (c : Option Conversion) (f : Form) (at : Span) → p ≡ planned o from to → from ≡ type_of x → to ≡ type_of y → z ≡ loaded x → u ≡ as_value p.right y → Converts t from p.left c → f ≡ Int p.result → e ≡ behind t z c p.op u (record { ty = f; lvalue = false; span = at }) → e ≡ (binary o x y at).form
binary_made t o p x y z u e from to c f at q h r k v w g m =
    let s : p ≡ planned o (type_of x) (type_of y) = q ∙ ap (λ a. planned o a to) h ∙ ap (λ b. planned o (type_of x) b) r in
    subst (λ (a : Plan). e ≡ planned_form a x y at) s (binary_form t p x y z u e from c f at h k v w g m)

pub comma_form : (t : Tables) (x : Tree) (y : TExpr) (e : Tree) (at : Span) → e ≡ behind t x None chain.Comma (shown t y) (record { ty = form_of true t y.ty; lvalue = y.lvalue; span = at }) → e ≡ (comma x (shown t y) at).form
comma_form t x y e at m = rw (m, note_is t y) refl
