-- What each node of the code's typed trees is as plain data, and which types are in it.
use Rattle.std.proofs.Common.{◌≡◌, ◌<◌, ◌++◌, Bool, true, List, [], ◌∷◌, length, map, rules, refl, Option, None, Some}
use Rattle.cx_base.specs.declared.diag.Span.{Span}
use Rattle.cx_ints.specs.declared.int.Int.{Int}
use Rattle.cx_type_defs.specs.declared.ids.TypeId.{TypeId}
use Rattle.cx_type_defs.specs.declared.ids.VarId.{VarId}
use Rattle.cx_type_defs.specs.Tables.{Tables}
use Rattle.cx_type_defs.specs.Same.{Form, form_of}
use Rattle.cx_ops.specs.declared.StrictOp.{StrictOp}
use Rattle.cx_typed.specs.declared.exprs.Conversion.{Conversion}
use Rattle.cx_typed.specs.declared.exprs.TExpr.{TExpr}
use Rattle.cx_typed.specs.declared.exprs.TNode as n
use Rattle.cx_typed.specs.declared.exprs.TNode.{TNode}
use Rattle.cx_typed.specs.declared.exprs.TPart.{TPart}
use Rattle.cx_typed.specs.declared.exprs.TStep.{TStep}
use Rattle.cx_typed.specs.Trees.{Note, Tx, Constant, Variable, Load, Unary, Binary, Conditional, note_of, note_with, with_types, AllTypes}
use Rattle.cx_typed.specs.Shown.{Joined, converted, joined, chained, plain, plain_part, plain_step, shown, Within}

abbrev pub texpr : TNode → TypeId → Bool → Span → TExpr
texpr d t l at = record { node = d; ty = t; lvalue = l; span = at }

abbrev pub note : TypeId → Bool → Span → Note TypeId
note t l at = record { ty = t; lvalue = l; span = at }

-- ---- one level

pub plain_constant : (a : Int) (t : TypeId) (l : Bool) (at : Span) → plain (texpr (n.Constant a) t l at) ≡ Constant a (note t l at)
plain_constant a t l at = search (rules, n.the_lemmas)

pub plain_variable : (v : VarId) (t : TypeId) (l : Bool) (at : Span) → plain (texpr (n.Variable v) t l at) ≡ Variable v (note t l at)
plain_variable v t l at = search (rules, n.the_lemmas)

pub plain_load : (x : TExpr) (t : TypeId) (l : Bool) (at : Span) → plain (texpr (n.Load x) t l at) ≡ Load (plain x) (note t l at)
plain_load x t l at = search (rules, n.the_lemmas)

pub plain_unary : (o : StrictOp) (x : TExpr) (t : TypeId) (l : Bool) (at : Span) → plain (texpr (n.Unary o x) t l at) ≡ Unary o (plain x) (note t l at)
plain_unary o x t l at = search (rules, n.the_lemmas)

pub plain_chain : (x : TExpr) (ss : List TStep) (p : TPart) (t : TypeId) (l : Bool) (at : Span) → plain (texpr (n.Chain x ss p) t l at) ≡ joined (chained (plain x) (map plain_step ss)) (plain_part p) (note t l at)
plain_chain x ss p t l at = search (rules, n.the_lemmas)

pub plain_conditional : (c x y : TExpr) (t : TypeId) (l : Bool) (at : Span) → plain (texpr (n.Conditional c x y) t l at) ≡ Conditional (plain c) (plain x) (plain y) (note t l at)
plain_conditional c x y t l at = search (rules, n.the_lemmas)

pub part_is : (p : TPart) → plain_part p ≡ record { left = p.left; op = p.op; operand = plain p.operand }
part_is p = search (rules, n.the_lemmas)

pub step_is : (s : TStep) → plain_step s ≡ (plain_part s.part, record { ty = s.ty; lvalue = s.lvalue; span = s.span })
step_is s = search (rules, n.the_lemmas)

-- ---- what a tree has at its top

abbrev pub own_note : TExpr → Note TypeId
own_note x = record { ty = x.ty; lvalue = x.lvalue; span = x.span }

pub note_plain : (x : TExpr) → note_of (plain x) ≡ own_note x
note_plain x = search (rules, n.the_lemmas)

-- what each typed expression has, behind these types

note_of_types : (f : TypeId → Form) (x : Tx TypeId) → note_of (with_types f x) ≡ note_with f (note_of x)
note_of_types f (Constant a i) = refl
note_of_types f (Variable v i) = refl
note_of_types f (Load x i) = refl
note_of_types f (Unary o x i) = refl
note_of_types f (Binary o x y i) = refl
note_of_types f (Conditional c x y i) = refl

-- the note of a node of this type, kind and place
abbrev pub form_note : Tables → TypeId → Bool → Span → Note Form
form_note t ty l at = record { ty = form_of true t ty; lvalue = l; span = at }

pub note_is : (t : Tables) (x : TExpr) → note_of (shown t x) ≡ form_note t x.ty x.lvalue x.span
note_is t x = rw (note_of_types (form_of true t) (plain x), note_plain x) refl

-- ---- behind these types

pub shown_constant : (u : Tables) (a : Int) (t : TypeId) (l : Bool) (at : Span) → shown u (texpr (n.Constant a) t l at) ≡ Constant a (form_note u t l at)
shown_constant u a t l at = rw (plain_constant a t l at) refl

pub shown_variable : (u : Tables) (v : VarId) (t : TypeId) (l : Bool) (at : Span) → shown u (texpr (n.Variable v) t l at) ≡ Variable v (form_note u t l at)
shown_variable u v t l at = rw (plain_variable v t l at) refl

pub shown_load : (u : Tables) (x : TExpr) (t : TypeId) (l : Bool) (at : Span) → shown u (texpr (n.Load x) t l at) ≡ Load (shown u x) (form_note u t l at)
shown_load u x t l at = rw (plain_load x t l at) refl

pub shown_unary : (u : Tables) (o : StrictOp) (x : TExpr) (t : TypeId) (l : Bool) (at : Span) → shown u (texpr (n.Unary o x) t l at) ≡ Unary o (shown u x) (form_note u t l at)
shown_unary u o x t l at = rw (plain_unary o x t l at) refl

pub shown_chain : (u : Tables) (x : TExpr) (ss : List TStep) (p : TPart) (t : TypeId) (l : Bool) (at : Span) → shown u (texpr (n.Chain x ss p) t l at) ≡ with_types (form_of true u) (joined (chained (plain x) (map plain_step ss)) (plain_part p) (note t l at))
shown_chain u x ss p t l at = rw (plain_chain x ss p t l at) refl

pub shown_conditional : (u : Tables) (c x y : TExpr) (t : TypeId) (l : Bool) (at : Span) → shown u (texpr (n.Conditional c x y) t l at) ≡ Conditional (shown u c) (shown u x) (shown u y) (form_note u t l at)
shown_conditional u c x y t l at = rw (plain_conditional c x y t l at) refl

-- ---- of a typed expression with this node

pub constant_is : (u : Tables) (e : TExpr) (a : Int) → e.node ≡ n.Constant a → shown u e ≡ Constant a (form_note u e.ty e.lvalue e.span)
constant_is u e a h = rw (← h) at (shown_constant u a e.ty e.lvalue e.span)

pub variable_is : (u : Tables) (e : TExpr) (v : VarId) → e.node ≡ n.Variable v → shown u e ≡ Variable v (form_note u e.ty e.lvalue e.span)
variable_is u e v h = rw (← h) at (shown_variable u v e.ty e.lvalue e.span)

pub load_is : (u : Tables) (e x : TExpr) → e.node ≡ n.Load x → shown u e ≡ Load (shown u x) (form_note u e.ty e.lvalue e.span)
load_is u e x h = rw (← h) at (shown_load u x e.ty e.lvalue e.span)

pub unary_is : (u : Tables) (e : TExpr) (o : StrictOp) (x : TExpr) → e.node ≡ n.Unary o x → shown u e ≡ Unary o (shown u x) (form_note u e.ty e.lvalue e.span)
unary_is u e o x h = rw (← h) at (shown_unary u o x e.ty e.lvalue e.span)

pub chain_is : (u : Tables) (e x : TExpr) (ss : List TStep) (p : TPart) → e.node ≡ n.Chain x ss p → shown u e ≡ with_types (form_of true u) (joined (chained (plain x) (map plain_step ss)) (plain_part p) (own_note e))
chain_is u e x ss p h = rw (← h) at (shown_chain u x ss p e.ty e.lvalue e.span)

pub conditional_is : (u : Tables) (e c x y : TExpr) → e.node ≡ n.Conditional c x y → shown u e ≡ Conditional (shown u c) (shown u x) (shown u y) (form_note u e.ty e.lvalue e.span)
conditional_is u e c x y h = rw (← h) at (shown_conditional u c x y e.ty e.lvalue e.span)

-- ---- which types are in a tree

abbrev Known : Tables → Tx TypeId → Type 0
Known u x = AllTypes (λ (id : TypeId). id.0 < length u.rows) x

pub within_constant : (u : Tables) (a : Int) (t : TypeId) (l : Bool) (at : Span) → t.0 < length u.rows → Within u (texpr (n.Constant a) t l at)
within_constant u a t l at k = record { each = rw (plain_constant a t l at) k }

pub within_variable : (u : Tables) (v : VarId) (t : TypeId) (l : Bool) (at : Span) → t.0 < length u.rows → Within u (texpr (n.Variable v) t l at)
within_variable u v t l at k = record { each = rw (plain_variable v t l at) k }

pub within_load : (u : Tables) (x : TExpr) (t : TypeId) (l : Bool) (at : Span) → Within u x → t.0 < length u.rows → Within u (texpr (n.Load x) t l at)
within_load u x t l at h k = record { each = rw (plain_load x t l at) (h.each, k) }

pub within_unary : (u : Tables) (o : StrictOp) (x : TExpr) (t : TypeId) (l : Bool) (at : Span) → Within u x → t.0 < length u.rows → Within u (texpr (n.Unary o x) t l at)
within_unary u o x t l at h k = record { each = rw (plain_unary o x t l at) (h.each, k) }

pub within_conditional : (u : Tables) (c x y : TExpr) (t : TypeId) (l : Bool) (at : Span) → Within u c → Within u x → Within u y → t.0 < length u.rows → Within u (texpr (n.Conditional c x y) t l at)
within_conditional u c x y t l at f g h k = record { each = rw (plain_conditional c x y t l at) (f.each, g.each, h.each, k) }

-- of a chain, operation by operation
pub known_converted : (u : Tables) (x : Tx TypeId) (o : Option Conversion) → Known u x → ((c : Conversion) → o ≡ Some c → c.ty.0 < length u.rows) → Known u (converted o x)
known_converted u x None h k = h
known_converted u x (Some c) h k = (h, k c refl)

pub known_joined : (u : Tables) (x : Tx TypeId) (j : Joined) (i : Note TypeId) → Known u (converted j.left x) → Known u j.operand → i.ty.0 < length u.rows → Known u (joined x j i)
known_joined u x j i h k l = (h, k, l)

pub within_chain : (u : Tables) (x : TExpr) (ss : List TStep) (p : TPart) (t : TypeId) (l : Bool) (at : Span) → Known u (joined (chained (plain x) (map plain_step ss)) (plain_part p) (note t l at)) → Within u (texpr (n.Chain x ss p) t l at)
within_chain u x ss p t l at k = record { each = rw (plain_chain x ss p t l at) k }

note-known : (u : Tables) (x : Tx TypeId) → Known u x → (note_of x).ty.0 < length u.rows
note-known u (Constant a i) h = h
note-known u (Variable v i) h = h
note-known u (Load x i) h = h.1
note-known u (Unary o x i) h = h.1
note-known u (Binary o x y i) h = h.2
note-known u (Conditional c x y i) h = h.3

pub type_within : (u : Tables) (e : TExpr) → Within u e → e.ty.0 < length u.rows
type_within u e w = rw (note_plain e) at (note-known u (plain e) w.each)

-- an operation more at the end of a chain
pub chained_push : (x : Tx TypeId) (ss : List (Joined × Note TypeId)) (s : Joined × Note TypeId) → chained x (ss ++ s ∷ []) ≡ joined (chained x ss) s.0 s.1
chained_push x [] s = refl
chained_push x (r ∷ ss) s = chained_push (joined x r.0 r.1) ss s
