-- Typed forms as the code makes them.
use Rattle.std.proofs.Common.{◌≡◌, suc, true, false, List, [], ◌∷◌, None, Some, length, map, refl, ap, subst, ◌∙◌}
use Rattle.cx_base.specs.declared.diag.Span.{Span}
use Rattle.cx_base.specs.declared.int_type.IntType.{IntType}
use Rattle.cx_base.specs.declared.rule.Rule.{Rule}
use Rattle.cx_base.specs.declared.rule.Rule.TheVariants as rule
use Rattle.cx_tree.specs.declared.exprs.Bound.{Bound}
use Rattle.cx_tree.specs.declared.exprs.Clause.TheViews.{out-TypeId}
use Rattle.cx_tree.specs.declared.exprs.TypeId.{TypeId}
use Rattle.cx_tree.specs.declared.operators.PrefixOp.{PrefixOp}
use Rattle.cx_typed.specs.Trees.{Unary}
use Rattle.cx_plain.specs.ExpressionViews.{bound_parts, bounds_of, written}
use Rattle.cx_plain.proofs.ExpressionForms.{written_is}
use Rattle.cx_exprs.specs.declared.operators.UnaryPlan.{UnaryPlan}
use Rattle.cx_exprs.specs.declared.words.Consts.{Consts}
use Rattle.cx_exprs.specs.declared.words.Named.{Named}
use Rattle.cx_exprs.specs.Forms.{unary}
use Rattle.cx_exprs.specs.Operators.{planned_prefix}
use Rattle.cx_exprs.specs.Parts.{Tree, as_value, prvalue, type_of}
use Rattle.cx_exprs.specs.TypeWords.{bounds_in, consts_of, int_in, is_decorated, named_type, specifiers, type_written}
use Rattle.cx_exprs.specs.Typing.{Good, World, broken, first_rule}

pub unary_made : (o : PrefixOp) (p : UnaryPlan) (x u e : Tree) (t : IntType) (at : Span) → p ≡ planned_prefix o t → t ≡ type_of x → u ≡ as_value p.operand x → e ≡ Unary p.op u (prvalue p.operand at) → e ≡ (unary (planned_prefix o (type_of x)) x at).form
unary_made o p x u e t at q h k m =
    let s : p ≡ planned_prefix o (type_of x) = q ∙ ap (λ a. planned_prefix o a) h in
    subst (λ (a : UnaryPlan). e ≡ Unary a.op (as_value a.operand x) (prvalue a.operand at)) s (rw (m, k) refl)

bounds_length : (bs : List Bound) → bounds_in (bounds_of (map bound_parts bs)) ≡ length bs
bounds_length [] = refl
bounds_length (b ∷ bs) = ap suc (bounds_length bs)

pub type_told : (t : TypeId) (w : World) (n : Named) (c : Consts) (r : Rule) → n ≡ named_type (out-TypeId t).specs.ty → c ≡ consts_of (out-TypeId t).specs → Some r ≡ first_rule (specifiers n c).tests → type_written (written t) w ≡ broken r (out-TypeId t).specs.span
type_told t w n c r h k e = rw (written_is t, ← h, ← k, ← e) refl

pub type_decorated : (t : TypeId) (w : World) (n : Named) (c : Consts) → n ≡ named_type (out-TypeId t).specs.ty → c ≡ consts_of (out-TypeId t).specs → None ≡ first_rule (specifiers n c).tests → true ≡ is_decorated (out-TypeId t).ptrs (length (out-TypeId t).bounds) → type_written (written t) w ≡ broken rule.LeftOutForm (out-TypeId t).span
type_decorated t w n c h k e d = rw (written_is t, ← h, ← k, ← e, bounds_length (out-TypeId t).bounds, ← d) refl

pub type_plain : (t : TypeId) (w : World) (n : Named) (c : Consts) (ty : IntType) → n ≡ named_type (out-TypeId t).specs.ty → c ≡ consts_of (out-TypeId t).specs → None ≡ first_rule (specifiers n c).tests → false ≡ is_decorated (out-TypeId t).ptrs (length (out-TypeId t).bounds) → ty ≡ int_in n → type_written (written t) w ≡ Good ty w
type_plain t w n c ty h k e d i = rw (written_is t, ← h, ← k, ← e, bounds_length (out-TypeId t).bounds, ← d, i) refl
