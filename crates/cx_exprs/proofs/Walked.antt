-- Which alternative of typing each form of the code's trees takes. A caller's `match` on an expression's kind gives the premise as it stands.
use Rattle.std.proofs.Common.{◌≡◌, ℕ, ℤ, Bool, List, Option, map, refl, ◌∙◌}
use Rattle.cx_base.specs.declared.int_type.IntType.TheVariants as type
use Rattle.cx_base.specs.declared.rule.Rule.TheVariants as rule
use Rattle.cx_ints.specs.declared.int.Int.{Int}
use Rattle.cx_tree.specs.declared.exprs.CastWord.{CastWord}
use Rattle.cx_tree.specs.declared.exprs.Expr.{Expr}
use Rattle.cx_tree.specs.declared.exprs.ExprKind.TheVariants as k
use Rattle.cx_tree.specs.declared.exprs.Given.{Given}
use Rattle.cx_tree.specs.declared.exprs.Operation.{Operation}
use Rattle.cx_tree.specs.declared.exprs.TypeId.{TypeId}
use Rattle.cx_tree.specs.declared.names.FunctionName.{FunctionName}
use Rattle.cx_tree.specs.declared.names.TypeName.{TypeName}
use Rattle.cx_tree.specs.declared.operators.AssignOp.{AssignOp}
use Rattle.cx_tree.specs.declared.operators.PrefixOp.{PrefixOp}
use Rattle.cx_tree.specs.declared.specifiers.SimpleType.{SimpleType}
use Rattle.cx_plain.specs.Expressions as e
use Rattle.cx_plain.specs.ExpressionViews.{making, tree, written}
use Rattle.cx_plain.specs.Spans.{span_of}
use Rattle.cx_plain.proofs.ExpressionForms as form
use Rattle.cx_exprs.specs.Expressions.{typed}
use Rattle.cx_exprs.specs.Forms.{literal, named, number}
use Rattle.cx_exprs.specs.Helpers.{choice, size_of}
use Rattle.cx_exprs.specs.Sequences.{typed_chain, typed_commas}
use Rattle.cx_exprs.specs.Typing.{World, and_then, broken, node}
use Rattle.cx_exprs.proofs.Steps.{chain_typed, commas_typed}

pub number_walked : (x : Expr) (i : Int) (w : World) → x.kind ≡ k.Number i → typed (tree x) w ≡ node x.extent (literal i x.extent) w
number_walked x i w h = rw (form.is_number x i h) refl

pub character_walked : (x : Expr) (c : ℤ) (w : World) → x.kind ≡ k.Char c → typed (tree x) w ≡ typed (e.Character c x.extent) w
character_walked x c w h = rw (form.is_character x c h) refl

pub true_walked : (x : Expr) (w : World) → x.kind ≡ k.True → typed (tree x) w ≡ node x.extent (literal (number type.Bool 1) x.extent) w
true_walked x w h = rw (form.is_true x h) refl

pub false_walked : (x : Expr) (w : World) → x.kind ≡ k.False → typed (tree x) w ≡ node x.extent (literal (number type.Bool 0) x.extent) w
false_walked x w h = rw (form.is_false x h) refl

pub name_walked : (x : Expr) (n : FunctionName) (w : World) → x.kind ≡ k.Name n → typed (tree x) w ≡ named n x.extent w
name_walked x n w h = rw (form.is_name x n h) refl

pub sizeof_walked : (x : Expr) (t : TypeId) (w : World) → x.kind ≡ k.SizeofType t → typed (tree x) w ≡ size_of (written t) x.extent w
sizeof_walked x t w h = rw (form.is_sizeof_type x t h) refl

pub alignof_walked : (x : Expr) (t : TypeId) (w : World) → x.kind ≡ k.AlignofType t → typed (tree x) w ≡ size_of (written t) x.extent w
alignof_walked x t w h = rw (form.is_alignof_type x t h) refl

pub paren_walked : (x a : Expr) (w : World) → x.kind ≡ k.Paren a → typed (tree x) w ≡ typed (tree a) w
paren_walked x a w h = rw (form.is_paren x a h) refl

pub prefix_walked : (x : Expr) (o : PrefixOp) (a : Expr) (w : World) → x.kind ≡ k.Prefix o a → typed (tree x) w ≡ typed (e.Prefix o (tree a) x.extent) w
prefix_walked x o a w h = rw (form.is_prefix x o a h) refl

pub named_cast_walked : (x : Expr) (o : CastWord) (t : TypeId) (a : Expr) (w : World) → x.kind ≡ k.NamedCast o t a → typed (tree x) w ≡ typed (e.NamedCast o (written t) (tree a) x.extent) w
named_cast_walked x o t a w h = rw (form.is_named_cast x o t a h) refl

pub conditional_walked : (x c a b : Expr) (w : World) → x.kind ≡ k.Conditional c a b → typed (tree x) w ≡ choice (tree c) (tree a) (tree b) x.extent w
conditional_walked x c a b w h = rw (form.is_conditional x c a b h) refl

pub of_word_walked : (x : Expr) (t : SimpleType) (g : Given) (w : World) → x.kind ≡ k.OfWord t g → typed (tree x) w ≡ typed (e.OfWord t (making g) x.extent) w
of_word_walked x t g w h = rw (form.is_of_word x t g h) refl

pub chain_walked : (x a : Expr) (os : List Operation) (w : World) → x.kind ≡ k.Chain a os → typed (tree x) w ≡ and_then (typed (tree a) w) (λ y u. typed_chain a.extent y os u)
chain_walked x a os w h = rw (form.is_chain x a os h) (chain_typed a.extent (tree a) os w)

pub commas_walked : (x a : Expr) (bs : List Expr) (w : World) → x.kind ≡ k.Comma a bs → typed (tree x) w ≡ and_then (typed (tree a) w) (λ y u. typed_commas a.extent y bs u)
commas_walked x a bs w h = rw (form.is_comma x a bs h) (commas_typed a.extent (tree a) bs w)

-- ---- what isn't built

pub string_left : (x : Expr) (s : List (List ℕ)) (w : World) → x.kind ≡ k.Str s → typed (tree x) w ≡ broken rule.LeftOutForm (span_of (tree x))
string_left x s w h = rw (form.is_string x s h) refl

pub nullptr_left : (x : Expr) (w : World) → x.kind ≡ k.Nullptr → typed (tree x) w ≡ broken rule.LeftOutForm (span_of (tree x))
nullptr_left x w h = rw (form.is_nullptr x h) refl

pub this_left : (x : Expr) (w : World) → x.kind ≡ k.This → typed (tree x) w ≡ broken rule.LeftOutForm (span_of (tree x))
this_left x w h = rw (form.is_this x h) refl

pub of_type_left : (x : Expr) (t : TypeName) (g : Given) (w : World) → x.kind ≡ k.OfType t g → typed (tree x) w ≡ broken rule.LeftOutForm (span_of (tree x))
of_type_left x t g w h = rw (form.is_of_type x t g h) refl

pub sizeof_expression_left : (x a : Expr) (w : World) → x.kind ≡ k.SizeofExpr a → typed (tree x) w ≡ broken rule.LeftOutForm (span_of (tree x))
sizeof_expression_left x a w h = rw (form.is_sizeof_expression x a h) refl

pub delete_left : (x : Expr) (all : Bool) (a : Expr) (w : World) → x.kind ≡ k.Delete all a → typed (tree x) w ≡ broken rule.LeftOutForm (span_of (tree x))
delete_left x all a w h = rw (form.is_delete x all a h) refl

pub cast_left : (x : Expr) (t : TypeId) (a : Expr) (w : World) → x.kind ≡ k.Cast t a → typed (tree x) w ≡ broken rule.LeftOutForm (span_of (tree x))
cast_left x t a w h = rw (form.is_cast x t a h) refl

pub assign_left : (x a : Expr) (o : AssignOp) (b : Expr) (w : World) → x.kind ≡ k.Assign a o b → typed (tree x) w ≡ broken rule.LeftOutForm (span_of (tree x))
assign_left x a o b w h = rw (form.is_assign x a o b h) refl

pub throw_left : (x : Expr) (a : Option Expr) (w : World) → x.kind ≡ k.Throw a → typed (tree x) w ≡ broken rule.LeftOutForm (span_of (tree x))
throw_left x a w h = rw (form.is_throw x a h) refl
