-- What each form of the code's trees is as plain data. A caller's `match` on an expression's kind gives the premise as it stands.
use Rattle.std.proofs.Common.{◌≡◌, ℕ, ℤ, Bool, List, Option, option_map, map, rules}
use Rattle.cx_base.specs.declared.diag.Span.{Span}
use Rattle.cx_ints.specs.declared.int.Int.{Int}
use Rattle.cx_tree.specs.declared.exprs.Args.{Args}
use Rattle.cx_tree.specs.declared.exprs.Braces.{Braces}
use Rattle.cx_tree.specs.declared.exprs.CastWord.{CastWord}
use Rattle.cx_tree.specs.declared.exprs.Clause as declared
use Rattle.cx_tree.specs.declared.exprs.Clause.TheVariants as c
use Rattle.cx_tree.specs.declared.exprs.Clause.TheViews.{out-Args, out-New, out-TypeId}
use Rattle.cx_tree.specs.declared.exprs.Expr.{Expr}
use Rattle.cx_tree.specs.declared.exprs.ExprKind.TheVariants as k
use Rattle.cx_tree.specs.declared.exprs.Given.{Given}
use Rattle.cx_tree.specs.declared.exprs.Given.TheVariants as g
use Rattle.cx_tree.specs.declared.exprs.More.{More}
use Rattle.cx_tree.specs.declared.exprs.New.{New}
use Rattle.cx_tree.specs.declared.exprs.Operation.{Operation}
use Rattle.cx_tree.specs.declared.exprs.TypeId.{TypeId}
use Rattle.cx_tree.specs.declared.names.FunctionName.{FunctionName}
use Rattle.cx_tree.specs.declared.names.TypeName.{TypeName}
use Rattle.cx_tree.specs.declared.operators.AssignOp.{AssignOp}
use Rattle.cx_tree.specs.declared.operators.PrefixOp.{PrefixOp}
use Rattle.cx_tree.specs.declared.specifiers.SimpleType.{SimpleType}
use Rattle.cx_plain.specs.Expressions as e
use Rattle.cx_plain.specs.ExpressionViews.{arguments, arguments_of, bound_parts, bounds_of, braced, chained, clause_seen, clauses_of, comma_list, form_of, joining, made_new, making, making_of, operand, part, perhaps, placed, postfixed, tree, written}

pub extent_is : (x : Expr) → (placed x).extent ≡ x.extent
unfolding tree placed form_of operand part joining arguments braced clause_seen making made_new bound_parts written
extent_is x = search (rules, declared.the_lemmas)

tree_by_kind : (x : Expr) → tree x ≡ form_of x.kind x.extent
unfolding tree placed form_of operand part joining arguments braced clause_seen making made_new bound_parts written
tree_by_kind x = search (rules, declared.the_lemmas)

pub operand_is : (o : Operation) → operand o ≡ (o.operator, placed o.operand)
unfolding tree placed form_of operand part joining arguments braced clause_seen making made_new bound_parts written
operand_is o = search (rules, declared.the_lemmas)

pub part_is : (m : More) → part m ≡ (joining m.kind, m.span)
unfolding tree placed form_of operand part joining arguments braced clause_seen making made_new bound_parts written
part_is m = search (rules, declared.the_lemmas)

pub arguments_is : (a : Args) → arguments a ≡ (arguments_of (map placed (out-Args a).items), (out-Args a).span)
unfolding tree placed form_of operand part joining arguments braced clause_seen making made_new bound_parts written
arguments_is a = search (rules, declared.the_lemmas)

pub braced_is : (b : Braces) → braced b ≡ (clauses_of (map clause_seen b.clauses), b.span)
unfolding tree placed form_of operand part joining arguments braced clause_seen making made_new bound_parts written
braced_is b = search (rules, declared.the_lemmas)

pub clause_value : (a : Expr) → clause_seen (c.Value a) ≡ e.Value (tree a)
unfolding tree placed form_of operand part joining arguments braced clause_seen making made_new bound_parts written
clause_value a = search (rules, declared.the_lemmas)

pub clause_nested : (b : Braces) → clause_seen (c.Nested b) ≡ e.Nested (braced b).0 (braced b).1
unfolding tree placed form_of operand part joining arguments braced clause_seen making made_new bound_parts written
clause_nested b = search (rules, declared.the_lemmas)

pub making_arguments : (a : Args) → making (g.Args a) ≡ e.FromArguments (arguments a).0 (arguments a).1
unfolding tree placed form_of operand part joining arguments braced clause_seen making made_new bound_parts written
making_arguments a = search (rules, declared.the_lemmas)

pub making_braces : (b : Braces) → making (g.Braces b) ≡ e.FromBraces (braced b).0 (braced b).1
unfolding tree placed form_of operand part joining arguments braced clause_seen making made_new bound_parts written
making_braces b = search (rules, declared.the_lemmas)

pub written_is : (t : TypeId) → written t ≡ e.Written (out-TypeId t).specs (out-TypeId t).ptrs (bounds_of (map bound_parts (out-TypeId t).bounds)) (out-TypeId t).span
unfolding tree placed form_of operand part joining arguments braced clause_seen making made_new bound_parts written
written_is t = search (rules, declared.the_lemmas)

pub new_is : (n : New) (at : Span) → made_new n at ≡ e.New (out-New n).specs (out-New n).stars (perhaps (option_map placed (out-New n).bound)) (making_of (option_map making (out-New n).given)) at
unfolding tree placed form_of operand part joining arguments braced clause_seen making made_new bound_parts written
new_is n at = search (rules, declared.the_lemmas)

form_number : (i : Int) (at : Span) → form_of (k.Number i) at ≡ e.Number i at
unfolding tree placed form_of operand part joining arguments braced clause_seen making made_new bound_parts written
form_number i at = search (rules, declared.the_lemmas)

pub is_number : (x : Expr) (i : Int) → x.kind ≡ k.Number i → tree x ≡ e.Number i x.extent
is_number x i h = rw (tree_by_kind x, h) (form_number i x.extent)

form_character : (c : ℤ) (at : Span) → form_of (k.Char c) at ≡ e.Character c at
unfolding tree placed form_of operand part joining arguments braced clause_seen making made_new bound_parts written
form_character c at = search (rules, declared.the_lemmas)

pub is_character : (x : Expr) (c : ℤ) → x.kind ≡ k.Char c → tree x ≡ e.Character c x.extent
is_character x c h = rw (tree_by_kind x, h) (form_character c x.extent)

form_string : (s : List (List ℕ)) (at : Span) → form_of (k.Str s) at ≡ e.String s at
unfolding tree placed form_of operand part joining arguments braced clause_seen making made_new bound_parts written
form_string s at = search (rules, declared.the_lemmas)

pub is_string : (x : Expr) (s : List (List ℕ)) → x.kind ≡ k.Str s → tree x ≡ e.String s x.extent
is_string x s h = rw (tree_by_kind x, h) (form_string s x.extent)

form_true : (at : Span) → form_of k.True at ≡ e.True at
unfolding tree placed form_of operand part joining arguments braced clause_seen making made_new bound_parts written
form_true at = search (rules, declared.the_lemmas)

pub is_true : (x : Expr) → x.kind ≡ k.True → tree x ≡ e.True x.extent
is_true x h = rw (tree_by_kind x, h) (form_true x.extent)

form_false : (at : Span) → form_of k.False at ≡ e.False at
unfolding tree placed form_of operand part joining arguments braced clause_seen making made_new bound_parts written
form_false at = search (rules, declared.the_lemmas)

pub is_false : (x : Expr) → x.kind ≡ k.False → tree x ≡ e.False x.extent
is_false x h = rw (tree_by_kind x, h) (form_false x.extent)

form_nullptr : (at : Span) → form_of k.Nullptr at ≡ e.Nullptr at
unfolding tree placed form_of operand part joining arguments braced clause_seen making made_new bound_parts written
form_nullptr at = search (rules, declared.the_lemmas)

pub is_nullptr : (x : Expr) → x.kind ≡ k.Nullptr → tree x ≡ e.Nullptr x.extent
is_nullptr x h = rw (tree_by_kind x, h) (form_nullptr x.extent)

form_this : (at : Span) → form_of k.This at ≡ e.This at
unfolding tree placed form_of operand part joining arguments braced clause_seen making made_new bound_parts written
form_this at = search (rules, declared.the_lemmas)

pub is_this : (x : Expr) → x.kind ≡ k.This → tree x ≡ e.This x.extent
is_this x h = rw (tree_by_kind x, h) (form_this x.extent)

form_paren : (a : Expr) (at : Span) → form_of (k.Paren a) at ≡ e.Paren (tree a) at
unfolding tree placed form_of operand part joining arguments braced clause_seen making made_new bound_parts written
form_paren a at = search (rules, declared.the_lemmas)

pub is_paren : (x : Expr) (a : Expr) → x.kind ≡ k.Paren a → tree x ≡ e.Paren (tree a) x.extent
is_paren x a h = rw (tree_by_kind x, h) (form_paren a x.extent)

form_name : (n : FunctionName) (at : Span) → form_of (k.Name n) at ≡ e.Name n at
unfolding tree placed form_of operand part joining arguments braced clause_seen making made_new bound_parts written
form_name n at = search (rules, declared.the_lemmas)

pub is_name : (x : Expr) (n : FunctionName) → x.kind ≡ k.Name n → tree x ≡ e.Name n x.extent
is_name x n h = rw (tree_by_kind x, h) (form_name n x.extent)

form_of_word : (t : SimpleType) (g : Given) (at : Span) → form_of (k.OfWord t g) at ≡ e.OfWord t (making g) at
unfolding tree placed form_of operand part joining arguments braced clause_seen making made_new bound_parts written
form_of_word t g at = search (rules, declared.the_lemmas)

pub is_of_word : (x : Expr) (t : SimpleType) (g : Given) → x.kind ≡ k.OfWord t g → tree x ≡ e.OfWord t (making g) x.extent
is_of_word x t g h = rw (tree_by_kind x, h) (form_of_word t g x.extent)

form_of_type : (t : TypeName) (g : Given) (at : Span) → form_of (k.OfType t g) at ≡ e.OfType t (making g) at
unfolding tree placed form_of operand part joining arguments braced clause_seen making made_new bound_parts written
form_of_type t g at = search (rules, declared.the_lemmas)

pub is_of_type : (x : Expr) (t : TypeName) (g : Given) → x.kind ≡ k.OfType t g → tree x ≡ e.OfType t (making g) x.extent
is_of_type x t g h = rw (tree_by_kind x, h) (form_of_type t g x.extent)

form_named_cast : (w : CastWord) (t : TypeId) (a : Expr) (at : Span) → form_of (k.NamedCast w t a) at ≡ e.NamedCast w (written t) (tree a) at
unfolding tree placed form_of operand part joining arguments braced clause_seen making made_new bound_parts written
form_named_cast w t a at = search (rules, declared.the_lemmas)

pub is_named_cast : (x : Expr) (w : CastWord) (t : TypeId) (a : Expr) → x.kind ≡ k.NamedCast w t a → tree x ≡ e.NamedCast w (written t) (tree a) x.extent
is_named_cast x w t a h = rw (tree_by_kind x, h) (form_named_cast w t a x.extent)

form_postfix : (a : Expr) (ms : List More) (at : Span) → form_of (k.Postfix a ms) at ≡ postfixed a.extent (tree a) (map part ms)
unfolding tree placed form_of operand part joining arguments braced clause_seen making made_new bound_parts written
form_postfix a ms at = search (rules, declared.the_lemmas)

pub is_postfix : (x : Expr) (a : Expr) (ms : List More) → x.kind ≡ k.Postfix a ms → tree x ≡ postfixed a.extent (tree a) (map part ms)
is_postfix x a ms h = rw (tree_by_kind x, h) (form_postfix a ms x.extent)

form_sizeof_expression : (a : Expr) (at : Span) → form_of (k.SizeofExpr a) at ≡ e.SizeofExpression (tree a) at
unfolding tree placed form_of operand part joining arguments braced clause_seen making made_new bound_parts written
form_sizeof_expression a at = search (rules, declared.the_lemmas)

pub is_sizeof_expression : (x : Expr) (a : Expr) → x.kind ≡ k.SizeofExpr a → tree x ≡ e.SizeofExpression (tree a) x.extent
is_sizeof_expression x a h = rw (tree_by_kind x, h) (form_sizeof_expression a x.extent)

form_prefix : (o : PrefixOp) (a : Expr) (at : Span) → form_of (k.Prefix o a) at ≡ e.Prefix o (tree a) at
unfolding tree placed form_of operand part joining arguments braced clause_seen making made_new bound_parts written
form_prefix o a at = search (rules, declared.the_lemmas)

pub is_prefix : (x : Expr) (o : PrefixOp) (a : Expr) → x.kind ≡ k.Prefix o a → tree x ≡ e.Prefix o (tree a) x.extent
is_prefix x o a h = rw (tree_by_kind x, h) (form_prefix o a x.extent)

form_sizeof_type : (t : TypeId) (at : Span) → form_of (k.SizeofType t) at ≡ e.SizeofType (written t) at
unfolding tree placed form_of operand part joining arguments braced clause_seen making made_new bound_parts written
form_sizeof_type t at = search (rules, declared.the_lemmas)

pub is_sizeof_type : (x : Expr) (t : TypeId) → x.kind ≡ k.SizeofType t → tree x ≡ e.SizeofType (written t) x.extent
is_sizeof_type x t h = rw (tree_by_kind x, h) (form_sizeof_type t x.extent)

form_alignof_type : (t : TypeId) (at : Span) → form_of (k.AlignofType t) at ≡ e.AlignofType (written t) at
unfolding tree placed form_of operand part joining arguments braced clause_seen making made_new bound_parts written
form_alignof_type t at = search (rules, declared.the_lemmas)

pub is_alignof_type : (x : Expr) (t : TypeId) → x.kind ≡ k.AlignofType t → tree x ≡ e.AlignofType (written t) x.extent
is_alignof_type x t h = rw (tree_by_kind x, h) (form_alignof_type t x.extent)

form_delete : (all : Bool) (a : Expr) (at : Span) → form_of (k.Delete all a) at ≡ e.Delete all (tree a) at
unfolding tree placed form_of operand part joining arguments braced clause_seen making made_new bound_parts written
form_delete all a at = search (rules, declared.the_lemmas)

pub is_delete : (x : Expr) (all : Bool) (a : Expr) → x.kind ≡ k.Delete all a → tree x ≡ e.Delete all (tree a) x.extent
is_delete x all a h = rw (tree_by_kind x, h) (form_delete all a x.extent)

form_new : (n : New) (at : Span) → form_of (k.New n) at ≡ made_new n at
unfolding tree placed form_of operand part joining arguments braced clause_seen making made_new bound_parts written
form_new n at = search (rules, declared.the_lemmas)

pub is_new : (x : Expr) (n : New) → x.kind ≡ k.New n → tree x ≡ made_new n x.extent
is_new x n h = rw (tree_by_kind x, h) (form_new n x.extent)

form_cast : (t : TypeId) (a : Expr) (at : Span) → form_of (k.Cast t a) at ≡ e.Cast (written t) (tree a) at
unfolding tree placed form_of operand part joining arguments braced clause_seen making made_new bound_parts written
form_cast t a at = search (rules, declared.the_lemmas)

pub is_cast : (x : Expr) (t : TypeId) (a : Expr) → x.kind ≡ k.Cast t a → tree x ≡ e.Cast (written t) (tree a) x.extent
is_cast x t a h = rw (tree_by_kind x, h) (form_cast t a x.extent)

form_chain : (a : Expr) (os : List Operation) (at : Span) → form_of (k.Chain a os) at ≡ chained a.extent (tree a) (map operand os)
unfolding tree placed form_of operand part joining arguments braced clause_seen making made_new bound_parts written
form_chain a os at = search (rules, declared.the_lemmas)

pub is_chain : (x : Expr) (a : Expr) (os : List Operation) → x.kind ≡ k.Chain a os → tree x ≡ chained a.extent (tree a) (map operand os)
is_chain x a os h = rw (tree_by_kind x, h) (form_chain a os x.extent)

form_assign : (a : Expr) (o : AssignOp) (b : Expr) (at : Span) → form_of (k.Assign a o b) at ≡ e.Assign o (tree a) (tree b) at
unfolding tree placed form_of operand part joining arguments braced clause_seen making made_new bound_parts written
form_assign a o b at = search (rules, declared.the_lemmas)

pub is_assign : (x : Expr) (a : Expr) (o : AssignOp) (b : Expr) → x.kind ≡ k.Assign a o b → tree x ≡ e.Assign o (tree a) (tree b) x.extent
is_assign x a o b h = rw (tree_by_kind x, h) (form_assign a o b x.extent)

form_conditional : (c : Expr) (a : Expr) (b : Expr) (at : Span) → form_of (k.Conditional c a b) at ≡ e.Conditional (tree c) (tree a) (tree b) at
unfolding tree placed form_of operand part joining arguments braced clause_seen making made_new bound_parts written
form_conditional c a b at = search (rules, declared.the_lemmas)

pub is_conditional : (x : Expr) (c : Expr) (a : Expr) (b : Expr) → x.kind ≡ k.Conditional c a b → tree x ≡ e.Conditional (tree c) (tree a) (tree b) x.extent
is_conditional x c a b h = rw (tree_by_kind x, h) (form_conditional c a b x.extent)

form_throw : (a : Option Expr) (at : Span) → form_of (k.Throw a) at ≡ e.Throw (perhaps (option_map placed a)) at
unfolding tree placed form_of operand part joining arguments braced clause_seen making made_new bound_parts written
form_throw a at = search (rules, declared.the_lemmas)

pub is_throw : (x : Expr) (a : Option Expr) → x.kind ≡ k.Throw a → tree x ≡ e.Throw (perhaps (option_map placed a)) x.extent
is_throw x a h = rw (tree_by_kind x, h) (form_throw a x.extent)

form_comma : (a : Expr) (bs : List Expr) (at : Span) → form_of (k.Comma a bs) at ≡ comma_list a.extent (tree a) (map placed bs)
unfolding tree placed form_of operand part joining arguments braced clause_seen making made_new bound_parts written
form_comma a bs at = search (rules, declared.the_lemmas)

pub is_comma : (x : Expr) (a : Expr) (bs : List Expr) → x.kind ≡ k.Comma a bs → tree x ≡ comma_list a.extent (tree a) (map placed bs)
is_comma x a bs h = rw (tree_by_kind x, h) (form_comma a bs x.extent)
