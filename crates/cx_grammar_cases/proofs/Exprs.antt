-- Expressions with their trees, worked out by hand from the grammar ([expr]).
use Prim.Native.String.{String}
use Rattle.std.proofs.Common.{◌≡◌, List, [], ◌∷◌, map, true, false, Some, None, refl}
use Rattle.std.specs.Prelude.{codes}
use Rattle.cx_tree.specs.declared.operators.BinaryOp.TheVariants as o
use Rattle.cx_tree.specs.declared.operators.AssignOp.TheVariants as a
use Rattle.cx_tree.specs.declared.operators.PrefixOp.TheVariants as p
use Rattle.cx_tree.specs.declared.operators.Overloaded.TheVariants as v
use Rattle.cx_tree.specs.declared.specifiers.ModifierWord.TheVariants as modifies
use Rattle.cx_tree.specs.declared.specifiers.TypeWord.TheVariants as w
use Rattle.cx_tree.specs.declared.exprs.ExprKind.TheVariants as e
use Rattle.cx_tree.specs.declared.exprs.MoreKind.TheVariants as m
use Rattle.cx_tree.specs.declared.exprs.Reach.TheVariants as reach
use Rattle.cx_tree.specs.declared.exprs.CastWord.TheVariants as cast_word
use Rattle.cx_tree.specs.declared.exprs.Clause.TheVariants as c
use Rattle.cx_tree.specs.declared.exprs.Given.TheVariants as given
use Rattle.cx_tree.specs.declared.exprs.Expr.{Expr}
use Rattle.cx_grammar.specs.Reading.{many_of, many_when, others_by}
use Rattle.cx_syntax.specs.Classes.{words_a_to_c, words_d_to_i, words_l_to_r, words_in_s, words_t_to_w, brackets_and_marks, single_operators, arrows_and_assignments, comparisons_and_shifts, name_class, number_class, same_class}
use Rattle.cx_syntax.specs.Linked.{links_of}
use Rattle.cx_syntax.specs.Readers as r
use Rattle.cx_grammar_cases.proofs.Words.{tree, answer, text}
use Rattle.cx_grammar_cases.proofs.Trees.{ident, scoped, name_in, plain_name, operator_name, type_in, type_name, a_struct, a_class, a_union, an_enum, word, modifier, untyped, worded, named, specs, of_word, of_name, pointers, bound, unbounded, declared, type_id, expr, name, number, paren, prefix, chain, binary, cast, args, braces, new, postfix, operator, in_global, destructor_name, simple}

-- an expression and its tree
abbrev Row : Type 0
Row = String × Expr

-- within 4 levels each is read to its end, and has the tree
abbrev Hold : List Row → Type 0
Hold rows = map (λ row. answer (r.expr (r.deeper 4) (text row.0))) rows ≡ map (λ row. tree row.1) rows

-- literals and names
abbrev literals_and_names : List Row
literals_and_names =
    ("0", number 0) ∷
    ("true", expr e.True) ∷
    ("false", expr e.False) ∷
    ("nullptr", expr e.Nullptr) ∷
    ("this", expr e.This) ∷
    ("a", name "a") ∷
    (":: a", expr (e.Name (in_global (plain_name "a")))) ∷
    ("n :: T :: a", expr (e.Name (name_in ("n" ∷ "T" ∷ []) "a"))) ∷
    (":: n :: m :: a", expr (e.Name (in_global (name_in ("n" ∷ "m" ∷ []) "a")))) ∷
    ("final + override", binary o.Add (name "final") (name "override")) ∷ []

literals_and_names_hold : Hold literals_and_names
unfolding words_a_to_c words_d_to_i words_l_to_r words_in_s words_t_to_w brackets_and_marks single_operators arrows_and_assignments comparisons_and_shifts name_class number_class same_class many_of many_when others_by links_of r.op r.last_part r.fname r.qtype r.named r.words_type r.name_type r.specs r.star r.ptrs r.bound r.typeid r.args r.paren_args r.clause r.clauses_in r.braces r.given r.string r.paren r.word_cast r.word_made r.id_expression r.type_made r.head_kind r.head r.subscript r.member_part r.member r.more_kind r.more r.postfix r.prefix r.delete r.new_bound r.new r.alignof_type r.sizeof_type r.sizeof_expr r.sizeof r.unary r.type_cast r.cast r.chain r.assigned r.choice r.chosen r.tail r.chain_or_more r.throw r.assign r.cond r.expr r.deeper
literals_and_names_hold = refl

-- names of operators
abbrev names_of_operators : List Row
names_of_operators =
    ("operator +", expr (e.Name (operator_name (v.Binary o.Add)))) ∷
    ("operator ->", expr (e.Name (operator_name v.Arrow))) ∷
    ("operator ~", expr (e.Name (operator_name v.Complement))) ∷
    ("n :: operator !", expr (e.Name (scoped ("n" ∷ []) (operator v.Not)))) ∷
    (":: T :: operator --", expr (e.Name (in_global (scoped ("T" ∷ []) (operator v.Decrement))))) ∷
    ("operator =", expr (e.Name (operator_name (v.Assign a.Plain)))) ∷
    ("operator <<=", expr (e.Name (operator_name (v.Assign a.ShiftLeft)))) ∷
    ("operator ==", expr (e.Name (operator_name (v.Binary o.Equal)))) ∷
    ("operator ( )", expr (e.Name (operator_name v.Call))) ∷
    ("operator ( ) ( )", postfix (expr (e.Name (operator_name v.Call))) (m.Call (args []) ∷ [])) ∷
    ("operator [ ] [ 1 ]", postfix (expr (e.Name (operator_name v.Subscript))) (m.Subscript (number 1) ∷ [])) ∷
    ("operator - - a", binary o.Subtract (expr (e.Name (operator_name (v.Binary o.Subtract)))) (name "a")) ∷
    ("operator * * operator ++ ++", binary o.Multiply (expr (e.Name (operator_name (v.Binary o.Multiply)))) (postfix (expr (e.Name (operator_name v.Increment))) (m.Increment ∷ []))) ∷ []

names_of_operators_hold : Hold names_of_operators
unfolding words_a_to_c words_d_to_i words_l_to_r words_in_s words_t_to_w brackets_and_marks single_operators arrows_and_assignments comparisons_and_shifts name_class number_class same_class many_of many_when others_by links_of r.op r.last_part r.fname r.qtype r.named r.words_type r.name_type r.specs r.star r.ptrs r.bound r.typeid r.args r.paren_args r.clause r.clauses_in r.braces r.given r.string r.paren r.word_cast r.word_made r.id_expression r.type_made r.head_kind r.head r.subscript r.member_part r.member r.more_kind r.more r.postfix r.prefix r.delete r.new_bound r.new r.alignof_type r.sizeof_type r.sizeof_expr r.sizeof r.unary r.type_cast r.cast r.chain r.assigned r.choice r.chosen r.tail r.chain_or_more r.throw r.assign r.cond r.expr r.deeper
names_of_operators_hold = refl

-- each level from the left
abbrev each_level_from_the_left : List Row
each_level_from_the_left =
    ("a || b || c", chain (name "a") ((o.LogicalOr, name "b") ∷ (o.LogicalOr, name "c") ∷ [])) ∷
    ("a && b && c", chain (name "a") ((o.LogicalAnd, name "b") ∷ (o.LogicalAnd, name "c") ∷ [])) ∷
    ("a | b | c", chain (name "a") ((o.BitOr, name "b") ∷ (o.BitOr, name "c") ∷ [])) ∷
    ("a ^ b ^ c", chain (name "a") ((o.BitXor, name "b") ∷ (o.BitXor, name "c") ∷ [])) ∷
    ("a & b & c", chain (name "a") ((o.BitAnd, name "b") ∷ (o.BitAnd, name "c") ∷ [])) ∷
    ("a == b != c", chain (name "a") ((o.Equal, name "b") ∷ (o.NotEqual, name "c") ∷ [])) ∷
    ("a < b > c <= d >= e", chain (name "a") ((o.Less, name "b") ∷ (o.Greater, name "c") ∷ (o.LessEqual, name "d") ∷ (o.GreaterEqual, name "e") ∷ [])) ∷
    ("a << b >> c", chain (name "a") ((o.ShiftLeft, name "b") ∷ (o.ShiftRight, name "c") ∷ [])) ∷
    ("a + b - c", chain (name "a") ((o.Add, name "b") ∷ (o.Subtract, name "c") ∷ [])) ∷
    ("a * b / c % d", chain (name "a") ((o.Multiply, name "b") ∷ (o.Divide, name "c") ∷ (o.Remainder, name "d") ∷ [])) ∷
    ("a - ( b - c )", binary o.Subtract (name "a") (paren (binary o.Subtract (name "b") (name "c")))) ∷
    ("a < b > ( c )", chain (name "a") ((o.Less, name "b") ∷ (o.Greater, paren (name "c")) ∷ [])) ∷ []

each_level_from_the_left_hold : Hold each_level_from_the_left
unfolding words_a_to_c words_d_to_i words_l_to_r words_in_s words_t_to_w brackets_and_marks single_operators arrows_and_assignments comparisons_and_shifts name_class number_class same_class many_of many_when others_by links_of r.op r.last_part r.fname r.qtype r.named r.words_type r.name_type r.specs r.star r.ptrs r.bound r.typeid r.args r.paren_args r.clause r.clauses_in r.braces r.given r.string r.paren r.word_cast r.word_made r.id_expression r.type_made r.head_kind r.head r.subscript r.member_part r.member r.more_kind r.more r.postfix r.prefix r.delete r.new_bound r.new r.alignof_type r.sizeof_type r.sizeof_expr r.sizeof r.unary r.type_cast r.cast r.chain r.assigned r.choice r.chosen r.tail r.chain_or_more r.throw r.assign r.cond r.expr r.deeper
each_level_from_the_left_hold = refl

-- the order of levels
abbrev the_order_of_levels : List Row
the_order_of_levels =
    ("a || b && c | d ^ e & f == g < h << i + j * k", binary o.LogicalOr (name "a") (binary o.LogicalAnd (name "b") (binary o.BitOr (name "c") (binary o.BitXor (name "d") (binary o.BitAnd (name "e") (binary o.Equal (name "f") (binary o.Less (name "g") (binary o.ShiftLeft (name "h") (binary o.Add (name "i") (binary o.Multiply (name "j") (name "k"))))))))))) ∷
    ("k * j + i << h < g == f & e ^ d | c && b || a", binary o.LogicalOr (binary o.LogicalAnd (binary o.BitOr (binary o.BitXor (binary o.BitAnd (binary o.Equal (binary o.Less (binary o.ShiftLeft (binary o.Add (binary o.Multiply (name "k") (name "j")) (name "i")) (name "h")) (name "g")) (name "f")) (name "e")) (name "d")) (name "c")) (name "b")) (name "a")) ∷
    ("a && b || c && d", binary o.LogicalOr (binary o.LogicalAnd (name "a") (name "b")) (binary o.LogicalAnd (name "c") (name "d"))) ∷
    ("a | b && c | d", binary o.LogicalAnd (binary o.BitOr (name "a") (name "b")) (binary o.BitOr (name "c") (name "d"))) ∷
    ("a ^ b | c ^ d", binary o.BitOr (binary o.BitXor (name "a") (name "b")) (binary o.BitXor (name "c") (name "d"))) ∷
    ("a & b ^ c & d", binary o.BitXor (binary o.BitAnd (name "a") (name "b")) (binary o.BitAnd (name "c") (name "d"))) ∷
    ("a == b & c != d", binary o.BitAnd (binary o.Equal (name "a") (name "b")) (binary o.NotEqual (name "c") (name "d"))) ∷
    ("a < b == c > d", binary o.Equal (binary o.Less (name "a") (name "b")) (binary o.Greater (name "c") (name "d"))) ∷
    ("a << b < c >> d", binary o.Less (binary o.ShiftLeft (name "a") (name "b")) (binary o.ShiftRight (name "c") (name "d"))) ∷
    ("a + b << c - d", binary o.ShiftLeft (binary o.Add (name "a") (name "b")) (binary o.Subtract (name "c") (name "d"))) ∷
    ("a * b + c / d", binary o.Add (binary o.Multiply (name "a") (name "b")) (binary o.Divide (name "c") (name "d"))) ∷
    ("- a * ! b % ~ c", chain (prefix p.Minus (name "a")) ((o.Multiply, prefix p.Not (name "b")) ∷ (o.Remainder, prefix p.Complement (name "c")) ∷ [])) ∷
    ("a && ! b || c & d", binary o.LogicalOr (binary o.LogicalAnd (name "a") (prefix p.Not (name "b"))) (binary o.BitAnd (name "c") (name "d"))) ∷ []

the_order_of_levels_hold : Hold the_order_of_levels
unfolding words_a_to_c words_d_to_i words_l_to_r words_in_s words_t_to_w brackets_and_marks single_operators arrows_and_assignments comparisons_and_shifts name_class number_class same_class many_of many_when others_by links_of r.op r.last_part r.fname r.qtype r.named r.words_type r.name_type r.specs r.star r.ptrs r.bound r.typeid r.args r.paren_args r.clause r.clauses_in r.braces r.given r.string r.paren r.word_cast r.word_made r.id_expression r.type_made r.head_kind r.head r.subscript r.member_part r.member r.more_kind r.more r.postfix r.prefix r.delete r.new_bound r.new r.alignof_type r.sizeof_type r.sizeof_expr r.sizeof r.unary r.type_cast r.cast r.chain r.assigned r.choice r.chosen r.tail r.chain_or_more r.throw r.assign r.cond r.expr r.deeper
the_order_of_levels_hold = refl

-- assignments from the right
abbrev assignments_from_the_right : List Row
assignments_from_the_right =
    ("a = b", expr (e.Assign (name "a") a.Plain (name "b"))) ∷
    ("a = b += c", expr (e.Assign (name "a") a.Plain (expr (e.Assign (name "b") a.Add (name "c"))))) ∷
    ("a -= b *= c /= d", expr (e.Assign (name "a") a.Subtract (expr (e.Assign (name "b") a.Multiply (expr (e.Assign (name "c") a.Divide (name "d"))))))) ∷
    ("a %= b <<= c >>= d", expr (e.Assign (name "a") a.Remainder (expr (e.Assign (name "b") a.ShiftLeft (expr (e.Assign (name "c") a.ShiftRight (name "d"))))))) ∷
    ("a &= b ^= c |= d", expr (e.Assign (name "a") a.BitAnd (expr (e.Assign (name "b") a.BitXor (expr (e.Assign (name "c") a.BitOr (name "d"))))))) ∷
    ("a &= b |= c ^= d", expr (e.Assign (name "a") a.BitAnd (expr (e.Assign (name "b") a.BitOr (expr (e.Assign (name "c") a.BitXor (name "d"))))))) ∷
    ("a + b = c", expr (e.Assign (binary o.Add (name "a") (name "b")) a.Plain (name "c"))) ∷
    ("1 = 2 + 3", expr (e.Assign (number 1) a.Plain (binary o.Add (number 2) (number 3)))) ∷
    ("a = b ? c : d", expr (e.Assign (name "a") a.Plain (expr (e.Conditional (name "b") (name "c") (name "d"))))) ∷
    ("a = throw", expr (e.Assign (name "a") a.Plain (expr (e.Throw None)))) ∷ []

assignments_from_the_right_hold : Hold assignments_from_the_right
unfolding words_a_to_c words_d_to_i words_l_to_r words_in_s words_t_to_w brackets_and_marks single_operators arrows_and_assignments comparisons_and_shifts name_class number_class same_class many_of many_when others_by links_of r.op r.last_part r.fname r.qtype r.named r.words_type r.name_type r.specs r.star r.ptrs r.bound r.typeid r.args r.paren_args r.clause r.clauses_in r.braces r.given r.string r.paren r.word_cast r.word_made r.id_expression r.type_made r.head_kind r.head r.subscript r.member_part r.member r.more_kind r.more r.postfix r.prefix r.delete r.new_bound r.new r.alignof_type r.sizeof_type r.sizeof_expr r.sizeof r.unary r.type_cast r.cast r.chain r.assigned r.choice r.chosen r.tail r.chain_or_more r.throw r.assign r.cond r.expr r.deeper
assignments_from_the_right_hold = refl

-- conditions throws and commas
abbrev conditions_throws_and_commas : List Row
conditions_throws_and_commas =
    ("a ? b : c", expr (e.Conditional (name "a") (name "b") (name "c"))) ∷
    ("a ? b : c ? d : e", expr (e.Conditional (name "a") (name "b") (expr (e.Conditional (name "c") (name "d") (name "e"))))) ∷
    ("a ? b ? c : d : e", expr (e.Conditional (name "a") (expr (e.Conditional (name "b") (name "c") (name "d"))) (name "e"))) ∷
    ("a ? b : c = d", expr (e.Conditional (name "a") (name "b") (expr (e.Assign (name "c") a.Plain (name "d"))))) ∷
    ("a ? b = c : d", expr (e.Conditional (name "a") (expr (e.Assign (name "b") a.Plain (name "c"))) (name "d"))) ∷
    ("a ? b , c : d , e", expr (e.Comma (expr (e.Conditional (name "a") (expr (e.Comma (name "b") (name "c" ∷ []))) (name "d"))) (name "e" ∷ []))) ∷
    ("a || b ? c : d", expr (e.Conditional (binary o.LogicalOr (name "a") (name "b")) (name "c") (name "d"))) ∷
    ("a ? throw : throw b", expr (e.Conditional (name "a") (expr (e.Throw None)) (expr (e.Throw (Some (name "b")))))) ∷
    ("throw", expr (e.Throw None)) ∷
    ("throw throw a = b", expr (e.Throw (Some (expr (e.Throw (Some (expr (e.Assign (name "a") a.Plain (name "b"))))))))) ∷
    ("throw a , throw , b", expr (e.Comma (expr (e.Throw (Some (name "a")))) (expr (e.Throw None) ∷ name "b" ∷ []))) ∷
    ("a , b , c", expr (e.Comma (name "a") (name "b" ∷ name "c" ∷ []))) ∷
    ("a , ( b , c )", expr (e.Comma (name "a") (paren (expr (e.Comma (name "b") (name "c" ∷ []))) ∷ []))) ∷ []

conditions_throws_and_commas_hold : Hold conditions_throws_and_commas
unfolding words_a_to_c words_d_to_i words_l_to_r words_in_s words_t_to_w brackets_and_marks single_operators arrows_and_assignments comparisons_and_shifts name_class number_class same_class many_of many_when others_by links_of r.op r.last_part r.fname r.qtype r.named r.words_type r.name_type r.specs r.star r.ptrs r.bound r.typeid r.args r.paren_args r.clause r.clauses_in r.braces r.given r.string r.paren r.word_cast r.word_made r.id_expression r.type_made r.head_kind r.head r.subscript r.member_part r.member r.more_kind r.more r.postfix r.prefix r.delete r.new_bound r.new r.alignof_type r.sizeof_type r.sizeof_expr r.sizeof r.unary r.type_cast r.cast r.chain r.assigned r.choice r.chosen r.tail r.chain_or_more r.throw r.assign r.cond r.expr r.deeper
conditions_throws_and_commas_hold = refl

-- casts and parentheses
abbrev casts_and_parentheses : List Row
casts_and_parentheses =
    ("( ( a ) )", paren (paren (name "a"))) ∷
    ("( T ) a", cast (type_id (of_name (type_name "T"))) (name "a")) ∷
    ("( T ) ( a )", cast (type_id (of_name (type_name "T"))) (paren (name "a"))) ∷
    ("( a ) ( b )", postfix (paren (name "a")) (m.Call (args (name "b" ∷ [])) ∷ [])) ∷
    ("( T ) ( a ) ( b )", cast (type_id (of_name (type_name "T"))) (postfix (paren (name "a")) (m.Call (args (name "b" ∷ [])) ∷ []))) ∷
    ("( T ) - a", cast (type_id (of_name (type_name "T"))) (prefix p.Minus (name "a"))) ∷
    ("( a ) - b", binary o.Subtract (paren (name "a")) (name "b")) ∷
    ("( T ) ( U ) * a", cast (type_id (of_name (type_name "T"))) (cast (type_id (of_name (type_name "U"))) (prefix p.Indirection (name "a")))) ∷
    ("( T ) a * b", binary o.Multiply (cast (type_id (of_name (type_name "T"))) (name "a")) (name "b")) ∷
    ("( n :: T ) a", cast (type_id (of_name (type_in false ("n" ∷ []) "T"))) (name "a")) ∷
    ("( n :: a ) ( b )", postfix (paren (expr (e.Name (name_in ("n" ∷ []) "a")))) (m.Call (args (name "b" ∷ [])) ∷ [])) ∷
    ("( :: T :: U ) a", cast (type_id (of_name (type_in true ("T" ∷ []) "U"))) (name "a")) ∷
    ("( T :: a ) - b", binary o.Subtract (paren (expr (e.Name (name_in ("T" ∷ []) "a")))) (name "b")) ∷
    ("( T ( ) )", paren (expr (e.OfType (type_name "T") (given.Args (args []))))) ∷
    ("( T { } + int ( a ) )", paren (binary o.Add (expr (e.OfType (type_name "T") (given.Braces (braces [])))) (expr (e.OfWord (simple w.Int) (given.Args (args (name "a" ∷ []))))))) ∷ []

casts_and_parentheses_hold : Hold casts_and_parentheses
unfolding words_a_to_c words_d_to_i words_l_to_r words_in_s words_t_to_w brackets_and_marks single_operators arrows_and_assignments comparisons_and_shifts name_class number_class same_class many_of many_when others_by links_of r.op r.last_part r.fname r.qtype r.named r.words_type r.name_type r.specs r.star r.ptrs r.bound r.typeid r.args r.paren_args r.clause r.clauses_in r.braces r.given r.string r.paren r.word_cast r.word_made r.id_expression r.type_made r.head_kind r.head r.subscript r.member_part r.member r.more_kind r.more r.postfix r.prefix r.delete r.new_bound r.new r.alignof_type r.sizeof_type r.sizeof_expr r.sizeof r.unary r.type_cast r.cast r.chain r.assigned r.choice r.chosen r.tail r.chain_or_more r.throw r.assign r.cond r.expr r.deeper
casts_and_parentheses_hold = refl

-- types in casts
abbrev types_in_casts : List Row
types_in_casts =
    ("( const int ) a", cast (type_id (specs (modifies.Const ∷ []) (worded w.Int []))) (name "a")) ∷
    ("( unsigned const long int ) a", cast (type_id (specs [] (worded w.Unsigned (modifier modifies.Const ∷ word w.Long ∷ word w.Int ∷ [])))) (name "a")) ∷
    ("( const T const ) a", cast (type_id (specs (modifies.Const ∷ []) (named None (type_name "T") (modifies.Const ∷ [])))) (name "a")) ∷
    ("( static inline void ) a", cast (type_id (specs (modifies.Static ∷ modifies.Inline ∷ []) (worded w.Void []))) (name "a")) ∷
    ("( const ) a", cast (type_id (specs (modifies.Const ∷ []) untyped)) (name "a")) ∷
    ("( struct T * ) a", cast (declared (specs [] (named (Some a_struct) (type_name "T") [])) (pointers (false ∷ []) false) []) (name "a")) ∷
    ("( class T & ) a", cast (declared (specs [] (named (Some a_class) (type_name "T") [])) (pointers [] true) []) (name "a")) ∷
    ("( union n :: T ) a", cast (type_id (specs [] (named (Some a_union) (type_in false ("n" ∷ []) "T") []))) (name "a")) ∷
    ("( enum :: T ) a", cast (type_id (specs [] (named (Some an_enum) (type_in true [] "T") []))) (name "a")) ∷
    ("( int * const * * & ) a", cast (declared (of_word w.Int) (pointers (true ∷ false ∷ false ∷ []) true) []) (name "a")) ∷
    ("( int [ 3 ] [ ] ) a", cast (declared (of_word w.Int) (pointers [] false) (bound (Some (number 3)) ∷ unbounded ∷ [])) (name "a")) ∷
    ("( int [ a ? b : c ] ) d", cast (declared (of_word w.Int) (pointers [] false) (bound (Some (expr (e.Conditional (name "a") (name "b") (name "c")))) ∷ [])) (name "d")) ∷
    ("( const * ) a", cast (declared (specs (modifies.Const ∷ []) untyped) (pointers (false ∷ []) false) []) (name "a")) ∷
    ("( auto ) a", cast (type_id (of_word w.Auto)) (name "a")) ∷ []

types_in_casts_hold : Hold types_in_casts
unfolding words_a_to_c words_d_to_i words_l_to_r words_in_s words_t_to_w brackets_and_marks single_operators arrows_and_assignments comparisons_and_shifts name_class number_class same_class many_of many_when others_by links_of r.op r.last_part r.fname r.qtype r.named r.words_type r.name_type r.specs r.star r.ptrs r.bound r.typeid r.args r.paren_args r.clause r.clauses_in r.braces r.given r.string r.paren r.word_cast r.word_made r.id_expression r.type_made r.head_kind r.head r.subscript r.member_part r.member r.more_kind r.more r.postfix r.prefix r.delete r.new_bound r.new r.alignof_type r.sizeof_type r.sizeof_expr r.sizeof r.unary r.type_cast r.cast r.chain r.assigned r.choice r.chosen r.tail r.chain_or_more r.throw r.assign r.cond r.expr r.deeper
types_in_casts_hold = refl

-- operators before operands
abbrev operators_before_operands : List Row
operators_before_operands =
    ("- - a", prefix p.Minus (prefix p.Minus (name "a"))) ∷
    ("& * a", prefix p.Address (prefix p.Indirection (name "a"))) ∷
    ("! ~ + - a", prefix p.Not (prefix p.Complement (prefix p.Plus (prefix p.Minus (name "a"))))) ∷
    ("-- ++ a", prefix p.Decrement (prefix p.Increment (name "a"))) ∷
    ("++ a ++", prefix p.Increment (postfix (name "a") (m.Increment ∷ []))) ∷
    ("- a . b", prefix p.Minus (postfix (name "a") (m.Member reach.Dot (plain_name "b") ∷ []))) ∷
    ("* a [ 1 ]", prefix p.Indirection (postfix (name "a") (m.Subscript (number 1) ∷ []))) ∷
    ("* ( T ) a", prefix p.Indirection (cast (type_id (of_name (type_name "T"))) (name "a"))) ∷
    ("- sizeof a", prefix p.Minus (expr (e.SizeofExpr (name "a")))) ∷
    ("a - - b", binary o.Subtract (name "a") (prefix p.Minus (name "b"))) ∷
    ("a ++ + b", binary o.Add (postfix (name "a") (m.Increment ∷ [])) (name "b")) ∷
    ("a -- - b", binary o.Subtract (postfix (name "a") (m.Decrement ∷ [])) (name "b")) ∷
    ("a & & b", binary o.BitAnd (name "a") (prefix p.Address (name "b"))) ∷
    ("a * * b", binary o.Multiply (name "a") (prefix p.Indirection (name "b"))) ∷ []

operators_before_operands_hold : Hold operators_before_operands
unfolding words_a_to_c words_d_to_i words_l_to_r words_in_s words_t_to_w brackets_and_marks single_operators arrows_and_assignments comparisons_and_shifts name_class number_class same_class many_of many_when others_by links_of r.op r.last_part r.fname r.qtype r.named r.words_type r.name_type r.specs r.star r.ptrs r.bound r.typeid r.args r.paren_args r.clause r.clauses_in r.braces r.given r.string r.paren r.word_cast r.word_made r.id_expression r.type_made r.head_kind r.head r.subscript r.member_part r.member r.more_kind r.more r.postfix r.prefix r.delete r.new_bound r.new r.alignof_type r.sizeof_type r.sizeof_expr r.sizeof r.unary r.type_cast r.cast r.chain r.assigned r.choice r.chosen r.tail r.chain_or_more r.throw r.assign r.cond r.expr r.deeper
operators_before_operands_hold = refl

-- sizes and alignments
abbrev sizes_and_alignments : List Row
sizes_and_alignments =
    ("sizeof a", expr (e.SizeofExpr (name "a"))) ∷
    ("sizeof ( a )", expr (e.SizeofExpr (paren (name "a")))) ∷
    ("sizeof ( T )", expr (e.SizeofType (type_id (of_name (type_name "T"))))) ∷
    ("sizeof ( T ) - a", binary o.Subtract (expr (e.SizeofType (type_id (of_name (type_name "T"))))) (name "a")) ∷
    ("sizeof ( T ) * a", binary o.Multiply (expr (e.SizeofType (type_id (of_name (type_name "T"))))) (name "a")) ∷
    ("sizeof ( a ) - b", binary o.Subtract (expr (e.SizeofExpr (paren (name "a")))) (name "b")) ∷
    ("sizeof ( a ) [ 1 ]", expr (e.SizeofExpr (postfix (paren (name "a")) (m.Subscript (number 1) ∷ [])))) ∷
    ("sizeof ( T ( ) )", expr (e.SizeofExpr (paren (expr (e.OfType (type_name "T") (given.Args (args []))))))) ∷
    ("sizeof T ( a )", expr (e.SizeofExpr (expr (e.OfType (type_name "T") (given.Args (args (name "a" ∷ []))))))) ∷
    ("sizeof int { }", expr (e.SizeofExpr (expr (e.OfWord (simple w.Int) (given.Braces (braces [])))))) ∷
    ("sizeof sizeof ( T )", expr (e.SizeofExpr (expr (e.SizeofType (type_id (of_name (type_name "T"))))))) ∷
    ("sizeof - a + b", binary o.Add (expr (e.SizeofExpr (prefix p.Minus (name "a")))) (name "b")) ∷
    ("sizeof ( const T * [ 2 ] )", expr (e.SizeofType (declared (specs (modifies.Const ∷ []) (named None (type_name "T") [])) (pointers (false ∷ []) false) (bound (Some (number 2)) ∷ [])))) ∷
    ("sizeof new T", expr (e.SizeofExpr (new (of_name (type_name "T")) [] None None))) ∷
    ("alignof ( int )", expr (e.AlignofType (type_id (of_word w.Int)))) ∷
    ("alignof ( n :: T ) == 8", binary o.Equal (expr (e.AlignofType (type_id (of_name (type_in false ("n" ∷ []) "T"))))) (number 8)) ∷ []

sizes_and_alignments_hold : Hold sizes_and_alignments
unfolding words_a_to_c words_d_to_i words_l_to_r words_in_s words_t_to_w brackets_and_marks single_operators arrows_and_assignments comparisons_and_shifts name_class number_class same_class many_of many_when others_by links_of r.op r.last_part r.fname r.qtype r.named r.words_type r.name_type r.specs r.star r.ptrs r.bound r.typeid r.args r.paren_args r.clause r.clauses_in r.braces r.given r.string r.paren r.word_cast r.word_made r.id_expression r.type_made r.head_kind r.head r.subscript r.member_part r.member r.more_kind r.more r.postfix r.prefix r.delete r.new_bound r.new r.alignof_type r.sizeof_type r.sizeof_expr r.sizeof r.unary r.type_cast r.cast r.chain r.assigned r.choice r.chosen r.tail r.chain_or_more r.throw r.assign r.cond r.expr r.deeper
sizes_and_alignments_hold = refl

-- new objects
abbrev new_objects : List Row
new_objects =
    ("new T", new (of_name (type_name "T")) [] None None) ∷
    ("new T ( )", new (of_name (type_name "T")) [] None (Some (given.Args (args [])))) ∷
    ("new n :: T ( a , b )", new (of_name (type_in false ("n" ∷ []) "T")) [] None (Some (given.Args (args (name "a" ∷ name "b" ∷ []))))) ∷
    ("new T { a , b }", new (of_name (type_name "T")) [] None (Some (given.Braces (braces (c.Value (name "a") ∷ c.Value (name "b") ∷ []))))) ∷
    ("new auto ( 1 )", new (of_word w.Auto) [] None (Some (given.Args (args (number 1 ∷ []))))) ∷
    ("new const", new (specs (modifies.Const ∷ []) untyped) [] None None) ∷
    ("new const int * const *", new (specs (modifies.Const ∷ []) (worded w.Int [])) (true ∷ false ∷ []) None None) ∷
    ("new int [ a ]", new (of_word w.Int) [] (Some (name "a")) None) ∷
    ("new int [ a , b ] { 1 , 2 }", new (of_word w.Int) [] (Some (expr (e.Comma (name "a") (name "b" ∷ [])))) (Some (given.Braces (braces (c.Value (number 1) ∷ c.Value (number 2) ∷ []))))) ∷
    ("new int [ new T ] ( a )", new (of_word w.Int) [] (Some (new (of_name (type_name "T")) [] None None)) (Some (given.Args (args (name "a" ∷ []))))) ∷
    ("new T * *", new (of_name (type_name "T")) (false ∷ false ∷ []) None None) ∷ []

new_objects_hold : Hold new_objects
unfolding words_a_to_c words_d_to_i words_l_to_r words_in_s words_t_to_w brackets_and_marks single_operators arrows_and_assignments comparisons_and_shifts name_class number_class same_class many_of many_when others_by links_of r.op r.last_part r.fname r.qtype r.named r.words_type r.name_type r.specs r.star r.ptrs r.bound r.typeid r.args r.paren_args r.clause r.clauses_in r.braces r.given r.string r.paren r.word_cast r.word_made r.id_expression r.type_made r.head_kind r.head r.subscript r.member_part r.member r.more_kind r.more r.postfix r.prefix r.delete r.new_bound r.new r.alignof_type r.sizeof_type r.sizeof_expr r.sizeof r.unary r.type_cast r.cast r.chain r.assigned r.choice r.chosen r.tail r.chain_or_more r.throw r.assign r.cond r.expr r.deeper
new_objects_hold = refl

-- what follows new
abbrev what_follows_new : List Row
what_follows_new =
    ("new int ( 3 ) * 2", binary o.Multiply (new (of_word w.Int) [] None (Some (given.Args (args (number 3 ∷ []))))) (number 2)) ∷
    ("new int { } && a", binary o.LogicalAnd (new (of_word w.Int) [] None (Some (given.Braces (braces [])))) (name "a")) ∷
    ("new int ( ) & a", binary o.BitAnd (new (of_word w.Int) [] None (Some (given.Args (args [])))) (name "a")) ∷
    ("new int [ 3 ] ( ) * 2", binary o.Multiply (new (of_word w.Int) [] (Some (number 3)) (Some (given.Args (args [])))) (number 2)) ∷
    ("new int [ 3 ] + 2 * a", binary o.Add (new (of_word w.Int) [] (Some (number 3)) None) (binary o.Multiply (number 2) (name "a"))) ∷
    ("new int [ 3 ] - a & b", binary o.BitAnd (binary o.Subtract (new (of_word w.Int) [] (Some (number 3)) None) (name "a")) (name "b")) ∷
    ("new int / a * b", chain (new (of_word w.Int) [] None None) ((o.Divide, name "a") ∷ (o.Multiply, name "b") ∷ [])) ∷
    ("( new int [ 3 ] ) & a", binary o.BitAnd (paren (new (of_word w.Int) [] (Some (number 3)) None)) (name "a")) ∷
    ("a * new T", binary o.Multiply (name "a") (new (of_name (type_name "T")) [] None None)) ∷
    ("new int *= a", expr (e.Assign (new (of_word w.Int) [] None None) a.Multiply (name "a"))) ∷
    ("new int ? new T : new U", expr (e.Conditional (new (of_word w.Int) [] None None) (new (of_name (type_name "T")) [] None None) (new (of_name (type_name "U")) [] None None))) ∷
    ("- new int ( ) * a", binary o.Multiply (prefix p.Minus (new (of_word w.Int) [] None (Some (given.Args (args []))))) (name "a")) ∷ []

what_follows_new_hold : Hold what_follows_new
unfolding words_a_to_c words_d_to_i words_l_to_r words_in_s words_t_to_w brackets_and_marks single_operators arrows_and_assignments comparisons_and_shifts name_class number_class same_class many_of many_when others_by links_of r.op r.last_part r.fname r.qtype r.named r.words_type r.name_type r.specs r.star r.ptrs r.bound r.typeid r.args r.paren_args r.clause r.clauses_in r.braces r.given r.string r.paren r.word_cast r.word_made r.id_expression r.type_made r.head_kind r.head r.subscript r.member_part r.member r.more_kind r.more r.postfix r.prefix r.delete r.new_bound r.new r.alignof_type r.sizeof_type r.sizeof_expr r.sizeof r.unary r.type_cast r.cast r.chain r.assigned r.choice r.chosen r.tail r.chain_or_more r.throw r.assign r.cond r.expr r.deeper
what_follows_new_hold = refl

-- deletions
abbrev deletions : List Row
deletions =
    ("delete a", expr (e.Delete false (name "a"))) ∷
    ("delete [ ] a", expr (e.Delete true (name "a"))) ∷
    ("delete [ ] a [ 1 ]", expr (e.Delete true (postfix (name "a") (m.Subscript (number 1) ∷ [])))) ∷
    ("delete ( T * ) a", expr (e.Delete false (cast (declared (of_name (type_name "T")) (pointers (false ∷ []) false) []) (name "a")))) ∷
    ("delete delete [ ] a", expr (e.Delete false (expr (e.Delete true (name "a"))))) ∷
    ("delete a -> b , c", expr (e.Comma (expr (e.Delete false (postfix (name "a") (m.Member reach.Arrow (plain_name "b") ∷ [])))) (name "c" ∷ []))) ∷
    ("delete new T", expr (e.Delete false (new (of_name (type_name "T")) [] None None))) ∷
    ("delete - a + b", binary o.Add (expr (e.Delete false (prefix p.Minus (name "a")))) (name "b")) ∷ []

deletions_hold : Hold deletions
unfolding words_a_to_c words_d_to_i words_l_to_r words_in_s words_t_to_w brackets_and_marks single_operators arrows_and_assignments comparisons_and_shifts name_class number_class same_class many_of many_when others_by links_of r.op r.last_part r.fname r.qtype r.named r.words_type r.name_type r.specs r.star r.ptrs r.bound r.typeid r.args r.paren_args r.clause r.clauses_in r.braces r.given r.string r.paren r.word_cast r.word_made r.id_expression r.type_made r.head_kind r.head r.subscript r.member_part r.member r.more_kind r.more r.postfix r.prefix r.delete r.new_bound r.new r.alignof_type r.sizeof_type r.sizeof_expr r.sizeof r.unary r.type_cast r.cast r.chain r.assigned r.choice r.chosen r.tail r.chain_or_more r.throw r.assign r.cond r.expr r.deeper
deletions_hold = refl

-- parts behind a head
abbrev parts_behind_a_head : List Row
parts_behind_a_head =
    ("a [ b , c ]", postfix (name "a") (m.Subscript (expr (e.Comma (name "b") (name "c" ∷ []))) ∷ [])) ∷
    ("a [ 1 ] [ 2 ]", postfix (name "a") (m.Subscript (number 1) ∷ m.Subscript (number 2) ∷ [])) ∷
    ("a ( )", postfix (name "a") (m.Call (args []) ∷ [])) ∷
    ("a ( b , c )", postfix (name "a") (m.Call (args (name "b" ∷ name "c" ∷ [])) ∷ [])) ∷
    ("a ( b = c , ( d , e ) , throw )", postfix (name "a") (m.Call (args (expr (e.Assign (name "b") a.Plain (name "c")) ∷ paren (expr (e.Comma (name "d") (name "e" ∷ []))) ∷ expr (e.Throw None) ∷ [])) ∷ [])) ∷
    ("a ( ) ( )", postfix (name "a") (m.Call (args []) ∷ m.Call (args []) ∷ [])) ∷
    ("a ++ --", postfix (name "a") (m.Increment ∷ m.Decrement ∷ [])) ∷
    ("a -> b . c", postfix (name "a") (m.Member reach.Arrow (plain_name "b") ∷ m.Member reach.Dot (plain_name "c") ∷ [])) ∷
    ("a . n :: b", postfix (name "a") (m.Member reach.Dot (name_in ("n" ∷ []) "b") ∷ [])) ∷
    ("a . T :: b ( c )", postfix (name "a") (m.Member reach.Dot (name_in ("T" ∷ []) "b") ∷ m.Call (args (name "c" ∷ [])) ∷ [])) ∷
    ("a . operator + ( b )", postfix (name "a") (m.Member reach.Dot (operator_name (v.Binary o.Add)) ∷ m.Call (args (name "b" ∷ [])) ∷ [])) ∷
    ("a -> operator ( ) ( )", postfix (name "a") (m.Member reach.Arrow (operator_name v.Call) ∷ m.Call (args []) ∷ [])) ∷
    ("a . ~ T ( )", postfix (name "a") (m.Destroy reach.Dot (destructor_name "T") ∷ [])) ∷
    ("a -> ~ T ( ) ( )", postfix (name "a") (m.Destroy reach.Arrow (destructor_name "T") ∷ m.Call (args []) ∷ [])) ∷
    ("a [ b ] ( c ) . d ++", postfix (name "a") (m.Subscript (name "b") ∷ m.Call (args (name "c" ∷ [])) ∷ m.Member reach.Dot (plain_name "d") ∷ m.Increment ∷ [])) ∷ []

parts_behind_a_head_hold : Hold parts_behind_a_head
unfolding words_a_to_c words_d_to_i words_l_to_r words_in_s words_t_to_w brackets_and_marks single_operators arrows_and_assignments comparisons_and_shifts name_class number_class same_class many_of many_when others_by links_of r.op r.last_part r.fname r.qtype r.named r.words_type r.name_type r.specs r.star r.ptrs r.bound r.typeid r.args r.paren_args r.clause r.clauses_in r.braces r.given r.string r.paren r.word_cast r.word_made r.id_expression r.type_made r.head_kind r.head r.subscript r.member_part r.member r.more_kind r.more r.postfix r.prefix r.delete r.new_bound r.new r.alignof_type r.sizeof_type r.sizeof_expr r.sizeof r.unary r.type_cast r.cast r.chain r.assigned r.choice r.chosen r.tail r.chain_or_more r.throw r.assign r.cond r.expr r.deeper
parts_behind_a_head_hold = refl

-- heads
abbrev heads : List Row
heads =
    ("1 [ a ]", postfix (number 1) (m.Subscript (name "a") ∷ [])) ∷
    ("\"ab\" [ 1 ]", postfix (expr (e.Str (codes "ab" ∷ []))) (m.Subscript (number 1) ∷ [])) ∷
    ("this -> a", postfix (expr e.This) (m.Member reach.Arrow (plain_name "a") ∷ [])) ∷
    ("T ( ) . a", postfix (expr (e.OfType (type_name "T") (given.Args (args [])))) (m.Member reach.Dot (plain_name "a") ∷ [])) ∷
    ("T ( a ) ( b )", postfix (expr (e.OfType (type_name "T") (given.Args (args (name "a" ∷ []))))) (m.Call (args (name "b" ∷ [])) ∷ [])) ∷
    ("int ( a ) ++", postfix (expr (e.OfWord (simple w.Int) (given.Args (args (name "a" ∷ []))))) (m.Increment ∷ [])) ∷
    ("( a ) ++", postfix (paren (name "a")) (m.Increment ∷ [])) ∷
    (":: a ( b )", postfix (expr (e.Name (in_global (plain_name "a")))) (m.Call (args (name "b" ∷ [])) ∷ [])) ∷
    ("n :: a ( b )", postfix (expr (e.Name (name_in ("n" ∷ []) "a"))) (m.Call (args (name "b" ∷ [])) ∷ [])) ∷
    ("T :: a ( b )", postfix (expr (e.Name (name_in ("T" ∷ []) "a"))) (m.Call (args (name "b" ∷ [])) ∷ [])) ∷
    ("nullptr ( )", postfix (expr e.Nullptr) (m.Call (args []) ∷ [])) ∷ []

heads_hold : Hold heads
unfolding words_a_to_c words_d_to_i words_l_to_r words_in_s words_t_to_w brackets_and_marks single_operators arrows_and_assignments comparisons_and_shifts name_class number_class same_class many_of many_when others_by links_of r.op r.last_part r.fname r.qtype r.named r.words_type r.name_type r.specs r.star r.ptrs r.bound r.typeid r.args r.paren_args r.clause r.clauses_in r.braces r.given r.string r.paren r.word_cast r.word_made r.id_expression r.type_made r.head_kind r.head r.subscript r.member_part r.member r.more_kind r.more r.postfix r.prefix r.delete r.new_bound r.new r.alignof_type r.sizeof_type r.sizeof_expr r.sizeof r.unary r.type_cast r.cast r.chain r.assigned r.choice r.chosen r.tail r.chain_or_more r.throw r.assign r.cond r.expr r.deeper
heads_hold = refl

-- named casts
abbrev named_casts : List Row
named_casts =
    ("static_cast < T > ( a )", expr (e.NamedCast cast_word.Static (type_id (of_name (type_name "T"))) (name "a"))) ∷
    ("const_cast < const T & > ( a )", expr (e.NamedCast cast_word.Const (declared (specs (modifies.Const ∷ []) (named None (type_name "T") [])) (pointers [] true) []) (name "a"))) ∷
    ("reinterpret_cast < T * > ( a ) -> b", postfix (expr (e.NamedCast cast_word.Reinterpret (declared (of_name (type_name "T")) (pointers (false ∷ []) false) []) (name "a"))) (m.Member reach.Arrow (plain_name "b") ∷ [])) ∷
    ("static_cast < int [ a > b ] > ( c )", expr (e.NamedCast cast_word.Static (declared (of_word w.Int) (pointers [] false) (bound (Some (binary o.Greater (name "a") (name "b"))) ∷ [])) (name "c"))) ∷
    ("static_cast < :: T > ( a )", expr (e.NamedCast cast_word.Static (type_id (of_name (type_in true [] "T"))) (name "a"))) ∷
    ("static_cast < T > ( a , b )", expr (e.NamedCast cast_word.Static (type_id (of_name (type_name "T"))) (expr (e.Comma (name "a") (name "b" ∷ []))))) ∷
    ("static_cast < T > ( a ) > b", binary o.Greater (expr (e.NamedCast cast_word.Static (type_id (of_name (type_name "T"))) (name "a"))) (name "b")) ∷
    ("static_cast < const > ( a )", expr (e.NamedCast cast_word.Static (type_id (specs (modifies.Const ∷ []) untyped)) (name "a"))) ∷ []

named_casts_hold : Hold named_casts
unfolding words_a_to_c words_d_to_i words_l_to_r words_in_s words_t_to_w brackets_and_marks single_operators arrows_and_assignments comparisons_and_shifts name_class number_class same_class many_of many_when others_by links_of r.op r.last_part r.fname r.qtype r.named r.words_type r.name_type r.specs r.star r.ptrs r.bound r.typeid r.args r.paren_args r.clause r.clauses_in r.braces r.given r.string r.paren r.word_cast r.word_made r.id_expression r.type_made r.head_kind r.head r.subscript r.member_part r.member r.more_kind r.more r.postfix r.prefix r.delete r.new_bound r.new r.alignof_type r.sizeof_type r.sizeof_expr r.sizeof r.unary r.type_cast r.cast r.chain r.assigned r.choice r.chosen r.tail r.chain_or_more r.throw r.assign r.cond r.expr r.deeper
named_casts_hold = refl

-- objects of a named type
abbrev objects_of_a_named_type : List Row
objects_of_a_named_type =
    ("T ( a )", expr (e.OfType (type_name "T") (given.Args (args (name "a" ∷ []))))) ∷
    ("T ( a , T ( b ) )", expr (e.OfType (type_name "T") (given.Args (args (name "a" ∷ expr (e.OfType (type_name "T") (given.Args (args (name "b" ∷ [])))) ∷ []))))) ∷
    ("n :: T { a }", expr (e.OfType (type_in false ("n" ∷ []) "T") (given.Braces (braces (c.Value (name "a") ∷ []))))) ∷
    (":: T ( )", expr (e.OfType (type_in true [] "T") (given.Args (args [])))) ∷
    ("T :: U { }", expr (e.OfType (type_in false ("T" ∷ []) "U") (given.Braces (braces [])))) ∷
    ("unsigned ( a )", expr (e.OfWord (simple w.Unsigned) (given.Args (args (name "a" ∷ []))))) ∷
    ("auto { a }", expr (e.OfWord (simple w.Auto) (given.Braces (braces (c.Value (name "a") ∷ []))))) ∷
    ("void ( )", expr (e.OfWord (simple w.Void) (given.Args (args [])))) ∷ []

objects_of_a_named_type_hold : Hold objects_of_a_named_type
unfolding words_a_to_c words_d_to_i words_l_to_r words_in_s words_t_to_w brackets_and_marks single_operators arrows_and_assignments comparisons_and_shifts name_class number_class same_class many_of many_when others_by links_of r.op r.last_part r.fname r.qtype r.named r.words_type r.name_type r.specs r.star r.ptrs r.bound r.typeid r.args r.paren_args r.clause r.clauses_in r.braces r.given r.string r.paren r.word_cast r.word_made r.id_expression r.type_made r.head_kind r.head r.subscript r.member_part r.member r.more_kind r.more r.postfix r.prefix r.delete r.new_bound r.new r.alignof_type r.sizeof_type r.sizeof_expr r.sizeof r.unary r.type_cast r.cast r.chain r.assigned r.choice r.chosen r.tail r.chain_or_more r.throw r.assign r.cond r.expr r.deeper
objects_of_a_named_type_hold = refl

-- braced lists
abbrev braced_lists : List Row
braced_lists =
    ("T { a , }", expr (e.OfType (type_name "T") (given.Braces (braces (c.Value (name "a") ∷ []))))) ∷
    ("T { a , b }", expr (e.OfType (type_name "T") (given.Braces (braces (c.Value (name "a") ∷ c.Value (name "b") ∷ []))))) ∷
    ("T { { } , { a , } , { { b } } }", expr (e.OfType (type_name "T") (given.Braces (braces (c.Nested (braces []) ∷ c.Nested (braces (c.Value (name "a") ∷ [])) ∷ c.Nested (braces (c.Nested (braces (c.Value (name "b") ∷ [])) ∷ [])) ∷ []))))) ∷
    ("T { a = b , throw }", expr (e.OfType (type_name "T") (given.Braces (braces (c.Value (expr (e.Assign (name "a") a.Plain (name "b"))) ∷ c.Value (expr (e.Throw None)) ∷ []))))) ∷
    ("T { throw , }", expr (e.OfType (type_name "T") (given.Braces (braces (c.Value (expr (e.Throw None)) ∷ []))))) ∷
    ("T { a ? b : c }", expr (e.OfType (type_name "T") (given.Braces (braces (c.Value (expr (e.Conditional (name "a") (name "b") (name "c"))) ∷ []))))) ∷
    ("new T { { 1 } , 2 , }", new (of_name (type_name "T")) [] None (Some (given.Braces (braces (c.Nested (braces (c.Value (number 1) ∷ [])) ∷ c.Value (number 2) ∷ []))))) ∷
    ("int { T { 1 } }", expr (e.OfWord (simple w.Int) (given.Braces (braces (c.Value (expr (e.OfType (type_name "T") (given.Braces (braces (c.Value (number 1) ∷ []))))) ∷ []))))) ∷ []

braced_lists_hold : Hold braced_lists
unfolding words_a_to_c words_d_to_i words_l_to_r words_in_s words_t_to_w brackets_and_marks single_operators arrows_and_assignments comparisons_and_shifts name_class number_class same_class many_of many_when others_by links_of r.op r.last_part r.fname r.qtype r.named r.words_type r.name_type r.specs r.star r.ptrs r.bound r.typeid r.args r.paren_args r.clause r.clauses_in r.braces r.given r.string r.paren r.word_cast r.word_made r.id_expression r.type_made r.head_kind r.head r.subscript r.member_part r.member r.more_kind r.more r.postfix r.prefix r.delete r.new_bound r.new r.alignof_type r.sizeof_type r.sizeof_expr r.sizeof r.unary r.type_cast r.cast r.chain r.assigned r.choice r.chosen r.tail r.chain_or_more r.throw r.assign r.cond r.expr r.deeper
braced_lists_hold = refl
