-- Statements with their trees, worked out by hand from the grammar.
use Prim.Native.String.{String}
use Rattle.std.proofs.Common.{◌≡◌, List, [], ◌∷◌, map, true, false, Some, None, refl}
use Rattle.std.specs.Prelude.{codes}
use Rattle.cx_tree.specs.declared.decls.EnumerationKind.TheVariants as enums
use Rattle.cx_tree.specs.declared.exprs.Clause.TheVariants as c
use Rattle.cx_tree.specs.declared.exprs.ExprKind.TheVariants as e
use Rattle.cx_tree.specs.declared.exprs.Given.TheVariants as given
use Rattle.cx_tree.specs.declared.exprs.MoreKind.TheVariants as m
use Rattle.cx_tree.specs.declared.exprs.Reach.TheVariants as reach
use Rattle.cx_tree.specs.declared.operators.AssignOp.TheVariants as a
use Rattle.cx_tree.specs.declared.operators.BinaryOp.TheVariants as o
use Rattle.cx_tree.specs.declared.operators.Overloaded.TheVariants as v
use Rattle.cx_tree.specs.declared.operators.PrefixOp.TheVariants as p
use Rattle.cx_tree.specs.declared.specifiers.ModifierWord.TheVariants as modifies
use Rattle.cx_tree.specs.declared.specifiers.TypeWord.TheVariants as w
use Rattle.cx_tree.specs.declared.stmts.ForStart.TheVariants as start
use Rattle.cx_tree.specs.declared.stmts.InitKind.TheVariants as i
use Rattle.cx_tree.specs.declared.stmts.Item.TheVariants as item
use Rattle.cx_tree.specs.declared.stmts.Returned.TheVariants as returned
use Rattle.cx_tree.specs.declared.stmts.StmtKind.TheVariants as s
use Rattle.cx_tree.specs.declared.stmts.SwitchItem.TheVariants as switch
use Rattle.cx_tree.specs.declared.decls.DeclKind.TheVariants as d
use Rattle.cx_tree.specs.declared.decls.EntityKind.TheVariants as entities
use Rattle.cx_tree.specs.declared.decls.Body.TheVariants as body
use Rattle.cx_tree.specs.declared.decls.Unit.{Unit as TranslationUnit}
use Rattle.cx_tree.specs.declared.stmts.Item.{Item}
use Rattle.cx_grammar.specs.Reading.{many_of, many_when, others_by}
use Rattle.cx_syntax.specs.Classes.{words_a_to_c, words_d_to_i, words_l_to_r, words_in_s, words_t_to_w, brackets_and_marks, single_operators, arrows_and_assignments, comparisons_and_shifts, name_class, number_class, same_class}
use Rattle.cx_syntax.specs.Linked.{links_of}
use Rattle.cx_syntax.specs.Readers as r
use Rattle.cx_syntax_parts.specs.Readers as parts
use Rattle.cx_syntax_vars.specs.Readers as vars
use Rattle.cx_syntax_stmts.specs.Ahead as ahead
use Rattle.cx_syntax_stmts.specs.Readers as stmts
use Rattle.cx_syntax_decls.specs.Readers as decls
use Rattle.cx_grammar_cases.proofs.Words.{tree, answer, within, no_span}
use Rattle.cx_grammar_cases.proofs.Trees.{a_struct, an_enum, args, binary, braces, cast, expr, ident, name, name_in, named, new, number, of_name, of_word, operator_name, paren, plain_name, pointers, postfix, prefix, specs, type_id, type_in, type_name, untyped, in_global, simple}
use Rattle.cx_grammar_cases.proofs.Declared.{alias, assertion, block, case, decl, default, entity, enumeration, enumerator, initial, local, plain_function, set, stmt, stmt_with, typed, unit, unset, variable}

-- what stands in the body of a function, and its items
abbrev BodyRow : Type 0
BodyRow = String × List Item

abbrev with_body : List Item → TranslationUnit
with_body items = unit (decl (d.Entity (entity 0 (of_word w.Void) (entities.Function (plain_function (pointers [] false) (plain_name "f") [] (body.Block (block items)))))) ∷ [])

abbrev HoldInBody : List BodyRow → Type 0
HoldInBody rows = map (λ row. answer (decls.unit 4 (within "void f ( ) {" row.0 "}"))) rows ≡ map (λ row. tree (with_body row.1)) rows

-- blocks and expressions
abbrev blocks_and_expressions : List BodyRow
blocks_and_expressions =
    ("", []) ∷
    ("; { } { { } ; }", item.Stmt (stmt s.Empty) ∷ item.Stmt (stmt (s.Block (block []))) ∷ item.Stmt (stmt (s.Block (block (item.Stmt (stmt (s.Block (block []))) ∷ item.Stmt (stmt s.Empty) ∷ [])))) ∷ []) ∷
    ("a ; a = 1 , b ; a * b ;", item.Stmt (stmt (s.Expr (name "a"))) ∷ item.Stmt (stmt (s.Expr (expr (e.Comma (expr (e.Assign (name "a") a.Plain (number 1))) (name "b" ∷ []))))) ∷ item.Stmt (stmt (s.Expr (binary o.Multiply (name "a") (name "b")))) ∷ []) ∷
    ("Size { 1 } ; int { } ; n :: Size { } . x ;", item.Stmt (stmt (s.Expr (expr (e.OfType (type_name "Size") (given.Braces (braces (c.Value (number 1) ∷ []))))))) ∷ item.Stmt (stmt (s.Expr (expr (e.OfWord (simple w.Int) (given.Braces (braces [])))))) ∷ item.Stmt (stmt (s.Expr (postfix (expr (e.OfType (type_in false ("n" ∷ []) "Size") (given.Braces (braces [])))) (m.Member reach.Dot (plain_name "x") ∷ [])))) ∷ []) ∷
    ("n :: a ( ) ; Size :: b ( Size ( 1 ) ) ; :: c = 1 ;", item.Stmt (stmt (s.Expr (postfix (expr (e.Name (name_in ("n" ∷ []) "a"))) (m.Call (args []) ∷ [])))) ∷ item.Stmt (stmt (s.Expr (postfix (expr (e.Name (name_in ("Size" ∷ []) "b"))) (m.Call (args (expr (e.OfType (type_name "Size") (given.Args (args (number 1 ∷ [])))) ∷ [])) ∷ [])))) ∷ item.Stmt (stmt (s.Expr (expr (e.Assign (expr (e.Name (in_global (plain_name "c")))) a.Plain (number 1))))) ∷ []) ∷
    ("operator + ( a ) ; \"a\" ; ( Size ) a ; ( Size ( 1 ) ) ;", item.Stmt (stmt (s.Expr (postfix (expr (e.Name (operator_name (v.Binary o.Add)))) (m.Call (args (name "a" ∷ [])) ∷ [])))) ∷ item.Stmt (stmt (s.Expr (expr (e.Str (codes "a" ∷ []))))) ∷ item.Stmt (stmt (s.Expr (cast (type_id (of_name (type_name "Size"))) (name "a")))) ∷ item.Stmt (stmt (s.Expr (paren (expr (e.OfType (type_name "Size") (given.Args (args (number 1 ∷ [])))))))) ∷ []) ∷
    ("throw ; throw a ; delete [ ] a ; this -> a = b ; new int ( 1 ) ;", item.Stmt (stmt (s.Expr (expr (e.Throw None)))) ∷ item.Stmt (stmt (s.Expr (expr (e.Throw (Some (name "a")))))) ∷ item.Stmt (stmt (s.Expr (expr (e.Delete true (name "a"))))) ∷ item.Stmt (stmt (s.Expr (expr (e.Assign (postfix (expr e.This) (m.Member reach.Arrow (plain_name "a") ∷ [])) a.Plain (name "b"))))) ∷ item.Stmt (stmt (s.Expr (new (of_word w.Int) [] None (Some (given.Args (args (number 1 ∷ []))))))) ∷ []) ∷
    ("a , Size ( 1 ) ; - int ( 1 ) ;", item.Stmt (stmt (s.Expr (expr (e.Comma (name "a") (expr (e.OfType (type_name "Size") (given.Args (args (number 1 ∷ [])))) ∷ []))))) ∷ item.Stmt (stmt (s.Expr (prefix p.Minus (expr (e.OfWord (simple w.Int) (given.Args (args (number 1 ∷ [])))))))) ∷ []) ∷ []

blocks_and_expressions_hold : HoldInBody blocks_and_expressions
unfolding words_a_to_c words_d_to_i words_l_to_r words_in_s words_t_to_w brackets_and_marks single_operators arrows_and_assignments comparisons_and_shifts name_class number_class same_class many_of many_when others_by links_of ahead.type_end r.op r.last_part r.fname r.qtype r.named r.words_type r.name_type r.specs r.star r.ptrs r.bound r.typeid r.args r.paren_args r.clause r.clauses_in r.braces r.given r.string r.paren r.word_cast r.word_made r.id_expression r.type_made r.head_kind r.head r.subscript r.member_part r.member r.more_kind r.more r.postfix r.prefix r.delete r.new_bound r.new r.alignof_type r.sizeof_type r.sizeof_expr r.sizeof r.unary r.type_cast r.cast r.chain r.assigned r.choice r.chosen r.tail r.chain_or_more r.throw r.assign r.cond r.expr r.deeper parts.soup_over parts.deeper_soup parts.tail parts.virt parts.pieces parts.attribute parts.attrs parts.noex parts.assert parts.alias parts.enumr parts.enums parts.enum_end parts.named parts.unnamed parts.scoped_enum parts.unscoped_kind parts.enum_kind parts.enum vars.specs_before vars.typedef vars.equals_value vars.init_args vars.paren_init vars.init_kind vars.init vars.name_attrs vars.var vars.vars vars.default_argument vars.param vars.params vars.declared vars.local vars.bare_local stmts.range_ahead stmts.case_label stmts.default_label stmts.label stmts.expr_stmt stmts.returned stmts.return_stmt stmts.break_stmt stmts.continue_stmt stmts.empty_stmt stmts.for_start stmts.for_steps stmts.for_range stmts.for_head stmts.block_with stmts.if_stmt stmts.while_stmt stmts.do_stmt stmts.for_stmt stmts.switch_item stmts.switch_stmt stmts.jump_stmt stmts.loop_stmt stmts.stmt_kind stmts.stmt_with stmts.behind_attrs stmts.plain_item stmts.item_with stmts.deeper decls.member_name decls.paren_params decls.body decls.function_end decls.function decls.vars_end decls.entity_kind decls.entity_end decls.entity decls.minit decls.minits decls.ctor_body decls.ctor_end decls.dtor_end decls.ctor decls.dtor decls.behind_attrs decls.member_function decls.base decls.bases decls.members decls.class_body decls.class_end decls.class_over decls.declared_member decls.member_kind decls.member_over decls.deeper_member decls.space_names decls.decls decls.space_over decls.declared decls.decl_kind decls.decl_over decls.deeper_decl decls.unit
blocks_and_expressions_hold = refl

-- choices
abbrev choices : List BodyRow
choices =
    ("if ( a ) b ;", item.Stmt (stmt (s.If false (name "a") (stmt (s.Expr (name "b"))) None)) ∷ []) ∷
    ("if constexpr ( a , b ) ; else { }", item.Stmt (stmt (s.If true (expr (e.Comma (name "a") (name "b" ∷ []))) (stmt s.Empty) (Some (stmt (s.Block (block [])))))) ∷ []) ∷
    ("if ( a ) if ( b ) c ; else d ;", item.Stmt (stmt (s.If false (name "a") (stmt (s.If false (name "b") (stmt (s.Expr (name "c"))) (Some (stmt (s.Expr (name "d")))))) None)) ∷ []) ∷
    ("if ( a ) if ( b ) c ; else d ; else e ;", item.Stmt (stmt (s.If false (name "a") (stmt (s.If false (name "b") (stmt (s.Expr (name "c"))) (Some (stmt (s.Expr (name "d")))))) (Some (stmt (s.Expr (name "e")))))) ∷ []) ∷
    ("if ( a ) ; else if ( b ) ; else ;", item.Stmt (stmt (s.If false (name "a") (stmt s.Empty) (Some (stmt (s.If false (name "b") (stmt s.Empty) (Some (stmt s.Empty))))))) ∷ []) ∷
    ("if ( a ) while ( b ) if ( c ) ; else ; else ;", item.Stmt (stmt (s.If false (name "a") (stmt (s.While no_span (name "b") (stmt (s.If false (name "c") (stmt s.Empty) (Some (stmt s.Empty)))))) (Some (stmt s.Empty)))) ∷ []) ∷
    ("if ( a ) while ( b ) if ( c ) ; else ;", item.Stmt (stmt (s.If false (name "a") (stmt (s.While no_span (name "b") (stmt (s.If false (name "c") (stmt s.Empty) (Some (stmt s.Empty)))))) None)) ∷ []) ∷
    ("if ( a ) do if ( b ) ; while ( c ) ; else ;", item.Stmt (stmt (s.If false (name "a") (stmt (s.Do no_span (stmt (s.If false (name "b") (stmt s.Empty) None)) (name "c"))) (Some (stmt s.Empty)))) ∷ []) ∷
    ("if ( a ) { if ( b ) ; } else ;", item.Stmt (stmt (s.If false (name "a") (stmt (s.Block (block (item.Stmt (stmt (s.If false (name "b") (stmt s.Empty) None)) ∷ [])))) (Some (stmt s.Empty)))) ∷ []) ∷
    ("if ( a ) for ( ; ; ) if ( b ) ; else ; else ;", item.Stmt (stmt (s.If false (name "a") (stmt (s.For no_span (start.Expr None) None None (stmt (s.If false (name "b") (stmt s.Empty) (Some (stmt s.Empty)))))) (Some (stmt s.Empty)))) ∷ []) ∷
    ("if ( a ) for ( int x : b ) ; else ;", item.Stmt (stmt (s.If false (name "a") (stmt (s.ForRange no_span (of_word w.Int) (pointers [] false) (ident "x") (name "b") (stmt s.Empty))) (Some (stmt s.Empty)))) ∷ []) ∷
    ("if ( a ) switch ( b ) { if ( c ) ; } else ;", item.Stmt (stmt (s.If false (name "a") (stmt (s.Switch (name "b") (switch.Item (item.Stmt (stmt (s.If false (name "c") (stmt s.Empty) None))) ∷ []))) (Some (stmt s.Empty)))) ∷ []) ∷ []

choices_hold : HoldInBody choices
unfolding words_a_to_c words_d_to_i words_l_to_r words_in_s words_t_to_w brackets_and_marks single_operators arrows_and_assignments comparisons_and_shifts name_class number_class same_class many_of many_when others_by links_of ahead.type_end r.op r.last_part r.fname r.qtype r.named r.words_type r.name_type r.specs r.star r.ptrs r.bound r.typeid r.args r.paren_args r.clause r.clauses_in r.braces r.given r.string r.paren r.word_cast r.word_made r.id_expression r.type_made r.head_kind r.head r.subscript r.member_part r.member r.more_kind r.more r.postfix r.prefix r.delete r.new_bound r.new r.alignof_type r.sizeof_type r.sizeof_expr r.sizeof r.unary r.type_cast r.cast r.chain r.assigned r.choice r.chosen r.tail r.chain_or_more r.throw r.assign r.cond r.expr r.deeper parts.soup_over parts.deeper_soup parts.tail parts.virt parts.pieces parts.attribute parts.attrs parts.noex parts.assert parts.alias parts.enumr parts.enums parts.enum_end parts.named parts.unnamed parts.scoped_enum parts.unscoped_kind parts.enum_kind parts.enum vars.specs_before vars.typedef vars.equals_value vars.init_args vars.paren_init vars.init_kind vars.init vars.name_attrs vars.var vars.vars vars.default_argument vars.param vars.params vars.declared vars.local vars.bare_local stmts.range_ahead stmts.case_label stmts.default_label stmts.label stmts.expr_stmt stmts.returned stmts.return_stmt stmts.break_stmt stmts.continue_stmt stmts.empty_stmt stmts.for_start stmts.for_steps stmts.for_range stmts.for_head stmts.block_with stmts.if_stmt stmts.while_stmt stmts.do_stmt stmts.for_stmt stmts.switch_item stmts.switch_stmt stmts.jump_stmt stmts.loop_stmt stmts.stmt_kind stmts.stmt_with stmts.behind_attrs stmts.plain_item stmts.item_with stmts.deeper decls.member_name decls.paren_params decls.body decls.function_end decls.function decls.vars_end decls.entity_kind decls.entity_end decls.entity decls.minit decls.minits decls.ctor_body decls.ctor_end decls.dtor_end decls.ctor decls.dtor decls.behind_attrs decls.member_function decls.base decls.bases decls.members decls.class_body decls.class_end decls.class_over decls.declared_member decls.member_kind decls.member_over decls.deeper_member decls.space_names decls.decls decls.space_over decls.declared decls.decl_kind decls.decl_over decls.deeper_decl decls.unit
choices_hold = refl

-- loops
abbrev loops : List BodyRow
loops =
    ("while ( a , b ) ++ a ;", item.Stmt (stmt (s.While no_span (expr (e.Comma (name "a") (name "b" ∷ []))) (stmt (s.Expr (prefix p.Increment (name "a")))))) ∷ []) ∷
    ("do { a ; } while ( b ) ;", item.Stmt (stmt (s.Do no_span (stmt (s.Block (block (item.Stmt (stmt (s.Expr (name "a"))) ∷ [])))) (name "b"))) ∷ []) ∷
    ("do ; while ( a ) ; while ( b ) ;", item.Stmt (stmt (s.Do no_span (stmt s.Empty) (name "a"))) ∷ item.Stmt (stmt (s.While no_span (name "b") (stmt s.Empty))) ∷ []) ∷
    ("for ( ; ; ) ;", item.Stmt (stmt (s.For no_span (start.Expr None) None None (stmt s.Empty))) ∷ []) ∷
    ("for ( int i = 0 ; i < 3 ; ++ i ) a ;", item.Stmt (stmt (s.For no_span (start.Local (local 0 (of_word w.Int) (set "i" (initial (i.Equals (number 0))) ∷ []))) (Some (binary o.Less (name "i") (number 3))) (Some (prefix p.Increment (name "i"))) (stmt (s.Expr (name "a"))))) ∷ []) ∷
    ("for ( i = 0 ; ; ) ; for ( ; a ; ) ; for ( ; ; a , b ) { }", item.Stmt (stmt (s.For no_span (start.Expr (Some (expr (e.Assign (name "i") a.Plain (number 0))))) None None (stmt s.Empty))) ∷ item.Stmt (stmt (s.For no_span (start.Expr None) (Some (name "a")) None (stmt s.Empty))) ∷ item.Stmt (stmt (s.For no_span (start.Expr None) None (Some (expr (e.Comma (name "a") (name "b" ∷ [])))) (stmt (s.Block (block []))))) ∷ []) ∷
    ("for ( const i = 0 , * j ; ; ) ;", item.Stmt (stmt (s.For no_span (start.Local (local 0 (specs (modifies.Const ∷ []) untyped) (set "i" (initial (i.Equals (number 0))) ∷ variable (pointers (false ∷ []) false) "j" 0 [] None ∷ []))) None None (stmt s.Empty))) ∷ []) ∷
    ("for ( Size { } ; ; ) ; for ( n :: a ( ) ; ; ) ;", item.Stmt (stmt (s.For no_span (start.Expr (Some (expr (e.OfType (type_name "Size") (given.Braces (braces [])))))) None None (stmt s.Empty))) ∷ item.Stmt (stmt (s.For no_span (start.Expr (Some (postfix (expr (e.Name (name_in ("n" ∷ []) "a"))) (m.Call (args []) ∷ [])))) None None (stmt s.Empty))) ∷ []) ∷
    ("for ( Size i ( 1 ) ; ; ) ; for ( n :: Size i ; ; ) ;", item.Stmt (stmt (s.For no_span (start.Local (local 0 (of_name (type_name "Size")) (set "i" (initial (i.Direct (args (number 1 ∷ [])))) ∷ []))) None None (stmt s.Empty))) ∷ item.Stmt (stmt (s.For no_span (start.Local (local 0 (of_name (type_in false ("n" ∷ []) "Size")) (unset "i" ∷ []))) None None (stmt s.Empty))) ∷ []) ∷ []

loops_hold : HoldInBody loops
unfolding words_a_to_c words_d_to_i words_l_to_r words_in_s words_t_to_w brackets_and_marks single_operators arrows_and_assignments comparisons_and_shifts name_class number_class same_class many_of many_when others_by links_of ahead.type_end r.op r.last_part r.fname r.qtype r.named r.words_type r.name_type r.specs r.star r.ptrs r.bound r.typeid r.args r.paren_args r.clause r.clauses_in r.braces r.given r.string r.paren r.word_cast r.word_made r.id_expression r.type_made r.head_kind r.head r.subscript r.member_part r.member r.more_kind r.more r.postfix r.prefix r.delete r.new_bound r.new r.alignof_type r.sizeof_type r.sizeof_expr r.sizeof r.unary r.type_cast r.cast r.chain r.assigned r.choice r.chosen r.tail r.chain_or_more r.throw r.assign r.cond r.expr r.deeper parts.soup_over parts.deeper_soup parts.tail parts.virt parts.pieces parts.attribute parts.attrs parts.noex parts.assert parts.alias parts.enumr parts.enums parts.enum_end parts.named parts.unnamed parts.scoped_enum parts.unscoped_kind parts.enum_kind parts.enum vars.specs_before vars.typedef vars.equals_value vars.init_args vars.paren_init vars.init_kind vars.init vars.name_attrs vars.var vars.vars vars.default_argument vars.param vars.params vars.declared vars.local vars.bare_local stmts.range_ahead stmts.case_label stmts.default_label stmts.label stmts.expr_stmt stmts.returned stmts.return_stmt stmts.break_stmt stmts.continue_stmt stmts.empty_stmt stmts.for_start stmts.for_steps stmts.for_range stmts.for_head stmts.block_with stmts.if_stmt stmts.while_stmt stmts.do_stmt stmts.for_stmt stmts.switch_item stmts.switch_stmt stmts.jump_stmt stmts.loop_stmt stmts.stmt_kind stmts.stmt_with stmts.behind_attrs stmts.plain_item stmts.item_with stmts.deeper decls.member_name decls.paren_params decls.body decls.function_end decls.function decls.vars_end decls.entity_kind decls.entity_end decls.entity decls.minit decls.minits decls.ctor_body decls.ctor_end decls.dtor_end decls.ctor decls.dtor decls.behind_attrs decls.member_function decls.base decls.bases decls.members decls.class_body decls.class_end decls.class_over decls.declared_member decls.member_kind decls.member_over decls.deeper_member decls.space_names decls.decls decls.space_over decls.declared decls.decl_kind decls.decl_over decls.deeper_decl decls.unit
loops_hold = refl

-- loops over ranges
abbrev loops_over_ranges : List BodyRow
loops_over_ranges =
    ("for ( int x : a ) b ;", item.Stmt (stmt (s.ForRange no_span (of_word w.Int) (pointers [] false) (ident "x") (name "a") (stmt (s.Expr (name "b"))))) ∷ []) ∷
    ("for ( const Size & x : a , b ) { }", item.Stmt (stmt (s.ForRange no_span (specs (modifies.Const ∷ []) (named None (type_name "Size") [])) (pointers [] true) (ident "x") (expr (e.Comma (name "a") (name "b" ∷ []))) (stmt (s.Block (block []))))) ∷ []) ∷
    ("for ( const x : y ) ;", item.Stmt (stmt (s.ForRange no_span (specs (modifies.Const ∷ []) untyped) (pointers [] false) (ident "x") (name "y") (stmt s.Empty))) ∷ []) ∷
    ("for ( auto * const * x : y ) ;", item.Stmt (stmt (s.ForRange no_span (of_word w.Auto) (pointers (true ∷ false ∷ []) false) (ident "x") (name "y") (stmt s.Empty))) ∷ []) ∷
    ("for ( n :: Size const & x : y ) for ( struct S x : y ) ;", item.Stmt (stmt (s.ForRange no_span (specs [] (named None (type_in false ("n" ∷ []) "Size") (modifies.Const ∷ []))) (pointers [] true) (ident "x") (name "y") (stmt (s.ForRange no_span (specs [] (named (Some a_struct) (type_name "S") [])) (pointers [] false) (ident "x") (name "y") (stmt s.Empty))))) ∷ []) ∷ []

loops_over_ranges_hold : HoldInBody loops_over_ranges
unfolding words_a_to_c words_d_to_i words_l_to_r words_in_s words_t_to_w brackets_and_marks single_operators arrows_and_assignments comparisons_and_shifts name_class number_class same_class many_of many_when others_by links_of ahead.type_end r.op r.last_part r.fname r.qtype r.named r.words_type r.name_type r.specs r.star r.ptrs r.bound r.typeid r.args r.paren_args r.clause r.clauses_in r.braces r.given r.string r.paren r.word_cast r.word_made r.id_expression r.type_made r.head_kind r.head r.subscript r.member_part r.member r.more_kind r.more r.postfix r.prefix r.delete r.new_bound r.new r.alignof_type r.sizeof_type r.sizeof_expr r.sizeof r.unary r.type_cast r.cast r.chain r.assigned r.choice r.chosen r.tail r.chain_or_more r.throw r.assign r.cond r.expr r.deeper parts.soup_over parts.deeper_soup parts.tail parts.virt parts.pieces parts.attribute parts.attrs parts.noex parts.assert parts.alias parts.enumr parts.enums parts.enum_end parts.named parts.unnamed parts.scoped_enum parts.unscoped_kind parts.enum_kind parts.enum vars.specs_before vars.typedef vars.equals_value vars.init_args vars.paren_init vars.init_kind vars.init vars.name_attrs vars.var vars.vars vars.default_argument vars.param vars.params vars.declared vars.local vars.bare_local stmts.range_ahead stmts.case_label stmts.default_label stmts.label stmts.expr_stmt stmts.returned stmts.return_stmt stmts.break_stmt stmts.continue_stmt stmts.empty_stmt stmts.for_start stmts.for_steps stmts.for_range stmts.for_head stmts.block_with stmts.if_stmt stmts.while_stmt stmts.do_stmt stmts.for_stmt stmts.switch_item stmts.switch_stmt stmts.jump_stmt stmts.loop_stmt stmts.stmt_kind stmts.stmt_with stmts.behind_attrs stmts.plain_item stmts.item_with stmts.deeper decls.member_name decls.paren_params decls.body decls.function_end decls.function decls.vars_end decls.entity_kind decls.entity_end decls.entity decls.minit decls.minits decls.ctor_body decls.ctor_end decls.dtor_end decls.ctor decls.dtor decls.behind_attrs decls.member_function decls.base decls.bases decls.members decls.class_body decls.class_end decls.class_over decls.declared_member decls.member_kind decls.member_over decls.deeper_member decls.space_names decls.decls decls.space_over decls.declared decls.decl_kind decls.decl_over decls.deeper_decl decls.unit
loops_over_ranges_hold = refl

-- switches and jumps
abbrev switches_and_jumps : List BodyRow
switches_and_jumps =
    ("switch ( a ) { }", item.Stmt (stmt (s.Switch (name "a") [])) ∷ []) ∷
    ("switch ( a ) { case 1 : case 2 ? 3 : 4 : b ; break ; default : int x ; { } }", item.Stmt (stmt (s.Switch (name "a") (case (number 1) ∷ case (expr (e.Conditional (number 2) (number 3) (number 4))) ∷ switch.Item (item.Stmt (stmt (s.Expr (name "b")))) ∷ switch.Item (item.Stmt (stmt (s.Break no_span))) ∷ default ∷ switch.Item (item.Local (local 0 (of_word w.Int) (unset "x" ∷ []))) ∷ switch.Item (item.Stmt (stmt (s.Block (block [])))) ∷ []))) ∷ []) ∷
    ("switch ( a , b ) { ; switch ( c ) { default : } case 1 : }", item.Stmt (stmt (s.Switch (expr (e.Comma (name "a") (name "b" ∷ []))) (switch.Item (item.Stmt (stmt s.Empty)) ∷ switch.Item (item.Stmt (stmt (s.Switch (name "c") (default ∷ [])))) ∷ case (number 1) ∷ []))) ∷ []) ∷
    ("break ; continue ; return ;", item.Stmt (stmt (s.Break no_span)) ∷ item.Stmt (stmt (s.Continue no_span)) ∷ item.Stmt (stmt (s.Return None)) ∷ []) ∷
    ("return a , b ; return { } ; return { 1 , { 2 } } ;", item.Stmt (stmt (s.Return (Some (returned.Value (expr (e.Comma (name "a") (name "b" ∷ []))))))) ∷ item.Stmt (stmt (s.Return (Some (returned.List (braces []))))) ∷ item.Stmt (stmt (s.Return (Some (returned.List (braces (c.Value (number 1) ∷ c.Nested (braces (c.Value (number 2) ∷ [])) ∷ [])))))) ∷ []) ∷
    ("return Size ( 1 ) ; return int { } ;", item.Stmt (stmt (s.Return (Some (returned.Value (expr (e.OfType (type_name "Size") (given.Args (args (number 1 ∷ []))))))))) ∷ item.Stmt (stmt (s.Return (Some (returned.Value (expr (e.OfWord (simple w.Int) (given.Braces (braces [])))))))) ∷ []) ∷ []

switches_and_jumps_hold : HoldInBody switches_and_jumps
unfolding words_a_to_c words_d_to_i words_l_to_r words_in_s words_t_to_w brackets_and_marks single_operators arrows_and_assignments comparisons_and_shifts name_class number_class same_class many_of many_when others_by links_of ahead.type_end r.op r.last_part r.fname r.qtype r.named r.words_type r.name_type r.specs r.star r.ptrs r.bound r.typeid r.args r.paren_args r.clause r.clauses_in r.braces r.given r.string r.paren r.word_cast r.word_made r.id_expression r.type_made r.head_kind r.head r.subscript r.member_part r.member r.more_kind r.more r.postfix r.prefix r.delete r.new_bound r.new r.alignof_type r.sizeof_type r.sizeof_expr r.sizeof r.unary r.type_cast r.cast r.chain r.assigned r.choice r.chosen r.tail r.chain_or_more r.throw r.assign r.cond r.expr r.deeper parts.soup_over parts.deeper_soup parts.tail parts.virt parts.pieces parts.attribute parts.attrs parts.noex parts.assert parts.alias parts.enumr parts.enums parts.enum_end parts.named parts.unnamed parts.scoped_enum parts.unscoped_kind parts.enum_kind parts.enum vars.specs_before vars.typedef vars.equals_value vars.init_args vars.paren_init vars.init_kind vars.init vars.name_attrs vars.var vars.vars vars.default_argument vars.param vars.params vars.declared vars.local vars.bare_local stmts.range_ahead stmts.case_label stmts.default_label stmts.label stmts.expr_stmt stmts.returned stmts.return_stmt stmts.break_stmt stmts.continue_stmt stmts.empty_stmt stmts.for_start stmts.for_steps stmts.for_range stmts.for_head stmts.block_with stmts.if_stmt stmts.while_stmt stmts.do_stmt stmts.for_stmt stmts.switch_item stmts.switch_stmt stmts.jump_stmt stmts.loop_stmt stmts.stmt_kind stmts.stmt_with stmts.behind_attrs stmts.plain_item stmts.item_with stmts.deeper decls.member_name decls.paren_params decls.body decls.function_end decls.function decls.vars_end decls.entity_kind decls.entity_end decls.entity decls.minit decls.minits decls.ctor_body decls.ctor_end decls.dtor_end decls.ctor decls.dtor decls.behind_attrs decls.member_function decls.base decls.bases decls.members decls.class_body decls.class_end decls.class_over decls.declared_member decls.member_kind decls.member_over decls.deeper_member decls.space_names decls.decls decls.space_over decls.declared decls.decl_kind decls.decl_over decls.deeper_decl decls.unit
switches_and_jumps_hold = refl

-- attributes
abbrev attributes : List BodyRow
attributes =
    ("[ [ a ( b ) ] ] return ; [ [ a ] ] ;", item.Stmt (stmt_with 1 (s.Return None)) ∷ item.Stmt (stmt s.Empty) ∷ []) ∷
    ("[ [ a ( b ) ] ] if ( c ) [ [ d ( [ e ] ) ] ] ; else [ [ f ( g ) ] ] { }", item.Stmt (stmt_with 1 (s.If false (name "c") (stmt_with 2 s.Empty) (Some (stmt_with 1 (s.Block (block [])))))) ∷ []) ∷
    ("[ [ a ( b ) ] ] { } [ [ a ( { [ b ] } ) ] ] c ;", item.Stmt (stmt_with 1 (s.Block (block []))) ∷ item.Stmt (stmt_with 3 (s.Expr (name "c"))) ∷ []) ∷
    ("[ [ a ( b ) ] ] while ( c ) ; [ [ a ] ] [ [ b ( c ) ] ] do ; while ( d ) ;", item.Stmt (stmt_with 1 (s.While no_span (name "c") (stmt s.Empty))) ∷ item.Stmt (stmt_with 1 (s.Do no_span (stmt s.Empty) (name "d"))) ∷ []) ∷
    ("[ [ a ( b ) ] ] for ( ; ; ) [ [ a ( b ) ] ] break ; [ [ a ( b ) ] ] switch ( c ) { }", item.Stmt (stmt_with 1 (s.For no_span (start.Expr None) None None (stmt_with 1 (s.Break no_span)))) ∷ item.Stmt (stmt_with 1 (s.Switch (name "c") [])) ∷ []) ∷
    ("[ [ ] ] ; [ [ :: , 1 \"a\" if ] ] ;", item.Stmt (stmt s.Empty) ∷ item.Stmt (stmt s.Empty) ∷ []) ∷ []

attributes_hold : HoldInBody attributes
unfolding words_a_to_c words_d_to_i words_l_to_r words_in_s words_t_to_w brackets_and_marks single_operators arrows_and_assignments comparisons_and_shifts name_class number_class same_class many_of many_when others_by links_of ahead.type_end r.op r.last_part r.fname r.qtype r.named r.words_type r.name_type r.specs r.star r.ptrs r.bound r.typeid r.args r.paren_args r.clause r.clauses_in r.braces r.given r.string r.paren r.word_cast r.word_made r.id_expression r.type_made r.head_kind r.head r.subscript r.member_part r.member r.more_kind r.more r.postfix r.prefix r.delete r.new_bound r.new r.alignof_type r.sizeof_type r.sizeof_expr r.sizeof r.unary r.type_cast r.cast r.chain r.assigned r.choice r.chosen r.tail r.chain_or_more r.throw r.assign r.cond r.expr r.deeper parts.soup_over parts.deeper_soup parts.tail parts.virt parts.pieces parts.attribute parts.attrs parts.noex parts.assert parts.alias parts.enumr parts.enums parts.enum_end parts.named parts.unnamed parts.scoped_enum parts.unscoped_kind parts.enum_kind parts.enum vars.specs_before vars.typedef vars.equals_value vars.init_args vars.paren_init vars.init_kind vars.init vars.name_attrs vars.var vars.vars vars.default_argument vars.param vars.params vars.declared vars.local vars.bare_local stmts.range_ahead stmts.case_label stmts.default_label stmts.label stmts.expr_stmt stmts.returned stmts.return_stmt stmts.break_stmt stmts.continue_stmt stmts.empty_stmt stmts.for_start stmts.for_steps stmts.for_range stmts.for_head stmts.block_with stmts.if_stmt stmts.while_stmt stmts.do_stmt stmts.for_stmt stmts.switch_item stmts.switch_stmt stmts.jump_stmt stmts.loop_stmt stmts.stmt_kind stmts.stmt_with stmts.behind_attrs stmts.plain_item stmts.item_with stmts.deeper decls.member_name decls.paren_params decls.body decls.function_end decls.function decls.vars_end decls.entity_kind decls.entity_end decls.entity decls.minit decls.minits decls.ctor_body decls.ctor_end decls.dtor_end decls.ctor decls.dtor decls.behind_attrs decls.member_function decls.base decls.bases decls.members decls.class_body decls.class_end decls.class_over decls.declared_member decls.member_kind decls.member_over decls.deeper_member decls.space_names decls.decls decls.space_over decls.declared decls.decl_kind decls.decl_over decls.deeper_decl decls.unit
attributes_hold = refl

-- declarations in blocks
abbrev declarations_in_blocks : List BodyRow
declarations_in_blocks =
    ("static_assert ( true ) ; using T = int ; typedef int U ;", item.Assert (assertion (expr e.True) None) ∷ item.Alias (alias "T" 0 (type_id (of_word w.Int))) ∷ item.Typedef (typed (of_word w.Int) (pointers [] false) "U") ∷ []) ∷
    ("enum E { a } ; enum { } ; enum class F ; enum E x ; enum : int { } ;", item.Enum (enumeration 0 (enums.Named false (ident "E") None (Some (enumerator "a" 0 None ∷ [])))) ∷ item.Enum (enumeration 0 (enums.Unnamed None [])) ∷ item.Enum (enumeration 0 (enums.Named true (ident "F") None None)) ∷ item.Local (local 0 (specs [] (named (Some an_enum) (type_name "E") [])) (unset "x" ∷ [])) ∷ item.Enum (enumeration 0 (enums.Unnamed (Some (of_word w.Int)) [])) ∷ []) ∷ []

declarations_in_blocks_hold : HoldInBody declarations_in_blocks
unfolding words_a_to_c words_d_to_i words_l_to_r words_in_s words_t_to_w brackets_and_marks single_operators arrows_and_assignments comparisons_and_shifts name_class number_class same_class many_of many_when others_by links_of ahead.type_end r.op r.last_part r.fname r.qtype r.named r.words_type r.name_type r.specs r.star r.ptrs r.bound r.typeid r.args r.paren_args r.clause r.clauses_in r.braces r.given r.string r.paren r.word_cast r.word_made r.id_expression r.type_made r.head_kind r.head r.subscript r.member_part r.member r.more_kind r.more r.postfix r.prefix r.delete r.new_bound r.new r.alignof_type r.sizeof_type r.sizeof_expr r.sizeof r.unary r.type_cast r.cast r.chain r.assigned r.choice r.chosen r.tail r.chain_or_more r.throw r.assign r.cond r.expr r.deeper parts.soup_over parts.deeper_soup parts.tail parts.virt parts.pieces parts.attribute parts.attrs parts.noex parts.assert parts.alias parts.enumr parts.enums parts.enum_end parts.named parts.unnamed parts.scoped_enum parts.unscoped_kind parts.enum_kind parts.enum vars.specs_before vars.typedef vars.equals_value vars.init_args vars.paren_init vars.init_kind vars.init vars.name_attrs vars.var vars.vars vars.default_argument vars.param vars.params vars.declared vars.local vars.bare_local stmts.range_ahead stmts.case_label stmts.default_label stmts.label stmts.expr_stmt stmts.returned stmts.return_stmt stmts.break_stmt stmts.continue_stmt stmts.empty_stmt stmts.for_start stmts.for_steps stmts.for_range stmts.for_head stmts.block_with stmts.if_stmt stmts.while_stmt stmts.do_stmt stmts.for_stmt stmts.switch_item stmts.switch_stmt stmts.jump_stmt stmts.loop_stmt stmts.stmt_kind stmts.stmt_with stmts.behind_attrs stmts.plain_item stmts.item_with stmts.deeper decls.member_name decls.paren_params decls.body decls.function_end decls.function decls.vars_end decls.entity_kind decls.entity_end decls.entity decls.minit decls.minits decls.ctor_body decls.ctor_end decls.dtor_end decls.ctor decls.dtor decls.behind_attrs decls.member_function decls.base decls.bases decls.members decls.class_body decls.class_end decls.class_over decls.declared_member decls.member_kind decls.member_over decls.deeper_member decls.space_names decls.decls decls.space_over decls.declared decls.decl_kind decls.decl_over decls.deeper_decl decls.unit
declarations_in_blocks_hold = refl
