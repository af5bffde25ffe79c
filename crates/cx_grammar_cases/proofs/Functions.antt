-- Functions with their trees, worked out by hand from the grammar.
use Prim.Native.String.{String}
use Rattle.std.proofs.Common.{◌≡◌, List, [], ◌∷◌, map, true, false, Some, None, refl}
use Rattle.cx_tree.specs.declared.decls.Body.TheVariants as body
use Rattle.cx_tree.specs.declared.decls.DeclKind.TheVariants as d
use Rattle.cx_tree.specs.declared.decls.EntityKind.TheVariants as entities
use Rattle.cx_tree.specs.declared.decls.Tail.TheVariants as tail
use Rattle.cx_tree.specs.declared.decls.Virtual.TheVariants as virtual
use Rattle.cx_tree.specs.declared.exprs.ExprKind.TheVariants as e
use Rattle.cx_tree.specs.declared.operators.AssignOp.TheVariants as a
use Rattle.cx_tree.specs.declared.operators.BinaryOp.TheVariants as o
use Rattle.cx_tree.specs.declared.operators.Overloaded.TheVariants as v
use Rattle.cx_tree.specs.declared.specifiers.ClassKey.TheVariants as key
use Rattle.cx_tree.specs.declared.specifiers.ModifierWord.TheVariants as modifies
use Rattle.cx_tree.specs.declared.specifiers.TypeWord.TheVariants as w
use Rattle.cx_tree.specs.declared.stmts.Item.TheVariants as item
use Rattle.cx_tree.specs.declared.stmts.Returned.TheVariants as returned
use Rattle.cx_tree.specs.declared.stmts.StmtKind.TheVariants as s
use Rattle.cx_tree.specs.declared.decls.Unit.{Unit as TranslationUnit}
use Rattle.cx_grammar.specs.Reading.{many_of, many_when, others_by}
use Rattle.cx_syntax.specs.Classes.{words_a_to_c, words_d_to_i, words_l_to_r, words_in_s, words_t_to_w, brackets_and_marks, single_operators, arrows_and_assignments, comparisons_and_shifts, name_class, number_class, same_class}
use Rattle.cx_syntax.specs.Linked.{links_of}
use Rattle.cx_syntax.specs.Readers as r
use Rattle.cx_syntax_parts.specs.Readers as parts
use Rattle.cx_syntax_vars.specs.Readers as vars
use Rattle.cx_syntax_stmts.specs.Ahead as ahead
use Rattle.cx_syntax_stmts.specs.Readers as stmts
use Rattle.cx_syntax_decls.specs.Readers as decls
use Rattle.cx_grammar_cases.proofs.Words.{tree, answer, text}
use Rattle.cx_grammar_cases.proofs.Trees.{scoped, name_in, plain_name, operator_name, type_in, type_name, a_struct, an_enum, untyped, worded, named, specs, of_word, of_name, pointers, bound, unbounded, expr, name, number, paren, operator}
use Rattle.cx_grammar_cases.proofs.Declared.{param, block, function, plain_function, entity, class, decl, unit, stmt}

-- a unit and its tree
abbrev Row : Type 0
Row = String × TranslationUnit

abbrev Hold : List Row → Type 0
Hold rows = map (λ row. answer (decls.unit 4 (text row.0))) rows ≡ map (λ row. tree row.1) rows

-- heads and ends
abbrev heads_and_ends : List Row
heads_and_ends =
    ("void f ( ) { }", unit (decl (d.Entity (entity 0 (of_word w.Void) (entities.Function (plain_function (pointers [] false) (plain_name "f") [] (body.Block (block [])))))) ∷ [])) ∷
    ("int * const & f ( ) ;", unit (decl (d.Entity (entity 0 (of_word w.Int) (entities.Function (plain_function (pointers (true ∷ []) true) (plain_name "f") [] (body.Tail tail.Plain))))) ∷ [])) ∷
    ("consteval int f ( ) = delete ; inline f ( ) = default ;", unit (decl (d.Entity (entity 0 (specs (modifies.Consteval ∷ []) (worded w.Int [])) (entities.Function (plain_function (pointers [] false) (plain_name "f") [] (body.Tail tail.Delete))))) ∷ decl (d.Entity (entity 0 (specs (modifies.Inline ∷ []) untyped) (entities.Function (plain_function (pointers [] false) (plain_name "f") [] (body.Tail tail.Default))))) ∷ [])) ∷
    ("int f ( ) const ;", unit (decl (d.Entity (entity 0 (of_word w.Int) (entities.Function (function (pointers [] false) (plain_name "f") [] true 0 [] (body.Tail tail.Plain))))) ∷ [])) ∷
    ("int f ( ) noexcept ; int f ( ) noexcept ( ) ; int f ( ) noexcept ( a ) ;", unit (decl (d.Entity (entity 0 (of_word w.Int) (entities.Function (plain_function (pointers [] false) (plain_name "f") [] (body.Tail tail.Plain))))) ∷ decl (d.Entity (entity 0 (of_word w.Int) (entities.Function (plain_function (pointers [] false) (plain_name "f") [] (body.Tail tail.Plain))))) ∷ decl (d.Entity (entity 0 (of_word w.Int) (entities.Function (plain_function (pointers [] false) (plain_name "f") [] (body.Tail tail.Plain))))) ∷ [])) ∷
    ("int f ( ) noexcept ( a ( b ( c ) ) ) { }", unit (decl (d.Entity (entity 0 (of_word w.Int) (entities.Function (function (pointers [] false) (plain_name "f") [] false 2 [] (body.Block (block [])))))) ∷ [])) ∷
    ("int f ( ) const noexcept ( ( 0 ) ) override final = 0 ;", unit (decl (d.Entity (entity 0 (of_word w.Int) (entities.Function (function (pointers [] false) (plain_name "f") [] true 1 (virtual.Override ∷ virtual.Final ∷ []) (body.Tail tail.Pure))))) ∷ [])) ∷
    ("int f ( ) final { }", unit (decl (d.Entity (entity 0 (of_word w.Int) (entities.Function (function (pointers [] false) (plain_name "f") [] false 0 (virtual.Final ∷ []) (body.Block (block [])))))) ∷ [])) ∷
    ("[ [ a ( b ) ] ] static int f ( ) ;", unit (decl (d.Entity (entity 1 (specs (modifies.Static ∷ []) (worded w.Int [])) (entities.Function (plain_function (pointers [] false) (plain_name "f") [] (body.Tail tail.Plain))))) ∷ [])) ∷
    ("int final ( ) override ;", unit (decl (d.Entity (entity 0 (of_word w.Int) (entities.Function (function (pointers [] false) (plain_name "final") [] false 0 (virtual.Override ∷ []) (body.Tail tail.Plain))))) ∷ [])) ∷ []

heads_and_ends_hold : Hold heads_and_ends
unfolding words_a_to_c words_d_to_i words_l_to_r words_in_s words_t_to_w brackets_and_marks single_operators arrows_and_assignments comparisons_and_shifts name_class number_class same_class many_of many_when others_by links_of ahead.type_end r.op r.last_part r.fname r.qtype r.named r.words_type r.name_type r.specs r.star r.ptrs r.bound r.typeid r.args r.paren_args r.clause r.clauses_in r.braces r.given r.string r.paren r.word_cast r.word_made r.id_expression r.type_made r.head_kind r.head r.subscript r.member_part r.member r.more_kind r.more r.postfix r.prefix r.delete r.new_bound r.new r.alignof_type r.sizeof_type r.sizeof_expr r.sizeof r.unary r.type_cast r.cast r.chain r.assigned r.choice r.chosen r.tail r.chain_or_more r.throw r.assign r.cond r.expr r.deeper parts.soup_over parts.deeper_soup parts.tail parts.virt parts.pieces parts.attribute parts.attrs parts.noex parts.assert parts.alias parts.enumr parts.enums parts.enum_end parts.named parts.unnamed parts.scoped_enum parts.unscoped_kind parts.enum_kind parts.enum vars.specs_before vars.typedef vars.equals_value vars.init_args vars.paren_init vars.init_kind vars.init vars.name_attrs vars.var vars.vars vars.default_argument vars.param vars.params vars.declared vars.local vars.bare_local stmts.range_ahead stmts.case_label stmts.default_label stmts.label stmts.expr_stmt stmts.returned stmts.return_stmt stmts.break_stmt stmts.continue_stmt stmts.empty_stmt stmts.for_start stmts.for_steps stmts.for_range stmts.for_head stmts.block_with stmts.if_stmt stmts.while_stmt stmts.do_stmt stmts.for_stmt stmts.switch_item stmts.switch_stmt stmts.jump_stmt stmts.loop_stmt stmts.stmt_kind stmts.stmt_with stmts.behind_attrs stmts.plain_item stmts.item_with stmts.deeper decls.member_name decls.paren_params decls.body decls.function_end decls.function decls.vars_end decls.entity_kind decls.entity_end decls.entity decls.minit decls.minits decls.ctor_body decls.ctor_end decls.dtor_end decls.ctor decls.dtor decls.behind_attrs decls.member_function decls.base decls.bases decls.members decls.class_body decls.class_end decls.class_over decls.declared_member decls.member_kind decls.member_over decls.deeper_member decls.space_names decls.decls decls.space_over decls.declared decls.decl_kind decls.decl_over decls.deeper_decl decls.unit
heads_and_ends_hold = refl

-- names
abbrev names_of_all_kinds : List Row
names_of_all_kinds =
    ("int n :: S :: f ( int ) const { return 1 ; } struct S ;", unit (decl (d.Entity (entity 0 (of_word w.Int) (entities.Function (function (pointers [] false) (name_in ("n" ∷ "S" ∷ []) "f") (param 0 (of_word w.Int) (pointers [] false) None [] None ∷ []) true 0 [] (body.Block (block (item.Stmt (stmt (s.Return (Some (returned.Value (number 1))))) ∷ []))))))) ∷ decl (d.Class (class key.Struct 0 "S" None)) ∷ [])) ∷
    ("Size Size :: f ( ) ;", unit (decl (d.Entity (entity 0 (of_name (type_name "Size")) (entities.Function (plain_function (pointers [] false) (name_in ("Size" ∷ []) "f") [] (body.Tail tail.Plain))))) ∷ [])) ∷
    ("int n :: operator + ( int ) ;", unit (decl (d.Entity (entity 0 (of_word w.Int) (entities.Function (plain_function (pointers [] false) (scoped ("n" ∷ []) (operator (v.Binary o.Add))) (param 0 (of_word w.Int) (pointers [] false) None [] None ∷ []) (body.Tail tail.Plain))))) ∷ [])) ∷
    ("int operator ( ) ( ) ; int operator [ ] ( ) ; int operator -> ( ) ;", unit (decl (d.Entity (entity 0 (of_word w.Int) (entities.Function (plain_function (pointers [] false) (operator_name v.Call) [] (body.Tail tail.Plain))))) ∷ decl (d.Entity (entity 0 (of_word w.Int) (entities.Function (plain_function (pointers [] false) (operator_name v.Subscript) [] (body.Tail tail.Plain))))) ∷ decl (d.Entity (entity 0 (of_word w.Int) (entities.Function (plain_function (pointers [] false) (operator_name v.Arrow) [] (body.Tail tail.Plain))))) ∷ [])) ∷
    ("int operator ~ ( ) ; int operator ! ( ) ; int operator ++ ( ) ; int operator -- ( ) ;", unit (decl (d.Entity (entity 0 (of_word w.Int) (entities.Function (plain_function (pointers [] false) (operator_name v.Complement) [] (body.Tail tail.Plain))))) ∷ decl (d.Entity (entity 0 (of_word w.Int) (entities.Function (plain_function (pointers [] false) (operator_name v.Not) [] (body.Tail tail.Plain))))) ∷ decl (d.Entity (entity 0 (of_word w.Int) (entities.Function (plain_function (pointers [] false) (operator_name v.Increment) [] (body.Tail tail.Plain))))) ∷ decl (d.Entity (entity 0 (of_word w.Int) (entities.Function (plain_function (pointers [] false) (operator_name v.Decrement) [] (body.Tail tail.Plain))))) ∷ [])) ∷
    ("int operator = ( ) ; int operator += ( ) ; int operator <<= ( ) ; int operator |= ( ) ;", unit (decl (d.Entity (entity 0 (of_word w.Int) (entities.Function (plain_function (pointers [] false) (operator_name (v.Assign a.Plain)) [] (body.Tail tail.Plain))))) ∷ decl (d.Entity (entity 0 (of_word w.Int) (entities.Function (plain_function (pointers [] false) (operator_name (v.Assign a.Add)) [] (body.Tail tail.Plain))))) ∷ decl (d.Entity (entity 0 (of_word w.Int) (entities.Function (plain_function (pointers [] false) (operator_name (v.Assign a.ShiftLeft)) [] (body.Tail tail.Plain))))) ∷ decl (d.Entity (entity 0 (of_word w.Int) (entities.Function (plain_function (pointers [] false) (operator_name (v.Assign a.BitOr)) [] (body.Tail tail.Plain))))) ∷ [])) ∷
    ("int operator | ( ) ; int operator <= ( ) ; int operator * ( ) ; int operator & ( ) ;", unit (decl (d.Entity (entity 0 (of_word w.Int) (entities.Function (plain_function (pointers [] false) (operator_name (v.Binary o.BitOr)) [] (body.Tail tail.Plain))))) ∷ decl (d.Entity (entity 0 (of_word w.Int) (entities.Function (plain_function (pointers [] false) (operator_name (v.Binary o.LessEqual)) [] (body.Tail tail.Plain))))) ∷ decl (d.Entity (entity 0 (of_word w.Int) (entities.Function (plain_function (pointers [] false) (operator_name (v.Binary o.Multiply)) [] (body.Tail tail.Plain))))) ∷ decl (d.Entity (entity 0 (of_word w.Int) (entities.Function (plain_function (pointers [] false) (operator_name (v.Binary o.BitAnd)) [] (body.Tail tail.Plain))))) ∷ [])) ∷ []

names_of_all_kinds_hold : Hold names_of_all_kinds
unfolding words_a_to_c words_d_to_i words_l_to_r words_in_s words_t_to_w brackets_and_marks single_operators arrows_and_assignments comparisons_and_shifts name_class number_class same_class many_of many_when others_by links_of ahead.type_end r.op r.last_part r.fname r.qtype r.named r.words_type r.name_type r.specs r.star r.ptrs r.bound r.typeid r.args r.paren_args r.clause r.clauses_in r.braces r.given r.string r.paren r.word_cast r.word_made r.id_expression r.type_made r.head_kind r.head r.subscript r.member_part r.member r.more_kind r.more r.postfix r.prefix r.delete r.new_bound r.new r.alignof_type r.sizeof_type r.sizeof_expr r.sizeof r.unary r.type_cast r.cast r.chain r.assigned r.choice r.chosen r.tail r.chain_or_more r.throw r.assign r.cond r.expr r.deeper parts.soup_over parts.deeper_soup parts.tail parts.virt parts.pieces parts.attribute parts.attrs parts.noex parts.assert parts.alias parts.enumr parts.enums parts.enum_end parts.named parts.unnamed parts.scoped_enum parts.unscoped_kind parts.enum_kind parts.enum vars.specs_before vars.typedef vars.equals_value vars.init_args vars.paren_init vars.init_kind vars.init vars.name_attrs vars.var vars.vars vars.default_argument vars.param vars.params vars.declared vars.local vars.bare_local stmts.range_ahead stmts.case_label stmts.default_label stmts.label stmts.expr_stmt stmts.returned stmts.return_stmt stmts.break_stmt stmts.continue_stmt stmts.empty_stmt stmts.for_start stmts.for_steps stmts.for_range stmts.for_head stmts.block_with stmts.if_stmt stmts.while_stmt stmts.do_stmt stmts.for_stmt stmts.switch_item stmts.switch_stmt stmts.jump_stmt stmts.loop_stmt stmts.stmt_kind stmts.stmt_with stmts.behind_attrs stmts.plain_item stmts.item_with stmts.deeper decls.member_name decls.paren_params decls.body decls.function_end decls.function decls.vars_end decls.entity_kind decls.entity_end decls.entity decls.minit decls.minits decls.ctor_body decls.ctor_end decls.dtor_end decls.ctor decls.dtor decls.behind_attrs decls.member_function decls.base decls.bases decls.members decls.class_body decls.class_end decls.class_over decls.declared_member decls.member_kind decls.member_over decls.deeper_member decls.space_names decls.decls decls.space_over decls.declared decls.decl_kind decls.decl_over decls.deeper_decl decls.unit
names_of_all_kinds_hold = refl

-- parameters
abbrev parameters : List Row
parameters =
    ("int f ( int ) ;", unit (decl (d.Entity (entity 0 (of_word w.Int) (entities.Function (plain_function (pointers [] false) (plain_name "f") (param 0 (of_word w.Int) (pointers [] false) None [] None ∷ []) (body.Tail tail.Plain))))) ∷ [])) ∷
    ("int f ( Size ) ; int f ( const x ) ; int f ( const ) ;", unit (decl (d.Entity (entity 0 (of_word w.Int) (entities.Function (plain_function (pointers [] false) (plain_name "f") (param 0 (of_name (type_name "Size")) (pointers [] false) None [] None ∷ []) (body.Tail tail.Plain))))) ∷ decl (d.Entity (entity 0 (of_word w.Int) (entities.Function (plain_function (pointers [] false) (plain_name "f") (param 0 (specs (modifies.Const ∷ []) untyped) (pointers [] false) (Some "x") [] None ∷ []) (body.Tail tail.Plain))))) ∷ decl (d.Entity (entity 0 (of_word w.Int) (entities.Function (plain_function (pointers [] false) (plain_name "f") (param 0 (specs (modifies.Const ∷ []) untyped) (pointers [] false) None [] None ∷ []) (body.Tail tail.Plain))))) ∷ [])) ∷
    ("int f ( [ [ a ] ] int x ) ; int f ( [ [ a ( b ) ] ] int ) ;", unit (decl (d.Entity (entity 0 (of_word w.Int) (entities.Function (plain_function (pointers [] false) (plain_name "f") (param 0 (of_word w.Int) (pointers [] false) (Some "x") [] None ∷ []) (body.Tail tail.Plain))))) ∷ decl (d.Entity (entity 0 (of_word w.Int) (entities.Function (plain_function (pointers [] false) (plain_name "f") (param 1 (of_word w.Int) (pointers [] false) None [] None ∷ []) (body.Tail tail.Plain))))) ∷ [])) ∷
    ("int f ( int a [ 2 ] [ ] , int * = nullptr , const & q = ( 1 ) ) ;", unit (decl (d.Entity (entity 0 (of_word w.Int) (entities.Function (plain_function (pointers [] false) (plain_name "f") (param 0 (of_word w.Int) (pointers [] false) (Some "a") (bound (Some (number 2)) ∷ unbounded ∷ []) None ∷ param 0 (of_word w.Int) (pointers (false ∷ []) false) None [] (Some (expr e.Nullptr)) ∷ param 0 (specs (modifies.Const ∷ []) untyped) (pointers [] true) (Some "q") [] (Some (paren (number 1))) ∷ []) (body.Tail tail.Plain))))) ∷ [])) ∷
    ("int f ( int [ 3 ] , int * const * & x [ ] = a = b ) ;", unit (decl (d.Entity (entity 0 (of_word w.Int) (entities.Function (plain_function (pointers [] false) (plain_name "f") (param 0 (of_word w.Int) (pointers [] false) None (bound (Some (number 3)) ∷ []) None ∷ param 0 (of_word w.Int) (pointers (true ∷ false ∷ []) true) (Some "x") (unbounded ∷ []) (Some (expr (e.Assign (name "a") a.Plain (name "b")))) ∷ []) (body.Tail tail.Plain))))) ∷ [])) ∷
    ("int f ( n :: Size ) ; int f ( :: Size x ) ; int f ( struct S ) ; int f ( enum E * x ) ;", unit (decl (d.Entity (entity 0 (of_word w.Int) (entities.Function (plain_function (pointers [] false) (plain_name "f") (param 0 (of_name (type_in false ("n" ∷ []) "Size")) (pointers [] false) None [] None ∷ []) (body.Tail tail.Plain))))) ∷ decl (d.Entity (entity 0 (of_word w.Int) (entities.Function (plain_function (pointers [] false) (plain_name "f") (param 0 (of_name (type_in true [] "Size")) (pointers [] false) (Some "x") [] None ∷ []) (body.Tail tail.Plain))))) ∷ decl (d.Entity (entity 0 (of_word w.Int) (entities.Function (plain_function (pointers [] false) (plain_name "f") (param 0 (specs [] (named (Some a_struct) (type_name "S") [])) (pointers [] false) None [] None ∷ []) (body.Tail tail.Plain))))) ∷ decl (d.Entity (entity 0 (of_word w.Int) (entities.Function (plain_function (pointers [] false) (plain_name "f") (param 0 (specs [] (named (Some an_enum) (type_name "E") [])) (pointers (false ∷ []) false) (Some "x") [] None ∷ []) (body.Tail tail.Plain))))) ∷ [])) ∷
    ("int f ( const n :: Size const x , static Size & y ) ;", unit (decl (d.Entity (entity 0 (of_word w.Int) (entities.Function (plain_function (pointers [] false) (plain_name "f") (param 0 (specs (modifies.Const ∷ []) (named None (type_in false ("n" ∷ []) "Size") (modifies.Const ∷ []))) (pointers [] false) (Some "x") [] None ∷ param 0 (specs (modifies.Static ∷ []) (named None (type_name "Size") [])) (pointers [] true) (Some "y") [] None ∷ []) (body.Tail tail.Plain))))) ∷ [])) ∷
    ("int f ( const Size ) ;", unit (decl (d.Entity (entity 0 (of_word w.Int) (entities.Function (plain_function (pointers [] false) (plain_name "f") (param 0 (specs (modifies.Const ∷ []) (named None (type_name "Size") [])) (pointers [] false) None [] None ∷ []) (body.Tail tail.Plain))))) ∷ [])) ∷ []

parameters_hold : Hold parameters
unfolding words_a_to_c words_d_to_i words_l_to_r words_in_s words_t_to_w brackets_and_marks single_operators arrows_and_assignments comparisons_and_shifts name_class number_class same_class many_of many_when others_by links_of ahead.type_end r.op r.last_part r.fname r.qtype r.named r.words_type r.name_type r.specs r.star r.ptrs r.bound r.typeid r.args r.paren_args r.clause r.clauses_in r.braces r.given r.string r.paren r.word_cast r.word_made r.id_expression r.type_made r.head_kind r.head r.subscript r.member_part r.member r.more_kind r.more r.postfix r.prefix r.delete r.new_bound r.new r.alignof_type r.sizeof_type r.sizeof_expr r.sizeof r.unary r.type_cast r.cast r.chain r.assigned r.choice r.chosen r.tail r.chain_or_more r.throw r.assign r.cond r.expr r.deeper parts.soup_over parts.deeper_soup parts.tail parts.virt parts.pieces parts.attribute parts.attrs parts.noex parts.assert parts.alias parts.enumr parts.enums parts.enum_end parts.named parts.unnamed parts.scoped_enum parts.unscoped_kind parts.enum_kind parts.enum vars.specs_before vars.typedef vars.equals_value vars.init_args vars.paren_init vars.init_kind vars.init vars.name_attrs vars.var vars.vars vars.default_argument vars.param vars.params vars.declared vars.local vars.bare_local stmts.range_ahead stmts.case_label stmts.default_label stmts.label stmts.expr_stmt stmts.returned stmts.return_stmt stmts.break_stmt stmts.continue_stmt stmts.empty_stmt stmts.for_start stmts.for_steps stmts.for_range stmts.for_head stmts.block_with stmts.if_stmt stmts.while_stmt stmts.do_stmt stmts.for_stmt stmts.switch_item stmts.switch_stmt stmts.jump_stmt stmts.loop_stmt stmts.stmt_kind stmts.stmt_with stmts.behind_attrs stmts.plain_item stmts.item_with stmts.deeper decls.member_name decls.paren_params decls.body decls.function_end decls.function decls.vars_end decls.entity_kind decls.entity_end decls.entity decls.minit decls.minits decls.ctor_body decls.ctor_end decls.dtor_end decls.ctor decls.dtor decls.behind_attrs decls.member_function decls.base decls.bases decls.members decls.class_body decls.class_end decls.class_over decls.declared_member decls.member_kind decls.member_over decls.deeper_member decls.space_names decls.decls decls.space_over decls.declared decls.decl_kind decls.decl_over decls.deeper_decl decls.unit
parameters_hold = refl
