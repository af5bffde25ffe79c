-- How many levels units go deep, counted by hand ([gram], [implimits]). A unit is read at so many levels, and at none less.
use Prim.Native.String.{String}
use Rattle.std.proofs.Common.{◌≡◌, ℕ, ◌-◌, List, [], ◌∷◌, map, refl}
use Rattle.cx_base.specs.declared.rule.Rule.{Rule}
use Rattle.cx_base.specs.declared.rule.Rule.TheVariants.{Nesting}
use Rattle.cx_tree.specs.declared.decls.Unit.{Unit as TranslationUnit}
use Rattle.cx_grammar.specs.Exact.{Outcome, done, stop}
use Rattle.cx_grammar.specs.Reading.{many_of, many_when, others_by}
use Rattle.cx_syntax.specs.declared.lexeme.Lexeme.{Lexeme}
use Rattle.cx_syntax.specs.Classes.{words_a_to_c, words_d_to_i, words_l_to_r, words_in_s, words_t_to_w, brackets_and_marks, single_operators, arrows_and_assignments, comparisons_and_shifts, name_class, number_class, same_class}
use Rattle.cx_syntax.specs.Linked.{links_of}
use Rattle.cx_syntax.specs.Readers as r
use Rattle.cx_syntax_parts.specs.Readers as parts
use Rattle.cx_syntax_vars.specs.Readers as vars
use Rattle.cx_syntax_stmts.specs.Ahead as ahead
use Rattle.cx_syntax_stmts.specs.Readers as stmts
use Rattle.cx_syntax_decls.specs.Readers as decls
use Rattle.cx_grammar_cases.proofs.Words.{text}

-- a unit is read whole, or has a fault of this rule
data Told : Type 0 where
  whole : Told
  broken : Rule → Told

abbrev told_of : Outcome Lexeme TranslationUnit → Told
told_of (done tree rest) = whole
told_of (stop rule left) = broken rule

-- the unit within so many levels
abbrev told : ℕ → String → Told
told n t = told_of (decls.unit n (text t))

-- units that take no level
abbrev flat : List String
flat =
    "int a ;" ∷
    "int a = b + c * d ;" ∷
    "int a { } ;" ∷
    "int a = f ( ) ( ) ;" ∷
    "int a = sizeof ( T ) ;" ∷
    "int a = new T ( ) ;" ∷
    "int a = throw ;" ∷
    "[ [ a ] ] int x ;" ∷
    "enum E { a = 1 , b } ;" ∷
    "struct S { } ;" ∷
    "namespace n { }" ∷
    "void f ( ) noexcept ( a ) { }" ∷ []

flat_hold : map (told 0) flat ≡ map (λ t. whole) flat
unfolding words_a_to_c words_d_to_i words_l_to_r words_in_s words_t_to_w brackets_and_marks single_operators arrows_and_assignments comparisons_and_shifts name_class number_class same_class many_of many_when others_by links_of ahead.type_end r.op r.last_part r.fname r.qtype r.named r.words_type r.name_type r.specs r.star r.ptrs r.bound r.typeid r.args r.paren_args r.clause r.clauses_in r.braces r.given r.string r.paren r.word_cast r.word_made r.id_expression r.type_made r.head_kind r.head r.subscript r.member_part r.member r.more_kind r.more r.postfix r.prefix r.delete r.new_bound r.new r.alignof_type r.sizeof_type r.sizeof_expr r.sizeof r.unary r.type_cast r.cast r.chain r.assigned r.choice r.chosen r.tail r.chain_or_more r.throw r.assign r.cond r.expr r.deeper parts.soup_over parts.deeper_soup parts.tail parts.virt parts.pieces parts.attribute parts.attrs parts.noex parts.assert parts.alias parts.enumr parts.enums parts.enum_end parts.named parts.unnamed parts.scoped_enum parts.unscoped_kind parts.enum_kind parts.enum vars.specs_before vars.typedef vars.equals_value vars.init_args vars.paren_init vars.init_kind vars.init vars.name_attrs vars.var vars.vars vars.default_argument vars.param vars.params vars.declared vars.local vars.bare_local stmts.range_ahead stmts.case_label stmts.default_label stmts.label stmts.expr_stmt stmts.returned stmts.return_stmt stmts.break_stmt stmts.continue_stmt stmts.empty_stmt stmts.for_start stmts.for_steps stmts.for_range stmts.for_head stmts.block_with stmts.if_stmt stmts.while_stmt stmts.do_stmt stmts.for_stmt stmts.switch_item stmts.switch_stmt stmts.jump_stmt stmts.loop_stmt stmts.stmt_kind stmts.stmt_with stmts.behind_attrs stmts.plain_item stmts.item_with stmts.deeper decls.member_name decls.paren_params decls.body decls.function_end decls.function decls.vars_end decls.entity_kind decls.entity_end decls.entity decls.minit decls.minits decls.ctor_body decls.ctor_end decls.dtor_end decls.ctor decls.dtor decls.behind_attrs decls.member_function decls.base decls.bases decls.members decls.class_body decls.class_end decls.class_over decls.declared_member decls.member_kind decls.member_over decls.deeper_member decls.space_names decls.decls decls.space_over decls.declared decls.decl_kind decls.decl_over decls.deeper_decl decls.unit
flat_hold = refl

-- and others with how many they take
abbrev deep : List (String × ℕ)
deep =
    ("int a = ( 1 ) ;", 1) ∷
    ("int a = f ( ( 1 ) ) ;", 2) ∷
    ("int a = f ( g ( ) ) ;", 1) ∷
    ("int a = b [ c [ 1 ] ] ;", 2) ∷
    ("int a = f ( ) [ 1 ] ( 2 ) ;", 1) ∷
    ("int a = ( int ) - 1 ;", 2) ∷
    ("int a = b = c = d ;", 2) ∷
    ("int a = b ? c : d ? e : f ;", 2) ∷
    ("int a = b ? ( c ) : d ;", 2) ∷
    ("int a = { { 1 } , 2 } ;", 2) ∷
    ("int a = T { { } } ;", 1) ∷
    ("int a ( 1 ) ;", 1) ∷
    ("int a ( ( 1 ) ) ;", 2) ∷
    ("int a [ ( 1 ) ] ;", 2) ∷
    ("int a = sizeof b ;", 1) ∷
    ("int a = sizeof ( b ) ;", 2) ∷
    ("int a = new T ( 1 ) ;", 1) ∷
    ("int a = new T [ ( 1 ) ] ;", 2) ∷
    ("int a = delete b ;", 1) ∷
    ("int a = throw b ;", 1) ∷
    ("int a = static_cast < T > ( b ) ;", 1) ∷
    ("[ [ a ( b ) ] ] int x ;", 1) ∷
    ("int x [ [ a ( [ b ] ) ] ] ;", 2) ∷
    ("void f ( ) noexcept ( a ( b ) ) ;", 1) ∷
    ("int f ( int x = 1 ) ;", 1) ∷
    ("int f ( int x [ 1 ] ) ;", 1) ∷
    ("enum E { a = ( 1 ) } ;", 1) ∷
    ("static_assert ( ( 1 ) ) ;", 1) ∷
    ("using T = int [ 1 ] ;", 1) ∷
    ("namespace n { namespace m { ; } }", 2) ∷
    ("struct S { struct T { int x ; } ; } ;", 2) ∷
    ("struct S { S ( ) : a ( 1 ) { } } ;", 2) ∷
    ("struct S { ~ S ( ) { ; } } ;", 2) ∷
    ("void f ( ) { ; }", 1) ∷
    ("void f ( ) { { ; } }", 2) ∷
    ("void f ( ) { a ; }", 1) ∷
    ("void f ( ) { if ( a ) ; }", 2) ∷
    ("void f ( ) { if ( a ) ; else if ( b ) ; }", 3) ∷
    ("void f ( ) { while ( ( a ) ) ; }", 3) ∷
    ("void f ( ) { do { } while ( a ) ; }", 2) ∷
    ("void f ( ) { for ( ; ; ( a ) ) ; }", 3) ∷
    ("void f ( ) { for ( int x : a ) ; }", 2) ∷
    ("void f ( ) { switch ( a ) { case ( 1 ) : ; } }", 2) ∷
    ("void f ( ) { return ( 1 ) ; }", 2) ∷
    ("void f ( ) { return { { } } ; }", 2) ∷ []

-- so many levels are enough
deep_hold : map (λ row. told row.1 row.0) deep ≡ map (λ row. whole) deep
unfolding words_a_to_c words_d_to_i words_l_to_r words_in_s words_t_to_w brackets_and_marks single_operators arrows_and_assignments comparisons_and_shifts name_class number_class same_class many_of many_when others_by links_of ahead.type_end r.op r.last_part r.fname r.qtype r.named r.words_type r.name_type r.specs r.star r.ptrs r.bound r.typeid r.args r.paren_args r.clause r.clauses_in r.braces r.given r.string r.paren r.word_cast r.word_made r.id_expression r.type_made r.head_kind r.head r.subscript r.member_part r.member r.more_kind r.more r.postfix r.prefix r.delete r.new_bound r.new r.alignof_type r.sizeof_type r.sizeof_expr r.sizeof r.unary r.type_cast r.cast r.chain r.assigned r.choice r.chosen r.tail r.chain_or_more r.throw r.assign r.cond r.expr r.deeper parts.soup_over parts.deeper_soup parts.tail parts.virt parts.pieces parts.attribute parts.attrs parts.noex parts.assert parts.alias parts.enumr parts.enums parts.enum_end parts.named parts.unnamed parts.scoped_enum parts.unscoped_kind parts.enum_kind parts.enum vars.specs_before vars.typedef vars.equals_value vars.init_args vars.paren_init vars.init_kind vars.init vars.name_attrs vars.var vars.vars vars.default_argument vars.param vars.params vars.declared vars.local vars.bare_local stmts.range_ahead stmts.case_label stmts.default_label stmts.label stmts.expr_stmt stmts.returned stmts.return_stmt stmts.break_stmt stmts.continue_stmt stmts.empty_stmt stmts.for_start stmts.for_steps stmts.for_range stmts.for_head stmts.block_with stmts.if_stmt stmts.while_stmt stmts.do_stmt stmts.for_stmt stmts.switch_item stmts.switch_stmt stmts.jump_stmt stmts.loop_stmt stmts.stmt_kind stmts.stmt_with stmts.behind_attrs stmts.plain_item stmts.item_with stmts.deeper decls.member_name decls.paren_params decls.body decls.function_end decls.function decls.vars_end decls.entity_kind decls.entity_end decls.entity decls.minit decls.minits decls.ctor_body decls.ctor_end decls.dtor_end decls.ctor decls.dtor decls.behind_attrs decls.member_function decls.base decls.bases decls.members decls.class_body decls.class_end decls.class_over decls.declared_member decls.member_kind decls.member_over decls.deeper_member decls.space_names decls.decls decls.space_over decls.declared decls.decl_kind decls.decl_over decls.deeper_decl decls.unit
deep_hold = refl

-- and with one less there is a fault
deep_faults_hold : map (λ row. told (row.1 - 1) row.0) deep ≡ map (λ row. broken Nesting) deep
unfolding words_a_to_c words_d_to_i words_l_to_r words_in_s words_t_to_w brackets_and_marks single_operators arrows_and_assignments comparisons_and_shifts name_class number_class same_class many_of many_when others_by links_of ahead.type_end r.op r.last_part r.fname r.qtype r.named r.words_type r.name_type r.specs r.star r.ptrs r.bound r.typeid r.args r.paren_args r.clause r.clauses_in r.braces r.given r.string r.paren r.word_cast r.word_made r.id_expression r.type_made r.head_kind r.head r.subscript r.member_part r.member r.more_kind r.more r.postfix r.prefix r.delete r.new_bound r.new r.alignof_type r.sizeof_type r.sizeof_expr r.sizeof r.unary r.type_cast r.cast r.chain r.assigned r.choice r.chosen r.tail r.chain_or_more r.throw r.assign r.cond r.expr r.deeper parts.soup_over parts.deeper_soup parts.tail parts.virt parts.pieces parts.attribute parts.attrs parts.noex parts.assert parts.alias parts.enumr parts.enums parts.enum_end parts.named parts.unnamed parts.scoped_enum parts.unscoped_kind parts.enum_kind parts.enum vars.specs_before vars.typedef vars.equals_value vars.init_args vars.paren_init vars.init_kind vars.init vars.name_attrs vars.var vars.vars vars.default_argument vars.param vars.params vars.declared vars.local vars.bare_local stmts.range_ahead stmts.case_label stmts.default_label stmts.label stmts.expr_stmt stmts.returned stmts.return_stmt stmts.break_stmt stmts.continue_stmt stmts.empty_stmt stmts.for_start stmts.for_steps stmts.for_range stmts.for_head stmts.block_with stmts.if_stmt stmts.while_stmt stmts.do_stmt stmts.for_stmt stmts.switch_item stmts.switch_stmt stmts.jump_stmt stmts.loop_stmt stmts.stmt_kind stmts.stmt_with stmts.behind_attrs stmts.plain_item stmts.item_with stmts.deeper decls.member_name decls.paren_params decls.body decls.function_end decls.function decls.vars_end decls.entity_kind decls.entity_end decls.entity decls.minit decls.minits decls.ctor_body decls.ctor_end decls.dtor_end decls.ctor decls.dtor decls.behind_attrs decls.member_function decls.base decls.bases decls.members decls.class_body decls.class_end decls.class_over decls.declared_member decls.member_kind decls.member_over decls.deeper_member decls.space_names decls.decls decls.space_over decls.declared decls.decl_kind decls.decl_over decls.deeper_decl decls.unit
deep_faults_hold = refl
