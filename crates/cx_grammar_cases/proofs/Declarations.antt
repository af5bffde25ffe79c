-- Namespaces and short declarations with their trees, worked out by hand from the grammar.
use Prim.Native.String.{String}
use Rattle.std.proofs.Common.{◌≡◌, List, [], ◌∷◌, map, true, false, Some, None, refl}
use Rattle.std.specs.Prelude.{codes}
use Rattle.cx_tree.specs.declared.decls.Body.TheVariants as body
use Rattle.cx_tree.specs.declared.decls.DeclKind.TheVariants as d
use Rattle.cx_tree.specs.declared.decls.EntityKind.TheVariants as entities
use Rattle.cx_tree.specs.declared.decls.EnumerationKind.TheVariants as enums
use Rattle.cx_tree.specs.declared.decls.Tail.TheVariants as tail
use Rattle.cx_tree.specs.declared.exprs.ExprKind.TheVariants as e
use Rattle.cx_tree.specs.declared.operators.BinaryOp.TheVariants as o
use Rattle.cx_tree.specs.declared.specifiers.ModifierWord.TheVariants as modifies
use Rattle.cx_tree.specs.declared.specifiers.TypeWord.TheVariants as w
use Rattle.cx_tree.specs.declared.stmts.InitKind.TheVariants as i
use Rattle.cx_tree.specs.declared.decls.Unit.{Unit as TranslationUnit}
use Rattle.cx_grammar.specs.Reading.{many_of, many_when, others_by}
use Rattle.cx_syntax.specs.Classes.{words_a_to_c, words_d_to_i, words_l_to_r, words_in_s, words_t_to_w, brackets_and_marks, single_operators, arrows_and_assignments, comparisons_and_shifts, name_class, number_class, same_class}
use Rattle.cx_syntax.specs.Linked.{links_of}
use Rattle.cx_syntax.specs.Readers as r
use Rattle.cx_syntax_parts.specs.Readers as parts
use Rattle.cx_syntax_vars.specs.Readers as vars
use Rattle.cx_syntax_stmts.specs.Ahead as ahead
use Rattle.cx_syntax_stmts.specs.Readers as stmts
use Rattle.cx_syntax_decls.specs.Readers as decls
use Rattle.cx_grammar_cases.proofs.Words.{tree, answer, text}
use Rattle.cx_grammar_cases.proofs.Trees.{ident, plain_name, type_in, type_name, a_struct, a_class, an_enum, word, modifier, untyped, worded, named, specs, of_word, of_name, pointers, bound, unbounded, declared, type_id, expr, name, number, binary, braces}
use Rattle.cx_grammar_cases.proofs.Declared.{initial, unset, set, plain_function, entity, assertion, alias, typed, enumerator, enumeration, decl, space, unit}

-- a unit and its tree
abbrev Row : Type 0
Row = String × TranslationUnit

abbrev Hold : List Row → Type 0
Hold rows = map (λ row. answer (decls.unit 4 (text row.0))) rows ≡ map (λ row. tree row.1) rows

-- namespaces
abbrev namespaces : List Row
namespaces =
    ("", unit []) ∷
    (";", unit (decl d.Empty ∷ [])) ∷
    ("; ;", unit (decl d.Empty ∷ decl d.Empty ∷ [])) ∷
    ("namespace n { }", unit (decl (d.Namespace (space 0 ("n" ∷ []) [])) ∷ [])) ∷
    ("namespace a :: b :: c { ; int x ; }", unit (decl (d.Namespace (space 0 ("a" ∷ "b" ∷ "c" ∷ []) (decl d.Empty ∷ decl (d.Entity (entity 0 (of_word w.Int) (entities.Vars (unset "x" ∷ [])))) ∷ []))) ∷ [])) ∷
    ("namespace [ [ a ] ] n { }", unit (decl (d.Namespace (space 0 ("n" ∷ []) [])) ∷ [])) ∷
    ("namespace [ [ a ( b ) ] ] [ [ c ] ] n { ; }", unit (decl (d.Namespace (space 1 ("n" ∷ []) (decl d.Empty ∷ []))) ∷ [])) ∷
    ("namespace n { namespace m { ; } } ;", unit (decl (d.Namespace (space 0 ("n" ∷ []) (decl (d.Namespace (space 0 ("m" ∷ []) (decl d.Empty ∷ []))) ∷ []))) ∷ decl d.Empty ∷ [])) ∷ []

namespaces_hold : Hold namespaces
unfolding words_a_to_c words_d_to_i words_l_to_r words_in_s words_t_to_w brackets_and_marks single_operators arrows_and_assignments comparisons_and_shifts name_class number_class same_class many_of many_when others_by links_of ahead.type_end r.op r.last_part r.fname r.qtype r.named r.words_type r.name_type r.specs r.star r.ptrs r.bound r.typeid r.args r.paren_args r.clause r.clauses_in r.braces r.given r.string r.paren r.word_cast r.word_made r.id_expression r.type_made r.head_kind r.head r.subscript r.member_part r.member r.more_kind r.more r.postfix r.prefix r.delete r.new_bound r.new r.alignof_type r.sizeof_type r.sizeof_expr r.sizeof r.unary r.type_cast r.cast r.chain r.assigned r.choice r.chosen r.tail r.chain_or_more r.throw r.assign r.cond r.expr r.deeper parts.soup_over parts.deeper_soup parts.tail parts.virt parts.pieces parts.attribute parts.attrs parts.noex parts.assert parts.alias parts.enumr parts.enums parts.enum_end parts.named parts.unnamed parts.scoped_enum parts.unscoped_kind parts.enum_kind parts.enum vars.specs_before vars.typedef vars.equals_value vars.init_args vars.paren_init vars.init_kind vars.init vars.name_attrs vars.var vars.vars vars.default_argument vars.param vars.params vars.declared vars.local vars.bare_local stmts.range_ahead stmts.case_label stmts.default_label stmts.label stmts.expr_stmt stmts.returned stmts.return_stmt stmts.break_stmt stmts.continue_stmt stmts.empty_stmt stmts.for_start stmts.for_steps stmts.for_range stmts.for_head stmts.block_with stmts.if_stmt stmts.while_stmt stmts.do_stmt stmts.for_stmt stmts.switch_item stmts.switch_stmt stmts.jump_stmt stmts.loop_stmt stmts.stmt_kind stmts.stmt_with stmts.behind_attrs stmts.plain_item stmts.item_with stmts.deeper decls.member_name decls.paren_params decls.body decls.function_end decls.function decls.vars_end decls.entity_kind decls.entity_end decls.entity decls.minit decls.minits decls.ctor_body decls.ctor_end decls.dtor_end decls.ctor decls.dtor decls.behind_attrs decls.member_function decls.base decls.bases decls.members decls.class_body decls.class_end decls.class_over decls.declared_member decls.member_kind decls.member_over decls.deeper_member decls.space_names decls.decls decls.space_over decls.declared decls.decl_kind decls.decl_over decls.deeper_decl decls.unit
namespaces_hold = refl

-- assertions
abbrev assertions : List Row
assertions =
    ("static_assert ( true ) ;", unit (decl (d.Assert (assertion (expr e.True) None)) ∷ [])) ∷
    ("static_assert ( a || b , \"\" ) ;", unit (decl (d.Assert (assertion (binary o.LogicalOr (name "a") (name "b")) (Some (codes "" ∷ [])))) ∷ [])) ∷ []

assertions_hold : Hold assertions
unfolding words_a_to_c words_d_to_i words_l_to_r words_in_s words_t_to_w brackets_and_marks single_operators arrows_and_assignments comparisons_and_shifts name_class number_class same_class many_of many_when others_by links_of ahead.type_end r.op r.last_part r.fname r.qtype r.named r.words_type r.name_type r.specs r.star r.ptrs r.bound r.typeid r.args r.paren_args r.clause r.clauses_in r.braces r.given r.string r.paren r.word_cast r.word_made r.id_expression r.type_made r.head_kind r.head r.subscript r.member_part r.member r.more_kind r.more r.postfix r.prefix r.delete r.new_bound r.new r.alignof_type r.sizeof_type r.sizeof_expr r.sizeof r.unary r.type_cast r.cast r.chain r.assigned r.choice r.chosen r.tail r.chain_or_more r.throw r.assign r.cond r.expr r.deeper parts.soup_over parts.deeper_soup parts.tail parts.virt parts.pieces parts.attribute parts.attrs parts.noex parts.assert parts.alias parts.enumr parts.enums parts.enum_end parts.named parts.unnamed parts.scoped_enum parts.unscoped_kind parts.enum_kind parts.enum vars.specs_before vars.typedef vars.equals_value vars.init_args vars.paren_init vars.init_kind vars.init vars.name_attrs vars.var vars.vars vars.default_argument vars.param vars.params vars.declared vars.local vars.bare_local stmts.range_ahead stmts.case_label stmts.default_label stmts.label stmts.expr_stmt stmts.returned stmts.return_stmt stmts.break_stmt stmts.continue_stmt stmts.empty_stmt stmts.for_start stmts.for_steps stmts.for_range stmts.for_head stmts.block_with stmts.if_stmt stmts.while_stmt stmts.do_stmt stmts.for_stmt stmts.switch_item stmts.switch_stmt stmts.jump_stmt stmts.loop_stmt stmts.stmt_kind stmts.stmt_with stmts.behind_attrs stmts.plain_item stmts.item_with stmts.deeper decls.member_name decls.paren_params decls.body decls.function_end decls.function decls.vars_end decls.entity_kind decls.entity_end decls.entity decls.minit decls.minits decls.ctor_body decls.ctor_end decls.dtor_end decls.ctor decls.dtor decls.behind_attrs decls.member_function decls.base decls.bases decls.members decls.class_body decls.class_end decls.class_over decls.declared_member decls.member_kind decls.member_over decls.deeper_member decls.space_names decls.decls decls.space_over decls.declared decls.decl_kind decls.decl_over decls.deeper_decl decls.unit
assertions_hold = refl

-- names of types
abbrev names_of_types : List Row
names_of_types =
    ("using T = int ;", unit (decl (d.Alias (alias "T" 0 (type_id (of_word w.Int)))) ∷ [])) ∷
    ("using T [ [ a ( { } ) ] ] = const int * const & ;", unit (decl (d.Alias (alias "T" 1 (declared (specs (modifies.Const ∷ []) (worded w.Int [])) (pointers (true ∷ []) true) []))) ∷ [])) ∷
    ("using T = int [ 2 ] [ ] ; T x ;", unit (decl (d.Alias (alias "T" 0 (declared (of_word w.Int) (pointers [] false) (bound (Some (number 2)) ∷ unbounded ∷ [])))) ∷ decl (d.Entity (entity 0 (of_name (type_name "T")) (entities.Vars (unset "x" ∷ [])))) ∷ [])) ∷
    ("using T = struct S ; using U = enum T ; using V = class n :: T ;", unit (decl (d.Alias (alias "T" 0 (type_id (specs [] (named (Some a_struct) (type_name "S") []))))) ∷ decl (d.Alias (alias "U" 0 (type_id (specs [] (named (Some an_enum) (type_name "T") []))))) ∷ decl (d.Alias (alias "V" 0 (type_id (specs [] (named (Some a_class) (type_in false ("n" ∷ []) "T") []))))) ∷ [])) ∷
    ("using T = const ;", unit (decl (d.Alias (alias "T" 0 (type_id (specs (modifies.Const ∷ []) untyped)))) ∷ [])) ∷
    ("typedef int T ;", unit (decl (d.Typedef (typed (of_word w.Int) (pointers [] false) "T")) ∷ [])) ∷
    ("typedef const Size * const * T ;", unit (decl (d.Typedef (typed (specs (modifies.Const ∷ []) (named None (type_name "Size") [])) (pointers (true ∷ false ∷ []) false) "T")) ∷ [])) ∷
    ("typedef const T ;", unit (decl (d.Typedef (typed (specs (modifies.Const ∷ []) untyped) (pointers [] false) "T")) ∷ [])) ∷
    ("typedef unsigned long const int & T ;", unit (decl (d.Typedef (typed (specs [] (worded w.Unsigned (word w.Long ∷ modifier modifies.Const ∷ word w.Int ∷ []))) (pointers [] true) "T")) ∷ [])) ∷
    ("typedef enum E T ;", unit (decl (d.Typedef (typed (specs [] (named (Some an_enum) (type_name "E") [])) (pointers [] false) "T")) ∷ [])) ∷
    ("typedef :: n :: T const U ; typedef U T ;", unit (decl (d.Typedef (typed (specs [] (named None (type_in true ("n" ∷ []) "T") (modifies.Const ∷ []))) (pointers [] false) "U")) ∷ decl (d.Typedef (typed (of_name (type_name "U")) (pointers [] false) "T")) ∷ [])) ∷ []

names_of_types_hold : Hold names_of_types
unfolding words_a_to_c words_d_to_i words_l_to_r words_in_s words_t_to_w brackets_and_marks single_operators arrows_and_assignments comparisons_and_shifts name_class number_class same_class many_of many_when others_by links_of ahead.type_end r.op r.last_part r.fname r.qtype r.named r.words_type r.name_type r.specs r.star r.ptrs r.bound r.typeid r.args r.paren_args r.clause r.clauses_in r.braces r.given r.string r.paren r.word_cast r.word_made r.id_expression r.type_made r.head_kind r.head r.subscript r.member_part r.member r.more_kind r.more r.postfix r.prefix r.delete r.new_bound r.new r.alignof_type r.sizeof_type r.sizeof_expr r.sizeof r.unary r.type_cast r.cast r.chain r.assigned r.choice r.chosen r.tail r.chain_or_more r.throw r.assign r.cond r.expr r.deeper parts.soup_over parts.deeper_soup parts.tail parts.virt parts.pieces parts.attribute parts.attrs parts.noex parts.assert parts.alias parts.enumr parts.enums parts.enum_end parts.named parts.unnamed parts.scoped_enum parts.unscoped_kind parts.enum_kind parts.enum vars.specs_before vars.typedef vars.equals_value vars.init_args vars.paren_init vars.init_kind vars.init vars.name_attrs vars.var vars.vars vars.default_argument vars.param vars.params vars.declared vars.local vars.bare_local stmts.range_ahead stmts.case_label stmts.default_label stmts.label stmts.expr_stmt stmts.returned stmts.return_stmt stmts.break_stmt stmts.continue_stmt stmts.empty_stmt stmts.for_start stmts.for_steps stmts.for_range stmts.for_head stmts.block_with stmts.if_stmt stmts.while_stmt stmts.do_stmt stmts.for_stmt stmts.switch_item stmts.switch_stmt stmts.jump_stmt stmts.loop_stmt stmts.stmt_kind stmts.stmt_with stmts.behind_attrs stmts.plain_item stmts.item_with stmts.deeper decls.member_name decls.paren_params decls.body decls.function_end decls.function decls.vars_end decls.entity_kind decls.entity_end decls.entity decls.minit decls.minits decls.ctor_body decls.ctor_end decls.dtor_end decls.ctor decls.dtor decls.behind_attrs decls.member_function decls.base decls.bases decls.members decls.class_body decls.class_end decls.class_over decls.declared_member decls.member_kind decls.member_over decls.deeper_member decls.space_names decls.decls decls.space_over decls.declared decls.decl_kind decls.decl_over decls.deeper_decl decls.unit
names_of_types_hold = refl

-- enumerations
abbrev enumerations : List Row
enumerations =
    ("enum E ;", unit (decl (d.Enum (enumeration 0 (enums.Named false (ident "E") None None))) ∷ [])) ∷
    ("enum class E ; enum struct F ;", unit (decl (d.Enum (enumeration 0 (enums.Named true (ident "E") None None))) ∷ decl (d.Enum (enumeration 0 (enums.Named true (ident "F") None None))) ∷ [])) ∷
    ("enum E { } ;", unit (decl (d.Enum (enumeration 0 (enums.Named false (ident "E") None (Some [])))) ∷ [])) ∷
    ("enum E { a , b = 1 , c , } ;", unit (decl (d.Enum (enumeration 0 (enums.Named false (ident "E") None (Some (enumerator "a" 0 None ∷ enumerator "b" 0 (Some (number 1)) ∷ enumerator "c" 0 None ∷ []))))) ∷ [])) ∷
    ("enum [ [ x ] ] E : short ;", unit (decl (d.Enum (enumeration 0 (enums.Named false (ident "E") (Some (of_word w.Short)) None))) ∷ [])) ∷
    ("enum class [ [ x ] ] [ [ y ( z ) ] ] E : unsigned char { a [ [ q [ 0 ] ] ] = 1 + 2 } ;", unit (decl (d.Enum (enumeration 1 (enums.Named true (ident "E") (Some (specs [] (worded w.Unsigned (word w.Char ∷ [])))) (Some (enumerator "a" 1 (Some (binary o.Add (number 1) (number 2))) ∷ []))))) ∷ [])) ∷
    ("enum { } ;", unit (decl (d.Enum (enumeration 0 (enums.Unnamed None []))) ∷ [])) ∷
    ("enum : int { a } ;", unit (decl (d.Enum (enumeration 0 (enums.Unnamed (Some (of_word w.Int)) (enumerator "a" 0 None ∷ [])))) ∷ [])) ∷
    ("enum [ [ x ( { [ 1 ] } ) ] ] : const Size { a = b ? 1 : 2 , } ;", unit (decl (d.Enum (enumeration 3 (enums.Unnamed (Some (specs (modifies.Const ∷ []) (named None (type_name "Size") []))) (enumerator "a" 0 (Some (expr (e.Conditional (name "b") (number 1) (number 2)))) ∷ [])))) ∷ [])) ∷
    ("enum E { a } ; enum E x ; enum E f ( ) ;", unit (decl (d.Enum (enumeration 0 (enums.Named false (ident "E") None (Some (enumerator "a" 0 None ∷ []))))) ∷ decl (d.Entity (entity 0 (specs [] (named (Some an_enum) (type_name "E") [])) (entities.Vars (unset "x" ∷ [])))) ∷ decl (d.Entity (entity 0 (specs [] (named (Some an_enum) (type_name "E") [])) (entities.Function (plain_function (pointers [] false) (plain_name "f") [] (body.Tail tail.Plain))))) ∷ [])) ∷
    ("enum E final { } ; enum :: n :: E x ;", unit (decl (d.Entity (entity 0 (specs [] (named (Some an_enum) (type_name "E") [])) (entities.Vars (set "final" (initial (i.DirectList (braces []))) ∷ [])))) ∷ decl (d.Entity (entity 0 (specs [] (named (Some an_enum) (type_in true ("n" ∷ []) "E") [])) (entities.Vars (unset "x" ∷ [])))) ∷ [])) ∷ []

enumerations_hold : Hold enumerations
unfolding words_a_to_c words_d_to_i words_l_to_r words_in_s words_t_to_w brackets_and_marks single_operators arrows_and_assignments comparisons_and_shifts name_class number_class same_class many_of many_when others_by links_of ahead.type_end r.op r.last_part r.fname r.qtype r.named r.words_type r.name_type r.specs r.star r.ptrs r.bound r.typeid r.args r.paren_args r.clause r.clauses_in r.braces r.given r.string r.paren r.word_cast r.word_made r.id_expression r.type_made r.head_kind r.head r.subscript r.member_part r.member r.more_kind r.more r.postfix r.prefix r.delete r.new_bound r.new r.alignof_type r.sizeof_type r.sizeof_expr r.sizeof r.unary r.type_cast r.cast r.chain r.assigned r.choice r.chosen r.tail r.chain_or_more r.throw r.assign r.cond r.expr r.deeper parts.soup_over parts.deeper_soup parts.tail parts.virt parts.pieces parts.attribute parts.attrs parts.noex parts.assert parts.alias parts.enumr parts.enums parts.enum_end parts.named parts.unnamed parts.scoped_enum parts.unscoped_kind parts.enum_kind parts.enum vars.specs_before vars.typedef vars.equals_value vars.init_args vars.paren_init vars.init_kind vars.init vars.name_attrs vars.var vars.vars vars.default_argument vars.param vars.params vars.declared vars.local vars.bare_local stmts.range_ahead stmts.case_label stmts.default_label stmts.label stmts.expr_stmt stmts.returned stmts.return_stmt stmts.break_stmt stmts.continue_stmt stmts.empty_stmt stmts.for_start stmts.for_steps stmts.for_range stmts.for_head stmts.block_with stmts.if_stmt stmts.while_stmt stmts.do_stmt stmts.for_stmt stmts.switch_item stmts.switch_stmt stmts.jump_stmt stmts.loop_stmt stmts.stmt_kind stmts.stmt_with stmts.behind_attrs stmts.plain_item stmts.item_with stmts.deeper decls.member_name decls.paren_params decls.body decls.function_end decls.function decls.vars_end decls.entity_kind decls.entity_end decls.entity decls.minit decls.minits decls.ctor_body decls.ctor_end decls.dtor_end decls.ctor decls.dtor decls.behind_attrs decls.member_function decls.base decls.bases decls.members decls.class_body decls.class_end decls.class_over decls.declared_member decls.member_kind decls.member_over decls.deeper_member decls.space_names decls.decls decls.space_over decls.declared decls.decl_kind decls.decl_over decls.deeper_decl decls.unit
enumerations_hold = refl
