-- Classes and their members with their trees, worked out by hand from the grammar.
use Prim.Native.String.{String}
use Rattle.std.proofs.Common.{◌≡◌, List, [], ◌∷◌, map, true, false, Some, None, refl}
use Rattle.cx_tree.specs.declared.decls.Access.TheVariants as access
use Rattle.cx_tree.specs.declared.decls.Body.TheVariants as body
use Rattle.cx_tree.specs.declared.decls.ConstructorBody.TheVariants as ends
use Rattle.cx_tree.specs.declared.decls.DeclKind.TheVariants as d
use Rattle.cx_tree.specs.declared.decls.EntityKind.TheVariants as entities
use Rattle.cx_tree.specs.declared.decls.EnumerationKind.TheVariants as enums
use Rattle.cx_tree.specs.declared.decls.MemberKind.TheVariants as members
use Rattle.cx_tree.specs.declared.decls.MemberName.TheVariants as names
use Rattle.cx_tree.specs.declared.decls.Tail.TheVariants as tail
use Rattle.cx_tree.specs.declared.decls.Virtual.TheVariants as virtual
use Rattle.cx_tree.specs.declared.exprs.Clause.TheVariants as c
use Rattle.cx_tree.specs.declared.exprs.ExprKind.TheVariants as e
use Rattle.cx_tree.specs.declared.exprs.Given.TheVariants as given
use Rattle.cx_tree.specs.declared.operators.AssignOp.TheVariants as a
use Rattle.cx_tree.specs.declared.operators.Overloaded.TheVariants as v
use Rattle.cx_tree.specs.declared.specifiers.ClassKey.TheVariants as key
use Rattle.cx_tree.specs.declared.specifiers.ModifierWord.TheVariants as modifies
use Rattle.cx_tree.specs.declared.specifiers.TypeWord.TheVariants as w
use Rattle.cx_tree.specs.declared.stmts.InitKind.TheVariants as i
use Rattle.cx_tree.specs.declared.stmts.Item.TheVariants as item
use Rattle.cx_tree.specs.declared.stmts.Returned.TheVariants as returned
use Rattle.cx_tree.specs.declared.stmts.StmtKind.TheVariants as s
use Rattle.cx_tree.specs.declared.decls.Unit.{Unit as TranslationUnit}
use Rattle.cx_tree.specs.declared.decls.Member.{Member}
use Rattle.cx_grammar.specs.Reading.{many_of, many_when, others_by}
use Rattle.cx_syntax.specs.Classes.{words_a_to_c, words_d_to_i, words_l_to_r, words_in_s, words_t_to_w, brackets_and_marks, single_operators, arrows_and_assignments, comparisons_and_shifts, name_class, number_class, same_class}
use Rattle.cx_syntax.specs.Linked.{links_of}
use Rattle.cx_syntax.specs.Readers as r
use Rattle.cx_syntax_parts.specs.Readers as parts
use Rattle.cx_syntax_vars.specs.Readers as vars
use Rattle.cx_syntax_stmts.specs.Ahead as ahead
use Rattle.cx_syntax_stmts.specs.Readers as stmts
use Rattle.cx_syntax_decls.specs.Readers as decls
use Rattle.cx_grammar_cases.proofs.Words.{tree, answer, text, within}
use Rattle.cx_grammar_cases.proofs.Trees.{ident, name_in, plain_name, operator_name, type_in, type_name, a_struct, a_union, an_enum, untyped, worded, named, specs, of_word, of_name, pointers, bound, type_id, expr, name, number, args, braces}
use Rattle.cx_grammar_cases.proofs.Declared.{alias, assertion, base, block, class, class_body, constructor, decl, destructor, entity, enumeration, enumerator, function, initial, member, member_init, param, plain_function, set, stmt, typed, unit, unset, variable}

-- a unit and its tree
abbrev Row : Type 0
Row = String × TranslationUnit

abbrev Hold : List Row → Type 0
Hold rows = map (λ row. answer (decls.unit 4 (text row.0))) rows ≡ map (λ row. tree row.1) rows

-- what stands in a class `S`, and its members
abbrev MembersRow : Type 0
MembersRow = String × List Member

abbrev with_members : List Member → TranslationUnit
with_members members_read = unit (decl (d.Class (class key.Struct 0 "S" (Some (class_body false [] members_read)))) ∷ [])

abbrev HoldInClass : List MembersRow → Type 0
HoldInClass rows = map (λ row. answer (decls.unit 4 (within "struct S {" row.0 "} ;"))) rows ≡ map (λ row. tree (with_members row.1)) rows

-- classes
abbrev classes_of_all_kinds : List Row
classes_of_all_kinds =
    ("struct S ; class C ; union U ;", unit (decl (d.Class (class key.Struct 0 "S" None)) ∷ decl (d.Class (class key.Class 0 "C" None)) ∷ decl (d.Class (class key.Union 0 "U" None)) ∷ [])) ∷
    ("struct S { } ; class C { } ; union U { } ;", unit (decl (d.Class (class key.Struct 0 "S" (Some (class_body false [] [])))) ∷ decl (d.Class (class key.Class 0 "C" (Some (class_body false [] [])))) ∷ decl (d.Class (class key.Union 0 "U" (Some (class_body false [] [])))) ∷ [])) ∷
    ("class [ [ a ( b ) ] ] S final { } ;", unit (decl (d.Class (class key.Class 1 "S" (Some (class_body true [] [])))) ∷ [])) ∷
    ("struct [ [ a ( b ) ] ] S ;", unit (decl (d.Class (class key.Struct 1 "S" None)) ∷ [])) ∷
    ("struct S final : S { } ;", unit (decl (d.Class (class key.Struct 0 "S" (Some (class_body true (base 0 None (type_name "S") ∷ []) [])))) ∷ [])) ∷
    ("struct S : A :: S , public S , [ [ x ( y ) ] ] protected :: n :: S , private :: S { } ;", unit (decl (d.Class (class key.Struct 0 "S" (Some (class_body false (base 0 None (type_in false ("A" ∷ []) "S") ∷ base 0 (Some access.Public) (type_name "S") ∷ base 1 (Some access.Protected) (type_in true ("n" ∷ []) "S") ∷ base 0 (Some access.Private) (type_in true [] "S") ∷ []) [])))) ∷ [])) ∷ []

classes_of_all_kinds_hold : Hold classes_of_all_kinds
unfolding words_a_to_c words_d_to_i words_l_to_r words_in_s words_t_to_w brackets_and_marks single_operators arrows_and_assignments comparisons_and_shifts name_class number_class same_class many_of many_when others_by links_of ahead.type_end r.op r.last_part r.fname r.qtype r.named r.words_type r.name_type r.specs r.star r.ptrs r.bound r.typeid r.args r.paren_args r.clause r.clauses_in r.braces r.given r.string r.paren r.word_cast r.word_made r.id_expression r.type_made r.head_kind r.head r.subscript r.member_part r.member r.more_kind r.more r.postfix r.prefix r.delete r.new_bound r.new r.alignof_type r.sizeof_type r.sizeof_expr r.sizeof r.unary r.type_cast r.cast r.chain r.assigned r.choice r.chosen r.tail r.chain_or_more r.throw r.assign r.cond r.expr r.deeper parts.soup_over parts.deeper_soup parts.tail parts.virt parts.pieces parts.attribute parts.attrs parts.noex parts.assert parts.alias parts.enumr parts.enums parts.enum_end parts.named parts.unnamed parts.scoped_enum parts.unscoped_kind parts.enum_kind parts.enum vars.specs_before vars.typedef vars.equals_value vars.init_args vars.paren_init vars.init_kind vars.init vars.name_attrs vars.var vars.vars vars.default_argument vars.param vars.params vars.declared vars.local vars.bare_local stmts.range_ahead stmts.case_label stmts.default_label stmts.label stmts.expr_stmt stmts.returned stmts.return_stmt stmts.break_stmt stmts.continue_stmt stmts.empty_stmt stmts.for_start stmts.for_steps stmts.for_range stmts.for_head stmts.block_with stmts.if_stmt stmts.while_stmt stmts.do_stmt stmts.for_stmt stmts.switch_item stmts.switch_stmt stmts.jump_stmt stmts.loop_stmt stmts.stmt_kind stmts.stmt_with stmts.behind_attrs stmts.plain_item stmts.item_with stmts.deeper decls.member_name decls.paren_params decls.body decls.function_end decls.function decls.vars_end decls.entity_kind decls.entity_end decls.entity decls.minit decls.minits decls.ctor_body decls.ctor_end decls.dtor_end decls.ctor decls.dtor decls.behind_attrs decls.member_function decls.base decls.bases decls.members decls.class_body decls.class_end decls.class_over decls.declared_member decls.member_kind decls.member_over decls.deeper_member decls.space_names decls.decls decls.space_over decls.declared decls.decl_kind decls.decl_over decls.deeper_decl decls.unit
classes_of_all_kinds_hold = refl

-- classes and variables of them
abbrev classes_and_variables_of_them : List Row
classes_and_variables_of_them =
    ("struct S x ; struct S * f ( ) ;", unit (decl (d.Entity (entity 0 (specs [] (named (Some a_struct) (type_name "S") [])) (entities.Vars (unset "x" ∷ [])))) ∷ decl (d.Entity (entity 0 (specs [] (named (Some a_struct) (type_name "S") [])) (entities.Function (plain_function (pointers (false ∷ []) false) (plain_name "f") [] (body.Tail tail.Plain))))) ∷ [])) ∷
    ("struct S final ;", unit (decl (d.Entity (entity 0 (specs [] (named (Some a_struct) (type_name "S") [])) (entities.Vars (unset "final" ∷ [])))) ∷ [])) ∷
    ("struct S final , x ; union U final = { } ;", unit (decl (d.Entity (entity 0 (specs [] (named (Some a_struct) (type_name "S") [])) (entities.Vars (unset "final" ∷ unset "x" ∷ [])))) ∷ decl (d.Entity (entity 0 (specs [] (named (Some a_union) (type_name "U") [])) (entities.Vars (set "final" (initial (i.EqualsList (braces []))) ∷ [])))) ∷ [])) ∷
    ("struct S override { } ;", unit (decl (d.Entity (entity 0 (specs [] (named (Some a_struct) (type_name "S") [])) (entities.Vars (set "override" (initial (i.DirectList (braces []))) ∷ [])))) ∷ [])) ∷
    ("const struct S final { } ;", unit (decl (d.Entity (entity 0 (specs (modifies.Const ∷ []) (named (Some a_struct) (type_name "S") [])) (entities.Vars (set "final" (initial (i.DirectList (braces []))) ∷ [])))) ∷ [])) ∷
    ("[ [ a ] ] struct S final { } ;", unit (decl (d.Entity (entity 0 (specs [] (named (Some a_struct) (type_name "S") [])) (entities.Vars (set "final" (initial (i.DirectList (braces []))) ∷ [])))) ∷ [])) ∷
    ("struct S const final { } ;", unit (decl (d.Entity (entity 0 (specs [] (named (Some a_struct) (type_name "S") (modifies.Const ∷ []))) (entities.Vars (set "final" (initial (i.DirectList (braces []))) ∷ [])))) ∷ [])) ∷
    ("struct S * final { } ;", unit (decl (d.Entity (entity 0 (specs [] (named (Some a_struct) (type_name "S") [])) (entities.Vars (variable (pointers (false ∷ []) false) "final" 0 [] (Some (initial (i.DirectList (braces [])))) ∷ [])))) ∷ [])) ∷
    ("struct S ; struct :: S final { } ;", unit (decl (d.Class (class key.Struct 0 "S" None)) ∷ decl (d.Entity (entity 0 (specs [] (named (Some a_struct) (type_in true [] "S") [])) (entities.Vars (set "final" (initial (i.DirectList (braces []))) ∷ [])))) ∷ [])) ∷
    ("struct S ; struct n :: S final { } ;", unit (decl (d.Class (class key.Struct 0 "S" None)) ∷ decl (d.Entity (entity 0 (specs [] (named (Some a_struct) (type_in false ("n" ∷ []) "S") [])) (entities.Vars (set "final" (initial (i.DirectList (braces []))) ∷ [])))) ∷ [])) ∷
    ("struct S final ( int ) ;", unit (decl (d.Entity (entity 0 (specs [] (named (Some a_struct) (type_name "S") [])) (entities.Function (plain_function (pointers [] false) (plain_name "final") (param 0 (of_word w.Int) (pointers [] false) None [] None ∷ []) (body.Tail tail.Plain))))) ∷ [])) ∷
    ("struct S final :: f ( ) ;", unit (decl (d.Entity (entity 0 (specs [] (named (Some a_struct) (type_name "S") [])) (entities.Function (plain_function (pointers [] false) (name_in ("final" ∷ []) "f") [] (body.Tail tail.Plain))))) ∷ [])) ∷ []

classes_and_variables_of_them_hold : Hold classes_and_variables_of_them
unfolding words_a_to_c words_d_to_i words_l_to_r words_in_s words_t_to_w brackets_and_marks single_operators arrows_and_assignments comparisons_and_shifts name_class number_class same_class many_of many_when others_by links_of ahead.type_end r.op r.last_part r.fname r.qtype r.named r.words_type r.name_type r.specs r.star r.ptrs r.bound r.typeid r.args r.paren_args r.clause r.clauses_in r.braces r.given r.string r.paren r.word_cast r.word_made r.id_expression r.type_made r.head_kind r.head r.subscript r.member_part r.member r.more_kind r.more r.postfix r.prefix r.delete r.new_bound r.new r.alignof_type r.sizeof_type r.sizeof_expr r.sizeof r.unary r.type_cast r.cast r.chain r.assigned r.choice r.chosen r.tail r.chain_or_more r.throw r.assign r.cond r.expr r.deeper parts.soup_over parts.deeper_soup parts.tail parts.virt parts.pieces parts.attribute parts.attrs parts.noex parts.assert parts.alias parts.enumr parts.enums parts.enum_end parts.named parts.unnamed parts.scoped_enum parts.unscoped_kind parts.enum_kind parts.enum vars.specs_before vars.typedef vars.equals_value vars.init_args vars.paren_init vars.init_kind vars.init vars.name_attrs vars.var vars.vars vars.default_argument vars.param vars.params vars.declared vars.local vars.bare_local stmts.range_ahead stmts.case_label stmts.default_label stmts.label stmts.expr_stmt stmts.returned stmts.return_stmt stmts.break_stmt stmts.continue_stmt stmts.empty_stmt stmts.for_start stmts.for_steps stmts.for_range stmts.for_head stmts.block_with stmts.if_stmt stmts.while_stmt stmts.do_stmt stmts.for_stmt stmts.switch_item stmts.switch_stmt stmts.jump_stmt stmts.loop_stmt stmts.stmt_kind stmts.stmt_with stmts.behind_attrs stmts.plain_item stmts.item_with stmts.deeper decls.member_name decls.paren_params decls.body decls.function_end decls.function decls.vars_end decls.entity_kind decls.entity_end decls.entity decls.minit decls.minits decls.ctor_body decls.ctor_end decls.dtor_end decls.ctor decls.dtor decls.behind_attrs decls.member_function decls.base decls.bases decls.members decls.class_body decls.class_end decls.class_over decls.declared_member decls.member_kind decls.member_over decls.deeper_member decls.space_names decls.decls decls.space_over decls.declared decls.decl_kind decls.decl_over decls.deeper_decl decls.unit
classes_and_variables_of_them_hold = refl

-- members of all kinds
abbrev members_of_all_kinds : List MembersRow
members_of_all_kinds =
    ("public : protected : private : ;", member (members.Access access.Public) ∷ member (members.Access access.Protected) ∷ member (members.Access access.Private) ∷ member members.Empty ∷ []) ∷
    ("static_assert ( true ) ; using T = int ; typedef int U ;", member (members.Assert (assertion (expr e.True) None)) ∷ member (members.Alias (alias "T" 0 (type_id (of_word w.Int)))) ∷ member (members.Typedef (typed (of_word w.Int) (pointers [] false) "U")) ∷ []) ∷
    ("enum E { } ; enum { a } ; enum E x ;", member (members.Enum (enumeration 0 (enums.Named false (ident "E") None (Some [])))) ∷ member (members.Enum (enumeration 0 (enums.Unnamed None (enumerator "a" 0 None ∷ [])))) ∷ member (members.Entity (entity 0 (specs [] (named (Some an_enum) (type_name "E") [])) (entities.Vars (unset "x" ∷ [])))) ∷ []) ∷
    ("struct N ; struct M { int x ; } ; class C final { } ;", member (members.Class (class key.Struct 0 "N" None)) ∷ member (members.Class (class key.Struct 0 "M" (Some (class_body false [] (member (members.Entity (entity 0 (of_word w.Int) (entities.Vars (unset "x" ∷ [])))) ∷ []))))) ∷ member (members.Class (class key.Class 0 "C" (Some (class_body true [] [])))) ∷ []) ∷
    ("struct T final ; const union T final { } ;", member (members.Entity (entity 0 (specs [] (named (Some a_struct) (type_name "T") [])) (entities.Vars (unset "final" ∷ [])))) ∷ member (members.Entity (entity 0 (specs (modifies.Const ∷ []) (named (Some a_union) (type_name "T") [])) (entities.Vars (set "final" (initial (i.DirectList (braces []))) ∷ [])))) ∷ []) ∷
    ("int a , * b = nullptr , c [ 3 ] { 1 } ;", member (members.Entity (entity 0 (of_word w.Int) (entities.Vars (unset "a" ∷ variable (pointers (false ∷ []) false) "b" 0 [] (Some (initial (i.Equals (expr e.Nullptr)))) ∷ variable (pointers [] false) "c" 0 (bound (Some (number 3)) ∷ []) (Some (initial (i.DirectList (braces (c.Value (number 1) ∷ []))))) ∷ [])))) ∷ []) ∷
    ("[ [ a ( b ) ] ] static constexpr int d = 4 ;", member (members.Entity (entity 1 (specs (modifies.Static ∷ modifies.Constexpr ∷ []) (worded w.Int [])) (entities.Vars (set "d" (initial (i.Equals (number 4))) ∷ [])))) ∷ []) ∷
    ("S * next ; const S & f ( ) ;", member (members.Entity (entity 0 (of_name (type_name "S")) (entities.Vars (variable (pointers (false ∷ []) false) "next" 0 [] None ∷ [])))) ∷ member (members.Entity (entity 0 (specs (modifies.Const ∷ []) (named None (type_name "S") [])) (entities.Function (plain_function (pointers [] true) (plain_name "f") [] (body.Tail tail.Plain))))) ∷ []) ∷
    ("S :: S x ; :: S y ;", member (members.Entity (entity 0 (of_name (type_in false ("S" ∷ []) "S")) (entities.Vars (unset "x" ∷ [])))) ∷ member (members.Entity (entity 0 (of_name (type_in true [] "S")) (entities.Vars (unset "y" ∷ [])))) ∷ []) ∷ []

members_of_all_kinds_hold : HoldInClass members_of_all_kinds
unfolding words_a_to_c words_d_to_i words_l_to_r words_in_s words_t_to_w brackets_and_marks single_operators arrows_and_assignments comparisons_and_shifts name_class number_class same_class many_of many_when others_by links_of ahead.type_end r.op r.last_part r.fname r.qtype r.named r.words_type r.name_type r.specs r.star r.ptrs r.bound r.typeid r.args r.paren_args r.clause r.clauses_in r.braces r.given r.string r.paren r.word_cast r.word_made r.id_expression r.type_made r.head_kind r.head r.subscript r.member_part r.member r.more_kind r.more r.postfix r.prefix r.delete r.new_bound r.new r.alignof_type r.sizeof_type r.sizeof_expr r.sizeof r.unary r.type_cast r.cast r.chain r.assigned r.choice r.chosen r.tail r.chain_or_more r.throw r.assign r.cond r.expr r.deeper parts.soup_over parts.deeper_soup parts.tail parts.virt parts.pieces parts.attribute parts.attrs parts.noex parts.assert parts.alias parts.enumr parts.enums parts.enum_end parts.named parts.unnamed parts.scoped_enum parts.unscoped_kind parts.enum_kind parts.enum vars.specs_before vars.typedef vars.equals_value vars.init_args vars.paren_init vars.init_kind vars.init vars.name_attrs vars.var vars.vars vars.default_argument vars.param vars.params vars.declared vars.local vars.bare_local stmts.range_ahead stmts.case_label stmts.default_label stmts.label stmts.expr_stmt stmts.returned stmts.return_stmt stmts.break_stmt stmts.continue_stmt stmts.empty_stmt stmts.for_start stmts.for_steps stmts.for_range stmts.for_head stmts.block_with stmts.if_stmt stmts.while_stmt stmts.do_stmt stmts.for_stmt stmts.switch_item stmts.switch_stmt stmts.jump_stmt stmts.loop_stmt stmts.stmt_kind stmts.stmt_with stmts.behind_attrs stmts.plain_item stmts.item_with stmts.deeper decls.member_name decls.paren_params decls.body decls.function_end decls.function decls.vars_end decls.entity_kind decls.entity_end decls.entity decls.minit decls.minits decls.ctor_body decls.ctor_end decls.dtor_end decls.ctor decls.dtor decls.behind_attrs decls.member_function decls.base decls.bases decls.members decls.class_body decls.class_end decls.class_over decls.declared_member decls.member_kind decls.member_over decls.deeper_member decls.space_names decls.decls decls.space_over decls.declared decls.decl_kind decls.decl_over decls.deeper_decl decls.unit
members_of_all_kinds_hold = refl

-- constructors
abbrev constructors : List MembersRow
constructors =
    ("S ( ) ;", member (members.Constructor (constructor 0 [] "S" [] 0 (ends.Tail tail.Plain))) ∷ []) ∷
    ("S ( ) = default ; S ( const S & ) = delete ; S ( ) = 0 ;", member (members.Constructor (constructor 0 [] "S" [] 0 (ends.Tail tail.Default))) ∷ member (members.Constructor (constructor 0 [] "S" (param 0 (specs (modifies.Const ∷ []) (named None (type_name "S") [])) (pointers [] true) None [] None ∷ []) 0 (ends.Tail tail.Delete))) ∷ member (members.Constructor (constructor 0 [] "S" [] 0 (ends.Tail tail.Pure))) ∷ []) ∷
    ("S ( ) { } ;", member (members.Constructor (constructor 0 [] "S" [] 0 (ends.Block [] (block [])))) ∷ member members.Empty ∷ []) ∷
    ("explicit constexpr S ( int x , int ) noexcept : a ( x ) , b { } , n :: S ( ) , S { 1 , { 2 } } { ; }", member (members.Constructor (constructor 0 (modifies.Explicit ∷ modifies.Constexpr ∷ []) "S" (param 0 (of_word w.Int) (pointers [] false) (Some "x") [] None ∷ param 0 (of_word w.Int) (pointers [] false) None [] None ∷ []) 0 (ends.Block (member_init (names.Ident (ident "a")) (given.Args (args (name "x" ∷ []))) ∷ member_init (names.Ident (ident "b")) (given.Braces (braces [])) ∷ member_init (names.Type (type_in false ("n" ∷ []) "S")) (given.Args (args [])) ∷ member_init (names.Type (type_name "S")) (given.Braces (braces (c.Value (number 1) ∷ c.Nested (braces (c.Value (number 2) ∷ [])) ∷ []))) ∷ []) (block (item.Stmt (stmt s.Empty) ∷ []))))) ∷ []) ∷
    ("[ [ a ( { 1 } ) ] ] S ( ) noexcept ( x ( y ) ) { }", member (members.Constructor (constructor 2 [] "S" [] 1 (ends.Block [] (block [])))) ∷ []) ∷
    ("[ [ a ] ] inline S ( int x = 1 ) noexcept ( true ) ;", member (members.Constructor (constructor 0 (modifies.Inline ∷ []) "S" (param 0 (of_word w.Int) (pointers [] false) (Some "x") [] (Some (number 1)) ∷ []) 0 (ends.Tail tail.Plain))) ∷ []) ∷
    ("S ( ) : final ( 1 , 2 ) { }", member (members.Constructor (constructor 0 [] "S" [] 0 (ends.Block (member_init (names.Ident (ident "final")) (given.Args (args (number 1 ∷ number 2 ∷ []))) ∷ []) (block [])))) ∷ []) ∷
    ("S ( ) : :: S ( ) , n :: m :: S { } { }", member (members.Constructor (constructor 0 [] "S" [] 0 (ends.Block (member_init (names.Type (type_in true [] "S")) (given.Args (args [])) ∷ member_init (names.Type (type_in false ("n" ∷ "m" ∷ []) "S")) (given.Braces (braces [])) ∷ []) (block [])))) ∷ []) ∷
    ("Size ( ) ;", member (members.Constructor (constructor 0 [] "Size" [] 0 (ends.Tail tail.Plain))) ∷ []) ∷ []

constructors_hold : HoldInClass constructors
unfolding words_a_to_c words_d_to_i words_l_to_r words_in_s words_t_to_w brackets_and_marks single_operators arrows_and_assignments comparisons_and_shifts name_class number_class same_class many_of many_when others_by links_of ahead.type_end r.op r.last_part r.fname r.qtype r.named r.words_type r.name_type r.specs r.star r.ptrs r.bound r.typeid r.args r.paren_args r.clause r.clauses_in r.braces r.given r.string r.paren r.word_cast r.word_made r.id_expression r.type_made r.head_kind r.head r.subscript r.member_part r.member r.more_kind r.more r.postfix r.prefix r.delete r.new_bound r.new r.alignof_type r.sizeof_type r.sizeof_expr r.sizeof r.unary r.type_cast r.cast r.chain r.assigned r.choice r.chosen r.tail r.chain_or_more r.throw r.assign r.cond r.expr r.deeper parts.soup_over parts.deeper_soup parts.tail parts.virt parts.pieces parts.attribute parts.attrs parts.noex parts.assert parts.alias parts.enumr parts.enums parts.enum_end parts.named parts.unnamed parts.scoped_enum parts.unscoped_kind parts.enum_kind parts.enum vars.specs_before vars.typedef vars.equals_value vars.init_args vars.paren_init vars.init_kind vars.init vars.name_attrs vars.var vars.vars vars.default_argument vars.param vars.params vars.declared vars.local vars.bare_local stmts.range_ahead stmts.case_label stmts.default_label stmts.label stmts.expr_stmt stmts.returned stmts.return_stmt stmts.break_stmt stmts.continue_stmt stmts.empty_stmt stmts.for_start stmts.for_steps stmts.for_range stmts.for_head stmts.block_with stmts.if_stmt stmts.while_stmt stmts.do_stmt stmts.for_stmt stmts.switch_item stmts.switch_stmt stmts.jump_stmt stmts.loop_stmt stmts.stmt_kind stmts.stmt_with stmts.behind_attrs stmts.plain_item stmts.item_with stmts.deeper decls.member_name decls.paren_params decls.body decls.function_end decls.function decls.vars_end decls.entity_kind decls.entity_end decls.entity decls.minit decls.minits decls.ctor_body decls.ctor_end decls.dtor_end decls.ctor decls.dtor decls.behind_attrs decls.member_function decls.base decls.bases decls.members decls.class_body decls.class_end decls.class_over decls.declared_member decls.member_kind decls.member_over decls.deeper_member decls.space_names decls.decls decls.space_over decls.declared decls.decl_kind decls.decl_over decls.deeper_decl decls.unit
constructors_hold = refl

-- destructors
abbrev destructors : List MembersRow
destructors =
    ("~ S ( ) ;", member (members.Destructor (destructor 0 [] "S" 0 [] (body.Tail tail.Plain))) ∷ []) ∷
    ("[ [ a ( b ) ] ] virtual constexpr ~ S ( ) noexcept ( 0 ) override final = default ;", member (members.Destructor (destructor 1 (modifies.Virtual ∷ modifies.Constexpr ∷ []) "S" 0 (virtual.Override ∷ virtual.Final ∷ []) (body.Tail tail.Default))) ∷ []) ∷
    ("~ S ( ) noexcept { return ; }", member (members.Destructor (destructor 0 [] "S" 0 [] (body.Block (block (item.Stmt (stmt (s.Return None)) ∷ []))))) ∷ []) ∷
    ("~ S ( ) noexcept ( ( a ) ) = delete ; ~ S ( ) = 0 ;", member (members.Destructor (destructor 0 [] "S" 1 [] (body.Tail tail.Delete))) ∷ member (members.Destructor (destructor 0 [] "S" 0 [] (body.Tail tail.Pure))) ∷ []) ∷
    ("virtual ~ Size ( ) final final override ;", member (members.Destructor (destructor 0 (modifies.Virtual ∷ []) "Size" 0 (virtual.Final ∷ virtual.Final ∷ virtual.Override ∷ []) (body.Tail tail.Plain))) ∷ []) ∷ []

destructors_hold : HoldInClass destructors
unfolding words_a_to_c words_d_to_i words_l_to_r words_in_s words_t_to_w brackets_and_marks single_operators arrows_and_assignments comparisons_and_shifts name_class number_class same_class many_of many_when others_by links_of ahead.type_end r.op r.last_part r.fname r.qtype r.named r.words_type r.name_type r.specs r.star r.ptrs r.bound r.typeid r.args r.paren_args r.clause r.clauses_in r.braces r.given r.string r.paren r.word_cast r.word_made r.id_expression r.type_made r.head_kind r.head r.subscript r.member_part r.member r.more_kind r.more r.postfix r.prefix r.delete r.new_bound r.new r.alignof_type r.sizeof_type r.sizeof_expr r.sizeof r.unary r.type_cast r.cast r.chain r.assigned r.choice r.chosen r.tail r.chain_or_more r.throw r.assign r.cond r.expr r.deeper parts.soup_over parts.deeper_soup parts.tail parts.virt parts.pieces parts.attribute parts.attrs parts.noex parts.assert parts.alias parts.enumr parts.enums parts.enum_end parts.named parts.unnamed parts.scoped_enum parts.unscoped_kind parts.enum_kind parts.enum vars.specs_before vars.typedef vars.equals_value vars.init_args vars.paren_init vars.init_kind vars.init vars.name_attrs vars.var vars.vars vars.default_argument vars.param vars.params vars.declared vars.local vars.bare_local stmts.range_ahead stmts.case_label stmts.default_label stmts.label stmts.expr_stmt stmts.returned stmts.return_stmt stmts.break_stmt stmts.continue_stmt stmts.empty_stmt stmts.for_start stmts.for_steps stmts.for_range stmts.for_head stmts.block_with stmts.if_stmt stmts.while_stmt stmts.do_stmt stmts.for_stmt stmts.switch_item stmts.switch_stmt stmts.jump_stmt stmts.loop_stmt stmts.stmt_kind stmts.stmt_with stmts.behind_attrs stmts.plain_item stmts.item_with stmts.deeper decls.member_name decls.paren_params decls.body decls.function_end decls.function decls.vars_end decls.entity_kind decls.entity_end decls.entity decls.minit decls.minits decls.ctor_body decls.ctor_end decls.dtor_end decls.ctor decls.dtor decls.behind_attrs decls.member_function decls.base decls.bases decls.members decls.class_body decls.class_end decls.class_over decls.declared_member decls.member_kind decls.member_over decls.deeper_member decls.space_names decls.decls decls.space_over decls.declared decls.decl_kind decls.decl_over decls.deeper_decl decls.unit
destructors_hold = refl

-- member functions
abbrev member_functions : List MembersRow
member_functions =
    ("virtual int f ( int ) const noexcept override = 0 ;", member (members.Entity (entity 0 (specs (modifies.Virtual ∷ []) (worded w.Int [])) (entities.Function (function (pointers [] false) (plain_name "f") (param 0 (of_word w.Int) (pointers [] false) None [] None ∷ []) true 0 (virtual.Override ∷ []) (body.Tail tail.Pure))))) ∷ []) ∷
    ("S & operator = ( const S & ) = default ;", member (members.Entity (entity 0 (of_name (type_name "S")) (entities.Function (plain_function (pointers [] true) (operator_name (v.Assign a.Plain)) (param 0 (specs (modifies.Const ∷ []) (named None (type_name "S") [])) (pointers [] true) None [] None ∷ []) (body.Tail tail.Default))))) ∷ []) ∷
    ("bool operator ( ) ( int i ) const { return i ; }", member (members.Entity (entity 0 (of_word w.Bool) (entities.Function (function (pointers [] false) (operator_name v.Call) (param 0 (of_word w.Int) (pointers [] false) (Some "i") [] None ∷ []) true 0 [] (body.Block (block (item.Stmt (stmt (s.Return (Some (returned.Value (name "i"))))) ∷ []))))))) ∷ []) ∷
    ("int operator [ ] ( int ) final ; S * operator -> ( ) ;", member (members.Entity (entity 0 (of_word w.Int) (entities.Function (function (pointers [] false) (operator_name v.Subscript) (param 0 (of_word w.Int) (pointers [] false) None [] None ∷ []) false 0 (virtual.Final ∷ []) (body.Tail tail.Plain))))) ∷ member (members.Entity (entity 0 (of_name (type_name "S")) (entities.Function (plain_function (pointers (false ∷ []) false) (operator_name v.Arrow) [] (body.Tail tail.Plain))))) ∷ []) ∷
    ("explicit f ( ) ; S g ( S ) ;", member (members.Entity (entity 0 (specs (modifies.Explicit ∷ []) untyped) (entities.Function (plain_function (pointers [] false) (plain_name "f") [] (body.Tail tail.Plain))))) ∷ member (members.Entity (entity 0 (of_name (type_name "S")) (entities.Function (plain_function (pointers [] false) (plain_name "g") (param 0 (of_name (type_name "S")) (pointers [] false) None [] None ∷ []) (body.Tail tail.Plain))))) ∷ []) ∷ []

member_functions_hold : HoldInClass member_functions
unfolding words_a_to_c words_d_to_i words_l_to_r words_in_s words_t_to_w brackets_and_marks single_operators arrows_and_assignments comparisons_and_shifts name_class number_class same_class many_of many_when others_by links_of ahead.type_end r.op r.last_part r.fname r.qtype r.named r.words_type r.name_type r.specs r.star r.ptrs r.bound r.typeid r.args r.paren_args r.clause r.clauses_in r.braces r.given r.string r.paren r.word_cast r.word_made r.id_expression r.type_made r.head_kind r.head r.subscript r.member_part r.member r.more_kind r.more r.postfix r.prefix r.delete r.new_bound r.new r.alignof_type r.sizeof_type r.sizeof_expr r.sizeof r.unary r.type_cast r.cast r.chain r.assigned r.choice r.chosen r.tail r.chain_or_more r.throw r.assign r.cond r.expr r.deeper parts.soup_over parts.deeper_soup parts.tail parts.virt parts.pieces parts.attribute parts.attrs parts.noex parts.assert parts.alias parts.enumr parts.enums parts.enum_end parts.named parts.unnamed parts.scoped_enum parts.unscoped_kind parts.enum_kind parts.enum vars.specs_before vars.typedef vars.equals_value vars.init_args vars.paren_init vars.init_kind vars.init vars.name_attrs vars.var vars.vars vars.default_argument vars.param vars.params vars.declared vars.local vars.bare_local stmts.range_ahead stmts.case_label stmts.default_label stmts.label stmts.expr_stmt stmts.returned stmts.return_stmt stmts.break_stmt stmts.continue_stmt stmts.empty_stmt stmts.for_start stmts.for_steps stmts.for_range stmts.for_head stmts.block_with stmts.if_stmt stmts.while_stmt stmts.do_stmt stmts.for_stmt stmts.switch_item stmts.switch_stmt stmts.jump_stmt stmts.loop_stmt stmts.stmt_kind stmts.stmt_with stmts.behind_attrs stmts.plain_item stmts.item_with stmts.deeper decls.member_name decls.paren_params decls.body decls.function_end decls.function decls.vars_end decls.entity_kind decls.entity_end decls.entity decls.minit decls.minits decls.ctor_body decls.ctor_end decls.dtor_end decls.ctor decls.dtor decls.behind_attrs decls.member_function decls.base decls.bases decls.members decls.class_body decls.class_end decls.class_over decls.declared_member decls.member_kind decls.member_over decls.deeper_member decls.space_names decls.decls decls.space_over decls.declared decls.decl_kind decls.decl_over decls.deeper_decl decls.unit
member_functions_hold = refl
