-- Variables with their trees, worked out by hand from the grammar.
use Prim.Native.String.{String}
use Rattle.std.proofs.Common.{◌≡◌, List, [], ◌∷◌, map, true, false, Some, None, refl}
use Rattle.std.specs.Prelude.{codes}
use Rattle.cx_tree.specs.declared.decls.DeclKind.TheVariants as d
use Rattle.cx_tree.specs.declared.decls.EntityKind.TheVariants as entities
use Rattle.cx_tree.specs.declared.exprs.Clause.TheVariants as c
use Rattle.cx_tree.specs.declared.exprs.ExprKind.TheVariants as e
use Rattle.cx_tree.specs.declared.exprs.Given.TheVariants as given
use Rattle.cx_tree.specs.declared.exprs.MoreKind.TheVariants as m
use Rattle.cx_tree.specs.declared.operators.AssignOp.TheVariants as a
use Rattle.cx_tree.specs.declared.operators.BinaryOp.TheVariants as o
use Rattle.cx_tree.specs.declared.operators.PrefixOp.TheVariants as p
use Rattle.cx_tree.specs.declared.specifiers.ClassKey.TheVariants as key
use Rattle.cx_tree.specs.declared.specifiers.ModifierWord.TheVariants as modifies
use Rattle.cx_tree.specs.declared.specifiers.TypeWord.TheVariants as w
use Rattle.cx_tree.specs.declared.stmts.InitKind.TheVariants as i
use Rattle.cx_tree.specs.declared.stmts.Item.TheVariants as item
use Rattle.cx_tree.specs.declared.decls.Body.TheVariants as body
use Rattle.cx_tree.specs.declared.decls.Unit.{Unit as TranslationUnit}
use Rattle.cx_tree.specs.declared.stmts.Item.{Item}
use Rattle.cx_grammar.specs.Reading.{many_of, many_when, others_by}
use Rattle.cx_syntax.specs.Classes.{words_a_to_c, words_d_to_i, words_l_to_r, words_in_s, words_t_to_w, brackets_and_marks, single_operators, arrows_and_assignments, comparisons_and_shifts, name_class, number_class, same_class}
use Rattle.cx_syntax.specs.Linked.{links_of}
use Rattle.cx_syntax.specs.Readers as r
use Rattle.cx_syntax_parts.specs.Readers as parts
use Rattle.cx_syntax_vars.specs.Readers as vars
use Rattle.cx_syntax_stmts.specs.Ahead as ahead
use Rattle.cx_syntax_stmts.specs.Readers as stmts
use Rattle.cx_syntax_decls.specs.Readers as decls
use Rattle.cx_grammar_cases.proofs.Words.{tree, answer, text, within}
use Rattle.cx_grammar_cases.proofs.Trees.{a_class, a_struct, a_union, an_enum, args, binary, bound, braces, cast, expr, modifier, name, name_in, named, new, number, of_name, of_word, plain_name, pointers, postfix, prefix, specs, type_id, type_in, type_name, unbounded, untyped, word, worded, in_global, simple}
use Rattle.cx_grammar_cases.proofs.Declared.{block, class, decl, entity, initial, local, plain_function, set, unit, unset, variable}

-- a unit and its tree
abbrev Row : Type 0
Row = String × TranslationUnit

abbrev Hold : List Row → Type 0
Hold rows = map (λ row. answer (decls.unit 4 (text row.0))) rows ≡ map (λ row. tree row.1) rows

-- what stands in the body of a function, and its items
abbrev BodyRow : Type 0
BodyRow = String × List Item

abbrev with_body : List Item → TranslationUnit
with_body items = unit (decl (d.Entity (entity 0 (of_word w.Void) (entities.Function (plain_function (pointers [] false) (plain_name "f") [] (body.Block (block items)))))) ∷ [])

abbrev HoldInBody : List BodyRow → Type 0
HoldInBody rows = map (λ row. answer (decls.unit 4 (within "void f ( ) {" row.0 "}"))) rows ≡ map (λ row. tree (with_body row.1)) rows

-- specifiers
abbrev specifiers : List Row
specifiers =
    ("int x ; const y = 1 ;", unit (decl (d.Entity (entity 0 (of_word w.Int) (entities.Vars (unset "x" ∷ [])))) ∷ decl (d.Entity (entity 0 (specs (modifies.Const ∷ []) untyped) (entities.Vars (set "y" (initial (i.Equals (number 1))) ∷ [])))) ∷ [])) ∷
    ("constexpr consteval constinit inline static extern virtual explicit const x ;", unit (decl (d.Entity (entity 0 (specs (modifies.Constexpr ∷ modifies.Consteval ∷ modifies.Constinit ∷ modifies.Inline ∷ modifies.Static ∷ modifies.Extern ∷ modifies.Virtual ∷ modifies.Explicit ∷ modifies.Const ∷ []) untyped) (entities.Vars (unset "x" ∷ [])))) ∷ [])) ∷
    ("void bool char short int long signed unsigned auto x ;", unit (decl (d.Entity (entity 0 (specs [] (worded w.Void (word w.Bool ∷ word w.Char ∷ word w.Short ∷ word w.Int ∷ word w.Long ∷ word w.Signed ∷ word w.Unsigned ∷ word w.Auto ∷ []))) (entities.Vars (unset "x" ∷ [])))) ∷ [])) ∷
    ("constexpr unsigned const long static x = 1 ;", unit (decl (d.Entity (entity 0 (specs (modifies.Constexpr ∷ []) (worded w.Unsigned (modifier modifies.Const ∷ word w.Long ∷ modifier modifies.Static ∷ []))) (entities.Vars (set "x" (initial (i.Equals (number 1))) ∷ [])))) ∷ [])) ∷
    ("struct T ; T const x ; n :: T y ; :: T z ; :: n :: m :: T static * w ;", unit (decl (d.Class (class key.Struct 0 "T" None)) ∷ decl (d.Entity (entity 0 (specs [] (named None (type_name "T") (modifies.Const ∷ []))) (entities.Vars (unset "x" ∷ [])))) ∷ decl (d.Entity (entity 0 (of_name (type_in false ("n" ∷ []) "T")) (entities.Vars (unset "y" ∷ [])))) ∷ decl (d.Entity (entity 0 (of_name (type_in true [] "T")) (entities.Vars (unset "z" ∷ [])))) ∷ decl (d.Entity (entity 0 (specs [] (named None (type_in true ("n" ∷ "m" ∷ []) "T") (modifies.Static ∷ []))) (entities.Vars (variable (pointers (false ∷ []) false) "w" 0 [] None ∷ [])))) ∷ [])) ∷
    ("const Size x ; static const n :: Size const y ;", unit (decl (d.Entity (entity 0 (specs (modifies.Const ∷ []) (named None (type_name "Size") [])) (entities.Vars (unset "x" ∷ [])))) ∷ decl (d.Entity (entity 0 (specs (modifies.Static ∷ modifies.Const ∷ []) (named None (type_in false ("n" ∷ []) "Size") (modifies.Const ∷ []))) (entities.Vars (unset "y" ∷ [])))) ∷ [])) ∷
    ("class C const x ; union n :: Size y ;", unit (decl (d.Entity (entity 0 (specs [] (named (Some a_class) (type_name "C") (modifies.Const ∷ []))) (entities.Vars (unset "x" ∷ [])))) ∷ decl (d.Entity (entity 0 (specs [] (named (Some a_union) (type_in false ("n" ∷ []) "Size") [])) (entities.Vars (unset "y" ∷ [])))) ∷ [])) ∷ []

specifiers_hold : Hold specifiers
unfolding words_a_to_c words_d_to_i words_l_to_r words_in_s words_t_to_w brackets_and_marks single_operators arrows_and_assignments comparisons_and_shifts name_class number_class same_class many_of many_when others_by links_of ahead.type_end r.op r.last_part r.fname r.qtype r.named r.words_type r.name_type r.specs r.star r.ptrs r.bound r.typeid r.args r.paren_args r.clause r.clauses_in r.braces r.given r.string r.paren r.word_cast r.word_made r.id_expression r.type_made r.head_kind r.head r.subscript r.member_part r.member r.more_kind r.more r.postfix r.prefix r.delete r.new_bound r.new r.alignof_type r.sizeof_type r.sizeof_expr r.sizeof r.unary r.type_cast r.cast r.chain r.assigned r.choice r.chosen r.tail r.chain_or_more r.throw r.assign r.cond r.expr r.deeper parts.soup_over parts.deeper_soup parts.tail parts.virt parts.pieces parts.attribute parts.attrs parts.noex parts.assert parts.alias parts.enumr parts.enums parts.enum_end parts.named parts.unnamed parts.scoped_enum parts.unscoped_kind parts.enum_kind parts.enum vars.specs_before vars.typedef vars.equals_value vars.init_args vars.paren_init vars.init_kind vars.init vars.name_attrs vars.var vars.vars vars.default_argument vars.param vars.params vars.declared vars.local vars.bare_local stmts.range_ahead stmts.case_label stmts.default_label stmts.label stmts.expr_stmt stmts.returned stmts.return_stmt stmts.break_stmt stmts.continue_stmt stmts.empty_stmt stmts.for_start stmts.for_steps stmts.for_range stmts.for_head stmts.block_with stmts.if_stmt stmts.while_stmt stmts.do_stmt stmts.for_stmt stmts.switch_item stmts.switch_stmt stmts.jump_stmt stmts.loop_stmt stmts.stmt_kind stmts.stmt_with stmts.behind_attrs stmts.plain_item stmts.item_with stmts.deeper decls.member_name decls.paren_params decls.body decls.function_end decls.function decls.vars_end decls.entity_kind decls.entity_end decls.entity decls.minit decls.minits decls.ctor_body decls.ctor_end decls.dtor_end decls.ctor decls.dtor decls.behind_attrs decls.member_function decls.base decls.bases decls.members decls.class_body decls.class_end decls.class_over decls.declared_member decls.member_kind decls.member_over decls.deeper_member decls.space_names decls.decls decls.space_over decls.declared decls.decl_kind decls.decl_over decls.deeper_decl decls.unit
specifiers_hold = refl

-- declarators
abbrev declarators : List Row
declarators =
    ("int x , * y , * * const * z , & w , * const & v ;", unit (decl (d.Entity (entity 0 (of_word w.Int) (entities.Vars (unset "x" ∷ variable (pointers (false ∷ []) false) "y" 0 [] None ∷ variable (pointers (false ∷ true ∷ false ∷ []) false) "z" 0 [] None ∷ variable (pointers [] true) "w" 0 [] None ∷ variable (pointers (true ∷ []) true) "v" 0 [] None ∷ [])))) ∷ [])) ∷
    ("int x [ ] , y [ 2 ] [ a ? b : c ] , z [ 1 + 2 ] ;", unit (decl (d.Entity (entity 0 (of_word w.Int) (entities.Vars (variable (pointers [] false) "x" 0 (unbounded ∷ []) None ∷ variable (pointers [] false) "y" 0 (bound (Some (number 2)) ∷ bound (Some (expr (e.Conditional (name "a") (name "b") (name "c")))) ∷ []) None ∷ variable (pointers [] false) "z" 0 (bound (Some (binary o.Add (number 1) (number 2))) ∷ []) None ∷ [])))) ∷ [])) ∷
    ("int x [ [ a ( b ) ] ] [ 3 ] = { } , y [ [ c ] ] ;", unit (decl (d.Entity (entity 0 (of_word w.Int) (entities.Vars (variable (pointers [] false) "x" 1 (bound (Some (number 3)) ∷ []) (Some (initial (i.EqualsList (braces [])))) ∷ unset "y" ∷ [])))) ∷ [])) ∷
    ("[ [ a ] ] [ [ b ( [ c ] ) ] ] static inline int * const * x , & y = z ;", unit (decl (d.Entity (entity 2 (specs (modifies.Static ∷ modifies.Inline ∷ []) (worded w.Int [])) (entities.Vars (variable (pointers (true ∷ false ∷ []) false) "x" 0 [] None ∷ variable (pointers [] true) "y" 0 [] (Some (initial (i.Equals (name "z")))) ∷ [])))) ∷ [])) ∷
    ("int x [ [ a ] ] [ [ b ( { ( c ) } ) ] ] ;", unit (decl (d.Entity (entity 0 (of_word w.Int) (entities.Vars (variable (pointers [] false) "x" 3 [] None ∷ [])))) ∷ [])) ∷
    ("extern int final , override ;", unit (decl (d.Entity (entity 0 (specs (modifies.Extern ∷ []) (worded w.Int [])) (entities.Vars (unset "final" ∷ unset "override" ∷ [])))) ∷ [])) ∷ []

declarators_hold : Hold declarators
unfolding words_a_to_c words_d_to_i words_l_to_r words_in_s words_t_to_w brackets_and_marks single_operators arrows_and_assignments comparisons_and_shifts name_class number_class same_class many_of many_when others_by links_of ahead.type_end r.op r.last_part r.fname r.qtype r.named r.words_type r.name_type r.specs r.star r.ptrs r.bound r.typeid r.args r.paren_args r.clause r.clauses_in r.braces r.given r.string r.paren r.word_cast r.word_made r.id_expression r.type_made r.head_kind r.head r.subscript r.member_part r.member r.more_kind r.more r.postfix r.prefix r.delete r.new_bound r.new r.alignof_type r.sizeof_type r.sizeof_expr r.sizeof r.unary r.type_cast r.cast r.chain r.assigned r.choice r.chosen r.tail r.chain_or_more r.throw r.assign r.cond r.expr r.deeper parts.soup_over parts.deeper_soup parts.tail parts.virt parts.pieces parts.attribute parts.attrs parts.noex parts.assert parts.alias parts.enumr parts.enums parts.enum_end parts.named parts.unnamed parts.scoped_enum parts.unscoped_kind parts.enum_kind parts.enum vars.specs_before vars.typedef vars.equals_value vars.init_args vars.paren_init vars.init_kind vars.init vars.name_attrs vars.var vars.vars vars.default_argument vars.param vars.params vars.declared vars.local vars.bare_local stmts.range_ahead stmts.case_label stmts.default_label stmts.label stmts.expr_stmt stmts.returned stmts.return_stmt stmts.break_stmt stmts.continue_stmt stmts.empty_stmt stmts.for_start stmts.for_steps stmts.for_range stmts.for_head stmts.block_with stmts.if_stmt stmts.while_stmt stmts.do_stmt stmts.for_stmt stmts.switch_item stmts.switch_stmt stmts.jump_stmt stmts.loop_stmt stmts.stmt_kind stmts.stmt_with stmts.behind_attrs stmts.plain_item stmts.item_with stmts.deeper decls.member_name decls.paren_params decls.body decls.function_end decls.function decls.vars_end decls.entity_kind decls.entity_end decls.entity decls.minit decls.minits decls.ctor_body decls.ctor_end decls.dtor_end decls.ctor decls.dtor decls.behind_attrs decls.member_function decls.base decls.bases decls.members decls.class_body decls.class_end decls.class_over decls.declared_member decls.member_kind decls.member_over decls.deeper_member decls.space_names decls.decls decls.space_over decls.declared decls.decl_kind decls.decl_over decls.deeper_decl decls.unit
declarators_hold = refl

-- initializers
abbrev initializers : List Row
initializers =
    ("int x = 1 , y = { 1 , 2 } , z { } , w ( 3 , 4 ) ;", unit (decl (d.Entity (entity 0 (of_word w.Int) (entities.Vars (set "x" (initial (i.Equals (number 1))) ∷ set "y" (initial (i.EqualsList (braces (c.Value (number 1) ∷ c.Value (number 2) ∷ [])))) ∷ set "z" (initial (i.DirectList (braces []))) ∷ set "w" (initial (i.Direct (args (number 3 ∷ number 4 ∷ [])))) ∷ [])))) ∷ [])) ∷
    ("int w ( 3 ) ; int v ( a ) ;", unit (decl (d.Entity (entity 0 (of_word w.Int) (entities.Vars (set "w" (initial (i.Direct (args (number 3 ∷ [])))) ∷ [])))) ∷ decl (d.Entity (entity 0 (of_word w.Int) (entities.Vars (set "v" (initial (i.Direct (args (name "a" ∷ [])))) ∷ [])))) ∷ [])) ∷
    ("int w ( n :: a ( 1 ) , b = 2 ) ;", unit (decl (d.Entity (entity 0 (of_word w.Int) (entities.Vars (set "w" (initial (i.Direct (args (postfix (expr (e.Name (name_in ("n" ∷ []) "a"))) (m.Call (args (number 1 ∷ [])) ∷ []) ∷ expr (e.Assign (name "b") a.Plain (number 2)) ∷ [])))) ∷ [])))) ∷ [])) ∷
    ("int x = a = b , y = c ? d : e , z = throw ;", unit (decl (d.Entity (entity 0 (of_word w.Int) (entities.Vars (set "x" (initial (i.Equals (expr (e.Assign (name "a") a.Plain (name "b"))))) ∷ set "y" (initial (i.Equals (expr (e.Conditional (name "c") (name "d") (name "e"))))) ∷ set "z" (initial (i.Equals (expr (e.Throw None)))) ∷ [])))) ∷ [])) ∷
    ("int x { 1 , { 2 , { } } , } , y = { a = b } ;", unit (decl (d.Entity (entity 0 (of_word w.Int) (entities.Vars (set "x" (initial (i.DirectList (braces (c.Value (number 1) ∷ c.Nested (braces (c.Value (number 2) ∷ c.Nested (braces []) ∷ [])) ∷ [])))) ∷ set "y" (initial (i.EqualsList (braces (c.Value (expr (e.Assign (name "a") a.Plain (name "b"))) ∷ [])))) ∷ [])))) ∷ [])) ∷
    ("int x = Size ( 1 ) , y = int { } , z = new Size * [ 2 ] ;", unit (decl (d.Entity (entity 0 (of_word w.Int) (entities.Vars (set "x" (initial (i.Equals (expr (e.OfType (type_name "Size") (given.Args (args (number 1 ∷ []))))))) ∷ set "y" (initial (i.Equals (expr (e.OfWord (simple w.Int) (given.Braces (braces [])))))) ∷ set "z" (initial (i.Equals (new (of_name (type_name "Size")) (false ∷ []) (Some (number 2)) None))) ∷ [])))) ∷ [])) ∷
    ("int x ( 1 , Size ( 2 ) ) , y ( - int ( 3 ) ) ;", unit (decl (d.Entity (entity 0 (of_word w.Int) (entities.Vars (set "x" (initial (i.Direct (args (number 1 ∷ expr (e.OfType (type_name "Size") (given.Args (args (number 2 ∷ [])))) ∷ [])))) ∷ set "y" (initial (i.Direct (args (prefix p.Minus (expr (e.OfWord (simple w.Int) (given.Args (args (number 3 ∷ []))))) ∷ [])))) ∷ [])))) ∷ [])) ∷
    ("char x [ ] = \"a\" \"b\" ;", unit (decl (d.Entity (entity 0 (of_word w.Char) (entities.Vars (variable (pointers [] false) "x" 0 (unbounded ∷ []) (Some (initial (i.Equals (expr (e.Str (codes "a" ∷ codes "b" ∷ [])))))) ∷ [])))) ∷ [])) ∷
    ("int x ( ( Size ) 1 ) , y ( Size :: a ( ) , :: n :: b ) ;", unit (decl (d.Entity (entity 0 (of_word w.Int) (entities.Vars (set "x" (initial (i.Direct (args (cast (type_id (of_name (type_name "Size"))) (number 1) ∷ [])))) ∷ set "y" (initial (i.Direct (args (postfix (expr (e.Name (name_in ("Size" ∷ []) "a"))) (m.Call (args []) ∷ []) ∷ expr (e.Name (in_global (name_in ("n" ∷ []) "b"))) ∷ [])))) ∷ [])))) ∷ [])) ∷ []

initializers_hold : Hold initializers
unfolding words_a_to_c words_d_to_i words_l_to_r words_in_s words_t_to_w brackets_and_marks single_operators arrows_and_assignments comparisons_and_shifts name_class number_class same_class many_of many_when others_by links_of ahead.type_end r.op r.last_part r.fname r.qtype r.named r.words_type r.name_type r.specs r.star r.ptrs r.bound r.typeid r.args r.paren_args r.clause r.clauses_in r.braces r.given r.string r.paren r.word_cast r.word_made r.id_expression r.type_made r.head_kind r.head r.subscript r.member_part r.member r.more_kind r.more r.postfix r.prefix r.delete r.new_bound r.new r.alignof_type r.sizeof_type r.sizeof_expr r.sizeof r.unary r.type_cast r.cast r.chain r.assigned r.choice r.chosen r.tail r.chain_or_more r.throw r.assign r.cond r.expr r.deeper parts.soup_over parts.deeper_soup parts.tail parts.virt parts.pieces parts.attribute parts.attrs parts.noex parts.assert parts.alias parts.enumr parts.enums parts.enum_end parts.named parts.unnamed parts.scoped_enum parts.unscoped_kind parts.enum_kind parts.enum vars.specs_before vars.typedef vars.equals_value vars.init_args vars.paren_init vars.init_kind vars.init vars.name_attrs vars.var vars.vars vars.default_argument vars.param vars.params vars.declared vars.local vars.bare_local stmts.range_ahead stmts.case_label stmts.default_label stmts.label stmts.expr_stmt stmts.returned stmts.return_stmt stmts.break_stmt stmts.continue_stmt stmts.empty_stmt stmts.for_start stmts.for_steps stmts.for_range stmts.for_head stmts.block_with stmts.if_stmt stmts.while_stmt stmts.do_stmt stmts.for_stmt stmts.switch_item stmts.switch_stmt stmts.jump_stmt stmts.loop_stmt stmts.stmt_kind stmts.stmt_with stmts.behind_attrs stmts.plain_item stmts.item_with stmts.deeper decls.member_name decls.paren_params decls.body decls.function_end decls.function decls.vars_end decls.entity_kind decls.entity_end decls.entity decls.minit decls.minits decls.ctor_body decls.ctor_end decls.dtor_end decls.ctor decls.dtor decls.behind_attrs decls.member_function decls.base decls.bases decls.members decls.class_body decls.class_end decls.class_over decls.declared_member decls.member_kind decls.member_over decls.deeper_member decls.space_names decls.decls decls.space_over decls.declared decls.decl_kind decls.decl_over decls.deeper_decl decls.unit
initializers_hold = refl

-- variables in blocks
abbrev variables_in_blocks : List BodyRow
variables_in_blocks =
    ("int a ; const b { } ; static c = 1 ;", item.Local (local 0 (of_word w.Int) (unset "a" ∷ [])) ∷ item.Local (local 0 (specs (modifies.Const ∷ []) untyped) (set "b" (initial (i.DirectList (braces []))) ∷ [])) ∷ item.Local (local 0 (specs (modifies.Static ∷ []) untyped) (set "c" (initial (i.Equals (number 1))) ∷ [])) ∷ []) ∷
    ("[ [ x ( y ) ] ] const int a = 1 , * b = & a ;", item.Local (local 1 (specs (modifies.Const ∷ []) (worded w.Int [])) (set "a" (initial (i.Equals (number 1))) ∷ variable (pointers (false ∷ []) false) "b" 0 [] (Some (initial (i.Equals (prefix p.Address (name "a"))))) ∷ [])) ∷ []) ∷
    ("Size a ( 1 ) ; int b ( c ) ;", item.Local (local 0 (of_name (type_name "Size")) (set "a" (initial (i.Direct (args (number 1 ∷ [])))) ∷ [])) ∷ item.Local (local 0 (of_word w.Int) (set "b" (initial (i.Direct (args (name "c" ∷ [])))) ∷ [])) ∷ []) ∷
    ("int a ( Size :: b ( ) ) ; int c ( 1 , Size ( 2 ) ) ;", item.Local (local 0 (of_word w.Int) (set "a" (initial (i.Direct (args (postfix (expr (e.Name (name_in ("Size" ∷ []) "b"))) (m.Call (args []) ∷ []) ∷ [])))) ∷ [])) ∷ item.Local (local 0 (of_word w.Int) (set "c" (initial (i.Direct (args (number 1 ∷ expr (e.OfType (type_name "Size") (given.Args (args (number 2 ∷ [])))) ∷ [])))) ∷ [])) ∷ []) ∷
    ("struct S x ; struct S final { } ; enum S y ;", item.Local (local 0 (specs [] (named (Some a_struct) (type_name "S") [])) (unset "x" ∷ [])) ∷ item.Local (local 0 (specs [] (named (Some a_struct) (type_name "S") [])) (set "final" (initial (i.DirectList (braces []))) ∷ [])) ∷ item.Local (local 0 (specs [] (named (Some an_enum) (type_name "S") [])) (unset "y" ∷ [])) ∷ []) ∷
    ("n :: Size a ; :: Size b [ 2 ] ; Size * const c ;", item.Local (local 0 (of_name (type_in false ("n" ∷ []) "Size")) (unset "a" ∷ [])) ∷ item.Local (local 0 (of_name (type_in true [] "Size")) (variable (pointers [] false) "b" 0 (bound (Some (number 2)) ∷ []) None ∷ [])) ∷ item.Local (local 0 (of_name (type_name "Size")) (variable (pointers (true ∷ []) false) "c" 0 [] None ∷ [])) ∷ []) ∷
    ("const n :: Size a ; const Size & b = a ;", item.Local (local 0 (specs (modifies.Const ∷ []) (named None (type_in false ("n" ∷ []) "Size") [])) (unset "a" ∷ [])) ∷ item.Local (local 0 (specs (modifies.Const ∷ []) (named None (type_name "Size") [])) (variable (pointers [] true) "b" 0 [] (Some (initial (i.Equals (name "a")))) ∷ [])) ∷ []) ∷
    ("Size * a = new Size [ 3 ] { 1 } ;", item.Local (local 0 (of_name (type_name "Size")) (variable (pointers (false ∷ []) false) "a" 0 [] (Some (initial (i.Equals (new (of_name (type_name "Size")) [] (Some (number 3)) (Some (given.Braces (braces (c.Value (number 1) ∷ [])))))))) ∷ [])) ∷ []) ∷
    ("int a [ [ x ( y ) ] ] [ 2 ] = { } ;", item.Local (local 0 (of_word w.Int) (variable (pointers [] false) "a" 1 (bound (Some (number 2)) ∷ []) (Some (initial (i.EqualsList (braces [])))) ∷ [])) ∷ []) ∷ []

variables_in_blocks_hold : HoldInBody variables_in_blocks
unfolding words_a_to_c words_d_to_i words_l_to_r words_in_s words_t_to_w brackets_and_marks single_operators arrows_and_assignments comparisons_and_shifts name_class number_class same_class many_of many_when others_by links_of ahead.type_end r.op r.last_part r.fname r.qtype r.named r.words_type r.name_type r.specs r.star r.ptrs r.bound r.typeid r.args r.paren_args r.clause r.clauses_in r.braces r.given r.string r.paren r.word_cast r.word_made r.id_expression r.type_made r.head_kind r.head r.subscript r.member_part r.member r.more_kind r.more r.postfix r.prefix r.delete r.new_bound r.new r.alignof_type r.sizeof_type r.sizeof_expr r.sizeof r.unary r.type_cast r.cast r.chain r.assigned r.choice r.chosen r.tail r.chain_or_more r.throw r.assign r.cond r.expr r.deeper parts.soup_over parts.deeper_soup parts.tail parts.virt parts.pieces parts.attribute parts.attrs parts.noex parts.assert parts.alias parts.enumr parts.enums parts.enum_end parts.named parts.unnamed parts.scoped_enum parts.unscoped_kind parts.enum_kind parts.enum vars.specs_before vars.typedef vars.equals_value vars.init_args vars.paren_init vars.init_kind vars.init vars.name_attrs vars.var vars.vars vars.default_argument vars.param vars.params vars.declared vars.local vars.bare_local stmts.range_ahead stmts.case_label stmts.default_label stmts.label stmts.expr_stmt stmts.returned stmts.return_stmt stmts.break_stmt stmts.continue_stmt stmts.empty_stmt stmts.for_start stmts.for_steps stmts.for_range stmts.for_head stmts.block_with stmts.if_stmt stmts.while_stmt stmts.do_stmt stmts.for_stmt stmts.switch_item stmts.switch_stmt stmts.jump_stmt stmts.loop_stmt stmts.stmt_kind stmts.stmt_with stmts.behind_attrs stmts.plain_item stmts.item_with stmts.deeper decls.member_name decls.paren_params decls.body decls.function_end decls.function decls.vars_end decls.entity_kind decls.entity_end decls.entity decls.minit decls.minits decls.ctor_body decls.ctor_end decls.dtor_end decls.ctor decls.dtor decls.behind_attrs decls.member_function decls.base decls.bases decls.members decls.class_body decls.class_end decls.class_over decls.declared_member decls.member_kind decls.member_over decls.deeper_member decls.space_names decls.decls decls.space_over decls.declared decls.decl_kind decls.decl_over decls.deeper_decl decls.unit
variables_in_blocks_hold = refl
