-- Where the parts of trees stand, worked out by hand. Each token takes one place, from 0 on.
use Prim.Native.String.{String}
use Rattle.std.proofs.Common.{◌≡◌, ℕ, ◌+◌, true, false, List, [], ◌∷◌, map, Some, None, refl, pos}
use Rattle.std.specs.Prelude.{codes}
use Rattle.cx_base.specs.declared.diag.Mark.{Mark}
use Rattle.cx_base.specs.declared.diag.Span.{Span}
use Rattle.cx_base.specs.declared.int_type.IntType.TheVariants as ty
use Rattle.cx_tree.specs.declared.names.Ident.{Ident}
use Rattle.cx_tree.specs.declared.names.FunctionName.{FunctionName}
use Rattle.cx_tree.specs.declared.names.Last.TheVariants as last
use Rattle.cx_tree.specs.declared.names.TypeName.{TypeName}
use Rattle.cx_tree.specs.declared.operators.BinaryOp.{BinaryOp}
use Rattle.cx_tree.specs.declared.operators.BinaryOp.TheVariants as o
use Rattle.cx_tree.specs.declared.operators.Overloaded.TheVariants as v
use Rattle.cx_tree.specs.declared.specifiers.Ptrs.{Ptrs}
use Rattle.cx_tree.specs.declared.specifiers.Specs.{Specs}
use Rattle.cx_tree.specs.declared.specifiers.SpecsType.TheVariants as specified
use Rattle.cx_tree.specs.declared.specifiers.TypeWord.{TypeWord}
use Rattle.cx_tree.specs.declared.specifiers.TypeWord.TheVariants as w
use Rattle.cx_tree.specs.declared.exprs.Expr.{Expr, roll-Expr}
use Rattle.cx_tree.specs.declared.exprs.ExprKind.{ExprKind}
use Rattle.cx_tree.specs.declared.exprs.ExprKind.TheVariants as e
use Rattle.cx_tree.specs.declared.exprs.Operation.{Operation, roll-Operation}
use Rattle.cx_tree.specs.declared.exprs.More.{More, roll-More}
use Rattle.cx_tree.specs.declared.exprs.MoreKind.{MoreKind}
use Rattle.cx_tree.specs.declared.exprs.MoreKind.TheVariants as m
use Rattle.cx_tree.specs.declared.exprs.Reach.TheVariants as reach
use Rattle.cx_tree.specs.declared.exprs.Args.{roll-Args}
use Rattle.cx_tree.specs.declared.exprs.Braces.{Braces, roll-Braces}
use Rattle.cx_tree.specs.declared.exprs.Clause.{Clause}
use Rattle.cx_tree.specs.declared.exprs.Clause.TheVariants as c
use Rattle.cx_tree.specs.declared.exprs.Given.TheVariants as given
use Rattle.cx_tree.specs.declared.exprs.TypeId.{roll-TypeId}
use Rattle.cx_tree.specs.declared.stmts.Block.{roll-Block}
use Rattle.cx_tree.specs.declared.stmts.Item.TheVariants as item
use Rattle.cx_tree.specs.declared.stmts.Stmt.{Stmt, roll-Stmt}
use Rattle.cx_tree.specs.declared.stmts.StmtKind.{StmtKind}
use Rattle.cx_tree.specs.declared.stmts.StmtKind.TheVariants as s
use Rattle.cx_tree.specs.declared.stmts.InitKind.TheVariants as i
use Rattle.cx_tree.specs.declared.decls.Body.TheVariants as body
use Rattle.cx_tree.specs.declared.decls.Decl.{Decl, roll-Decl}
use Rattle.cx_tree.specs.declared.decls.DeclKind.TheVariants as d
use Rattle.cx_tree.specs.declared.decls.EntityKind.{EntityKind}
use Rattle.cx_tree.specs.declared.decls.EntityKind.TheVariants as entities
use Rattle.cx_tree.specs.declared.decls.Unit.{Unit as TranslationUnit}
use Rattle.cx_grammar.specs.Reading.{many_of, many_when, others_by}
use Rattle.cx_syntax.specs.declared.lexeme.Lexeme.{Lexeme}
use Rattle.cx_syntax.specs.Classes.{words_a_to_c, words_d_to_i, words_l_to_r, words_in_s, words_t_to_w, brackets_and_marks, single_operators, arrows_and_assignments, comparisons_and_shifts, name_class, number_class, same_class}
use Rattle.cx_syntax.specs.Linked.{links_of}
use Rattle.cx_syntax.specs.Readers as r
use Rattle.cx_syntax_parts.specs.Readers as parts
use Rattle.cx_syntax_vars.specs.Readers as vars
use Rattle.cx_syntax_stmts.specs.Ahead as ahead
use Rattle.cx_syntax_stmts.specs.Readers as stmts
use Rattle.cx_syntax_decls.specs.Readers as decls
use Rattle.cx_grammar_cases.proofs.Words.{tree, answer, text}

-- ---- tokens at their places

abbrev mark : ℕ → Mark
mark n = record { byte = n; line = 1; col = n + 1 }

-- from a token up to another
abbrev to : ℕ → ℕ → Span
to first behind = record { start = mark first; end = mark behind }

abbrev placed_from : ℕ → List Lexeme → List Lexeme
placed_from n [] = []
placed_from n (t ∷ ts) = record t { span = to n (n + 1) } ∷ placed_from (n + 1) ts

abbrev placed : String → List Lexeme
placed t = placed_from 0 (text t)

-- ---- trees, each with its first token and the one behind its last

abbrev ident : ℕ → String → Ident
ident at t = record { text = codes t; span = to at (at + 1) }

abbrev expr : ℕ → ℕ → ExprKind → Expr
expr first behind kind = roll-Expr (record { extent = to first behind; kind = kind })

abbrev name : ℕ → String → FunctionName
name at t = record { global = false; scopes = []; last = last.Ident (ident at t); span = to at (at + 1) }

abbrev named : ℕ → String → Expr
named at t = expr at (at + 1) (e.Name (name at t))

abbrev number : ℕ → ℕ → Expr
number at n = expr at (at + 1) (e.Number (record { ty = ty.Int; value = pos n }))

abbrev type_name : ℕ → String → TypeName
type_name at t = record { global = false; scopes = []; name = ident at t; span = to at (at + 1) }

abbrev operation : BinaryOp × Expr → Operation
operation u = roll-Operation (record { operator = u.0; operand = u.1 })

abbrev part : ℕ → ℕ → MoreKind → More
part first behind kind = roll-More (record { kind = kind; span = to first behind })

abbrev braces : ℕ → ℕ → List Clause → Braces
braces first behind clauses = roll-Braces (record { clauses = clauses; span = to first behind })

-- ---- expressions

abbrev exprs : List (String × Expr)
exprs =
    ("a", named 0 "a") ∷
    ("( a )", expr 0 3 (e.Paren (named 1 "a"))) ∷
    ("a - b - ( c )", expr 0 7 (e.Chain (named 0 "a") (operation (o.Subtract, named 2 "b") ∷ operation (o.Subtract, expr 4 7 (e.Paren (named 5 "c"))) ∷ []))) ∷
    ("a ? b : c", expr 0 5 (e.Conditional (named 0 "a") (named 2 "b") (named 4 "c"))) ∷
    ("throw a , b", expr 0 4 (e.Comma (expr 0 2 (e.Throw (Some (named 1 "a")))) (named 3 "b" ∷ []))) ∷
    ("a [ b ] ++", expr 0 5 (e.Postfix (named 0 "a") (part 1 4 (m.Subscript (named 2 "b")) ∷ part 4 5 m.Increment ∷ []))) ∷
    ("f ( a , b )", expr 0 6 (e.Postfix (named 0 "f") (part 1 6 (m.Call (roll-Args (record { items = named 2 "a" ∷ named 4 "b" ∷ []; span = to 1 6 }))) ∷ []))) ∷
    ("a . b -> ~ T ( )", expr 0 8 (e.Postfix (named 0 "a") (part 1 3 (m.Member reach.Dot (name 2 "b")) ∷ part 3 8 (m.Destroy reach.Arrow (record { class = ident 5 "T"; span = to 4 6 })) ∷ []))) ∷
    ("T { a , { b } }", expr 0 8 (e.OfType (type_name 0 "T") (given.Braces (braces 1 8 (c.Value (named 2 "a") ∷ c.Nested (braces 4 7 (c.Value (named 5 "b") ∷ [])) ∷ []))))) ∷ (
      "( T * ) a",
      expr 0 5 (e.Cast (roll-TypeId (record {
        specs = record { modifiers = []; ty = specified.Named (record { word = None; name = type_name 1 "T" }) []; span = to 1 2 };
        ptrs = record { stars = record { is_const = false; span = to 2 3 } ∷ []; is_reference = false };
        bounds = [];
        span = to 1 3;
      })) (named 4 "a")),
    ) ∷
    ("n :: a", expr 0 3 (e.Name (record { global = false; scopes = ident 0 "n" ∷ []; last = last.Ident (ident 2 "a"); span = to 0 3 }))) ∷
    (":: a", expr 0 2 (e.Name (record { global = true; scopes = []; last = last.Ident (ident 1 "a"); span = to 0 2 }))) ∷
    -- an operator's name from the word on, and the whole name
    (":: T :: operator ( )", expr 0 6 (e.Name (record { global = true; scopes = ident 1 "T" ∷ []; last = last.Operator (record { operator = v.Call; span = to 3 6 }); span = to 0 6 }))) ∷
    ("a . operator +", expr 0 4 (e.Postfix (named 0 "a") (part 1 4 (m.Member reach.Dot (record { global = false; scopes = []; last = last.Operator (record { operator = v.Binary o.Add; span = to 2 4 }); span = to 2 4 })) ∷ []))) ∷
    -- the word of a fundamental type
    ("int { a }", expr 0 4 (e.OfWord (record { word = w.Int; span = to 0 1 }) (given.Braces (braces 1 4 (c.Value (named 2 "a") ∷ []))))) ∷ []

exprs_hold : map (λ row. answer (r.expr (r.deeper 3) (placed row.0))) exprs ≡ map (λ row. tree row.1) exprs
unfolding words_a_to_c words_d_to_i words_l_to_r words_in_s words_t_to_w brackets_and_marks single_operators arrows_and_assignments comparisons_and_shifts name_class number_class same_class many_of many_when others_by links_of ahead.type_end r.op r.last_part r.fname r.qtype r.named r.words_type r.name_type r.specs r.star r.ptrs r.bound r.typeid r.args r.paren_args r.clause r.clauses_in r.braces r.given r.string r.paren r.word_cast r.word_made r.id_expression r.type_made r.head_kind r.head r.subscript r.member_part r.member r.more_kind r.more r.postfix r.prefix r.delete r.new_bound r.new r.alignof_type r.sizeof_type r.sizeof_expr r.sizeof r.unary r.type_cast r.cast r.chain r.assigned r.choice r.chosen r.tail r.chain_or_more r.throw r.assign r.cond r.expr r.deeper parts.soup_over parts.deeper_soup parts.tail parts.virt parts.pieces parts.attribute parts.attrs parts.noex parts.assert parts.alias parts.enumr parts.enums parts.enum_end parts.named parts.unnamed parts.scoped_enum parts.unscoped_kind parts.enum_kind parts.enum vars.specs_before vars.typedef vars.equals_value vars.init_args vars.paren_init vars.init_kind vars.init vars.name_attrs vars.var vars.vars vars.default_argument vars.param vars.params vars.declared vars.local vars.bare_local stmts.range_ahead stmts.case_label stmts.default_label stmts.label stmts.expr_stmt stmts.returned stmts.return_stmt stmts.break_stmt stmts.continue_stmt stmts.empty_stmt stmts.for_start stmts.for_steps stmts.for_range stmts.for_head stmts.block_with stmts.if_stmt stmts.while_stmt stmts.do_stmt stmts.for_stmt stmts.switch_item stmts.switch_stmt stmts.jump_stmt stmts.loop_stmt stmts.stmt_kind stmts.stmt_with stmts.behind_attrs stmts.plain_item stmts.item_with stmts.deeper decls.member_name decls.paren_params decls.body decls.function_end decls.function decls.vars_end decls.entity_kind decls.entity_end decls.entity decls.minit decls.minits decls.ctor_body decls.ctor_end decls.dtor_end decls.ctor decls.dtor decls.behind_attrs decls.member_function decls.base decls.bases decls.members decls.class_body decls.class_end decls.class_over decls.declared_member decls.member_kind decls.member_over decls.deeper_member decls.space_names decls.decls decls.space_over decls.declared decls.decl_kind decls.decl_over decls.deeper_decl decls.unit
exprs_hold = refl

-- ---- units

abbrev word : ℕ → TypeWord → Specs
word at t = record { modifiers = []; ty = specified.Words t []; span = to at (at + 1) }

abbrev entity : ℕ → ℕ → Specs → EntityKind → Decl
entity first behind words kind = roll-Decl (record { kind = d.Entity (record { attrs = 0; specs = words; kind = kind }); span = to first behind })

abbrev stmt : ℕ → ℕ → StmtKind → Stmt
stmt first behind kind = roll-Stmt (record { attrs = 0; kind = kind; span = to first behind })

abbrev no_pointers : Ptrs
no_pointers = record { stars = []; is_reference = false }

abbrev units : List (String × List Decl)
units =
    (";", roll-Decl (record { kind = d.Empty; span = to 0 1 }) ∷ []) ∷ (
      "int x = 1 , * y ;",
      entity 0 8 (word 0 w.Int) (entities.Vars (
          record { ptrs = no_pointers; name = ident 1 "x"; attrs = 0; bounds = []; init = Some (record { kind = i.Equals (number 3 1); span = to 2 4 }); span = to 1 4 } ∷
          record { ptrs = record { stars = record { is_const = false; span = to 5 6 } ∷ []; is_reference = false }; name = ident 6 "y"; attrs = 0; bounds = []; init = None; span = to 5 7 } ∷ [])) ∷ [],
    ) ∷ (
      "void f ( ) { while ( a ) ; }",
      entity 0 11 (word 0 w.Void) (entities.Function (record {
        ptrs = no_pointers;
        name = name 1 "f";
        params = [];
        is_const = false;
        noexcept = 0;
        virtuals = [];
        body = body.Block (roll-Block (record { items = item.Stmt (stmt 5 10 (s.While (to 5 6) (named 7 "a") (stmt 9 10 s.Empty))) ∷ []; close = to 10 11; span = to 4 11 }));
      })) ∷ [],
    ) ∷ []

abbrev unit : List Decl → TranslationUnit
unit declarations = record { decls = declarations }

units_hold : map (λ row. answer (decls.unit 3 (placed row.0))) units ≡ map (λ row. tree (unit row.1)) units
unfolding words_a_to_c words_d_to_i words_l_to_r words_in_s words_t_to_w brackets_and_marks single_operators arrows_and_assignments comparisons_and_shifts name_class number_class same_class many_of many_when others_by links_of ahead.type_end r.op r.last_part r.fname r.qtype r.named r.words_type r.name_type r.specs r.star r.ptrs r.bound r.typeid r.args r.paren_args r.clause r.clauses_in r.braces r.given r.string r.paren r.word_cast r.word_made r.id_expression r.type_made r.head_kind r.head r.subscript r.member_part r.member r.more_kind r.more r.postfix r.prefix r.delete r.new_bound r.new r.alignof_type r.sizeof_type r.sizeof_expr r.sizeof r.unary r.type_cast r.cast r.chain r.assigned r.choice r.chosen r.tail r.chain_or_more r.throw r.assign r.cond r.expr r.deeper parts.soup_over parts.deeper_soup parts.tail parts.virt parts.pieces parts.attribute parts.attrs parts.noex parts.assert parts.alias parts.enumr parts.enums parts.enum_end parts.named parts.unnamed parts.scoped_enum parts.unscoped_kind parts.enum_kind parts.enum vars.specs_before vars.typedef vars.equals_value vars.init_args vars.paren_init vars.init_kind vars.init vars.name_attrs vars.var vars.vars vars.default_argument vars.param vars.params vars.declared vars.local vars.bare_local stmts.range_ahead stmts.case_label stmts.default_label stmts.label stmts.expr_stmt stmts.returned stmts.return_stmt stmts.break_stmt stmts.continue_stmt stmts.empty_stmt stmts.for_start stmts.for_steps stmts.for_range stmts.for_head stmts.block_with stmts.if_stmt stmts.while_stmt stmts.do_stmt stmts.for_stmt stmts.switch_item stmts.switch_stmt stmts.jump_stmt stmts.loop_stmt stmts.stmt_kind stmts.stmt_with stmts.behind_attrs stmts.plain_item stmts.item_with stmts.deeper decls.member_name decls.paren_params decls.body decls.function_end decls.function decls.vars_end decls.entity_kind decls.entity_end decls.entity decls.minit decls.minits decls.ctor_body decls.ctor_end decls.dtor_end decls.ctor decls.dtor decls.behind_attrs decls.member_function decls.base decls.bases decls.members decls.class_body decls.class_end decls.class_over decls.declared_member decls.member_kind decls.member_over decls.deeper_member decls.space_names decls.decls decls.space_over decls.declared decls.decl_kind decls.decl_over decls.deeper_decl decls.unit
units_hold = refl
