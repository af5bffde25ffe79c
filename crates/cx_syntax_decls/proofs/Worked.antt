-- Small cases, worked out by hand from the grammar: what is left behind a unit, or the fault and what is left from it on.
use Rattle.std.proofs.Common.{◌≡◌, ℕ, List, [], ◌∷◌, map, Option, Some, None, refl}
use Rattle.cx_base.specs.declared.rule.Rule.{Rule}
use Rattle.cx_base.specs.declared.rule.Rule.TheVariants.{Syntax, Nesting}
use Rattle.cx_grammar.specs.Reading.{many_of, many_when, others_by}
use Rattle.cx_syntax.specs.declared.class.Class.TheVariants as k
use Rattle.cx_syntax.specs.Classes.{same_class}
use Rattle.cx_syntax.specs.Linked.{links_of}
use Rattle.cx_syntax.specs.Readers as r
use Rattle.cx_syntax.proofs.Worked.{Case, tokens, seen}
use Rattle.cx_syntax_parts.specs.Readers as parts
use Rattle.cx_syntax_vars.specs.Readers as vars
use Rattle.cx_syntax_stmts.specs.Ahead as stmts_ahead
use Rattle.cx_syntax_stmts.specs.Readers as stmts
use Rattle.cx_syntax_decls.specs.Readers as d

abbrev read : Case → Option Rule × ℕ
read c = seen (d.unit c.0 (tokens c.1))

abbrev cases : List Case
cases =
    -- a variable
    (0, k.Int ∷ k.Ident ∷ k.Semicolon ∷ [], (None, 0)) ∷
    -- nothing at all
    (0, [], (None, 0)) ∷
    -- a name that ends in a TYPE stands in parameters
    (0, k.Int ∷ k.Ident ∷ k.OpenParen ∷ k.Ident ∷ k.ColonColon ∷ k.TypeName ∷ k.CloseParen ∷ k.Semicolon ∷ [], (None, 0)) ∷
    -- one that ends in an ID in arguments
    (1, k.Int ∷ k.Ident ∷ k.OpenParen ∷ k.Ident ∷ k.ColonColon ∷ k.Ident ∷ k.CloseParen ∷ k.Semicolon ∷ [], (None, 0)) ∷
    -- which are not there at the last level: the fault is where a parameter ends
    (0, k.Int ∷ k.Ident ∷ k.OpenParen ∷ k.Ident ∷ k.ColonColon ∷ k.Ident ∷ k.CloseParen ∷ k.Semicolon ∷ [], (Some Nesting, 3)) ∷
    -- also behind one name
    (0, k.Int ∷ k.Ident ∷ k.OpenParen ∷ k.Ident ∷ k.CloseParen ∷ k.Semicolon ∷ [], (Some Nesting, 3)) ∷
    -- which may go on to a type, with arguments or without
    (0, k.Int ∷ k.Ident ∷ k.OpenParen ∷ k.Ident ∷ k.Ident ∷ k.CloseParen ∷ k.Semicolon ∷ [], (Some Syntax, 4)) ∷
    -- a name among parameters goes on to a type
    (1, k.Int ∷ k.Ident ∷ k.OpenParen ∷ k.Int ∷ k.Comma ∷ k.Ident ∷ k.CloseParen ∷ k.Semicolon ∷ [], (Some Syntax, 3)) ∷
    -- a name alone begins specifiers
    (0, k.Ident ∷ k.Semicolon ∷ [], (Some Syntax, 2)) ∷
    -- pointers before a variable
    (0, k.Int ∷ k.Star ∷ k.Star ∷ k.Const ∷ k.Ident ∷ k.Semicolon ∷ [], (None, 0)) ∷
    -- and before a function
    (0, k.Int ∷ k.Star ∷ k.Amp ∷ k.Ident ∷ k.OpenParen ∷ k.CloseParen ∷ k.Semicolon ∷ [], (None, 0)) ∷
    -- a function of a class, behind a modifier
    (0, k.Static ∷ k.Ident ∷ k.ColonColon ∷ k.Ident ∷ k.OpenParen ∷ k.CloseParen ∷ k.Semicolon ∷ [], (None, 0)) ∷
    -- a type behind one
    (0, k.Static ∷ k.Ident ∷ k.ColonColon ∷ k.TypeName ∷ k.Ident ∷ k.Semicolon ∷ [], (None, 0)) ∷
    -- a name that is declared behind one
    (0, k.Const ∷ k.Ident ∷ k.Semicolon ∷ [], (None, 0)) ∷
    -- a type asks for a name
    (0, k.Const ∷ k.TypeName ∷ k.Semicolon ∷ [], (Some Syntax, 2)) ∷
    -- an operator function
    (0, k.TypeName ∷ k.Operator ∷ k.Plus ∷ k.OpenParen ∷ k.TypeName ∷ k.Comma ∷ k.TypeName ∷ k.CloseParen ∷ k.Semicolon ∷ [], (None, 0)) ∷
    -- a function with all that may stand behind it
    (1, k.Int ∷ k.Ident ∷ k.OpenParen ∷ k.Int ∷ k.Ident ∷ k.Equal ∷ k.Number ∷ k.CloseParen ∷ k.Const ∷ k.Noexcept ∷ k.OverrideIdent ∷ k.OpenBrace ∷ k.Return ∷ k.Ident ∷ k.Semicolon ∷ k.CloseBrace ∷ [], (None, 0)) ∷
    -- a default argument is a level deeper
    (0, k.Int ∷ k.Ident ∷ k.OpenParen ∷ k.Int ∷ k.Ident ∷ k.Equal ∷ k.Number ∷ k.CloseParen ∷ k.Semicolon ∷ [], (Some Nesting, 5)) ∷
    -- a pure function, or a variable of 0
    (0, k.Int ∷ k.Ident ∷ k.Equal ∷ k.Zero ∷ k.Semicolon ∷ [], (None, 0)) ∷
    -- a variable has no `default`
    (0, k.Int ∷ k.Ident ∷ k.Equal ∷ k.Default ∷ k.Semicolon ∷ [], (Some Syntax, 3)) ∷
    -- a function has
    (0, k.Int ∷ k.Ident ∷ k.OpenParen ∷ k.CloseParen ∷ k.Equal ∷ k.Default ∷ k.Semicolon ∷ [], (None, 0)) ∷
    -- a class
    (0, k.Struct ∷ k.TypeName ∷ k.Semicolon ∷ [], (None, 0)) ∷
    -- a variable of one
    (0, k.Struct ∷ k.TypeName ∷ k.Ident ∷ k.Semicolon ∷ [], (None, 0)) ∷
    -- and of one in it
    (0, k.Struct ∷ k.TypeName ∷ k.ColonColon ∷ k.TypeName ∷ k.Ident ∷ k.Semicolon ∷ [], (None, 0)) ∷
    -- a class that is final
    (0, k.Struct ∷ k.TypeName ∷ k.FinalIdent ∷ k.OpenBrace ∷ k.CloseBrace ∷ k.Semicolon ∷ [], (None, 0)) ∷
    -- a variable with that name
    (0, k.Struct ∷ k.TypeName ∷ k.FinalIdent ∷ k.Semicolon ∷ [], (None, 0)) ∷
    -- which may have braces behind attributes
    (0, k.OpenBracket ∷ k.OpenBracket ∷ k.CloseBracket ∷ k.CloseBracket ∷ k.Struct ∷ k.TypeName ∷ k.FinalIdent ∷ k.OpenBrace ∷ k.CloseBrace ∷ k.Semicolon ∷ [], (None, 0)) ∷
    -- a class asks for its end
    (0, k.Struct ∷ k.TypeName ∷ k.OpenBrace ∷ k.CloseBrace ∷ [], (Some Syntax, 1)) ∷
    -- bases
    (0, k.Class ∷ k.TypeName ∷ k.Colon ∷ k.Public ∷ k.TypeName ∷ k.Comma ∷ k.Ident ∷ k.ColonColon ∷ k.TypeName ∷ k.OpenBrace ∷ k.CloseBrace ∷ k.Semicolon ∷ [], (None, 0)) ∷
    -- an enumeration
    (0, k.Enum ∷ k.TypeName ∷ k.Colon ∷ k.Int ∷ k.Semicolon ∷ [], (None, 0)) ∷
    -- a variable of one
    (0, k.Enum ∷ k.TypeName ∷ k.Ident ∷ k.Semicolon ∷ [], (None, 0)) ∷
    -- a scoped one is declared with no variable
    (0, k.Enum ∷ k.Class ∷ k.TypeName ∷ k.Ident ∷ k.Semicolon ∷ [], (Some Syntax, 3)) ∷
    -- members
    (1, k.Struct ∷ k.TypeName ∷ k.OpenBrace ∷ k.Public ∷ k.Colon ∷ k.TypeName ∷ k.OpenParen ∷ k.CloseParen ∷ k.Semicolon ∷ k.Explicit ∷ k.TypeName ∷ k.OpenParen ∷ k.Int ∷ k.CloseParen ∷ k.Colon ∷ k.Ident ∷ k.OpenParen ∷ k.CloseParen ∷ k.Comma ∷ k.Ident ∷ k.ColonColon ∷ k.TypeName ∷ k.OpenBrace ∷ k.CloseBrace ∷ k.OpenBrace ∷ k.CloseBrace ∷ k.Virtual ∷ k.Tilde ∷ k.TypeName ∷ k.OpenParen ∷ k.CloseParen ∷ k.OverrideIdent ∷ k.Equal ∷ k.Zero ∷ k.Semicolon ∷ k.Int ∷ k.Ident ∷ k.Semicolon ∷ k.CloseBrace ∷ k.Semicolon ∷ [], (None, 0)) ∷
    -- are a level deeper
    (0, k.Struct ∷ k.TypeName ∷ k.OpenBrace ∷ k.Int ∷ k.Ident ∷ k.Semicolon ∷ k.CloseBrace ∷ k.Semicolon ∷ [], (Some Nesting, 6)) ∷
    -- member initializers stand behind `:`
    (1, k.Struct ∷ k.TypeName ∷ k.OpenBrace ∷ k.TypeName ∷ k.OpenParen ∷ k.CloseParen ∷ k.Ident ∷ k.OpenParen ∷ k.CloseParen ∷ k.OpenBrace ∷ k.CloseBrace ∷ k.CloseBrace ∷ k.Semicolon ∷ [], (Some Syntax, 8)) ∷
    -- a constructor has no result
    (0, k.TypeName ∷ k.OpenParen ∷ k.CloseParen ∷ k.Semicolon ∷ [], (Some Syntax, 4)) ∷
    -- a namespace in others
    (1, k.Namespace ∷ k.Ident ∷ k.ColonColon ∷ k.Ident ∷ k.OpenBrace ∷ k.Int ∷ k.Ident ∷ k.Semicolon ∷ k.CloseBrace ∷ [], (None, 0)) ∷
    -- its declarations are a level deeper
    (0, k.Namespace ∷ k.Ident ∷ k.OpenBrace ∷ k.Semicolon ∷ k.CloseBrace ∷ [], (Some Nesting, 3)) ∷
    -- no namespace stands in a class
    (1, k.Struct ∷ k.TypeName ∷ k.OpenBrace ∷ k.Namespace ∷ k.Ident ∷ k.OpenBrace ∷ k.CloseBrace ∷ k.CloseBrace ∷ k.Semicolon ∷ [], (Some Syntax, 7)) ∷
    -- no access stands in a unit
    (0, k.Public ∷ k.Colon ∷ k.Int ∷ k.Ident ∷ k.Semicolon ∷ [], (Some Syntax, 6)) ∷
    -- a unit ends where its declarations do
    (0, k.Int ∷ k.Ident ∷ k.Semicolon ∷ k.CloseBrace ∷ [], (Some Syntax, 2)) ∷ []

pub worked : map read cases ≡ map (λ c. c.2) cases
unfolding same_class many_of many_when others_by links_of r.op r.last_part r.fname r.qtype r.named r.words_type r.name_type r.specs r.star r.ptrs r.bound r.typeid r.args r.paren_args r.clause r.clauses_in r.braces r.given r.string r.paren r.word_cast r.word_made r.id_expression r.type_made r.head_kind r.head r.subscript r.member_part r.member r.more_kind r.more r.postfix r.prefix r.delete r.new_bound r.new r.alignof_type r.sizeof_type r.sizeof_expr r.sizeof r.unary r.type_cast r.cast r.chain r.assigned r.choice r.chosen r.tail r.chain_or_more r.throw r.assign r.cond r.expr r.deeper parts.soup_over parts.deeper_soup parts.tail parts.virt parts.pieces parts.attribute parts.attrs parts.noex parts.assert parts.alias parts.enumr parts.enums parts.enum_end parts.named parts.unnamed parts.scoped_enum parts.unscoped_kind parts.enum_kind parts.enum vars.specs_before vars.typedef vars.equals_value vars.init_args vars.paren_init vars.init_kind vars.init vars.name_attrs vars.var vars.vars vars.default_argument vars.param vars.params vars.declared vars.local vars.bare_local stmts_ahead.type_end stmts.range_ahead stmts.case_label stmts.default_label stmts.label stmts.expr_stmt stmts.returned stmts.return_stmt stmts.break_stmt stmts.continue_stmt stmts.empty_stmt stmts.for_start stmts.for_steps stmts.for_range stmts.for_head stmts.block_with stmts.if_stmt stmts.while_stmt stmts.do_stmt stmts.for_stmt stmts.switch_item stmts.switch_stmt stmts.jump_stmt stmts.loop_stmt stmts.stmt_kind stmts.stmt_with stmts.behind_attrs stmts.plain_item stmts.item_with stmts.deeper d.member_name d.paren_params d.body d.function_end d.function d.vars_end d.entity_kind d.entity_end d.entity d.minit d.minits d.ctor_body d.ctor_end d.dtor_end d.behind_attrs d.member_function d.base d.bases d.members d.class_body d.class_end d.class_over d.declared_member d.member_kind d.member_over d.deeper_member d.space_names d.decls d.space_over d.declared d.decl_kind d.decl_over d.deeper_decl d.unit
worked = refl
