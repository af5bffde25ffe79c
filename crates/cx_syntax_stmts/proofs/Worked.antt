-- Small cases, worked out by hand from the grammar: what is left behind the rule, or the fault and what is left from it on.
use Rattle.std.proofs.Common.{◌≡◌, ℕ, true, false, List, [], ◌∷◌, map, Option, Some, None, refl}
use Rattle.cx_base.specs.declared.diag.Span.{Span}
use Rattle.cx_base.specs.declared.rule.Rule.{Rule}
use Rattle.cx_base.specs.declared.rule.Rule.TheVariants.{Syntax, Nesting}
use Rattle.cx_grammar.specs.Exact.{done}
use Rattle.cx_grammar.specs.Reading.{many_of, many_when, others_by}
use Rattle.cx_tree.specs.declared.exprs.Expr.{Expr}
use Rattle.cx_tree.specs.declared.names.Ident.{Ident}
use Rattle.cx_tree.specs.declared.names.Last.TheVariants as last
use Rattle.cx_tree.specs.declared.specifiers.SpecsType.TheVariants as type
use Rattle.cx_tree.specs.declared.specifiers.TypeWord.TheVariants as words
use Rattle.cx_tree.specs.declared.stmts.ForStart.TheVariants as start
use Rattle.cx_tree.specs.declared.stmts.Item.TheVariants as i
use Rattle.cx_tree.specs.declared.stmts.Stmt.{Stmt}
use Rattle.cx_tree.specs.declared.stmts.StmtKind.{StmtKind}
use Rattle.cx_tree.specs.declared.stmts.StmtKind.TheVariants as kinds
use Rattle.cx_syntax.specs.declared.class.Class.TheVariants as k
use Rattle.cx_syntax.specs.Classes.{same_class}
use Rattle.cx_syntax.specs.Linked.{links_of}
use Rattle.cx_syntax.specs.Readers as x
use Rattle.cx_syntax.specs.Values.{no_mark, expr_of, name_of, function_name}
use Rattle.cx_syntax.proofs.Worked.{Case, lexeme, tokens, seen}
use Rattle.cx_syntax_parts.specs.Readers as parts
use Rattle.cx_syntax_vars.specs.Readers as w
use Rattle.cx_syntax_stmts.specs.Ahead.{type_end}
use Rattle.cx_syntax_stmts.specs.Readers as r
use Rattle.cx_syntax_stmts.specs.Values.{stmt_of}

-- ---- statements

abbrev pub read_stmt : Case → Option Rule × ℕ
read_stmt c = seen (r.stmt c.0 (tokens c.1))

abbrev pub stmt_cases : List Case
stmt_cases =
    -- nothing
    (0, k.Semicolon ∷ [], (None, 1)) ∷
    -- an expression
    (0, k.Ident ∷ k.Semicolon ∷ [], (None, 1)) ∷
    -- that begins with a type and `(` is none
    (1, k.TypeName ∷ k.OpenParen ∷ k.Ident ∷ k.CloseParen ∷ k.Semicolon ∷ [], (Some Syntax, 5)) ∷
    -- be it qualified
    (1, k.Ident ∷ k.ColonColon ∷ k.TypeName ∷ k.OpenParen ∷ k.Ident ∷ k.CloseParen ∷ k.Semicolon ∷ [], (Some Syntax, 5)) ∷
    -- or a word
    (1, k.Int ∷ k.OpenParen ∷ k.Ident ∷ k.CloseParen ∷ k.Semicolon ∷ [], (Some Syntax, 5)) ∷
    -- with braces it is one
    (1, k.TypeName ∷ k.OpenBrace ∷ k.Number ∷ k.CloseBrace ∷ k.Semicolon ∷ [], (None, 1)) ∷
    -- a statement declares nothing
    (0, k.TypeName ∷ k.Ident ∷ k.Semicolon ∷ [], (Some Syntax, 3)) ∷
    -- `else`
    (1, k.If ∷ k.OpenParen ∷ k.Ident ∷ k.CloseParen ∷ k.Semicolon ∷ k.Else ∷ k.Semicolon ∷ [], (None, 1)) ∷
    -- one for each `if`
    (2, k.If ∷ k.OpenParen ∷ k.Ident ∷ k.CloseParen ∷ k.If ∷ k.OpenParen ∷ k.Ident ∷ k.CloseParen ∷ k.Semicolon ∷ k.Else ∷ k.Semicolon ∷ k.Else ∷ k.Semicolon ∷ [], (None, 1)) ∷
    -- or for the nearest
    (2, k.If ∷ k.OpenParen ∷ k.Ident ∷ k.CloseParen ∷ k.If ∷ k.OpenParen ∷ k.Ident ∷ k.CloseParen ∷ k.Semicolon ∷ k.Else ∷ k.Semicolon ∷ [], (None, 1)) ∷
    -- behind a loop it is that of the loop's statement
    (2, k.If ∷ k.OpenParen ∷ k.Ident ∷ k.CloseParen ∷ k.While ∷ k.OpenParen ∷ k.Ident ∷ k.CloseParen ∷ k.If ∷ k.OpenParen ∷ k.Ident ∷ k.CloseParen ∷ k.Semicolon ∷ k.Else ∷ k.Semicolon ∷ [], (Some Nesting, 8)) ∷
    -- and not a second one
    (1, k.If ∷ k.OpenParen ∷ k.Ident ∷ k.CloseParen ∷ k.Semicolon ∷ k.Else ∷ k.Semicolon ∷ k.Else ∷ k.Semicolon ∷ [], (None, 3)) ∷
    -- the parts of an `if` are a level deeper
    (0, k.If ∷ k.OpenParen ∷ k.Ident ∷ k.CloseParen ∷ k.Semicolon ∷ [], (Some Nesting, 6)) ∷
    -- with a word behind it
    (1, k.If ∷ k.Constexpr ∷ k.OpenParen ∷ k.Ident ∷ k.CloseParen ∷ k.Semicolon ∷ [], (None, 1)) ∷
    -- a loop
    (1, k.While ∷ k.OpenParen ∷ k.Ident ∷ k.CloseParen ∷ k.Break ∷ k.Semicolon ∷ [], (None, 1)) ∷
    -- one with its condition behind
    (1, k.Do ∷ k.Semicolon ∷ k.While ∷ k.OpenParen ∷ k.Ident ∷ k.CloseParen ∷ k.Semicolon ∷ [], (None, 1)) ∷
    -- and a `;`
    (1, k.Do ∷ k.Semicolon ∷ k.While ∷ k.OpenParen ∷ k.Ident ∷ k.CloseParen ∷ [], (Some Syntax, 1)) ∷
    -- a loop with nothing
    (1, k.For ∷ k.OpenParen ∷ k.Semicolon ∷ k.Semicolon ∷ k.CloseParen ∷ k.Semicolon ∷ [], (None, 1)) ∷
    -- with a variable
    (1, k.For ∷ k.OpenParen ∷ k.Int ∷ k.Ident ∷ k.Equal ∷ k.Number ∷ k.Semicolon ∷ k.Ident ∷ k.Semicolon ∷ k.Ident ∷ k.CloseParen ∷ k.Continue ∷ k.Semicolon ∷ [], (None, 1)) ∷
    -- with expressions
    (1, k.For ∷ k.OpenParen ∷ k.Ident ∷ k.Comma ∷ k.Ident ∷ k.Semicolon ∷ k.Ident ∷ k.Semicolon ∷ k.CloseParen ∷ k.Semicolon ∷ [], (None, 1)) ∷
    -- that do not begin with a type and `(`
    (1, k.For ∷ k.OpenParen ∷ k.TypeName ∷ k.OpenParen ∷ k.Ident ∷ k.CloseParen ∷ k.Semicolon ∷ k.Semicolon ∷ k.CloseParen ∷ k.Semicolon ∷ [], (Some Syntax, 8)) ∷
    -- over a range
    (1, k.For ∷ k.OpenParen ∷ k.TypeName ∷ k.Ident ∷ k.Colon ∷ k.Ident ∷ k.CloseParen ∷ k.Semicolon ∷ [], (None, 1)) ∷
    -- of a type that is left to its initializer
    (1, k.For ∷ k.OpenParen ∷ k.Const ∷ k.Ident ∷ k.Colon ∷ k.Ident ∷ k.CloseParen ∷ k.Semicolon ∷ [], (None, 1)) ∷
    -- which has one name
    (1, k.For ∷ k.OpenParen ∷ k.Int ∷ k.Ident ∷ k.Comma ∷ k.Ident ∷ k.Colon ∷ k.Ident ∷ k.CloseParen ∷ k.Semicolon ∷ [], (Some Syntax, 5)) ∷
    -- and no less
    (1, k.For ∷ k.OpenParen ∷ k.Int ∷ k.Colon ∷ k.Ident ∷ k.CloseParen ∷ k.Semicolon ∷ [], (Some Syntax, 5)) ∷
    -- the variables of a loop have no attributes
    (1, k.For ∷ k.OpenParen ∷ k.OpenBracket ∷ k.OpenBracket ∷ k.Ident ∷ k.CloseBracket ∷ k.CloseBracket ∷ k.Int ∷ k.Ident ∷ k.Semicolon ∷ k.Semicolon ∷ k.CloseParen ∷ k.Semicolon ∷ [], (Some Syntax, 12)) ∷
    -- labels
    (2, k.Switch ∷ k.OpenParen ∷ k.Ident ∷ k.CloseParen ∷ k.OpenBrace ∷ k.Case ∷ k.Number ∷ k.Colon ∷ k.Semicolon ∷ k.Default ∷ k.Colon ∷ k.Break ∷ k.Semicolon ∷ k.CloseBrace ∷ [], (None, 1)) ∷
    -- stand in a `switch` alone
    (2, k.If ∷ k.OpenParen ∷ k.Ident ∷ k.CloseParen ∷ k.Case ∷ k.Number ∷ k.Colon ∷ k.Semicolon ∷ [], (Some Syntax, 5)) ∷
    -- and not in a block in it
    (2, k.Switch ∷ k.OpenParen ∷ k.Ident ∷ k.CloseParen ∷ k.OpenBrace ∷ k.OpenBrace ∷ k.Case ∷ k.Number ∷ k.Colon ∷ k.Semicolon ∷ k.CloseBrace ∷ k.CloseBrace ∷ [], (Some Syntax, 7)) ∷
    -- a return with nothing
    (0, k.Return ∷ k.Semicolon ∷ [], (None, 1)) ∷
    -- with braces
    (1, k.Return ∷ k.OpenBrace ∷ k.Number ∷ k.Comma ∷ k.CloseBrace ∷ k.Semicolon ∷ [], (None, 1)) ∷
    -- a block
    (0, k.OpenBrace ∷ k.CloseBrace ∷ [], (None, 1)) ∷
    -- what stands in it is a level deeper
    (0, k.OpenBrace ∷ k.Semicolon ∷ k.CloseBrace ∷ [], (Some Nesting, 3)) ∷
    -- attributes
    (1, k.OpenBracket ∷ k.OpenBracket ∷ k.Ident ∷ k.OpenParen ∷ k.Number ∷ k.CloseParen ∷ k.CloseBracket ∷ k.CloseBracket ∷ k.Semicolon ∷ [], (None, 1)) ∷
    -- are counted
    (0, k.OpenBracket ∷ k.OpenBracket ∷ k.Ident ∷ k.OpenParen ∷ k.Number ∷ k.CloseParen ∷ k.CloseBracket ∷ k.CloseBracket ∷ k.Semicolon ∷ [], (Some Nesting, 6)) ∷
    -- no `if` is there
    (0, k.Else ∷ k.Semicolon ∷ [], (Some Syntax, 3)) ∷ []

pub worked_stmts : map read_stmt stmt_cases ≡ map (λ c. c.2) stmt_cases
unfolding same_class many_of many_when others_by links_of x.op x.last_part x.fname x.qtype x.named x.words_type x.name_type x.star x.ptrs x.bound x.typeid x.args x.paren_args x.clause x.clauses_in x.braces x.given x.string x.paren x.word_cast x.word_made x.id_expression x.type_made x.head_kind x.head x.subscript x.member_part x.member x.more_kind x.more x.postfix x.prefix x.delete x.new_bound x.new x.alignof_type x.sizeof_type x.sizeof_expr x.sizeof x.unary x.type_cast x.cast x.chain x.assigned x.choice x.chosen x.tail x.chain_or_more x.throw x.assign x.cond x.expr x.deeper parts.soup_over parts.deeper_soup parts.attribute parts.attrs parts.assert parts.alias parts.pieces parts.enumr parts.enums parts.enum_end parts.named parts.unnamed parts.scoped_enum parts.unscoped_kind parts.enum_kind parts.enum w.specs_before w.equals_value w.init_args w.paren_init w.init_kind w.init w.name_attrs w.var w.vars w.declared w.local w.bare_local w.typedef type_end r.range_ahead r.case_label r.default_label r.label r.expr_stmt r.returned r.return_stmt r.break_stmt r.continue_stmt r.empty_stmt r.for_start r.for_steps r.for_range r.for_head r.block_with r.if_stmt r.while_stmt r.do_stmt r.for_stmt r.switch_item r.switch_stmt r.jump_stmt r.loop_stmt r.stmt_kind r.stmt_with r.behind_attrs r.plain_item r.item_with r.deeper x.specs
worked_stmts = refl

-- ---- what stands in a block

abbrev pub read_item : Case → Option Rule × ℕ
read_item c = seen (r.item c.0 (tokens c.1))

abbrev pub item_cases : List Case
item_cases =
    -- variables
    (0, k.TypeName ∷ k.Ident ∷ k.Semicolon ∷ [], (None, 1)) ∷
    -- of a qualified type
    (0, k.Ident ∷ k.ColonColon ∷ k.Ident ∷ k.ColonColon ∷ k.TypeName ∷ k.Ident ∷ k.Comma ∷ k.Star ∷ k.Ident ∷ k.Semicolon ∷ [], (None, 1)) ∷
    -- a name that is no type's is an expression
    (0, k.Ident ∷ k.ColonColon ∷ k.Ident ∷ k.ColonColon ∷ k.Ident ∷ k.OpenParen ∷ k.CloseParen ∷ k.Semicolon ∷ [], (None, 1)) ∷
    -- a type and `(` are neither
    (1, k.TypeName ∷ k.OpenParen ∷ k.Ident ∷ k.CloseParen ∷ k.Semicolon ∷ [], (Some Syntax, 5)) ∷
    -- a name in a type
    (0, k.TypeName ∷ k.ColonColon ∷ k.Ident ∷ k.OpenParen ∷ k.CloseParen ∷ k.Semicolon ∷ [], (None, 1)) ∷
    -- modifiers
    (0, k.Const ∷ k.Ident ∷ k.Equal ∷ k.Number ∷ k.Semicolon ∷ [], (None, 1)) ∷
    -- a variable of an enumeration
    (0, k.Enum ∷ k.TypeName ∷ k.Ident ∷ k.Semicolon ∷ [], (None, 1)) ∷
    -- an enumeration
    (0, k.Enum ∷ k.TypeName ∷ k.Semicolon ∷ [], (None, 1)) ∷
    -- with its type and enumerators
    (0, k.Enum ∷ k.TypeName ∷ k.Colon ∷ k.Int ∷ k.OpenBrace ∷ k.Ident ∷ k.Comma ∷ k.CloseBrace ∷ k.Semicolon ∷ [], (None, 1)) ∷
    -- a scoped one is no type of a variable
    (0, k.Enum ∷ k.Class ∷ k.TypeName ∷ k.Ident ∷ k.Semicolon ∷ [], (Some Syntax, 3)) ∷
    -- neither of the two
    (0, k.Enum ∷ k.TypeName ∷ k.CloseParen ∷ [], (Some Syntax, 2)) ∷
    -- a qualified one
    (0, k.Enum ∷ k.Ident ∷ k.ColonColon ∷ k.TypeName ∷ k.Ident ∷ k.Semicolon ∷ [], (None, 1)) ∷
    -- attributes before variables
    (1, k.OpenBracket ∷ k.OpenBracket ∷ k.Ident ∷ k.CloseBracket ∷ k.CloseBracket ∷ k.Enum ∷ k.TypeName ∷ k.Ident ∷ k.Semicolon ∷ [], (None, 1)) ∷
    -- and none before an enumeration
    (1, k.OpenBracket ∷ k.OpenBracket ∷ k.Ident ∷ k.CloseBracket ∷ k.CloseBracket ∷ k.Enum ∷ k.TypeName ∷ k.OpenBrace ∷ k.CloseBrace ∷ k.Semicolon ∷ [], (Some Syntax, 4)) ∷
    -- nor before a name for a type
    (1, k.OpenBracket ∷ k.OpenBracket ∷ k.Ident ∷ k.CloseBracket ∷ k.CloseBracket ∷ k.Using ∷ k.TypeName ∷ k.Equal ∷ k.Int ∷ k.Semicolon ∷ [], (Some Syntax, 6)) ∷
    -- a name for a type
    (0, k.Using ∷ k.TypeName ∷ k.Equal ∷ k.Int ∷ k.Semicolon ∷ [], (None, 1)) ∷
    -- the older way
    (0, k.Typedef ∷ k.Const ∷ k.TypeName ∷ k.TypeName ∷ k.Semicolon ∷ [], (None, 1)) ∷
    -- an assertion
    (0, k.StaticAssert ∷ k.OpenParen ∷ k.Number ∷ k.CloseParen ∷ k.Semicolon ∷ [], (None, 1)) ∷
    -- no class stands in a block
    (0, k.Struct ∷ k.TypeName ∷ k.OpenBrace ∷ k.CloseBrace ∷ k.Semicolon ∷ [], (Some Syntax, 4)) ∷
    -- nor a label
    (0, k.Case ∷ k.Number ∷ k.Colon ∷ k.Semicolon ∷ [], (Some Syntax, 5)) ∷ []

pub worked_items : map read_item item_cases ≡ map (λ c. c.2) item_cases
unfolding same_class many_of many_when others_by links_of x.op x.last_part x.fname x.qtype x.named x.words_type x.name_type x.star x.ptrs x.bound x.typeid x.args x.paren_args x.clause x.clauses_in x.braces x.given x.string x.paren x.word_cast x.word_made x.id_expression x.type_made x.head_kind x.head x.subscript x.member_part x.member x.more_kind x.more x.postfix x.prefix x.delete x.new_bound x.new x.alignof_type x.sizeof_type x.sizeof_expr x.sizeof x.unary x.type_cast x.cast x.chain x.assigned x.choice x.chosen x.tail x.chain_or_more x.throw x.assign x.cond x.expr x.deeper parts.soup_over parts.deeper_soup parts.attribute parts.attrs parts.assert parts.alias parts.pieces parts.enumr parts.enums parts.enum_end parts.named parts.unnamed parts.scoped_enum parts.unscoped_kind parts.enum_kind parts.enum w.specs_before w.equals_value w.init_args w.paren_init w.init_kind w.init w.name_attrs w.var w.vars w.declared w.local w.bare_local w.typedef type_end r.range_ahead r.case_label r.default_label r.label r.expr_stmt r.returned r.return_stmt r.break_stmt r.continue_stmt r.empty_stmt r.for_start r.for_steps r.for_range r.for_head r.block_with r.if_stmt r.while_stmt r.do_stmt r.for_stmt r.switch_item r.switch_stmt r.jump_stmt r.loop_stmt r.stmt_kind r.stmt_with r.behind_attrs r.plain_item r.item_with r.deeper x.specs
worked_items = refl

-- ---- trees

abbrev here : Span
here = record { start = no_mark; end = no_mark }

abbrev a : Ident
a = record { text = []; span = here }

abbrev named : Expr
named = expr_of (name_of ((None, ([], last.Ident a)), here), here)

abbrev plain : StmtKind → Stmt
plain kind = stmt_of ((0, kind), here)

abbrev empty : Stmt
empty = plain kinds.Empty

-- if (a) if (a) ; else ;
pub nearest : r.stmt 2 (tokens (k.If ∷ k.OpenParen ∷ k.Ident ∷ k.CloseParen ∷ k.If ∷ k.OpenParen ∷ k.Ident ∷ k.CloseParen ∷ k.Semicolon ∷ k.Else ∷ k.Semicolon ∷ []))
    ≡ done (plain (kinds.If false named (plain (kinds.If false named empty (Some empty))) None)) (lexeme k.End ∷ [])
unfolding same_class many_of many_when others_by links_of x.op x.last_part x.fname x.qtype x.named x.words_type x.name_type x.star x.ptrs x.bound x.typeid x.args x.paren_args x.clause x.clauses_in x.braces x.given x.string x.paren x.word_cast x.word_made x.id_expression x.type_made x.head_kind x.head x.subscript x.member_part x.member x.more_kind x.more x.postfix x.prefix x.delete x.new_bound x.new x.alignof_type x.sizeof_type x.sizeof_expr x.sizeof x.unary x.type_cast x.cast x.chain x.assigned x.choice x.chosen x.tail x.chain_or_more x.throw x.assign x.cond x.expr x.deeper parts.soup_over parts.deeper_soup parts.attribute parts.attrs parts.assert parts.alias parts.pieces parts.enumr parts.enums parts.enum_end parts.named parts.unnamed parts.scoped_enum parts.unscoped_kind parts.enum_kind parts.enum w.specs_before w.equals_value w.init_args w.paren_init w.init_kind w.init w.name_attrs w.var w.vars w.declared w.local w.bare_local w.typedef type_end r.range_ahead r.case_label r.default_label r.label r.expr_stmt r.returned r.return_stmt r.break_stmt r.continue_stmt r.empty_stmt r.for_start r.for_steps r.for_range r.for_head r.block_with r.if_stmt r.while_stmt r.do_stmt r.for_stmt r.switch_item r.switch_stmt r.jump_stmt r.loop_stmt r.stmt_kind r.stmt_with r.behind_attrs r.plain_item r.item_with r.deeper x.specs
nearest = refl

-- [[a(a)]] for (a; ; a) ;
pub steps : r.stmt 1 (tokens (k.OpenBracket ∷ k.OpenBracket ∷ k.Ident ∷ k.OpenParen ∷ k.Ident ∷ k.CloseParen ∷ k.CloseBracket ∷ k.CloseBracket ∷ k.For ∷ k.OpenParen ∷ k.Ident ∷ k.Semicolon ∷ k.Semicolon ∷ k.Ident ∷ k.CloseParen ∷ k.Semicolon ∷ []))
    ≡ done (stmt_of ((1, kinds.For here (start.Expr (Some named)) None (Some named) empty), here)) (lexeme k.End ∷ [])
unfolding same_class many_of many_when others_by links_of x.op x.last_part x.fname x.qtype x.named x.words_type x.name_type x.star x.ptrs x.bound x.typeid x.args x.paren_args x.clause x.clauses_in x.braces x.given x.string x.paren x.word_cast x.word_made x.id_expression x.type_made x.head_kind x.head x.subscript x.member_part x.member x.more_kind x.more x.postfix x.prefix x.delete x.new_bound x.new x.alignof_type x.sizeof_type x.sizeof_expr x.sizeof x.unary x.type_cast x.cast x.chain x.assigned x.choice x.chosen x.tail x.chain_or_more x.throw x.assign x.cond x.expr x.deeper parts.soup_over parts.deeper_soup parts.attribute parts.attrs parts.assert parts.alias parts.pieces parts.enumr parts.enums parts.enum_end parts.named parts.unnamed parts.scoped_enum parts.unscoped_kind parts.enum_kind parts.enum w.specs_before w.equals_value w.init_args w.paren_init w.init_kind w.init w.name_attrs w.var w.vars w.declared w.local w.bare_local w.typedef type_end r.range_ahead r.case_label r.default_label r.label r.expr_stmt r.returned r.return_stmt r.break_stmt r.continue_stmt r.empty_stmt r.for_start r.for_steps r.for_range r.for_head r.block_with r.if_stmt r.while_stmt r.do_stmt r.for_stmt r.switch_item r.switch_stmt r.jump_stmt r.loop_stmt r.stmt_kind r.stmt_with r.behind_attrs r.plain_item r.item_with r.deeper x.specs
steps = refl

-- for (int a : a) ;
pub range : r.item 1 (tokens (k.For ∷ k.OpenParen ∷ k.Int ∷ k.Ident ∷ k.Colon ∷ k.Ident ∷ k.CloseParen ∷ k.Semicolon ∷ []))
    ≡ done (i.Stmt (plain (kinds.ForRange here (record { modifiers = []; ty = type.Words words.Int []; span = here }) (record { stars = []; is_reference = false }) a named empty))) (lexeme k.End ∷ [])
unfolding same_class many_of many_when others_by links_of x.op x.last_part x.fname x.qtype x.named x.words_type x.name_type x.star x.ptrs x.bound x.typeid x.args x.paren_args x.clause x.clauses_in x.braces x.given x.string x.paren x.word_cast x.word_made x.id_expression x.type_made x.head_kind x.head x.subscript x.member_part x.member x.more_kind x.more x.postfix x.prefix x.delete x.new_bound x.new x.alignof_type x.sizeof_type x.sizeof_expr x.sizeof x.unary x.type_cast x.cast x.chain x.assigned x.choice x.chosen x.tail x.chain_or_more x.throw x.assign x.cond x.expr x.deeper parts.soup_over parts.deeper_soup parts.attribute parts.attrs parts.assert parts.alias parts.pieces parts.enumr parts.enums parts.enum_end parts.named parts.unnamed parts.scoped_enum parts.unscoped_kind parts.enum_kind parts.enum w.specs_before w.equals_value w.init_args w.paren_init w.init_kind w.init w.name_attrs w.var w.vars w.declared w.local w.bare_local w.typedef type_end r.range_ahead r.case_label r.default_label r.label r.expr_stmt r.returned r.return_stmt r.break_stmt r.continue_stmt r.empty_stmt r.for_start r.for_steps r.for_range r.for_head r.block_with r.if_stmt r.while_stmt r.do_stmt r.for_stmt r.switch_item r.switch_stmt r.jump_stmt r.loop_stmt r.stmt_kind r.stmt_with r.behind_attrs r.plain_item r.item_with r.deeper x.specs
range = refl

-- if constexpr (a) return; else do ; while (a);
pub others : r.stmt 2 (tokens (k.If ∷ k.Constexpr ∷ k.OpenParen ∷ k.Ident ∷ k.CloseParen ∷ k.Return ∷ k.Semicolon ∷ k.Else ∷ k.Do ∷ k.Semicolon ∷ k.While ∷ k.OpenParen ∷ k.Ident ∷ k.CloseParen ∷ k.Semicolon ∷ []))
    ≡ done (plain (kinds.If true named (plain (kinds.Return None)) (Some (plain (kinds.Do here empty named))))) (lexeme k.End ∷ [])
unfolding same_class many_of many_when others_by links_of x.op x.last_part x.fname x.qtype x.named x.words_type x.name_type x.star x.ptrs x.bound x.typeid x.args x.paren_args x.clause x.clauses_in x.braces x.given x.string x.paren x.word_cast x.word_made x.id_expression x.type_made x.head_kind x.head x.subscript x.member_part x.member x.more_kind x.more x.postfix x.prefix x.delete x.new_bound x.new x.alignof_type x.sizeof_type x.sizeof_expr x.sizeof x.unary x.type_cast x.cast x.chain x.assigned x.choice x.chosen x.tail x.chain_or_more x.throw x.assign x.cond x.expr x.deeper parts.soup_over parts.deeper_soup parts.attribute parts.attrs parts.assert parts.alias parts.pieces parts.enumr parts.enums parts.enum_end parts.named parts.unnamed parts.scoped_enum parts.unscoped_kind parts.enum_kind parts.enum w.specs_before w.equals_value w.init_args w.paren_init w.init_kind w.init w.name_attrs w.var w.vars w.declared w.local w.bare_local w.typedef type_end r.range_ahead r.case_label r.default_label r.label r.expr_stmt r.returned r.return_stmt r.break_stmt r.continue_stmt r.empty_stmt r.for_start r.for_steps r.for_range r.for_head r.block_with r.if_stmt r.while_stmt r.do_stmt r.for_stmt r.switch_item r.switch_stmt r.jump_stmt r.loop_stmt r.stmt_kind r.stmt_with r.behind_attrs r.plain_item r.item_with r.deeper x.specs
others = refl
