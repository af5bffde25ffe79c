-- Small cases, worked out by hand from the grammar: what is left behind the rule, or the fault and what is left from it on.
use Rattle.std.proofs.Common.{◌≡◌, ℕ, Bool, true, false, List, [], ◌∷◌, ◌++◌, length, map, Option, Some, None, refl}
use Rattle.cx_base.specs.declared.rule.Rule.{Rule}
use Rattle.cx_base.specs.declared.rule.Rule.TheVariants.{Syntax, Nesting}
use Rattle.cx_grammar.specs.Exact.{Outcome, done, stop}
use Rattle.cx_grammar.specs.Reading.{many_of, many_when, others_by}
use Rattle.cx_tree.specs.declared.decls.Param.{Param}
use Rattle.cx_tree.specs.declared.stmts.Init.{Init}
use Rattle.cx_tree.specs.declared.stmts.InitKind.{InitKind}
use Rattle.cx_tree.specs.declared.stmts.InitKind.TheVariants as i
use Rattle.cx_tree.specs.declared.stmts.Local.{Local}
use Rattle.cx_tree.specs.declared.stmts.Var.{Var}
use Rattle.cx_syntax.specs.declared.class.Class.TheVariants as k
use Rattle.cx_syntax.specs.declared.lexeme.Lexeme.{Lexeme}
use Rattle.cx_syntax.specs.Values.{is_there}
use Rattle.cx_syntax.specs.Classes.{same_class}
use Rattle.cx_syntax.specs.Linked.{links_of}
use Rattle.cx_syntax.specs.Readers as r
use Rattle.cx_syntax.proofs.Worked.{Case, tokens, seen}
use Rattle.cx_syntax_parts.specs.Readers as parts
use Rattle.cx_syntax_vars.specs.Readers as s

-- ---- local variables

abbrev pub read_local : Case → Option Rule × ℕ
read_local c = seen (s.local c.0 (tokens c.1))

abbrev pub local_cases : List Case
local_cases =
    -- modifiers alone, and the name
    (0, k.Const ∷ k.Ident ∷ k.Semicolon ∷ [], (None, 1)) ∷
    -- a type's name is the type
    (0, k.Const ∷ k.TypeName ∷ k.Ident ∷ k.Semicolon ∷ [], (None, 1)) ∷
    -- and so is a name with `::` behind it
    (0, k.Const ∷ k.Ident ∷ k.ColonColon ∷ k.TypeName ∷ k.Ident ∷ k.Semicolon ∷ [], (None, 1)) ∷
    -- which goes on to a type's name
    (0, k.Const ∷ k.Ident ∷ k.ColonColon ∷ k.Ident ∷ k.Semicolon ∷ [], (Some Syntax, 2)) ∷
    -- without modifiers the first name is a type's
    (0, k.Ident ∷ k.Ident ∷ k.Semicolon ∷ [], (Some Syntax, 3)) ∷
    -- a type asks for a name
    (0, k.Int ∷ k.Semicolon ∷ [], (Some Syntax, 2)) ∷
    -- more than one variable, each with pointers of its own
    (0, k.TypeName ∷ k.Ident ∷ k.Comma ∷ k.Star ∷ k.Const ∷ k.Ident ∷ k.Equal ∷ k.Number ∷ k.Semicolon ∷ [], (None, 1)) ∷
    -- attributes before the specifiers and behind the name
    (1, k.OpenBracket ∷ k.OpenBracket ∷ k.Ident ∷ k.CloseBracket ∷ k.CloseBracket ∷ k.Int ∷ k.Ident ∷ k.OpenBracket ∷ k.OpenBracket ∷ k.CloseBracket ∷ k.CloseBracket ∷ k.OpenBracket ∷ k.Number ∷ k.CloseBracket ∷ k.Semicolon ∷ [], (None, 1)) ∷
    -- none behind a bound
    (1, k.Int ∷ k.Ident ∷ k.OpenBracket ∷ k.Number ∷ k.CloseBracket ∷ k.OpenBracket ∷ k.OpenBracket ∷ k.Ident ∷ k.CloseBracket ∷ k.CloseBracket ∷ k.Semicolon ∷ [], (Some Syntax, 6)) ∷
    -- the size of a bound goes a level deeper
    (0, k.Int ∷ k.Ident ∷ k.OpenBracket ∷ k.Number ∷ k.CloseBracket ∷ k.Semicolon ∷ [], (Some Nesting, 4)) ∷
    -- braces
    (1, k.Int ∷ k.Ident ∷ k.Equal ∷ k.OpenBrace ∷ k.Number ∷ k.CloseBrace ∷ k.Comma ∷ k.Ident ∷ k.OpenBrace ∷ k.CloseBrace ∷ k.Semicolon ∷ [], (None, 1)) ∷
    -- arguments
    (1, k.TypeName ∷ k.Ident ∷ k.OpenParen ∷ k.Number ∷ k.Comma ∷ k.Ident ∷ k.CloseParen ∷ k.Semicolon ∷ [], (None, 1)) ∷
    -- at least one
    (1, k.TypeName ∷ k.Ident ∷ k.OpenParen ∷ k.CloseParen ∷ k.Semicolon ∷ [], (Some Syntax, 3)) ∷
    -- go a level deeper
    (0, k.TypeName ∷ k.Ident ∷ k.OpenParen ∷ k.Number ∷ k.CloseParen ∷ k.Semicolon ∷ [], (Some Nesting, 5)) ∷
    -- do not begin with a word
    (1, k.Int ∷ k.Ident ∷ k.OpenParen ∷ k.Int ∷ k.OpenParen ∷ k.Number ∷ k.CloseParen ∷ k.CloseParen ∷ k.Semicolon ∷ [], (Some Syntax, 7)) ∷
    -- nor with a type that is made
    (2, k.Int ∷ k.Ident ∷ k.OpenParen ∷ k.TypeName ∷ k.OpenParen ∷ k.Number ∷ k.CloseParen ∷ k.CloseParen ∷ k.Semicolon ∷ [], (Some Syntax, 6)) ∷
    -- but with a name in a type
    (2, k.Int ∷ k.Ident ∷ k.OpenParen ∷ k.TypeName ∷ k.ColonColon ∷ k.Ident ∷ k.OpenParen ∷ k.Number ∷ k.CloseParen ∷ k.CloseParen ∷ k.Semicolon ∷ [], (None, 1)) ∷
    -- and later ones with any
    (2, k.Int ∷ k.Ident ∷ k.OpenParen ∷ k.Ident ∷ k.Comma ∷ k.TypeName ∷ k.OpenParen ∷ k.Number ∷ k.CloseParen ∷ k.CloseParen ∷ k.Semicolon ∷ [], (None, 1)) ∷ []

-- ---- the local of a `for`

abbrev pub read_bare : Case → Option Rule × ℕ
read_bare c = seen (s.bare_local c.0 (tokens c.1))

abbrev pub bare_cases : List Case
bare_cases =
    (0, k.Int ∷ k.Ident ∷ k.Equal ∷ k.Number ∷ k.Semicolon ∷ [], (None, 1)) ∷
    -- it has no attributes
    (1, k.OpenBracket ∷ k.OpenBracket ∷ k.Ident ∷ k.CloseBracket ∷ k.CloseBracket ∷ k.Int ∷ k.Ident ∷ k.Semicolon ∷ [], (Some Syntax, 9)) ∷ []

-- ---- parameters

abbrev pub read_params : Case → Option Rule × ℕ
read_params c = seen (s.params c.0 (tokens c.1))

abbrev pub param_cases : List Case
param_cases =
    -- modifiers alone
    (0, k.Const ∷ k.CloseParen ∷ [], (None, 2)) ∷
    -- and a name
    (0, k.Const ∷ k.Ident ∷ k.CloseParen ∷ [], (None, 2)) ∷
    -- a type behind modifiers, and no name
    (0, k.Const ∷ k.TypeName ∷ k.Amp ∷ k.Comma ∷ k.Ident ∷ k.ColonColon ∷ k.TypeName ∷ k.Star ∷ k.CloseParen ∷ [], (None, 2)) ∷
    -- a default argument goes a level deeper
    (1, k.Int ∷ k.Ident ∷ k.Equal ∷ k.Number ∷ k.Comma ∷ k.Bool ∷ k.Equal ∷ k.True ∷ k.CloseParen ∷ [], (None, 2)) ∷
    (0, k.Int ∷ k.Ident ∷ k.Equal ∷ k.Number ∷ k.CloseParen ∷ [], (Some Nesting, 4)) ∷
    -- is no list in braces
    (1, k.Int ∷ k.Ident ∷ k.Equal ∷ k.OpenBrace ∷ k.CloseBrace ∷ k.CloseParen ∷ [], (Some Syntax, 4)) ∷
    -- a name where a type must stand goes on to one
    (0, k.Int ∷ k.Comma ∷ k.Ident ∷ k.CloseParen ∷ [], (Some Syntax, 2)) ∷
    -- no attributes behind the name
    (1, k.Int ∷ k.Ident ∷ k.OpenBracket ∷ k.OpenBracket ∷ k.CloseBracket ∷ k.CloseBracket ∷ k.CloseParen ∷ [], (Some Syntax, 5)) ∷
    -- bounds without a size
    (0, k.Char ∷ k.Ident ∷ k.OpenBracket ∷ k.CloseBracket ∷ k.OpenBracket ∷ k.CloseBracket ∷ k.CloseParen ∷ [], (None, 2)) ∷ []

-- ---- typedefs

abbrev pub read_typedef : Case → Option Rule × ℕ
read_typedef c = seen (s.typedef (tokens c.1))

abbrev pub typedef_cases : List Case
typedef_cases =
    -- modifiers alone, and the name
    (0, k.Typedef ∷ k.Const ∷ k.TypeName ∷ k.Semicolon ∷ [], (None, 1)) ∷
    -- a type, and the name
    (0, k.Typedef ∷ k.Const ∷ k.TypeName ∷ k.TypeName ∷ k.Semicolon ∷ [], (None, 1)) ∷
    (0, k.Typedef ∷ k.Unsigned ∷ k.Int ∷ k.Star ∷ k.Const ∷ k.Amp ∷ k.TypeName ∷ k.Semicolon ∷ [], (None, 1)) ∷
    -- a name alone is the type
    (0, k.Typedef ∷ k.TypeName ∷ k.Semicolon ∷ [], (Some Syntax, 2)) ∷
    -- and so it is where no `;` stands behind it
    (0, k.Typedef ∷ k.Const ∷ k.TypeName ∷ k.CloseParen ∷ [], (Some Syntax, 2)) ∷
    -- the name that is declared is one of a type
    (0, k.Typedef ∷ k.Const ∷ k.Ident ∷ k.Semicolon ∷ [], (Some Syntax, 2)) ∷
    (0, k.Typedef ∷ k.Int ∷ k.Ident ∷ k.Semicolon ∷ [], (Some Syntax, 3)) ∷ []

-- ---- the trees: what is in them

-- which initializer it is
abbrev pub kind_seen : InitKind → ℕ
kind_seen (i.Equals e) = 0
kind_seen (i.EqualsList b) = 1
kind_seen (i.DirectList b) = 2
kind_seen (i.Direct a) = 3

abbrev pub init_seen : Option Init → Option ℕ
init_seen None = None
init_seen (Some v) = Some (kind_seen v.kind)

-- its stars, whether it is a reference, the levels of its attributes, its bounds, and its initializer
abbrev pub VarSeen : Type 0
VarSeen = ℕ × Bool × ℕ × ℕ × Option ℕ

abbrev pub var_seen : Var → VarSeen
var_seen v = (length v.ptrs.stars, v.ptrs.is_reference, v.attrs, length v.bounds, init_seen v.init)

-- the levels of its attributes, its modifiers, and its variables
abbrev pub local_seen : Outcome Lexeme Local → Option (ℕ × ℕ × List VarSeen)
local_seen (done v rest) = Some (v.attrs, length v.specs.modifiers, map var_seen v.vars)
local_seen (stop rule left) = None

-- [[a(b)]] const x [[(a)]] [n] = n, *const *y = {}, &x(n, y), y{};
abbrev pub some_local : List Lexeme
some_local = tokens (k.OpenBracket ∷ k.OpenBracket ∷ k.Ident ∷ k.OpenParen ∷ k.Ident ∷ k.CloseParen ∷ k.CloseBracket ∷ k.CloseBracket ∷ k.Const
    ∷ k.Ident ∷ k.OpenBracket ∷ k.OpenBracket ∷ k.OpenParen ∷ k.Ident ∷ k.CloseParen ∷ k.CloseBracket ∷ k.CloseBracket ∷ k.OpenBracket ∷ k.Number ∷ k.CloseBracket ∷ k.Equal ∷ k.Number ∷ k.Comma
    ∷ k.Star ∷ k.Const ∷ k.Star ∷ k.Ident ∷ k.Equal ∷ k.OpenBrace ∷ k.CloseBrace ∷ k.Comma
    ∷ k.Amp ∷ k.Ident ∷ k.OpenParen ∷ k.Number ∷ k.Comma ∷ k.Ident ∷ k.CloseParen ∷ k.Comma ∷ k.Ident ∷ k.OpenBrace ∷ k.CloseBrace ∷ k.Semicolon ∷ [])

-- the levels of its attributes, its modifiers and stars, whether it has a name, its bounds, and whether it has a default argument
abbrev pub ParamSeen : Type 0
ParamSeen = ℕ × ℕ × ℕ × Bool × ℕ × Bool

abbrev pub param_seen : Param → ParamSeen
param_seen v = (v.attrs, length v.specs.modifiers, length v.ptrs.stars, is_there v.name, length v.bounds, is_there v.default)

abbrev pub params_seen : Outcome Lexeme (List Param) → Option (List ParamSeen)
params_seen (done vs rest) = Some (map param_seen vs)
params_seen (stop rule left) = None

-- [[a()]] const T *x[n] = n, const y, T
abbrev pub some_params : List Lexeme
some_params = tokens (k.OpenBracket ∷ k.OpenBracket ∷ k.Ident ∷ k.OpenParen ∷ k.CloseParen ∷ k.CloseBracket ∷ k.CloseBracket ∷ k.Const ∷ k.TypeName ∷ k.Star ∷ k.Ident ∷ k.OpenBracket ∷ k.Number ∷ k.CloseBracket ∷ k.Equal ∷ k.Number ∷ k.Comma
    ∷ k.Const ∷ k.Ident ∷ k.Comma ∷ k.TypeName ∷ [])

-- ---- all of them

abbrev pub found : List (Option Rule × ℕ)
found = map read_local local_cases ++ (map read_bare bare_cases ++ (map read_params param_cases ++ map read_typedef typedef_cases))

abbrev pub wanted : List (Option Rule × ℕ)
wanted = map (λ (c : Case). c.2) (local_cases ++ (bare_cases ++ (param_cases ++ typedef_cases)))

pub worked : found ≡ wanted
unfolding same_class many_of many_when others_by links_of r.op r.last_part r.fname r.qtype r.named r.words_type r.name_type r.star r.ptrs r.bound r.typeid r.args r.paren_args r.clause r.clauses_in r.braces r.given r.string r.paren r.word_cast r.word_made r.id_expression r.type_made r.head_kind r.head r.subscript r.member_part r.member r.more_kind r.more r.postfix r.prefix r.delete r.new_bound r.new r.alignof_type r.sizeof_type r.sizeof_expr r.sizeof r.unary r.type_cast r.cast r.chain r.assigned r.choice r.chosen r.tail r.chain_or_more r.throw r.assign r.cond r.expr r.deeper parts.soup_over parts.deeper_soup parts.attribute parts.attrs s.specs_before s.equals_value s.init_args s.paren_init s.init_kind s.init s.name_attrs s.var s.vars s.declared s.local s.bare_local s.default_argument s.param s.params s.typedef
worked = refl

pub some_local_is : local_seen (s.local 2 some_local) ≡ Some (1, 1, (0, false, 1, 1, Some 0) ∷ (2, false, 0, 0, Some 1) ∷ (0, true, 0, 0, Some 3) ∷ (0, false, 0, 0, Some 2) ∷ [])
unfolding same_class many_of many_when others_by links_of r.op r.last_part r.fname r.qtype r.named r.words_type r.name_type r.star r.ptrs r.bound r.typeid r.args r.paren_args r.clause r.clauses_in r.braces r.given r.string r.paren r.word_cast r.word_made r.id_expression r.type_made r.head_kind r.head r.subscript r.member_part r.member r.more_kind r.more r.postfix r.prefix r.delete r.new_bound r.new r.alignof_type r.sizeof_type r.sizeof_expr r.sizeof r.unary r.type_cast r.cast r.chain r.assigned r.choice r.chosen r.tail r.chain_or_more r.throw r.assign r.cond r.expr r.deeper parts.soup_over parts.deeper_soup parts.attribute parts.attrs s.specs_before s.equals_value s.init_args s.paren_init s.init_kind s.init s.name_attrs s.var s.vars s.declared s.local s.bare_local s.default_argument s.param s.params s.typedef
some_local_is = refl

pub some_params_are : params_seen (s.params 2 some_params) ≡ Some ((0, 1, 1, true, 1, true) ∷ (0, 1, 0, true, 0, false) ∷ (0, 0, 0, false, 0, false) ∷ [])
unfolding same_class many_of many_when others_by links_of r.op r.last_part r.fname r.qtype r.named r.words_type r.name_type r.star r.ptrs r.bound r.typeid r.args r.paren_args r.clause r.clauses_in r.braces r.given r.string r.paren r.word_cast r.word_made r.id_expression r.type_made r.head_kind r.head r.subscript r.member_part r.member r.more_kind r.more r.postfix r.prefix r.delete r.new_bound r.new r.alignof_type r.sizeof_type r.sizeof_expr r.sizeof r.unary r.type_cast r.cast r.chain r.assigned r.choice r.chosen r.tail r.chain_or_more r.throw r.assign r.cond r.expr r.deeper parts.soup_over parts.deeper_soup parts.attribute parts.attrs s.specs_before s.equals_value s.init_args s.paren_init s.init_kind s.init s.name_attrs s.var s.vars s.declared s.local s.bare_local s.default_argument s.param s.params s.typedef
some_params_are = refl
