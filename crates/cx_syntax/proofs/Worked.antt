-- Small cases, worked out by hand from the grammar: what is left behind an expression, or the fault and what is left from it on.
use Rattle.std.proofs.Common.{◌≡◌, ℕ, List, [], ◌∷◌, ◌++◌, length, map, Option, Some, None, refl}
use Rattle.cx_base.specs.declared.rule.Rule.{Rule}
use Rattle.cx_base.specs.declared.rule.Rule.TheVariants.{Syntax, Nesting}
use Rattle.cx_grammar.specs.Exact.{Outcome, done, stop}
use Rattle.cx_grammar.specs.Reading.{many_of, many_when, others_by}
use Rattle.cx_token_defs.specs.declared.TokenKind.TheVariants as kind
use Rattle.cx_syntax.specs.declared.class.Class.{Class}
use Rattle.cx_syntax.specs.declared.class.Class.TheVariants as k
use Rattle.cx_syntax.specs.declared.lexeme.Lexeme.{Lexeme}
use Rattle.cx_syntax.specs.Classes.{same_class}
use Rattle.cx_syntax.specs.Linked.{links_of}
use Rattle.cx_syntax.specs.Values.{no_mark}
use Rattle.cx_syntax.specs.Readers as r

abbrev pub lexeme : Class → Lexeme
lexeme c = record { class = c; kind = kind.Word; span = record { start = no_mark; end = no_mark }; text = [] }

-- a list of these, and the token that ends it
abbrev pub tokens : List Class → List Lexeme
tokens cs = map lexeme (cs ++ k.End ∷ [])

-- the rule of the fault, if there is one, and how many tokens are left
abbrev pub seen : {A : Type 0} → Outcome Lexeme A → Option Rule × ℕ
seen (done v rest) = (None, length rest)
seen (stop rule left) = (Some rule, left)

-- so many levels, these classes, and what is seen
abbrev pub Case : Type 0
Case = ℕ × List Class × (Option Rule × ℕ)

abbrev pub read : Case → Option Rule × ℕ
read c = seen (r.expr (r.deeper c.0) (tokens c.1))

abbrev pub cases : List Case
cases =
    -- a name
    (0, k.Ident ∷ [], (None, 1)) ∷
    -- operators of two levels
    (0, k.Number ∷ k.Plus ∷ k.Number ∷ k.Star ∷ k.Number ∷ [], (None, 1)) ∷
    -- a parenthesis goes a level deeper
    (1, k.OpenParen ∷ k.Ident ∷ k.CloseParen ∷ [], (None, 1)) ∷
    -- and is the fault at the last level
    (0, k.OpenParen ∷ k.Ident ∷ k.CloseParen ∷ [], (Some Nesting, 4)) ∷
    -- a cast
    (1, k.OpenParen ∷ k.TypeName ∷ k.CloseParen ∷ k.Ident ∷ [], (None, 1)) ∷
    -- a name in parentheses casts nothing
    (1, k.OpenParen ∷ k.Ident ∷ k.CloseParen ∷ k.Ident ∷ [], (None, 2)) ∷
    -- a cast asks for an operand
    (1, k.OpenParen ∷ k.TypeName ∷ k.CloseParen ∷ [], (Some Syntax, 1)) ∷
    -- an object of a type
    (1, k.TypeName ∷ k.OpenParen ∷ k.Ident ∷ k.CloseParen ∷ [], (None, 1)) ∷
    -- a type is no expression
    (1, k.TypeName ∷ [], (Some Syntax, 1)) ∷
    -- the last name decides
    (1, k.Ident ∷ k.ColonColon ∷ k.TypeName ∷ k.OpenParen ∷ k.Number ∷ k.CloseParen ∷ [], (None, 1)) ∷
    -- a name is asked for behind `::`
    (1, k.Ident ∷ k.ColonColon ∷ [], (Some Syntax, 1)) ∷
    -- an operator function
    (1, k.Operator ∷ k.Plus ∷ k.OpenParen ∷ k.Ident ∷ k.CloseParen ∷ [], (None, 1)) ∷
    -- behind the type of a `new` no `&` goes on
    (1, k.New ∷ k.Int ∷ k.Star ∷ k.Amp ∷ k.Ident ∷ [], (None, 3)) ∷
    -- a `*` is part of that type
    (1, k.New ∷ k.Int ∷ k.Star ∷ k.Star ∷ [], (None, 1)) ∷
    -- an object made from arguments goes on
    (1, k.New ∷ k.TypeName ∷ k.OpenParen ∷ k.Number ∷ k.CloseParen ∷ k.Star ∷ k.Number ∷ [], (None, 1)) ∷
    -- `sizeof` of a type, and a difference
    (0, k.Sizeof ∷ k.OpenParen ∷ k.TypeName ∷ k.CloseParen ∷ k.Minus ∷ k.Ident ∷ [], (None, 1)) ∷
    -- `sizeof` of an expression in parentheses is two levels deep
    (2, k.Sizeof ∷ k.OpenParen ∷ k.Ident ∷ k.CloseParen ∷ [], (None, 1)) ∷
    -- so that a level above the last it stops behind the name
    (1, k.Sizeof ∷ k.OpenParen ∷ k.Ident ∷ k.CloseParen ∷ [], (Some Nesting, 2)) ∷
    -- or at what no expression goes on with
    (1, k.Sizeof ∷ k.OpenParen ∷ k.Ident ∷ k.CloseBracket ∷ [], (Some Syntax, 2)) ∷
    -- at the last level only a type may follow `sizeof`
    (0, k.Sizeof ∷ k.Ident ∷ [], (Some Nesting, 2)) ∷
    -- the third operand is an assignment
    (2, k.Ident ∷ k.Question ∷ k.Ident ∷ k.Colon ∷ k.Ident ∷ k.Equal ∷ k.Ident ∷ [], (None, 1)) ∷
    -- and goes a level deeper
    (1, k.Ident ∷ k.Question ∷ k.Ident ∷ k.Colon ∷ k.Ident ∷ k.Equal ∷ k.Ident ∷ [], (Some Nesting, 3)) ∷
    -- arguments
    (1, k.Ident ∷ k.OpenParen ∷ k.Ident ∷ k.Comma ∷ k.Ident ∷ k.CloseParen ∷ [], (None, 1)) ∷
    -- have no comma at their end
    (1, k.Ident ∷ k.OpenParen ∷ k.Ident ∷ k.Comma ∷ k.CloseParen ∷ [], (Some Syntax, 2)) ∷
    -- clauses may
    (2, k.TypeName ∷ k.OpenBrace ∷ k.Ident ∷ k.Comma ∷ k.OpenBrace ∷ k.Ident ∷ k.CloseBrace ∷ k.Comma ∷ k.CloseBrace ∷ [], (None, 1)) ∷
    -- a named cast
    (1, k.StaticCast ∷ k.Less ∷ k.TypeName ∷ k.Star ∷ k.Greater ∷ k.OpenParen ∷ k.Ident ∷ k.CloseParen ∷ [], (None, 1)) ∷
    -- `throw` alone
    (0, k.Throw ∷ [], (None, 1)) ∷
    -- its operand is a level deeper
    (0, k.Throw ∷ k.Ident ∷ [], (Some Nesting, 2)) ∷
    -- members
    (0, k.Ident ∷ k.Dot ∷ k.Ident ∷ k.Arrow ∷ k.Tilde ∷ k.TypeName ∷ k.OpenParen ∷ k.CloseParen ∷ [], (None, 1)) ∷
    -- each sign is a level
    (1, k.Minus ∷ k.Minus ∷ k.Ident ∷ [], (Some Nesting, 3)) ∷
    -- a bound in a typeid
    (1, k.Alignof ∷ k.OpenParen ∷ k.Const ∷ k.TypeName ∷ k.Star ∷ k.Const ∷ k.Amp ∷ k.OpenBracket ∷ k.Number ∷ k.CloseBracket ∷ k.CloseParen ∷ [], (None, 1)) ∷
    -- a list
    (0, k.Ident ∷ k.Comma ∷ k.Ident ∷ [], (None, 1)) ∷ []

pub worked : map read cases ≡ map (λ c. c.2) cases
unfolding same_class many_of many_when others_by links_of r.op r.last_part r.fname r.qtype r.named r.words_type r.name_type r.specs r.star r.ptrs r.bound r.typeid r.args r.paren_args r.clause r.clauses_in r.braces r.given r.string r.paren r.word_cast r.word_made r.id_expression r.type_made r.head_kind r.head r.subscript r.member_part r.member r.more_kind r.more r.postfix r.prefix r.delete r.new_bound r.new r.alignof_type r.sizeof_type r.sizeof_expr r.sizeof r.unary r.type_cast r.cast r.chain r.assigned r.choice r.chosen r.tail r.chain_or_more r.throw r.assign r.cond r.expr r.deeper
worked = refl
