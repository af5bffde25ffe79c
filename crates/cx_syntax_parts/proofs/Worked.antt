-- Small cases, worked out by hand from the grammar: what is left behind a symbol, or the fault and what is left from it on.
use Rattle.std.proofs.Common.{◌≡◌, ℕ, List, [], ◌∷◌, length, map, Option, Some, None, refl}
use Rattle.cx_base.specs.declared.rule.Rule.{Rule}
use Rattle.cx_base.specs.declared.rule.Rule.TheVariants.{Syntax, Nesting}
use Rattle.cx_grammar.specs.Exact.{Outcome, done, stop}
use Rattle.cx_grammar.specs.Reading.{Reader, many_of, many_when, others_by}
use Rattle.cx_tree.specs.declared.decls.Virtual.{Virtual}
use Rattle.cx_tree.specs.declared.decls.Virtual.TheVariants as v
use Rattle.cx_syntax.specs.declared.class.Class.{Class}
use Rattle.cx_syntax.specs.declared.class.Class.TheVariants as k
use Rattle.cx_syntax.specs.declared.lexeme.Lexeme.{Lexeme}
use Rattle.cx_syntax.specs.Classes.{same_class}
use Rattle.cx_syntax.specs.Linked.{links_of}
use Rattle.cx_syntax.specs.Readers as e
use Rattle.cx_syntax.proofs.Worked.{tokens, seen, Case}
use Rattle.cx_syntax_parts.specs.Readers as r

-- ---- attributes: how many levels they nest, where they are spelled, and how many tokens are left

abbrev pub nested : Outcome Lexeme ℕ → Option ℕ × ℕ
nested (done levels rest) = (Some levels, length rest)
nested (stop rule left) = (None, left)

abbrev pub NestingCase : Type 0
NestingCase = ℕ × List Class × (Option ℕ × ℕ)

abbrev pub nesting : (ℕ → Reader Lexeme ℕ) → NestingCase → Option ℕ × ℕ
nesting read c = nested (read c.0 (tokens c.1))

abbrev pub attribute_cases : List NestingCase
attribute_cases =
    -- none
    (0, k.Int ∷ [], (Some 0, 2)) ∷
    -- an empty group
    (0, k.OpenBracket ∷ k.OpenBracket ∷ k.CloseBracket ∷ k.CloseBracket ∷ [], (Some 0, 1)) ∷
    -- tokens stand at the level of the attribute
    (0, k.OpenBracket ∷ k.OpenBracket ∷ k.Ident ∷ k.Comma ∷ k.Ident ∷ k.CloseBracket ∷ k.CloseBracket ∷ [], (Some 0, 1)) ∷
    -- an empty group in it nests nothing
    (0, k.OpenBracket ∷ k.OpenBracket ∷ k.Ident ∷ k.OpenParen ∷ k.CloseParen ∷ k.CloseBracket ∷ k.CloseBracket ∷ [], (Some 0, 1)) ∷
    -- what stands in a group is one level deeper
    (1, k.OpenBracket ∷ k.OpenBracket ∷ k.OpenParen ∷ k.Ident ∷ k.CloseParen ∷ k.CloseBracket ∷ k.CloseBracket ∷ [], (Some 1, 1)) ∷
    -- and is the fault at the last level
    (0, k.OpenBracket ∷ k.OpenBracket ∷ k.OpenParen ∷ k.Ident ∷ k.CloseParen ∷ k.CloseBracket ∷ k.CloseBracket ∷ [], (None, 5)) ∷
    -- the deepest of several counts
    (2, k.OpenBracket ∷ k.OpenBracket ∷ k.OpenBrace ∷ k.OpenParen ∷ k.Ident ∷ k.CloseParen ∷ k.CloseBrace ∷ k.CloseBracket ∷ k.CloseBracket ∷ k.OpenBracket ∷ k.OpenBracket ∷ k.Ident ∷ k.CloseBracket ∷ k.CloseBracket ∷ [], (Some 2, 1)) ∷
    -- brackets match
    (2, k.OpenBracket ∷ k.OpenBracket ∷ k.OpenParen ∷ k.CloseBrace ∷ [], (None, 2)) ∷
    -- a bracket alone begins an attribute
    (0, k.OpenBracket ∷ k.Ident ∷ [], (None, 2)) ∷
    -- a list does not end in one
    (0, k.OpenBracket ∷ k.OpenBracket ∷ k.Ident ∷ [], (None, 1)) ∷ []

abbrev pub noexcept_cases : List NestingCase
noexcept_cases =
    -- left out
    (0, k.Semicolon ∷ [], (Some 0, 2)) ∷
    -- the word alone
    (0, k.Noexcept ∷ k.Semicolon ∷ [], (Some 0, 2)) ∷
    -- with what stands in its parentheses at the same level
    (0, k.Noexcept ∷ k.OpenParen ∷ k.True ∷ k.CloseParen ∷ k.Semicolon ∷ [], (Some 0, 2)) ∷
    -- and in a group deeper
    (1, k.Noexcept ∷ k.OpenParen ∷ k.OpenParen ∷ k.True ∷ k.CloseParen ∷ k.CloseParen ∷ [], (Some 1, 1)) ∷ []

-- ---- declarations

abbrev pub reading : {A : Type 0} → (ℕ → Reader Lexeme A) → Case → Option Rule × ℕ
reading read c = seen (read c.0 (tokens c.1))

abbrev pub assert_cases : List Case
assert_cases =
    -- a condition alone
    (0, k.StaticAssert ∷ k.OpenParen ∷ k.True ∷ k.CloseParen ∷ k.Semicolon ∷ [], (None, 1)) ∷
    -- a message of two pieces
    (0, k.StaticAssert ∷ k.OpenParen ∷ k.Ident ∷ k.Comma ∷ k.StrLiteral ∷ k.StrLiteral ∷ k.CloseParen ∷ k.Semicolon ∷ [], (None, 1)) ∷
    -- a message is a string
    (0, k.StaticAssert ∷ k.OpenParen ∷ k.Ident ∷ k.Comma ∷ k.Ident ∷ k.CloseParen ∷ k.Semicolon ∷ [], (Some Syntax, 4)) ∷
    -- the condition stands at the level of the declaration, what is in its parentheses deeper
    (0, k.StaticAssert ∷ k.OpenParen ∷ k.OpenParen ∷ k.True ∷ k.CloseParen ∷ k.CloseParen ∷ k.Semicolon ∷ [], (Some Nesting, 6)) ∷
    -- it is no assignment
    (1, k.StaticAssert ∷ k.OpenParen ∷ k.Ident ∷ k.Equal ∷ k.Ident ∷ k.CloseParen ∷ k.Semicolon ∷ [], (Some Syntax, 5)) ∷ []

abbrev pub alias_cases : List Case
alias_cases =
    -- of a type
    (0, k.Using ∷ k.TypeName ∷ k.Equal ∷ k.Int ∷ k.Star ∷ k.Semicolon ∷ [], (None, 1)) ∷
    -- with an attribute
    (0, k.Using ∷ k.TypeName ∷ k.OpenBracket ∷ k.OpenBracket ∷ k.Ident ∷ k.CloseBracket ∷ k.CloseBracket ∷ k.Equal ∷ k.Const ∷ k.TypeName ∷ k.Semicolon ∷ [], (None, 1)) ∷
    -- which does not stand before the name
    (0, k.Using ∷ k.OpenBracket ∷ k.OpenBracket ∷ k.CloseBracket ∷ k.CloseBracket ∷ k.TypeName ∷ k.Equal ∷ k.Int ∷ k.Semicolon ∷ [], (Some Syntax, 9)) ∷
    -- a bound is a level deeper
    (0, k.Using ∷ k.TypeName ∷ k.Equal ∷ k.Int ∷ k.OpenBracket ∷ k.Number ∷ k.CloseBracket ∷ k.Semicolon ∷ [], (Some Nesting, 4)) ∷
    -- a name may go on to a type
    (0, k.Using ∷ k.TypeName ∷ k.Equal ∷ k.Ident ∷ k.Semicolon ∷ [], (Some Syntax, 2)) ∷ []

abbrev pub enum_cases : List Case
enum_cases =
    -- declared
    (0, k.Enum ∷ k.Class ∷ k.TypeName ∷ k.Colon ∷ k.Int ∷ k.Semicolon ∷ [], (None, 1)) ∷
    -- with enumerators, a value and a comma at the end
    (0, k.Enum ∷ k.TypeName ∷ k.OpenBrace ∷ k.Ident ∷ k.Comma ∷ k.Ident ∷ k.Equal ∷ k.Number ∷ k.Comma ∷ k.CloseBrace ∷ k.Semicolon ∷ [], (None, 1)) ∷
    -- with attributes, of itself and of an enumerator
    (0, k.Enum ∷ k.OpenBracket ∷ k.OpenBracket ∷ k.CloseBracket ∷ k.CloseBracket ∷ k.TypeName ∷ k.OpenBrace ∷ k.Ident ∷ k.OpenBracket ∷ k.OpenBracket ∷ k.Ident ∷ k.CloseBracket ∷ k.CloseBracket ∷ k.CloseBrace ∷ k.Semicolon ∷ [], (None, 1)) ∷
    -- without a name
    (0, k.Enum ∷ k.OpenBrace ∷ k.CloseBrace ∷ k.Semicolon ∷ [], (None, 1)) ∷
    -- which has enumerators
    (0, k.Enum ∷ k.Colon ∷ k.Int ∷ k.Semicolon ∷ [], (Some Syntax, 2)) ∷
    -- a scoped one has a name
    (0, k.Enum ∷ k.Struct ∷ k.OpenBrace ∷ k.CloseBrace ∷ k.Semicolon ∷ [], (Some Syntax, 4)) ∷
    -- an enumerator is no type
    (0, k.Enum ∷ k.TypeName ∷ k.OpenBrace ∷ k.TypeName ∷ k.CloseBrace ∷ k.Semicolon ∷ [], (Some Syntax, 4)) ∷
    -- two commas are one too many
    (0, k.Enum ∷ k.OpenBrace ∷ k.Ident ∷ k.Comma ∷ k.Comma ∷ k.CloseBrace ∷ k.Semicolon ∷ [], (Some Syntax, 4)) ∷
    -- a `;` stands behind the braces
    (0, k.Enum ∷ k.TypeName ∷ k.OpenBrace ∷ k.CloseBrace ∷ k.Ident ∷ [], (Some Syntax, 2)) ∷ []

abbrev pub tail_cases : List Case
tail_cases =
    (0, k.Semicolon ∷ [], (None, 1)) ∷
    (0, k.Equal ∷ k.Default ∷ k.Semicolon ∷ [], (None, 1)) ∷
    -- `0` and no other spelling of it
    (0, k.Equal ∷ k.Zero ∷ k.Semicolon ∷ [], (None, 1)) ∷
    (0, k.Equal ∷ k.Number ∷ k.Semicolon ∷ [], (Some Syntax, 3)) ∷ []

-- what the words behind a member function are, and how many tokens are left
abbrev pub words : Outcome Lexeme (List Virtual) → List Virtual × ℕ
words (done found rest) = (found, length rest)
words (stop rule left) = ([], left)

abbrev pub virtual_cases : List (List Class × (List Virtual × ℕ))
virtual_cases =
    (k.Semicolon ∷ [], ([], 2)) ∷
    -- they may be names of types
    (k.OverrideIdent ∷ k.FinalType ∷ k.OverrideType ∷ k.FinalIdent ∷ [], (v.Override ∷ v.Final ∷ v.Override ∷ v.Final ∷ [], 1)) ∷ []

pub attributes_worked : map (nesting r.attrs) attribute_cases ≡ map (λ c. c.2) attribute_cases
unfolding same_class many_of r.soup_over r.deeper_soup r.attribute r.attrs
attributes_worked = refl

pub noexcepts_worked : map (nesting r.noex) noexcept_cases ≡ map (λ c. c.2) noexcept_cases
unfolding same_class many_of r.soup_over r.deeper_soup r.noex
noexcepts_worked = refl

pub asserts_worked : map (reading r.assert) assert_cases ≡ map (λ c. c.2) assert_cases
unfolding same_class many_of many_when others_by links_of e.op e.last_part e.fname e.qtype e.named e.words_type e.name_type e.specs e.star e.ptrs e.bound e.typeid e.args e.paren_args e.clause e.clauses_in e.braces e.given e.string e.paren e.word_cast e.word_made e.id_expression e.type_made e.head_kind e.head e.subscript e.member_part e.member e.more_kind e.more e.postfix e.prefix e.delete e.new_bound e.new e.alignof_type e.sizeof_type e.sizeof_expr e.sizeof e.unary e.type_cast e.cast e.chain e.assigned e.choice e.chosen e.tail e.chain_or_more e.throw e.assign e.cond e.expr e.deeper r.pieces r.assert
asserts_worked = refl

pub aliases_worked : map (reading r.alias) alias_cases ≡ map (λ c. c.2) alias_cases
unfolding same_class many_of many_when others_by links_of e.op e.last_part e.fname e.qtype e.named e.words_type e.name_type e.specs e.star e.ptrs e.bound e.typeid e.cond e.deeper r.soup_over r.deeper_soup r.attribute r.attrs r.alias
aliases_worked = refl

pub enums_worked : map (reading r.enum) enum_cases ≡ map (λ c. c.2) enum_cases
unfolding same_class many_of many_when others_by links_of e.op e.last_part e.fname e.qtype e.named e.words_type e.name_type e.specs e.star e.ptrs e.bound e.typeid e.args e.paren_args e.clause e.clauses_in e.braces e.given e.string e.paren e.word_cast e.word_made e.id_expression e.type_made e.head_kind e.head e.subscript e.member_part e.member e.more_kind e.more e.postfix e.prefix e.delete e.new_bound e.new e.alignof_type e.sizeof_type e.sizeof_expr e.sizeof e.unary e.type_cast e.cast e.chain e.assigned e.choice e.chosen e.tail e.chain_or_more e.throw e.assign e.cond e.expr e.deeper r.soup_over r.deeper_soup r.attribute r.attrs r.enumr r.enums r.enum_end r.named r.unnamed r.scoped_enum r.unscoped_kind r.enum_kind r.enum
enums_worked = refl

pub tails_worked : map (reading (λ n. r.tail)) tail_cases ≡ map (λ c. c.2) tail_cases
unfolding same_class r.tail
tails_worked = refl

pub virtuals_worked : map (λ (c : List Class × (List Virtual × ℕ)). words (r.virt (tokens c.0))) virtual_cases ≡ map (λ c. c.1) virtual_cases
unfolding same_class many_of r.virt
virtuals_worked = refl
