-- The symbols, each at so many levels that are left, and their readers.
use Rattle.std.specs.Prelude.{ℕ, ◌≤◌, List}
use Rattle.cx_tree.specs.declared.decls.Access.{Access}
use Rattle.cx_tree.specs.declared.decls.Alias.{Alias}
use Rattle.cx_tree.specs.declared.decls.Assert.{Assert}
use Rattle.cx_tree.specs.declared.decls.Enumeration.{Enumeration}
use Rattle.cx_tree.specs.declared.decls.Enumerator.{Enumerator}
use Rattle.cx_tree.specs.declared.decls.Tail.{Tail}
use Rattle.cx_tree.specs.declared.decls.Virtual.{Virtual}
use Rattle.cx_syntax.specs.declared.lexeme.Lexeme.{Lexeme}
use Rattle.cx_grammar.specs.Exact.{Family}
use Rattle.cx_grammar.specs.Reading.{Reader}
use Rattle.cx_syntax_parts.specs.Grammar as grammar
use Rattle.cx_syntax_parts.specs.Readers as readers

abbrev pub soup : Family Lexeme ℕ
soup n = grammar.soup n

abbrev pub attrs : Family Lexeme ℕ
attrs n = grammar.attrs n

abbrev pub noex : Family Lexeme ℕ
noex n = grammar.noex n

abbrev pub assert : Family Lexeme Assert
assert n = grammar.assert n

abbrev pub alias : Family Lexeme Alias
alias n = grammar.alias n

abbrev pub enumr : Family Lexeme Enumerator
enumr n = grammar.enumr n

abbrev pub enums : Family Lexeme (List Enumerator)
enums n = grammar.enums n

abbrev pub enum : Family Lexeme Enumeration
enum n = grammar.enum n

abbrev pub tail : Family Lexeme Tail
tail n = grammar.tail

abbrev pub virt : Family Lexeme (List Virtual)
virt n = grammar.virt

abbrev pub access : Family Lexeme Access
access n = grammar.access

-- ---- readers

abbrev pub soups : ℕ → Reader Lexeme ℕ
soups n = readers.soup n

abbrev pub attributes : ℕ → Reader Lexeme ℕ
attributes n = readers.attrs n

abbrev pub noexcepts : ℕ → Reader Lexeme ℕ
noexcepts n = readers.noex n

abbrev pub asserts : ℕ → Reader Lexeme Assert
asserts n = readers.assert n

abbrev pub aliases : ℕ → Reader Lexeme Alias
aliases n = readers.alias n

abbrev pub enumrs : ℕ → Reader Lexeme Enumerator
enumrs n = readers.enumr n

abbrev pub enums_read : ℕ → Reader Lexeme (List Enumerator)
enums_read n = readers.enums n

abbrev pub enumerations : ℕ → Reader Lexeme Enumeration
enumerations n = readers.enum n

abbrev pub tails : ℕ → Reader Lexeme Tail
tails n = readers.tail

abbrev pub virtuals : ℕ → Reader Lexeme (List Virtual)
virtuals n = readers.virt

abbrev pub accesses : ℕ → Reader Lexeme Access
accesses n = readers.access

-- ---- a law of what nests levels

-- The value is the least number of levels within which the tokens are spelled.
abbrev pub Counts : Family Lexeme ℕ → Type 0
Counts symbol = (n m : ℕ) (ts : List Lexeme) (levels : ℕ) → (symbol n).spells ts levels → (levels ≤ n) × (levels ≤ m → (symbol m).spells ts levels)
