-- How many levels a text needs ([gram], [implimits]).
use Rattle.std.specs.Prelude.{ℕ, ◌≤◌, List, ◌↔◌}
use Rattle.cx_tree.specs.declared.decls.Unit.{Unit as TranslationUnit}
use Rattle.cx_grammar.specs.Answers.{Spelled}
use Rattle.cx_grammar.specs.Exact.{Family}
use Rattle.cx_levels.specs.DeclLevels.{levels_of_unit}
use Rattle.cx_syntax.specs.declared.lexeme.Lexeme.{Lexeme}
use Rattle.cx_syntax_decls.specs.Symbols as symbols

-- Tokens that spell a tree of the symbol within some number of levels spell it within those numbers
-- that are at least the tree's own levels, and within no others.
abbrev pub Needed : {A : Type 0} → Family Lexeme A → (A → ℕ) → Type 0
Needed {A = A} symbol levels = (some n : ℕ) (ts : List Lexeme) (tree : A) → (symbol some).spells ts tree
    → ((symbol n).spells ts tree ↔ (levels tree ≤ n))

-- What is a unit within some number of levels is one within the limit exactly where its tree goes no deeper.
abbrev pub Limited : ℕ → Type 0
Limited limit = (some : ℕ) (ts : List Lexeme) (tree : TranslationUnit) → Spelled symbols.unit some ts tree
    → (Spelled symbols.unit limit ts tree ↔ (levels_of_unit tree ≤ limit))

-- The tree of a unit within the limit goes no deeper.
abbrev pub Within : ℕ → Type 0
Within limit = (ts : List Lexeme) (tree : TranslationUnit) → Spelled symbols.unit limit ts tree → levels_of_unit tree ≤ limit
