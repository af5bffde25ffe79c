-- The symbols of the grammar, what it is that tokens spell or begin one, and that a reader of one is exact.
use Rattle.std.specs.Prelude.{◌≡◌, ℕ, ◌-◌, ◌≤◌, Bool, false, List, [], ◌∷◌, ◌++◌}
use Rattle.cx_base.specs.declared.rule.Rule.{Rule}
use Rattle.cx_tree.specs.declared.exprs.Expr.{Expr}
use Rattle.cx_tree.specs.declared.exprs.Braces.{Braces}
use Rattle.cx_tree.specs.declared.exprs.TypeId.{TypeId}
use Rattle.cx_syntax.specs.declared.class.Class.{Class}
use Rattle.cx_syntax.specs.declared.class.Class.TheVariants as k
use Rattle.cx_syntax.specs.declared.lexeme.Lexeme.{Lexeme}
use Rattle.cx_grammar.specs.Answers.{FaultAt}
use Rattle.cx_grammar.specs.Exact.{Family, Exact}
use Rattle.cx_grammar.specs.Reading.{Reader}
use Rattle.cx_syntax.specs.Classes.{is}
use Rattle.cx_syntax.specs.Values.{Operand}
use Rattle.cx_syntax.specs.Grammar as grammar
use Rattle.cx_syntax.specs.Grammar.{deeper}
use Rattle.cx_syntax.specs.Readers as readers

-- ---- symbols, each at so many levels that are left

abbrev pub expr : Family Lexeme Expr
expr n = grammar.expr (deeper n)

abbrev pub assign : Family Lexeme Expr
assign n = grammar.assign (deeper n)

abbrev pub cond : Family Lexeme Expr
cond n = grammar.cond (deeper n)

abbrev pub chain : ℕ → Family Lexeme Operand
chain p n = grammar.chain (deeper n) p

abbrev pub cast : Family Lexeme Operand
cast n = grammar.cast (deeper n)

abbrev pub unary : Family Lexeme Operand
unary n = grammar.unary (deeper n)

abbrev pub braces : Family Lexeme Braces
braces n = grammar.braces (deeper n)

abbrev pub typeid : Family Lexeme TypeId
typeid n = grammar.typeid (deeper n)

-- ---- at a level of the unit, of which 512 may nest ([implimits])

-- the tokens spell the tree of a symbol that stands at this level
abbrev pub Spells : {A : Type 0} → Family Lexeme A → ℕ → List Lexeme → A → Type 0
Spells symbol level ts tree = (level ≤ 512) × (symbol (512 - level)).spells ts tree

-- the tokens are a front of such a spelling
abbrev pub Begins : {A : Type 0} → Family Lexeme A → ℕ → List Lexeme → Type 0
Begins symbol level ts = (level ≤ 512) × (symbol (512 - level)).begins ts

-- The first token with which the tokens are a front of no spelling whose levels stay within 512 has so many tokens from it on: `Syntax` where they are a front of no spelling at all, else `Nesting`.
abbrev pub Fault : {A : Type 0} → Family Lexeme A → ℕ → List Lexeme → Rule → ℕ → Type 0
Fault symbol level ts rule left = (level ≤ 512) × FaultAt symbol (512 - level) ts rule left

-- ---- laws

-- The reader is exact at each number of levels and all tokens; a token of the set may go on with what was read.
abbrev pub IsExact : {A : Type 0} → Family Lexeme A → (A → Lexeme → Bool) → (ℕ → Reader Lexeme A) → Type 0
IsExact symbol go read = (levels : ℕ) (ts : List Lexeme) → Exact symbol go levels ts (read levels ts)

-- what goes on does not depend on the value
abbrev pub after : {A : Type 0} → (Class → Bool) → A → Lexeme → Bool
after set v t = set t.class

abbrev pub nothing : {A : Type 0} → A → Lexeme → Bool
nothing v t = false

-- Tokens spell one tree at most, whatever the levels.
abbrev pub OneTree : {A : Type 0} → Family Lexeme A → Type 0
OneTree {A = A} symbol = (n m : ℕ) (ts : List Lexeme) (a b : A) → (symbol n).spells ts a → (symbol m).spells ts b → a ≡ b

abbrev pub NoEnd : List Lexeme → Type 0
NoEnd [] = Unit {0}
NoEnd (t ∷ ts) = (is k.End t ≡ false) × NoEnd ts

-- No front of a spelling has the token that ends every list.
abbrev pub EndsNowhere : {A : Type 0} → Family Lexeme A → Type 0
EndsNowhere symbol = (n : ℕ) (ts : List Lexeme) → (symbol n).begins ts → NoEnd ts

-- Each front goes on to a spelling at the same number of levels.
abbrev pub GoesOn : {A : Type 0} → Family Lexeme A → Type 0
GoesOn {A = A} symbol = (n : ℕ) (ts : List Lexeme) → (symbol n).begins ts → (more : List Lexeme) × (tree : A) × (symbol n).spells (ts ++ more) tree

abbrev pub exprs : ℕ → Reader Lexeme Expr
exprs n = readers.expr (readers.deeper n)

abbrev pub assigns : ℕ → Reader Lexeme Expr
assigns n = readers.assign (readers.deeper n)

abbrev pub conds : ℕ → Reader Lexeme Expr
conds n = readers.cond (readers.deeper n)

abbrev pub chains : ℕ → ℕ → Reader Lexeme Operand
chains p n = readers.chain (readers.deeper n) p

abbrev pub casts : ℕ → Reader Lexeme Operand
casts n = readers.cast (readers.deeper n)

abbrev pub unaries : ℕ → Reader Lexeme Operand
unaries n = readers.unary (readers.deeper n)

abbrev pub braces_read : ℕ → Reader Lexeme Braces
braces_read n = readers.braces (readers.deeper n)

abbrev pub typeids : ℕ → Reader Lexeme TypeId
typeids n = readers.typeid (readers.deeper n)
