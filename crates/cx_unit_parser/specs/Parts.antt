-- What the functions find by the way.
use Rattle.std.specs.Prelude.{◌≡◌, ◌-◌, ℕ, List, [], ◌∷◌, length, drop}
use Rattle.cx_base.specs.declared.diag.Diag.{Diag}
use Rattle.cx_base.specs.declared.rule.Rule.{Rule}
use Rattle.cx_syntax.specs.declared.lexeme.Lexeme.{Lexeme}

-- the fault is at the first of these tokens
abbrev pub PlacedAt : List Lexeme → Rule → Diag → Type 0
PlacedAt [] rule fault = ⊥
PlacedAt (t ∷ ts) rule fault = fault ≡ record { span = t.span; rule = rule; frames = [] }

-- the fault is at the token from which on there are so many of these
abbrev pub Placed : List Lexeme → Rule → ℕ → Diag → Type 0
Placed lexemes rule left fault = PlacedAt (drop (length lexemes - left) lexemes) rule fault
