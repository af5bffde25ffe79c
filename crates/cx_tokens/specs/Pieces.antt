-- What can be found at a place of the text: white space, a token, or something that has faults.
use Rattle.std.specs.Prelude.{ℕ, List, [], ◌∷◌}
use Rattle.cx_base.specs.declared.rule.Rule.{Rule}
use Rattle.cx_token_defs.specs.declared.TokenKind.{TokenKind}
use Rattle.cx_tokens.specs.declared.shapes.Flaw.{Flaw}

-- So many bytes of white space, so many bytes of a token, or so many bytes with one fault or more.
pub data Found : Type 0 where
  white : ℕ → Found
  token : ℕ → TokenKind → Found
  faulty : ℕ → Flaw → List Flaw → Found

abbrev pub size_of : Found → ℕ
size_of (white n) = n
size_of (token n k) = n
size_of (faulty n f fs) = n

abbrev pub flaws_of : Found → List Flaw
flaws_of (white n) = []
flaws_of (token n k) = []
flaws_of (faulty n f fs) = f ∷ fs

-- a rule that is broken by so many bytes, behind so many of the piece
abbrev pub flaw : ℕ → ℕ → Rule → Flaw
flaw start size rule = record { start = start; size = size; rule = rule }

-- the whole piece breaks the rule
abbrev pub broken : ℕ → Rule → Found
broken n rule = faulty n (flaw 0 n rule) []

-- what it is, unless it has faults
abbrev pub unless_faulty : List Flaw → Found → Found
unless_faulty [] found = found
unless_faulty (f ∷ fs) found = faulty (size_of found) f fs
