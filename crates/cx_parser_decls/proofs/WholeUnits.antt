-- What the reader of a unit says of all the tokens.
use Rattle.std.proofs.Common.{◌≡◌, ℕ, List, length, Ok, Err, sym, ◌∙◌, subst}
use Rattle.cx_base.specs.declared.rule.Rule.{Rule}
use Rattle.cx_base.specs.declared.rule.Rule.TheVariants.{Syntax}
use Rattle.cx_grammar.specs.declared.stop.ParseStop.{ParseStop}
use Rattle.cx_grammar.specs.declared.stop.ParseStop.TheVariants.{Fault}
use Rattle.cx_tree.specs.declared.decls.Unit.{Unit as TranslationUnit}
use Rattle.cx_syntax.specs.declared.lexeme.Lexeme.{Lexeme}
use Rattle.cx_grammar.specs.Answers.{Answers, FaultAt}
use Rattle.cx_grammar.specs.Exact.{done, stop}
use Rattle.cx_grammar.proofs.Answered.{read_more, read_stopped, read_whole}
use Rattle.cx_syntax_decls.specs.Readers as r
use Rattle.cx_syntax_decls.specs.Symbols as symbols
use Rattle.cx_syntax_decls.proofs.Knots.{exactly_unit}

module _ (left : ℕ) (ts : List Lexeme) where
  pub unit_whole : (v : TranslationUnit) (rest : List Lexeme) → r.unit left ts ≡ done v rest → length rest ≡ 0 → Answers symbols.unit left ts (Ok v)
  unit_whole v rest e none = read_whole symbols.unit left (exactly_unit left) ts v rest e none

  -- tokens are left over
  pub unit_more : (v : TranslationUnit) (rest : List Lexeme) (found : ParseStop) → r.unit left ts ≡ done v rest → (length rest ≡ 0 → ⊥) → found ≡ Fault Syntax (length rest) → Answers symbols.unit left ts (Err found)
  unit_more v rest found e some_left is = λ rule n at.
      let both : Fault Syntax (length rest) ≡ Fault rule n = sym is ∙ at in
      let same_rule : Syntax ≡ rule = cc in
      let same_size : length rest ≡ n = cc in
      let P : Rule → Type 0 = λ q. FaultAt symbols.unit left ts q (length rest) in
      let Q : ℕ → Type 0 = λ m. FaultAt symbols.unit left ts rule m in
      subst Q same_size (subst P same_rule (read_more symbols.unit left (exactly_unit left) ts v rest e some_left))

  pub unit_stopped : (found : ParseStop) → ((rule : Rule) (n : ℕ) → found ≡ Fault rule n → r.unit left ts ≡ stop rule n) → Answers symbols.unit left ts (Err found)
  unit_stopped found h = λ rule n is. read_stopped symbols.unit left (exactly_unit left) ts rule n (h rule n is)

-- the same of a cursor over them
pub of_whole : (left : ℕ) (ts given : List Lexeme) (v : TranslationUnit) (rest : List Lexeme) → given ≡ ts → r.unit left given ≡ done v rest → length rest ≡ 0 → Answers symbols.unit left ts (Ok v)
of_whole left ts given v rest is e none = unit_whole left ts v rest (subst (λ l. r.unit left l ≡ done v rest) is e) none

pub of_more : (left : ℕ) (ts given : List Lexeme) (v : TranslationUnit) (rest : List Lexeme) (found : ParseStop) → given ≡ ts → r.unit left given ≡ done v rest → (length rest ≡ 0 → ⊥) → found ≡ Fault Syntax (length rest) → Answers symbols.unit left ts (Err found)
of_more left ts given v rest found is e some_left at = unit_more left ts v rest found (subst (λ l. r.unit left l ≡ done v rest) is e) some_left at

pub of_stop : (left : ℕ) (ts given : List Lexeme) (found : ParseStop) → given ≡ ts → ((rule : Rule) (n : ℕ) → found ≡ Fault rule n → r.unit left given ≡ stop rule n) → Answers symbols.unit left ts (Err found)
of_stop left ts given found is h = unit_stopped left ts found (λ rule n at. subst (λ l. r.unit left l ≡ stop rule n) is (h rule n at))
