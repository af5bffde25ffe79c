-- What the tokens of a unit spell ([gram]), given the names of types among them, within 512 levels ([implimits]).
use Rattle.std.specs.Prelude.{◌≡◌, Bool, true, false, List, [], ◌∷◌, length}
use Rattle.cx_base.specs.declared.diag.Diag.{Diag}
use Rattle.cx_token_defs.specs.declared.Token.{Token}
use Rattle.cx_token_defs.specs.declared.TokenKind.{TokenKind}
use Rattle.cx_token_defs.specs.declared.TokenKind.TheVariants as kind
use Rattle.cx_tree.specs.declared.decls.Unit.{Unit as Tree}
use Rattle.cx_grammar.specs.Answers.{Spelled, FaultAt}
use Rattle.cx_syntax.specs.declared.lexeme.Lexeme.{Lexeme}
use Rattle.cx_syntax.specs.Classes.{lexemes_of}
use Rattle.cx_syntax_decls.specs.Symbols as symbols
use Rattle.std.specs.FinSet.{contains}
use Rattle.cx_type_names.specs.Names.{type_names}
use Rattle.cx_unit_parser.specs.declared.parsing.ParseAnswer.{ParseAnswer}
use Rattle.cx_unit_parser.specs.declared.parsing.ParseAnswer.TheVariants as answer

abbrev pub is_end_kind : TokenKind → Bool
is_end_kind kind.End = true
is_end_kind _ = false

-- the last token is that of the source's end
abbrev pub EndsInEnd : List Token → Type 0
EndsInEnd [] = ⊥
EndsInEnd (t ∷ []) = is_end_kind t.kind ≡ true
EndsInEnd (t ∷ u ∷ ts) = EndsInEnd (u ∷ ts)

-- the tokens as the grammar sees them: an identifier among their names of types is a TYPE
abbrev pub seen : List Token → List Lexeme
seen tokens = lexemes_of (contains (type_names tokens)) tokens

-- the tokens spell this unit, and no other
abbrev pub IsTree : List Token → Tree → Type 0
IsTree tokens tree = Spelled symbols.unit 512 (seen tokens) tree

-- The first token such that the tokens up to and with it are a front of no unit within 512 levels: `syntax` where they are one of no unit at all, else `nesting`.
pub record IsFault (tokens : List Token) (fault : Diag) : Type 0 where
  pub token : Lexeme
  pub behind : List Lexeme
  pub at : FaultAt symbols.unit 512 (seen tokens) fault.rule (length (token ∷ behind))
  pub stands : at.rest ≡ token ∷ behind
  pub placed : fault.span ≡ token.span
  pub bare : fault.frames ≡ []

-- what an answer that isn't a tree says; memory may run out at any time
abbrev pub Explains : List Token → ParseAnswer → Type 0
Explains tokens (answer.Fault fault) = IsFault tokens fault
Explains tokens answer.Memory = Unit {0}
