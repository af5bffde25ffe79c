-- A fault of tokens that end in the source's end has a token.
use Rattle.std.proofs.Common.{◌≡◌, ℕ, ◌≤◌, Bool, true, List, [], ◌∷◌, ◌++◌, refl, ap}
use Rattle.cx_base.specs.declared.rule.Rule.{Rule}
use Rattle.cx_grammar.specs.Answers.{FaultAt}
use Rattle.cx_grammar.specs.Exact.{Family}
use Rattle.cx_grammar.specs.Language.{◌<$>◌, ◌⊲◌, many}
use Rattle.cx_grammar.proofs.Plain.{fault_has_token}
use Rattle.cx_syntax.specs.declared.class.Class.TheVariants as k
use Rattle.cx_syntax.specs.declared.lexeme.Lexeme.{Lexeme}
use Rattle.cx_syntax.specs.Classes.{is, same_class, class_by, lexeme_of, lexemes_of}
use Rattle.cx_syntax_decls.specs.Grammar as g
use Rattle.cx_syntax_decls.specs.Symbols as symbols
use Rattle.cx_syntax_decls.specs.Values.{unit_of}
use Rattle.cx_syntax_decls.proofs.Endless.{endless_decls}
use Rattle.cx_token_defs.specs.declared.Token.{Token}
use Rattle.cx_token_defs.specs.declared.TokenKind.{TokenKind}
use Rattle.cx_token_defs.specs.declared.TokenKind.TheVariants as kind
use Rattle.cx_unit_parser.specs.Parsing.{EndsInEnd, is_end_kind, seen}

-- the last of some tokens as the grammar sees them
pub record Last (ts : List Lexeme) : Type 0 where
  pub front : List Lexeme
  pub last : Lexeme
  pub cut : ts ≡ front ++ last ∷ []
  pub is_end : is k.End last ≡ true

end_class : (names : List ℕ → Bool) (kind : TokenKind) (text : List ℕ) → is_end_kind kind ≡ true → same_class (class_by names kind text) k.End ≡ true
unfolding same_class
end_class names kind.End text h = refl
end_class names kind.Word text h = cc
end_class names kind.Ident text h = cc
end_class names (kind.Number n) text h = cc
end_class names (kind.Char c) text h = cc
end_class names kind.Str text h = cc
end_class names kind.Punct text h = cc

pub last_of : (names : List ℕ → Bool) (tokens : List Token) → EndsInEnd tokens → Last (lexemes_of names tokens)
last_of names [] e = absurd e
last_of names (t ∷ []) e = record { front = []; last = lexeme_of names t; cut = refl; is_end = end_class names t.kind t.text e }
last_of names (t ∷ u ∷ ts) e = let l = last_of names (u ∷ ts) e in record { front = lexeme_of names t ∷ l.front; last = l.last; cut = ap (λ z. lexeme_of names t ∷ z) l.cut; is_end = l.is_end }

-- a fault of what a value is made from
unmade : {T A B : Type 0} (f : A → B) (G : Family T A) (levels : ℕ) (ts : List T) (rule : Rule) (left : ℕ) → FaultAt (λ n. f <$> G n) levels ts rule left → FaultAt G levels ts rule left
unmade f G levels ts rule left w = record {
  before = w.before;
  rest = w.rest;
  cut = w.cut;
  size = w.size;
  begun = w.begun;
  fault = w.fault;
  none = λ v s. w.none (f v) (record { value = v; made = refl; part = s });
}

pub has_token : (tokens : List Token) (rule : Rule) (left : ℕ) → EndsInEnd tokens → FaultAt symbols.unit 512 (seen tokens) rule left → 1 ≤ left
has_token tokens rule left e f = let l = last_of _ tokens e in
    fault_has_token (is k.End) (λ n. many (g.decl n)) 512 (endless_decls 512) l.front l.last l.is_end (seen tokens) rule left l.cut (unmade unit_of (λ n. many (g.decl n) ⊲ is k.End) 512 (seen tokens) rule left f)
