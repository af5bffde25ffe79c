-- What kinds of tokens a text has: numbers in the range of their types, and `End` behind them alone.
use Rattle.std.proofs.Common.{◌≡◌, ◌≢◌, ℕ, Bool, true, false, cond, length, pos, ◌+◌, List, [], ◌∷◌, ◌++◌, take, drop, Option, Some, None, refl, ap, sym, ◌∙◌, subst, append_assoc, ltb}
use Rattle.std.specs.Prelude.{◌==◌, All, IfSome}
use Rattle.std.specs.List.{list_any}
use Rattle.std.proofs.lemmas.List.Elements.{All-append, All-cons, All-nil}
use Rattle.cx_base.specs.declared.diag.Mark.{Mark}
use Rattle.cx_base.specs.declared.int_type.IntType.{IntType}
use Rattle.cx_base.specs.declared.rule.Rule.TheVariants as rule
use Rattle.cx_ints.specs.Ranges.{Fits}
use Rattle.cx_ints.specs.declared.literals.Suffix.{Suffix}
use Rattle.cx_ints.proofs.Listed.{literal_fits}
use Rattle.cx_token_defs.specs.declared.Token.{Token}
use Rattle.cx_token_defs.specs.declared.TokenKind.{TokenKind}
use Rattle.cx_token_defs.specs.declared.TokenKind.TheVariants as kind
use Rattle.cx_tokens.specs.declared.shapes.Flaw.{Flaw}
use Rattle.cx_tokens.specs.Bytes.{begins_name, byte_at, is_blank, is_splice}
use Rattle.cx_tokens.specs.Cut.{IsCut, Piece, end_token, found_at, opens_line, token_from, tokens_from, tokens_of}
use Rattle.cx_tokens.specs.Marks.{mark_of}
use Rattle.cx_tokens.specs.Literals.{char_of, literal_flaws, literal_kind, literal_size, part_value, quoted, quoted_at}
use Rattle.cx_tokens.specs.Names.{alternatives, is_among, is_left_out_name, is_quote, longest_name, name, name_size, name_with, spells_in, words}
use Rattle.cx_tokens.specs.Numbers.{are_digits, begins_number, digits_of, number, number_size, number_type, radix_of, suffix_of, suffixed, tail_of, typed, value_of}
use Rattle.cx_tokens.specs.Pieces.{Found, white, token, faulty, flaw, unless_faulty}
use Rattle.cx_tokens.specs.Punctuators.{doubles, doubles_left_out, is_lone_less, punctuator, singles, triples, triples_left_out}
use Rattle.cx_tokens.specs.Space.{begins_block_comment, begins_line_comment, block_comment, comment_body, hash, line_comment, line_size, splices}
use Rattle.cx_tokens.specs.Tokens.{EndsOnce, HoldsItsValue, Lexes}

-- a token's kind other than `End`, with a value in range
abbrev IsKind : TokenKind → Type 0
IsKind k = (k ≢ kind.End) × HoldsItsValue k

abbrev HasKind : Found → Type 0
HasKind (white n) = Unit {0}
HasKind (token n k) = IsKind k
HasKind (faulty n f fs) = Unit {0}

chosen : (c : Bool) (f g : Found) → HasKind f → HasKind g → HasKind (cond c f g)
chosen true f g h k = h
chosen false f g h k = k

either_kind : (c : Bool) (j k : TokenKind) → IsKind j → IsKind k → IsKind (cond c j k)
either_kind true j k h i = h
either_kind false j k h i = i

unless_kind : (fs : List Flaw) (found : Found) → HasKind found → HasKind (unless_faulty fs found)
unless_kind [] found h = h
unless_kind (f ∷ fs) found h = tt

word_is : IsKind kind.Word
word_is = ((λ e. cc), tt)

ident_is : IsKind kind.Ident
ident_is = ((λ e. cc), tt)

punct_is : IsKind kind.Punct
punct_is = ((λ e. cc), tt)

name_has : (rest : List ℕ) → HasKind (name rest)
unfolding name name_with
name_has rest =
    let text = take (name_size rest) rest in
    chosen (ltb longest_name (name_size rest)) _ _ tt
    (chosen (is_left_out_name text (byte_at rest (name_size rest))) _ _ tt
    (either_kind (spells_in alternatives text) _ _ punct_is (either_kind (is_among words text) _ _ word_is ident_is)))

typed_has : (n value : ℕ) (ty : Option IntType) → IfSome ty (λ t. Fits t (pos value)) → HasKind (typed n value ty)
typed_has n value None h = tt
typed_has n value (Some ty) h = ((λ e. cc), h)

type_fits : (c : Bool) (value : ℕ) (ty : Option IntType) → IfSome ty (λ t. Fits t (pos value)) → IfSome (cond c ty None) (λ t. Fits t (pos value))
type_fits true value ty h = h
type_fits false value ty h = tt

suffixed_has : (n : ℕ) (run : List ℕ) (suffix : Option Suffix) → HasKind (suffixed n run suffix)
suffixed_has n run None = tt
suffixed_has n run (Some suffix) =
    let value = value_of (radix_of run) (digits_of run) in
    chosen (are_digits (digits_of run)) _ _
    (typed_has n value (number_type value (radix_of run) suffix) (type_fits _ value _ (literal_fits value (radix_of run == 10) suffix))) tt

number_has : (rest : List ℕ) → HasKind (number rest)
unfolding number
number_has rest = suffixed_has (number_size rest) (take (number_size rest) rest) (suffix_of (tail_of (take (number_size rest) rest)))

quoted_has : (rest : List ℕ) → HasKind (quoted rest)
unfolding quoted quoted_at literal_kind
quoted_has rest =
    let quote = byte_at rest 0 in
    let body = drop 1 rest in
    unless_kind (literal_flaws quote body) (token (literal_size quote body) (cond (quote == 34) kind.Str (kind.Char (char_of (part_value body)))))
    (either_kind (quote == 34) kind.Str (kind.Char (char_of (part_value body))) ((λ e. cc), tt) ((λ e. cc), tt))

line_comment_has : (rest : List ℕ) → HasKind (line_comment rest)
unfolding line_comment
line_comment_has rest = unless_kind (splices (line_size 2 rest) rest) (white (line_size 2 rest)) tt

block_comment_has : (rest : List ℕ) → HasKind (block_comment rest)
unfolding block_comment
block_comment_has rest =
    chosen (ltb (comment_body rest) (length (drop 2 rest))) _ (faulty (comment_body rest + 2) (flaw 0 2 rule.OpenComment) (splices (comment_body rest + 2) rest))
    (unless_kind (splices (comment_body rest + 4) rest) (white (comment_body rest + 4)) tt) tt

hash_has : (opens : Bool) (rest : List ℕ) → HasKind (hash opens rest)
unfolding hash
hash_has opens rest = chosen _ (white (line_size 1 rest)) (faulty 1 _ []) tt tt

punctuator_has : (rest : List ℕ) → HasKind (punctuator rest)
unfolding punctuator
punctuator_has rest =
    chosen (is_lone_less rest) _ _ punct_is
    (chosen (is_among triples (take 3 rest)) _ _ punct_is
    (chosen (is_among triples_left_out (take 3 rest)) _ _ tt
    (chosen (is_among doubles (take 2 rest)) _ _ punct_is
    (chosen (is_among doubles_left_out (take 2 rest)) _ _ tt
    (chosen (list_any (λ b. b == byte_at rest 0) singles) _ _ punct_is tt)))))

pub found_has : (opens : Bool) (rest : List ℕ) → HasKind (found_at opens rest)
unfolding found_at
found_has opens rest =
    chosen (is_blank (byte_at rest 0)) _ _ tt
    (chosen (begins_name (byte_at rest 0)) _ _ (name_has rest)
    (chosen (begins_number rest) _ _ (number_has rest)
    (chosen (is_quote (byte_at rest 0)) _ _ (quoted_has rest)
    (chosen (begins_line_comment rest) _ _ (line_comment_has rest)
    (chosen (begins_block_comment rest) _ _ (block_comment_has rest)
    (chosen (byte_at rest 0 == 35) _ _ (hash_has opens rest)
    (chosen (is_splice rest) _ _ tt (punctuator_has rest))))))))

-- the pieces of a cut have such kinds
AllKinds : List Piece → Type 0
AllKinds [] = Unit {0}
AllKinds (piece ∷ pieces) = HasKind piece.found × AllKinds pieces

cut_has : (before : List Piece) (bytes : List ℕ) (pieces : List Piece) → IsCut before bytes pieces → AllKinds pieces
unfolding AllKinds
cut_has before bytes [] h = tt
cut_has before bytes (piece ∷ pieces) h =
    (subst (λ p. HasKind p.found) (sym h.1) (found_has (opens_line before) bytes), cut_has (piece ∷ before) (drop (length piece.bytes) bytes) pieces h.2)

tokens_are : (before bytes : List ℕ) (found : Found) → HasKind found → All (λ t. IsKind t.kind) (tokens_of before bytes found)
tokens_are before bytes (white n) h = All-nil (λ t. IsKind t.kind)
tokens_are before bytes (token n k) h = All-cons (λ t. IsKind t.kind) (token_from before bytes k) [] h (All-nil (λ t. IsKind t.kind))
tokens_are before bytes (faulty n f fs) h = All-nil (λ t. IsKind t.kind)

-- tokens of a text without its end, and the end
record Ended (tokens : List Token) : Type 0 where
  others : List Token
  mark : Mark
  are : All (λ t. IsKind t.kind) others
  all : tokens ≡ others ++ end_token mark ∷ []

ended : (before : List ℕ) (pieces : List Piece) → AllKinds pieces → Ended (tokens_from before pieces)
unfolding AllKinds
ended before [] h = record { others = []; mark = mark_of before; are = All-nil (λ t. IsKind t.kind); all = refl }
ended before (piece ∷ pieces) h =
    let rest = ended (before ++ piece.bytes) pieces h.1 in
    let here = tokens_of before piece.bytes piece.found in
    record {
      others = here ++ rest.others;
      mark = rest.mark;
      are = All-append (λ t. IsKind t.kind) here rest.others (tokens_are before piece.bytes piece.found h.0) rest.are;
      all = ap (λ ts. here ++ ts) rest.all ∙ sym (append_assoc here rest.others (end_token rest.mark ∷ []));
    }

lexed : (bytes : List ℕ) (tokens : List Token) → Lexes bytes tokens → Ended tokens
lexed bytes tokens h = subst Ended (sym h.3) (ended [] h.0 (cut_has [] bytes h.0 h.1))

pub end_once : (bytes : List ℕ) (tokens : List Token) → Lexes bytes tokens → EndsOnce tokens
end_once bytes tokens h = let e = lexed bytes tokens h in (e.others, e.mark, (λ k t i. (e.are k t i).0), e.all)

pub in_range : (bytes : List ℕ) (tokens : List Token) → Lexes bytes tokens → All (λ t. HoldsItsValue t.kind) tokens
in_range bytes tokens h =
    let e = lexed bytes tokens h in
    let P : Token → Type 0 = λ t. HoldsItsValue t.kind in
    subst (All P) (sym e.all)
    (All-append P e.others (end_token e.mark ∷ []) (λ k t i. (e.are k t i).1) (All-cons P (end_token e.mark) [] tt (All-nil P)))
