-- The one verdict on bytes, from what the lexer and the parser answered.
use Rattle.std.proofs.Common.{◌≡◌, ◌⊎◌, inl, inr, ℕ, Bool, ◌<◌, ◌≤◌, List, [], ◌∷◌, ◌++◌, length, IfErr, IfOk, Result, Ok, Err, refl, sym, ap, subst, ◌∙◌, true, false, nat_lt, arith}
use Rattle.std.proofs.lemmas.Bool.Decides.{nat_tests}
use Rattle.cx_base.specs.Only.{IsOnly}
use Rattle.cx_base.specs.declared.Memory.{Memory as NoMemory}
use Rattle.cx_base.specs.declared.diag.Diag.{Diag}
use Rattle.cx_base.specs.declared.limits.Limits.{Limits}
use Rattle.cx_source.specs.Contents.{longest_source}
use Rattle.cx_tokens.specs.declared.LexAnswer.{LexAnswer}
use Rattle.cx_tokens.specs.declared.LexAnswer.TheVariants as answer
use Rattle.cx_token_defs.specs.declared.Token.{Token}
use Rattle.cx_tokens.specs.Cut.{Piece, token_from, tokens_of, tokens_from}
use Rattle.cx_tokens.specs.Pieces.{Found, white, token, faulty}
use Rattle.cx_tokens.specs.Reached.{Answers}
use Rattle.cx_tokens.specs.Tokens.{Explains, LexFault, Lexes}
use Rattle.cx_tokens.proofs.Cuts.{never_both, one_fault, one_list}
use Rattle.cx_tree.specs.declared.decls.Unit.{Unit as Tree}
use Rattle.cx_unit_parser.specs.declared.parsing.ParseAnswer.{ParseAnswer}
use Rattle.cx_unit_parser.specs.declared.parsing.ParseAnswer.TheVariants as parsed
use Rattle.cx_unit_parser.specs.Parsing.{EndsInEnd, IsFault, IsTree}
use Rattle.cx_unit_parser.specs.Parsing as parsing
use Rattle.cx_unit_parser.proofs.Single as laws
use Rattle.cx_report.specs.declared.verdict.Verdict.{Verdict}
use Rattle.cx_report.specs.declared.verdict.Verdict.TheVariants.{Refused}
use Rattle.cx_unit.specs.Decls.{verdict_of}
use Rattle.cx_unit.specs.Verdict.{IsVerdict, IsVerdictFrom, IsVerdictIf, IsVerdictOfFault, IsVerdictOfTokens, RefusedBy, StoppedBy, source_too_long}

-- ---- from the tokens on

-- what else the tokens have for a verdict, where they have this tree
same_tree : (limits : Limits) (tokens : List Token) (tree : Tree) (v w : Verdict) → IsTree tokens tree → v ≡ verdict_of limits tree → IsVerdictFrom limits tokens w → w ≡ v
same_tree limits tokens tree v w spelled is (inl other) = absurd (laws.never_both tokens tree other.fault spelled other.found)
same_tree limits tokens tree v w spelled is (inr other) = other.judged ∙ (ap (verdict_of limits) (laws.one_tree tokens other.tree tree other.spelled spelled) ∙ sym is)

-- what else, where they have this fault
same_syntax : (limits : Limits) (tokens : List Token) (fault : Diag) (v w : Verdict) → IsFault tokens fault → v ≡ Refused fault → IsVerdictFrom limits tokens w → w ≡ v
same_syntax limits tokens fault v w found is (inl other) = other.judged ∙ (ap Refused (laws.one_fault tokens other.fault fault other.found found) ∙ sym is)
same_syntax limits tokens fault v w found is (inr other) = absurd (laws.never_both tokens other.tree fault other.spelled found)

-- the verdict of the tree that the parser gave
pub of_tree : (limits : Limits) (tokens : List Token) (tree : Tree) (result : Result Verdict NoMemory) → IsTree tokens tree → IfOk result (λ v. v ≡ verdict_of limits tree) → IfOk result (IsOnly (IsVerdictFrom limits tokens))
of_tree limits tokens tree (Err e) spelled is = tt
of_tree limits tokens tree (Ok v) spelled is = record { holds = inr (record { tree = tree; spelled = spelled; judged = is }); only = λ w other. same_tree limits tokens tree v w spelled is other }

-- the verdict of what it answered else
pub of_stop : (limits : Limits) (tokens : List Token) (said : ParseAnswer) (result : Result Verdict NoMemory) → parsing.Explains tokens said → IfOk result (StoppedBy said) → IfOk result (IsOnly (IsVerdictFrom limits tokens))
of_stop limits tokens said (Err e) explained stopped = tt
of_stop limits tokens (parsed.Fault fault) (Ok v) explained stopped = record { holds = inl (record { fault = fault; found = explained; judged = stopped }); only = λ w other. same_syntax limits tokens fault v w explained stopped other }
of_stop limits tokens parsed.Memory (Ok v) explained stopped = absurd stopped

-- ---- the tokens of bytes end in the source's end

one_more : (t : Token) (tokens : List Token) → EndsInEnd tokens → EndsInEnd (t ∷ tokens)
one_more t [] e = absurd e
one_more t (u ∷ tokens) e = e

more : (before bytes : List ℕ) (found : Found) (tokens : List Token) → EndsInEnd tokens → EndsInEnd (tokens_of before bytes found ++ tokens)
more before bytes (white n) tokens e = e
more before bytes (token n k) tokens e = one_more (token_from before bytes k) tokens e
more before bytes (faulty n f fs) tokens e = e

ends : (before : List ℕ) (pieces : List Piece) → EndsInEnd (tokens_from before pieces)
ends before [] = refl
ends before (piece ∷ pieces) = more before piece.bytes piece.found (tokens_from (before ++ piece.bytes) pieces) (ends (before ++ piece.bytes) pieces)

pub lexed_ends : (bytes : List ℕ) (tokens : List Token) → Lexes bytes tokens → EndsInEnd tokens
lexed_ends bytes tokens l = subst EndsInEnd (sym l.3) (ends [] l.0)

-- ---- from the bytes on

pub lt_true : (a b : ℕ) → a < b → nat_lt a b ≡ true
lt_true a b h = grind (arith, nat_tests)

pub lt_false : (a b : ℕ) → b ≤ a → nat_lt a b ≡ false
lt_false a b h = grind (arith, nat_tests)

pub long_only : (test : Bool) (limits : Limits) (bytes : List ℕ) (v : Verdict) → test ≡ true → v ≡ source_too_long → IsOnly (IsVerdictIf test limits bytes) v
long_only true limits bytes v e is = record { holds = is; only = λ w other. other ∙ sym is }
long_only false limits bytes v e is = cc

-- what else the bytes have for a verdict, where they have these tokens
same_tokens : (limits : Limits) (bytes : List ℕ) (tokens : List Token) (v w : Verdict) → Lexes bytes tokens → IsOnly (IsVerdictFrom limits tokens) v
    → IsVerdictOfFault bytes w ⊎ IsVerdictOfTokens limits bytes w → w ≡ v
same_tokens limits bytes tokens v w lexed is (inl other) = absurd (never_both bytes tokens other.fault lexed other.found)
same_tokens limits bytes tokens v w lexed is (inr other) = is.only w (let P : List Token → Type 0 = λ l. IsVerdictFrom limits l w in subst P (one_list bytes other.tokens tokens other.lexed lexed) other.judged)

-- what else, where they have this fault
same_fault : (limits : Limits) (bytes : List ℕ) (fault : Diag) (v w : Verdict) → LexFault bytes fault → v ≡ Refused fault
    → IsVerdictOfFault bytes w ⊎ IsVerdictOfTokens limits bytes w → w ≡ v
same_fault limits bytes fault v w found is (inl other) = other.judged ∙ ap Refused (one_fault bytes other.fault fault other.found found) ∙ sym is
same_fault limits bytes fault v w found is (inr other) = absurd (never_both bytes other.tokens fault other.lexed found)

tokens_only : (test : Bool) (limits : Limits) (bytes : List ℕ) (tokens : List Token) (v : Verdict) → test ≡ false → Lexes bytes tokens
    → IsOnly (IsVerdictFrom limits tokens) v → IsOnly (IsVerdictIf test limits bytes) v
tokens_only true limits bytes tokens v e lexed is = cc
tokens_only false limits bytes tokens v e lexed is = record {
  holds = inr (record { tokens = tokens; lexed = lexed; judged = is.holds });
  only = λ w other. same_tokens limits bytes tokens v w lexed is other;
}

fault_only : (test : Bool) (limits : Limits) (bytes : List ℕ) (fault : Diag) (v : Verdict) → test ≡ false → LexFault bytes fault
    → v ≡ Refused fault → IsOnly (IsVerdictIf test limits bytes) v
fault_only true limits bytes fault v e found is = cc
fault_only false limits bytes fault v e found is = record {
  holds = inl (record { fault = fault; found = found; judged = is });
  only = λ w other. same_fault limits bytes fault v w found is other;
}

-- the verdict of the tokens that the lexer gave
pub of_tokens : (limits : Limits) (bytes : List ℕ) (tokens : List Token) (result : Result Verdict NoMemory) → length bytes ≤ longest_source → Lexes bytes tokens
    → IfOk result (IsOnly (IsVerdictFrom limits tokens)) → IfOk result (IsOnly (IsVerdict limits bytes))
of_tokens limits bytes tokens (Err e) short lexed is = tt
of_tokens limits bytes tokens (Ok v) short lexed is = tokens_only _ limits bytes tokens v (lt_false longest_source (length bytes) short) lexed is

of_fault : (limits : Limits) (bytes : List ℕ) (fault : Diag) (v : Verdict) → length bytes ≤ longest_source → LexFault bytes fault
    → v ≡ Refused fault → IsOnly (IsVerdict limits bytes) v
of_fault limits bytes fault v short found is = fault_only _ limits bytes fault v (lt_false longest_source (length bytes) short) found is

-- the verdict of what the lexer answered
pub of_answer : (limits : Limits) (bytes : List ℕ) (said : LexAnswer) (result : Result Verdict NoMemory) → length bytes ≤ longest_source → Explains bytes said
    → IfOk result (RefusedBy said) → IfOk result (IsOnly (IsVerdict limits bytes))
of_answer limits bytes said (Err e) short explained refused = tt
of_answer limits bytes (answer.Fault fault) (Ok v) short explained refused = of_fault limits bytes fault v short explained refused
of_answer limits bytes answer.Memory (Ok v) short explained refused = absurd refused

-- what lexing answers, by its two clauses
pub answers_of : (bytes : List ℕ) (result : Result (List Token) LexAnswer) → IfOk result (λ tokens. Lexes bytes tokens) → IfErr result (λ answer. Explains bytes answer)
    → Answers bytes result
answers_of bytes (Ok tokens) h k = h
answers_of bytes (Err answer) h k = k
