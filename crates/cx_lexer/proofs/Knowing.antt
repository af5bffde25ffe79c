-- What a lexer knows of more bytes.
use Rattle.std.proofs.Common.{◌≡◌, ℕ, ◌≤◌, Option, Some, None, List, [], ◌++◌, length, ap, sym, ◌∙◌, subst, append-nil, append_assoc}
use Rattle.std.proofs.lemmas.List.{drop-append-le}
use Rattle.cx_token_defs.specs.declared.Token.{Token}
use Rattle.cx_tokens.specs.declared.LexAnswer.{LexAnswer}
use Rattle.cx_tokens.specs.declared.step.Here.{Here}
use Rattle.cx_tokens.specs.Reached.{Reached, Settled, Stands}
use Rattle.cx_tokens.specs.Tokens.{Explains}
use Rattle.cx_lexer.specs.Fed.{Behind, Knows}

pub reached_here : (bytes : List ℕ) (here : Here) (tokens : List Token) → Stands bytes here tokens → Reached bytes here tokens
reached_here bytes here tokens h = subst (λ xs. Reached xs here tokens) (append-nil bytes) (h.reached [])

pub behind_more : (bytes piece : List ℕ) (tokens : List Token) (here : Here) (front more : List ℕ) → more ≡ front ++ piece → Behind bytes tokens here front
    → Behind (bytes ++ piece) tokens here more
behind_more bytes piece tokens here front more e b =
    let within : here.at ≤ length bytes = (reached_here bytes here tokens b.stands).within in
    record {
      rest = drop-append-le here.at bytes piece within ∙ ap (λ xs. xs ++ piece) b.rest ∙ sym e;
      stands = record { reached = λ later. subst (λ xs. Reached xs here tokens) (sym (append_assoc bytes piece later)) (b.stands.reached (piece ++ later)) };
    }

settled_more : (bytes piece : List ℕ) (answer : LexAnswer) → Settled bytes answer → Settled (bytes ++ piece) answer
settled_more bytes piece answer s =
    record { explains = λ later. subst (λ xs. Explains xs answer) (sym (append_assoc bytes piece later)) (s.explains (piece ++ later)) }

pub knows_none : (o : Option LexAnswer) (bytes : List ℕ) (tokens : List Token) (here : Here) (front : List ℕ) → o ≡ None → Knows o bytes tokens here front → Behind bytes tokens here front
knows_none o bytes tokens here front e k = subst (λ x. Knows x bytes tokens here front) e k

pub knows_behind : (o : Option LexAnswer) (bytes : List ℕ) (tokens : List Token) (here : Here) (front : List ℕ) → o ≡ None → Behind bytes tokens here front → Knows o bytes tokens here front
knows_behind o bytes tokens here front e b = subst (λ x. Knows x bytes tokens here front) (sym e) b

pub knows_more : (o : Option LexAnswer) (answer : LexAnswer) (bytes piece : List ℕ) (tokens : List Token) (here : Here) (front : List ℕ) → o ≡ Some answer
    → Knows o bytes tokens here front → Knows o (bytes ++ piece) tokens here front
knows_more o answer bytes piece tokens here front e k =
    subst (λ x. Knows x (bytes ++ piece) tokens here front) (sym e) (settled_more bytes piece answer (subst (λ x. Knows x bytes tokens here front) e k))

pub knows_answer : (o : Option LexAnswer) (answer : LexAnswer) (bytes : List ℕ) (tokens : List Token) (here : Here) (front : List ℕ) → o ≡ Some answer
    → Knows o bytes tokens here front → Explains bytes answer
knows_answer o answer bytes tokens here front e k =
    let s : Settled bytes answer = subst (λ x. Knows x bytes tokens here front) e k in
    subst (λ xs. Explains xs answer) (append-nil bytes) (s.explains [])
