-- A step over a piece that is decided is the step over it in each text that goes on.
use Rattle.std.proofs.Common.{◌≡◌, ℕ, ◌+◌, ◌<◌, ◌≤◌, true, List, [], ◌++◌, length, drop, take, ap, sym, ◌∙◌, subst, arith, length-append, length-drop, length-take, append-nil, Err}
use Rattle.std.proofs.lemmas.List.{drop-append-le, take-append-le}
use Rattle.cx_base.specs.declared.diag.Diag.{Diag}
use Rattle.cx_token_defs.specs.declared.Token.{Token}
use Rattle.cx_tokens.specs.declared.step.Here.{Here}
use Rattle.cx_tokens.specs.declared.LexAnswer.{LexAnswer}
use Rattle.cx_tokens.specs.declared.LexAnswer.TheVariants as answers
use Rattle.cx_tokens.specs.Cut.{Piece, found_at, opens_behind, piece_at, tokens_of}
use Rattle.cx_tokens.specs.Decided.{is_decided}
use Rattle.cx_tokens.specs.Faults.{fault_at}
use Rattle.cx_tokens.specs.Marks.{mark_of}
use Rattle.cx_tokens.specs.Pieces.{Found, flaws_of, size_of}
use Rattle.cx_tokens.specs.Reached.{Reached, Stands}
use Rattle.cx_tokens.specs.Steps.{Fails, IsFirstFlaw, Passes, Steps, next_piece}
use Rattle.cx_tokens.proofs.Deciding.{decided_fits, decided_stays}

pub reached_here : (bytes : List ℕ) (here : Here) (tokens : List Token) → Stands bytes here tokens → Reached bytes here tokens
reached_here bytes here tokens h = subst (λ xs. Reached xs here tokens) (append-nil bytes) (h.reached [])

-- the next piece, and the bytes before it, are the same in a text that goes on
piece_stays : (bytes left more : List ℕ) (here : Here) → drop here.at bytes ≡ left → is_decided here.opens left ≡ true → here.at < length bytes
    → next_piece (bytes ++ more) here ≡ next_piece bytes here
piece_stays bytes left more here d t h =
    let on : drop here.at (bytes ++ more) ≡ left ++ more = drop-append-le here.at bytes more (omega arith) ∙ ap (λ xs. xs ++ more) d in
    let same : found_at here.opens (left ++ more) ≡ found_at here.opens left = decided_stays here.opens left more t in
    let front : take (size_of (found_at here.opens left)) (left ++ more) ≡ take (size_of (found_at here.opens left)) left =
    take-append-le (size_of (found_at here.opens left)) left more (decided_fits here.opens left t) in
    let made : List ℕ → Found → Piece = λ xs f. record { bytes = xs; found = f } in
    ap (piece_at here.opens) on
    ∙ ap (λ f. made (take (size_of f) (left ++ more)) f) same
    ∙ ap (λ xs. made xs (found_at here.opens left)) front
    ∙ sym (ap (piece_at here.opens) d)

longer : (bytes more : List ℕ) (at : ℕ) → at < length bytes → at < length (bytes ++ more)
longer bytes more at h = omega (arith, length-append bytes more)

pub passes_stay : (bytes left more : List ℕ) (here next : Here) (old new : List Token) → drop here.at bytes ≡ left → is_decided here.opens left ≡ true
    → here.at < length bytes → Passes bytes here next old new → (here.at < length (bytes ++ more)) × Passes (bytes ++ more) here next old new
passes_stay bytes left more here next old new d t h p =
    let e = piece_stays bytes left more here d t h in
    let rest = drop here.at bytes in
    let within : next.at ≤ length bytes = omega (arith, p.moved, length-take (size_of (found_at here.opens rest)) rest, length-drop here.at bytes) in
    let before : take here.at (bytes ++ more) ≡ take here.at bytes = take-append-le here.at bytes more (omega arith) in (
      longer bytes more here.at h,
      record {
        sound = ap (λ x. flaws_of x.found) e ∙ p.sound;
        moved = p.moved ∙ ap (λ x. here.at + length x.bytes) (sym e);
        later = p.later ∙ ap (λ x. opens_behind x here.opens) (sym e);
        marked = p.marked ∙ ap mark_of (sym (take-append-le next.at bytes more within));
        told = p.told ∙ ap (λ b. old ++ tokens_of b (next_piece bytes here).bytes (next_piece bytes here).found) (sym before)
            ∙ ap (λ x. old ++ tokens_of (take here.at (bytes ++ more)) x.bytes x.found) (sym e);
      },
    )

fails_stay : (bytes left more : List ℕ) (here : Here) (fault : Diag) → drop here.at bytes ≡ left → is_decided here.opens left ≡ true
    → here.at < length bytes → Fails bytes here fault → Fails (bytes ++ more) here fault
fails_stay bytes left more here fault d t h f =
    let e = piece_stays bytes left more here d t h in
    let before : take here.at (bytes ++ more) ≡ take here.at bytes = take-append-le here.at bytes more (omega arith) in (
      f.0,
      subst (λ x. IsFirstFlaw x.found f.0) (sym e) f.1,
      f.2 ∙ ap (λ b. fault_at b (next_piece bytes here).bytes f.0) (sym before) ∙ ap (λ x. fault_at (take here.at (bytes ++ more)) x.bytes f.0) (sym e),
    )

pub failed_stays : (bytes left more : List ℕ) (here : Here) (old new : List Token) (answer : LexAnswer) → drop here.at bytes ≡ left → is_decided here.opens left ≡ true
    → here.at < length bytes → Steps bytes here old new (Err answer) → (here.at < length (bytes ++ more)) × Steps (bytes ++ more) here old new (Err answer)
failed_stays bytes left more here old new (answers.Fault fault) d t h s = (longer bytes more here.at h, fails_stay bytes left more here fault d t h s)
failed_stays bytes left more here old new answers.Memory d t h s = (longer bytes more here.at h, tt)
