-- Over one piece of a text.
use Rattle.std.proofs.Common.{◌≡◌, ℕ, zero, suc, ltb, ◌+◌, ◌<◌, ◌≤◌, Bool, true, false, cond, List, [], ◌∷◌, ◌++◌, length, drop, take, refl, ap, sym, ◌∙◌, subst, arith, length-take, append-nil}
use Rattle.std.specs.List.{fold}
use Rattle.std.proofs.lemmas.List.{take_min}
use Rattle.std.proofs.Math.Seq.{take-add}
use Rattle.cx_base.specs.declared.diag.Diag.{Diag}
use Rattle.cx_base.specs.declared.diag.Mark.{Mark}
use Rattle.cx_token_defs.specs.declared.Token.{Token}
use Rattle.cx_token_defs.specs.declared.TokenKind.{TokenKind}
use Rattle.cx_tokens.specs.declared.shapes.Flaw.{Flaw}
use Rattle.cx_tokens.specs.declared.shapes.Shape.TheVariants as shape
use Rattle.cx_tokens.specs.declared.step.Here.{Here}
use Rattle.cx_tokens.specs.Marks.{Counts, mark_of, marks_on}
use Rattle.cx_tokens.specs.Pieces.{Found, white, token, faulty, flaws_of, size_of}
use Rattle.cx_tokens.specs.Shapes.{earlier_flaw, shape_of}
use Rattle.cx_tokens.specs.Steps.{Fails, GoesOn, IsFirstFlaw, Passes, fault_on, opens_after}
use Rattle.cx_tokens.specs.Cut.{text_of, found_at}
use Rattle.cx_tokens.proofs.Fit.{AllSit, IsFound, Sits, is_found}
use Rattle.cx_tokens.proofs.MarkSteps.{marks_on_is}

white_is : (f : Found) (n : ℕ) → shape_of f ≡ shape.White n → f ≡ white n
white_is (white m) n e = ap white cc
white_is (token m k) n e = cc
white_is (faulty m g gs) n e = cc

token_is : (f : Found) (n : ℕ) (k : TokenKind) → shape_of f ≡ shape.Token n k → f ≡ token n k
token_is (white m) n k e = cc
token_is (token m j) n k e = cc
token_is (faulty m g gs) n k e = cc

faulty_is : (f : Found) (n : ℕ) (g : Flaw) → shape_of f ≡ shape.Faulty n g → IsFirstFlaw f g
faulty_is (white m) n g e = cc
faulty_is (token m j) n g e = cc
faulty_is (faulty m h hs) n g e = cc

pub take_on : (bytes : List ℕ) (at n : ℕ) → take at bytes ++ take n (drop at bytes) ≡ take (at + n) bytes
take_on bytes at n = sym (take-add at n bytes)

-- the bytes up to a place, and those of a piece
pub take_piece : (bytes : List ℕ) (at n : ℕ) → take at bytes ++ take n (drop at bytes) ≡ take (at + length (take n (drop at bytes))) bytes
take_piece bytes at n =
    let xs = drop at bytes in
    sym (sym (take_on bytes at (length (take n xs))) ∙ ap (λ ys. take at bytes ++ ys) (ap (λ m. take m xs) (length-take n xs) ∙ take_min n xs))

take_front : (k n : ℕ) (xs : List ℕ) → k ≤ n → take k (take n xs) ≡ take k xs
take_front zero n xs h = refl
take_front (suc k) zero xs h = absurd (omega arith)
take_front (suc k) (suc n) [] h = refl
take_front (suc k) (suc n) (x ∷ xs) h = ap (λ ys. x ∷ ys) (take_front k n xs (omega arith))

pub earlier_sits : (n all : ℕ) (c : Bool) (f g : Flaw) → Sits n all f → Sits n all g → Sits n all (cond c g f)
earlier_sits n all true f g h k = k
earlier_sits n all false f g h k = h

pub first_sits : (n all : ℕ) (f : Flaw) (fs : List Flaw) → Sits n all f → AllSit n all fs → Sits n all (fold earlier_flaw f fs)
first_sits n all f [] h k = h
first_sits n all f (g ∷ gs) h k = first_sits n all (earlier_flaw f g) gs (earlier_sits n all (ltb g.start f.start) f g h k.0) k.1

pub found_sits : (all : ℕ) (f : Found) (g : Flaw) → IsFound all f → IsFirstFlaw f g → Sits (size_of f) all g
found_sits all (white n) g h e = absurd e
found_sits all (token n k) g h e = absurd e
found_sits all (faulty n f fs) g h e = subst (λ x. Sits n all x) e (first_sits n all f fs h.sit.0 h.sit.1)

white_passes : (bytes : List ℕ) (here : Here) (tokens : List Token) (size at : ℕ) (mark : Mark) (opens : Bool)
    → shape_of (found_at here.opens (drop here.at bytes)) ≡ shape.White size
    → at ≡ here.at + length (take size (drop here.at bytes)) → mark ≡ mark_of (take at bytes) → opens ≡ opens_after (take size (drop here.at bytes)) here.opens
    → Passes bytes here (record { at = at; mark = mark; opens = opens }) tokens tokens
white_passes bytes here tokens size at mark opens s a m o =
    let e = white_is (found_at here.opens (drop here.at bytes)) size s in
    record {
      sound = ap flaws_of e;
      moved = rw e a;
      later = rw e o;
      marked = m;
      told = rw e (sym (append-nil tokens));
    }

token_passes : (bytes : List ℕ) (here : Here) (old new : List Token) (size at : ℕ) (k : TokenKind) (mark : Mark)
    → shape_of (found_at here.opens (drop here.at bytes)) ≡ shape.Token size k
    → at ≡ here.at + length (take size (drop here.at bytes)) → mark ≡ mark_of (take at bytes)
    → here.mark ≡ mark_of (take here.at bytes)
    → new ≡ old ++ record { kind = k; span = record { start = here.mark; end = mark }; text = text_of k (take size (drop here.at bytes)) } ∷ []
    → Passes bytes here (record { at = at; mark = mark; opens = false }) old new
token_passes bytes here old new size at k mark s a m h t =
    let marked : Mark → Mark → Token = λ x y. record { kind = k; span = record { start = x; end = y }; text = text_of k (take size (drop here.at bytes)) } in
    let e = token_is (found_at here.opens (drop here.at bytes)) size k s in
    record {
      sound = ap flaws_of e;
      moved = rw e a;
      later = rw e refl;
      marked = m;
      told = rw e (t ∙ ap (λ x. old ++ marked x mark ∷ []) h
          ∙ ap (λ y. old ++ marked (mark_of (take here.at bytes)) y ∷ []) (m ∙ ap mark_of (ap (λ n. take n bytes) a ∙ sym (take_piece bytes here.at size))));
    }

abbrev marked_fault : Mark → Mark → Flaw → Diag
marked_fault x y g = record { span = record { start = x; end = y }; rule = g.rule; frames = [] }

-- the mark behind the first bytes of a piece
mark_within : (bytes : List ℕ) (here : Here) (k n : ℕ) → here.mark ≡ mark_of (take here.at bytes) → k ≤ n
    → marks_on here.mark (take k (drop here.at bytes)) ≡ mark_of (take here.at bytes ++ take k (take n (drop here.at bytes)))
mark_within bytes here k n m h =
    let rest = drop here.at bytes in
    ap (λ x. marks_on x (take k rest)) m ∙ marks_on_is (take here.at bytes) (take k rest)
    ∙ ap (λ ys. mark_of (take here.at bytes ++ ys)) (sym (take_front k n rest h))

mark_behind : (bytes : List ℕ) (here : Here) (n : ℕ) → here.mark ≡ mark_of (take here.at bytes)
    → marks_on here.mark (take n (drop here.at bytes)) ≡ mark_of (take (here.at + length (take n (drop here.at bytes))) bytes)
mark_behind bytes here n m =
    let piece = take n (drop here.at bytes) in
    ap (λ x. marks_on x piece) m ∙ marks_on_is (take here.at bytes) piece ∙ ap mark_of (take_piece bytes here.at n)

fails_with : (bytes : List ℕ) (here : Here) (n : ℕ) (g : Flaw) → 0 < length (drop here.at bytes) → here.mark ≡ mark_of (take here.at bytes)
    → shape_of (found_at here.opens (drop here.at bytes)) ≡ shape.Faulty n g → Fails bytes here (fault_on here.mark (drop here.at bytes) g)
fails_with bytes here n g h m s =
    let found = found_at here.opens (drop here.at bytes) in
    let rest = drop here.at bytes in
    let before = take here.at bytes in
    let i = faulty_is found n g s in
    let sits = found_sits (length rest) found g (is_found here.opens rest h) i in
    let start = mark_within bytes here g.start (size_of found) m (omega (arith, sits.starts_within)) in
    let end = mark_within bytes here (g.start + g.size) (size_of found) m sits.ends_within in (
      g,
      i,
      ap (λ x. marked_fault x (marks_on here.mark (take (g.start + g.size) rest)) g) start
          ∙ ap (λ y. marked_fault (mark_of (before ++ take g.start (take (size_of found) rest))) y g) end,
    )

-- What the code does over the piece at the front of some bytes, as a step over each text that has these bytes behind a place.
pub white_over : (bytes rest : List ℕ) (here next : Here) (tokens : List Token) (size : ℕ) (opens : Bool)
    → shape_of (found_at here.opens rest) ≡ shape.White size → opens ≡ opens_after (take size rest) here.opens
    → next ≡ record { at = here.at + length (take size rest); mark = marks_on here.mark (take size rest); opens = opens }
    → drop here.at bytes ≡ rest → here.mark ≡ mark_of (take here.at bytes) → Passes bytes here next tokens tokens
white_over bytes rest here next tokens size opens s o n d m =
    subst (λ r. shape_of (found_at here.opens r) ≡ shape.White size → opens ≡ opens_after (take size r) here.opens
    → next ≡ record { at = here.at + length (take size r); mark = marks_on here.mark (take size r); opens = opens } → Passes bytes here next tokens tokens) d
    (λ s' o' n'. subst (λ x. Passes bytes here x tokens tokens) (sym n')
    (white_passes bytes here tokens size _ _ opens s' refl (mark_behind bytes here size m) o')) s o n

pub token_over : (bytes rest : List ℕ) (here next : Here) (old new : List Token) (size : ℕ) (k : TokenKind)
    → shape_of (found_at here.opens rest) ≡ shape.Token size k
    → next ≡ record { at = here.at + length (take size rest); mark = marks_on here.mark (take size rest); opens = false }
    → new ≡ old ++ record { kind = k; span = record { start = here.mark; end = next.mark }; text = text_of k (take size rest) } ∷ []
    → drop here.at bytes ≡ rest → here.mark ≡ mark_of (take here.at bytes) → Passes bytes here next old new
token_over bytes rest here next old new size k s n t d m =
    subst (λ r. shape_of (found_at here.opens r) ≡ shape.Token size k
    → next ≡ record { at = here.at + length (take size r); mark = marks_on here.mark (take size r); opens = false }
    → new ≡ old ++ record { kind = k; span = record { start = here.mark; end = next.mark }; text = text_of k (take size r) } ∷ [] → Passes bytes here next old new) d
    (λ s' n' t'. subst (λ x. Passes bytes here x old new) (sym n')
    (token_passes bytes here old new size _ k _ s' refl (mark_behind bytes here size m) m
    (t' ∙ ap (λ x. old ++ record { kind = k; span = record { start = here.mark; end = x.mark }; text = text_of k (take size (drop here.at bytes)) } ∷ []) n'))) s n t

pub faulty_over : (bytes rest : List ℕ) (here : Here) (n : ℕ) (g : Flaw) → shape_of (found_at here.opens rest) ≡ shape.Faulty n g → 0 < length rest
    → drop here.at bytes ≡ rest → here.mark ≡ mark_of (take here.at bytes) → Fails bytes here (fault_on here.mark rest g)
faulty_over bytes rest here n g s h d m =
    subst (λ r. shape_of (found_at here.opens r) ≡ shape.Faulty n g → 0 < length r → Fails bytes here (fault_on here.mark r g)) d
    (λ s' h'. fails_with bytes here n g h' m s') s h

-- over such a piece the place goes on
pub over_goes : (here next : Here) (rest : List ℕ) (size : ℕ) → 0 < length rest → 0 < size → next.at ≡ here.at + length (take size rest) → Counts next.mark next.at
    → GoesOn here next (length rest)
over_goes here next rest size h s a c =
    record { on = omega (arith, length-take size rest); within = omega (arith, length-take size rest); counted = c }

pub white_some : (opens : Bool) (rest : List ℕ) (n : ℕ) → 0 < length rest → shape_of (found_at opens rest) ≡ shape.White n → 0 < n
white_some opens rest n h s = subst (λ m. 0 < m) (ap size_of (white_is (found_at opens rest) n s)) (is_found opens rest h).some

pub token_some : (opens : Bool) (rest : List ℕ) (n : ℕ) (k : TokenKind) → 0 < length rest → shape_of (found_at opens rest) ≡ shape.Token n k → 0 < n
token_some opens rest n k h s = subst (λ m. 0 < m) (ap size_of (token_is (found_at opens rest) n k s)) (is_found opens rest h).some
