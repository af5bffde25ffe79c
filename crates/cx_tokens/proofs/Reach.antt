-- How far a text is read.
use Rattle.std.proofs.Common.{◌≡◌, ◌≢◌, ℕ, ◌+◌, ◌<◌, ◌≤◌, Bool, true, false, cond, List, [], ◌∷◌, ◌++◌, length, drop, take, map, min, Some, Err, refl, ap, sym, ◌∙◌, subst, arith, length-drop, length-take, length-append, append_assoc, ltb}
use Rattle.std.specs.Prelude.{IfErr, IfOk, Result, Ok}
use Rattle.std.specs.List.{fold}
use Rattle.std.proofs.lemmas.Bool.{le-ltb, lt-ltb, ltb-false, ltb-true}
use Rattle.std.proofs.lemmas.List.{drop-drop}
use Rattle.std.proofs.lemmas.List.Sums.{fold-append}
use Rattle.cx_base.specs.declared.diag.Diag.{Diag}
use Rattle.cx_token_defs.specs.declared.Token.{Token}
use Rattle.cx_tokens.specs.declared.shapes.Flaw.{Flaw}
use Rattle.cx_tokens.specs.declared.step.Here.{Here}
use Rattle.cx_tokens.specs.declared.LexAnswer.{LexAnswer}
use Rattle.cx_tokens.specs.declared.LexAnswer.TheVariants as answers
use Rattle.cx_tokens.specs.Faults.{earlier, fault_at, faults_from, first_of}
use Rattle.cx_tokens.specs.Tokens.{Explains, LexFault, Lexes}
use Rattle.cx_tokens.specs.Marks.{mark_of}
use Rattle.cx_tokens.specs.Reached.{Answers, Reached, Stands, onto}
use Rattle.cx_tokens.specs.Pieces.{Found, white, token, faulty, flaws_of, size_of}
use Rattle.cx_tokens.specs.Shapes.{earlier_flaw}
use Rattle.cx_tokens.specs.Steps.{Fails, IsFirstFlaw, Passes, Steps, next_piece}
use Rattle.cx_tokens.specs.Cut.{IsCut, Piece, end_token, found_at, opens_behind, piece_at, tokens_from, tokens_of}
use Rattle.cx_tokens.proofs.Cuts.{cut_exists, piece_some}
use Rattle.cx_tokens.proofs.Fit.{AllSit, FlawsSit, Sits, is_found}
use Rattle.cx_tokens.proofs.Stepping.{earlier_sits, first_sits, take_piece}

pub reached_start : (bytes : List ℕ) → Reached bytes (record { at = 0; mark = mark_of []; opens = true }) []
reached_start bytes = record {
  before = [];
  within = omega arith;
  marked = refl;
  opened = refl;
  cut = λ pieces h. h;
  sound = λ pieces. refl;
  told = λ pieces. refl;
}

some_left : (bytes : List ℕ) (at : ℕ) → at < length bytes → 0 < length (drop at bytes)
some_left bytes at h = omega (arith, length-drop at bytes)

no_empty : (bytes : List ℕ) → 0 < length bytes → bytes ≢ []
no_empty bytes h e = absurd (omega (arith, ap length e))

pub passes_on : (bytes : List ℕ) (here next : Here) (old new : List Token) → here.at < length bytes → Passes bytes here next old new → here.at < next.at
passes_on bytes here next old new h p = omega (arith, p.moved, piece_some here.opens (drop here.at bytes) (some_left bytes here.at h))

pub reached_on : (bytes : List ℕ) (here next : Here) (old new : List Token) → here.at < length bytes
    → Reached bytes here old → Passes bytes here next old new → Reached bytes next new
reached_on bytes here next old new h r p =
    let piece = next_piece bytes here in
    let rest = drop here.at bytes in
    let found = found_at here.opens rest in
    let joined : take here.at bytes ++ piece.bytes ≡ take next.at bytes =
    take_piece bytes here.at (size_of found) ∙ ap (λ n. take n bytes) (sym p.moved) in
    let behind : drop (length piece.bytes) rest ≡ drop next.at bytes =
    drop-drop (length piece.bytes) here.at bytes ∙ ap (λ n. drop n bytes) (sym p.moved) in
    record {
      before = piece ∷ r.before;
      within = omega (arith, p.moved, length-take (size_of found) rest, length-drop here.at bytes, r.within);
      marked = p.marked;
      opened = p.later ∙ ap (opens_behind piece) r.opened;
      cut = λ pieces k. r.cut (piece ∷ pieces) (no_empty rest (some_left bytes here.at h), ap (λ o. piece_at o rest) r.opened, subst (λ x. IsCut (piece ∷ r.before) x pieces) (sym behind) k);
      sound = λ pieces. r.sound (piece ∷ pieces)
          ∙ ap (λ fs. map (fault_at (take here.at bytes) piece.bytes) fs ++ faults_from (take here.at bytes ++ piece.bytes) pieces) p.sound
          ∙ ap (λ b. faults_from b pieces) joined;
      told = λ pieces. r.told (piece ∷ pieces)
          ∙ sym (append_assoc old (tokens_of (take here.at bytes) piece.bytes piece.found) (tokens_from (take here.at bytes ++ piece.bytes) pieces))
          ∙ ap (λ x. x ++ tokens_from (take here.at bytes ++ piece.bytes) pieces) (sym p.told)
          ∙ ap (λ b. new ++ tokens_from b pieces) joined;
    }

no_bytes : (xs : List ℕ) → length xs ≡ 0 → xs ≡ []
no_bytes [] e = refl
no_bytes (x ∷ xs) e = absurd (omega arith)

pub reached_end : (bytes : List ℕ) (here : Here) (tokens : List Token) → length bytes ≤ here.at → Reached bytes here tokens
    → Lexes bytes (tokens ++ end_token here.mark ∷ [])
reached_end bytes here tokens h r =
    let none : drop here.at bytes ≡ [] = no_bytes (drop here.at bytes) (omega (arith, length-drop here.at bytes)) in
    (onto r.before [], r.cut [] none, r.sound [], ap (λ m. tokens ++ end_token m ∷ []) r.marked ∙ sym (r.told []))

-- Faults behind a place start from there on.
AllFrom : ℕ → List Diag → Type 0
AllFrom n [] = Unit {0}
AllFrom n (d ∷ ds) = (n ≤ d.span.start.byte) × AllFrom n ds

left_chosen : (d e : Diag) (c : Bool) → c ≡ false → cond c e d ≡ d
left_chosen d e true h = cc
left_chosen d e false h = refl

earlier_stays : (d : Diag) (ds : List Diag) (n : ℕ) → d.span.start.byte < n → AllFrom n ds → fold earlier d ds ≡ d
unfolding AllFrom
earlier_stays d [] n h k = refl
earlier_stays d (e ∷ es) n h k =
    let least : d.span.start.byte ≤ e.span.start.byte = omega (arith, k.0) in
    ap (λ x. fold earlier x es) (left_chosen d e (ltb e.span.start.byte d.span.start.byte) (le-ltb _ _ least)) ∙ earlier_stays d es n h k.1

from_append : (n : ℕ) (ds es : List Diag) → AllFrom n ds → AllFrom n es → AllFrom n (ds ++ es)
unfolding AllFrom
from_append n [] es h k = k
from_append n (d ∷ ds) es h k = (h.0, from_append n ds es h.1 k)

from_less : (n m : ℕ) (ds : List Diag) → n ≤ m → AllFrom m ds → AllFrom n ds
unfolding AllFrom
from_less n m [] h k = tt
from_less n m (d ∷ ds) h k = (omega (arith, k.0), from_less n m ds h k.1)

placed_from : (before bytes : List ℕ) (fs : List Flaw) → AllFrom (length before) (map (fault_at before bytes) fs)
unfolding AllFrom
placed_from before bytes [] = tt
placed_from before bytes (f ∷ fs) = (omega (arith, length-append before (take f.start bytes)), placed_from before bytes fs)

behind_from : (before : List ℕ) (pieces : List Piece) → AllFrom (length before) (faults_from before pieces)
unfolding AllFrom
behind_from before [] = tt
behind_from before (piece ∷ pieces) =
    from_append (length before) _ _ (placed_from before piece.bytes (flaws_of piece.found))
    (from_less (length before) (length (before ++ piece.bytes)) _ (omega (arith, length-append before piece.bytes)) (behind_from (before ++ piece.bytes) pieces))

shifted : (n a b : ℕ) (c : Bool) → ltb a b ≡ c → ltb (n + a) (n + b) ≡ c
shifted n a b true e = let h : a < b = ltb-true a b e in lt-ltb _ _ (omega arith)
shifted n a b false e = let h : b ≤ a = ltb-false a b e in le-ltb _ _ (omega arith)

start_placed : (before bytes : List ℕ) (n : ℕ) (f : Flaw) → Sits n (length bytes) f → (fault_at before bytes f).span.start.byte ≡ length before + f.start
start_placed before bytes n f h = omega (arith, length-append before (take f.start bytes), length-take f.start bytes, h.is_there)

fault_chosen : (before bytes : List ℕ) (c : Bool) (f g : Flaw) → cond c (fault_at before bytes g) (fault_at before bytes f) ≡ fault_at before bytes (cond c g f)
fault_chosen before bytes true f g = refl
fault_chosen before bytes false f g = refl

earlier_placed : (before bytes : List ℕ) (n : ℕ) (f g : Flaw) → Sits n (length bytes) f → Sits n (length bytes) g
    → earlier (fault_at before bytes f) (fault_at before bytes g) ≡ fault_at before bytes (earlier_flaw f g)
earlier_placed before bytes n f g h k =
    let a = start_placed before bytes n f h in
    let b = start_placed before bytes n g k in
    let test : ltb (fault_at before bytes g).span.start.byte (fault_at before bytes f).span.start.byte ≡ ltb g.start f.start =
    ap (λ x. ltb x (fault_at before bytes f).span.start.byte) b ∙ ap (λ x. ltb (length before + g.start) x) a
    ∙ shifted (length before) g.start f.start (ltb g.start f.start) refl in
    ap (λ c. cond c (fault_at before bytes g) (fault_at before bytes f)) test ∙ fault_chosen before bytes (ltb g.start f.start) f g

first_placed : (before bytes : List ℕ) (n : ℕ) (f : Flaw) (fs : List Flaw) → Sits n (length bytes) f → AllSit n (length bytes) fs
    → fold earlier (fault_at before bytes f) (map (fault_at before bytes) fs) ≡ fault_at before bytes (fold earlier_flaw f fs)
first_placed before bytes n f [] h k = refl
first_placed before bytes n f (g ∷ gs) h k =
    ap (λ d. fold earlier d (map (fault_at before bytes) gs)) (earlier_placed before bytes n f g h k.0)
    ∙ first_placed before bytes n (earlier_flaw f g) gs (earlier_sits n (length bytes) (ltb g.start f.start) f g h k.0) k.1

resit : (n all m : ℕ) (fs : List Flaw) → m ≡ min n all → AllSit n all fs → AllSit n m fs
resit n all m [] e h = tt
resit n all m (f ∷ fs) e h =
    (record { ends_within = h.0.ends_within; starts_within = h.0.starts_within; is_there = omega (arith, h.0.starts_within, h.0.is_there) }, resit n all m fs e h.1)

first_fault : (before bytes : List ℕ) (all : ℕ) (found : Found) (g : Flaw) (later : List Diag) → length bytes ≡ min (size_of found) all
    → FlawsSit all found → IsFirstFlaw found g → AllFrom (length before + length bytes) later
    → first_of (map (fault_at before bytes) (flaws_of found) ++ later) ≡ Some (fault_at before bytes g)
first_fault before bytes all (white n) g later l s i k = absurd i
first_fault before bytes all (token n t) g later l s i k = absurd i
first_fault before bytes all (faulty n f fs) g later l s i k =
    let sits = resit n all (length bytes) (f ∷ fs) l s in
    let all_in = first_sits n (length bytes) f fs sits.0 sits.1 in
    let start = start_placed before bytes n (fold earlier_flaw f fs) all_in in
    ap Some
    (fold-append earlier (fault_at before bytes f) (map (fault_at before bytes) fs) later
    ∙ ap (λ d. fold earlier d later) (first_placed before bytes n f fs sits.0 sits.1)
    ∙ earlier_stays (fault_at before bytes (fold earlier_flaw f fs)) later (length before + length bytes) (omega (arith, start, all_in.is_there)) k
    ∙ ap (fault_at before bytes) i)

pub reached_fault : (bytes : List ℕ) (here : Here) (tokens : List Token) (d : Diag) → here.at < length bytes → Reached bytes here tokens
    → Fails bytes here d → LexFault bytes d
reached_fault bytes here tokens d h r f =
    let piece = next_piece bytes here in
    let rest = drop here.at bytes in
    let found = found_at here.opens rest in
    let before = take here.at bytes in
    let some = some_left bytes here.at h in
    let ex = cut_exists (piece ∷ r.before) (drop (length piece.bytes) rest) in
    let later = faults_from (before ++ piece.bytes) ex.0 in
    let from : AllFrom (length before + length piece.bytes) later =
    subst (λ n. AllFrom n later) (length-append before piece.bytes) (behind_from (before ++ piece.bytes) ex.0) in (
      onto r.before (piece ∷ ex.0),
      r.cut (piece ∷ ex.0) (no_empty rest some, ap (λ o. piece_at o rest) r.opened, ex.1),
      ap first_of (r.sound (piece ∷ ex.0))
          ∙ first_fault before piece.bytes (length rest) found f.0 later (length-take (size_of found) rest) (is_found here.opens rest some).sit f.1 from
          ∙ ap Some (sym f.2),
    )

pub explained : (bytes : List ℕ) (here : Here) (old new : List Token) (answer : LexAnswer) → here.at < length bytes → Reached bytes here old
    → Steps bytes here old new (Err answer) → Explains bytes answer
explained bytes here old new (answers.Fault d) h r s = reached_fault bytes here old d h r s
explained bytes here old new answers.Memory h r s = tt

-- what a finished walk answers
pub lexed : (bytes : List ℕ) (result : Result (List Token) LexAnswer) → Answers bytes result → IfOk result (λ tokens. Lexes bytes tokens)
lexed bytes (Ok tokens) h = h
lexed bytes (Err answer) h = tt

pub unlexed : (bytes : List ℕ) (result : Result (List Token) LexAnswer) → Answers bytes result → IfErr result (λ answer. Explains bytes answer)
unlexed bytes (Ok tokens) h = tt
unlexed bytes (Err answer) h = h

pub from_start : (bytes : List ℕ) (start : Here) (tokens : List Token) → Stands [] start [] → tokens ≡ [] → Reached bytes start tokens
from_start bytes start tokens h e = subst (λ ts. Reached bytes start ts) (sym e) (h.reached bytes)
