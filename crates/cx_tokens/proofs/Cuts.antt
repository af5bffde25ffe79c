-- Every text has one cut, and so it has its tokens or its fault.
use Rattle.std.proofs.Common.{◌≡◌, ◌≢◌, ◌⊎◌, inl, inr, ℕ, zero, suc, ◌<◌, ◌≤◌, Bool, List, [], ◌∷◌, length, drop, Some, None, refl, ap, sym, ◌∙◌, subst, arith, length-drop, length-take}
use Rattle.std.specs.List.{fold}
use Rattle.cx_base.specs.declared.diag.Diag.{Diag}
use Rattle.cx_token_defs.specs.declared.Token.{Token}
use Rattle.cx_tokens.specs.Faults.{earlier, faults_from, first_of}
use Rattle.cx_tokens.specs.Tokens.{LexFault, Lexes}
use Rattle.cx_tokens.specs.Pieces.{size_of}
use Rattle.cx_tokens.specs.Cut.{IsCut, Piece, found_at, opens_line, piece_at, tokens_from}
use Rattle.cx_tokens.proofs.Fit.{is_found}

-- what begins with some bytes has one at least, and no more than they are
pub piece_some : (opens : Bool) (bytes : List ℕ) → 0 < length bytes → 0 < length (piece_at opens bytes).bytes
piece_some opens bytes h =
    let f = is_found opens bytes h in
    omega (arith, f.some, length-take (size_of (found_at opens bytes)) bytes)

some_bytes : (b : ℕ) (bytes : List ℕ) → b ∷ bytes ≢ []
some_bytes b bytes e = cc

cut_within : (n : ℕ) (before : List Piece) (bytes : List ℕ) → length bytes ≤ n → (pieces : List Piece) × IsCut before bytes pieces
cut_within n before [] h = ([], refl)
cut_within zero before (b ∷ bytes) h = absurd (omega arith)
cut_within (suc n) before (b ∷ bytes) h =
    let piece = piece_at (opens_line before) (b ∷ bytes) in
    let some : 0 < length piece.bytes = piece_some (opens_line before) (b ∷ bytes) (omega arith) in
    let rest = cut_within n (piece ∷ before) (drop (length piece.bytes) (b ∷ bytes)) (omega (arith, length-drop (length piece.bytes) (b ∷ bytes))) in
    (piece ∷ rest.0, (some_bytes b bytes, refl, rest.1))

pub cut_exists : (before : List Piece) (bytes : List ℕ) → (pieces : List Piece) × IsCut before bytes pieces
cut_exists before bytes = cut_within (length bytes) before bytes (omega arith)

pub one_cut : (before : List Piece) (bytes : List ℕ) (pieces others : List Piece) → IsCut before bytes pieces → IsCut before bytes others → pieces ≡ others
one_cut before bytes [] [] h k = refl
one_cut before bytes [] (q ∷ others) h k = absurd (k.0 h)
one_cut before bytes (p ∷ pieces) [] h k = absurd (h.0 k)
one_cut before bytes (p ∷ pieces) (q ∷ others) h k =
    let e : p ≡ q = h.1 ∙ sym k.1 in
    let same : IsCut (p ∷ before) (drop (length p.bytes) bytes) others = subst (λ x. IsCut (x ∷ before) (drop (length x.bytes) bytes) others) (sym e) k.2 in
    let rest : pieces ≡ others = one_cut (p ∷ before) (drop (length p.bytes) bytes) pieces others h.2 same in
    ap (λ x. x ∷ pieces) e ∙ ap (λ xs. q ∷ xs) rest

-- A text has tokens or a fault.
told : (bytes : List ℕ) (pieces : List Piece) → IsCut [] bytes pieces → (faults : List Diag) → faults_from [] pieces ≡ faults
    → ((tokens : List Token) × Lexes bytes tokens) ⊎ ((d : Diag) × LexFault bytes d)
told bytes pieces cut [] e = inl (tokens_from [] pieces, (pieces, cut, e, refl))
told bytes pieces cut (d ∷ ds) e = inr (fold earlier d ds, (pieces, cut, ap first_of e))

pub either_told : (bytes : List ℕ) → ((tokens : List Token) × Lexes bytes tokens) ⊎ ((d : Diag) × LexFault bytes d)
either_told bytes = let c = cut_exists [] bytes in told bytes c.0 c.1 (faults_from [] c.0) refl

pub never_both : (bytes : List ℕ) (tokens : List Token) (d : Diag) → Lexes bytes tokens → LexFault bytes d → ⊥
never_both bytes tokens d h k =
    let e : h.0 ≡ k.0 = one_cut [] bytes h.0 k.0 h.1 k.1 in
    let none : first_of (faults_from [] k.0) ≡ None = ap first_of (ap (faults_from []) (sym e) ∙ h.2) in
    let some : Some d ≡ None = sym k.2 ∙ none in
    cc

pub one_list : (bytes : List ℕ) (tokens others : List Token) → Lexes bytes tokens → Lexes bytes others → tokens ≡ others
one_list bytes tokens others h k = h.3 ∙ ap (tokens_from []) (one_cut [] bytes h.0 k.0 h.1 k.1) ∙ sym k.3

some_inj : (d e : Diag) → Some d ≡ Some e → d ≡ e
some_inj d e h = cc

pub one_fault : (bytes : List ℕ) (d e : Diag) → LexFault bytes d → LexFault bytes e → d ≡ e
one_fault bytes d e h k = some_inj d e (sym h.2 ∙ ap (λ ps. first_of (faults_from [] ps)) (one_cut [] bytes h.0 k.0 h.1 k.1) ∙ k.2)
