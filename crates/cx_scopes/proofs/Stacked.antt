-- The innermost of the scopes that are entered.
use Rattle.std.proofs.Common.{◌≡◌, ℕ, ◌-◌, List, [], ◌∷◌, ◌++◌, refl, sym, ap, ◌∙◌, length, length-append, get_or, reverse, arith}
use Rattle.std.proofs.Math.ListN.{set}
use Rattle.std.proofs.Math.Seq.{set-append_seam, get_or-append_seam}
use Rattle.std.proofs.lemmas.List.{reverse-append}
use Rattle.cx_scopes.specs.declared.kinds.Entity.{Entity}
use Rattle.cx_scopes.specs.declared.entered.Entered.{Entered}
use Rattle.cx_scopes.specs.Names.{with_meaning}
use Rattle.cx_scopes.specs.Steps.{with_own}

module _ {A : Type 0} where
  -- a list that isn't empty has a last item
  pub last-item : (xs : List A) → (xs ≡ [] → ⊥) → (ys : List A) × (y : A) × (xs ≡ ys ++ y ∷ [])
  last-item [] h = absurd (h refl)
  last-item (x ∷ []) h = ([], x, refl)
  last-item (x ∷ x' ∷ xs) h = let r = last-item (x' ∷ xs) (λ e. cc) in (x ∷ r.0, r.1, ap (λ l. x ∷ l) r.2)

  last-place : (ys : List A) (y : A) → length (ys ++ y ∷ []) - 1 ≡ length ys
  last-place ys y = simp length-append (omega arith)

  pub reverse-last : (ys : List A) (y : A) → reverse (ys ++ y ∷ []) ≡ y ∷ reverse ys
  reverse-last ys y = reverse-append ys (y ∷ [])

get-last : {A : Type 0} (ys : List A) (y x : A) → get_or (ys ++ y ∷ []) (length (ys ++ y ∷ []) - 1) x ≡ y
get-last ys y x = ap (λ i. get_or (ys ++ y ∷ []) i x) (last-place ys y) ∙ get_or-append_seam ys y [] x

own-added : (ys : List Entered) (y : Entered) (name : List ℕ) (e : Entity) → reverse (set (ys ++ y ∷ []) (length (ys ++ y ∷ []) - 1) (record y { own = with_meaning y.own name e })) ≡ with_own (reverse (ys ++ y ∷ [])) name e
own-added ys y name e =
    ap (λ i. reverse (set (ys ++ y ∷ []) i now)) (last-place ys y)
    ∙ ap reverse (set-append_seam ys y [] now)
    ∙ reverse-last ys now
    ∙ sym (ap (λ entered. with_own entered name e) (reverse-last ys y))
  where
    now : Entered
    now = record y { own = with_meaning y.own name e }

-- a write to the innermost scope's own names
pub own-written : (xs : List Entered) (x : Entered) (n : ℕ) (name : List ℕ) (e : Entity) → (xs ≡ [] → ⊥) → n ≡ length xs → x ≡ get_or xs (n - 1) x
    → reverse (set xs (n - 1) (record x { own = with_meaning x.own name e })) ≡ with_own (reverse xs) name e
own-written xs x n name e some len at =
    let r = last-item xs some in
    let same : x ≡ r.1 = at ∙ (λ i. get_or xs (len i - 1) x) ∙ ap (λ l. get_or l (length l - 1) x) r.2 ∙ get-last r.0 r.1 x in
    (λ i. reverse (set xs (len i - 1) (record x { own = with_meaning x.own name e })))
    ∙ ap (λ l. reverse (set l (length l - 1) (record x { own = with_meaning x.own name e }))) r.2
    ∙ ap (λ (y : Entered). reverse (set (r.0 ++ r.1 ∷ []) (length (r.0 ++ r.1 ∷ []) - 1) (record y { own = with_meaning y.own name e }))) same
    ∙ own-added r.0 r.1 name e
    ∙ ap (λ l. with_own (reverse l) name e) (sym r.2)
