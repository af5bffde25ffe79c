-- What is found of each item of a list.
use Rattle.std.proofs.Common.{◌≡◌, ℕ, ◌+◌, ◌<◌, ◌≤◌, ◌⊎◌, inl, inr, Bool, false, true≢false, IsTrue, ◌↔◌, refl, ◌∙◌, List, [], ◌∷◌, ◌++◌, Some, slice_get, length, map, take, sum, get_or, sym, ap, subst, arith}
use Rattle.std.proofs.lemmas.List.{take_more, take_all}
use Rattle.cx_type_defs.proofs.Lists.{slice_get-push}

pub record AllAt {A : Type 0} (P : A → Type 0) (xs : List A) : Type 0 where
  pub at : (i : ℕ) (x : A) → slice_get xs i ≡ Some x → P x

pub AllAt-none : {A : Type 0} (P : A → Type 0) → AllAt P []
AllAt-none P = record { at = λ i x e. absurd (cc) }

pub AllAt-push : {A : Type 0} (P : A → Type 0) (xs : List A) (y : A) → AllAt P xs → P y → AllAt P (xs ++ y ∷ [])
AllAt-push P xs y all p = record {
  at = λ i x e. elim (slice_get-push xs y i x e) as (λ _. P x) [ inl h ↦ all.at i x h | inr h ↦ subst P (sym h.1) p ];
}

pub AllAt-more : {A : Type 0} (P : A → Type 0) (xs : List A) (i : ℕ) (d : A) → i < length xs → P (get_or xs i d) → AllAt P (take i xs) → AllAt P (take (i + 1) xs)
AllAt-more P xs i d h p all = subst (AllAt P) (sym (take_more xs i d h)) (AllAt-push P (take i xs) (get_or xs i d) all p)

pub AllAt-whole : {A : Type 0} (P : A → Type 0) (xs : List A) (i : ℕ) → length xs ≤ i → AllAt P (take i xs) → AllAt P xs
AllAt-whole P xs i h all = subst (AllAt P) (take_all i xs h) all

-- a test that fails at 1000

at-most_or_more : (a b : ℕ) → (a ≤ b) ⊎ (b < a)
at-most_or_more a b = grind arith

pub few : (b : Bool) (n : ℕ) → IsTrue b ↔ (1000 < n) → b ≡ false → n ≤ 1000
few b n h e =
    elim (at-most_or_more n 1000) as (λ _. n ≤ 1000)
    [ inl le ↦ le | inr more ↦ absurd (true≢false (sym (h.1 more) ∙ e)) ]

pub empty_list : {A : Type 0} (xs : List A) → length xs ≡ 0 → xs ≡ []
empty_list [] e = refl
empty_list (x ∷ xs) e = absurd (omega arith)

-- sums

pub sum-whole : {A : Type 0} (f : A → ℕ) (xs : List A) (i left all : ℕ) → length xs ≤ i → left + sum (map f (take i xs)) ≡ all → sum (map f xs) ≤ all
sum-whole f xs i left all h e =
    let whole : sum (map f (take i xs)) ≡ sum (map f xs) = ap (λ l. sum (map f l)) (take_all i xs h) in
    omega arith
