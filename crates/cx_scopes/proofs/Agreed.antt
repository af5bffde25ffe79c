-- What bases say together.
use Rattle.std.proofs.Common.{◌≡◌, ℕ, zero, suc, ◌-◌, Bool, true, false, List, [], ◌∷◌, fold, length, take, drop, get_or, ◌+◌, ◌<◌, ◌≤◌, Option, Some, None, refl, sym, ap, ◌∙◌, arith, if◌then◌else◌, ◌≢◌}
use Rattle.std.specs.Prelude.{◌==◌}
use Rattle.std.proofs.lemmas.Bool.{eqb-true}
use Rattle.std.proofs.lemmas.List.{take_all, take_more, take-append-drop}
use Rattle.std.proofs.lemmas.List.Sums.{fold-append}
use lib.Pointwise.{pointwise}
use Rattle.cx_type_defs.specs.declared.ids.ClassId.{ClassId}
use Rattle.cx_scopes.specs.declared.kinds.ScopeId.TheVariants as scope
use Rattle.cx_scopes.specs.declared.kinds.Entity.{Entity}
use Rattle.cx_scopes.specs.declared.kinds.Sought.{Sought}
use Rattle.cx_scopes.specs.Names.{counted}
use Rattle.cx_scopes.specs.Scopes.{ScopeTables, meanings_at, bases_of}
use Rattle.cx_scopes.specs.Lookup.{together, or_else, said_together, members, same_list}
use Rattle.cx_scopes.proofs.Equal.{entity_eq, same-list}

pub together-empty : (es : List Entity) → es ≢ [] → Some es ≡ together (Some es) (Some [])
together-empty [] h = absurd (h refl)
together-empty (e ∷ es) h = refl

pub together-nothing : (es fs : List Entity) → es ≡ [] → Some fs ≡ together (Some es) (Some fs)
together-nothing [] fs h = refl
together-nothing (e ∷ es) fs h = cc

together-by : (es fs : List Entity) (b : Bool) → es ≢ [] → fs ≢ [] → same_list es fs ≡ b → together (Some es) (Some fs) ≡ (if b then Some es else None)
together-by [] fs b h k s = absurd (h refl)
together-by (e ∷ es) [] b h k s = absurd (k refl)
together-by (e ∷ es) (f ∷ fs) b h k s = ap (λ c. if c then Some (e ∷ es) else None) s

-- two lists that are the same, or differ
pub together-same : (es fs : List Entity) → es ≢ [] → fs ≢ [] → pointwise entity_eq es fs ≡ true → Some es ≡ together (Some es) (Some fs)
together-same es fs h k s = sym (together-by es fs true h k (sym (same-list es fs) ∙ s))

pub together-apart : (es fs : List Entity) → es ≢ [] → fs ≢ [] → pointwise entity_eq es fs ≡ false → None ≡ together (Some es) (Some fs)
together-apart es fs h k s = sym (together-by es fs false h k (sym (same-list es fs) ∙ s))

-- what is ambiguous stays so
pub said-ambiguous : (said : ClassId → Option (List Entity)) (bases : List ClassId) → fold (λ sum b. together sum (said b)) None bases ≡ None
said-ambiguous said [] = refl
said-ambiguous said (b ∷ bases) = said-ambiguous said bases

-- a class says what counts of what it has itself, or what its bases say
pub members-own : (s : ScopeTables) (sought : Sought) (levels : ℕ) (c : ClassId) (name : List ℕ) → levels ≢ 0 → counted sought (meanings_at s (scope.Class c) name) ≢ []
    → Some (counted sought (meanings_at s (scope.Class c) name)) ≡ members s sought levels c name
unfolding members
members-own s sought zero c name h k = absurd (h refl)
members-own s sought (suc n) c name h k = by (counted sought (meanings_at s (scope.Class c) name)) k (said_together (λ b. members s sought n b name) (bases_of s c))
  where
    by : (es : List Entity) → es ≢ [] → (rest : Option (List Entity)) → Some es ≡ or_else (Some es) rest
    by [] k rest = absurd (k refl)
    by (e ∷ es) k rest = refl

pub members-bases : (s : ScopeTables) (sought : Sought) (levels : ℕ) (c : ClassId) (name : List ℕ) → levels ≢ 0 → counted sought (meanings_at s (scope.Class c) name) ≡ []
    → members s sought levels c name ≡ said_together (λ b. members s sought (levels - 1) b name) (bases_of s c)
unfolding members
members-bases s sought zero c name h k = absurd (h refl)
members-bases s sought (suc n) c name h k =
    ap (λ es. or_else (Some es) (said_together (λ b. members s sought n b name) (bases_of s c))) k
    ∙ ap (λ m. said_together (λ b. members s sought m b name) (bases_of s c)) (let e : n ≡ suc n - 1 = omega arith in e)

pub members-none : (s : ScopeTables) (sought : Sought) (levels : ℕ) (c : ClassId) (name : List ℕ) → levels ≡ 0 → Some [] ≡ members s sought levels c name
unfolding members
members-none s sought zero c name h = refl
members-none s sought (suc n) c name h = absurd (omega arith)

module _ {A : Type 0} where
  pub is-empty : (es : List A) → (length es == 0) ≡ true → es ≡ []
  is-empty [] h = refl
  is-empty (e ∷ es) h = let z : length (e ∷ es) ≡ 0 = eqb-true _ 0 h in absurd (omega arith)

  pub not-empty : (es : List A) → (length es == 0) ≡ false → es ≢ []
  not-empty [] h e = cc
  not-empty (e ∷ es) h k = cc

module _ (said : ClassId → Option (List Entity)) (bases : List ClassId) (i : ℕ) where
  -- one more base
  pub said-next : (d : ClassId) (sum : List Entity) → i < length bases → said_together said (take i bases) ≡ Some sum → said_together said (take (i + 1) bases) ≡ together (Some sum) (said (get_or bases i d))
  said-next d sum h e =
      ap (said_together said) (take_more bases i d h)
      ∙ fold-append (λ sum b. together sum (said b)) (Some []) (take i bases) (get_or bases i d ∷ [])
      ∙ ap (λ o. together o (said (get_or bases i d))) e

  -- what is ambiguous after some of the bases is so after all
  pub said-stops : said_together said (take i bases) ≡ None → said_together said bases ≡ None
  said-stops e =
      ap (said_together said) (sym (take-append-drop i bases))
      ∙ fold-append (λ sum b. together sum (said b)) (Some []) (take i bases) (drop i bases)
      ∙ ap (λ o. fold (λ sum b. together sum (said b)) o (drop i bases)) e
      ∙ said-ambiguous said (drop i bases)

  pub said-whole : (sum : List Entity) → length bases ≤ i → said_together said (take i bases) ≡ Some sum → said_together said bases ≡ Some sum
  said-whole sum h e = ap (said_together said) (sym (take_all i bases h)) ∙ e

pub together-none : (es : List Entity) → together (Some es) None ≡ None
together-none [] = refl
together-none (e ∷ es) = refl
