-- A function that comes into a set.
use Rattle.std.proofs.Common.{◌≡◌, ℕ, Bool, true, false, ◌||◌, List, [], ◌∷◌, ◌++◌, refl, sym, ap, ◌∙◌, if◌then◌else◌}
use Rattle.std.specs.Prelude.{◌==◌}
use Rattle.std.specs.List.{list_any}
use Rattle.std.proofs.lemmas.Bool.{eqb-true}
use Rattle.std.proofs.lemmas.List.Folds.{list_any-append}
use Rattle.cx_type_defs.specs.declared.ids.FuncId.{FuncId}
use Rattle.cx_type_defs.specs.Tables.{lists_function}

or-false : (b : Bool) → b ≡ (b || false)
or-false true = refl
or-false false = refl

or-assoc : (a b l : Bool) → ((a || b) || l) ≡ (a || (b || l))
or-assoc true b l = refl
or-assoc false b l = refl

-- the set has the function, or gets it
abbrev inserted : List FuncId → FuncId → Bool → List FuncId
inserted fs x has = if has then fs else fs ++ x ∷ []

lists-inserted : (f x : FuncId) (fs : List FuncId) → lists_function f (inserted fs x (lists_function x fs)) ≡ (lists_function f fs || lists_function f (x ∷ []))
lists-inserted f x fs = of (lists_function x fs) refl
  where
    same : lists_function x fs ≡ true → (b : Bool) → (f.0 == x.0) ≡ b → lists_function f fs ≡ (lists_function f fs || (b || false))
    same has true e =
        let eq : f.0 ≡ x.0 = eqb-true f.0 x.0 e in
        let there : lists_function f fs ≡ true = ap (λ (n : ℕ). list_any (λ (g : FuncId). n == g.0) fs) eq ∙ has in
        there ∙ sym (ap (λ v. v || true) there)
    same has false e = or-false (lists_function f fs)

    of : (b : Bool) → lists_function x fs ≡ b → lists_function f (inserted fs x b) ≡ (lists_function f fs || lists_function f (x ∷ []))
    of true e = same e (f.0 == x.0) refl
    of false e = list_any-append (λ (g : FuncId). f.0 == g.0) fs (x ∷ [])

-- one more of the functions that are put in
pub lists-more : (f x : FuncId) (old now new done : List FuncId) → lists_function f now ≡ (lists_function f old || lists_function f done) → new ≡ inserted now x (lists_function x now) → lists_function f new ≡ (lists_function f old || lists_function f (done ++ x ∷ []))
lists-more f x old now new done h e =
    ap (lists_function f) e ∙ lists-inserted f x now ∙ ap (λ v. v || lists_function f (x ∷ [])) h
    ∙ or-assoc (lists_function f old) (lists_function f done) (lists_function f (x ∷ []))
    ∙ ap (λ v. lists_function f old || v) (sym (list_any-append (λ (g : FuncId). f.0 == g.0) done (x ∷ [])))
