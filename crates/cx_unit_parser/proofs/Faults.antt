-- The fault of a list of tokens is one alone.
use Rattle.std.proofs.Common.{◌≡◌, inl, inr, ℕ, zero, suc, ◌+◌, ◌<◌, List, [], ◌∷◌, ◌++◌, length, take, drop, refl, sym, ◌∙◌, ap, subst, length-append, arith}
use Rattle.std.proofs.Math.Seq.{drop-append_seam, take-append_seam}
use Rattle.cx_base.specs.declared.rule.Rule.{Rule}
use Rattle.cx_grammar.specs.Exact.{Family}
use Rattle.cx_grammar.specs.Answers.{FaultAt, Refused}

-- two numbers of which neither is less
neither : (a b : ℕ) → (a < b → ⊥) → (b < a → ⊥) → a ≡ b
neither zero zero p q = refl
neither zero (suc b) p q = absurd (p (omega arith))
neither (suc a) zero p q = absurd (q (omega arith))
neither (suc a) (suc b) p q = ap suc (neither a b (λ h. p (omega arith)) (λ h. q (omega arith)))

-- a list that goes on where another ends has it as its front
goes_on : {T : Type 0} (x y u v : List T) (t : T) → x ++ t ∷ y ≡ u ++ v → length x < length u → (d : List T) × (u ≡ (x ++ t ∷ []) ++ d)
goes_on x y [] v t e less = let none : length x < 0 = less in absurd (omega arith)
goes_on [] y (a ∷ u) v t e less = let same : a ≡ t = cc in (u, ap (λ z. z ∷ u) same)
goes_on (b ∷ x) y (a ∷ u) v t e less = let same : a ≡ b = cc in let rest : x ++ t ∷ y ≡ u ++ v = cc in let n : length (b ∷ x) ≡ suc (length x) = refl in let m : length (a ∷ u) ≡ suc (length u) = refl in
    let r = goes_on x y u v t rest (omega arith) in (r.0, ap (λ z. z ∷ u) same ∙ ap (λ z. b ∷ z) r.1)

front_of : {T : Type 0} (x y u v : List T) → x ++ y ≡ u ++ v → length x ≡ length u → x ≡ u
front_of x y u v e n = sym (take-append_seam x y) ∙ (ap (take (length x)) e ∙ (ap (λ k. take k (u ++ v)) n ∙ take-append_seam u v))

back_of : {T : Type 0} (x y u v : List T) → x ++ y ≡ u ++ v → length x ≡ length u → y ≡ v
back_of x y u v e n = sym (drop-append_seam x y) ∙ (ap (drop (length x)) e ∙ (ap (λ k. drop k (u ++ v)) n ∙ drop-append_seam u v))

module _ {T A : Type 0} (L : Family T A) (levels : ℕ) (ts : List T) where
  refused_here : (rule : Rule) (upto : List T) → Refused L levels rule upto → (L levels).begins upto → ⊥
  refused_here rule upto (inl r) b = r.1 levels b
  refused_here rule upto (inr r) b = r.1 b

  one_rule : (rule other : Rule) (upto : List T) → Refused L levels rule upto → Refused L levels other upto → rule ≡ other
  one_rule rule other upto (inl r) (inl s) = r.0 ∙ sym s.0
  one_rule rule other upto (inl r) (inr s) = absurd (r.1 s.2.0 s.2.1)
  one_rule rule other upto (inr r) (inl s) = absurd (s.1 r.2.0 r.2.1)
  one_rule rule other upto (inr r) (inr s) = r.0 ∙ sym s.0

  sizes : (rule : Rule) (left : ℕ) (f : FaultAt L levels ts rule left) → length f.before + left ≡ length ts
  sizes rule left f = let a = ap length f.cut in let c = length-append f.before f.rest in let p = f.size in omega arith

  -- no fault stands before another
  not_before : (rule other : Rule) (left more : ℕ) (f : FaultAt L levels ts rule left) (g : FaultAt L levels ts other more) (t : T) (after : List T) → f.rest ≡ t ∷ after → more < left → ⊥
  not_before rule other left more f g t after e less = let a = sizes rule left f in let b = sizes other more g in
      let r = goes_on f.before after g.before g.rest t (sym (f.cut ∙ ap (λ l. f.before ++ l) e) ∙ g.cut) (omega arith) in
      refused_here rule (f.before ++ t ∷ []) (f.fault t after e) (g.begun (f.before ++ t ∷ []) r.0 r.1)

  pub one_place : (rule other : Rule) (left more : ℕ) (f : FaultAt L levels ts rule left) (g : FaultAt L levels ts other more) (t u : T) (after behind : List T) → f.rest ≡ t ∷ after → g.rest ≡ u ∷ behind → left ≡ more
  one_place rule other left more f g t u after behind e d = let p = not_before rule other left more f g t after e in let q = not_before other rule more left g f u behind d in neither left more q p

  pub one_token : (rule other : Rule) (left more : ℕ) (f : FaultAt L levels ts rule left) (g : FaultAt L levels ts other more) → left ≡ more → f.rest ≡ g.rest
  one_token rule other left more f g n = let a = sizes rule left f in let b = sizes other more g in back_of f.before f.rest g.before g.rest (sym f.cut ∙ g.cut) (omega arith)

  pub same_rule : (rule other : Rule) (left more : ℕ) (f : FaultAt L levels ts rule left) (g : FaultAt L levels ts other more) (t : T) (after : List T) → left ≡ more → f.rest ≡ t ∷ after → rule ≡ other
  same_rule rule other left more f g t after n e = let a = sizes rule left f in let b = sizes other more g in let same : f.before ≡ g.before = front_of f.before f.rest g.before g.rest (sym f.cut ∙ g.cut) (omega arith) in
      let P : List T → Type 0 = λ l. Refused L levels other (l ++ t ∷ []) in one_rule rule other (f.before ++ t ∷ []) (f.fault t after e) (subst P (sym same) (g.fault t after (sym (one_token rule other left more f g n) ∙ e)))
