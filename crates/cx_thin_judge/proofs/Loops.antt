-- Along a chain, and from one form of a fact to another.
use Rattle.std.proofs.Common.{◌≡◌, ℕ, zero, suc, ◌+◌, ◌<◌, ◌≤◌, List, [], ◌∷◌, length, Option, Result, Ok, Err, refl, sym, ap, subst, ◌∙◌, drop, get_or, arith, drop-cons}
use Rattle.cx_type_defs.specs.declared.ids.VarId.{VarId}
use Rattle.cx_typed.specs.declared.exprs.TExpr.{TExpr}
use Rattle.cx_typed.specs.declared.exprs.TStep.{TStep}
use Rattle.cx_typed.specs.Programs.{Rows}
use Rattle.cx_thin_judge.specs.declared.steps.Seen.{Seen}
use Rattle.cx_thin_judge.specs.declared.steps.Stop.{Stop}
use Rattle.cx_thin_judge.specs.Evaluating.{Holding, Meets, IsThere, gives, joins, chains}
use Rattle.cx_thin_judge.proofs.Nodes.{chains_next, chains_stop, chains_end}

next : (i : ℕ) → suc i ≡ i + 1
next i = omega arith

drop-at : (ss : List TStep) (i : ℕ) (r : TStep) → i < length ss → r ≡ get_or ss i r → drop i ss ≡ r ∷ drop (i + 1) ss
drop-at ss i r h e = drop-cons ss i r h ∙ ap (λ x. x ∷ drop (suc i) ss) (sym e) ∙ ap (λ n. r ∷ drop n ss) (next i)

drop-none : (ss : List TStep) (i : ℕ) → length ss ≤ i → drop i ss ≡ []
drop-none [] zero h = refl
drop-none [] (suc i) h = refl
drop-none (s ∷ ss) zero h = absurd (omega arith)
drop-none (s ∷ ss) (suc i) h = drop-none ss i (omega arith)

module _ (h : Holding) (p : Rows) (o : Option VarId) where
  pub carried : (y x : TExpr) (r w : Result Seen Stop) → y ≡ x → r ≡ w → Meets h p o (gives h p o y) r → Meets h p o (gives h p o x) w
  carried y x r w e f m = subst (λ z. Meets h p o (gives h p o z) w) e (subst (Meets h p o (gives h p o y)) f m)

  pub step_stops : (first left : Seen) (ss : List TStep) (i : ℕ) (r : TStep) (e : Stop) → chains h p o first ss ≡ chains h p o left (drop i ss) → i < length ss → r ≡ get_or ss i r → Meets h p o (joins h p o left r.part r.span) (Err e) → Meets h p o (chains h p o first ss) (Err e)
  step_stops first left ss i r e same l at m = subst (λ g. Meets h p o g (Err e)) (sym (same ∙ ap (chains h p o left) (drop-at ss i r l at))) (chains_stop h p o left e r (drop (i + 1) ss) m)

  pub step_on : (first left w : Seen) (ss : List TStep) (i : ℕ) (r : TStep) → chains h p o first ss ≡ chains h p o left (drop i ss) → i < length ss → r ≡ get_or ss i r → Meets h p o (joins h p o left r.part r.span) (Ok w) → chains h p o first ss ≡ chains h p o w (drop (i + 1) ss)
  step_on first left w ss i r same l at m = same ∙ ap (chains h p o left) (drop-at ss i r l at) ∙ chains_next h p o left w r (drop (i + 1) ss) m

  pub step_end : (first left : Seen) (ss : List TStep) (i : ℕ) → chains h p o first ss ≡ chains h p o left (drop i ss) → length ss ≤ i → IsThere p left → Meets h p o (chains h p o first ss) (Ok left)
  step_end first left ss i same l there = subst (λ g. Meets h p o g (Ok left)) (sym (same ∙ ap (chains h p o left) (drop-none ss i l))) (chains_end h p o left there)
