-- What a judgement tells, by what the judge finds.
use Rattle.std.proofs.Common.{◌≡◌, ◌≢◌, ℕ, zero, suc, ◌+◌, ◌<◌, ◌≤◌, ◌==◌, Bool, true, false, List, [], ◌∷◌, length, map, Option, None, Some, Result, Ok, Err, refl, sym, ap, subst, ◌∙◌, slice_get, get_or, nat_lt, nat_le, if◌then◌else◌, cond, eqb-true, arith, lt-ltb, ltb-true, leb-true, leb-false, le-leb}
use Rattle.std.proofs.lemmas.Bool.{eqb-false, ne_eqb}
use Rattle.std.specs.Prelude.{option_map}
use Rattle.cx_base.specs.declared.diag.Span.{Span}
use Rattle.cx_base.specs.declared.rule.Rule.{Rule}
use Rattle.cx_base.specs.declared.rule.Rule.TheVariants as rule
use Rattle.cx_base.specs.declared.limits.Limits.{Limits}
use Rattle.cx_base.specs.declared.int_type.IntType.{IntType}
use Rattle.cx_ints.specs.declared.int.Int.{Int}
use Rattle.cx_type_defs.specs.declared.ids.VarId.{VarId}
use Rattle.cx_type_defs.proofs.Lists.{All-at}
use Rattle.cx_state.specs.declared.kind.Birth.TheVariants as birth
use Rattle.cx_state.specs.declared.root.JudgeMode.{JudgeMode}
use Rattle.cx_state.specs.Counts as counts
use Rattle.cx_typed.specs.declared.exprs.TExpr.{TExpr}
use Rattle.cx_typed.specs.declared.program.TVariable.{TVariable}
use Rattle.cx_typed.specs.declared.judge.Outcome.{Outcome}
use Rattle.cx_typed.specs.Programs.{Rows}
use Rattle.cx_base.specs.declared.diag.Diag.{Diag}
use Rattle.cx_base.specs.declared.diag.Frame.{Frame}
use Rattle.cx_typed.specs.declared.judge.Outcome.TheVariants as outcome
use Rattle.cx_state.specs.declared.root.JudgeMode.TheVariants as mode
use Rattle.cx_typed.specs.Trees.{Var, Body, OfExpr, OfVariable, FullTree}
use Rattle.cx_typed.specs.Shown.{shown, var_shown, vars_shown}
use Rattle.cx_typed.specs.Well.{int_of, types_of, VarFits, BodyFits}
use Rattle.cx_typed.specs.Fitting.{IsProgram, IsVariableIn}
use Rattle.cx_typed.specs.Judging.{Kept, KeptFit, kept_after, with_kept, judged, named, tables_of, request, setting, start_memory}
use Rattle.cx_typed.specs.Bodies.{fresh}
use Rattle.cx_typed.proofs.Growth.{map_length}
use Rattle.cx_typed.proofs.Keeping.{judged_keeps}
use Rattle.cx_typed.proofs.Start.{start_cells, fresh_cells}
use Rattle.cx_typed.proofs.Judgements.{may_begin, expr_exprs, expr_value, expr_place, expr_broken, expr_stuck, var_limit, var_exprs, var_broken, var_stuck, var_place, var_open, var_value}
use Rattle.cx_thin_judge.specs.declared.steps.Broken.{Broken}
use Rattle.cx_thin_judge.specs.declared.steps.Seen.{Seen}
use Rattle.cx_thin_judge.specs.declared.steps.Seen.TheVariants.{Number, Place}
use Rattle.cx_thin_judge.specs.declared.steps.Stop.{Stop}
use Rattle.cx_thin_judge.specs.declared.steps.Stop.TheVariants as stop
use Rattle.cx_thin_judge.specs.Evaluating.{Holding, MayEval, Meets, Begun, BegunIf, gives, number_of, broken, passed, told, answered, of_expr, of_var}

-- ---- counting

begins : (n : ℕ) (b : Bool) → (n == 0) ≡ b → nat_lt 0 n ≡ (if b then false else true)
begins n true e = rw (eqb-true n 0 e) refl
begins n false e = let apart = eqb-false n 0 e in lt-ltb 0 n (omega arith)

pub begun_limit : (h : Holding) (p : Rows) (o : Option VarId) (e : TExpr) (at : Span) → h.limits.exprs ≡ 0 → Begun h p o e at (Err (broken rule.LimitExprs at))
begun_limit h p o e at k = record { is = rw k refl }

pub begun_number : (h : Holding) (p : Rows) (o : Option VarId) (e : TExpr) (at : Span) (x : Result Seen Stop) → h.limits.exprs ≢ 0 → Meets h p o (gives h p o e) x → Begun h p o e at (number_of x at)
begun_number h p o e at x k m = record { is = by (h.limits.exprs == 0) refl }
  where
    by : (b : Bool) → (h.limits.exprs == 0) ≡ b → BegunIf b h p o e at (number_of x at)
    by true q = absurd (k (eqb-true h.limits.exprs 0 q))
    by false q = (x, m, refl)

-- ---- expressions

module _ (h : Holding) (p : Rows) (md : JudgeMode) (at : Span) where
  expr-found : (e : TExpr) (x : Result Seen Stop) → may_begin h.limits ≡ true → Meets h p None (gives h p None e) x → told h p md (of_expr p e at) ≡ answered (number_of x at)
  unfolding told Meets gives
  expr-found e (Ok (Number a)) k m = expr_value (vars_shown p) h.limits h.kept md at (shown p.types e) a k m.0
  expr-found e (Ok (Place v)) k m = expr_place (vars_shown p) h.limits h.kept md at (shown p.types e) _ k m.0
  expr-found e (Err (stop.Broken r w)) k m = expr_broken (vars_shown p) h.limits h.kept md at (shown p.types e) r w k m
  expr-found e (Err stop.Stuck) k m = expr_stuck (vars_shown p) h.limits h.kept md at (shown p.types e) k m

  expr-limit : (e : TExpr) → may_begin h.limits ≡ false → told h p md (of_expr p e at) ≡ answered (Err (broken rule.LimitExprs at))
  unfolding told
  expr-limit e k = expr_exprs (vars_shown p) h.limits h.kept md at (shown p.types e) k

  pub told_expr : (e : TExpr) (r : Result Int Broken) → Begun h p None e at r → told h p md (of_expr p e at) ≡ answered r
  told_expr e r b = by (h.limits.exprs == 0) refl b.is
    where
      by : (c : Bool) → (h.limits.exprs == 0) ≡ c → BegunIf c h p None e at r → told h p md (of_expr p e at) ≡ answered r
      by true q i = expr-limit e (begins h.limits.exprs true q) ∙ ap answered (sym i)
      by false q i = expr-found e i.0 (begins h.limits.exprs false q) i.1 ∙ ap answered (sym i.2)

-- ---- limits

no-more : (n l m : ℕ) → m ≡ n → nat_le (n + l) m ≡ (l == 0)
no-more n zero m e = le-leb (n + 0) m (omega arith)
no-more n (suc l) m e = leb-not (n + suc l) m (omega arith) ∙ sym (ne_eqb (suc l) 0 (λ q. omega arith))
  where
    leb-not : (a b : ℕ) → b < a → nat_le a b ≡ false
    leb-not a b h = by (nat_le a b) refl
      where
        by : (t : Bool) → nat_le a b ≡ t → t ≡ false
        by true q = let w = leb-true a b q in absurd (omega arith)
        by false q = refl

one-more : (c k n : ℕ) → n ≡ k + 1 → nat_lt c n ≡ nat_le c k
one-more c k n e = by (nat_le c k) refl
  where
    lt-not : n ≤ c → nat_lt c n ≡ false
    lt-not h = test (nat_lt c n) refl
      where
        test : (t : Bool) → nat_lt c n ≡ t → t ≡ false
        test true q = let w = ltb-true c n q in absurd (omega arith)
        test false q = refl

    by : (t : Bool) → nat_le c k ≡ t → nat_lt c n ≡ t
    by true q = let w = leb-true c k q in lt-ltb c n (omega arith)
    by false q = let w = leb-false c k q in lt-not (omega arith)

limits-as : (a b c d : Bool) → a ≡ c → b ≡ d → cond a (Some rule.LimitObjects) (cond b (Some rule.LimitCells) None) ≡ (if c then Some rule.LimitObjects else (if d then Some rule.LimitCells else None))
limits-as a b c d e f = rw (e, f) refl

pub passed_is : (vs : List Var) (l : Limits) (ks : Kept) (md : JudgeMode) (v : VarId) (d : Var) (ty : IntType) → KeptFit vs ks → slice_get vs v.0 ≡ Some d → int_of d.ty ≡ Some ty → counts.passed_limit (tables_of vs) (setting vs l ks md).limits (start_memory vs ks).objects (request v birth.Here) ≡ passed l (length ks)
passed_is vs l ks md v d ty k at e =
    limits-as _ _ (l.objects == 0) (nat_le l.cells (length ks))
    (no-more (length (named vs ks)) l.objects (length (start_memory vs ks).objects) (map_length _ (named vs ks)))
    (one-more l.cells (length ks) _ (ap (λ n. n + counts.cells_in (tables_of vs) (fresh (tables_of vs) v)) (start_cells vs ks k) ∙ ap (λ n. length ks + n) (fresh_cells vs v d ty at e)))

-- ---- variables

item-at : (xs : List TVariable) (i : ℕ) (x : TVariable) → i < length xs → slice_get xs i ≡ Some (get_or xs i x)
item-at [] i x h = absurd (omega arith)
item-at (y ∷ xs) zero x h = refl
item-at (y ∷ xs) (suc i) x h = item-at xs i x (omega arith)

pub item_there : (xs ys : List TVariable) (i : ℕ) (x : TVariable) → ys ≡ xs → i < length xs → x ≡ get_or ys i x → slice_get xs i ≡ Some x
item_there xs ys i x e h is = item-at xs i x h ∙ ap Some (sym (is ∙ ap (λ l. get_or l i x) e))

shown-at : (p : Rows) (xs : List TVariable) (i : ℕ) (x : TVariable) → slice_get xs i ≡ Some x → slice_get (map (var_shown p.types) xs) i ≡ Some (var_shown p.types x)
shown-at p [] i x h = absurd (cc)
shown-at p (y ∷ xs) zero x h = ap (option_map (var_shown p.types)) h
shown-at p (y ∷ xs) (suc i) x h = shown-at p xs i x h

-- the row of the variable that is judged
pub record IsRow (p : Rows) (v : VarId) (d : TVariable) : Type 0 where
  pub program : IsProgram p
  pub there : slice_get p.variables v.0 ≡ Some d

module _ (h : Holding) (p : Rows) (v : VarId) (d : TVariable) (w : IsRow p v d) (k : KeptFit (vars_shown p) h.kept) where
  row-shown : slice_get (vars_shown p) v.0 ≡ Some (var_shown p.types d)
  row-shown = shown-at p p.variables v.0 d w.there

  row-fits : VarFits (types_of (vars_shown p)) (var_shown p.types d)
  row-fits = All-at (VarFits (types_of (vars_shown p))) (vars_shown p) w.program.fits.each v.0 (var_shown p.types d) row-shown

  pub row_type : d.ty.0 < length p.types.rows
  row_type = (All-at (IsVariableIn p.types) p.variables w.program.types v.0 d w.there).ty

  pub may_eval : MayEval h p (Some v)
  may_eval = record { fits = k; judged = (var_shown p.types d, row-fits.ty, row-shown, row-fits.of_type) }

  module _ (md : JudgeMode) (at : Span) where
    is-passed : (o : Option Rule) → o ≡ passed h.limits (length h.kept) → counts.passed_limit (tables_of (vars_shown p)) (setting (vars_shown p) h.limits h.kept md).limits (start_memory (vars_shown p) h.kept).objects (request v birth.Here) ≡ o
    is-passed o e = passed_is (vars_shown p) h.limits h.kept md v (var_shown p.types d) row-fits.ty k row-shown row-fits.of_type ∙ sym e

    pub told_limit : (r : Rule) → Some r ≡ passed h.limits (length h.kept) → told h p md (of_var v at) ≡ answered (Err (broken r d.at))
    unfolding told
    told_limit r e = var_limit (vars_shown p) h.limits h.kept md at v (var_shown p.types d) row-shown r (is-passed (Some r) e)

    module _ (e : None ≡ passed h.limits (length h.kept)) where
      pub told_open : d.init ≡ None → told h p md (of_var v at) ≡ answered (Err (broken rule.ResultIndeterminate at))
      unfolding told
      told_open i = var_open (vars_shown p) h.limits h.kept md at v (var_shown p.types d) row-shown (is-passed None e) row-fits.ty row-fits.of_type (ap (option_map (shown p.types)) i)

      var-limit-of : (x : TExpr) → d.init ≡ Some x → may_begin h.limits ≡ false → told h p md (of_var v at) ≡ answered (Err (broken rule.LimitExprs at))
      unfolding told
      var-limit-of x i b = var_exprs (vars_shown p) h.limits h.kept md at v (var_shown p.types d) row-shown (is-passed None e) (shown p.types x) (ap (option_map (shown p.types)) i) b

      var-found : (x : TExpr) (r : Result Seen Stop) → d.init ≡ Some x → may_begin h.limits ≡ true → Meets h p (Some v) (gives h p (Some v) x) r → told h p md (of_var v at) ≡ answered (number_of r at)
      unfolding told Meets gives
      var-found x (Ok (Number a)) i b m = var_value (vars_shown p) h.limits h.kept md at v (var_shown p.types d) row-shown (is-passed None e) row-fits.ty row-fits.of_type (shown p.types x) a (ap (option_map (shown p.types)) i) b m.0
      var-found x (Ok (Place u)) i b m = var_place (vars_shown p) h.limits h.kept md at v (var_shown p.types d) row-shown (is-passed None e) (shown p.types x) _ (ap (option_map (shown p.types)) i) b m.0
      var-found x (Err (stop.Broken r z)) i b m = var_broken (vars_shown p) h.limits h.kept md at v (var_shown p.types d) row-shown (is-passed None e) (shown p.types x) r z (ap (option_map (shown p.types)) i) b m
      var-found x (Err stop.Stuck) i b m = var_stuck (vars_shown p) h.limits h.kept md at v (var_shown p.types d) row-shown (is-passed None e) (shown p.types x) (ap (option_map (shown p.types)) i) b m

      pub told_begun : (x : TExpr) (r : Result Int Broken) → d.init ≡ Some x → Begun h p (Some v) x at r → told h p md (of_var v at) ≡ answered r
      told_begun x r i b = by (h.limits.exprs == 0) refl b.is
        where
          by : (c : Bool) → (h.limits.exprs == 0) ≡ c → BegunIf c h p (Some v) x at r → told h p md (of_var v at) ≡ answered r
          by true q z = var-limit-of x i (begins h.limits.exprs true q) ∙ ap answered (sym z)
          by false q z = var-found x z.0 i (begins h.limits.exprs false q) z.1 ∙ ap answered (sym z.2)

-- ---- what is judged, and what is kept then

pub judged_value : (h : Holding) (p : Rows) (f : FullTree) (md : JudgeMode) (o : Outcome) (ks : Kept) → told h p md f ≡ o → ks ≡ kept_after (vars_shown p) h.kept md f.body o → judged (vars_shown p) h.limits h.kept f md ≡ (o, ks)
unfolding told
judged_value h p f md o ks e k = ap (with_kept (vars_shown p) h.kept md f.body) e ∙ ap (λ z. (o, z)) (sym k)

violation-keeps : (vs : List Var) (ks : Kept) (md : JudgeMode) (b : Body) (d : Diag) → ks ≡ kept_after vs ks md b (outcome.Violation d)
violation-keeps vs ks mode.Constant b d = refl
violation-keeps vs ks mode.Narrow b d = refl
violation-keeps vs ks mode.Keep (OfExpr x) d = refl
violation-keeps vs ks mode.Keep (OfVariable v) d = refl

pub judged_violation : (h : Holding) (p : Rows) (f : FullTree) (md : JudgeMode) (b : Broken) (fs : List Frame) → told h p md f ≡ answered (Err b) → fs ≡ [] → judged (vars_shown p) h.limits h.kept f md ≡ (outcome.Violation (record { span = b.span; rule = b.rule; frames = fs }), h.kept)
judged_violation h p f md b fs e n = judged_value h p f md (outcome.Violation (record { span = b.span; rule = b.rule; frames = fs })) h.kept (e ∙ ap (λ (l : List Frame). outcome.Violation (record { span = b.span; rule = b.rule; frames = l })) (sym n)) (violation-keeps (vars_shown p) h.kept md f.body _)

pub judged_fits : (h : Holding) (p : Rows) (f : FullTree) (md : JudgeMode) (o : Outcome) (ks : Kept) → IsProgram p → KeptFit (vars_shown p) h.kept → BodyFits (vars_shown p) f.body → judged (vars_shown p) h.limits h.kept f md ≡ (o, ks) → KeptFit (vars_shown p) ks
judged_fits h p f md o ks w k b e = subst (λ (z : Outcome × Kept). KeptFit (vars_shown p) z.1) e (judged_keeps (vars_shown p) h.limits h.kept f md w.fits k b)

pub no_rule : (o : Option Rule) → ((r : Rule) → o ≡ Some r → ⊥) → None ≡ o
no_rule None h = refl
no_rule (Some r) h = absurd (h r refl)
