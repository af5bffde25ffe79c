-- What each node gives, by what those inside it give.
use Rattle.std.proofs.Common.{◌≡◌, ◌<◌, ◌≤◌, ◌==◌, Bool, true, false, List, [], ◌∷◌, length, map, Option, None, Some, Result, Ok, Err, refl, sym, ap, subst, ◌∙◌, nat_lt, if◌then◌else◌}
use Rattle.std.proofs.lemmas.Bool.{ltb-true, ltb-false}
use Rattle.cx_base.specs.declared.diag.Span.{Span}
use Rattle.cx_base.specs.declared.rule.Rule.{Rule}
use Rattle.cx_base.specs.declared.rule.Rule.TheVariants as rule
use Rattle.cx_ints.specs.declared.int.Int.{Int}
use Rattle.cx_ints.specs.Conversions.{convert}
use Rattle.cx_type_defs.specs.declared.ids.VarId.{VarId}
use Rattle.cx_type_defs.specs.declared.ids.TypeId.{TypeId}
use Rattle.cx_type_defs.specs.Tables.{Tables}
use Rattle.cx_type_defs.specs.Same.{form_of}
use Rattle.cx_type_defs.proofs.Lists.{some_inj}
use Rattle.cx_state.specs.declared.kind.Scalar.{Scalar}
use Rattle.cx_state.specs.declared.kind.Scalar.TheVariants as scalar
use Rattle.cx_state.specs.declared.root.Root.TheVariants as root
use Rattle.cx_state.specs.Objects.{Path}
use Rattle.cx_state.specs.States.{State, Out, Value, Violation, Stuck, then_do, does, step, bound, found}
use Rattle.cx_ops.specs.declared.StrictOp.{StrictOp}
use Rattle.cx_ops.specs.declared.StrictOp.TheVariants as op
use Rattle.cx_ops.specs.Strict.{given, delivered}
use Rattle.cx_typed.specs.declared.exprs.ChainOp.{ChainOp}
use Rattle.cx_typed.specs.declared.exprs.ChainOp.TheVariants as chain
use Rattle.cx_typed.specs.declared.exprs.Conversion.{Conversion}
use Rattle.cx_typed.specs.declared.exprs.TExpr.{TExpr}
use Rattle.cx_typed.specs.declared.exprs.TNode as n
use Rattle.cx_typed.specs.declared.exprs.TPart.{TPart}
use Rattle.cx_typed.specs.declared.exprs.TStep.{TStep}
use Rattle.cx_typed.specs.Programs.{Rows}
use Rattle.cx_typed.specs.Trees.{Note, Tx, with_types}
use Rattle.cx_typed.specs.Shown.{Joined, plain, plain_part, plain_step, var_shown, vars_shown, converted as tree_converted, joined as tree_joined, chained as tree_chained}
use Rattle.cx_typed.specs.Meaning as meaning
use Rattle.cx_typed.specs.Meaning.{Given, Prvalue, Lvalue, whole, placed as object_placed, as_prvalue, operate, decided, eval}
use Rattle.cx_typed.specs.Judging.{Kept, kept_at, tables_of}
use Rattle.cx_typed.specs.declared.judge.Value.{Value as Val}
use Rattle.cx_typed.specs.declared.judge.Value.TheVariants as value
use Rattle.cx_typed.specs.declared.judge.KeptValue.{KeptValue}
use Rattle.cx_state.specs.Conditions.{is_opaque}
use Rattle.cx_typed.specs.Bodies.{ready, number_of, read_of, reads}
use Rattle.cx_typed.proofs.Growth.{map_length}
use Rattle.cx_typed.proofs.Start.{Reads, ready_reads, ready_none}
use Rattle.cx_typed.proofs.Views.{constant_is, variable_is, load_is, unary_is, chain_is, conditional_is, own_note, part_is, step_is}
use Rattle.cx_thin_judge.specs.declared.steps.Seen.{Seen}
use Rattle.cx_thin_judge.specs.declared.steps.Seen.TheVariants.{Number, Place}
use Rattle.cx_thin_judge.specs.declared.steps.Stop.{Stop}
use Rattle.cx_thin_judge.specs.declared.steps.Stop.TheVariants as stop
use Rattle.cx_thin_judge.specs.declared.steps.Opening.TheVariants as opening
use Rattle.cx_thin_judge.specs.Evaluating.{Holding, MayEval, Meets, IsThere, state, given_of, gives, joins, chains, nowhere, converting, joining, chaining, seen_of, operated, truth_of, converted, opened, joined, closed, loaded, read_seen, placed}

-- reading gives a number or breaks a rule

abbrev IsReading : Result (Scalar Path) Rule → Type 0
IsReading (Ok (scalar.Int a)) = Unit {0}
IsReading (Ok _) = ⊥
IsReading (Err r) = Unit {0}

kept-reading : (k : Option KeptValue) → IsReading (read_of k)
kept-reading None = tt
kept-reading (Some k) = by (is_opaque k.birth) k.value
  where
    by : (b : Bool) (x : Val) → IsReading (if b then Err rule.NotUsable else Ok (number_of x))
    by true x = tt
    by false (value.Int a) = tt

is-reading : (ks : Kept) (o : Option VarId) (v : VarId) → IsReading (reads ks o v)
is-reading ks None v = kept-reading (kept_at ks v)
is-reading ks (Some j) v = by (j.0 == v.0)
  where
    by : (b : Bool) → IsReading (if b then Err rule.Indeterminate else read_of (kept_at ks v))
    by true = tt
    by false = kept-reading (kept_at ks v)

-- a conversion gives the same wherever it stands
convert-anywhere : (q : Conversion) (a b : Span) (g : Given) (u : State) → step a (operate (op.Convert q.to) (g ∷ [])) u ≡ step b (operate (op.Convert q.to) (g ∷ [])) u
convert-anywhere q a b (Prvalue (scalar.Int x)) u = refl
convert-anywhere q a b (Prvalue scalar.Null) u = refl
convert-anywhere q a b (Prvalue (scalar.Place x)) u = refl
convert-anywhere q a b (Prvalue scalar.Indeterminate) u = refl
convert-anywhere q a b (Lvalue x) u = refl

converted-anywhere : (q : Conversion) (a b : Span) (g : Out Given) → then_do g (λ x u. step a (operate (op.Convert q.to) (x ∷ [])) u) ≡ then_do g (λ x u. step b (operate (op.Convert q.to) (x ∷ [])) u)
converted-anywhere q a b (Value g u) = convert-anywhere q a b g u
converted-anywhere q a b (Violation r at u) = refl
converted-anywhere q a b Stuck = refl

-- going on from a value to that value changes nothing
then-value : (g : Out Given) → then_do g (λ a u. Value a u) ≡ g
then-value (Value a u) = refl
then-value (Violation r at u) = refl
then-value Stuck = refl

module _ (h : Holding) (p : Rows) (o : Option VarId) where
  abbrev s : State
  s = state h p o

  abbrev t : Tables
  t = tables_of (vars_shown p)

  abbrev GivesBack : Out Given → Result Seen Stop → Type 0
  GivesBack g r = Meets h p o g r

  -- ---- leaves

  pub meets_constant : (e : TExpr) (a : Int) → e.node ≡ n.Constant a → Meets h p o (gives h p o e) (Ok (Number a))
  unfolding Meets gives
  meets_constant e a k = rw (constant_is p.types e a k) (refl, record { in_range = tt })

  bound-there : (v : VarId) → MayEval h p o → v.0 < length p.variables → Reads t (ready (vars_shown p) h.kept o).bindings (ready (vars_shown p) h.kept o).objects v (reads h.kept o v)
  bound-there v m k = ready_reads (vars_shown p) h.kept o m.judged v (subst (λ l. v.0 < l) (sym (map_length (var_shown p.types) p.variables)) k)

  place-meets : (v : VarId) (at : Span) → MayEval h p o → v.0 < length p.variables → Meets h p o (does at s (object_placed s.memory (bound s.memory.bindings (root.Variable v)))) (Ok (Place v))
  unfolding Meets
  place-meets v at m k = let r = bound-there v m k in rw r.is_bound (refl, record { in_range = k })

  no-place : (v : VarId) (at : Span) → MayEval h p o → length p.variables ≤ v.0 → Meets h p o (does at s (object_placed s.memory (bound s.memory.bindings (root.Variable v)))) (Err stop.Stuck)
  unfolding Meets
  no-place v at m k = rw (ready_none (vars_shown p) h.kept o v m.fits m.judged (subst (λ l. l ≤ v.0) (sym (map_length (var_shown p.types) p.variables)) k)) refl

  pub meets_variable : (e : TExpr) (v : VarId) → MayEval h p o → e.node ≡ n.Variable v → Meets h p o (gives h p o e) (placed p v)
  unfolding gives
  meets_variable e v m k = rw (variable_is p.types e v k) (by (nat_lt v.0 (length p.variables)) refl)
    where
      by : (b : Bool) → nat_lt v.0 (length p.variables) ≡ b → Meets h p o (does e.span s (object_placed s.memory (bound s.memory.bindings (root.Variable v)))) (if b then Ok (Place v) else Err stop.Stuck)
      by true q = place-meets v e.span m (ltb-true v.0 (length p.variables) q)
      by false q = no-place v e.span m (ltb-false v.0 (length p.variables) q)

  -- ---- one operand

  told-meets : (at : Span) (r : Option (Result Int Rule)) → Meets h p o (does at s (as_prvalue (delivered s.memory r))) (seen_of r at)
  unfolding Meets
  told-meets at None = refl
  told-meets at (Some (Ok a)) = (refl, record { in_range = tt })
  told-meets at (Some (Err r)) = refl

  stuck-meets : Meets h p o Stuck (Err stop.Stuck)
  unfolding Meets
  stuck-meets = refl

  operated-meets : (q : StrictOp) (x : Seen) (at : Span) → Meets h p o (step at (operate q (given_of s x ∷ [])) s) (operated q x at)
  operated-meets q (Number a) at = told-meets at (given q (a ∷ []))
  operated-meets q (Place v) at = stuck-meets

  after-meets : (g : Out Given) (x : Seen) (k : Given → State → Out Given) (r : Result Seen Stop) → Meets h p o g (Ok x) → Meets h p o (k (given_of s x) s) r → Meets h p o (then_do g k) r
  unfolding Meets
  after-meets g x k r m w = subst (λ z. Meets h p o (then_do z k) r) (sym m.0) w

  after-stops : (g : Out Given) (x : Stop) (k : Given → State → Out Given) → Meets h p o g (Err x) → Meets h p o (then_do g k) (Err x)
  unfolding Meets
  after-stops g (stop.Broken r at) k m = ap (λ z. then_do z k) m
  after-stops g stop.Stuck k m = ap (λ z. then_do z k) m

  pub meets_unary : (e x : TExpr) (q : StrictOp) (y : Seen) → e.node ≡ n.Unary q x → Meets h p o (gives h p o x) (Ok y) → Meets h p o (gives h p o e) (operated q y e.span)
  unfolding gives
  meets_unary e x q y k m = rw (unary_is p.types e q x k) (after-meets _ y _ (operated q y e.span) m (operated-meets q y e.span))

  pub unary_stops : (e x : TExpr) (q : StrictOp) (y : Stop) → e.node ≡ n.Unary q x → Meets h p o (gives h p o x) (Err y) → Meets h p o (gives h p o e) (Err y)
  unfolding gives
  unary_stops e x q y k m = rw (unary_is p.types e q x k) (after-stops _ y _ m)

  -- ---- reading

  read-meets : (at : Span) (r : Result (Scalar Path) Rule) → IsReading r → Meets h p o (does at s (as_prvalue (found s.memory r))) (read_seen r at)
  unfolding Meets
  read-meets at (Ok (scalar.Int a)) i = (refl, record { in_range = tt })
  read-meets at (Ok scalar.Null) i = absurd i
  read-meets at (Ok (scalar.Place q)) i = absurd i
  read-meets at (Ok scalar.Indeterminate) i = absurd i
  read-meets at (Err r) i = refl

  loaded-meets : (y : Seen) (at : Span) → MayEval h p o → IsThere p y → Meets h p o (step at (meaning.load t (given_of s y)) s) (loaded h.kept o y at)
  loaded-meets (Number a) at m w = stuck-meets
  loaded-meets (Place v) at m w = let r = bound-there v m w.in_range in rw (r.is_bound, r.gives) (read-meets at (reads h.kept o v) (is-reading h.kept o v))

  there-of : (g : Out Given) (y : Seen) → Meets h p o g (Ok y) → IsThere p y
  unfolding Meets
  there-of g y m = m.1

  pub meets_load : (e x : TExpr) (y : Seen) → MayEval h p o → e.node ≡ n.Load x → Meets h p o (gives h p o x) (Ok y) → Meets h p o (gives h p o e) (loaded h.kept o y e.span)
  unfolding gives
  meets_load e x y may k m = rw (load_is p.types e x k) (after-meets _ y _ (loaded h.kept o y e.span) m (loaded-meets y e.span may (there-of _ y m)))

  pub load_stops : (e x : TExpr) (y : Stop) → e.node ≡ n.Load x → Meets h p o (gives h p o x) (Err y) → Meets h p o (gives h p o e) (Err y)
  unfolding gives
  load_stops e x y k m = rw (load_is p.types e x k) (after-stops _ y _ m)

  -- ---- choices

  truth-same : (y : Seen) → meaning.truth_of (given_of s y) ≡ truth_of y
  truth-same (Number a) = refl
  truth-same (Place v) = refl

  decided-meets : (y : Seen) (a b : Out Given) (c : Option Bool) (r : Result Seen Stop) → truth_of y ≡ c → Meets h p o (decided c a b) r → Meets h p o (decided (meaning.truth_of (given_of s y)) a b) r
  decided-meets y a b c r e m = subst (λ z. Meets h p o (decided z a b) r) (sym (truth-same y ∙ e)) m

  stuck-decided : (y : Seen) (a b : Out Given) → truth_of y ≡ None → Meets h p o (decided (meaning.truth_of (given_of s y)) a b) (Err stop.Stuck)
  unfolding Meets
  stuck-decided y a b e = ap (λ z. decided z a b) (truth-same y ∙ e)

  pub meets_second : (e c x z : TExpr) (y : Seen) (r : Result Seen Stop) → e.node ≡ n.Conditional c x z → Meets h p o (gives h p o c) (Ok y) → truth_of y ≡ Some true → Meets h p o (gives h p o x) r → Meets h p o (gives h p o e) r
  unfolding gives
  meets_second e c x z y r k m q w = rw (conditional_is p.types e c x z k) (after-meets _ y _ r m (decided-meets y _ _ (Some true) r q w))

  pub meets_third : (e c x z : TExpr) (y : Seen) (r : Result Seen Stop) → e.node ≡ n.Conditional c x z → Meets h p o (gives h p o c) (Ok y) → truth_of y ≡ Some false → Meets h p o (gives h p o z) r → Meets h p o (gives h p o e) r
  unfolding gives
  meets_third e c x z y r k m q w = rw (conditional_is p.types e c x z k) (after-meets _ y _ r m (decided-meets y _ _ (Some false) r q w))

  pub no_condition : (e c x z : TExpr) (y : Seen) → e.node ≡ n.Conditional c x z → Meets h p o (gives h p o c) (Ok y) → truth_of y ≡ None → Meets h p o (gives h p o e) (Err stop.Stuck)
  unfolding gives
  no_condition e c x z y k m q = rw (conditional_is p.types e c x z k) (after-meets _ y _ (Err stop.Stuck) m (stuck-decided y _ _ q))

  pub condition_stops : (e c x z : TExpr) (y : Stop) → e.node ≡ n.Conditional c x z → Meets h p o (gives h p o c) (Err y) → Meets h p o (gives h p o e) (Err y)
  unfolding gives
  condition_stops e c x z y k m = rw (conditional_is p.types e c x z k) (after-stops _ y _ m)

  -- ---- operations behind their left operand

  joining-converted : (c : Option Conversion) (x : Tx TypeId) (q : ChainOp) (y : Tx TypeId) (at : Span) → then_do (eval t (with_types (form_of true p.types) (tree_converted c x)) s) (λ a u. meaning.joined q a at (eval t (with_types (form_of true p.types) y)) u) ≡ then_do (converting c (eval t (with_types (form_of true p.types) x) s)) (λ a u. meaning.joined q a at (eval t (with_types (form_of true p.types) y)) u)
  joining-converted None x q y at = refl
  joining-converted (Some c) x q y at = ap (λ g. then_do g (λ a u. meaning.joined q a at (eval t (with_types (form_of true p.types) y)) u)) (converted-anywhere c _ nowhere (eval t (with_types (form_of true p.types) x) s))

  -- what a tree gives, joined
  joining-is : (x : Tx TypeId) (j : Joined) (i : Note TypeId) → eval t (with_types (form_of true p.types) (tree_joined x j i)) s ≡ joining p (eval t (with_types (form_of true p.types) x) s) j i.span
  joining-is x j i = joining-converted j.left x j.op j.operand i.span

  chaining-is : (ss : List (Joined × Note TypeId)) (x : Tx TypeId) (g : Out Given) → eval t (with_types (form_of true p.types) x) s ≡ g → eval t (with_types (form_of true p.types) (tree_chained x ss)) s ≡ chaining p g ss
  chaining-is [] x g e = e
  chaining-is (r ∷ ss) x g e = chaining-is ss (tree_joined x r.0 r.1) (joining p g r.0 r.1.span) (joining-is x r.0 r.1 ∙ ap (λ z. joining p z r.0 r.1.span) e)

  -- what a left operand is converted to
  converting-meets : (left : Seen) (c : Option Conversion) (w : Seen) → converted left c ≡ Some w → IsThere p left → Meets h p o (converting c (Value (given_of s left) s)) (Ok w)
  unfolding Meets
  converting-meets left None w e i = (ap (λ z. Value (given_of s z) s) (some_inj left w e), subst (IsThere p) (some_inj left w e) i)
  converting-meets (Number a) (Some c) w e i = (ap (λ z. Value (given_of s z) s) (some_inj (Number (convert a c.to)) w e), subst (IsThere p) (some_inj (Number (convert a c.to)) w e) (record { in_range = tt }))
  converting-meets (Place v) (Some c) w e i = absurd (cc)

  converting-stuck : (left : Seen) (c : Option Conversion) → converted left c ≡ None → converting c (Value (given_of s left) s) ≡ Stuck
  converting-stuck left None e = absurd (cc)
  converting-stuck (Number a) (Some c) e = absurd (cc)
  converting-stuck (Place v) (Some c) e = refl

  abbrev right-of : TPart → State → Out Given
  right-of part u = eval t (with_types (form_of true p.types) (plain part.operand)) u

  -- an operation, with its parts named
  abbrev joining-as : Out Given → Option Conversion → ChainOp → Span → (State → Out Given) → Out Given
  joining-as g c q at right = then_do (converting c g) (λ a u. meaning.joined q a at right u)

  joins-as : (left : Seen) (part : TPart) (at : Span) (r : Result Seen Stop) → Meets h p o (joining-as (Value (given_of s left) s) part.left part.op at (right-of part)) r → Meets h p o (joins h p o left part at) r
  unfolding joins
  joins-as left part at r m = rw (part_is part) m

  given-meets : (x w : Seen) → x ≡ w → IsThere p x → Meets h p o (Value (given_of s x) s) (Ok w)
  unfolding Meets
  given-meets x w e i = (ap (λ z. Value (given_of s z) s) e, subst (IsThere p) e i)

  whole-is : (a b : Seen) → opening.Whole a ≡ opening.Whole b → a ≡ b
  whole-is a b e = cc

  right-is : (a b : Seen) → opening.Right a ≡ opening.Right b → a ≡ b
  right-is a b e = cc

  -- ---- the right operand isn't evaluated

  whole-joined : (q : ChainOp) (x w : Seen) (at : Span) (right : State → Out Given) → IsThere p x → (c : Option Bool) → truth_of x ≡ c → opened (Some x) q ≡ opening.Whole w → Meets h p o (meaning.joined q (given_of s x) at right s) (Ok w)
  whole-joined (chain.Strict q) x w at right i c e k = absurd (cc)
  whole-joined chain.Comma x w at right i c e k = absurd (cc)
  whole-joined chain.And x w at right i None e k = let f = rw e at k in absurd (cc)
  whole-joined chain.And x w at right i (Some true) e k = let f = rw e at k in absurd (cc)
  whole-joined chain.And x w at right i (Some false) e k = decided-meets x (right s) (Value (given_of s x) s) (Some false) (Ok w) e (given-meets x w (whole-is x w (rw e at k)) i)
  whole-joined chain.Or x w at right i None e k = let f = rw e at k in absurd (cc)
  whole-joined chain.Or x w at right i (Some true) e k = decided-meets x (Value (given_of s x) s) (right s) (Some true) (Ok w) e (given-meets x w (whole-is x w (rw e at k)) i)
  whole-joined chain.Or x w at right i (Some false) e k = let f = rw e at k in absurd (cc)

  pub joins_whole : (left : Seen) (part : TPart) (at : Span) (w : Seen) → IsThere p left → opened (converted left part.left) part.op ≡ opening.Whole w → Meets h p o (joins h p o left part at) (Ok w)
  joins_whole left part at w i k = joins-as left part at (Ok w) (by (converted left part.left) refl k)
    where
      by : (c : Option Seen) → converted left part.left ≡ c → opened c part.op ≡ opening.Whole w → Meets h p o (joining-as (Value (given_of s left) s) part.left part.op at (right-of part)) (Ok w)
      by None e f = absurd (cc)
      by (Some x) e f = let m = converting-meets left part.left x e i in after-meets _ x _ (Ok w) m (whole-joined part.op x w at (right-of part) (there-of _ x m) (truth_of x) refl f)

  -- ---- it is

  -- with what the right operand gives
  abbrev finished : ChainOp → Seen → Span → Result Seen Stop → Result Seen Stop
  finished q x at (Ok y) = closed q x y at
  finished q x at (Err e) = Err e

  joined-meets : (q : StrictOp) (x y : Seen) (at : Span) → Meets h p o (step at (operate q (given_of s x ∷ given_of s y ∷ [])) s) (joined q x y at)
  joined-meets q (Number a) (Number b) at = told-meets at (given q (a ∷ b ∷ []))
  joined-meets q (Number a) (Place v) at = stuck-meets
  joined-meets q (Place v) (Number b) at = stuck-meets
  joined-meets q (Place v) (Place w) at = stuck-meets

  strict-joined : (q : StrictOp) (x : Seen) (at : Span) (right : State → Out Given) (r : Result Seen Stop) → Meets h p o (right s) r → Meets h p o (then_do (right s) (λ b u. step at (operate q (given_of s x ∷ b ∷ [])) u)) (finished (chain.Strict q) x at r)
  strict-joined q x at right (Ok y) m = after-meets (right s) y _ (joined q x y at) m (joined-meets q x y at)
  strict-joined q x at right (Err e) m = after-stops (right s) e _ m

  same-end : (q : ChainOp) (x : Seen) (at : Span) (g : Out Given) (r : Result Seen Stop) → ((y : Seen) → closed q x y at ≡ Ok y) → Meets h p o g r → Meets h p o g (finished q x at r)
  same-end q x at g (Ok y) k m = subst (Meets h p o g) (sym (k y)) m
  same-end q x at g (Err e) k m = m

  right-joined : (q : ChainOp) (x w : Seen) (at : Span) (right : State → Out Given) (r : Result Seen Stop) → Meets h p o (right s) r → (c : Option Bool) → truth_of x ≡ c → opened (Some x) q ≡ opening.Right w → Meets h p o (meaning.joined q (given_of s x) at right s) (finished q w at r)
  right-joined (chain.Strict q) x w at right r m c e k = subst (λ z. Meets h p o (meaning.joined (chain.Strict q) (given_of s x) at right s) (finished (chain.Strict q) z at r)) (right-is x w k) (strict-joined q x at right r m)
  right-joined chain.Comma x w at right r m c e k = same-end chain.Comma w at (right s) r (λ y. refl) m
  right-joined chain.And x w at right r m None e k = let f = rw e at k in absurd (cc)
  right-joined chain.And x w at right r m (Some true) e k = decided-meets x (right s) (Value (given_of s x) s) (Some true) (finished chain.And w at r) e (same-end chain.And w at (right s) r (λ y. refl) m)
  right-joined chain.And x w at right r m (Some false) e k = let f = rw e at k in absurd (cc)
  right-joined chain.Or x w at right r m None e k = let f = rw e at k in absurd (cc)
  right-joined chain.Or x w at right r m (Some true) e k = let f = rw e at k in absurd (cc)
  right-joined chain.Or x w at right r m (Some false) e k = decided-meets x (Value (given_of s x) s) (right s) (Some false) (finished chain.Or w at r) e (same-end chain.Or w at (right s) r (λ y. refl) m)

  given-right : (part : TPart) (r : Result Seen Stop) → Meets h p o (gives h p o part.operand) r → Meets h p o (right-of part s) r
  unfolding gives
  given-right part r m = m

  joins-then : (left : Seen) (part : TPart) (at : Span) (w : Seen) (r : Result Seen Stop) → IsThere p left → opened (converted left part.left) part.op ≡ opening.Right w → Meets h p o (gives h p o part.operand) r → Meets h p o (joins h p o left part at) (finished part.op w at r)
  joins-then left part at w r i k m = joins-as left part at (finished part.op w at r) (by (converted left part.left) refl k)
    where
      by : (c : Option Seen) → converted left part.left ≡ c → opened c part.op ≡ opening.Right w → Meets h p o (joining-as (Value (given_of s left) s) part.left part.op at (right-of part)) (finished part.op w at r)
      by None e f = absurd (cc)
      by (Some x) e f = after-meets _ x _ (finished part.op w at r) (converting-meets left part.left x e i) (right-joined part.op x w at (right-of part) r (given-right part r m) (truth_of x) refl f)

  pub joins_right : (left : Seen) (part : TPart) (at : Span) (w y : Seen) → IsThere p left → opened (converted left part.left) part.op ≡ opening.Right w → Meets h p o (gives h p o part.operand) (Ok y) → Meets h p o (joins h p o left part at) (closed part.op w y at)
  joins_right left part at w y i k m = joins-then left part at w (Ok y) i k m

  pub right_stops : (left : Seen) (part : TPart) (at : Span) (w : Seen) (y : Stop) → IsThere p left → opened (converted left part.left) part.op ≡ opening.Right w → Meets h p o (gives h p o part.operand) (Err y) → Meets h p o (joins h p o left part at) (Err y)
  right_stops left part at w y i k m = joins-then left part at w (Err y) i k m

  -- ---- nothing comes of the left operand

  nothing-joined : (q : ChainOp) (x : Seen) (at : Span) (right : State → Out Given) (c : Option Bool) → truth_of x ≡ c → opened (Some x) q ≡ opening.Stuck → Meets h p o (meaning.joined q (given_of s x) at right s) (Err stop.Stuck)
  nothing-joined (chain.Strict q) x at right c e k = absurd (cc)
  nothing-joined chain.Comma x at right c e k = absurd (cc)
  nothing-joined chain.And x at right None e k = stuck-decided x (right s) (Value (given_of s x) s) e
  nothing-joined chain.And x at right (Some true) e k = let f = rw e at k in absurd (cc)
  nothing-joined chain.And x at right (Some false) e k = let f = rw e at k in absurd (cc)
  nothing-joined chain.Or x at right None e k = stuck-decided x (Value (given_of s x) s) (right s) e
  nothing-joined chain.Or x at right (Some true) e k = let f = rw e at k in absurd (cc)
  nothing-joined chain.Or x at right (Some false) e k = let f = rw e at k in absurd (cc)

  stuck-first : (g : Out Given) (k : Given → State → Out Given) → g ≡ Stuck → Meets h p o (then_do g k) (Err stop.Stuck)
  unfolding Meets
  stuck-first g k e = ap (λ z. then_do z k) e

  pub joins_nothing : (left : Seen) (part : TPart) (at : Span) → IsThere p left → opened (converted left part.left) part.op ≡ opening.Stuck → Meets h p o (joins h p o left part at) (Err stop.Stuck)
  joins_nothing left part at i k = joins-as left part at (Err stop.Stuck) (by (converted left part.left) refl k)
    where
      by : (c : Option Seen) → converted left part.left ≡ c → opened c part.op ≡ opening.Stuck → Meets h p o (joining-as (Value (given_of s left) s) part.left part.op at (right-of part)) (Err stop.Stuck)
      by None e f = stuck-first _ _ (converting-stuck left part.left e)
      by (Some x) e f = after-meets _ x _ (Err stop.Stuck) (converting-meets left part.left x e i) (nothing-joined part.op x at (right-of part) (truth_of x) refl f)

  -- ---- chains

  -- an operation after another
  pub chains_next : (left w : Seen) (r : TStep) (ss : List TStep) → Meets h p o (joins h p o left r.part r.span) (Ok w) → chains h p o left (r ∷ ss) ≡ chains h p o w ss
  unfolding Meets joins chains
  chains_next left w r ss m = rw (step_is r) (ap (λ g. chaining p g (map plain_step ss)) m.0)

  joining-stops : (g : Out Given) (j : Joined) (at : Span) (e : Stop) → Meets h p o g (Err e) → Meets h p o (joining p g j at) (Err e)
  joining-stops g j at e m = by j.left
    where
      by : (c : Option Conversion) → Meets h p o (joining-as g c j.op at (λ u. eval t (with_types (form_of true p.types) j.operand) u)) (Err e)
      by None = after-stops g e _ m
      by (Some c) = after-stops _ e _ (after-stops g e _ m)

  chaining-stops : (ss : List (Joined × Note TypeId)) (g : Out Given) (e : Stop) → Meets h p o g (Err e) → Meets h p o (chaining p g ss) (Err e)
  chaining-stops [] g e m = m
  chaining-stops (r ∷ ss) g e m = chaining-stops ss (joining p g r.0 r.1.span) e (joining-stops g r.0 r.1.span e m)

  pub chains_stop : (left : Seen) (e : Stop) (r : TStep) (ss : List TStep) → Meets h p o (joins h p o left r.part r.span) (Err e) → Meets h p o (chains h p o left (r ∷ ss)) (Err e)
  unfolding joins chains
  chains_stop left e r ss m = rw (step_is r) (chaining-stops (map plain_step ss) _ e m)

  pub chains_end : (left : Seen) → IsThere p left → Meets h p o (chains h p o left []) (Ok left)
  unfolding chains
  chains_end left i = given-meets left left refl i

  -- a whole chain
  chain-whole : (e x : TExpr) (ss : List TStep) (part : TPart) → e.node ≡ n.Chain x ss part → gives h p o e ≡ joining p (chaining p (gives h p o x) (map plain_step ss)) (plain_part part) e.span
  unfolding gives
  chain-whole e x ss part k = rw (chain_is p.types e x ss part k) (joining-is (tree_chained (plain x) (map plain_step ss)) (plain_part part) (own_note e) ∙ ap (λ g. joining p g (plain_part part) e.span) (chaining-is (map plain_step ss) (plain x) (eval t (with_types (form_of true p.types) (plain x)) s) refl))

  pub chain_first : (e x : TExpr) (ss : List TStep) (part : TPart) (y : Stop) → e.node ≡ n.Chain x ss part → Meets h p o (gives h p o x) (Err y) → Meets h p o (gives h p o e) (Err y)
  chain_first e x ss part y k m = rw (chain-whole e x ss part k) (joining-stops (chaining p (gives h p o x) (map plain_step ss)) (plain_part part) e.span y (chaining-stops (map plain_step ss) (gives h p o x) y m))

  -- behind a first operand that gives something
  chain-behind : (x : TExpr) (ss : List TStep) (l : Seen) → Meets h p o (gives h p o x) (Ok l) → chaining p (gives h p o x) (map plain_step ss) ≡ chains h p o l ss
  unfolding Meets chains
  chain-behind x ss l m = ap (λ g. chaining p g (map plain_step ss)) m.0

  pub chain_stops : (e x : TExpr) (ss : List TStep) (part : TPart) (l : Seen) (y : Stop) → e.node ≡ n.Chain x ss part → Meets h p o (gives h p o x) (Ok l) → Meets h p o (chains h p o l ss) (Err y) → Meets h p o (gives h p o e) (Err y)
  chain_stops e x ss part l y k m w = rw (chain-whole e x ss part k, chain-behind x ss l m) (joining-stops (chains h p o l ss) (plain_part part) e.span y w)

  last-joined : (g : Out Given) (w : Seen) (part : TPart) (at : Span) (r : Result Seen Stop) → Meets h p o g (Ok w) → Meets h p o (joins h p o w part at) r → Meets h p o (joining p g (plain_part part) at) r
  unfolding Meets joins
  last-joined g w part at r m j = subst (λ z. Meets h p o (joining p z (plain_part part) at) r) (sym m.0) j

  pub chain_last : (e x : TExpr) (ss : List TStep) (part : TPart) (l w : Seen) (r : Result Seen Stop) → e.node ≡ n.Chain x ss part → Meets h p o (gives h p o x) (Ok l) → Meets h p o (chains h p o l ss) (Ok w) → Meets h p o (joins h p o w part e.span) r → Meets h p o (gives h p o e) r
  chain_last e x ss part l w r k m c j = rw (chain-whole e x ss part k, chain-behind x ss l m) (last-joined (chains h p o l ss) w part e.span r c j)

pub is_there : (h : Holding) (p : Rows) (o : Option VarId) (g : Out Given) (y : Seen) → Meets h p o g (Ok y) → IsThere p y
is_there h p o g y m = there-of h p o g y m
