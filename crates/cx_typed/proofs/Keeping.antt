-- Judgements of what is well typed never get stuck, and what is kept stays of the program.
use Rattle.std.proofs.Common.{◌≡◌, ◌≢◌, ℕ, zero, suc, ◌==◌, Bool, true, false, List, [], ◌∷◌, ◌++◌, length, Option, None, Some, Ok, Err, refl, sym, ap, subst, ◌∙◌, slice_get, if◌then◌else◌, eqb-true}
use Rattle.std.specs.List.{AllByRecursion}
use Rattle.cx_base.specs.declared.diag.Span.{Span}
use Rattle.cx_base.specs.declared.rule.Rule.{Rule}
use Rattle.cx_base.specs.declared.rule.Rule.TheVariants as rule
use Rattle.cx_base.specs.declared.limits.Limits.{Limits}
use Rattle.cx_base.specs.declared.int_type.IntType.{IntType}
use Rattle.cx_ints.specs.declared.int.Int.{Int as Number}
use Rattle.cx_ints.specs.Ranges.{Fits}
use Rattle.cx_ints.specs.Operations.{IsOf}
use Rattle.cx_type_defs.specs.declared.ids.VarId.{VarId}
use Rattle.cx_type_defs.specs.Tables.{Tables, changed_at, Stays}
use Rattle.cx_type_defs.specs.Same.{Form}
use Rattle.cx_type_defs.proofs.Lists.{slice_get-last, slice_get-changed_same, slice_get-within, within-slice_get, All-at, some_inj, Along-at, Along-same, Along-then, Along-more}
use Rattle.cx_type_defs.proofs.Looking.{Stays-same, Stays-then}
use Rattle.cx_type_defs.proofs.Growing.{Along-changed}
use Rattle.std.specs.Prelude.{option_map}
use Rattle.cx_typed.proofs.Growth.{well_more}
use Rattle.cx_state.specs.declared.kind.Scalar.{Scalar}
use Rattle.cx_state.specs.declared.kind.Scalar.TheVariants as scalar
use Rattle.cx_state.specs.declared.kind.Birth.TheVariants as birth
use Rattle.cx_state.specs.declared.root.JudgeMode.{JudgeMode}
use Rattle.cx_state.specs.declared.root.JudgeMode.TheVariants as mode
use Rattle.cx_state.specs.Objects.{Path, Tree, Leaf, Row, Class, Union, Active, Object, Objects, at as tree_at}
use Rattle.cx_state.specs.Conditions.{is_opaque}
use Rattle.cx_state.specs.Counts as counts
use Rattle.cx_state.specs.States.{Allocation, State, Out, Value, Violation, Stuck, then_do, step}
use Rattle.cx_typed.specs.declared.judge.Value.{Value as Val}
use Rattle.cx_typed.specs.declared.judge.Value.TheVariants as value
use Rattle.cx_typed.specs.declared.judge.KeptValue.{KeptValue}
use Rattle.cx_typed.specs.declared.judge.Outcome.{Outcome}
use Rattle.cx_typed.specs.declared.judge.Outcome.TheVariants as outcome
use Rattle.cx_typed.specs.Trees.{Note, Tx, Var, Body, OfExpr, OfVariable, FullTree, note_of}
use Rattle.cx_typed.specs.Well.{int_of, types_of, IsNumber, WellTyped, InitFits, VarFits, AllFit, BodyFits, VarGrows, Grows, MayInitialize, MayInitializeAs}
use Rattle.cx_typed.specs.Meaning.{Given, Prvalue, Lvalue, whole, eval}
use Rattle.cx_typed.specs.Judging.{Kept, kept_at, keeping, keeping_as, kept_after, KeptFit, IsOfVar, birth_of, tables_of, request, start_memory, setting, initialize, held, as_tree, evaluated, freed, outcome_of, judged}
use Rattle.cx_typed.proofs.Stuck.{Numbered, Loads, StandsFor, Stands, GivesAt, Fitting, IsGiven, as-given, fits}
use Rattle.cx_typed.specs.Bodies.{fresh, began, number_of, read_of, reads, IsIntVar}
use Rattle.cx_typed.proofs.Start.{ready_reads, empty, fresh_is}
use Rattle.cx_typed.proofs.Judgements.{may_begin, of_expr, of_var}

-- ---- where a body is evaluated, each variable stands for an object of its type

type-at : (vs : List Var) (n : ℕ) (f : Form) → slice_get (types_of vs) n ≡ Some f → (d : Var) × (slice_get vs n ≡ Some d) × (d.ty ≡ f)
type-at [] n f h = absurd (cc)
type-at (v ∷ vs) zero f h = (v, refl, some_inj v.ty f h)
type-at (v ∷ vs) (suc n) f h = type-at vs n f h

kept-fit-at : (vs : List Var) (ks : Kept) (v : VarId) (k : KeptValue) → AllByRecursion (λ (e : VarId × KeptValue). IsOfVar (slice_get vs e.0.0) e.1.value) ks → kept_at ks v ≡ Some k → IsOfVar (slice_get vs v.0) k.value
kept-fit-at vs [] v k h e = absurd (cc)
kept-fit-at vs (x ∷ ks) v k h e = by (v.0 == x.0.0) refl e (kept-fit-at vs ks v k h.1)
  where
    by : (b : Bool) → (v.0 == x.0.0) ≡ b → (if b then Some x.1 else kept_at ks v) ≡ Some k → (kept_at ks v ≡ Some k → IsOfVar (slice_get vs v.0) k.value) → IsOfVar (slice_get vs v.0) k.value
    by true q i go = subst (λ n. IsOfVar (slice_get vs n) k.value) (sym (eqb-true v.0 x.0.0 q)) (subst (λ (y : KeptValue). IsOfVar (slice_get vs x.0.0) y.value) (some_inj x.1 k i) h.0)
    by false q i go = go i

of-var-numbered : (o : Option Var) (d : Var) (ty : IntType) (x : Val) → o ≡ Some d → int_of d.ty ≡ Some ty → IsOfVar o x → Numbered ty (number_of x)
of-var-numbered None d ty x e h w = absurd w
of-var-numbered (Some c) d ty (value.Int a) e h w =
    let same : a.ty ≡ ty = some_inj a.ty ty (sym w.0 ∙ ap (λ (z : Var). int_of z.ty) (some_inj c d e) ∙ h) in
    (same, subst (λ u. Fits u a.value) same w.1)

read-loads : (ty : IntType) (o : Option KeptValue) → ((k : KeptValue) → o ≡ Some k → Numbered ty (number_of k.value)) → Loads (Some ty) (read_of o)
read-loads ty None h = tt
read-loads ty (Some k) h = by (is_opaque k.birth)
  where
    by : (b : Bool) → Loads (Some ty) (if b then Err rule.NotUsable else Ok (number_of k.value))
    by true = tt
    by false = h k refl

reads-loads : (ty : IntType) (ks : Kept) (o : Option VarId) (v : VarId) → Loads (Some ty) (read_of (kept_at ks v)) → Loads (Some ty) (reads ks o v)
reads-loads ty ks None v h = h
reads-loads ty ks (Some j) v h = by (j.0 == v.0)
  where
    by : (b : Bool) → Loads (Some ty) (if b then Err rule.Indeterminate else read_of (kept_at ks v))
    by true = tt
    by false = h

module _ (vs : List Var) (l : Limits) (ks : Kept) (all : AllFit vs) (kept : KeptFit vs ks) where
  stands : (o : Option VarId) → IsIntVar vs o → Stands (tables_of vs) (types_of vs) (began vs l ks o).memory
  stands o i v f h =
      let d = type-at vs v.0 f h in
      let w : VarFits (types_of vs) d.0 = All-at (VarFits (types_of vs)) vs all.each v.0 d.0 d.1 in
      let is : int_of f ≡ Some w.ty = ap int_of (sym d.2) ∙ w.of_type in
      let q = ready_reads vs ks o i v (within-slice_get vs v.0 d.0 d.1) in
      let n : (k : KeptValue) → kept_at ks v ≡ Some k → Numbered w.ty (number_of k.value) = λ k e. of-var-numbered (slice_get vs v.0) d.0 w.ty k.value d.1 w.of_type (kept-fit-at vs ks v k kept.each e) in
      let loads : Loads (Some w.ty) (reads ks o v) = reads-loads w.ty ks o v (read-loads w.ty (kept_at ks v) n) in
      subst (StandsFor (tables_of vs) (began vs l ks o).memory f) (sym q.is_bound)
      (subst (λ r. Loads (int_of f) r) (sym q.gives) (subst (λ z. Loads z (reads ks o v)) (sym is) loads))

  body-fits : (o : Option VarId) → IsIntVar vs o → (x : Tx Form) → WellTyped (types_of vs) x → Fitting (tables_of vs) (began vs l ks o) (note_of x) (eval (tables_of vs) x (began vs l ks o))
  body-fits o i x w = fits (tables_of vs) (began vs l ks o) (types_of vs) (stands o i) x w

-- ---- how the evaluation of a body ends: with a number of the type, or without a value, or with a broken rule

abbrev pub Ends : (Number → Type 0) → Out Tree → Type 0
Ends P (Value (Leaf (scalar.Int a)) s) = P a
Ends P (Value (Leaf scalar.Indeterminate) s) = Unit {0}
Ends P (Value _ s) = ⊥
Ends P (Violation r at s) = Unit {0}
Ends P Stuck = ⊥

ends-not-stuck : (P : Number → Type 0) (o : Out Tree) → Ends P o → o ≢ Stuck
ends-not-stuck P (Value x s) h e = absurd (cc)
ends-not-stuck P (Violation r at s) h e = absurd (cc)
ends-not-stuck P Stuck h e = h

-- a number of some integer type
abbrev AnyNumber : Number → Type 0
AnyNumber a = Unit {0}

expr-ends : (t : Tables) (s : State) (i : Note Form) (o : Out Given) → i.lvalue ≡ false → Fitting t s i o → Ends AnyNumber (then_do o as_tree)
expr-ends t s i (Value (Prvalue v) u) l f = by v (subst (λ b. GivesAt t s i b (Prvalue v)) l f.1)
  where
    by : (w : Scalar Path) → GivesAt t s i false (Prvalue w) → Ends AnyNumber (Value (Leaf w) u)
    by (scalar.Int a) h = tt
    by scalar.Null h = absurd h.2
    by (scalar.Place p) h = absurd h.2
    by scalar.Indeterminate h = tt
expr-ends t s i (Value (Lvalue p) u) l f = absurd (subst (λ b. GivesAt t s i b (Lvalue p)) l f.1)
expr-ends t s i (Violation r at u) l f = tt
expr-ends t s i Stuck l f = absurd f

module _ (vs : List Var) (l : Limits) (ks : Kept) (md : JudgeMode) (at : Span) (all : AllFit vs) (kept : KeptFit vs ks) where
  expr-evaluated : (x : Tx Form) → WellTyped (types_of vs) x → (note_of x).lvalue ≡ false → Ends AnyNumber (evaluated vs l ks (of_expr x at) md)
  expr-evaluated x w p = by (may_begin l) refl
    where
      by : (b : Bool) → may_begin l ≡ b → Ends AnyNumber (evaluated vs l ks (of_expr x at) md)
      by false h = rw h tt
      by true h = rw h (expr-ends (tables_of vs) (began vs l ks None) (note_of x) (eval (tables_of vs) x (began vs l ks None)) p (body-fits vs l ks all kept None tt x w))

  module _ (v : VarId) (d : Var) (there : slice_get vs v.0 ≡ Some d) (w : VarFits (types_of vs) d) where
    abbrev made : Objects
    made = (start_memory vs ks).objects ++ fresh (tables_of vs) v ∷ []

    abbrev number : ℕ
    number = length (start_memory vs ks).objects

    last : slice_get made number ≡ Some (empty v)
    last = slice_get-last (start_memory vs ks).objects (fresh (tables_of vs) v) ∙ ap Some (fresh_is vs v d w.ty there w.of_type)

    abbrev with_number : Number → Object → Object
    with_number a o = record o { tree = Leaf (scalar.Int a) }

    after : (a : Number) → slice_get (changed_at (with_number a) made number) number ≡ Some (with_number a (empty v))
    after a = slice_get-changed_same (with_number a) made number (empty v) last

    abbrev finished : Out Given → Out Tree
    finished o = then_do (then_do o (λ a u. step at (initialize (tables_of vs) number a) u)) (λ _ b. held (tree_at b.memory.objects (whole number)) b)

    given-ends : (g : Given) → IsGiven (tables_of vs) (began vs l ks (Some v)) w.ty g → Ends (IsOf w.ty) (finished (Value g (began vs l ks (Some v))))
    given-ends g i = subst (λ z. Ends (IsOf w.ty) (finished (Value z (began vs l ks (Some v))))) (sym i.is_number) (rw (last, after i.number) i.is_of)

    init-ends : (x : Tx Form) (o : Out Given) → IsNumber w.ty (note_of x) → Fitting (tables_of vs) (began vs l ks (Some v)) (note_of x) o → Ends (IsOf w.ty) (finished o)
    init-ends x (Value g u) n f = subst (λ z. Ends (IsOf w.ty) (finished (Value g z))) (sym f.0) (given-ends g (as-given (tables_of vs) (began vs l ks (Some v)) (note_of x) w.ty g n f.1))
    init-ends x (Violation r q u) n f = tt
    init-ends x Stuck n f = absurd f

    abbrev passed : Option Rule
    passed = counts.passed_limit (tables_of vs) (setting vs l ks md).limits (start_memory vs ks).objects (request v birth.Here)

    begun-ends : (x : Tx Form) → d.init ≡ Some x → passed ≡ None → InitFits (types_of vs) w.ty (Some x) → (b : Bool) → may_begin l ≡ b → Ends (IsOf w.ty) (evaluated vs l ks (of_var v at) md)
    begun-ends x i p f false h = rw (there, p, i, h) tt
    begun-ends x i p f true h = rw (there, p, i, h) (init-ends x (eval (tables_of vs) x (began vs l ks (Some v))) f.1 (body-fits vs l ks all kept (Some v) (d, w.ty, there, w.of_type) x f.0))

    made-ends : passed ≡ None → (o : Option (Tx Form)) → d.init ≡ o → InitFits (types_of vs) w.ty o → Ends (IsOf w.ty) (evaluated vs l ks (of_var v at) md)
    made-ends p None i f = rw (there, p, i, last) tt
    made-ends p (Some x) i f = begun-ends x i p f (may_begin l) refl

    var-evaluated : (o : Option Rule) → passed ≡ o → Ends (IsOf w.ty) (evaluated vs l ks (of_var v at) md)
    var-evaluated (Some r) h = rw (there, h) tt
    var-evaluated None h = made-ends h d.init refl w.init

-- ---- the laws

ends-more : (P Q : Number → Type 0) → ((a : Number) → P a → Q a) → (o : Out Tree) → Ends P o → Ends Q o
ends-more P Q go (Value (Leaf (scalar.Int a)) s) h = go a h
ends-more P Q go (Value (Leaf scalar.Indeterminate) s) h = tt
ends-more P Q go (Value (Leaf scalar.Null) s) h = absurd h
ends-more P Q go (Value (Leaf (scalar.Place p)) s) h = absurd h
ends-more P Q go (Value (Row xs) s) h = absurd h
ends-more P Q go (Value (Class p bs ms) s) h = absurd h
ends-more P Q go (Value Union s) h = absurd h
ends-more P Q go (Value (Active m x) s) h = absurd h
ends-more P Q go (Violation r at s) h = tt
ends-more P Q go Stuck h = absurd h

fit-at : (vs : List Var) → AllFit vs → (v : VarId) (d : Var) → slice_get vs v.0 ≡ Some d → VarFits (types_of vs) d
fit-at vs all v d h = All-at (VarFits (types_of vs)) vs all.each v.0 d h

pub never_stuck : (vs : List Var) (l : Limits) (ks : Kept) (f : FullTree) (md : JudgeMode) → AllFit vs → KeptFit vs ks → BodyFits vs f.body → evaluated vs l ks f md ≢ Stuck
never_stuck vs l ks f md all kept = by f.body
  where
    by : (b : Body) → BodyFits vs b → evaluated vs l ks (record { body = b; span = f.span }) md ≢ Stuck
    by (OfExpr x) h = ends-not-stuck AnyNumber _ (expr-evaluated vs l ks md f.span all kept x h.0 h.1)
    by (OfVariable v) h =
        let d = slice_get-within vs v.0 h in
        let w = fit-at vs all v d.0 d.1 in
        ends-not-stuck (IsOf w.ty) _ (var-evaluated vs l ks md f.span all kept v d.0 d.1 w _ refl)

abbrev IsGood : (Number → Type 0) → Outcome → Type 0
IsGood P (outcome.Value (value.Int a)) = P a
IsGood P (outcome.Violation d) = Unit {0}

freed-good : (P : Number → Type 0) (at : Span) (more : List Allocation) (a : Number) → P a → IsGood P (freed at more (Leaf (scalar.Int a)))
freed-good P at [] a h = h
freed-good P at (x ∷ more) a h = tt

freed-open : (P : Number → Type 0) (at : Span) (more : List Allocation) → IsGood P (freed at more (Leaf scalar.Indeterminate))
freed-open P at [] = tt
freed-open P at (x ∷ more) = tt

good-outcome : (P : Number → Type 0) (at : Span) (o : Out Tree) → Ends P o → IsGood P (outcome_of at o)
good-outcome P at (Value (Leaf (scalar.Int a)) s) h = freed-good P at s.memory.allocations a h
good-outcome P at (Value (Leaf scalar.Indeterminate) s) h = freed-open P at s.memory.allocations
good-outcome P at (Value (Leaf scalar.Null) s) h = absurd h
good-outcome P at (Value (Leaf (scalar.Place p)) s) h = absurd h
good-outcome P at (Value (Row xs) s) h = absurd h
good-outcome P at (Value (Class p bs ms) s) h = absurd h
good-outcome P at (Value Union s) h = absurd h
good-outcome P at (Value (Active m x) s) h = absurd h
good-outcome P at (Violation r w s) h = tt
good-outcome P at Stuck h = absurd h

-- what is kept fits, one variable more

abbrev IsKeptIn : List Var → VarId × KeptValue → Type 0
IsKeptIn vs e = IsOfVar (slice_get vs e.0.0) e.1.value

keeping-fits : (vs : List Var) (ks : Kept) (v : VarId) (k : KeptValue) → AllByRecursion (IsKeptIn vs) ks → IsKeptIn vs (v, k) → AllByRecursion (IsKeptIn vs) (keeping ks v k)
keeping-fits vs [] v k h i = (i, tt)
keeping-fits vs (e ∷ ks) v k h i = by (v.0 == e.0.0) refl (keeping-fits vs ks v k h.1 i)
  where
    by : (b : Bool) → (v.0 == e.0.0) ≡ b → AllByRecursion (IsKeptIn vs) (keeping ks v k) → AllByRecursion (IsKeptIn vs) (if b then (e.0, k) ∷ ks else e ∷ keeping ks v k)
    by true q go = (subst (λ n. IsOfVar (slice_get vs n) k.value) (eqb-true v.0 e.0.0 q) i, h.1)
    by false q go = (h.0, go)

kept-as-fits : (vs : List Var) (ks : Kept) (v : VarId) (d : Var) (ty : IntType) (o : Option Var) (a : Number) → slice_get vs v.0 ≡ Some d → o ≡ Some d → int_of d.ty ≡ Some ty → IsOf ty a → KeptFit vs ks → KeptFit vs (keeping_as ks v o (value.Int a))
kept-as-fits vs ks v d ty None a at e h w k = absurd (cc)
kept-as-fits vs ks v d ty (Some c) a at e h w k =
    let is : IsOfVar (Some d) (value.Int a) = (h ∙ ap Some (sym w.0), subst (λ u. Fits u a.value) (sym w.0) w.1) in
    record { each = keeping-fits vs ks v (record { value = value.Int a; birth = birth_of c }) k.each (subst (λ o. IsOfVar o (value.Int a)) (sym at) is) }

outcome-keeps : (vs : List Var) (ks : Kept) (md : JudgeMode) (v : VarId) (d : Var) (ty : IntType) (o : Outcome) → slice_get vs v.0 ≡ Some d → int_of d.ty ≡ Some ty → IsGood (IsOf ty) o → KeptFit vs ks → KeptFit vs (kept_after vs ks md (OfVariable v) o)
outcome-keeps vs ks mode.Keep v d ty (outcome.Value (value.Int a)) at h g k = kept-as-fits vs ks v d ty (slice_get vs v.0) a at at h g k
outcome-keeps vs ks mode.Keep v d ty (outcome.Violation x) at h g k = k
outcome-keeps vs ks mode.Constant v d ty o at h g k = k
outcome-keeps vs ks mode.Narrow v d ty o at h g k = k

expr-keeps : (vs : List Var) (ks : Kept) (md : JudgeMode) (x : Tx Form) (o : Outcome) → KeptFit vs ks → KeptFit vs (kept_after vs ks md (OfExpr x) o)
expr-keeps vs ks mode.Keep x o k = k
expr-keeps vs ks mode.Constant x o k = k
expr-keeps vs ks mode.Narrow x o k = k

pub judged_keeps : (vs : List Var) (l : Limits) (ks : Kept) (f : FullTree) (md : JudgeMode) → AllFit vs → KeptFit vs ks → BodyFits vs f.body → KeptFit vs (judged vs l ks f md).1
judged_keeps vs l ks f md all kept = by f.body
  where
    by : (b : Body) → BodyFits vs b → KeptFit vs (judged vs l ks (record { body = b; span = f.span }) md).1
    by (OfExpr x) h = expr-keeps vs ks md x _ kept
    by (OfVariable v) h =
        let d = slice_get-within vs v.0 h in
        let w = fit-at vs all v d.0 d.1 in
        outcome-keeps vs ks md v d.0 w.ty _ d.1 w.of_type (good-outcome (IsOf w.ty) f.span _ (var-evaluated vs l ks md f.span all kept v d.0 d.1 w _ refl)) kept

-- ---- where the program grows

var-grown : (a b : Var) (x : Val) → VarGrows a b → IsOfVar (Some a) x → IsOfVar (Some b) x
var-grown a b (value.Int n) g h = (ap int_of g.same_type ∙ h.0, h.1)

of-grown : (p q : List Var) → Grows p q → (n : ℕ) (x : Val) → IsOfVar (slice_get p n) x → IsOfVar (slice_get q n) x
of-grown p q g n x h = by (slice_get p n) refl h
  where
    by : (o : Option Var) → slice_get p n ≡ o → IsOfVar o x → IsOfVar (slice_get q n) x
    by None e w = absurd w
    by (Some a) e w = let b = Along-at VarGrows p q g.variables n a e in subst (λ o. IsOfVar o x) (sym b.1) (var-grown a b.0 x b.2 w)

all-grown : (p q : List Var) → Grows p q → (ks : Kept) → AllByRecursion (IsKeptIn p) ks → AllByRecursion (IsKeptIn q) ks
all-grown p q g [] h = tt
all-grown p q g (k ∷ ks) h = (of-grown p q g k.0.0 k.1.value h.0, all-grown p q g ks h.1)

pub kept_grown : (p q : List Var) → Grows p q → (ks : Kept) → KeptFit p ks → KeptFit q ks
kept_grown p q g ks h = record { each = all-grown p q g ks h.each }

-- ---- growth is an order, and calls on programs make them grow

var-same : (v : Var) → VarGrows v v
var-same v = record { same_name = refl; same_type = refl; same_place = refl; same_specifier = refl; init_stays = Stays-same v.init }

var-then : (a b c : Var) → VarGrows a b → VarGrows b c → VarGrows a c
var-then a b c g h = record { same_name = h.same_name ∙ g.same_name; same_type = h.same_type ∙ g.same_type; same_place = h.same_place ∙ g.same_place; same_specifier = h.same_specifier ∙ g.same_specifier; init_stays = Stays-then a.init b.init c.init g.init_stays h.init_stays }

pub grows_same : (p : List Var) → Grows p p
grows_same p = record { variables = Along-same VarGrows var-same p }

pub grows_then : (p q r : List Var) → Grows p q → Grows q r → Grows p r
grows_then p q r g h = record { variables = Along-then VarGrows var-then p q r g.variables h.variables }

pub grows_declared : (p : List Var) (v : Var) → Grows p (p ++ v ∷ [])
grows_declared p v = record { variables = Along-more VarGrows var-same p (v ∷ []) }

initialized-grows : (v : Var) (x : Tx Form) → v.init ≡ None → VarGrows v (record v { init = Some x })
initialized-grows v x h = record { same_name = refl; same_type = refl; same_place = refl; same_specifier = refl; init_stays = by v.init h }
  where
    by : (o : Option (Tx Form)) → o ≡ None → Stays o (Some x)
    by None e = tt
    by (Some y) e = absurd (cc)

pub grows_initialized : (p : List Var) (v : VarId) (x : Tx Form) → MayInitialize p v x → Grows p (changed_at (λ (w : Var). record w { init = Some x }) p v.0)
grows_initialized p v x m = record { variables = Along-changed VarGrows var-same (λ (w : Var). record w { init = Some x }) p v.0 (λ w at. initialized-grows w x (subst (λ o. MayInitializeAs (types_of p) o x) at m).0) }

types-grown : (p q : List Var) → Grows p q → (n : ℕ) (f : Form) → slice_get (types_of p) n ≡ Some f → slice_get (types_of q) n ≡ Some f
types-grown p q g n f h =
    let a = type-at p n f h in
    let b = Along-at VarGrows p q g.variables n a.0 a.1 in
    type-of q n b.0 b.1 ∙ ap Some (b.2.same_type ∙ a.2)
  where
    type-of : (vs : List Var) (m : ℕ) (v : Var) → slice_get vs m ≡ Some v → slice_get (types_of vs) m ≡ Some v.ty
    type-of [] m v e = absurd (cc)
    type-of (w ∷ vs) zero v e = ap (λ (o : Option Var). option_map (λ (z : Var). z.ty) o) e
    type-of (w ∷ vs) (suc m) v e = type-of vs m v e

pub well_grown : (p q : List Var) → Grows p q → (x : Tx Form) → WellTyped (types_of p) x → WellTyped (types_of q) x
well_grown p q g x w = well_more (types_of p) (types_of q) (types-grown p q g) x w
