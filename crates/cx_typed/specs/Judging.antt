-- Judgements of constants ([expr.const], [dcl.constexpr]).
use Rattle.std.specs.Prelude.{◌≡◌, ℕ, suc, ◌+◌, ◌==◌, Bool, true, false, ◌||◌, List, [], ◌∷◌, ◌++◌, length, map, Option, None, Some, slice_get, is_some, if◌then◌else◌}
use Rattle.std.specs.List.{AllByRecursion}
use Rattle.cx_base.specs.declared.diag.Span.{Span}
use Rattle.cx_base.specs.declared.diag.Frame.{Frame}
use Rattle.cx_base.specs.declared.rule.Rule.{Rule}
use Rattle.cx_base.specs.declared.rule.Rule.TheVariants as rule
use Rattle.cx_ints.specs.Ranges.{Fits}
use Rattle.cx_base.specs.declared.limits.Limits.{Limits}
use Rattle.cx_type_defs.specs.declared.ids.TypeId.{TypeId}
use Rattle.cx_type_defs.specs.declared.ids.VarId.{VarId}
use Rattle.cx_type_defs.specs.declared.kind.TypeRow.{TypeRow}
use Rattle.cx_type_defs.specs.declared.kind.TypeKind.TheVariants as kind
use Rattle.cx_type_defs.specs.Tables.{Tables}
use Rattle.cx_type_defs.specs.Same.{Form, Int, Const}
use Rattle.cx_state.specs.declared.kind.Kind.TheVariants as made
use Rattle.cx_state.specs.declared.kind.Birth.{Birth}
use Rattle.cx_state.specs.declared.kind.Birth.TheVariants as birth
use Rattle.cx_state.specs.declared.kind.Scalar.TheVariants as scalar
use Rattle.cx_state.specs.declared.root.Root.{Root}
use Rattle.cx_state.specs.declared.root.Root.TheVariants as root
use Rattle.cx_state.specs.declared.root.JudgeMode.{JudgeMode}
use Rattle.cx_state.specs.declared.root.JudgeMode.TheVariants as mode
use Rattle.cx_state.specs.Objects.{Tree, Leaf, Object, at as tree_at}
use Rattle.cx_state.specs.Steps as steps
use Rattle.cx_state.specs.Counts as counts
use Rattle.cx_state.specs.States.{Memory, Allocation, State, Setting, Out, Value, Violation, Stuck, then_do, Op, Wrong, step, bind, changes}
use Rattle.cx_typed.specs.declared.judge.Value.{Value as Val}
use Rattle.cx_typed.specs.declared.judge.Value.TheVariants as value
use Rattle.cx_typed.specs.declared.judge.KeptValue.{KeptValue}
use Rattle.cx_typed.specs.declared.judge.Outcome.{Outcome}
use Rattle.cx_typed.specs.declared.judge.Outcome.TheVariants as outcome
use Rattle.cx_typed.specs.Trees.{Tx, Var, Body, OfExpr, OfVariable, FullTree}
use Rattle.cx_typed.specs.Well.{int_of}
use Rattle.cx_typed.specs.Meaning.{Given, Prvalue, Lvalue, whole, full}

-- ---- what is kept: variables, each with its value

abbrev pub Kept : Type 0
Kept = List (VarId × KeptValue)

abbrev pub kept_at : Kept → VarId → Option KeptValue
kept_at [] v = None
kept_at (k ∷ ks) v = if v.0 == k.0.0 then Some k.1 else kept_at ks v

-- with one variable more, or with a new value for it
abbrev pub keeping : Kept → VarId → KeptValue → Kept
keeping [] v x = (v, x) ∷ []
keeping (k ∷ ks) v x = if v.0 == k.0.0 then (k.0, x) ∷ ks else k ∷ keeping ks v x

-- ---- where a judgement starts

-- Objects are made of types of tables. Here each variable's type has the variable's number, so nothing depends on the
-- numbers that types have elsewhere.
abbrev pub row_of : Form → TypeRow
row_of (Int ty) = record { kind = kind.Int ty; konst = false }
row_of (Const f) = record { kind = (row_of f).kind; konst = true }
row_of _ = record { kind = kind.Void; konst = false }

abbrev pub tables_of : List Var → Tables
tables_of vs = record { rows = map (λ (v : Var). row_of v.ty) vs; classes = []; enums = [] }

abbrev pub type_of : VarId → TypeId
type_of v = record { 0 = v.0 }

abbrev pub tree_of : Val → Tree
tree_of (value.Int a) = Leaf (scalar.Int a)

-- the object of what is kept, which counts
abbrev pub kept_object : VarId × KeptValue → Object
kept_object k = record { ty = type_of k.0; count = None; kind = made.Static; konst = false; birth = k.1.birth; released = false; counted = true; tree = tree_of k.1.value }

abbrev pub request : VarId → Birth → counts.Request
request v b = record { ty = type_of v; count = None; kind = made.Static; konst = false; birth = b }

-- an object that has only an address, for every variable from a number on
abbrev pub addresses : Tables → ℕ → List Var → List (Root × Object)
addresses t n [] = []
addresses t n (v ∷ vs) = (root.Variable (record { 0 = n }), counts.new_object t (request (record { 0 = n }) birth.Opaque)) ∷ addresses t (suc n) vs

-- What there is at first: what is kept, and an address for each variable. The name of a kept variable stands for what is
-- kept of it, which comes first.
abbrev pub named : List Var → Kept → List (Root × Object)
named vs ks = map (λ (k : VarId × KeptValue). (root.Variable k.0, kept_object k)) ks ++ addresses (tables_of vs) 0 vs

abbrev pub numbered : ℕ → List (Root × Object) → List (Root × ℕ)
numbered n [] = []
numbered n (x ∷ xs) = (x.0, n) ∷ numbered (suc n) xs

abbrev pub start_memory : List Var → Kept → Memory
start_memory vs ks = record { objects = map (λ (x : Root × Object). x.1) (named vs ks); bindings = numbered 0 (named vs ks); frames = []; allocations = []; exprs = 0 }

abbrev pub start : List Var → Limits → Kept → State
start vs limits ks = record { memory = start_memory vs ks; left = limits.turns }

-- the limit of objects counts those that are made from here on
abbrev pub setting : List Var → Limits → Kept → JudgeMode → Setting
setting vs limits ks md = record { limits = record limits { objects = length (named vs ks) + limits.objects }; mode = md }

-- ---- evaluating

-- an expression gives a number
abbrev pub as_tree : Given → State → Out Tree
as_tree (Prvalue v) s = Value (Leaf v) s
as_tree (Lvalue p) s = Stuck

-- a new object for the variable, by its name
abbrev pub make : Setting → Tables → VarId → Span → State → Out ℕ
make g t v name s =
    then_do (step name (changes (λ os. counts.make t g.limits os (request v birth.Here))) s) (λ _ a.
    then_do (step name (bind (root.Variable v) (length s.memory.objects)) a) (λ _ b. Value (length s.memory.objects) b))

abbrev pub initialize : Tables → ℕ → Given → Memory → Op (Unit {0})
initialize t n (Prvalue v) m = changes (λ os. steps.init t os (whole n) v) m
initialize t n (Lvalue p) m = Wrong

-- its first value, if an initializer is written
abbrev pub initialized : Setting → Tables → ℕ → Option (Tx Form) → Span → State → Out (Unit {0})
initialized g t n None at s = Value tt s
initialized g t n (Some x) at s = then_do (full g t x at s) (λ a u. step at (initialize t n a) u)

abbrev pub held : Option Tree → State → Out Tree
held None s = Stuck
held (Some x) s = Value x s

-- what the object holds then
abbrev pub of_variable : Setting → Tables → VarId → Option Var → Span → State → Out Tree
of_variable g t v None at s = Stuck
of_variable g t v (Some d) at s =
    then_do (make g t v d.at s) (λ n a. then_do (initialized g t n d.init at a) (λ _ b. held (tree_at b.memory.objects (whole n)) b))

abbrev pub of_body : List Var → Setting → Body → Span → State → Out Tree
of_body vs g (OfExpr x) at s = then_do (full g (tables_of vs) x at s) as_tree
of_body vs g (OfVariable v) at s = of_variable g (tables_of vs) v (slice_get vs v.0) at s

abbrev pub evaluated : List Var → Limits → Kept → FullTree → JudgeMode → Out Tree
evaluated vs limits ks f md = of_body vs (setting vs limits ks md) f.body f.span (start vs limits ks)

-- ---- the outcome

abbrev pub violated : Rule → Span → List Frame → Outcome
violated r at fs = outcome.Violation (record { rule = r; span = at; frames = fs })

-- the result, unless it is indeterminate
abbrev pub result_of : Span → Tree → Outcome
result_of at (Leaf (scalar.Int a)) = outcome.Value (value.Int a)
result_of at _ = violated rule.ResultIndeterminate at []

-- the first allocation that isn't freed comes before the result
abbrev pub freed : Span → List Allocation → Tree → Outcome
freed at [] x = result_of at x
freed at (a ∷ more) x = violated rule.Leak a.at []

-- what isn't well typed is told as a form that isn't built
abbrev pub outcome_of : Span → Out Tree → Outcome
outcome_of at (Value x s) = freed at s.memory.allocations x
outcome_of at (Violation r where_broken s) = violated r where_broken s.memory.frames
outcome_of at Stuck = violated rule.LeftOutForm at []

-- A constexpr variable is usable in constant expressions, and so is one of const integer type.

abbrev pub is_const_int : Form → Bool
is_const_int (Const f) = is_some (int_of f)
is_const_int _ = false

abbrev pub birth_of : Var → Birth
birth_of v = if v.is_constexpr || is_const_int v.ty then birth.Usable else birth.Opaque

abbrev pub keeping_as : Kept → VarId → Option Var → Val → Kept
keeping_as ks v None x = ks
keeping_as ks v (Some d) x = keeping ks v (record { value = x; birth = birth_of d })

-- a variable is kept with its value where that is asked
abbrev pub kept_after : List Var → Kept → JudgeMode → Body → Outcome → Kept
kept_after vs ks mode.Keep (OfVariable v) (outcome.Value x) = keeping_as ks v (slice_get vs v.0) x
kept_after vs ks _ _ _ = ks

abbrev pub with_kept : List Var → Kept → JudgeMode → Body → Outcome → Outcome × Kept
with_kept vs ks md b o = (o, kept_after vs ks md b o)

-- the outcome, and what is kept from then on
abbrev pub judged : List Var → Limits → Kept → FullTree → JudgeMode → Outcome × Kept
judged vs limits ks f md = with_kept vs ks md f.body (outcome_of f.span (evaluated vs limits ks f md))

abbrev pub IsOfVar : Option Var → Val → Type 0
IsOfVar None x = ⊥
IsOfVar (Some v) (value.Int a) = (int_of v.ty ≡ Some a.ty) × Fits a.ty a.value

-- what is kept is of the program: each a variable, with a value of its type
pub record KeptFit (vs : List Var) (ks : Kept) : Type 0 where
  pub each : AllByRecursion (λ (k : VarId × KeptValue). IsOfVar (slice_get vs k.0.0) k.1.value) ks
