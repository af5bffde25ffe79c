-- Where the body of a judgement is evaluated, and what reading a variable gives there ([expr.const], [basic.indet]).
use Rattle.std.specs.Prelude.{◌≡◌, ◌==◌, List, [], ◌∷◌, ◌++◌, length, Option, None, Some, Result, Ok, Err, slice_get, if◌then◌else◌}
use Rattle.cx_base.specs.declared.int_type.IntType.{IntType}
use Rattle.cx_base.specs.declared.limits.Limits.{Limits}
use Rattle.cx_base.specs.declared.rule.Rule.{Rule}
use Rattle.cx_base.specs.declared.rule.Rule.TheVariants as rule
use Rattle.cx_type_defs.specs.declared.ids.VarId.{VarId}
use Rattle.cx_type_defs.specs.Tables.{Tables}
use Rattle.cx_state.specs.declared.kind.Scalar.{Scalar}
use Rattle.cx_state.specs.declared.kind.Scalar.TheVariants as scalar
use Rattle.cx_state.specs.declared.kind.Birth.TheVariants as birth
use Rattle.cx_state.specs.declared.root.Root.TheVariants as root
use Rattle.cx_state.specs.Objects.{Path, Object}
use Rattle.cx_state.specs.Conditions.{is_opaque}
use Rattle.cx_state.specs.Counts as counts
use Rattle.cx_state.specs.States.{Memory, State}
use Rattle.cx_typed.specs.declared.judge.Value.{Value as Val}
use Rattle.cx_typed.specs.declared.judge.Value.TheVariants as value
use Rattle.cx_typed.specs.declared.judge.KeptValue.{KeptValue}
use Rattle.cx_typed.specs.Trees.{Var}
use Rattle.cx_typed.specs.Well.{int_of}
use Rattle.cx_typed.specs.Judging.{Kept, kept_at, tables_of, request, start_memory}

abbrev pub fresh : Tables → VarId → Object
fresh t v = counts.new_object t (request v birth.Here)

-- with the object of the variable that is judged, if one is
abbrev pub ready : List Var → Kept → Option VarId → Memory
ready vs ks None = start_memory vs ks
ready vs ks (Some j) = record (start_memory vs ks) { objects = (start_memory vs ks).objects ++ fresh (tables_of vs) j ∷ []; bindings = (root.Variable j, length (start_memory vs ks).objects) ∷ (start_memory vs ks).bindings }

-- the full-expression is counted
abbrev pub began : List Var → Limits → Kept → Option VarId → State
began vs l ks o = record { memory = record (ready vs ks o) { exprs = 1 }; left = l.turns }

abbrev pub number_of : Val → Scalar Path
number_of (value.Int a) = scalar.Int a

-- what is kept may be read where it is usable
abbrev pub read_of : Option KeptValue → Result (Scalar Path) Rule
read_of None = Err rule.NotUsable
read_of (Some k) = if is_opaque k.birth then Err rule.NotUsable else Ok (number_of k.value)

-- what reading a variable gives; the one that is judged has no value yet
abbrev pub reads : Kept → Option VarId → VarId → Result (Scalar Path) Rule
reads ks None v = read_of (kept_at ks v)
reads ks (Some j) v = if j.0 == v.0 then Err rule.Indeterminate else read_of (kept_at ks v)

-- the judged variable, if one is judged, has an integer type
abbrev pub IsIntVar : List Var → Option VarId → Type 0
IsIntVar vs None = Unit {0}
IsIntVar vs (Some j) = (d : Var) × (ty : IntType) × (slice_get vs j.0 ≡ Some d) × (int_of d.ty ≡ Some ty)
