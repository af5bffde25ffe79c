-- Which function a virtual call reaches, and which part of the object that function takes as its own ([class.virtual],
-- [class.cdtor]).
use Rattle.std.specs.Prelude.{ℕ, zero, suc, ◌-◌, ◌==◌, nat_lt, Bool, false, List, [], ◌∷◌, ◌++◌, length, drop, Option, None, Some, slice_get, option_and_then, option_map, if◌then◌else◌}
use Rattle.cx_base.specs.declared.rule.Rule.TheVariants as rule
use Rattle.cx_type_defs.specs.declared.ids.ClassId.{ClassId}
use Rattle.cx_type_defs.specs.declared.ids.FuncId.{FuncId}
use Rattle.cx_type_defs.specs.declared.ids.Step.{Step}
use Rattle.cx_type_defs.specs.declared.ids.Step.TheVariants as to
use Rattle.cx_type_defs.specs.declared.decl.ClassBody.{ClassBody}
use Rattle.cx_type_defs.specs.Tables.{Tables, body_at, base_of, overrider, declared_pure}
use Rattle.cx_type_defs.specs.Slots.{slot_count, base_slot}
use Rattle.cx_state.specs.Objects.{Path, Object}
use Rattle.cx_state.specs.Conditions.{is_opaque}
use Rattle.cx_state.specs.Steps as steps
use Rattle.cx_state.specs.States.{Memory, Op, Done, Broken, Wrong, finds}
use Rattle.cx_code.specs.Cells.{op_then}

-- the slot of a class that stands for slot k of the base that the steps lead to
abbrev pub slot_up : Tables → ClassId → List Step → ℕ → Option ℕ
slot_up t c [] k = Some k
slot_up t c (to.Base i ∷ ss) k = option_and_then (λ b. option_and_then (base_slot t c i) (slot_up t b ss k)) (base_of t c i)
slot_up t c (s ∷ ss) k = None

-- the base, counted from i on, that a slot comes from, and its slot there
abbrev pub slot_from : Tables → ℕ → List ClassId → ℕ → Option (ℕ × ClassId × ℕ)
slot_from t i [] k = None
slot_from t i (c ∷ cs) k = if nat_lt k (slot_count t c) then Some (i, c, k) else slot_from t (suc i) cs (k - slot_count t c)

-- The steps from a class to the base d along the bases that slot k comes from, through at most so many.
abbrev pub seat : Tables → ClassId → ℕ → ClassId → ℕ → Option (List Step)
seat t d zero c k = if c.0 == d.0 then Some [] else None
seat t d (suc n) c k =
    if c.0 == d.0 then Some []
    else option_and_then (λ (x : ℕ × ClassId × ℕ). option_map (λ ss. to.Base x.0 ∷ ss) (seat t d n x.1 x.2)) (option_and_then (λ (b : ClassBody). slot_from t 0 b.bases k) (body_at t c))

abbrev pub is_bare : Memory → Path → Bool
is_bare m p = opaque_in (slice_get m.objects p.object)
  where
    opaque_in : Option Object → Bool
    opaque_in None = false
    opaque_in (Some o) = is_opaque o.birth

-- what is reached: the function, and where its object is
abbrev pub Reached : Type 0
Reached = FuncId × Path

abbrev pub behind : Path → List Step → Path
behind p ss = record { object = p.object; steps = p.steps ++ ss; past = false }

-- by the class whose place the function takes
abbrev pub seated : Tables → ClassId → ℕ → Path → FuncId → Option ClassId → Memory → Op Reached
seated t c k whole f None m = Done (f, whole) m
seated t c k whole f (Some d) m = in_seat (seat t d (length t.classes) c k)
  where
    in_seat : Option (List Step) → Op Reached
    in_seat None = Wrong
    in_seat (Some ss) = Done (f, behind whole ss) m

abbrev pub reached : Tables → (FuncId → Option ClassId) → ClassId → Path → Option ℕ → Memory → Op Reached
reached t takes c whole None m = Wrong
reached t takes c whole (Some k) m = by_function (overrider t c k)
  where
    by_function : Option FuncId → Op Reached
    by_function None = Wrong
    by_function (Some f) = if declared_pure t f then Broken rule.PureVirtual else seated t c k whole f (takes f) m

abbrev pub in_dynamic : Tables → (FuncId → Option ClassId) → ℕ → Path → Option (ClassId × Path) → Memory → Op Reached
in_dynamic t takes k p None m = Wrong
in_dynamic t takes k p (Some d) m = if is_bare m p then Broken rule.VirtualObject else reached t takes d.0 d.1 (slot_up t d.0 (drop (length d.1.steps) p.steps) k) m

-- A virtual call of slot k of the class at a place: what any member call asks of its object, then its dynamic class.
abbrev pub virtually : Tables → (FuncId → Option ClassId) → ℕ → Path → Memory → Op Reached
virtually t takes k p m = op_then (finds (λ os. steps.call_on t os p) m) (λ _ u. op_then (finds (λ os. steps.dynamic_class t os p) u) (λ d v. in_dynamic t takes k p d v))
