-- What a pointer leads to takes what is of the same type, and a place that is held across a new object is read as before.
use Rattle.std.proofs.Common.{◌≡◌, [], ◌∷◌, Option, Result, Ok, sym, ap, subst, ◌∙◌, slice_get}
use Rattle.std.specs.Prelude.{option_and_then}
use Rattle.std.specs.List.{find}
use Rattle.cx_base.specs.declared.rule.Rule.{Rule}
use Rattle.cx_base.specs.declared.limits.Limits.{Limits}
use Rattle.cx_type_defs.specs.declared.kind.TypeRow.{TypeRow}
use Rattle.cx_type_defs.specs.declared.kind.TypeKind.TheVariants as kind
use Rattle.cx_type_defs.specs.Tables.{Tables}
use Rattle.cx_type_defs.proofs.Lists.{slice_get-more}
use Rattle.cx_state.specs.declared.kind.Scalar.{Scalar}
use Rattle.cx_state.specs.declared.kind.Scalar.TheVariants as scalar
use Rattle.cx_state.specs.Objects.{Path, Object, Objects, below}
use Rattle.cx_state.specs.Conditions as on
use Rattle.cx_state.specs.Steps.{unless, scalar_of, load}
use Rattle.cx_state.specs.Counts.{Request, new_object, make}
use Rattle.cx_state.specs.Forms.{HoldsValue, Designates, MayHold, Knows}
use Rattle.cx_state.proofs.SameTypes.{alike-holds, alike-scalar}
use Rattle.cx_state.proofs.Known.{known-object, make-ok}
use Rattle.cx_store.specs.Stores.{IsOf, IsScalarAt, MayTake, KeepsPaths, Made, seen, result_seen}
use Rattle.cx_state_kept.proofs.Holding.{held_path}
use Rattle.cx_state_kept.proofs.Meeting.{pointee_scalar, pointee_takes}
use Rattle.use_store.specs.Uses.{PointsToSame}

designates : (t : Tables) (os : Objects) (to from p : Path) (s : PointsToSame t os to from) → MayTake t os to (scalar.Place p) → Designates t os s.part p
designates t os to from p s h = subst (λ k. MayHold t os k (scalar.Place p)) s.is_pointer (subst (IsOf (λ (r : TypeRow). MayHold t os r.kind (scalar.Place p))) s.is_at_to h)

pub led_scalar : (t : Tables) (os : Objects) (to from p : Path) → PointsToSame t os to from → MayTake t os to (scalar.Place p) → IsScalarAt t os p
led_scalar t os to from p s h = pointee_scalar t os s.part s.led p s.is_led (alike-scalar t s.given.kind s.led.kind s.same s.is_scalar) (designates t os to from p s h)

pub led_takes : (t : Tables) (os : Objects) (to from p : Path) (v : Scalar Path) → PointsToSame t os to from → MayTake t os to (scalar.Place p) → MayTake t os from v → MayTake t os p v
led_takes t os to from p v s h g =
    pointee_takes t os s.part s.led p v s.is_led (alike-scalar t s.given.kind s.led.kind s.same s.is_scalar) (designates t os to from p s h)
    (alike-holds t os s.given.kind s.led.kind v s.same (subst (IsOf (λ (r : TypeRow). MayHold t os r.kind v)) s.is_at_from g))

-- at both ends of the assignment is a scalar
pub pointer_scalar : (t : Tables) (os : Objects) (to from : Path) → PointsToSame t os to from → IsScalarAt t os to
pointer_scalar t os to from s = subst (IsOf (λ (r : TypeRow). HoldsValue r.kind)) (sym s.is_at_to) (subst HoldsValue (sym s.is_pointer) tt)

pub given_scalar : (t : Tables) (os : Objects) (to from : Path) → PointsToSame t os to from → IsScalarAt t os from
given_scalar t os to from s = subst (IsOf (λ (r : TypeRow). HoldsValue r.kind)) (sym s.is_at_from) s.is_scalar

-- what is read at a place depends on its object alone
abbrev read_in : Tables → Path → Option Object → Result (Scalar Path) Rule
read_in t p o = unless (option_and_then (λ (w : Object). find (on.holds t w p on.Load) (on.order on.Load)) o) (scalar_of (option_and_then (λ (w : Object). below w.tree p.steps) o))

load_made : (t : Tables) (limits : Limits) (q : Request) (old new : Objects) (p : Path) → make t limits old q ≡ Ok new → Knows t old p → load t new p ≡ load t old p
load_made t limits q old new p m k =
    let o = known-object t old p k in
    ap (read_in t p) (ap (λ os. slice_get os p.object) (sym (make-ok t limits old new q m)) ∙ slice_get-more old (new_object t q ∷ []) p.object o.0 o.1 ∙ sym o.1)

pub held_read : {P : Type 0} (t : Tables) (limits : Limits) (q : Request) (old new : Objects) (before after : P → Path) (made held : P) (v : Scalar P) → Made t limits q old new after (Ok made) → KeepsPaths old before after → Knows t old (before held)
    → result_seen (seen after) (Ok v) ≡ load t new (after held) → Ok (seen after v) ≡ load t old (before held)
held_read t limits q old new before after made held v m k h e = e ∙ ap (load t new) (held_path t old before after held k h) ∙ load_made t limits q old new (before held) m.0 h
