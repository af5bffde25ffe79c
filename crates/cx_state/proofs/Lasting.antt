-- What a member call tells of a class in a finished object.
use Rattle.std.proofs.Common.{◌≡◌, ◌↔◌, Bool, true, false, List, [], ◌∷◌, Option, None, Some, Result, Err, refl, sym, ap, subst, ◌∙◌, slice_get, if◌then◌else◌}
use Rattle.std.specs.Prelude.{option_map, option_and_then, unwrap_or, is_some, ◌||◌, ◌&&◌, not}
use Rattle.std.specs.List.{list_any, find}
use Rattle.cx_base.specs.declared.rule.Rule.{Rule}
use Rattle.cx_base.specs.declared.rule.Rule.TheVariants as rule
use Rattle.cx_type_defs.specs.declared.ids.Step.{Step}
use Rattle.cx_type_defs.specs.Tables.{Tables}
use Rattle.cx_type_defs.proofs.Lists.{option_and_then-some}
use Rattle.cx_state.specs.declared.kind.Phase.TheVariants as phase
use Rattle.cx_state.specs.Objects.{Path, Tree, Leaf, Row, Class, Union, Active, part, below, at, Object, Objects}
use Rattle.cx_state.specs.Conditions as on
use Rattle.cx_state.specs.Steps.{unless, is_ended, call_on}
use Rattle.cx_state.specs.Finished.{is_unborn, IsFinished, IsOpen}

-- where there is a part at the end of the steps, no union on the way has another active member

open_step : (b : Bool) (o : Option Tree) (y : Tree) → o ≡ Some y → (b && not (is_some o)) ≡ false
open_step true o y e = ap (λ p. not (is_some p)) e
open_step false o y e = refl

open_way : (x : Tree) (ss : List Step) (y : Tree) → below x ss ≡ Some y → list_any on.stops (on.on_way x ss) ≡ false
open_way x [] y e = refl
open_way x (s ∷ ss) y e =
    let i = option_and_then-some (λ z. below z ss) (part x s) y e in
    ap (λ b. b || list_any on.stops (unwrap_or (option_map (λ z. on.on_way z ss) (part x s)) [])) (open_step (on.is_union x) (part x s) i.0 i.1)
    ∙ ap (λ o. list_any on.stops (unwrap_or (option_map (λ z. on.on_way z ss) o) [])) i.1 ∙ open_way i.0 ss y i.2

-- the rule that a call tells, by its four tests
abbrev told : Bool → Bool → Bool → Bool → Option Rule
told a b c d = if a then Some rule.Dangling else if b then Some rule.PastEnd else if c then Some rule.InactiveMember else if d then Some rule.OutOfLifetime else None

last-test : (a b c d e : Bool) → a ≡ false → b ≡ false → c ≡ false → d ≡ e → told a b c d ≡ told false false false e
last-test a b c d e x y z w = ap (λ k. told k b c d) x ∙ ap (λ k. told false k c d) y ∙ ap (λ k. told false false k d) z ∙ ap (told false false false) w

abbrev answer : Option Rule → Result (Unit {0}) Rule
answer r = unless r tt

last-told : (d : Bool) → (answer (told false false false d) ≡ Err rule.OutOfLifetime) ↔ (d ≡ true)
last-told true = ((λ h. refl), (λ h. refl))
last-told false = ((λ h. absurd (cc)), (λ h. absurd (cc)))

open-death : (b c d e : Bool) → b ≡ false → c ≡ false → d ≡ e → (not b && (c || d)) ≡ e
open-death b c d e x y z = ap (λ k. not k && (c || d)) x ∙ ap (λ k. k || d) y ∙ z

call-by : (t : Tables) (os : Objects) (p : Path) (o : Object) (x : Tree) → slice_get os p.object ≡ Some o → at os p ≡ Some x → IsOpen o p.steps p.past → call_on t os p ≡ answer (told false false false (on.is_dead x))
call-by t os p o x eo ex w =
    let here : below o.tree p.steps ≡ Some x = sym (ap (option_and_then (λ (z : Object). below z.tree p.steps)) eo) ∙ ex in
    let stop : (not (on.is_opaque o.birth) && list_any on.stops (on.on_way o.tree p.steps)) ≡ false = ap (λ b. not b && list_any on.stops (on.on_way o.tree p.steps)) w.not_opaque ∙ open_way o.tree p.steps x here in
    let dead = open-death (on.is_opaque o.birth) (list_any (λ w. on.is_dead w.0) (on.on_way o.tree p.steps)) (on.passes on.is_dead (below o.tree p.steps)) (on.is_dead x) w.not_opaque w.around (ap (on.passes on.is_dead) here) in
    ap (λ r. answer (option_and_then (λ (z : Object). find (on.holds t z p on.Call) (on.order on.Call)) r)) eo
    ∙ ap answer (last-test o.released p.past (not (on.is_opaque o.birth) && list_any on.stops (on.on_way o.tree p.steps)) (not (on.is_opaque o.birth) && (list_any (λ w. on.is_dead w.0) (on.on_way o.tree p.steps) || on.passes on.is_dead (below o.tree p.steps))) (on.is_dead x) w.not_released w.not_past stop dead)

pub call-dead : (t : Tables) (os : Objects) (p : Path) (o : Object) (x : Tree) → slice_get os p.object ≡ Some o → at os p ≡ Some x → IsOpen o p.steps p.past → (call_on t os p ≡ Err rule.OutOfLifetime) ↔ (on.is_dead x ≡ true)
call-dead t os p o x eo ex w = subst (λ r. (r ≡ Err rule.OutOfLifetime) ↔ (on.is_dead x ≡ true)) (sym (call-by t os p o x eo ex w)) (last-told (on.is_dead x))

-- what is out of its lifetime and not unborn has ended
dead-ended : (x : Tree) → is_unborn x ≡ false → on.is_dead x ≡ is_ended x
dead-ended (Class phase.Unborn bs ms) e = absurd (cc)
dead-ended (Class phase.Bases bs ms) e = refl
dead-ended (Class phase.Body bs ms) e = refl
dead-ended (Class phase.Alive bs ms) e = refl
dead-ended (Class phase.Ending bs ms) e = refl
dead-ended (Class phase.EndingBases bs ms) e = refl
dead-ended (Class phase.Ended bs ms) e = refl
dead-ended (Leaf v) e = refl
dead-ended (Row xs) e = refl
dead-ended Union e = refl
dead-ended (Active m x) e = refl

pub call-ended : (t : Tables) (os : Objects) (p : Path) (o : Object) (x : Tree) → slice_get os p.object ≡ Some o → at os p ≡ Some x → IsOpen o p.steps p.past → IsFinished o.tree → (call_on t os p ≡ Err rule.OutOfLifetime) ↔ (is_ended x ≡ true)
call-ended t os p o x eo ex w f =
    let here : below o.tree p.steps ≡ Some x = sym (ap (option_and_then (λ (z : Object). below z.tree p.steps)) eo) ∙ ex in
    subst (λ b. (call_on t os p ≡ Err rule.OutOfLifetime) ↔ (b ≡ true)) (dead-ended x (f p.steps x here)) (call-dead t os p o x eo ex w)
