-- What the definitions of objects answer is what is answered by the object's tree.
use Rattle.std.proofs.Common.{◌≡◌, Bool, true, false, not, ◌&&◌, ◌||◌, List, Option, None, Some, Result, Ok, refl, sym, ap, subst, ◌∙◌, slice_get, if◌then◌else◌}
use Rattle.std.specs.Prelude.{option_map, option_and_then, is_some}
use Rattle.std.specs.List.{list_any, find}
use Rattle.cx_base.specs.declared.rule.Rule.{Rule}
use Rattle.cx_base.specs.declared.rule.Rule.TheVariants as rule
use Rattle.cx_type_defs.specs.declared.ids.Step.{Step}
use Rattle.cx_type_defs.specs.declared.ids.ClassId.{ClassId}
use Rattle.cx_type_defs.specs.declared.kind.TypeRow.{TypeRow}
use Rattle.cx_type_defs.specs.Tables.{Tables}
use Rattle.cx_type_defs.specs.Sound.{Sound}
use Rattle.cx_state.specs.Objects.{Object, Objects, Path, below, at}
use Rattle.cx_state.specs.Places.{root_row}
use Rattle.cx_state.specs.Conditions as on
use Rattle.cx_state.specs.Steps as steps
use Rattle.cx_state.specs.Steps.{unless, member_of, with_place}
use Rattle.cx_layout.specs.Forms.{Form}
use Rattle.cx_layout.specs.TypeForms.{object_form}
use Rattle.cx_layout.proofs.Options.{some_inj}
use Rattle.cx_layout.proofs.Agreeing.{classes_are, root_has}
use Rattle.cx_slot_calls.specs.Rules.{breaks, dead_on}
use Rattle.cx_slot_places.specs.Lives.{IsFormOf, life_rule, active_of, call_of, decides, with_class, decider, dynamic_rule, dynamic_of, placed}

-- the rules of the object come first
abbrev front : Bool → Bool → Option Rule → Option Rule
front released past rest = if released then Some rule.Dangling else if past then Some rule.PastEnd else rest

front_none : (released past : Bool) (rest : Option Rule) → released ≡ false → past ≡ false → front released past rest ≡ rest
front_none released past rest a b = ap (λ t. front t past rest) a ∙ ap (λ t. front false t rest) b

-- then those of the tree, which an opaque object doesn't tell
abbrev behind : Bool → Bool → Bool → Option Rule
behind opaque inactive out = if not opaque && inactive then Some rule.InactiveMember else if not opaque && out then Some rule.OutOfLifetime else None

same_and_then : {A B : Type 0} (f g : A → Option B) → ((a : A) → f a ≡ g a) → (o : Option A) → option_and_then f o ≡ option_and_then g o
same_and_then f g h None = refl
same_and_then f g h (Some a) = h a

module _ (t : Tables) (os : Objects) (p : Path) (o : Object) (is : slice_get os p.object ≡ Some o) (live : o.released ≡ false) (here : p.past ≡ false) where
  opened : (a : on.Access) → on.broken t os p a ≡ find (on.holds t o p a) (on.order a)
  opened a = ap (option_and_then (λ (o : Object). find (on.holds t o p a) (on.order a))) is

  abbrev inactive : Bool
  inactive = breaks o.tree p.steps rule.InactiveMember

  abbrev out : Bool
  out = breaks o.tree p.steps rule.OutOfLifetime

  pub active_is : on.is_opaque o.birth ≡ false → steps.active t os p ≡ active_of o.tree p.steps
  active_is e =
      ap (λ r. unless r (member_of (at os p)))
      (opened on.Which ∙ front_none o.released p.past (if on.is_opaque o.birth then Some rule.NotUsable else behind (on.is_opaque o.birth) inactive out) live here ∙ ap (λ b. if b then Some rule.NotUsable else behind b inactive out) e)
      ∙ ap (λ r. unless (life_rule o.tree p.steps) (member_of (option_and_then (λ (o : Object). below o.tree p.steps) r))) is

  pub call_is : steps.call_on t os p ≡ (if on.is_opaque o.birth then Ok tt else call_of o.tree p.steps)
  call_is = ap (λ r. unless r tt) (opened on.Call ∙ front_none o.released p.past (behind (on.is_opaque o.birth) inactive out) live here) ∙ go (on.is_opaque o.birth)
    where
      go : (b : Bool) → unless (behind b inactive out) tt ≡ (if b then Ok tt else call_of o.tree p.steps)
      go true = refl
      go false = refl

  module _ (sound : Sound t) (f : Form) (form : object_form t o.ty o.count ≡ Some f) where
    decider_is : on.dynamic_in t o p.steps ≡ decider f (on.is_opaque o.birth) o.tree p.steps
    decider_is =
        same_and_then (λ us. option_map (λ c. (c, us)) (on.class_below t o us)) (with_class f) (λ us. ap (option_map (λ c. (c, us))) (sym (classes_are t sound o f form us))) (find (decides (on.is_opaque o.birth) o.tree) (on.enclosing p.steps))

    abbrev answered : Option Rule → Option (ClassId × List Step) → Result (Option (ClassId × Path)) Rule
    answered r d = unless r (option_map (with_place p) d)

    placed_is : (r : Option Rule) (d : Option (ClassId × List Step)) → answered r d ≡ placed p (unless r d)
    placed_is None d = refl
    placed_is (Some r) d = refl

    abbrev dynamic_out : Option (ClassId × List Step) → Bool
    dynamic_out d = dead_on o.tree p.steps || (on.passes on.is_dead (below o.tree p.steps) || not (is_some d))

    pub dynamic_is : steps.dynamic_class t os p ≡ placed p (dynamic_of f (on.is_opaque o.birth) o.tree p.steps)
    dynamic_is =
        ap (λ r. answered r (option_and_then (λ (o : Object). on.dynamic_in t o p.steps) (slice_get os p.object))) (opened on.Dynamic ∙ front_none o.released p.past (behind (on.is_opaque o.birth) inactive (dynamic_out (on.dynamic_in t o p.steps))) live here)
        ∙ ap (λ d. answered (behind (on.is_opaque o.birth) inactive (dynamic_out (on.dynamic_in t o p.steps))) (option_and_then (λ (o : Object). on.dynamic_in t o p.steps) d)) is
        ∙ ap (λ d. answered (behind (on.is_opaque o.birth) inactive (dynamic_out d)) d) decider_is
        ∙ go (on.is_opaque o.birth)
        ∙ placed_is (dynamic_rule f (on.is_opaque o.birth) o.tree p.steps) (decider f (on.is_opaque o.birth) o.tree p.steps)
      where
        go : (b : Bool) → answered (behind b inactive (dynamic_out (decider f b o.tree p.steps))) (decider f b o.tree p.steps) ≡ answered (dynamic_rule f b o.tree p.steps) (decider f b o.tree p.steps)
        go true = refl
        go false = refl

or_false : (b : Bool) → (b || false) ≡ b
or_false true = refl
or_false false = refl

pub sealed_is : (t : Tables) (o : Object) (r : TypeRow) (ss : List Step) → root_row t o ≡ Some r → list_any (λ (r : TypeRow). on.sealed t r o.tree ss) (on.listed (root_row t o)) ≡ on.sealed t r o.tree ss
sealed_is t o r ss e = ap (λ x. list_any (λ (r : TypeRow). on.sealed t r o.tree ss) (on.listed x)) e ∙ or_false (on.sealed t r o.tree ss)

pub form_is : (t : Tables) (o : Object) (r : TypeRow) (f : Form) → Sound t → object_form t o.ty o.count ≡ Some f → root_row t o ≡ Some r → IsFormOf t r.kind f
form_is t o r f sound e row =
    let a = root_has t sound o f e in
    subst (λ (q : TypeRow). IsFormOf t q.kind f) (some_inj a.0 r (sym a.1 ∙ row)) a.2
