-- The rules that an access to an object breaks are those of its tree, where the object may be accessed.
use Rattle.std.proofs.Common.{◌≡◌, Bool, true, false, not, ◌&&◌, [], ◌∷◌, Option, None, Some, refl, ap, ◌∙◌, slice_get, if◌then◌else◌}
use Rattle.std.specs.Prelude.{option_and_then}
use Rattle.std.specs.List.{list_any, find}
use Rattle.cx_base.specs.declared.rule.Rule.{Rule}
use Rattle.cx_base.specs.declared.rule.Rule.TheVariants as rule
use Rattle.cx_type_defs.specs.declared.kind.TypeRow.{TypeRow}
use Rattle.cx_type_defs.specs.Tables.{Tables}
use Rattle.cx_state.specs.declared.kind.Birth.{Birth}
use Rattle.cx_state.specs.declared.kind.Birth.TheVariants as birth
use Rattle.cx_state.specs.declared.kind.Phase.{Phase}
use Rattle.cx_state.specs.Objects.{Object, Objects, Path, below, at}
use Rattle.cx_state.specs.Places.{root_row}
use Rattle.cx_state.specs.Conditions as on
use Rattle.cx_state.specs.Conditions.{passes, is_indeterminate, is_opaque, is_here}
use Rattle.cx_state.specs.Steps.{unless, scalar_of, load}
use Rattle.cx_slot_calls.specs.Rules.{breaks, advances, load_of, or_sealed, store_rule, reach_rule, advance_rule}

-- the rules of the object come first
abbrev front : Bool → Bool → Bool → Rule → Option Rule → Option Rule
front released past third name rest = if released then Some rule.Dangling else if past then Some rule.PastEnd else if third then Some name else rest

front_none : (released past third : Bool) (name : Rule) (rest : Option Rule) → released ≡ false → past ≡ false → third ≡ false → front released past third name rest ≡ rest
front_none released past third name rest a b c = ap (λ t. front t past third name rest) a ∙ ap (λ t. front false t third name rest) b ∙ ap (λ t. front false false t name rest) c

-- then those of the tree, which an opaque object doesn't tell
abbrev behind : Bool → Bool → Bool → Option Rule → Option Rule
behind opaque inactive out rest = if not opaque && inactive then Some rule.InactiveMember else if not opaque && out then Some rule.OutOfLifetime else rest

module _ (t : Tables) (os : Objects) (p : Path) (o : Object) (is : slice_get os p.object ≡ Some o) (live : o.released ≡ false) (here : p.past ≡ false) where
  opened : (a : on.Access) → on.broken t os p a ≡ find (on.holds t o p a) (on.order a)
  opened a = ap (option_and_then (λ (o : Object). find (on.holds t o p a) (on.order a))) is

  pub loads_as : is_opaque o.birth ≡ false → load t os p ≡ load_of o.tree p.steps
  loads_as e =
      let inactive = breaks o.tree p.steps rule.InactiveMember in
      let out = breaks o.tree p.steps rule.OutOfLifetime in
      let rest : Option Rule = if passes is_indeterminate (below o.tree p.steps) then Some rule.Indeterminate else None in
      ap (λ r. unless r (scalar_of (at os p)))
      (opened on.Load ∙ front_none o.released p.past (is_opaque o.birth) rule.NotUsable (behind (is_opaque o.birth) inactive out rest) live here e ∙ ap (λ b. behind b inactive out rest) e)
      ∙ ap (λ r. unless (find (breaks o.tree p.steps) (rule.InactiveMember ∷ rule.OutOfLifetime ∷ rule.Indeterminate ∷ [])) (scalar_of (option_and_then (λ (o : Object). below o.tree p.steps) r))) is

  module _ (b : o.birth ≡ birth.Here) where
    is_local : not (is_here o.birth) ≡ false
    is_local = ap (λ (b : Birth). not (is_here b)) b

    is_told : is_opaque o.birth ≡ false
    is_told = ap is_opaque b

    abbrev reached : Bool → Option Rule
    reached opaque = if not opaque && breaks o.tree p.steps rule.InactiveMember then Some rule.InactiveMember else None

    pub inits_as : on.broken t os p on.Init ≡ reach_rule o.tree p.steps
    inits_as = opened on.Init ∙ front_none o.released p.past (not (is_here o.birth)) rule.OutsideWrite (reached (is_opaque o.birth)) live here is_local ∙ ap reached is_told

    pub activates_as : on.broken t os p on.Activate ≡ reach_rule o.tree p.steps
    activates_as = opened on.Activate ∙ front_none o.released p.past (not (is_here o.birth)) rule.OutsideWrite (reached (is_opaque o.birth)) live here is_local ∙ ap reached is_told

    sealed_last : (s i d : Bool) → behind false i d (if s then Some rule.ConstWrite else None) ≡ or_sealed s (if i then Some rule.InactiveMember else if d then Some rule.OutOfLifetime else None)
    sealed_last s true d = refl
    sealed_last s false true = refl
    sealed_last s false false = refl

    pub stores_as : on.broken t os p on.Store ≡ store_rule (list_any (λ (r : TypeRow). on.sealed t r o.tree p.steps) (on.listed (root_row t o))) o.tree p.steps
    stores_as =
        let inactive = breaks o.tree p.steps rule.InactiveMember in
        let out = breaks o.tree p.steps rule.OutOfLifetime in
        let s = list_any (λ (r : TypeRow). on.sealed t r o.tree p.steps) (on.listed (root_row t o)) in
        let rest : Option Rule = if s then Some rule.ConstWrite else None in
        opened on.Store ∙ front_none o.released p.past (not (is_here o.birth)) rule.OutsideWrite (behind (is_opaque o.birth) inactive out rest) live here is_local ∙ ap (λ b. behind b inactive out rest) is_told ∙ sealed_last s inactive out

    pub advances_as : (to : Phase) → on.broken t os p (on.Advance to) ≡ advance_rule to o.tree p.steps
    advances_as to =
        let inactive = breaks o.tree p.steps rule.InactiveMember in
        let out = advances to o.tree p.steps rule.OutOfLifetime in
        opened (on.Advance to) ∙ front_none o.released p.past (not (is_here o.birth)) rule.OutsideWrite (behind (is_opaque o.birth) inactive out None) live here is_local ∙ ap (λ b. behind b inactive out None) is_told
