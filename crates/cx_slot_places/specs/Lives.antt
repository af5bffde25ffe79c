-- What is answered of a part of one object by the object's tree ([basic.life], [class.union], [class.cdtor]).
use Rattle.std.specs.Prelude.{◌≡◌, ℕ, Bool, false, ◌||◌, not, List, [], ◌∷◌, Option, None, Some, Result, Ok, Err, is_some, option_and_then, option_map, if◌then◌else◌}
use Rattle.std.specs.List.{find}
use Rattle.cx_base.specs.declared.rule.Rule.{Rule}
use Rattle.cx_base.specs.declared.rule.Rule.TheVariants as rule
use Rattle.cx_type_defs.specs.declared.ids.Step.{Step}
use Rattle.cx_type_defs.specs.declared.ids.ClassId.{ClassId}
use Rattle.cx_type_defs.specs.declared.kind.TypeKind.{TypeKind}
use Rattle.cx_type_defs.specs.Tables.{Tables}
use Rattle.cx_state.specs.Objects.{Path, Tree, below}
use Rattle.cx_state.specs.Conditions.{is_dead, is_deciding, passes, enclosing}
use Rattle.cx_state.specs.Steps.{unless, member_of, with_place}
use Rattle.cx_layout.specs.declared.place.Place.{Place}
use Rattle.cx_layout.specs.Forms.{Form}
use Rattle.cx_layout.specs.Places.{Leads, class_at}
use Rattle.cx_layout.specs.TypeForms.{form_in, kind_form}
use Rattle.cx_slot_calls.specs.Rules.{breaks, dead_on}

-- the form is that of a type of this kind, as far as some levels tell
abbrev pub IsFormOf : Tables → TypeKind → Form → Type 0
IsFormOf t k f = (levels : ℕ) × (kind_form t (form_in t levels) k ≡ Some f)

-- a part that isn't reached, or whose lifetime hasn't begun or has ended
abbrev pub life_rule : Tree → List Step → Option Rule
life_rule x ss = find (breaks x ss) (rule.InactiveMember ∷ rule.OutOfLifetime ∷ [])

abbrev pub active_of : Tree → List Step → Result (Option ℕ) Rule
active_of x ss = unless (life_rule x ss) (member_of (below x ss))

abbrev pub call_of : Tree → List Step → Result (Unit {0}) Rule
call_of x ss = unless (life_rule x ss) tt

-- The outermost object that decides among the one at the end of steps and those that it is a base of, with its class; in an
-- opaque object the outermost.
abbrev pub decides : Bool → Tree → List Step → Bool
decides opaque x ss = opaque || passes is_deciding (below x ss)

abbrev pub with_class : Form → List Step → Option (ClassId × List Step)
with_class f ss = option_map (λ c. (c, ss)) (class_at f ss)

abbrev pub decider : Form → Bool → Tree → List Step → Option (ClassId × List Step)
decider f opaque x ss = option_and_then (with_class f) (find (decides opaque x) (enclosing ss))

abbrev pub undecided : Form → Tree → List Step → Rule → Bool
undecided f x ss rule.OutOfLifetime = dead_on x ss || (passes is_dead (below x ss) || not (is_some (decider f false x ss)))
undecided f x ss r = breaks x ss r

abbrev pub dynamic_rule : Form → Bool → Tree → List Step → Option Rule
dynamic_rule f opaque x ss = if opaque then None else find (undecided f x ss) (rule.InactiveMember ∷ rule.OutOfLifetime ∷ [])

abbrev pub dynamic_of : Form → Bool → Tree → List Step → Result (Option (ClassId × List Step)) Rule
dynamic_of f opaque x ss = unless (dynamic_rule f opaque x ss) (decider f opaque x ss)

-- the class that decides and the place of the object of it, or the rule
abbrev pub Tells : Form → ℕ → Result (ClassId × Place) Rule → Result (Option (ClassId × List Step)) Rule → Type 0
Tells f block (Ok r) (Ok (Some x)) = (r.0 ≡ x.0) × Leads f x.1 r.1 × (r.1.past ≡ false) × (r.1.block ≡ block)
Tells f block (Err e) (Err r) = e ≡ r
Tells f block _ _ = ⊥

-- the same with the path of that object, where the place's path is this one
abbrev pub placed : Path → Result (Option (ClassId × List Step)) Rule → Result (Option (ClassId × Path)) Rule
placed p (Ok o) = Ok (option_map (with_place p) o)
placed p (Err r) = Err r
