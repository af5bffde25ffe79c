-- Places beside the paths of the definitions of objects: both are changed by the same steps, and refused by the same rules
-- ([expr.ref], [expr.sub], [expr.static.cast]).
use Rattle.std.specs.Prelude.{◌≡◌, ℕ, false, Some, Result, Ok, Err, slice_get}
use Rattle.cx_base.specs.declared.rule.Rule.{Rule}
use Rattle.cx_type_defs.specs.declared.ids.Step.{Step}
use Rattle.cx_type_defs.specs.declared.ids.Step.TheVariants as step
use Rattle.cx_type_defs.specs.Tables.{Tables}
use Rattle.cx_state.specs.Objects.{Path, Object, Objects}
use Rattle.cx_state.specs.Steps.{to_field, to_base, to_elem}
use Rattle.cx_layout.specs.declared.place.Place.{Place}
use Rattle.cx_layout.specs.Forms.{Form}
use Rattle.cx_layout.specs.TypeForms.{object_form}
use Rattle.cx_layout.specs.Places.{Leads}

-- an object with this number, which isn't released, and whose type has this form
pub record Stands (t : Tables) (os : Objects) (number : ℕ) (f : Form) : Type 0 where
  pub object : Object
  pub is_there : slice_get os number ≡ Some object
  pub unreleased : object.released ≡ false
  pub form_is : object_form t object.ty object.count ≡ Some f

-- the place and the path are the same: of one object, by the same steps, and with the same mark
pub record Tells (f : Form) (at : Place) (p : Path) : Type 0 where
  pub object : p.object ≡ at.block
  pub past : p.past ≡ at.past
  pub leads : Leads f p.steps at

-- both answers are such a place, or both are the same rule
abbrev pub SameAnswer : Form → Result Place Rule → Result Path Rule → Type 0
SameAnswer f (Ok at) (Ok p) = Tells f at p
SameAnswer f (Err e) (Err r) = e ≡ r
SameAnswer f _ _ = ⊥

-- one step more on a path
abbrev pub stepped : Tables → Objects → Path → Step → Result Path Rule
stepped t os p (step.Field i) = to_field t os p i
stepped t os p (step.Base i) = to_base t os p i
stepped t os p (step.Elem i) = to_elem t os p i
