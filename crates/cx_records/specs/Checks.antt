-- What is found at a place.
use Rattle.std.specs.Prelude.{◌≡◌, ℕ, Bool, true, false, ◌&&◌, ◌||◌, not, List, [], ◌∷◌, Option, None, Some, slice_get, option_and_then, if◌then◌else◌}
use Rattle.cx_base.specs.declared.rule.Rule.{Rule}
use Rattle.cx_state.specs.Conditions as on
use Rattle.cx_type_defs.specs.declared.ids.Step.TheVariants as step
use Rattle.cx_state.specs.declared.kind.Scalar.{Scalar}
use Rattle.cx_state.specs.declared.kind.Scalar.TheVariants as scalar
use Rattle.cx_shapes.specs.Forms.{Form, Small, part_of}
use Rattle.cx_shapes.specs.Contents.{Cells, is_dead_class}
use Rattle.cx_records.specs.declared.place.Place.{Place}
use Rattle.cx_records.specs.declared.record.Record.{Record}
use Rattle.cx_records.specs.declared.check.Condition.{Condition}
use Rattle.cx_records.specs.Records.{record_form, forms_in, cells_of}
use Rattle.cx_records.specs.Records as seen
use Rattle.cx_records.specs.Walks.{Walked}

-- the rule of the first test that holds
abbrev pub first : List (Bool × Rule) → Option Rule
first [] = None
first (x ∷ xs) = if x.0 then Some x.1 else first xs

abbrev pub cells_in : List Record → Record → Cells
cells_in rs r = cells_of (forms_in rs) r.contents

pub record StandsAt (rs : List Record) (p : Place) (g : Form) (there dead : Bool) : Type 0 where
  pub rec : Record
  pub is_rec : slice_get rs p.object ≡ Some rec
  pub walked : Walked (record_form rec) (cells_in rs rec) 0 p.part g there dead
  pub small : Small g

pub record IsCondition (rs : List Record) (p : Place) (c : Condition) : Type 0 where
  pub form : Form
  pub dead : Bool
  pub stands : StandsAt rs p form c.there dead
  pub is_released : c.released ≡ stands.rec.released
  pub is_past : c.past ≡ seen.is_past p.end
  pub is_opaque : c.opaque ≡ on.is_opaque stands.rec.birth
  pub is_outside : c.outside ≡ not (on.is_here stands.rec.birth)
  pub is_inactive : c.inactive ≡ (not (on.is_opaque stands.rec.birth) && not c.there)
  pub is_dead : c.dead ≡ (not (on.is_opaque stands.rec.birth) && dead)
  pub is_lifeless : c.lifeless ≡ (not (on.is_opaque stands.rec.birth) && (dead || c.there && is_dead_class form (cells_in rs stands.rec p.part)))

abbrev pub is_nothing : {P : Type 0} → Scalar P → Bool
is_nothing scalar.Indeterminate = true
is_nothing _ = false

-- the active member of what stands there: one that its shape has
abbrev pub if_part : {A : Type 0} → ℕ → Option A → Option ℕ
if_part m None = None
if_part m (Some a) = Some m

abbrev pub held_member : Form → Option ℕ → Option ℕ
held_member g o = option_and_then (λ m. if_part m (part_of g (step.Field m))) o

pub record HasMember (rs : List Record) (p : Place) (result : Option ℕ) : Type 0 where
  pub form : Form
  pub there : Bool
  pub dead : Bool
  pub stands : StandsAt rs p form there dead
  pub is_member : result ≡ held_member form (cells_in rs stands.rec p.part).member
