-- What is made.
use Rattle.std.specs.Prelude.{◌≡◌, ℕ, ◌+◌, ◌*◌, ◌&&◌, nat_le, nat_lt, if◌then◌else◌, Bool, true, false, List, Option, None, Some, slice_get, unwrap_or}
use Rattle.cx_base.specs.declared.rule.Rule.{Rule}
use Rattle.cx_base.specs.declared.rule.Rule.TheVariants as rule
use Rattle.cx_base.specs.declared.limits.Limits.{Limits}
use Rattle.cx_type_defs.specs.declared.ids.TypeId.{TypeId}
use Rattle.cx_type_defs.specs.Tables.{Tables}
use Rattle.cx_type_defs.specs.Questions.{asked, OfType}
use Rattle.cx_type_defs.specs.Questions.{cells_of as cells_of_type}
use Rattle.cx_state.specs.declared.kind.Birth.{Birth}
use Rattle.cx_state.specs.declared.kind.Phase.TheVariants as phase
use Rattle.cx_state.specs.Conditions.{is_opaque}
use Rattle.cx_state.specs.Counts as counts
use Rattle.cx_shapes.specs.declared.shape.Shape.{Shape}
use Rattle.cx_shapes.specs.Forms.{Form, Row, size, Small, form_of}
use Rattle.cx_shapes.specs.Contents.{fresh}
use Rattle.cx_shapes.specs.Kinds.{IsForm, OfRow}
use Rattle.cx_records.specs.declared.record.Contents.{Contents}
use Rattle.cx_records.specs.declared.record.Record.{Record}
use Rattle.cx_records.specs.Records.{record_form, cells_of}
use Rattle.cx_records.specs.Fits.{IsFull, is_each}

abbrev pub WholeForm : Tables → TypeId → Option ℕ → Form → Type 0
WholeForm t ty None f = OfRow (IsForm t f) (slice_get t.rows ty.0)
WholeForm t ty (Some n) (Row m f) = (m ≡ n) × OfRow (IsForm t f) (slice_get t.rows ty.0)
WholeForm t ty (Some n) f = ⊥

abbrev pub HasShape : Tables → TypeId → Option ℕ → Shape → Type 0
HasShape t ty count s = WholeForm t ty count (form_of s)

-- no scalar has a value, no union an active member, and no class has begun its life
pub record HasContents (b : Birth) (parts : ℕ) (c : Contents) : Type 0 where
  pub cells : (fs : List Form) (k : ℕ) → cells_of fs c k ≡ fresh phase.Unborn
  pub full : (f : Form) → parts ≡ size f → IsFull f c
  pub each : is_opaque b ≡ false → is_each c ≡ true

-- a new object's record
pub record IsNew (t : Tables) (q : counts.Request) (r : Record) : Type 0 where
  pub same_ty : r.ty ≡ q.ty
  pub same_count : r.count ≡ q.count
  pub same_kind : r.kind ≡ q.kind
  pub same_konst : r.konst ≡ q.konst
  pub same_birth : r.birth ≡ q.birth
  pub living : r.released ≡ false
  pub counted : r.counted ≡ counts.counts q.kind q.birth
  pub cells : r.cells ≡ unwrap_or q.count 1 * unwrap_or (asked cells_of_type t (OfType q.ty)) 0
  pub form : WholeForm t q.ty q.count (record_form r)
  pub small : Small (record_form r)
  pub contents : HasContents r.birth (size (record_form r)) r.contents

-- the limit that one more object would pass, where so many were made and so many cells are live
abbrev pub limit_broken : Limits → ℕ → ℕ → Bool → ℕ → Option Rule
limit_broken limits drawn live counted cells = if nat_le limits.objects drawn then Some rule.LimitObjects else if counted && nat_lt limits.cells (live + cells) then Some rule.LimitCells else None
