-- What is made.
use Rattle.std.specs.Prelude.{◌≡◌, ℕ, ◌+◌, ◌*◌, ◌<◌, ◌&&◌, nat_le, nat_lt, if◌then◌else◌, Bool, true, false, not, List, [], ◌∷◌, ◌++◌, length, Option, None, Some, unwrap_or}
use Rattle.cx_base.specs.declared.rule.Rule.{Rule}
use Rattle.cx_base.specs.declared.rule.Rule.TheVariants as rule
use Rattle.cx_base.specs.declared.limits.Limits.{Limits}
use Rattle.cx_type_defs.specs.Tables.{Tables}
use Rattle.cx_type_defs.specs.Questions.{OfType, asked, cells_of}
use Rattle.cx_state.specs.declared.kind.Birth.{Birth}
use Rattle.cx_state.specs.declared.kind.Phase.TheVariants as phase
use Rattle.cx_state.specs.Objects.{Path}
use Rattle.cx_state.specs.Conditions.{is_opaque}
use Rattle.cx_state.specs.Counts as counts
use Rattle.cx_layout.specs.declared.columns.Descriptor.{Descriptor}
use Rattle.cx_layout.specs.declared.place.Place.{Place}
use Rattle.cx_layout.specs.Forms.{Form}
use Rattle.cx_layout.specs.TypeForms.{object_form}
use Rattle.cx_layout.specs.Described.{AreOf, form_at}
use Rattle.cx_slots.specs.declared.slot.SlotView.{SlotView}
use Rattle.cx_slots.specs.Fresh.{fresh}
use Rattle.cx_slot_calls.specs.Rules.{Show}
use Rattle.cx_blocks.specs.declared.block.Block.{Block}
use Rattle.cx_blocks.specs.Fits.{live_in}

-- descriptors of types, and perhaps others behind them
pub record Grown (t : Tables) (old new : List Descriptor) : Type 0 where
  pub more : List Descriptor
  pub behind : new ≡ old ++ more
  pub are_of : AreOf t new

-- the slots of a new object, unless it was made opaque
abbrev pub NewSlots : Birth → Form → List SlotView → Type 0
NewSlots b f l = is_opaque b ≡ false → (path : Place → Path) → Show path l f (fresh phase.Unborn f)

-- a new object's block
pub record IsNew (t : Tables) (ds : List Descriptor) (q : counts.Request) (b : Block) : Type 0 where
  pub same_ty : b.ty ≡ q.ty
  pub same_length : b.length ≡ q.count
  pub same_kind : b.kind ≡ q.kind
  pub same_konst : b.konst ≡ q.konst
  pub same_birth : b.birth ≡ q.birth
  pub living : b.released ≡ false
  pub counted : b.counted ≡ counts.counts q.kind q.birth
  pub cells : b.cells ≡ unwrap_or q.count 1 * unwrap_or (asked cells_of t (OfType q.ty)) 0
  pub known : b.desc < length ds
  pub form : object_form t q.ty q.count ≡ Some (form_at ds b.desc)
  pub kept : b.kept ≡ not (is_opaque q.birth)
  pub slots : NewSlots q.birth (form_at ds b.desc) b.slots.items

-- one more block, and its place
pub record Added (t : Tables) (q : counts.Request) (ds new_ds : List Descriptor) (bs new_bs : List Block) (live new_live : ℕ) (at : Place) : Type 0 where
  pub grown : Grown t ds new_ds
  pub block : Block
  pub is_new : IsNew t new_ds q block
  pub blocks : new_bs ≡ bs ++ block ∷ []
  pub lives : new_live ≡ live + live_in block
  pub place : at ≡ record { block = length bs; slot = 0; node = 0; past = false }

-- nothing is made
pub record NotAdded (t : Tables) (ds new_ds : List Descriptor) (bs new_bs : List Block) (live new_live : ℕ) : Type 0 where
  pub grown : Grown t ds new_ds
  pub blocks : new_bs ≡ bs
  pub lives : new_live ≡ live

-- the limit that one more object would pass, where so many were made and so many cells are live
abbrev pub limit_broken : Limits → ℕ → ℕ → Bool → ℕ → Option Rule
limit_broken limits drawn live counted cells = if nat_le limits.objects drawn then Some rule.LimitObjects else if counted && nat_lt limits.cells (live + cells) then Some rule.LimitCells else None
