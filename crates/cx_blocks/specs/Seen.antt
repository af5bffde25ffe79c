-- How blocks are seen: as objects, each with the tree that its slots stand for ([intro.object], [basic.life]).
use Rattle.std.specs.Prelude.{ℕ, Bool, true, false, List, map, if◌then◌else◌}
use Rattle.cx_state.specs.declared.kind.Phase.{Phase}
use Rattle.cx_state.specs.declared.kind.Phase.TheVariants as phase
use Rattle.cx_state.specs.Objects.{Path, Tree, Object, Objects}
use Rattle.cx_layout.specs.declared.columns.Descriptor.{Descriptor}
use Rattle.cx_layout.specs.declared.place.Place.{Place}
use Rattle.cx_layout.specs.Forms.{Form}
use Rattle.cx_layout.specs.Described.{form_at}
use Rattle.cx_slots.specs.Slots.{slots_seen}
use Rattle.cx_slots.specs.Flat.{picture}
use Rattle.cx_slots.specs.Fresh.{fresh}
use Rattle.cx_blocks.specs.declared.block.Block.{Block}
use Rattle.cx_blocks.specs.Paths.{path_in}

-- which descriptor each has
abbrev pub descs_in : List Block → List ℕ
descs_in bs = map (λ (b : Block). b.desc) bs

abbrev pub paths_in : List Descriptor → List Block → Place → Path
paths_in ds bs = path_in ds (descs_in bs)

-- where no slots are kept, all is new, or has ended
abbrev pub phase_of : Block → Phase
phase_of b = if b.released then phase.Ended else phase.Unborn

abbrev pub tree_in : (Place → Path) → Form → Block → Tree
tree_in path f b = if b.kept then picture f (slots_seen path b.slots.items) else fresh (phase_of b) f

abbrev pub object_in : (Place → Path) → List Descriptor → Block → Object
object_in path ds b = record { ty = b.ty; count = b.length; kind = b.kind; konst = b.konst; birth = b.birth; released = b.released; counted = b.counted; tree = tree_in path (form_at ds b.desc) b }

abbrev pub objects_in : List Descriptor → List Block → Objects
objects_in ds bs = map (object_in (paths_in ds bs) ds) bs
