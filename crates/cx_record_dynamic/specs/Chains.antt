-- The objects that enclose a part through bases, and which of them decides ([class.cdtor]).
use Rattle.std.specs.Prelude.{◌≡◌, ℕ, ◌+◌, Bool, false, ◌||◌, List, Option, None, Some, slice_get, option_and_then, if◌then◌else◌}
use Rattle.std.specs.List.{find}
use Rattle.cx_type_defs.specs.declared.ids.Step.{Step}
use Rattle.cx_type_defs.specs.declared.ids.ClassId.{ClassId}
use Rattle.cx_type_defs.specs.declared.kind.TypeRow.{TypeRow}
use Rattle.cx_type_defs.specs.declared.kind.TypeKind.{TypeKind}
use Rattle.cx_type_defs.specs.declared.kind.TypeKind.TheVariants as kind
use Rattle.cx_type_defs.specs.Tables.{Tables}
use Rattle.cx_state.specs.Objects.{Tree, below}
use Rattle.cx_state.specs.Places.{row_below}
use Rattle.cx_state.specs.Conditions as on
use Rattle.cx_shapes.specs.Forms.{Form, Class, steps_at}
use Rattle.cx_shapes.specs.Contents.{Cell}
use Rattle.cx_records.specs.declared.place.Place.{Place}
use Rattle.cx_records.specs.declared.place.End.TheVariants as end
use Rattle.cx_records.specs.declared.record.Record.{Record}
use Rattle.cx_records.specs.Records.{path_in, record_form, forms_in, object_in}
use Rattle.cx_record_dynamic.specs.declared.chain.Found.{Found}
use Rattle.cx_record_dynamic.specs.declared.chain.Chain.{Chain}
use Rattle.cx_record_dynamic.specs.declared.decide.Decider.{Decider}

-- a class that decides
abbrev pub is_deciding_class : Form → Cell → Bool
is_deciding_class (Class bs ms) c = on.is_deciding_phase c.phase
is_deciding_class f c = false

-- what is there, where the way to it is open
abbrev pub shown : Bool → Tree → Option Tree
shown there x = if there then Some x else None

-- the outermost of those that enclose what the steps lead to, seen from where they begin, that decides
abbrev pub decider : Bool → Option Tree → List Step → Option (List Step)
decider opaque o ss = find (λ us. opaque || on.passes on.is_deciding (option_and_then (λ x. below x us) o)) (on.enclosing ss)

-- a part that was counted from another
abbrev pub behind : ℕ → Found → Found
behind n x = record { number = n + x.number; row = x.row }

-- it is the part that the steps lead to
abbrev pub IsFound : Tables → Form → TypeRow → Option (List Step) → Option Found → Type 0
IsFound t f r None None = Unit {0}
IsFound t f r (Some us) (Some x) = (steps_at f x.number ≡ Some us) × (row_below t r us ≡ Some x.row)
IsFound t f r _ _ = ⊥

pub record IsChain (t : Tables) (f : Form) (r : TypeRow) (o : Option Tree) (opaque : Bool) (ss : List Step) (k : Chain) : Type 0 where
  pub is_bases : k.bases ≡ on.all_bases ss
  pub is_found : IsFound t f r (decider opaque o ss) k.found

-- the class of what was found
abbrev pub class_at : ℕ → TypeKind → Option Decider
class_at n (kind.Class c) = Some (record { class = c; number = n })
class_at n k = None

abbrev pub class_found : Option Found → Option Decider
class_found None = None
class_found (Some x) = class_at x.number x.row.kind

abbrev pub IsDecider : Form → Option (ClassId × List Step) → Option Decider → Type 0
IsDecider f None None = Unit {0}
IsDecider f (Some x) (Some d) = (x.0 ≡ d.class) × (steps_at f d.number ≡ Some x.1)
IsDecider f _ _ = ⊥

-- what decides at a place that isn't past an end
abbrev pub IsDeciderAt : Tables → List Record → Place → Option Decider → Type 0
IsDeciderAt t rs p d = p.end ≡ end.At → (r : Record) → slice_get rs p.object ≡ Some r → IsDecider (record_form r) (on.dynamic_in t (object_in (forms_in rs) r) (path_in (forms_in rs) p).steps) d
