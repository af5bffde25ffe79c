-- Parts that hold something.
use Rattle.std.specs.Prelude.{Bool, true, false, not}
use Rattle.cx_state.specs.declared.kind.Phase.{Phase}
use Rattle.cx_state.specs.declared.kind.Phase.TheVariants as phase
use Rattle.cx_shapes.specs.Forms.{Form, Leaf, Class}
use Rattle.cx_shapes.specs.Contents.{Cell}
use Rattle.cx_records.specs.Checks.{is_nothing}

abbrev pub is_alive_phase : Phase → Bool
is_alive_phase phase.Alive = true
is_alive_phase p = false

-- a class that is alive, or a scalar that has a value
abbrev pub holds_fast : Form → Cell → Bool
holds_fast Leaf c = not (is_nothing c.value)
holds_fast (Class bs ms) c = is_alive_phase c.phase
holds_fast f c = false
