-- A walk to a part.
use Rattle.std.specs.Prelude.{◌≡◌, ℕ, Bool, List, Some}
use Rattle.cx_type_defs.specs.declared.ids.Step.{Step}
use Rattle.cx_shapes.specs.Forms.{Form, steps_at, below_of}
use Rattle.cx_shapes.specs.Contents.{Cells, opens, dies}

-- the part with that number has this form; whether the way there is open, and whether it passes a dead class
pub record Walked (f : Form) (c : Cells) (b j : ℕ) (g : Form) (there dead : Bool) : Type 0 where
  pub steps : List Step
  pub are_steps : steps_at f j ≡ Some steps
  pub leads : below_of f steps ≡ Some (j, g)
  pub is_open : there ≡ opens f c b steps
  pub is_dead : dead ≡ dies f c b steps
