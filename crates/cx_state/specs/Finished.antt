-- Objects that are finished, as those are that a constant expression gives: the life of each class in them has begun
-- ([basic.life], [expr.const]).
use Rattle.std.specs.Prelude.{◌≡◌, Bool, true, false, List, Some}
use Rattle.std.specs.List.{list_any}
use Rattle.cx_type_defs.specs.declared.ids.Step.{Step}
use Rattle.cx_state.specs.declared.kind.Phase.TheVariants as phase
use Rattle.cx_state.specs.Objects.{Tree, Class, Object, below}
use Rattle.cx_state.specs.Conditions.{is_opaque, on_way, is_dead}

abbrev pub is_unborn : Tree → Bool
is_unborn (Class phase.Unborn bases members) = true
is_unborn _ = false

-- no part of it is a class that is unborn
abbrev pub IsFinished : Tree → Type 0
IsFinished x = (ss : List Step) (y : Tree) → below x ss ≡ Some y → is_unborn y ≡ false

-- Parts of the object may be asked for at these steps: it isn't released and no mere address, the place is past no end,
-- and none of the classes around it is unborn or has ended.
pub record IsOpen (o : Object) (ss : List Step) (past : Bool) : Type 0 where
  pub not_released : o.released ≡ false
  pub not_past : past ≡ false
  pub not_opaque : is_opaque o.birth ≡ false
  pub around : list_any (λ w. is_dead w.0) (on_way o.tree ss) ≡ false
