-- What is on the way to a place, front by front of its steps ([class.union], [basic.life], [dcl.type.cv]).
use Rattle.std.specs.Prelude.{◌≡◌, Bool, true, List, ◌∷◌, ◌++◌, Some}
use Rattle.cx_type_defs.specs.declared.ids.Step.{Step}
use Rattle.cx_type_defs.specs.declared.kind.TypeRow.{TypeRow}
use Rattle.cx_type_defs.specs.Tables.{Tables}
use Rattle.cx_state.specs.Objects.{Tree, below}
use Rattle.cx_state.specs.Places.{row_below}
use Rattle.cx_state.specs.Conditions.{is_sealed}

-- some front of the steps leads to a tree that passes the test with the step that comes next
pub record OnWay (test : Tree × Step → Bool) (x : Tree) (ss : List Step) : Type 0 where
  pub before : List Step
  pub next : Step
  pub after : List Step
  pub in_order : ss ≡ before ++ next ∷ after
  pub tree : Tree
  pub is_there : below x before ≡ Some tree
  pub passes_here : test (tree, next) ≡ true

-- some front of the steps, or all of them, lead to a part that nothing may write to
pub record SealedOnWay (t : Tables) (r : TypeRow) (x : Tree) (ss : List Step) : Type 0 where
  pub before : List Step
  pub after : List Step
  pub in_order : ss ≡ before ++ after
  pub row : TypeRow
  pub is_row : row_below t r before ≡ Some row
  pub tree : Tree
  pub is_there : below x before ≡ Some tree
  pub sealed_here : is_sealed row tree ≡ true
