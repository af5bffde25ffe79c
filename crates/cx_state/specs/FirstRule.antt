-- Which rule is told where several are broken ([expr.const]).
use Rattle.std.specs.Prelude.{◌≡◌, true, false, List, ◌∷◌, ◌++◌, All}
use Rattle.cx_base.specs.declared.rule.Rule.{Rule}
use Rattle.cx_type_defs.specs.Tables.{Tables}
use Rattle.cx_state.specs.Objects.{Path, Object}
use Rattle.cx_state.specs.Conditions.{Access, order, holds}

-- the rule stands in the access's order, it holds for the object, and none that stands before it does
pub record IsFirst (t : Tables) (o : Object) (p : Path) (access : Access) (r : Rule) : Type 0 where
  pub before : List Rule
  pub after : List Rule
  pub in_order : order access ≡ before ++ r ∷ after
  pub holds_here : holds t o p access r ≡ true
  pub none_before : All (λ q. holds t o p access q ≡ false) before
