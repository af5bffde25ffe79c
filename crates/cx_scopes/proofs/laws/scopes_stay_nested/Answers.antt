use Rattle.cx_scopes.proofs.Nesting.{nested-declared, nested-declared-in-space, nested-kept, nested-known-space, nested-left, nested-none, nested-with}
use Rattle.cx_scopes.proofs.laws.scopes_stay_nested.Goals as goal

pub returns : goal.returns
returns c = record {
  none = nested-none;
  declare = nested-declared;
  declare_in_space = nested-declared-in-space;
  enter = nested-with;
  enter_known_space = nested-known-space;
  leave = nested-left;
  kept = nested-kept;
}
