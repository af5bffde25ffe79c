use Rattle.cx_scopes.proofs.Counted.{has-found, has-found-by-args, has-found-in, more-same, names-declared, names-declared-in-space, names-known, names-known-space, names-left, names-more, names-none, names-with}
use Rattle.cx_scopes.proofs.laws.scopes_name_what_is.Goals as goal

pub returns : goal.returns
returns c = record {
  none = names-none;
  same = more-same;
  more = names-more;
  declare = names-declared;
  declare_in_space = names-declared-in-space;
  enter = names-with;
  enter_known_space = names-known-space;
  leave = names-left;
  find = λ p s sought name h. has-found p s h sought name;
  find_in = λ p s sought q name h. has-found-in p s h sought q name;
  find_by_args = λ p s t name args h. has-found-by-args p s h t name args;
  known = names-known;
}
