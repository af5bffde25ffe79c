-- The token that ends every list is in no spelling and no front of one.
use Rattle.std.proofs.Common.{ℕ, refl}
use Rattle.cx_grammar.proofs.Plain.{plain_both, plain_as, plain_or, plain_maybe, plain_many, plain_upto, plain_measured, plain_unless}
use Rattle.cx_syntax.specs.declared.class.Class.TheVariants as k
use Rattle.cx_syntax.specs.Classes.{same_class}
use Rattle.cx_syntax.specs.Sets.{is_type, is_id}
use Rattle.cx_syntax.specs.Values.{ident_of}
use Rattle.cx_syntax.specs.Grammar as g
use Rattle.cx_syntax.specs.Grammar.{deeper}
use Rattle.cx_syntax.proofs.Endless.{Endless, endless_pick, before, behind, endless_specs, endless_ptrs, endless_assign, endless_braces, endless_below}
use Rattle.cx_syntax_parts.proofs.Endless.{endless_attrs}
use Rattle.cx_syntax_vars.specs.Grammar as l

pub endless_typedef : Endless l.typedef
unfolding same_class
endless_typedef = plain_as _ (plain_measured _ (before k.Typedef refl (plain_both endless_specs (plain_both endless_ptrs (behind k.Semicolon refl (endless_pick is_type ident_of refl))))))

module _ (n : ℕ) where
  endless_deep_assign : Endless (deeper n).assign
  endless_deep_assign = (endless_below n).assign

  endless_bound : Endless (g.bound (deeper n))
  unfolding same_class
  endless_bound = plain_as _ (plain_measured _ (before k.OpenBracket refl (behind k.CloseBracket refl (plain_maybe (endless_below n).cond))))

  endless_args : Endless (g.args (deeper n))
  unfolding same_class
  endless_args = plain_as _ (plain_both endless_deep_assign (plain_many (before k.Comma refl endless_deep_assign)))

  pub endless_init : Endless (l.init n)
  unfolding same_class
  endless_init = let braces = endless_braces (deeper n) (endless_below n) in plain_as _ (plain_measured _ (plain_or
      (plain_or (plain_as _ (before k.Equal refl (endless_assign (deeper n) (endless_below n)))) (plain_as _ (before k.Equal refl braces)))
      (plain_or (plain_as _ braces) (plain_as _ (plain_as _ (plain_measured _ (before k.OpenParen refl (behind k.CloseParen refl (plain_unless _ endless_args)))))))))

  pub endless_var : Endless (l.var n)
  unfolding same_class
  endless_var = plain_as _ (plain_measured _ (plain_both endless_ptrs (plain_both (endless_pick is_id ident_of refl) (plain_both (endless_attrs n) (plain_both (plain_upto 16 endless_bound) (plain_maybe endless_init))))))

  pub endless_vars : Endless (l.vars n)
  unfolding same_class
  endless_vars = plain_as _ (plain_both endless_var (plain_many (before k.Comma refl endless_var)))

  pub endless_param : Endless (l.param n)
  unfolding same_class
  endless_param = plain_as _ (plain_measured _ (plain_both (endless_attrs n) (plain_both endless_specs (plain_both endless_ptrs (plain_both (plain_maybe (endless_pick is_id ident_of refl))
      (plain_both (plain_upto 16 endless_bound) (plain_maybe (before k.Equal refl endless_deep_assign))))))))

  pub endless_params : Endless (l.params n)
  unfolding same_class
  endless_params = plain_as _ (plain_both endless_param (plain_many (before k.Comma refl endless_param)))

  pub endless_declared : Endless (l.declared n)
  unfolding same_class
  endless_declared = plain_both endless_specs (behind k.Semicolon refl endless_vars)

  pub endless_local : Endless (l.local n)
  endless_local = plain_as _ (plain_measured _ (plain_both (endless_attrs n) endless_declared))

  pub endless_bare_local : Endless (l.bare_local n)
  endless_bare_local = plain_as _ (plain_measured _ endless_declared)
