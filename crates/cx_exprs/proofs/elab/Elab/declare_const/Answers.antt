use Rattle.cx_typed.specs.Shown.{vars_shown}
use Rattle.cx_exprs.proofs.Desked.{ints_same, declared_fits, unchanged_fits}
use Rattle.cx_exprs.proofs.elab.Elab.declare_const.Goals as goal

pub invariant_of-self-in_default-declare : goal.invariant_of-self-in_default-declare
invariant_of-self-in_default-declare g c =
    let h = c.self.invariant in (
      ints_same c.self.inside.program.types c.declare-2.new.self.types c.self.inside.ints c.declare-2.ensures.types h.0,
      unchanged_fits (g.J.Judge.fits c.self.inside.judge) c.self.inside.program c.declare-2.new.self c.declare-2.ensures.types c.in_default-declare.ensures.err h.1,
    )

pub invariant_of-self-2 : goal.invariant_of-self-2
invariant_of-self-2 g c =
    let h = c.self.invariant in (
      ints_same c.self.inside.program.types c.declare-2.new.self.types c.self.inside.ints c.declare-2.ensures.types h.0,
      declared_fits (g.J.Judge.fits c.self.inside.judge) (g.J.Judge.fits_grown c.self.inside.judge) (vars_shown c.self.inside.program) (vars_shown c.declare-2.new.self) _ c.in-Ok-declare-2.ensures.declared h.1,
    )
