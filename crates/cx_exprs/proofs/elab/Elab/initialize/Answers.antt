use Rattle.cx_typed.specs.Shown.{shown, vars_shown}
use Rattle.cx_exprs.proofs.Desked.{ints_same, initialized_fits}
use Rattle.cx_exprs.proofs.elab.Elab.initialize.Goals as goal

pub invariant_of-self : goal.invariant_of-self
invariant_of-self g c =
    let h = c.self.invariant in (
      ints_same c.self.inside.program.types c.initialize.new.self.types c.self.inside.ints c.initialize.ensures.types h.0,
      initialized_fits (g.J.Judge.fits c.self.inside.judge) (g.J.Judge.fits_grown c.self.inside.judge) (vars_shown c.self.inside.program) (vars_shown c.initialize.new.self) c.args.variable (shown c.self.inside.program.types c.args.init) (rw (← c.self.view_is) at c.requires.fresh) c.initialize.ensures.initialized h.1,
    )
