use Rattle.cx_typed.specs.Shown.{vars_shown}
use Rattle.cx_exprs.proofs.Desked.{ints_grown, same_fits}
use Rattle.cx_exprs.proofs.elab.Elab.const_id.Goals as goal

pub invariant_of-self : goal.invariant_of-self
invariant_of-self g c =
    let h = c.self.invariant in (
      ints_grown c.self.inside.program.types c.intern.new.self.types c.self.inside.ints c.intern.ensures.grows h.0,
      same_fits (g.J.Judge.fits c.self.inside.judge) (vars_shown c.self.inside.program) (vars_shown c.intern.new.self) c.intern.ensures.same h.1,
    )

pub invariant_of-self-2 : goal.invariant_of-self-2
invariant_of-self-2 g c =
    let h = c.self.invariant in (
      ints_grown c.self.inside.program.types c.intern.new.self.types c.self.inside.ints c.intern.ensures.grows h.0,
      same_fits (g.J.Judge.fits c.self.inside.judge) (vars_shown c.self.inside.program) (vars_shown c.intern.new.self) c.intern.ensures.same h.1,
    )
