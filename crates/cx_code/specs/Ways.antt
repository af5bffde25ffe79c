-- Where an instruction leads.
use Rattle.cx_code.specs.declared.instr.Instr.{Instr}
use Rattle.cx_code.specs.declared.instr.Instr.TheVariants as i
use Rattle.cx_code.specs.declared.way.Way.{Way}
use Rattle.cx_code.specs.declared.way.Way.TheVariants as w

abbrev pub way : Instr → Way
way (i.Go to) = w.Jump to
way (i.Unless to) = w.Either to
way (i.Turn to) = w.Back to
way (i.Break r) = w.End
way i.Return = w.End
way i.Leave = w.End
way _ = w.Forth
