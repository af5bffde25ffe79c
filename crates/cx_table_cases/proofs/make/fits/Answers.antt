use Rattle.std.proofs.Common.{true≢false, sym, ◌∙◌}
use Rattle.cx_table_cases.proofs.make.fits.Goals as goal

pub returns : goal.returns
returns c = λ _. record { alone = c.is_alone.ensures c.if-not-is_alone.false; tells_virtual = λ h. absurd (true≢false (sym h ∙ sym c.needs_virtual.ensures ∙ c.if-needs_virtual.false)) }
