use Rattle.std.proofs.Common.{ap, sym, ◌∙◌, map, sum}
use Rattle.std.proofs.lemmas.List.{take_all}
use Rattle.cx_type_defs.specs.Slots.{slot_count}
use Rattle.cx_store_cases.proofs.sample.have_no_slots.Goals as goal

pub returns : goal.returns
returns c = λ _. sym (ap (λ l. sum (map (slot_count c.args.types.now) l)) (take_all c.loop-base.base-index c.args.bases.now c.loop-base-test.false)) ∙ c.loop-base.invariant
