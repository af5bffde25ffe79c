use Rattle.std.proofs.Common.{◌+◌, ◌≤◌, ◌<◌, sym, ap, subst, ◌∙◌, Some, arith}
use Rattle.cx_type_defs.specs.declared.ids.ClassId.{ClassId}
use Rattle.cx_type_defs.specs.Slots.{slot_count}
use Rattle.cx_types.proofs.Slots.{among-none, among-large, among-found, sum-before, sum-more}
use Rattle.cx_types.proofs.tables.Types.slot_among.Goals as goal

no_class : ClassId
no_class = record { 0 = 0 }

pub returns-then-base-bases : goal.returns-then-base-bases
returns-then-base-bases c = sym (among-none (slot_count c.args.self.now) c.args.bases.now c.args.base c.args.slot c.if-base-bases.true)

pub returns-then-slot-slot_count : goal.returns-then-slot-slot_count
returns-then-slot-slot_count c =
    sym (among-large (slot_count c.args.self.now) c.args.bases.now c.args.base c.args.slot (record { 0 = 0 }) c.if-base-bases.false (subst (λ n. n ≤ c.args.slot) c.slot_count.ensures c.if-slot-slot_count.true))

pub slots_together-requires : goal.slots_together-requires
slots_together-requires c = omega (arith, sum-before (slot_count c.args.self.now) c.args.bases.now c.args.base)

pub overflow_add-result : goal.overflow_add-result
overflow_add-result c = omega (arith, sum-more (slot_count c.args.self.now) c.args.bases.now c.args.base (record { 0 = 0 }) c.if-base-bases.false)

pub returns : goal.returns
returns c =
    ap (λ n. Some (n + c.args.slot)) c.slots_together.ensures
    ∙ sym (among-found (slot_count c.args.self.now) c.args.bases.now c.args.base c.args.slot (record { 0 = 0 }) c.if-base-bases.false (subst (λ n. c.args.slot < n) c.slot_count.ensures c.if-slot-slot_count.false))
