use Rattle.std.proofs.Common.{◌≡◌, ◌<◌, ◌≤◌, length, None, Some, slice_get, refl, sym, ap, subst, ◌∙◌, arith}
use Rattle.std.proofs.lemmas.Option.{slice_get_past}
use Rattle.std.specs.Prelude.{option_map}
use Rattle.cx_slots.specs.Slots.{slot_seen}
use Rattle.cx_blocks.specs.Stored.{path}
use Rattle.cx_blocks.specs.Seen.{phase_of}
use Rattle.cx_blocks.specs.News.{NewAt}
use Rattle.cx_blocks.proofs.Lists.{lent}
use Rattle.cx_blocks.proofs.Showing.{table_new, kept_shows, fresh_shows, slot_cells, slot_ended}
use Rattle.cx_blocks.proofs.blocks.Blocks.slot.Goals as goal

pub returns-then-i-len-clause-cells : goal.returns-then-i-len-clause-cells
returns-then-i-len-clause-cells c t o f fits g h =
    let s = c.args.self.now in
    let n = c.args.number in
    let b = c.block-block.result.now in
    let e = c.block-block.ensures in
    let r = ap (option_map (slot_seen (path s))) (sym (slice_get_past b.slots.items c.args.i (omega arith))) ∙ kept_shows s.layouts s.blocks.items n b e t o s.live fits g c.args.i f h c.if-block.true in
    slot_cells s.layouts s.blocks.items n b e t o s.live fits g c.args.i f h None r

pub returns-then-i-len-clause-ended : goal.returns-then-i-len-clause-ended
returns-then-i-len-clause-ended c t o f fits g h z =
    let s = c.args.self.now in
    let n = c.args.number in
    let b = c.block-block.result.now in
    let e = c.block-block.ensures in
    let r = ap (option_map (slot_seen (path s))) (sym (slice_get_past b.slots.items c.args.i (omega arith))) ∙ kept_shows s.layouts s.blocks.items n b e t o s.live fits g c.args.i f h c.if-block.true in
    slot_ended s.layouts s.blocks.items n b e t o s.live fits g c.args.i f h None r z

pub returns-then-block-clause-tree : goal.returns-then-block-clause-tree
returns-then-block-clause-tree c t o f fits g h =
    let s = c.args.self.now in
    let n = c.args.number in
    let b = c.block-block.result.now in
    let e = c.block-block.ensures in
    let i : slice_get b.slots.items c.args.i ≡ Some c.index.result.now = lent b.slots.items c.args.i c.index.result.now (omega arith) c.index.ensures in
    let r = ap (option_map (slot_seen (path s))) (sym i) ∙ kept_shows s.layouts s.blocks.items n b e t o s.live fits g c.args.i f h c.if-block.true in
    r

pub returns-then-block-clause-cells : goal.returns-then-block-clause-cells
returns-then-block-clause-cells c t o f fits g h =
    let s = c.args.self.now in
    let n = c.args.number in
    let b = c.block-block.result.now in
    let e = c.block-block.ensures in
    let i : slice_get b.slots.items c.args.i ≡ Some c.index.result.now = lent b.slots.items c.args.i c.index.result.now (omega arith) c.index.ensures in
    let r = ap (option_map (slot_seen (path s))) (sym i) ∙ kept_shows s.layouts s.blocks.items n b e t o s.live fits g c.args.i f h c.if-block.true in
    slot_cells s.layouts s.blocks.items n b e t o s.live fits g c.args.i f h (Some c.index.result.now) r

pub returns-then-block-clause-ended : goal.returns-then-block-clause-ended
returns-then-block-clause-ended c t o f fits g h z =
    let s = c.args.self.now in
    let n = c.args.number in
    let b = c.block-block.result.now in
    let e = c.block-block.ensures in
    let i : slice_get b.slots.items c.args.i ≡ Some c.index.result.now = lent b.slots.items c.args.i c.index.result.now (omega arith) c.index.ensures in
    let r = ap (option_map (slot_seen (path s))) (sym i) ∙ kept_shows s.layouts s.blocks.items n b e t o s.live fits g c.args.i f h c.if-block.true in
    slot_ended s.layouts s.blocks.items n b e t o s.live fits g c.args.i f h (Some c.index.result.now) r z

pub returns-clause-tree : goal.returns-clause-tree
returns-clause-tree c t o f fits g h =
    let s = c.args.self.now in
    let n = c.args.number in
    let b = c.block-block.result.now in
    let e = c.block-block.ensures in
    let p : NewAt c.columns.result.now.nodes.items c.columns.result.now.parts.items (phase_of b) 0 c.args.i c.fresh_slot.result = subst (λ q. NewAt c.columns.result.now.nodes.items c.columns.result.now.parts.items q 0 c.args.i c.fresh_slot.result) c.phase-phase.ensures c.fresh_slot.ensures in
    let r = fresh_shows s.layouts s.blocks.items n b e t o s.live fits g c.args.i f h c.if-block.false c.columns.result.now c.columns.ensures.form c.columns.ensures.table c.fresh_slot.result p in
    r

pub returns-clause-cells : goal.returns-clause-cells
returns-clause-cells c t o f fits g h =
    let s = c.args.self.now in
    let n = c.args.number in
    let b = c.block-block.result.now in
    let e = c.block-block.ensures in
    let p : NewAt c.columns.result.now.nodes.items c.columns.result.now.parts.items (phase_of b) 0 c.args.i c.fresh_slot.result = subst (λ q. NewAt c.columns.result.now.nodes.items c.columns.result.now.parts.items q 0 c.args.i c.fresh_slot.result) c.phase-phase.ensures c.fresh_slot.ensures in
    let r = fresh_shows s.layouts s.blocks.items n b e t o s.live fits g c.args.i f h c.if-block.false c.columns.result.now c.columns.ensures.form c.columns.ensures.table c.fresh_slot.result p in
    slot_cells s.layouts s.blocks.items n b e t o s.live fits g c.args.i f h c.fresh_slot.result r

pub returns-clause-ended : goal.returns-clause-ended
returns-clause-ended c t o f fits g h z =
    let s = c.args.self.now in
    let n = c.args.number in
    let b = c.block-block.result.now in
    let e = c.block-block.ensures in
    let p : NewAt c.columns.result.now.nodes.items c.columns.result.now.parts.items (phase_of b) 0 c.args.i c.fresh_slot.result = subst (λ q. NewAt c.columns.result.now.nodes.items c.columns.result.now.parts.items q 0 c.args.i c.fresh_slot.result) c.phase-phase.ensures c.fresh_slot.ensures in
    let r = fresh_shows s.layouts s.blocks.items n b e t o s.live fits g c.args.i f h c.if-block.false c.columns.result.now c.columns.ensures.form c.columns.ensures.table c.fresh_slot.result p in
    slot_ended s.layouts s.blocks.items n b e t o s.live fits g c.args.i f h c.fresh_slot.result r z
