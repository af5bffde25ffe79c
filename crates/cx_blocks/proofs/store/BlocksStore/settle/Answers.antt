use Rattle.std.proofs.Common.{refl, sym, subst}
use Rattle.cx_store.specs.Stores.{StillKnows}
use Rattle.cx_state_kept.proofs.Keeping.{settle_keeps}
use Rattle.cx_blocks.specs.Seen.{paths_in, objects_in}
use Rattle.cx_blocks.proofs.Lists.{lent}
use Rattle.cx_blocks.proofs.Objects.{block_there, paths_set}
use Rattle.cx_blocks.proofs.Wholes.{born, settled_objects, settled_fits}
use Rattle.cx_blocks.proofs.store.BlocksStore.settle.Goals as goal

pub returns-clause-changed : goal.returns-clause-changed
returns-clause-changed c =
    let ds = c.args.self.now.layouts in
    let bs = c.args.self.now.blocks.items in
    let b = c.index_mut-block.result.now in
    settled_objects ds bs c.args.at b c.args.birth (lent bs c.args.at.block b (block_there ds bs c.args.at c.requires.present) c.index_mut-block.ensures.value)

pub returns-clause-paths : goal.returns-clause-paths
returns-clause-paths c =
    let ds = c.args.self.now.layouts in
    let bs = c.args.self.now.blocks.items in
    let b = c.index_mut-block.result.now in
    paths_set ds bs c.args.at.block b (born c.args.birth b) (lent bs c.args.at.block b (block_there ds bs c.args.at c.requires.present) c.index_mut-block.ensures.value) refl

pub returns-clause-fit : goal.returns-clause-fit
returns-clause-fit c = λ t f.
    let ds = c.args.self.now.layouts in
    let bs = c.args.self.now.blocks.items in
    let b = c.index_mut-block.result.now in
    settled_fits ds bs c.args.at b c.args.birth (lent bs c.args.at.block b (block_there ds bs c.args.at c.requires.present) c.index_mut-block.ensures.value) t c.args.self.now.live c.requires.here f

pub returns-clause-knows : goal.returns-clause-knows
returns-clause-knows c =
    let ds = c.args.self.now.layouts in
    let bs = c.args.self.now.blocks.items in
    let b = c.index_mut-block.result.now in
    let os = objects_in ds bs in
    subst (StillKnows os) (sym (settled_objects ds bs c.args.at b c.args.birth (lent bs c.args.at.block b (block_there ds bs c.args.at c.requires.present) c.index_mut-block.ensures.value))) (settle_keeps os (paths_in ds bs c.args.at) c.args.birth)
