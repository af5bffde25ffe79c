use Rattle.std.proofs.Common.{◌-◌, refl, sym, ap, ◌∙◌}
use Rattle.cx_state.specs.Steps as steps
use Rattle.cx_state_kept.proofs.Keeping.{release_keeps}
use Rattle.cx_blocks.specs.declared.block.Block.{Block}
use Rattle.cx_blocks.specs.Seen.{paths_in, objects_in}
use Rattle.cx_blocks.specs.Fits.{live_in}
use Rattle.cx_blocks.proofs.Lists.{same_lent}
use Rattle.cx_blocks.proofs.Objects.{known_set, paths_set}
use Rattle.cx_blocks.proofs.Wholes.{give_up, release_refused, release_done, release_ok, release_fits}
use Rattle.cx_blocks.proofs.store.BlocksStore.release.Goals as goal

pub returns-then-block-clause-changed : goal.returns-then-block-clause-changed
returns-then-block-clause-changed c = release_refused c.args.self.now.layouts c.args.self.now.blocks.items c.args.at c.block-block.result.now c.block-block.result.now c.block-block.ensures c.if-block.true

pub invariant_of-self-clause-known : goal.invariant_of-self-clause-known
invariant_of-self-clause-known c =
    let bs = c.args.self.now.blocks.items in
    let b = c.index_mut-given_up.result.now in
    let w = same_lent bs c.args.at.block c.block-block.result.now b c.block-block.ensures c.index_mut-given_up.ensures.value in
    known_set c.args.self.now.layouts bs c.args.at.block b (give_up b (record b { slots = c.new.result })) w.0 refl c.args.self.now.known

pub returns-clause-changed : goal.returns-clause-changed
returns-clause-changed c =
    let bs = c.args.self.now.blocks.items in
    let b = c.index_mut-given_up.result.now in
    let w = same_lent bs c.args.at.block c.block-block.result.now b c.block-block.ensures c.index_mut-given_up.ensures.value in
    release_done c.args.self.now.layouts bs c.args.at b (record b { slots = c.new.result }) w.0 (ap (λ (x : Block). x.released) (sym w.1) ∙ c.if-block.false)

pub returns-clause-paths : goal.returns-clause-paths
returns-clause-paths c =
    let bs = c.args.self.now.blocks.items in
    let b = c.index_mut-given_up.result.now in
    let w = same_lent bs c.args.at.block c.block-block.result.now b c.block-block.ensures c.index_mut-given_up.ensures.value in
    paths_set c.args.self.now.layouts bs c.args.at.block b (give_up b (record b { slots = c.new.result })) w.0 refl

pub returns-clause-fit : goal.returns-clause-fit
returns-clause-fit c = λ t f.
    let bs = c.args.self.now.blocks.items in
    let b = c.index_mut-given_up.result.now in
    let w = same_lent bs c.args.at.block c.block-block.result.now b c.block-block.ensures c.index_mut-given_up.ensures.value in
    release_fits c.args.self.now.layouts bs c.args.at b (record b { slots = c.new.result }) w.0 (ap (λ (x : Block). x.released) (sym w.1) ∙ c.if-block.false) t c.args.self.now.live c.saturating_sub-self.result
    (c.saturating_sub-self.ensures ∙ ap (λ n. c.args.self.now.live - n) (c.live_cells-cells.ensures ∙ ap live_in w.1)) f

pub returns-clause-knows : goal.returns-clause-knows
returns-clause-knows c =
    let ds = c.args.self.now.layouts in
    let bs = c.args.self.now.blocks.items in
    let b = c.index_mut-given_up.result.now in
    let w = same_lent bs c.args.at.block c.block-block.result.now b c.block-block.ensures c.index_mut-given_up.ensures.value in
    release_keeps (objects_in ds bs) _ (paths_in ds bs c.args.at) (release_ok ds bs c.args.at b (record b { slots = c.new.result }) w.0 (ap (λ (x : Block). x.released) (sym w.1) ∙ c.if-block.false))
