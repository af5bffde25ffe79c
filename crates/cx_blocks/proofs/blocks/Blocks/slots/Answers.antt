use Rattle.std.proofs.Common.{◌<◌, refl, sym, subst, ◌∙◌}
use Rattle.cx_blocks.specs.Seen.{objects_in}
use Rattle.cx_blocks.proofs.Lists.{get_within}
use Rattle.cx_blocks.proofs.Objects.{as_many}
use Rattle.cx_blocks.proofs.Showing.{kept_living, told_kept, shown}
use Rattle.cx_blocks.proofs.blocks.Blocks.slots.Goals as goal

pub returns-then-block : goal.returns-then-block
returns-then-block c =
    let s = c.args.self.now in
    let n = c.args.number in
    let b = c.block-block.result.now in
    let e = c.block-block.ensures in
    record {
      lent = λ t o f fits h g. shown s.layouts s.blocks.items n b e t o s.live fits h c.if-block.true f g c.as_slice.result.now c.as_slice.ensures.value;
      there = λ h. subst (λ m. n < m) (sym (as_many s.layouts s.blocks.items)) (get_within s.blocks.items n b e);
      living = λ h t o fits g. kept_living s.layouts s.blocks.items n b e t o s.live fits g c.if-block.true;
      told = λ t o fits g h k. refl;
    }

pub returns-else-block : goal.returns-else-block
returns-else-block c =
    let s = c.args.self.now in
    let n = c.args.number in
    let b = c.block-block.result.now in
    let e = c.block-block.ensures in
    record {
      lent = tt;
      there = λ h. absurd (cc);
      living = λ h. absurd (cc);
      told = λ t o fits g h k. sym c.if-block.false ∙ told_kept s.layouts s.blocks.items n b e t o s.live fits g h k;
    }
