use Rattle.std.proofs.Common.{◌≡◌, None, Some, Ok, Err, refl, sym, ◌∙◌}
use Rattle.std.specs.List.{find}
use Rattle.cx_store.specs.Stores as says
use Rattle.cx_store.specs.declared.store.StoreAnswer.TheVariants as answer
use Rattle.cx_state.specs.Counts.{new_object, passes_limit, limit_order}
use Rattle.cx_state_kept.proofs.Keeping.{made_or_not}
use Rattle.cx_blocks.specs.Stored.{objects, path}
use Rattle.cx_blocks.proofs.Making.{limit_is, make_err, not_objects, not_paths, not_fits, made_paths, made_is, made_fits, made_known}
use Rattle.cx_blocks.proofs.store.BlocksStore.make.Goals as goal

pub returns-in-Some-clause-made : goal.returns-in-Some-clause-made
returns-in-Some-clause-made c =
    let s = c.args.self.now in
    let t = c.args.types.now in
    let q = says.request c.args.ty c.args.length c.args.kind c.args.konst c.args.birth in
    (make_err t c.args.limits.now (objects s) q c.in-Some.rule (sym (limit_is t c.args.limits.now s.layouts s.blocks.items s.live q c.counts.result c.cells_of.result c.requires.fits c.counts.ensures c.cells_of.ensures) ∙ sym c.limit_rule.ensures.gives ∙ c.in-Some.is), refl)

pub returns-in-Err-clause-made : goal.returns-in-Err-clause-made
returns-in-Err-clause-made c =
    let s = c.args.self.now in
    let n = c.add_block.new.self in
    let t = c.args.types.now in
    let q = says.request c.args.ty c.args.length c.args.kind c.args.konst c.args.birth in (
      sym (limit_is t c.args.limits.now s.layouts s.blocks.items s.live q c.counts.result c.cells_of.result c.requires.fits c.counts.ensures c.cells_of.ensures) ∙ sym c.limit_rule.ensures.gives ∙ c.in-None.is,
      not_objects t c.sound.ensures s.layouts n.layouts s.blocks.items n.blocks.items s.live n.live c.requires.fits s.known c.in-Err.ensures.err,
    )

pub returns-in-Err-clause-paths : goal.returns-in-Err-clause-paths
returns-in-Err-clause-paths c =
    let s = c.args.self.now in
    let n = c.add_block.new.self in
    not_paths c.args.types.now c.sound.ensures s.layouts n.layouts s.blocks.items n.blocks.items s.live n.live c.requires.fits s.known c.in-Err.ensures.err

pub returns-in-Err-clause-fit : goal.returns-in-Err-clause-fit
returns-in-Err-clause-fit c =
    let s = c.args.self.now in
    let n = c.add_block.new.self in
    not_fits c.args.types.now c.sound.ensures s.layouts n.layouts s.blocks.items n.blocks.items s.live n.live c.requires.fits s.known c.in-Err.ensures.err

pub returns-in-Err-clause-knows : goal.returns-in-Err-clause-knows
returns-in-Err-clause-knows c =
    let q = says.request c.args.ty c.args.length c.args.kind c.args.konst c.args.birth in
    made_or_not c.args.types.now c.args.limits.now q (objects c.args.self.now) (objects c.add_block.new.self) (path c.add_block.new.self) (Err answer.Memory) (returns-in-Err-clause-made c)

pub returns-in-Ok-clause-made : goal.returns-in-Ok-clause-made
returns-in-Ok-clause-made c =
    let s = c.args.self.now in
    let n = c.add_block.new.self in
    let t = c.args.types.now in
    let q = says.request c.args.ty c.args.length c.args.kind c.args.konst c.args.birth in
    made_is t c.sound.ensures s.layouts n.layouts s.blocks.items n.blocks.items s.live n.live c.requires.fits s.known q c.in-Ok.place c.in-Ok.ensures.ok c.requires.whole.complete c.args.limits.now
    (sym (limit_is t c.args.limits.now s.layouts s.blocks.items s.live q c.counts.result c.cells_of.result c.requires.fits c.counts.ensures c.cells_of.ensures) ∙ sym c.limit_rule.ensures.gives ∙ c.in-None.is)

pub returns-in-Ok-clause-known : goal.returns-in-Ok-clause-known
returns-in-Ok-clause-known c =
    let s = c.args.self.now in
    let n = c.add_block.new.self in
    let t = c.args.types.now in
    let q = says.request c.args.ty c.args.length c.args.kind c.args.konst c.args.birth in
    made_known t c.sound.ensures s.layouts n.layouts s.blocks.items n.blocks.items s.live n.live c.requires.fits s.known q c.in-Ok.place c.in-Ok.ensures.ok c.requires.whole.complete c.args.limits.now
    (sym (limit_is t c.args.limits.now s.layouts s.blocks.items s.live q c.counts.result c.cells_of.result c.requires.fits c.counts.ensures c.cells_of.ensures) ∙ sym c.limit_rule.ensures.gives ∙ c.in-None.is)

pub returns-in-Ok-clause-paths : goal.returns-in-Ok-clause-paths
returns-in-Ok-clause-paths c =
    let s = c.args.self.now in
    let n = c.add_block.new.self in
    let q = says.request c.args.ty c.args.length c.args.kind c.args.konst c.args.birth in
    made_paths c.args.types.now c.sound.ensures s.layouts n.layouts s.blocks.items n.blocks.items s.live n.live c.requires.fits s.known q c.in-Ok.place c.in-Ok.ensures.ok c.requires.whole.complete

pub returns-in-Ok-clause-fit : goal.returns-in-Ok-clause-fit
returns-in-Ok-clause-fit c =
    let s = c.args.self.now in
    let n = c.add_block.new.self in
    let t = c.args.types.now in
    let q = says.request c.args.ty c.args.length c.args.kind c.args.konst c.args.birth in
    made_fits t c.sound.ensures s.layouts n.layouts s.blocks.items n.blocks.items s.live n.live c.requires.fits s.known q c.in-Ok.place c.in-Ok.ensures.ok c.requires.whole.complete c.args.limits.now
    (sym (limit_is t c.args.limits.now s.layouts s.blocks.items s.live q c.counts.result c.cells_of.result c.requires.fits c.counts.ensures c.cells_of.ensures) ∙ sym c.limit_rule.ensures.gives ∙ c.in-None.is)

pub returns-in-Ok-clause-knows : goal.returns-in-Ok-clause-knows
returns-in-Ok-clause-knows c =
    let q = says.request c.args.ty c.args.length c.args.kind c.args.konst c.args.birth in
    made_or_not c.args.types.now c.args.limits.now q (objects c.args.self.now) (objects c.add_block.new.self) (path c.add_block.new.self) (Ok c.in-Ok.place) (returns-in-Ok-clause-made c)
