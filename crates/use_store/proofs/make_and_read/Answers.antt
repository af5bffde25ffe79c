use Rattle.std.proofs.Common.{None, false, sym, subst}
use Rattle.cx_state.specs.declared.kind.Kind.TheVariants as kind
use Rattle.cx_state.specs.declared.kind.Birth.TheVariants as birth
use Rattle.cx_store.specs.Stores.{IsScalarAt, request}
use Rattle.cx_state_kept.proofs.Holding.{held_path, is_of_stays}
use Rattle.use_store.proofs.Pointing.{held_read}
use Rattle.use_store.proofs.make_and_read.Goals as goal

pub load-requires-clause-scalar : goal.load-requires-clause-scalar
load-requires-clause-scalar g c =
    let before = g.S.Store.path c.args.store.now in
    let after = g.S.Store.path c.make.new.self in
    let old = g.S.Store.objects c.args.store.now in
    let new = g.S.Store.objects c.make.new.self in
    let same = held_path c.args.types.now old before after c.args.held c.in_ok-make.ensures.paths c.requires.known in
    subst (λ p. IsScalarAt c.args.types.now new p) (sym same) (is_of_stays _ c.args.types.now old new (before c.args.held) c.in_ok-make.ensures.knows c.requires.scalar)

pub returns-in-Ok-clause-read : goal.returns-in-Ok-clause-read
returns-in-Ok-clause-read g c =
    held_read c.args.types.now c.args.limits.now (request c.args.ty None kind.Auto false birth.Here) (g.S.Store.objects c.args.store.now) (g.S.Store.objects c.make.new.self)
    (g.S.Store.path c.args.store.now) (g.S.Store.path c.make.new.self) c.in_ok-make.field-0 c.args.held c.in-Ok.value c.in_ok-make.ensures.made c.in_ok-make.ensures.paths c.requires.known c.in-Ok.ensures.gives
