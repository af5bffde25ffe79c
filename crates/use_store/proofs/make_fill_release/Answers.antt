use Rattle.std.proofs.Common.{Some, false, ◌∙◌}
use Rattle.cx_state.specs.declared.kind.Kind.TheVariants as kind
use Rattle.cx_state.specs.declared.kind.Birth.TheVariants as birth
use Rattle.cx_store.specs.Stores.{request}
use Rattle.use_store.proofs.Elements.{release_length, made_length}
use Rattle.cx_state_kept.proofs.Keeping.{then_keeps}
use Rattle.use_store.proofs.make_fill_release.Goals as goal

pub returns-in-Err-clause-knows : goal.returns-in-Err-clause-knows
returns-in-Err-clause-knows g c = then_keeps _ _ _ c.in_ok-array.ensures.knows c.in-Err.ensures.knows

pub returns-in-Ok-release-clause-knows : goal.returns-in-Ok-release-clause-knows
returns-in-Ok-release-clause-knows g c = then_keeps _ _ _ c.in_ok-array.ensures.knows (then_keeps _ _ _ c.in-Ok.ensures.knows c.in-Ok-release.ensures.knows)

pub returns-in-Ok-release-clause-one : goal.returns-in-Ok-release-clause-one
returns-in-Ok-release-clause-one g c = release_length _ _ (g.S.Store.path c.fill.new.store c.in_ok-array.array) _ c.in-Ok-release.ensures.changed ∙ c.in-Ok.ensures.number ∙ made_length c.args.types.now c.args.limits.now (request c.args.of (Some c.args.count) kind.HeapArray false birth.Here) _ _ (g.S.Store.path c.make.new.self) c.in_ok-array.array c.in_ok-array.ensures.made

pub returns-in-Err-release-clause-knows : goal.returns-in-Err-release-clause-knows
returns-in-Err-release-clause-knows g c = then_keeps _ _ _ c.in_ok-array.ensures.knows (then_keeps _ _ _ c.in-Ok.ensures.knows c.in-Err-release.ensures.knows)
