use Rattle.std.proofs.Common.{subst}
use Rattle.cx_store.specs.Stores.{MayTake, seen}
use Rattle.use_store.proofs.Pointing.{led_scalar, led_takes}
use Rattle.use_store.proofs.assign_through.Goals as goal

pub store-requires-clause-scalar : goal.store-requires-clause-scalar
store-requires-clause-scalar g c =
    let path = g.S.Store.path c.args.store.now in
    let os = g.S.Store.objects c.args.store.now in
    let led = subst (λ v. MayTake c.args.types.now os (path c.args.to) (seen path v)) c.in-Place.is c.in_ok-target.ensures.holds in
    led_scalar c.args.types.now os (path c.args.to) (path c.args.from) (path c.in-Place.target) c.requires.same led

pub store-requires-clause-holds : goal.store-requires-clause-holds
store-requires-clause-holds g c =
    let path = g.S.Store.path c.args.store.now in
    let os = g.S.Store.objects c.args.store.now in
    let led = subst (λ v. MayTake c.args.types.now os (path c.args.to) (seen path v)) c.in-Place.is c.in_ok-target.ensures.holds in
    led_takes c.args.types.now os (path c.args.to) (path c.args.from) (path c.in-Place.target) (seen path c.in_ok-value.value) c.requires.same led c.in_ok-value.ensures.holds
