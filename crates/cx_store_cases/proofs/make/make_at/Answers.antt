use Rattle.std.proofs.Common.{Some, refl}
use Rattle.cx_store.specs.Stores.{request}
use Rattle.cx_store_cases.proofs.Made.{stands-made, seat-made}
use Rattle.cx_store_cases.proofs.make.make_at.Goals as goal

pub returns-in-Ok-clause-stands : goal.returns-in-Ok-clause-stands
returns-in-Ok-clause-stands g c = stands-made c.args.sample.now.types (g.S.Store.objects c.args.store.now) (g.S.Store.path c.args.store.now) _ _ c.args.desk.now.limits (request c.in_ok-ty.ty c.in_ok-made.made.count c.in_ok-made.made.kind c.in_ok-made.made.konst c.in_ok-made.made.birth) (g.S.Store.objects c.make.new.self) (g.S.Store.path c.make.new.self) c.make.result c.args.desk.now (c.is_whole.ensures c.if-not-is_whole.false) c.requires c.make.ensures.fit c.make.ensures.knows c.make.ensures.paths c.make.ensures.made

pub returns-in-Ok-clause-seat : goal.returns-in-Ok-clause-seat
returns-in-Ok-clause-seat g c = seat-made c.args.sample.now.types (g.S.Store.objects c.args.store.now) (g.S.Store.path c.args.store.now) c.args.desk.now.limits (request c.in_ok-ty.ty c.in_ok-made.made.count c.in_ok-made.made.kind c.in_ok-made.made.konst c.in_ok-made.made.birth) (g.S.Store.objects c.make.new.self) (g.S.Store.path c.make.new.self) (record { name = c.args.name; place = c.in-Ok.place; kind = Some c.whole_kind-kind.result }) c.whole_kind-kind.result c.whole_kind-kind.ensures refl c.in-Ok.ensures.made

pub returns-in-Err-Rule-clause-stands : goal.returns-in-Err-Rule-clause-stands
returns-in-Err-Rule-clause-stands g c = stands-made c.args.sample.now.types (g.S.Store.objects c.args.store.now) (g.S.Store.path c.args.store.now) _ _ c.args.desk.now.limits (request c.in_ok-ty.ty c.in_ok-made.made.count c.in_ok-made.made.kind c.in_ok-made.made.konst c.in_ok-made.made.birth) (g.S.Store.objects c.make.new.self) (g.S.Store.path c.make.new.self) c.make.result c.args.desk.now (c.is_whole.ensures c.if-not-is_whole.false) c.requires c.make.ensures.fit c.make.ensures.knows c.make.ensures.paths c.make.ensures.made

pub returns-in-Err-Memory-clause-stands : goal.returns-in-Err-Memory-clause-stands
returns-in-Err-Memory-clause-stands g c = stands-made c.args.sample.now.types (g.S.Store.objects c.args.store.now) (g.S.Store.path c.args.store.now) _ _ c.args.desk.now.limits (request c.in_ok-ty.ty c.in_ok-made.made.count c.in_ok-made.made.kind c.in_ok-made.made.konst c.in_ok-made.made.birth) (g.S.Store.objects c.make.new.self) (g.S.Store.path c.make.new.self) c.make.result c.args.desk.now (c.is_whole.ensures c.if-not-is_whole.false) c.requires c.make.ensures.fit c.make.ensures.knows c.make.ensures.paths c.make.ensures.made
