use Rattle.std.proofs.Common.{refl, arith}
use Rattle.cx_store_cases.proofs.Held.{may-cut}
use Rattle.cx_store_cases.proofs.Made.{stands-cut}
use Rattle.cx_store_cases.proofs.make.cut_at.Goals as goal

pub cut-requires-clause-free : goal.cut-requires-clause-free
cut-requires-clause-free g c = may-cut (g.S.Store.objects c.args.store.now) c.in_ok-mark.mark c.args.desk.now.safe (omega arith) c.requires.held

pub returns : goal.returns
returns g c = stands-cut c.args.types.now (g.S.Store.objects c.args.store.now) (g.S.Store.path c.args.store.now) _ _ (g.S.Store.objects c.cut.new.self) (g.S.Store.path c.cut.new.self) c.args.desk.now _ c.in_ok-mark.mark c.requires (c.cut.ensures.fit c.args.types.now c.requires.fits) c.in_ok-kept.ensures c.cut.ensures.cut c.cut.ensures.paths c.cut.ensures.knows refl
