use Rattle.std.proofs.Common.{arith}
use Rattle.cx_store_cases.proofs.Made.{below-mark, kept-more}
use Rattle.cx_store_cases.proofs.make.keep.Goals as goal

pub returns-in-Ok : goal.returns-in-Ok
returns-in-Ok g c = kept-more c.args.types.now (g.S.Store.objects c.args.store.now) (g.S.Store.path c.args.store.now) c.args.mark c.args.kept.now.items c.push.new.self.items c.args.seat c.requires.kept c.requires.seat (below-mark c.args.types.now (g.S.Store.objects c.args.store.now) (g.S.Store.path c.args.store.now) c.args.seat c.root.result c.args.mark c.requires.seat c.root.ensures.root (omega arith)) c.in-Ok.ensures.items
