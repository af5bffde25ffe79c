use Rattle.cx_store_cases.proofs.Made.{holds-none}
use Rattle.cx_store_cases.proofs.make.clear.Goals as goal

pub cut-requires-clause-free : goal.cut-requires-clause-free
cut-requires-clause-free g c = holds-none (g.S.Store.objects c.args.store.now)
