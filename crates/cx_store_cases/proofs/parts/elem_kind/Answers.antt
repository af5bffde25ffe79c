use Rattle.std.proofs.Common.{arith}
use Rattle.cx_type_defs.specs.declared.kind.TypeKind.TheVariants as kind
use Rattle.cx_store_cases.proofs.Seats.{element-known, elems, told-as}
use Rattle.cx_store_cases.proofs.parts.elem_kind.Goals as goal

pub row-requires : goal.row-requires
row-requires g c = element-known c.args.types.now (g.S.Store.objects c.args.store.now) (g.S.Store.path c.args.store.now) (g.S.Store.fits_objects c.args.store.now c.args.types.now c.requires.fits) c.args.at c.in-Array.of c.in-Array.count c.requires.seat (told-as c.args.at.kind _ (kind.Array c.in-Array.of c.in-Array.count) c.in_ok-kind.ensures c.in-Array.is)

pub returns-else-index-count : goal.returns-else-index-count
returns-else-index-count g c = elems c.args.types.now (g.S.Store.objects c.args.store.now) (g.S.Store.path c.args.store.now) c.args.at c.in-Array.of c.in-Array.count c.args.index c.row.result c.requires.seat (told-as c.args.at.kind _ (kind.Array c.in-Array.of c.in-Array.count) c.in_ok-kind.ensures c.in-Array.is) (omega arith) c.row.ensures
