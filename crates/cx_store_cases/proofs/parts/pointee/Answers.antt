use Rattle.std.proofs.Common.{refl, inl, inr}
use Rattle.cx_type_defs.specs.declared.kind.TypeKind.TheVariants as kind
use Rattle.cx_store_cases.proofs.Seats.{told-as}
use Rattle.cx_store_cases.proofs.Reaching.{pointee-known, referee-known}
use Rattle.cx_store_cases.proofs.parts.pointee.Goals as goal

pub row-requires : goal.row-requires
row-requires g c = pointee-known c.args.types.now (g.S.Store.objects c.args.store.now) (g.S.Store.path c.args.store.now) (g.S.Store.fits_objects c.args.store.now c.args.types.now c.requires.fits) c.args.at c.in-Pointer.to c.requires.seat (told-as c.args.at.kind _ (kind.Pointer c.in-Pointer.to) c.in_ok-kind.ensures c.in-Pointer.is)

pub row-requires-in-Reference : goal.row-requires-in-Reference
row-requires-in-Reference g c = referee-known c.args.types.now (g.S.Store.objects c.args.store.now) (g.S.Store.path c.args.store.now) (g.S.Store.fits_objects c.args.store.now c.args.types.now c.requires.fits) c.args.at c.in-Reference.to c.requires.seat (told-as c.args.at.kind _ (kind.Reference c.in-Reference.to) c.in_ok-kind.ensures c.in-Reference.is)

pub returns-in-Pointer : goal.returns-in-Pointer
returns-in-Pointer g c = record { to = c.in-Pointer.to; leads = inl (told-as c.args.at.kind _ (kind.Pointer c.in-Pointer.to) c.in_ok-kind.ensures c.in-Pointer.is); row = c.row.result; is_row = c.row.ensures; is_kind = refl }

pub returns-in-Reference : goal.returns-in-Reference
returns-in-Reference g c = record { to = c.in-Reference.to; leads = inr (told-as c.args.at.kind _ (kind.Reference c.in-Reference.to) c.in_ok-kind.ensures c.in-Reference.is); row = c.row-in-Reference.result; is_row = c.row-in-Reference.ensures; is_kind = refl }
