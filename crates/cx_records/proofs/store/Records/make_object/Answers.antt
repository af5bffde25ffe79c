use Rattle.std.proofs.Common.{◌+◌, Ok, List, refl, sym, ap, subst, ◌∙◌, arith}
use Rattle.cx_state.specs.Forms.{Knows}
use Rattle.cx_store.specs.Stores as says
use Rattle.cx_records.specs.declared.record.Record.{Record}
use Rattle.cx_records.specs.Records.{objects_of, forms_in, path_in}
use Rattle.cx_records.specs.Fits.{Fits, live_in}
use Rattle.cx_records.proofs.Making.{limit_is, make_err, make_ok, objects_push, paths_push, fits_push, next_path, next_known, live_new}
use Rattle.cx_records.proofs.store.Records.make_object.Goals as goal

pub add_record-requires-clause-few : goal.add_record-requires-clause-few
add_record-requires-clause-few c = c.limit_rule.ensures.few c.in-None.is

pub add_record-requires-clause-room : goal.add_record-requires-clause-room
add_record-requires-clause-room c =
    let q = says.request c.args.ty c.args.count c.args.kind c.args.konst c.args.birth in
    let w = c.limit_rule.ensures.room c.in-None.is in
    let e = live_new c.args.types.now q c.in-Ok.record c.counts.result c.cells_of.result c.in-Ok.ensures c.counts.ensures c.cells_of.ensures in
    omega arith

pub returns-in-Some-clause-made : goal.returns-in-Some-clause-made
returns-in-Some-clause-made c =
    let t = c.args.types.now in
    let rs = c.args.self.now.records.items in
    let q = says.request c.args.ty c.args.count c.args.kind c.args.konst c.args.birth in
    (make_err t c.args.limits.now (objects_of rs) q c.in-Some.rule (sym (limit_is t c.args.limits.now rs c.args.self.now.live q c.counts.result c.cells_of.result c.requires.fits c.counts.ensures c.cells_of.ensures) ∙ sym c.limit_rule.ensures.gives ∙ c.in-Some.is), refl)

-- why nothing is made: a limit isn't it
pub returns-in-Err-clause-made : goal.returns-in-Err-clause-made
returns-in-Err-clause-made c =
    let q = says.request c.args.ty c.args.count c.args.kind c.args.konst c.args.birth in
    (sym (limit_is c.args.types.now c.args.limits.now c.args.self.now.records.items c.args.self.now.live q c.counts.result c.cells_of.result c.requires.fits c.counts.ensures c.cells_of.ensures) ∙ sym c.limit_rule.ensures.gives ∙ c.in-None.is, refl)

pub returns-in-Err-add_record-clause-made : goal.returns-in-Err-add_record-clause-made
returns-in-Err-add_record-clause-made c =
    let q = says.request c.args.ty c.args.count c.args.kind c.args.konst c.args.birth in
    (sym (limit_is c.args.types.now c.args.limits.now c.args.self.now.records.items c.args.self.now.live q c.counts.result c.cells_of.result c.requires.fits c.counts.ensures c.cells_of.ensures) ∙ sym c.limit_rule.ensures.gives ∙ c.in-None.is, ap objects_of c.in-Err-add_record.ensures.err.0)

pub returns-in-Ok-add_record-clause-made : goal.returns-in-Ok-add_record-clause-made
returns-in-Ok-add_record-clause-made c =
    let t = c.args.types.now in
    let rs = c.args.self.now.records.items in
    let q = says.request c.args.ty c.args.count c.args.kind c.args.konst c.args.birth in
    let e = c.in-Ok-add_record.ensures.ok in
    let p = c.in-Ok-add_record.ensures.place in
    let no = sym (limit_is t c.args.limits.now rs c.args.self.now.live q c.counts.result c.cells_of.result c.requires.fits c.counts.ensures c.cells_of.ensures) ∙ sym c.limit_rule.ensures.gives ∙ c.in-None.is in (
      make_ok t c.args.limits.now (objects_of rs) q no ∙ ap Ok (sym (ap objects_of e ∙ objects_push t rs c.args.self.now.live q c.in-Ok.record c.requires.fits c.in-Ok.ensures c.requires.whole.complete)),
      ap (λ (z : List Record). path_in (forms_in z) c.in-Ok-add_record.place) e ∙ next_path rs c.in-Ok.record c.in-Ok-add_record.place p.0 p.1 p.2,
    )

pub returns-in-Ok-add_record-clause-known : goal.returns-in-Ok-add_record-clause-known
returns-in-Ok-add_record-clause-known c =
    let t = c.args.types.now in
    let rs = c.args.self.now.records.items in
    let q = says.request c.args.ty c.args.count c.args.kind c.args.konst c.args.birth in
    let e = c.in-Ok-add_record.ensures.ok in
    let p = c.in-Ok-add_record.ensures.place in
    let no = sym (limit_is t c.args.limits.now rs c.args.self.now.live q c.counts.result c.cells_of.result c.requires.fits c.counts.ensures c.cells_of.ensures) ∙ sym c.limit_rule.ensures.gives ∙ c.in-None.is in
    let ok = make_ok t c.args.limits.now (objects_of rs) q no in
    let f = fits_push t c.args.limits.now rs c.args.self.now.live (c.args.self.now.live + live_in c.in-Ok.record) q c.in-Ok.record c.requires.fits c.in-Ok.ensures c.requires.whole.complete ok refl in
    subst (λ (z : List Record). Knows t (objects_of z) (path_in (forms_in z) c.in-Ok-add_record.place)) (sym e) (next_known t rs (c.args.self.now.live + live_in c.in-Ok.record) c.in-Ok.record c.in-Ok-add_record.place f p.0 p.1 p.2)

pub returns-in-Ok-add_record-clause-paths : goal.returns-in-Ok-add_record-clause-paths
returns-in-Ok-add_record-clause-paths c = λ p l. ap (λ (z : List Record). path_in (forms_in z) p) c.in-Ok-add_record.ensures.ok ∙ paths_push c.args.self.now.records.items c.in-Ok.record p l

pub returns-in-Ok-add_record-clause-fit : goal.returns-in-Ok-add_record-clause-fit
returns-in-Ok-add_record-clause-fit c =
    let t = c.args.types.now in
    let rs = c.args.self.now.records.items in
    let q = says.request c.args.ty c.args.count c.args.kind c.args.konst c.args.birth in
    let no = sym (limit_is t c.args.limits.now rs c.args.self.now.live q c.counts.result c.cells_of.result c.requires.fits c.counts.ensures c.cells_of.ensures) ∙ sym c.limit_rule.ensures.gives ∙ c.in-None.is in
    let ok = make_ok t c.args.limits.now (objects_of rs) q no in
    subst (λ (z : List Record). Fits t z c.add_record.new.self.live) (sym c.in-Ok-add_record.ensures.ok)
    (fits_push t c.args.limits.now rs c.args.self.now.live c.add_record.new.self.live q c.in-Ok.record c.requires.fits c.in-Ok.ensures c.requires.whole.complete ok c.in-Ok-add_record.ensures.live)
