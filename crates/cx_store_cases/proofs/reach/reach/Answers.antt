use Rattle.std.proofs.Common.{Some, sym, ap, ◌∙◌}
use Rattle.cx_type_defs.specs.declared.kind.TypeKind.TheVariants as kind
use Rattle.cx_store.specs.Stores.{result_seen}
use Rattle.cx_store_cases.proofs.Seats.{placed-seat, field-seat, base-seat, elem-seat}
use Rattle.cx_store_cases.proofs.Reaching.{moved-seat, outer-seat}
use Rattle.cx_store_cases.proofs.reach.reach.Goals as goal

pub returns-in_ok-kind-in-field : goal.returns-in_ok-kind-in-field
returns-in_ok-kind-in-field g c = placed-seat c.args.sample.now.types (g.S.Store.objects c.args.store.now) (g.S.Store.path c.args.store.now) c.field.result c.placed.result (Some c.in_ok-kind-in-field.kind) c.placed.ensures.place c.placed.ensures.kind (λ s e n. field-seat c.args.sample.now.types (g.S.Store.objects c.args.store.now) (g.S.Store.path c.args.store.now) c.in_ok-from.from s c.in_ok-index-in-field.index c.in_ok-kind-in-field.kind c.in_ok-kind-in-field.ensures (sym c.field.ensures.gives ∙ ap (result_seen (g.S.Store.path c.args.store.now)) e) n)

pub returns-in_ok-kind-in-base : goal.returns-in_ok-kind-in-base
returns-in_ok-kind-in-base g c = placed-seat c.args.sample.now.types (g.S.Store.objects c.args.store.now) (g.S.Store.path c.args.store.now) c.base.result c.placed-in-base.result (Some c.in_ok-kind-in-base.kind) c.placed-in-base.ensures.place c.placed-in-base.ensures.kind (λ s e n. base-seat c.args.sample.now.types (g.S.Store.objects c.args.store.now) (g.S.Store.path c.args.store.now) c.in_ok-from.from s c.in_ok-index-in-base.index c.in_ok-kind-in-base.kind c.in_ok-kind-in-base.ensures (sym c.base.ensures.gives ∙ ap (result_seen (g.S.Store.path c.args.store.now)) e) n)

pub returns-in_ok-kind-in-elem : goal.returns-in_ok-kind-in-elem
returns-in_ok-kind-in-elem g c = placed-seat c.args.sample.now.types (g.S.Store.objects c.args.store.now) (g.S.Store.path c.args.store.now) c.elem.result c.placed-in-elem.result (Some c.in_ok-kind-in-elem.kind) c.placed-in-elem.ensures.place c.placed-in-elem.ensures.kind (λ s e n. elem-seat c.args.sample.now.types (g.S.Store.objects c.args.store.now) (g.S.Store.path c.args.store.now) c.in_ok-from.from s c.in_ok-index-in-elem.index c.in_ok-kind-in-elem.kind c.in_ok-kind-in-elem.ensures (sym c.elem.ensures.gives ∙ ap (result_seen (g.S.Store.path c.args.store.now)) e) n)

pub returns-in_ok-by-in-add : goal.returns-in_ok-by-in-add
returns-in_ok-by-in-add g c = placed-seat c.args.sample.now.types (g.S.Store.objects c.args.store.now) (g.S.Store.path c.args.store.now) c.add.result c.placed-in-add.result c.in_ok-from.from.kind c.placed-in-add.ensures.place c.placed-in-add.ensures.kind (λ s e n. moved-seat c.args.sample.now.types (g.S.Store.objects c.args.store.now) (g.S.Store.path c.args.store.now) c.in_ok-from.from s _ c.in_ok-from.ensures (sym c.add.ensures.gives ∙ ap (result_seen (g.S.Store.path c.args.store.now)) e) n)

pub returns-in_ok-class-in-outer : goal.returns-in_ok-class-in-outer
returns-in_ok-class-in-outer g c = placed-seat c.args.sample.now.types (g.S.Store.objects c.args.store.now) (g.S.Store.path c.args.store.now) c.outer.result c.placed-in-outer.result (Some (kind.Class c.in_ok-class-in-outer.class)) c.placed-in-outer.ensures.place c.placed-in-outer.ensures.kind (λ s e n. outer-seat c.args.sample.now.types (g.S.Store.objects c.args.store.now) (g.S.Store.path c.args.store.now) c.in_ok-from.from s c.in_ok-class-in-outer.class c.in_ok-from.ensures (sym c.outer.ensures.gives ∙ ap (result_seen (g.S.Store.path c.args.store.now)) e) n)
