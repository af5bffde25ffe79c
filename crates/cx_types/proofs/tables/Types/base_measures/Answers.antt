use Rattle.std.proofs.Common.{List, [], ◌∷◌, ◌++◌, take, get_or, sym, subst}
use Rattle.std.proofs.lemmas.List.{take_more}
use Rattle.cx_type_defs.specs.declared.ids.ClassId.{ClassId}
use Rattle.cx_types.specs.declared.facts.Measure.{Measure}
use Rattle.cx_type_defs.specs.Tables.{body_at}
use Rattle.cx_type_defs.specs.Questions.{OfClass}
use Rattle.cx_types.specs.Parts.{PartsTold}
use Rattle.cx_types.proofs.Closing.{PartsTold-push, class-told}
use Rattle.cx_types.proofs.tables.Types.base_measures.Goals as goal

pub loop-base-preserved : goal.loop-base-preserved
loop-base-preserved c =
    let no_class : ClassId = record { 0 = 0 } in
    let x = get_or c.args.bases.now c.loop-base.base-index no_class in
    let more = take_more c.args.bases.now c.loop-base.base-index no_class c.loop-base-test.true in
    let told = class-told c.args.self.now x (body_at c.args.self.now x) c.in-Some.measure c.in-Some.ensures in
    subst (λ (l : List ClassId). PartsTold c.args.self.now OfClass l c.push.new.self.items) (sym more)
    (subst (λ (l : List Measure). PartsTold c.args.self.now OfClass (take c.loop-base.base-index c.args.bases.now ++ x ∷ []) l) (sym c.in-Ok.ensures.items)
    (PartsTold-push c.args.self.now OfClass (take c.loop-base.base-index c.args.bases.now) c.loop-base.measures.items x c.in-Some.measure c.loop-base.invariant told))
