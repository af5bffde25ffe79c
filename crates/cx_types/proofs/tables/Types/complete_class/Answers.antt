use Rattle.std.proofs.Common.{◌≤◌, ◌||◌, length, sym, ap, subst, ◌∙◌, slice_get}
use Rattle.cx_type_defs.specs.declared.ids.FuncId.{FuncId}
use Rattle.cx_type_defs.specs.Tables.{Tables, lists_function}
use Rattle.cx_type_defs.specs.Slots.{base_slots}
use Rattle.cx_type_defs.specs.Bodies.{IsFit}
use Rattle.cx_types.specs.Parts.{BodyTold, IsOpenClass}
use Rattle.cx_types.proofs.Whole.{All-open}
use Rattle.cx_types.proofs.tables.Types.complete_class.Goals as goal

pub invariant_of-self-2 : goal.invariant_of-self-2
invariant_of-self-2 c =
    let told = subst (λ (t : Tables). BodyTold t c.args.key c.args.body c.args.measure) (sym c.self.view_is) c.requires.told in
    let open_ = subst (λ (t : Tables). IsOpenClass (slice_get t.classes c.args.class.0) c.args.key) (sym c.self.view_is) c.requires.opened in
    let slots = subst (λ (t : Tables). base_slots t c.args.body ≤ length c.args.body.slots) (sym c.self.view_is) c.requires.slots in
    let fits = subst (λ (t : Tables). IsFit t c.args.key c.args.body) (sym c.self.view_is) c.requires.fits in
    let added = λ (f : FuncId). c.in_ok-add_all.ensures.ok f ∙ ap (λ l. lists_function f c.self.inside.pures || lists_function f l) c.as_slice.ensures in
    rw c.complete_at.ensures (All-open _ c.args.class c.args.key c.args.body c.args.measure told slots c.requires.few fits _ _ c.self.inside.pures c.add_all.new.self open_ added c.self.invariant)
