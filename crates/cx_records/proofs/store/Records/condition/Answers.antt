use Rattle.std.proofs.Common.{◌≡◌, ◌&&◌, ◌||◌, not, sym, ap, ◌∙◌}
use Rattle.cx_type_defs.proofs.Lists.{some_inj}
use Rattle.cx_state.specs.Conditions as on
use Rattle.cx_shapes.specs.Forms.{form_of}
use Rattle.cx_shapes.specs.Contents.{is_dead_class}
use Rattle.cx_records.specs.declared.record.Record.{Record}
use Rattle.cx_records.specs.Records.{forms_in}
use Rattle.cx_records.specs.Checks.{cells_in}
use Rattle.cx_records.proofs.store.Records.condition.Goals as goal

pub returns : goal.returns
returns c =
    let s = c.found-standing.ensures in
    let rs = c.args.self.now.records.items in
    let now = c.record-record.result.now in
    let g = form_of c.found-standing.result.shape.now in
    let there = c.found-standing.result.there in
    let dead = c.found-standing.result.dead in
    let e : now ≡ s.rec = some_inj now s.rec (sym c.record-record.ensures ∙ s.is_rec) in
    let o : c.is_opaque-opaque.result ≡ on.is_opaque s.rec.birth = c.is_opaque-opaque.ensures ∙ ap (λ (r : Record). on.is_opaque r.birth) e in
    let d : c.dead_at.result ≡ is_dead_class g (cells_in rs s.rec c.args.at.part) =
    c.dead_at.ensures (cells_in rs now c.args.at.part) (sym (c.phase.ensures (forms_in rs))) ∙ ap (λ (r : Record). is_dead_class g (cells_in rs r c.args.at.part)) e in
    record {
      form = g;
      dead = dead;
      stands = s;
      is_released = ap (λ (r : Record). r.released) e;
      is_past = c.is_past.ensures;
      is_opaque = o;
      is_outside = c.is_outside.ensures ∙ ap (λ (r : Record). not (on.is_here r.birth)) e;
      is_inactive = c.without.ensures ∙ ap (λ b. not b && not there) o;
      is_dead = c.without-2.ensures ∙ ap (λ b. not b && dead) o;
      is_lifeless = c.without-3.ensures ∙ ap (λ b. not b && c.either.result) o ∙ ap (λ b. not (on.is_opaque s.rec.birth) && b) (c.either.ensures ∙ ap (λ b. dead || b) (c.both-ended.ensures ∙ ap (λ b. there && b) d));
    }
