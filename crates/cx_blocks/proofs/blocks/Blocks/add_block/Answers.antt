use Rattle.std.proofs.Common.{rules, false, ◌+◌, not, refl, sym, ap, subst, ◌∙◌}
use Rattle.cx_state.specs.declared.kind.Birth.{Birth}
use Rattle.cx_layout.specs.Forms.{Form}
use Rattle.cx_blocks.specs.Makes.{NewSlots}
use Rattle.cx_blocks.proofs.blocks.Blocks.add_block.Goals as goal

pub returns-clause-ok : goal.returns-clause-ok
returns-clause-ok c = record {
  grown = c.in_ok-desc.ensures.grown;
  block = record {
    ty = c.args.plan.ty;
    length = c.args.plan.length;
    kind = c.args.plan.kind;
    konst = c.args.plan.konst;
    birth = c.args.plan.birth;
    released = false;
    counted = c.counts.result;
    cells = c.args.plan.cells;
    desc = c.in_ok-desc.desc;
    kept = not c.is_opaque.result;
    slots = c.in_ok-slots.slots;
  };
  is_new = record {
    same_ty = refl;
    same_length = refl;
    same_kind = refl;
    same_konst = refl;
    same_birth = refl;
    living = refl;
    counted = c.counts.ensures;
    cells = c.requires.cells;
    known = c.in_ok-desc.ensures.known;
    form = c.in_ok-desc.ensures.form;
    kept = ap not c.is_opaque.ensures;
    slots = subst (λ (f : Form). NewSlots c.args.plan.birth f c.in_ok-slots.slots.items) c.columns.ensures.form c.in_ok-slots.ensures;
  };
  blocks = c.in-Ok.ensures.items;
  lives = ap (λ n. c.args.self.now.live + n) c.live_cells-cells.ensures;
  place = ap (λ n. record { block = n; slot = 0; node = 0; past = false }) (search rules);
}
