use Rattle.cx_layout.specs.Described.{columns_form}
use Rattle.cx_layout.specs.Places.{Leads}
use Rattle.cx_layout.specs.Forms.{Form}
use Rattle.std.proofs.Common.{sym, subst}
use Rattle.cx_blocks.specs.Stored.{path}
use Rattle.cx_blocks.proofs.Reaching.{known_block, steps_lead}
use Rattle.cx_blocks.proofs.store.BlocksStore.step.Goals as goal

pub block-requires : goal.block-requires
block-requires c = known_block c.args.types.now c.args.self.now.layouts c.args.self.now.blocks.items c.args.at c.requires.known

pub columns-requires : goal.columns-requires
columns-requires c = record { known = c.args.self.now.known c.args.at.block c.block.result.now c.block.ensures }

pub step_at-requires-clause-place : goal.step_at-requires-clause-place
step_at-requires-clause-place c =
    let s = c.args.self.now in
    ((path s c.args.at).steps, subst (λ (f : Form). Leads f (path s c.args.at).steps c.args.at) (sym c.columns.ensures.form) (steps_lead c.args.types.now s.layouts s.blocks.items s.known c.args.at c.block.result.now c.block.ensures c.requires.known))

pub returns : goal.returns
returns c =
    let s = c.args.self.now in
    record { step = c.step_at.ensures (path s c.args.at).steps (subst (λ (f : Form). Leads f (path s c.args.at).steps c.args.at) (sym c.columns.ensures.form) (steps_lead c.args.types.now s.layouts s.blocks.items s.known c.args.at c.block.result.now c.block.ensures c.requires.known)) }
