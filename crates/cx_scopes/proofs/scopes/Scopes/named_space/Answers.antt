use Rattle.std.proofs.Common.{◌∙◌, sym, ap}
use Rattle.std.specs.Prelude.{slice_get}
use Rattle.cx_scopes.specs.Arguments.{named_space}
use Rattle.cx_scopes.proofs.Associated.{named-found, named-passed}
use Rattle.cx_scopes.proofs.scopes.Scopes.named_space.Goals as goal

pub row-requires : goal.row-requires
row-requires c =
    c.requires c.loop-i.i (c.unwrap.result.0.now, c.unwrap.result.1.now)
    (ap (λ s. slice_get s.types c.loop-i.i) (sym c.self.view_is) ∙ sym (rw c.unwrap.ensures at c.get_index.ensures.entry))

pub returns-then-is_of : goal.returns-then-is_of
returns-then-is_of c =
    sym (ap (λ s. named_space c.args.place c.args.types.now s.types) (sym c.self.view_is)
    ∙ c.loop-i.invariant
    ∙ named-found c.args.place c.args.types.now c.self.inside.types.entries c.loop-i.i (c.unwrap.result.0.now, c.unwrap.result.1.now) c.row.result
    (sym (rw c.unwrap.ensures at c.get_index.ensures.entry)) c.row.ensures (sym c.is_of.ensures ∙ c.if-is_of.true))

pub loop-i-preserved : goal.loop-i-preserved
loop-i-preserved c =
    c.loop-i.invariant
    ∙ named-passed c.args.place c.args.types.now c.self.inside.types.entries c.loop-i.i (c.unwrap.result.0.now, c.unwrap.result.1.now) c.row.result
    (sym (rw c.unwrap.ensures at c.get_index.ensures.entry)) c.row.ensures (sym c.is_of.ensures ∙ c.if-is_of.false)
