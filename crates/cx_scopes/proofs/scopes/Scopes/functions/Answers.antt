use Rattle.std.proofs.Common.{◌<◌, ◌∙◌, ◌++◌, ap, sym, arith, length, take}
use Rattle.std.specs.List.{flat_map}
use Rattle.std.proofs.lemmas.Option.{get_or_from_slice_get}
use Rattle.cx_scopes.specs.Arguments.{functions_in}
use Rattle.cx_scopes.proofs.Associated.{flat_map-more}
use Rattle.cx_scopes.proofs.scopes.Scopes.functions.Goals as goal

pub loop-i-preserved : goal.loop-i-preserved
loop-i-preserved c =
    let f = functions_in c.args.self.now c.args.name.now in
    let within : c.loop-i.i < length c.args.spaces.now = omega arith in
    c.in_ok-add_functions.ensures.ok
    ∙ ap (λ l. l ++ f c.at.result) c.loop-i.invariant
    ∙ sym (flat_map-more f c.args.spaces.now c.loop-i.i 0 within
    ∙ ap (λ n. flat_map f (take c.loop-i.i c.args.spaces.now) ++ f n) (get_or_from_slice_get c.args.spaces.now c.loop-i.i c.at.result 0 c.at.ensures))
