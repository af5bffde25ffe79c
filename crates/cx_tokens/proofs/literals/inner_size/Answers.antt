use Rattle.std.proofs.Common.{◌≡◌, false}
use Rattle.cx_tokens.specs.Bytes.{byte_at}
use Rattle.cx_tokens.specs.Literals.{ends}
use Rattle.cx_tokens.proofs.Parts.{inner_kept}
use Rattle.cx_tokens.proofs.literals.inner_size.Goals as goal

pub parts-preserved : goal.parts-preserved
parts-preserved c =
    let e : ends c.args.quote (byte_at c.rest_from-rest.result.now 0) ≡ false = cc in
    inner_kept c.args.quote c.args.body.now c.rest_from-rest.result.now c.parts.at c.part_size-at.result _ c.rest_from-rest.ensures c.part_size-at.ensures.size
    c.parts-test.true e c.parts.invariant.1
