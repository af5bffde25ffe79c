use Rattle.std.proofs.Common.{◌≡◌, ◌+◌, false, None, rules}
use Rattle.cx_tokens.specs.Bytes.{byte_at}
use Rattle.cx_tokens.specs.Literals.{ends}
use Rattle.cx_tokens.specs.Scanning.{flaw_in}
use Rattle.cx_tokens.proofs.Parts.{flaw_kept}
use Rattle.cx_tokens.proofs.literals.first_flaw.Goals as goal

pub parts-preserved : goal.parts-preserved
parts-preserved c =
    let e : ends c.args.quote (byte_at c.rest_from-rest.result.now 0) ≡ false = cc in
    let none : flaw_in c.args.look c.args.quote (1 + c.parts.at) c.rest_from-rest.result.now ≡ None = search rules in
    flaw_kept c.args.look c.args.quote c.args.body.now c.rest_from-rest.result.now c.parts.at c.part_size-at.result _ c.rest_from-rest.ensures c.part_size-at.ensures.size
    c.parts-test.true e none c.parts.invariant.1
