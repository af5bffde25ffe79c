use Rattle.std.proofs.Common.{◌≡◌, ◌∷◌, ◌++◌, [], false, rules}
use Rattle.cx_tokens.specs.Bytes.{byte_at}
use Rattle.cx_tokens.specs.Literals.{ends}
use Rattle.cx_tokens.proofs.Parts.{values_kept}
use Rattle.cx_tokens.proofs.literals.string_bytes.Goals as goal

pub parts-preserved : goal.parts-preserved
parts-preserved c =
    let e : ends 34 (byte_at c.rest_from-rest.result.now 0) ≡ false = cc in
    let p : c.push.new.self ≡ c.parts.text ++ c.part_value.result ∷ [] = search rules in
    rw p (values_kept 34 c.rest_from-body.result.now c.rest_from-rest.result.now c.parts.text _ c.parts.at c.part_size-at.result c.part_value.result
    c.rest_from-rest.ensures c.part_size-at.ensures.size c.part_value.ensures c.parts-test.true e c.parts.invariant.1)
