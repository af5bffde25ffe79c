use Rattle.std.proofs.Common.{◌≡◌, drop}
use Rattle.std.specs.List.{list_any}
use Rattle.cx_tokens.specs.Bytes.{is_line_feed}
use Rattle.cx_tokens.proofs.step.has_line_feed.Given as goal

abbrev pub invariant-loop-b : goal.invariant-loop-b
invariant-loop-b l = list_any is_line_feed (drop l.b-index l.bytes) ≡ list_any is_line_feed l.bytes
