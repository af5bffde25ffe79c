use Rattle.std.proofs.Common.{◌≡◌, ◌≤◌, length, refl, arith}
use Rattle.cx_cli.proofs.Whole.{on_long, on_whole, taken_whole}
use Rattle.cx_source.specs.Contents.{longest_source}
use Rattle.cx_cli.proofs.judging.judged_source.Goals as goal

pub returns-in-Err-TooLong-clause-verdict : goal.returns-in-Err-TooLong-clause-verdict
returns-in-Err-TooLong-clause-verdict g c =
    on_long c.args.limits _ _ (c.in-Err-TooLong.ensures.too_long (rw c.in-Err-TooLong.field-0-is refl)) c.too_long.ensures

pub returns-in-Ok-verdict_of_lexed-clause-verdict : goal.returns-in-Ok-verdict_of_lexed-clause-verdict
returns-in-Ok-verdict_of_lexed-clause-verdict g c =
    let read = c.in-Ok-feed_all.ensures.bytes in
    let short : length read.bytes ≤ longest_source = omega (arith, read.count, c.in-Ok-feed_all.ensures.within) in
    on_whole c.args.limits _ read.bytes _ read.all short
    (c.in-Ok-verdict_of_lexed.ensures read.bytes short (c.end.ensures.answers read.bytes read.fed))

pub returns-in-Ok-verdict_of_lexed-clause-taken : goal.returns-in-Ok-verdict_of_lexed-clause-taken
returns-in-Ok-verdict_of_lexed-clause-taken g c =
    let read = c.in-Ok-feed_all.ensures.bytes in
    let short : length read.bytes ≤ longest_source = omega (arith, read.count, c.in-Ok-feed_all.ensures.within) in
    taken_whole _ _ read.bytes read.all short read.took

pub verdict_of_lexed-requires-clause-lexed : goal.verdict_of_lexed-requires-clause-lexed
verdict_of_lexed-requires-clause-lexed g c =
    let read = c.in-Ok-feed_all.ensures.bytes in
    let short : length read.bytes ≤ longest_source = omega (arith, read.count, c.in-Ok-feed_all.ensures.within) in
    (read.bytes, short, c.end.ensures.answers read.bytes read.fed)
