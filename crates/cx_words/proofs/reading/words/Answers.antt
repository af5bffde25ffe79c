use Rattle.std.proofs.Common.{◌∙◌, sym}
use Rattle.clap.specs.Words.{found_of, rows_of}
use Rattle.cx_words.proofs.Parsed.{on_ok, on_err, job_is_allowed}
use Rattle.cx_words.proofs.reading.words.Goals as goal

pub returns-in-Some-clause-answer : goal.returns-in-Some-clause-answer
returns-in-Some-clause-answer c =
    let ens = c.in-Ok-try_get_matches_from.ensures in
    on_ok _ _ c.in-Ok-try_get_matches_from.matches _ c.in-Ok.ensures ens.kinds ens.matches c.in-Some.ensures

pub returns-in-Some-clause-allowed : goal.returns-in-Some-clause-allowed
returns-in-Some-clause-allowed c = (job_is_allowed (rows_of (found_of c.in-Ok-try_get_matches_from.matches)) c.in-Some.job (sym c.in-Some.ensures)).limits

pub returns-in-Some-clause-count : goal.returns-in-Some-clause-count
returns-in-Some-clause-count c = (job_is_allowed (rows_of (found_of c.in-Ok-try_get_matches_from.matches)) c.in-Some.job (sym c.in-Some.ensures)).count

pub returns-in-Ok-try_get_matches_from-clause-answer : goal.returns-in-Ok-try_get_matches_from-clause-answer
returns-in-Ok-try_get_matches_from-clause-answer c =
    let ens = c.in-Ok-try_get_matches_from.ensures in
    on_ok _ _ c.in-Ok-try_get_matches_from.matches _ c.in-Ok.ensures ens.kinds ens.matches c.in-None.ensures

pub returns-clause-answer : goal.returns-clause-answer
returns-clause-answer c = on_err _ _ c.in-Err.error c.in-Ok.ensures c.in-Err.ensures.kinds (λ memory. c.in_default-kind.not-OutOfMemory (c.kind.ensures ∙ memory))
