-- The verdict on a source that tells its bytes, from what was read of it.
use Rattle.std.proofs.Common.{◌≡◌, subst, ℕ, ◌+◌, ◌<◌, ◌≤◌, List, length, IfSome, Option, Some, None, arith}
use Rattle.std.proofs.lemmas.List.{length-take, take_all}
use Rattle.std.specs.Io.KnownBytes.{Consumes}
use Rattle.cx_base.specs.Only.{IsOnly}
use Rattle.cx_base.specs.declared.limits.Limits.{Limits}
use Rattle.cx_source.specs.Contents.{longest_source, read_of}
use Rattle.cx_report.specs.declared.verdict.Verdict.{Verdict}
use Rattle.cx_unit.specs.Verdict.{IsVerdict, source_too_long}
use Rattle.cx_unit.proofs.Verdicts.{long_only, lt_true}

long : (bytes : List ℕ) → longest_source < length bytes → longest_source < length (read_of bytes)
long bytes h = rw (length-take (longest_source + 1) bytes) (omega arith)

pub on_long : (limits : Limits) (left : Option (List ℕ)) (v : Verdict) → IfSome left (λ bytes. longest_source < length bytes) → v ≡ source_too_long
    → IfSome left (λ bytes. IsOnly (IsVerdict limits (read_of bytes)) v)
on_long limits None v h e = tt
on_long limits (Some bytes) v h e = long_only _ limits (read_of bytes) v (lt_true longest_source (length (read_of bytes)) (long bytes h)) e

whole : (bytes : List ℕ) → length bytes ≤ longest_source → read_of bytes ≡ bytes
whole bytes h = take_all (longest_source + 1) bytes (omega arith)

pub on_whole : (limits : Limits) (left : Option (List ℕ)) (bytes : List ℕ) (v : Verdict) → IfSome left (λ all. bytes ≡ all)
    → length bytes ≤ longest_source → IsOnly (IsVerdict limits bytes) v → IfSome left (λ all. IsOnly (IsVerdict limits (read_of all)) v)
on_whole limits None bytes v same short only = tt
on_whole limits (Some all) bytes v same short only =
    let few : length all ≤ longest_source = rw (← same) short in
    rw (whole all few) (subst (λ (bs : List ℕ). IsOnly (IsVerdict limits bs) v) same only)

pub taken_whole : (left new : Option (List ℕ)) (bytes : List ℕ) → IfSome left (λ all. bytes ≡ all) → length bytes ≤ longest_source
    → Consumes left new bytes → IfSome left (λ all. Consumes left new (read_of all))
taken_whole None new bytes same short took = tt
taken_whole (Some all) new bytes same short took =
    let few : length all ≤ longest_source = rw (← same) short in
    rw (whole all few) (rw same at took)
