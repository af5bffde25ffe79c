-- From what a parse answered to what the words ask for.
use Rattle.std.proofs.Common.{◌≡◌, ◌∙◌, ◌≤◌, ◌&&◌, ℕ, nat_le, arith, subst, List, [], ◌∷◌, true, false, Bool, if◌then◌else◌, Option, Some, None, option_and_then, refl, sym, ap, inl, inr, Ok, Err, codes}
use Rattle.std.proofs.lemmas.Bool.Decides.{nat_tests}
use Rattle.clap.specs.Words.{App, Row, first_of, FailsBy, HasKind, HasMatchesOf, Kinds, Text, fault_of, found_of, is_simple, is_simple_and_free, kind_of, matches_of, rows_of}
use Rattle.clap.specs.declared.error.Error.{Error}
use Rattle.clap.specs.declared.error.kind.ErrorKind.TheVariants.{OutOfMemory}
use Rattle.clap.specs.declared.parser.matches.ArgMatches.{ArgMatches}
use Rattle.cx_words.specs.declared.job.Job.{Job}
use Rattle.cx_base.specs.Limits.{limits_allowed}
use Rattle.cx_words.specs.declared.job.JobMode.{JobMode}
use Rattle.cx_words.specs.Asked.{asked, job_of, job_allowed, job_from, job_with, mode_of}
use Rattle.cx_words.specs.Command.{cx_app}

cx_app_simple : is_simple cx_app ≡ true
cx_app_simple = refl

cx_app_free : is_simple_and_free cx_app ≡ true
cx_app_free = refl

-- a parse that took the words
pub on_ok : (a : App) (ws : List Text) (m : ArgMatches) (job : Option Job) → a ≡ cx_app
    → (is_simple_and_free a ≡ true → FailsBy {T = ArgMatches} (fault_of a ws) (Ok m)) → HasMatchesOf a ws m
    → job ≡ job_of (rows_of (found_of m)) → asked ws ≡ job
unfolding asked
on_ok a ws m job e kinds matches is =
    let free : is_simple_and_free a ≡ true = ap is_simple_and_free e ∙ cx_app_free in
    let none : fault_of cx_app ws ≡ [] = rw e at (kinds free) in
    let simple : is_simple a ≡ true = ap is_simple e ∙ cx_app_simple in
    let rows : rows_of (found_of m) ≡ matches_of cx_app ws = rw e at (matches simple).0 in
    rw none (ap job_of (sym rows) ∙ sym is)

-- a parse that refused them, or ran out of memory
pub on_err : (a : App) (ws : List Text) (x : Error) → a ≡ cx_app
    → (is_simple_and_free a ≡ true → FailsBy {T = ArgMatches} (fault_of a ws) (Err x)) → (kind_of x ≡ OutOfMemory → ⊥)
    → asked ws ≡ None
unfolding asked
on_err a ws x e kinds other =
    let free : is_simple_and_free a ≡ true = ap is_simple_and_free e ∙ cx_app_free in
    let has : HasKind (fault_of cx_app ws) x = rw e at (kinds free) in
    go (fault_of cx_app ws) refl has
  where
    go : (kinds : Kinds) → fault_of cx_app ws ≡ kinds → HasKind kinds x → asked ws ≡ None
    go [] same (inl memory) = absurd (other memory)
    go [] same (inr among) = absurd among
    go (k ∷ ks) same has = rw same refl

-- a job has allowed limits, and not too many constants
pub record IsAllowed (job : Job) : Type 0 where
  pub limits : limits_allowed job.limits ≡ true
  pub count : job.count ≤ 10000

both : (a b : Bool) → (a && b) ≡ true → (a ≡ true) × (b ≡ true)
both true true e = (refl, refl)
both true false e = cc
both false b e = cc

at_most : (m n : ℕ) → nat_le m n ≡ true → m ≤ n
at_most m n e = grind (arith, nat_tests)

allowed : (job : Job) → job_allowed job ≡ true → IsAllowed job
allowed job e =
    let tests : (limits_allowed job.limits ≡ true) × (nat_le job.count 10000 ≡ true) = both (limits_allowed job.limits) (nat_le job.count 10000) e in
    record { limits = tests.0; count = at_most job.count 10000 tests.1 }

pub job_is_allowed : (rows : List Row) (job : Job) → job_of rows ≡ Some job → IsAllowed job
job_is_allowed rows job e = with_mode (mode_of (first_of (codes "mode") rows)) e
  where
    tested : (b : Bool) (made : Job) → job_allowed made ≡ b → (if b then Some made else None) ≡ Some job → IsAllowed job
    tested true made is e = let same : made ≡ job = cc in subst IsAllowed same (allowed made is)
    tested false made is e = cc

    with_mode : (mode : Option JobMode) → option_and_then (job_with rows) mode ≡ Some job → IsAllowed job
    with_mode None e = cc
    with_mode (Some mode) e = tested (job_allowed (job_from rows mode)) (job_from rows mode) refl e
