-- What the words of the command line ask for, by clap's definition of a simple command.
use Rattle.std.specs.Prelude.{◌≡◌, ◌&&◌, ℕ, Bool, nat_le, List, [], ◌∷◌, Option, Some, None, false, option_and_then, Result, Ok, Err, codes, if◌then◌else◌}
use Rattle.std.specs.Str.{bytes_eq}
use Rattle.std.specs.Str.Parse.{digits_value, without_leading_plus}
use Rattle.clap.specs.Words.{Kinds, Row, Text, fault_of, first_of, matches_of, one_of}
use Rattle.clap.specs.ValueTests.{accepts}
use Rattle.clap.specs.declared.builder.value_parser.ValueParser.TheVariants as parser
use Rattle.cx_base.specs.declared.limits.Limits.{Limits}
use Rattle.cx_base.specs.Limits.{limits_allowed}
use Rattle.cx_words.specs.Command.{cx_app}
use Rattle.cx_words.specs.declared.job.Job.{Job}
use Rattle.cx_words.specs.declared.job.JobMode.{JobMode}
use Rattle.cx_words.specs.declared.job.JobMode.TheVariants as job_mode
use Rattle.cx_words.specs.declared.job.WordsAnswer.{WordsAnswer}
use Rattle.cx_words.specs.declared.job.WordsAnswer.TheVariants.{Refused, Memory}

-- a mode is its word
abbrev pub mode_of_text : Text → Option JobMode
mode_of_text t = if bytes_eq t (codes "print") then Some job_mode.Print
    else (if bytes_eq t (codes "check") then Some job_mode.Check
    else (if bytes_eq t (codes "notes") then Some job_mode.Notes
    else (if bytes_eq t (codes "make") then Some job_mode.Make else None)))

abbrev pub mode_of : Option Text → Option JobMode
mode_of text = option_and_then mode_of_text text

-- the number of 32 bits that is read from a text
abbrev pub number_of : Option Text → ℕ
number_of None = 0
number_of (Some t) = if accepts false (parser.Unsigned 0 4294967295) t then digits_value 10 (without_leading_plus t) else 0

abbrev pub limits_of : List Row → Limits
limits_of rows = record {
  depth = number_of (one_of (codes "depth") rows);
  exprs = number_of (one_of (codes "exprs") rows);
  turns = number_of (one_of (codes "turns") rows);
  cells = number_of (one_of (codes "cells") rows);
  objects = number_of (one_of (codes "objects") rows);
}

-- the numbers of a job that callers rely on are within their ranges
abbrev pub job_allowed : Job → Bool
job_allowed job = limits_allowed job.limits && nat_le job.count 10000

abbrev pub if_allowed : Job → Option Job
if_allowed job = if job_allowed job then Some job else None

abbrev pub job_from : List Row → JobMode → Job
job_from rows m = record {
  mode = m;
  limits = limits_of rows;
  seed = number_of (one_of (codes "seed") rows);
  count = number_of (one_of (codes "count") rows);
}

abbrev pub job_with : List Row → JobMode → Option Job
job_with rows m = if_allowed (job_from rows m)

abbrev pub job_of : List Row → Option Job
job_of rows = option_and_then (job_with rows) (mode_of (first_of (codes "mode") rows))

-- nothing, where there is a fault
abbrev pub unless_fault : Kinds → Option Job → Option Job
unless_fault [] job = job
unless_fault (kind ∷ kinds) job = None

-- The job of the words, or nothing: where clap refuses them by the command's definition, and where the mode's text
-- is no mode.
unfoldable pub asked : List Text → Option Job
asked words = unless_fault (fault_of cx_app words) (job_of (matches_of cx_app words))

-- the answer is the job, or refuses where there is none, or memory ran out
abbrev pub Answers : Result Job WordsAnswer → Option Job → Type 0
Answers (Ok j) job = job ≡ Some j
Answers (Err Refused) job = job ≡ None
Answers (Err Memory) job = Unit {0}
