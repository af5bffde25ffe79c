-- Words and the jobs that they ask for, worked out by hand from clap's rules and the ranges and defaults of the options.
use Rattle.std.proofs.Common.{◌≡◌, ℕ, List, [], ◌∷◌, Option, Some, None, refl, codes}
use Rattle.clap.specs.Words.{Text}
use Rattle.clap.specs.Faults.{defaults_fault, walk_fault}
use Rattle.clap.specs.Walk.{walked}
use Rattle.cx_base.specs.declared.limits.Limits.{Limits}
use Rattle.cx_words.specs.Asked.{asked}
use Rattle.cx_words.specs.declared.job.Job.{Job}
use Rattle.cx_words.specs.declared.job.JobMode.{JobMode}
use Rattle.cx_words.specs.declared.job.JobMode.TheVariants.{Print, Check, Notes, Make}

abbrev standard : Limits
standard = record { depth = 512; exprs = 1048576; turns = 16777216; cells = 1048576; objects = 4194304 }

abbrev plain : Job
plain = record { mode = Print; limits = standard; seed = 1; count = 100 }

-- these words behind the program's name
abbrev behind_name : List Text → Option Job
behind_name words = asked (codes "cxeval" ∷ words)

abbrev in_mode : JobMode → Option Job
in_mode mode = Some (record plain { mode = mode })

abbrev with_turns : ℕ → Option Job
with_turns turns = Some (record plain { limits = record standard { turns = turns } })

abbrev seeded : ℕ → Option Job
seeded seed = Some (record plain { seed = seed })

-- no word at all counts as the name alone
no_name : asked [] ≡ Some plain
unfolding asked defaults_fault walk_fault walked
no_name = refl

-- the name alone
name_alone : behind_name [] ≡ Some plain
unfolding asked defaults_fault walk_fault walked
name_alone = refl

-- the end of the options
no_more : behind_name (codes "--" ∷ []) ≡ Some plain
unfolding asked defaults_fault walk_fault walked
no_more = refl

-- a value as a word of its own
two_words : behind_name (codes "--turns" ∷ codes "3" ∷ []) ≡ with_turns 3
unfolding asked defaults_fault walk_fault walked
two_words = refl

-- a value behind `=`
one_word : behind_name (codes "--turns=3" ∷ []) ≡ with_turns 3
unfolding asked defaults_fault walk_fault walked
one_word = refl

-- a plus sign before the digits
a_sign : behind_name (codes "--turns=+1" ∷ []) ≡ with_turns 1
unfolding asked defaults_fault walk_fault walked
a_sign = refl

-- a zero before the digits
a_zero : behind_name (codes "--turns" ∷ codes "01" ∷ []) ≡ with_turns 1
unfolding asked defaults_fault walk_fault walked
a_zero = refl

-- the least seed
least_seed : behind_name (codes "--seed=0" ∷ []) ≡ seeded 0
unfolding asked defaults_fault walk_fault walked
least_seed = refl

-- the greatest seed
greatest_seed : behind_name (codes "--seed" ∷ codes "4294967295" ∷ []) ≡ seeded 4294967295
unfolding asked defaults_fault walk_fault walked
greatest_seed = refl

-- each mode is its word
print : behind_name (codes "--mode" ∷ codes "print" ∷ []) ≡ in_mode Print
unfolding asked defaults_fault walk_fault walked
print = refl

check : behind_name (codes "--mode=check" ∷ []) ≡ in_mode Check
unfolding asked defaults_fault walk_fault walked
check = refl

notes : behind_name (codes "--mode=notes" ∷ []) ≡ in_mode Notes
unfolding asked defaults_fault walk_fault walked
notes = refl

make : behind_name (codes "--mode=make" ∷ []) ≡ in_mode Make
unfolding asked defaults_fault walk_fault walked
make = refl

-- another word is no mode
other_mode : behind_name (codes "--mode=other" ∷ []) ≡ None
unfolding asked defaults_fault walk_fault walked
other_mode = refl

-- an option twice
twice : behind_name (codes "--turns=1" ∷ codes "--turns=2" ∷ []) ≡ None
unfolding asked defaults_fault walk_fault walked
twice = refl

-- an unknown option
unknown : behind_name (codes "--other" ∷ []) ≡ None
unfolding asked defaults_fault walk_fault walked
unknown = refl

-- an option without its value
no_value : behind_name (codes "--turns" ∷ []) ≡ None
unfolding asked defaults_fault walk_fault walked
no_value = refl

-- an empty value
empty_value : behind_name (codes "--turns=" ∷ []) ≡ None
unfolding asked defaults_fault walk_fault walked
empty_value = refl

-- a space before the digits
a_space : behind_name (codes "--turns= 1" ∷ []) ≡ None
unfolding asked defaults_fault walk_fault walked
a_space = refl

-- one less than the least
no_turns : behind_name (codes "--turns=0" ∷ []) ≡ None
unfolding asked defaults_fault walk_fault walked
no_turns = refl

-- one more than the greatest
too_many_turns : behind_name (codes "--turns=67108865" ∷ []) ≡ None
unfolding asked defaults_fault walk_fault walked
too_many_turns = refl

-- the seed past its greatest
seed_past : behind_name (codes "--seed=4294967296" ∷ []) ≡ None
unfolding asked defaults_fault walk_fault walked
seed_past = refl

-- no constant to make
no_constants : behind_name (codes "--count=0" ∷ []) ≡ None
unfolding asked defaults_fault walk_fault walked
no_constants = refl

-- one constant too many
too_many_constants : behind_name (codes "--count=10001" ∷ []) ≡ None
unfolding asked defaults_fault walk_fault walked
too_many_constants = refl

-- help
help : behind_name (codes "--help" ∷ []) ≡ None
unfolding asked defaults_fault walk_fault walked
help = refl

-- an empty word
empty_word : behind_name (codes "" ∷ []) ≡ None
unfolding asked defaults_fault walk_fault walked
empty_word = refl

-- a word that belongs to no option
a_word : behind_name (codes "a" ∷ []) ≡ None
unfolding asked defaults_fault walk_fault walked
a_word = refl

-- the same behind the end of the options
behind_the_end : behind_name (codes "--" ∷ codes "a" ∷ []) ≡ None
unfolding asked defaults_fault walk_fault walked
behind_the_end = refl
