-- The command of the program and its options, each with one value and a default.
use Rattle.std.specs.Prelude.{ℕ, pos, [], ◌∷◌, Some, codes}
use Rattle.clap.specs.Words.{App, Rule, Text, new_app, new_rule, with_rule}
use Rattle.clap.specs.declared.builder.value_parser.ValueParser.TheVariants as parser
use Rattle.cx_words.specs.declared.command.NumberOption.{NumberOption}
use Rattle.cx_words.specs.declared.command.NumberOption.TheVariants.{Depth, Exprs, Turns, Cells, Objects, Seed, Count}

-- the mode, as any text
abbrev pub mode_rule : Rule
mode_rule = record (new_rule (codes "mode")) { long = Some (codes "mode"); defaults = codes "print" ∷ [] }

-- an option with a number from `least` to `most`
abbrev pub number_rule : Text → ℕ → ℕ → Text → Rule
number_rule name least most default = record (new_rule name) {
  long = Some name;
  defaults = default ∷ [];
  parser = Some (parser.Signed (pos least) (pos most));
}

-- the ranges and the defaults of the limits ([implimits]), and of the numbers of a made unit
abbrev pub rule_of_option : NumberOption → Rule
rule_of_option Depth = number_rule (codes "depth") 1 4096 (codes "512")
rule_of_option Exprs = number_rule (codes "exprs") 1 4194304 (codes "1048576")
rule_of_option Turns = number_rule (codes "turns") 1 67108864 (codes "16777216")
rule_of_option Cells = number_rule (codes "cells") 1 4194304 (codes "1048576")
rule_of_option Objects = number_rule (codes "objects") 1 16777216 (codes "4194304")
rule_of_option Seed = number_rule (codes "seed") 0 4294967295 (codes "1")
rule_of_option Count = number_rule (codes "count") 1 10000 (codes "100")

-- the program's name, the mode, and the numbers
abbrev pub cx_app : App
cx_app =
    with_rule (with_rule (with_rule (with_rule (with_rule (with_rule (with_rule (with_rule (new_app (codes "cxeval")) mode_rule)
    (rule_of_option Depth)) (rule_of_option Exprs)) (rule_of_option Turns)) (rule_of_option Cells)) (rule_of_option Objects))
    (rule_of_option Seed)) (rule_of_option Count)
