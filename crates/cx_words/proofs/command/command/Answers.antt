use Rattle.std.proofs.Common.{◌≡◌, ◌∙◌, ap}
use Rattle.clap.specs.Words.{App, with_rule}
use Rattle.cx_words.specs.declared.command.NumberOption.{NumberOption}
use Rattle.cx_words.specs.declared.command.NumberOption.TheVariants.{Depth, Exprs, Turns, Cells, Objects, Seed, Count}
use Rattle.cx_words.specs.Command.{rule_of_option}
use Rattle.cx_words.proofs.command.command.Goals as goal

-- one option more
on : (option : NumberOption) (a b c : App) → c ≡ with_rule a (rule_of_option option) → a ≡ b → c ≡ with_rule b (rule_of_option option)
on option a b c e f = e ∙ ap (λ app. with_rule app (rule_of_option option)) f

pub returns : goal.returns
returns c =
    let depth = on Depth _ _ _ c.in_ok-depth.ensures c.in_ok-mode.ensures in
    let exprs = on Exprs _ _ _ c.in_ok-exprs.ensures depth in
    let turns = on Turns _ _ _ c.in_ok-turns.ensures exprs in
    let cells = on Cells _ _ _ c.in_ok-cells.ensures turns in
    let objects = on Objects _ _ _ c.in_ok-objects.ensures cells in
    let seed = on Seed _ _ _ c.in_ok-seed.ensures objects in
    on Count _ _ _ c.in_ok-count.ensures seed
