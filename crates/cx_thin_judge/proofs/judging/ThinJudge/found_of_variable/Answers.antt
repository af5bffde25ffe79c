use Rattle.std.proofs.Common.{◌∙◌, sym}
use Rattle.cx_thin_judge.proofs.Telling.{IsRow, item_there, may_eval, told_limit, told_open, told_begun, no_rule}
use Rattle.cx_thin_judge.proofs.judging.ThinJudge.found_of_variable.Goals as goal

pub returns-in-Some : goal.returns-in-Some
returns-in-Some c =
    let row : IsRow c.args.program.now c.args.variable c.index-variables-variable.result = record { program = c.fits.ensures; there = item_there c.args.program.now.variables c.variables.result.now c.args.variable.0 c.index-variables-variable.result c.variables.ensures c.requires.there c.index-variables-variable.is } in
    λ md. told_limit c.args.self.now c.args.program.now c.args.variable c.index-variables-variable.result row c.requires.fits md c.args.at c.in-Some.rule (sym c.in-Some.is ∙ c.passed.ensures)

pub begun-requires : goal.begun-requires
begun-requires c =
    let row : IsRow c.args.program.now c.args.variable c.index-variables-variable.result = record { program = c.fits.ensures; there = item_there c.args.program.now.variables c.variables.result.now c.args.variable.0 c.index-variables-variable.result c.variables.ensures c.requires.there c.index-variables-variable.is } in
    may_eval c.args.self.now c.args.program.now c.args.variable c.index-variables-variable.result row c.requires.fits

pub returns-in-Some-init : goal.returns-in-Some-init
returns-in-Some-init c =
    let row : IsRow c.args.program.now c.args.variable c.index-variables-variable.result = record { program = c.fits.ensures; there = item_there c.args.program.now.variables c.variables.result.now c.args.variable.0 c.index-variables-variable.result c.variables.ensures c.requires.there c.index-variables-variable.is } in
    λ md. told_begun c.args.self.now c.args.program.now c.args.variable c.index-variables-variable.result row c.requires.fits md c.args.at (no_rule c.passed.result c.in_default.not-Some ∙ c.passed.ensures) c.in-Some-init.init c.begun.result c.in-Some-init.is c.begun.ensures

pub returns-in-None : goal.returns-in-None
returns-in-None c =
    let row : IsRow c.args.program.now c.args.variable c.index-variables-variable.result = record { program = c.fits.ensures; there = item_there c.args.program.now.variables c.variables.result.now c.args.variable.0 c.index-variables-variable.result c.variables.ensures c.requires.there c.index-variables-variable.is } in
    λ md. told_open c.args.self.now c.args.program.now c.args.variable c.index-variables-variable.result row c.requires.fits md c.args.at (no_rule c.passed.result c.in_default.not-Some ∙ c.passed.ensures) c.in-None.is
