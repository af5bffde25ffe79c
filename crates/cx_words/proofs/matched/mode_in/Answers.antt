use Rattle.std.proofs.Common.{◌∙◌, ap, codes}
use Rattle.clap.specs.Words.{found_of}
use Rattle.clap.proofs.WalkLemmas.{first_value-rows}
use Rattle.cx_words.specs.Asked.{mode_of}
use Rattle.cx_words.proofs.matched.mode_in.Goals as goal

pub returns-in-Some : goal.returns-in-Some
returns-in-Some c = c.mode_of_text.ensures ∙ ap mode_of (c.in-Some.ensures ∙ first_value-rows (found_of c.args.matches.now) (codes "mode"))

pub returns-in-None : goal.returns-in-None
returns-in-None c = ap mode_of (c.in-None.ensures ∙ first_value-rows (found_of c.args.matches.now) (codes "mode"))
