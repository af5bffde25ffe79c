use Rattle.clap.proofs.WalkLemmas.{one_text-rows}
use Rattle.std.specs.Str.Parse.{ParsesUnsigned, ExplainsUnsignedError, HasUnsignedDigitsIfOk}
use Rattle.cx_words.proofs.Numbers.{read_number}
use Rattle.cx_words.proofs.matched.number_in.Goals as goal

pub returns : goal.returns
returns c =
    rw (c.unwrap_or.ensures, ← one_text-rows)
    (read_number (λ bs r. ParsesUnsigned 32 10 bs r × ExplainsUnsignedError 10 bs r × HasUnsignedDigitsIfOk bs r) (λ u x h. h.0) _ _
    c.get_one.ensures.none c.get_one.ensures.value)
