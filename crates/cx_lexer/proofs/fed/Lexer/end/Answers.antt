use Rattle.std.proofs.Common.{◌∙◌, ap, arith, length, sym, subst}
use Rattle.cx_lexer.specs.Fed.{Holds}
use Rattle.cx_lexer.proofs.Knowing.{knows_answer, knows_none, reached_here}
use Rattle.cx_lexer.proofs.fed.Lexer.end.Goals as goal

pub finish-requires-clause-room : goal.finish-requires-clause-room
finish-requires-clause-room c =
    omega (arith, c.self.invariant.within, c.self.invariant.short, ap length c.as_slice.ensures.value)

pub returns-in-Some-clause-answers : goal.returns-in-Some-clause-answers
returns-in-Some-clause-answers c bytes h =
    let s = c.self.inside in
    knows_answer s.ended c.in-Some.answer bytes s.tokens s.here s.front.items c.in-Some.is (subst (λ x. Holds x bytes) (sym c.self.view_is) h)

pub returns-in-None-clause-answers : goal.returns-in-None-clause-answers
returns-in-None-clause-answers c bytes h =
    let s = c.self.inside in
    let b = knows_none s.ended bytes s.tokens s.here s.front.items c.in-None.is (subst (λ x. Holds x bytes) (sym c.self.view_is) h) in
    c.finish.ensures bytes (b.rest ∙ sym c.as_slice.ensures.value) (reached_here bytes s.here s.tokens b.stands)
