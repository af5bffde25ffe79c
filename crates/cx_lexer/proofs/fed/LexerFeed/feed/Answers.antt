use Rattle.std.proofs.Common.{◌++◌, sym, subst}
use Rattle.cx_tokens.specs.Reached.{Settled}
use Rattle.cx_lexer.specs.Fed.{Holds}
use Rattle.cx_lexer.proofs.Knowing.{behind_more, knows_behind, knows_more, knows_none}
use Rattle.cx_lexer.proofs.fed.LexerFeed.feed.Goals as goal

pub returns-in-Some-Fault-clause-bytes : goal.returns-in-Some-Fault-clause-bytes
returns-in-Some-Fault-clause-bytes c bytes h =
    let s = c.self.inside in
    knows_more s.ended c.in-Some-Fault.field-0 bytes c.args.piece.now s.tokens s.here s.front.items c.in-Some-Fault.is (subst (λ x. Holds x bytes) (sym c.self.view_is) h)

pub returns-then-not-self-clause-bytes : goal.returns-then-not-self-clause-bytes
returns-then-not-self-clause-bytes c bytes h =
    let s = c.self.inside in
    let b = knows_none s.ended bytes s.tokens s.here s.front.items c.in-None.is (subst (λ x. Holds x bytes) (sym c.self.view_is) h) in
    knows_behind s.ended (bytes ++ c.args.piece.now) s.tokens s.here c.put.new.bytes.items c.in-None.is
    (behind_more bytes c.args.piece.now s.tokens s.here s.front.items c.put.new.bytes.items c.in-Ok.ensures.ok b)

pub returns-in-Ok-go_on-clause-bytes : goal.returns-in-Ok-go_on-clause-bytes
returns-in-Ok-go_on-clause-bytes c bytes h =
    let s = c.self.inside in
    let b = knows_none s.ended bytes s.tokens s.here s.front.items c.in-None.is (subst (λ x. Holds x bytes) (sym c.self.view_is) h) in
    let more = behind_more bytes c.args.piece.now s.tokens s.here s.front.items c.put.new.bytes.items c.in-Ok.ensures.ok b in
    knows_behind s.ended (bytes ++ c.args.piece.now) c.go_on.new.tokens c.in-Ok-go_on.next c.go_on.new.front.items c.in-None.is
    (c.in-Ok-go_on.ensures.goes (bytes ++ c.args.piece.now) more.rest more.stands)

pub returns-in-Err-Fault-clause-bytes : goal.returns-in-Err-Fault-clause-bytes
returns-in-Err-Fault-clause-bytes c bytes h =
    let s = c.self.inside in
    let b = knows_none s.ended bytes s.tokens s.here s.front.items c.in-None.is (subst (λ x. Holds x bytes) (sym c.self.view_is) h) in
    let more = behind_more bytes c.args.piece.now s.tokens s.here s.front.items c.put.new.bytes.items c.in-Ok.ensures.ok b in
    subst (λ answer. Settled (bytes ++ c.args.piece.now) answer) c.in-Err-Fault.field-0-is
    (c.in-Err-Fault.ensures.goes (bytes ++ c.args.piece.now) more.rest more.stands)
