use Rattle.std.proofs.Common.{◌≡◌, sym, ap}
use Rattle.cx_tokens.specs.declared.shapes.Shape.TheVariants as shape
use Rattle.cx_tokens.specs.Cut.{found_at}
use Rattle.cx_tokens.specs.Shapes.{shape_of}
use Rattle.cx_tokens.proofs.Stepping.{faulty_over, over_goes, token_over, token_some, white_over, white_some}
use Rattle.cx_tokens.proofs.step.over.Goals as goal

pub returns-in-White-clause-steps : goal.returns-in-White-clause-steps
returns-in-White-clause-steps c bytes d m =
    let s : shape_of (found_at c.args.here.opens c.args.rest.now) ≡ shape.White c.in-White.size = cc in
    let o = c.opens_after-opens.ensures in
    let p = c.behind.ensures.place in
    white_over bytes c.args.rest.now c.args.here c.behind.result c.args.tokens.now c.in-White.size c.opens_after-opens.result s
    (rw (sym c.front_of-piece.ensures) o) (rw (sym c.front_of-piece.ensures) p) d m

pub returns-in-White-clause-on : goal.returns-in-White-clause-on
returns-in-White-clause-on c =
    let s : shape_of (found_at c.args.here.opens c.args.rest.now) ≡ shape.White c.in-White.size = cc in
    over_goes c.args.here c.behind.result c.args.rest.now c.in-White.size c.requires.some (white_some c.args.here.opens c.args.rest.now c.in-White.size c.requires.some s)
    (rw (sym c.front_of-piece.ensures) (ap (λ x. x.at) c.behind.ensures.place)) c.behind.ensures.counted

pub returns-in-Ok-clause-steps : goal.returns-in-Ok-clause-steps
returns-in-Ok-clause-steps c bytes d m =
    let s : shape_of (found_at c.args.here.opens c.args.rest.now) ≡ shape.Token c.in-Token.size c.in-Token.kind = cc in
    token_over bytes c.args.rest.now c.args.here c.behind-next.result c.args.tokens.now c.token.new.tokens c.in-Token.size c.in-Token.kind s
    (rw (sym c.front_of-piece-in-Token.ensures) c.behind-next.ensures.place) (rw (sym c.front_of-piece-in-Token.ensures) c.in-Ok.ensures) d m

pub returns-in-Ok-clause-on : goal.returns-in-Ok-clause-on
returns-in-Ok-clause-on c =
    let s : shape_of (found_at c.args.here.opens c.args.rest.now) ≡ shape.Token c.in-Token.size c.in-Token.kind = cc in
    over_goes c.args.here c.behind-next.result c.args.rest.now c.in-Token.size c.requires.some
    (token_some c.args.here.opens c.args.rest.now c.in-Token.size c.in-Token.kind c.requires.some s)
    (rw (sym c.front_of-piece-in-Token.ensures) (ap (λ x. x.at) c.behind-next.ensures.place)) c.behind-next.ensures.counted

pub returns-in-Faulty-clause-steps : goal.returns-in-Faulty-clause-steps
returns-in-Faulty-clause-steps c bytes d m =
    let s : shape_of (found_at c.args.here.opens c.args.rest.now) ≡ shape.Faulty c.in-Faulty.field-0 c.in-Faulty.flaw = cc in
    rw c.fault.ensures (faulty_over bytes c.args.rest.now c.args.here c.in-Faulty.field-0 c.in-Faulty.flaw s c.requires.some d m)
