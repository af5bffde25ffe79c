use Rattle.cx_made.proofs.Lengths.{line_put}
use Rattle.cx_made.proofs.made.append_line.Goals as goal

pub returns : goal.returns
returns c =
    line_put _ _ _ _ _ _ c.args.number c.args.state c.append-3.result c.in_ok-append.ensures c.in_ok-append_number.ensures c.in_ok-append-2.ensures
    c.in_ok-append_number-2.ensures c.append-3.ensures
