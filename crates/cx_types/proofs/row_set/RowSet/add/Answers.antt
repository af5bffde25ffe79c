use Rattle.cx_type_defs.proofs.Lists.{distinct-at}
use Rattle.cx_type_defs.specs.contracts.kind.TypeRowEq.TheImpl.Laws.{laws-law}
use Rattle.cx_types.proofs.row_set.RowSet.add.Goals as goal
use Rattle.cx_types.proofs.row_set.RowSet.add.Goals.{in-Ok, in-Err}

pub returns-clause-once : goal.returns-clause-once
returns-clause-once c = elim c.match-insert_full.branch [
  | in-Ok w ↦ (let s = w.in-Ok.ensures.stored in rw w.result-is (λ j h. distinct-at _ laws-law c.insert_full.new.self.keys c.insert_full.ensures.unique c.args.row s.0 w.in-Ok.at j s.1 s.2 h))
  | in-Err w ↦ rw w.result-is tt
]
