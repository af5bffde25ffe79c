-- What is read, and the cells of objects where the types grow.
use Rattle.std.proofs.Common.{◌≡◌, ◌*◌, true, Result, Ok, Err, sym, ap, subst, ◌∙◌}
use Rattle.std.specs.Prelude.{unwrap_or, IfOk}
use Rattle.cx_base.specs.declared.rule.Rule.{Rule}
use Rattle.cx_type_defs.specs.Tables.{Tables, Grows}
use Rattle.cx_type_defs.specs.Questions.{OfType, cells_of, is_complete}
use Rattle.cx_type_defs.proofs.Looking.{asked-keeps}
use Rattle.cx_state.specs.declared.kind.Scalar.{Scalar}
use Rattle.cx_state.specs.Objects.{Path, Object, Objects}
use Rattle.cx_state.specs.Places.{row_of}
use Rattle.cx_state.specs.Counts.{cells_in}
use Rattle.cx_state.specs.Steps.{load}
use Rattle.cx_state.specs.Forms.{MayHold, Fit, Knows, KnowsIn}
use Rattle.cx_state.proofs.Complete.{complete-cells}
use Rattle.cx_state.proofs.Known.{load-knows}
use Rattle.cx_state.proofs.Written.{load-held}
use Rattle.cx_store.specs.Stores.{IsOf, MayTake, seen, result_seen}
use Rattle.cx_state_kept.proofs.Keeping.{some_there}

pub read_holds : (t : Tables) (os : Objects) (p : Path) (v : Scalar Path) → Fit t os → Knows t os p → load t os p ≡ Ok v → MayTake t os p v
read_holds t os p v f k e =
    let m = some_there (row_of t os p) k in
    subst (IsOf (λ r. MayHold t os r.kind v)) (sym m.1) (load-held t os p m.0 v f m.1 e)

-- the same of an answer with places that are seen as paths

pub answer_known : {P : Type 0} (t : Tables) (os : Objects) (path : P → Path) (p : Path) (r : Result (Scalar P) Rule) → Fit t os → Knows t os p → result_seen (seen path) r ≡ load t os p → IfOk r (λ v. KnowsIn t os (seen path v))
answer_known t os path p (Ok v) f k e = load-knows t os p (seen path v) f k (sym e)
answer_known t os path p (Err r) f k e = tt

pub answer_holds : {P : Type 0} (t : Tables) (os : Objects) (path : P → Path) (p : Path) (r : Result (Scalar P) Rule) → Fit t os → Knows t os p → result_seen (seen path) r ≡ load t os p → IfOk r (λ v. MayTake t os p (seen path v))
answer_holds t os path p (Ok v) f k e = read_holds t os p (seen path v) f k (sym e)
answer_holds t os path p (Err r) f k e = tt

-- cells

pub cells_stay : (t u : Tables) (o : Object) → Grows t u → is_complete t o.ty ≡ true → cells_in u o ≡ cells_in t o
cells_stay t u o g e =
    let n = complete-cells t o.ty e in
    ap (λ c. unwrap_or o.count 1 * unwrap_or c 0) (asked-keeps cells_of t u g (OfType o.ty) n.0 n.1 ∙ sym n.1)
