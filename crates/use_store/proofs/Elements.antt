-- The elements of an array of integers are integers, and what is still known stays so over several calls.
use Rattle.std.proofs.Common.{◌≡◌, ℕ, suc, ◌<◌, Option, None, Some, Ok, Result, [], ◌∷◌, ◌++◌, length, refl, sym, ap, subst, ◌∙◌, arith}
use Rattle.cx_base.specs.declared.rule.Rule.{Rule}
use Rattle.cx_ints.specs.declared.int.Int.{Int}
use Rattle.cx_type_defs.specs.declared.ids.TypeId.{TypeId}
use Rattle.cx_type_defs.specs.Tables.{Tables}
use Rattle.cx_state.specs.declared.kind.Scalar.TheVariants as scalar
use Rattle.cx_state.specs.Objects.{Path, Objects}
use Rattle.cx_state.specs.Places.{element, row_of}
use Rattle.std.specs.List.{find}
use Rattle.cx_base.specs.declared.limits.Limits.{Limits}
use Rattle.cx_type_defs.specs.Tables.{no_types, changed_at}
use Rattle.cx_state.specs.declared.kind.Scalar.{Scalar}
use Rattle.cx_state.specs.Objects.{Leaf, put}
use Rattle.cx_state.specs.Conditions as on
use Rattle.cx_state.specs.Counts.{Request, new_object, passes_limit, limit_order}
use Rattle.cx_state.specs.Steps.{to_elem, unless, init, release, given_up}
use Rattle.cx_state.specs.Forms.{HoldsValue, MayHold}
use Rattle.std.proofs.lemmas.List.{length-append}
use Rattle.cx_state.proofs.Paths.{changed_at-length, put-length}
use Rattle.cx_state.proofs.Known.{to_elem-row, ok_inj}
use Rattle.cx_store.specs.Stores.{Changed, Made, IsOf, IsScalarAt, MayTake, StillKnows}
use Rattle.use_store.specs.Uses.{IsArray, IsOfInts}

-- at an element of an array of integers there is an integer
element_row : (t : Tables) (os : Objects) (p q : Path) (of : TypeId) (count i : ℕ) (v : Int) (a : IsArray t os p of count) (n : IsOfInts t of v) → i < count → to_elem t os p i ≡ Ok q → row_of t os q ≡ Some (element a.row.konst n.row)
element_row t os p q of count i v a n l e = to_elem-row t os p q i a.row of count n.row a.is_row a.is_array n.is_row (omega arith) e

pub scalar_element : (t : Tables) (os : Objects) (p q : Path) (of : TypeId) (count i : ℕ) (v : Int) → IsArray t os p of count → IsOfInts t of v → i < count → to_elem t os p i ≡ Ok q → IsScalarAt t os q
scalar_element t os p q of count i v a n l e = subst (λ r. IsOf (λ r. HoldsValue r.kind) r) (sym (element_row t os p q of count i v a n l e)) (subst HoldsValue (sym n.is_int) tt)

pub takes_element : (t : Tables) (os : Objects) (p q : Path) (of : TypeId) (count i : ℕ) (v : Int) → IsArray t os p of count → IsOfInts t of v → i < count → to_elem t os p i ≡ Ok q → MayTake t os q (scalar.Int v)
takes_element t os p q of count i v a n l e = subst (λ r. IsOf (λ r. MayHold t os r.kind (scalar.Int v)) r) (sym (element_row t os p q of count i v a n l e)) (subst (λ k. MayHold t os k (scalar.Int v)) (sym n.is_int) (refl, n.fits))

pub still_array : (t : Tables) (old new : Objects) (p q : Path) (of : TypeId) (count : ℕ) → q ≡ p → StillKnows old new → IsArray t old p of count → IsArray t new q of count
still_array t old new p q of count e k a = record { row = a.row; is_row = subst (λ x. row_of t new x ≡ Some a.row) (sym e) (k.types t p a.row a.is_row); is_array = a.is_array }

written_length : (b : Option Rule) (os new put_os : Objects) (r : Result (Unit {0}) Rule) → length put_os ≡ length os → Changed (unless b put_os) os new r → length new ≡ length os
written_length None os new put_os r l c = ap length c.1 ∙ l
written_length (Some x) os new put_os r l c = ap length c.1

-- a first value makes no object
pub init_length : (t : Tables) (os new : Objects) (p : Path) (v : Scalar Path) (r : Result (Unit {0}) Rule) → Changed (init t os p v) os new r → length new ≡ length os
init_length t os new p v r c = written_length (on.broken t os p on.Init) os new (put (λ _. Leaf v) os p) r (put-length (λ _. Leaf v) os p) c

-- nor does a release
pub release_length : (os new : Objects) (p : Path) (r : Result (Unit {0}) Rule) → Changed (release os p) os new r → length new ≡ length os
release_length os new p r c = written_length (on.broken no_types os p on.Release) os new (changed_at given_up os p.object) r (changed_at-length given_up os p.object) c

-- but making one does
pub made_length : {P : Type 0} (t : Tables) (limits : Limits) (q : Request) (os new : Objects) (path : P → Path) (p : P) → Made t limits q os new path (Ok p) → length new ≡ suc (length os)
made_length t limits q os new path p m = by_rule (find (passes_limit t limits os (new_object t q)) limit_order) m.0
  where
    by_rule : (b : Option Rule) → unless b (os ++ new_object t q ∷ []) ≡ Ok new → length new ≡ suc (length os)
    by_rule None e = ap length (sym (ok_inj (os ++ new_object t q ∷ []) new e)) ∙ length-append os (new_object t q ∷ []) ∙ omega arith
    by_rule (Some x) e = absurd (cc)
