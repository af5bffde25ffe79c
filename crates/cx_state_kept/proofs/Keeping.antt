-- What each step leaves of the places.
use Rattle.std.proofs.Common.{◌≡◌, ℕ, Bool, true, [], ◌∷◌, ◌++◌, Option, None, Some, Result, Ok, Err, sym, ap, subst, refl, ◌∙◌, slice_get}
use Rattle.std.specs.Prelude.{is_some, option_and_then}
use Rattle.cx_base.specs.declared.rule.Rule.{Rule}
use Rattle.cx_base.specs.declared.limits.Limits.{Limits}
use Rattle.cx_type_defs.specs.declared.kind.TypeRow.{TypeRow}
use Rattle.cx_type_defs.specs.Tables.{Tables, no_types, changed_at}
use Rattle.cx_type_defs.proofs.Lists.{option_and_then-some, slice_get-more}
use Rattle.cx_state.specs.declared.kind.Birth.{Birth}
use Rattle.cx_state.specs.declared.kind.Phase.{Phase}
use Rattle.cx_state.specs.declared.kind.Scalar.{Scalar}
use Rattle.cx_state.specs.Objects.{Path, Tree, Object, Objects, put}
use Rattle.cx_state.specs.Places.{root_row, spot, spot_row, row_of}
use Rattle.cx_state.specs.Conditions as on
use Rattle.cx_state.specs.Steps.{Write, Init, Store, Advance, Activate, Deactivate, access_of, write, init, store, advance, activate, deactivate, unless, given_up, release, settle, cut}
use Rattle.cx_state.specs.Counts.{Request, new_object, make}
use Rattle.cx_state.proofs.Known.{unless-ok, row_of-changed_at, row_of-put, make-ok, cut-knows}
use Rattle.cx_state.proofs.KnownTypes.{cut-types}
use Rattle.cx_store.specs.declared.store.StoreAnswer.{StoreAnswer}
use Rattle.cx_store.specs.declared.store.StoreAnswer.TheVariants as answer
use Rattle.cx_store.specs.Stores.{Changed, Made, StillKnows, StillKnowsBelow}

abbrev SameRows : Objects → Objects → Type 0
SameRows old new = (t : Tables) (p : Path) → row_of t new p ≡ row_of t old p

same_rows : (old new : Objects) → SameRows old new → StillKnows old new
same_rows old new h = record {
  types = λ t p r e. h t p ∙ e;
  places = λ t p k. ap (λ (o : Option TypeRow). is_some o) (h t p) ∙ k;
}

pub unchanged : (os : Objects) → StillKnows os os
unchanged os = record { types = λ t p r e. e; places = λ t p k. k }

pub then_keeps : (a b c : Objects) → StillKnows a b → StillKnows b c → StillKnows a c
then_keeps a b c k l = record { types = λ t p r e. l.types t p r (k.types t p r e); places = λ t p e. l.places t p (k.places t p e) }

pub put_keeps : (f : Tree → Tree) (os : Objects) (p : Path) → StillKnows os (put f os p)
put_keeps f os p = same_rows os (put f os p) (λ t q. row_of-put t f os p q)

changed_keeps : (f : Object → Object) → ((t : Tables) (o : Object) → root_row t (f o) ≡ root_row t o) → (os : Objects) (i : ℕ) → StillKnows os (changed_at f os i)
changed_keeps f h os i = same_rows os (changed_at f os i) (λ t q. row_of-changed_at t f (h t) os i q)

more_rows : (t : Tables) (os : Objects) (o : Object) (p : Path) (r : TypeRow) → row_of t os p ≡ Some r → row_of t (os ++ o ∷ []) p ≡ Some r
more_rows t os o p r e =
    let f = λ (w : Object). option_and_then (spot_row t p.past (spot p)) (root_row t w) in
    let m = option_and_then-some f (slice_get os p.object) r e in
    ap (option_and_then f) (slice_get-more os (o ∷ []) p.object m.0 m.1) ∙ m.2

pub some_there : {A : Type 0} (x : Option A) → is_some x ≡ true → (a : A) × (x ≡ Some a)
some_there None h = absurd (cc)
some_there (Some a) h = (a, refl)

pub more_keeps : (os : Objects) (o : Object) → StillKnows os (os ++ o ∷ [])
more_keeps os o = record {
  types = λ t p r e. more_rows t os o p r e;
  places = λ t p k. let m = some_there (row_of t os p) k in ap (λ (x : Option TypeRow). is_some x) (more_rows t os o p m.0 m.1);
}

pub make_keeps : (t : Tables) (limits : Limits) (os now : Objects) (q : Request) → make t limits os q ≡ Ok now → StillKnows os now
make_keeps t limits os now q e = subst (StillKnows os) (make-ok t limits os now q e) (more_keeps os (new_object t q))

-- a step that changes the tree at a place
step_keeps : (b : Option Rule) (f : Tree → Tree) (os now : Objects) (p : Path) → unless b (put f os p) ≡ Ok now → StillKnows os now
step_keeps b f os now p e = subst (StillKnows os) (unless-ok b (put f os p) now e).1 (put_keeps f os p)

pub write_keeps : (t : Tables) (os now : Objects) (p : Path) (w : Write) → write t os p w ≡ Ok now → StillKnows os now
write_keeps t os now p w e = step_keeps (on.broken t os p (access_of w)) _ os now p e

-- each of the five by its name

pub init_keeps : (t : Tables) (os now : Objects) (p : Path) (v : Scalar Path) → init t os p v ≡ Ok now → StillKnows os now
init_keeps t os now p v = write_keeps t os now p (Init v)

pub store_keeps : (t : Tables) (os now : Objects) (p : Path) (v : Scalar Path) → store t os p v ≡ Ok now → StillKnows os now
store_keeps t os now p v = write_keeps t os now p (Store v)

pub advance_keeps : (t : Tables) (os now : Objects) (p : Path) (to : Phase) → advance t os p to ≡ Ok now → StillKnows os now
advance_keeps t os now p to = write_keeps t os now p (Advance to)

pub activate_keeps : (t : Tables) (os now : Objects) (p : Path) (m : ℕ) (alive : Bool) → activate t os p m alive ≡ Ok now → StillKnows os now
activate_keeps t os now p m alive = write_keeps t os now p (Activate m alive)

pub deactivate_keeps : (t : Tables) (os now : Objects) (p : Path) → deactivate t os p ≡ Ok now → StillKnows os now
deactivate_keeps t os now p = write_keeps t os now p Deactivate

pub release_keeps : (os now : Objects) (p : Path) → release os p ≡ Ok now → StillKnows os now
release_keeps os now p e = subst (StillKnows os) (unless-ok (on.broken no_types os p on.Release) _ now e).1 (changed_keeps given_up (λ t o. refl) os p.object)

pub settle_keeps : (os : Objects) (p : Path) (b : Birth) → StillKnows os (settle os p b)
settle_keeps os p b = changed_keeps (λ (o : Object). record o { birth = b }) (λ t o. refl) os p.object

pub cut_keeps : (os : Objects) (mark : ℕ) → StillKnowsBelow mark os (cut os mark)
cut_keeps os mark = record {
  types = λ t p r h e. cut-types t os mark p h ∙ e;
  places = λ t p h k. cut-knows t os mark p h k;
}

-- done, or refused by a rule
pub changed_or_not : (step : Result Objects Rule) (old new : Objects) (result : Result (Unit {0}) Rule) → ((now : Objects) → step ≡ Ok now → StillKnows old now) → Changed step old new result → StillKnows old new
changed_or_not (Ok os) old new result h c = subst (StillKnows old) (sym c.1) (h os refl)
changed_or_not (Err r) old new result h c = subst (StillKnows old) (sym c.1) (unchanged old)

-- made, or refused
pub made_or_not : {P : Type 0} (t : Tables) (limits : Limits) (q : Request) (old new : Objects) (path : P → Path) (result : Result P StoreAnswer) → Made t limits q old new path result → StillKnows old new
made_or_not t limits q old new path (Ok p) m = make_keeps t limits old new q m.0
made_or_not t limits q old new path (Err (answer.Rule r)) m = subst (StillKnows old) (sym m.1) (unchanged old)
made_or_not t limits q old new path (Err answer.Memory) m = subst (StillKnows old) (sym m.1) (unchanged old)
