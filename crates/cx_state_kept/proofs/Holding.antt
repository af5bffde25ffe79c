-- What stays with the places that stay known, and the paths of places that a caller holds.
use Rattle.std.proofs.Common.{◌≡◌, List, [], ◌∷◌, map, Option, None, Some, refl, sym, ap, subst, ◌∙◌, slice_get}
use Rattle.std.specs.Prelude.{option_and_then, All}
use Rattle.std.proofs.lemmas.List.Elements.{All-head, All-tail}
use Rattle.std.proofs.lemmas.Option.{slice_get_within}
use Rattle.cx_type_defs.specs.declared.kind.TypeRow.{TypeRow}
use Rattle.cx_type_defs.specs.declared.kind.TypeKind.{TypeKind}
use Rattle.cx_type_defs.specs.Tables.{Tables}
use Rattle.cx_type_defs.proofs.Lists.{option_and_then-some}
use Rattle.cx_state.specs.declared.kind.Scalar.{Scalar}
use Rattle.cx_state.specs.declared.kind.Scalar.TheVariants as scalar
use Rattle.cx_state.specs.Objects.{Path, Object, Objects}
use Rattle.cx_state.specs.Places.{root_row, spot, spot_row, row_of}
use Rattle.cx_state.specs.Forms.{MayHold, Knows, KnowsIn}
use Rattle.cx_state.proofs.Known.{known-object, plain-knows}
use Rattle.cx_state.proofs.RowsKept.{HeldStays, MayHold-stays}
use Rattle.cx_store.specs.declared.store.RootView.{RootView}
use Rattle.cx_store.specs.Stores.{KeepsPaths, seen, IsOf, MayTake, Tells, StillKnows}
use Rattle.cx_state_kept.proofs.Keeping.{some_there}

-- what holds of the type at a place holds of the type that stays there
is_of_row : (P : TypeRow → Type 0) (x : Option TypeRow) → IsOf P x → (r : TypeRow) × (x ≡ Some r) × P r
is_of_row P None h = absurd h
is_of_row P (Some r) h = (r, refl, h)

pub is_of_stays : (P : TypeRow → Type 0) (t : Tables) (old new : Objects) (p : Path) → StillKnows old new → IsOf P (row_of t old p) → IsOf P (row_of t new p)
is_of_stays P t old new p k h = let r = is_of_row P (row_of t old p) h in subst (IsOf P) (sym (k.types t p r.0 r.1)) r.2

holder_stays : (t : Tables) (old new : Objects) (v : Scalar Path) → StillKnows old new → HeldStays t old new v
holder_stays t old new (scalar.Place p) k = k.types t p
holder_stays t old new (scalar.Int i) k = tt
holder_stays t old new scalar.Null k = tt
holder_stays t old new scalar.Indeterminate k = tt

pub held_stays : (t : Tables) (old new : Objects) (w : TypeKind) (v : Scalar Path) → StillKnows old new → MayHold t old w v → MayHold t new w v
held_stays t old new w v k h = MayHold-stays t old new w v (holder_stays t old new v k) h

pub known_stays : (t : Tables) (old new : Objects) (v : Scalar Path) → StillKnows old new → KnowsIn t old v → KnowsIn t new v
known_stays t old new (scalar.Place p) k h = k.places t p h
known_stays t old new (scalar.Int i) k h = tt
known_stays t old new scalar.Null k h = tt
known_stays t old new scalar.Indeterminate k h = tt

pub takes_stay : (t : Tables) (old new : Objects) (p : Path) (v : Scalar Path) → StillKnows old new → MayTake t old p v → MayTake t new p v
takes_stay t old new p v k h =
    let r = is_of_row (λ r. MayHold t old r.kind v) (row_of t old p) h in
    subst (IsOf (λ r. MayHold t new r.kind v)) (sym (k.types t p r.0 r.1)) (held_stays t old new r.0.kind v k r.2)

-- the paths of places that a caller holds

pub held_path : {P : Type 0} (t : Tables) (old : Objects) (before after : P → Path) (p : P) → KeepsPaths old before after → Knows t old (before p) → after p ≡ before p
held_path t old before after p k h = let o = known-object t old (before p) h in k p (slice_get_within old (before p).object o.0 o.1)

pub held_scalar : {P : Type 0} (t : Tables) (old : Objects) (before after : P → Path) (v : Scalar P) → KeepsPaths old before after → KnowsIn t old (seen before v) → seen after v ≡ seen before v
held_scalar t old before after (scalar.Place p) k h = ap scalar.Place (held_path t old before after p k h)
held_scalar t old before after (scalar.Int i) k h = refl
held_scalar t old before after scalar.Null k h = refl
held_scalar t old before after scalar.Indeterminate k h = refl

-- functions that agree on each item make the same list
map_agree : {A B : Type 0} (Q : A → Type 0) (f g : A → B) → ((a : A) → Q a → f a ≡ g a) → (xs : List A) → All Q xs → map f xs ≡ map g xs
map_agree Q f g h [] a = refl
map_agree Q f g h (x ∷ xs) a = ap (λ y. y ∷ map f xs) (h x (All-head Q x xs a)) ∙ ap (λ ys. g x ∷ ys) (map_agree Q f g h xs (All-tail Q x xs a))

pub held_paths : {P : Type 0} (t : Tables) (old : Objects) (before after : P → Path) (ps : List P) → KeepsPaths old before after → All (λ p. Knows t old (before p)) ps → map after ps ≡ map before ps
held_paths t old before after ps k a = map_agree (λ p. Knows t old (before p)) after before (λ p h. held_path t old before after p k h) ps a

pub held_scalars : {P : Type 0} (t : Tables) (old : Objects) (before after : P → Path) (vs : List (Scalar P)) → KeepsPaths old before after → All (λ v. KnowsIn t old (seen before v)) vs → map (seen after) vs ≡ map (seen before) vs
held_scalars t old before after vs k a = map_agree (λ v. KnowsIn t old (seen before v)) (seen after) (seen before) (λ v h. held_scalar t old before after v k h) vs a

-- the whole object that a place is in
pub whole_known : {P : Type 0} (t : Tables) (os : Objects) (path : P → Path) (at : P) (v : RootView P) → Tells os path at v → Knows t os (path at) → Knows t os (path v.place)
whole_known t os path at v tells k =
    let p = path at in
    let r = some_there (row_of t os p) k in
    let o = option_and_then-some (λ (o : Object). option_and_then (spot_row t p.past (spot p)) (root_row t o)) (slice_get os p.object) r.0 r.1 in
    let w = option_and_then-some (spot_row t p.past (spot p)) (root_row t o.0) r.0 o.2 in
    subst (Knows t os) (sym (tells o.0 o.1).place) (plain-knows t os p.object [] w.0 w.0 (ap (option_and_then (root_row t)) o.1 ∙ w.1) refl)
