-- What follows for the places that one comes to, and for scalars.
use Rattle.std.proofs.Common.{◌≡◌, ℕ, ◌<◌, true, false, not, Option, None, Some, Ok, sym, ap, subst, ◌∙◌, inl, inr, slice_get, length, ℤ}
use Rattle.std.specs.Prelude.{option_map, option_and_then, unwrap_or}
use Rattle.std.proofs.lemmas.Option.{slice_get_within}
use Rattle.cx_type_defs.specs.declared.ids.TypeId.{TypeId}
use Rattle.cx_type_defs.specs.declared.ids.ClassId.{ClassId}
use Rattle.cx_type_defs.specs.declared.kind.TypeRow.{TypeRow}
use Rattle.cx_type_defs.specs.declared.kind.TypeKind.{TypeKind}
use Rattle.cx_type_defs.specs.declared.kind.TypeKind.TheVariants as kind
use Rattle.cx_type_defs.specs.declared.decl.ClassDecl.{ClassDecl}
use Rattle.cx_type_defs.specs.declared.decl.ClassKey.{ClassKey}
use Rattle.cx_type_defs.specs.Tables.{Tables}
use Rattle.cx_type_defs.specs.Questions.{OfType, address_answer, looked, extent_of}
use Rattle.cx_type_defs.proofs.Lists.{some_inj, option_and_then-some, option_map-some}
use Rattle.cx_state.specs.declared.kind.Scalar.{Scalar}
use Rattle.cx_state.specs.declared.kind.Scalar.TheVariants as scalar
use Rattle.cx_state.specs.Objects.{Path, Objects}
use Rattle.cx_state.specs.Places.{row_of}
use Rattle.cx_state.specs.Conditions as on
use Rattle.cx_state.specs.Steps.{outer}
use Rattle.cx_state.specs.Pointers.{add, is_union_key, is_union_kind}
use Rattle.cx_state.proofs.SameTypes.{alike-simple}
use Rattle.cx_state.specs.Forms.{IsPointee, Designates, MayHold, Fit}
use Rattle.cx_state.proofs.PartsComplete.{Answered, place-answered}
use Rattle.cx_state.proofs.KnownTypes.{add-types, outer-class_at}
use Rattle.cx_store.specs.Stores.{IsOf, IsClassAt, IsUnionAt, MayTake, is_class_kind, seen}
use Rattle.cx_store_cases.specs.declared.seat.Seat.{Seat}
use Rattle.cx_store_cases.specs.Seats.{IsTold, IsSeat, IsClassSeat, IsLed, IsOwn, IsExact}
use Rattle.cx_store_cases.proofs.Seats.{seat-known, seat-told}

-- a complete class is one of the tables
pub class-within : (t : Tables) (k : Option TypeKind) (c : ClassId) → IsClassSeat t k c → c.0 < length t.classes
class-within t k c h =
    let d = option_and_then-some (λ (d : ClassDecl). d.body) (slice_get t.classes c.0) h.body h.is_body in
    slice_get_within t.classes c.0 d.0 d.1

-- the word that it is declared with tells which it is
kind-by_key : (t : Tables) (c : ClassId) (k : ClassKey) → option_map (λ (d : ClassDecl). d.key) (slice_get t.classes c.0) ≡ Some k → (is_class_kind t (kind.Class c) ≡ not (is_union_key k)) × (is_union_kind t (kind.Class c) ≡ is_union_key k)
kind-by_key t c k e =
    let d = option_map-some (λ (d : ClassDecl). d.key) (slice_get t.classes c.0) k e in (
      ap (λ o. unwrap_or (option_map (λ (d : ClassDecl). not (is_union_key d.key)) o) false) d.1 ∙ ap (λ w. not (is_union_key w)) d.2,
      ap (λ o. unwrap_or (option_map (λ (d : ClassDecl). is_union_key d.key) o) false) d.1 ∙ ap is_union_key d.2,
    )

is-of : (Q : TypeRow → Type 0) (o : Option TypeRow) (r : TypeRow) → o ≡ Some r → Q r → IsOf Q o
is-of Q o r e q = subst (IsOf Q) (sym e) q

module _ {P : Type 0} (t : Tables) (os : Objects) (path : P → Path) where
  pub class-there : (s : Seat P) (c : ClassId) (k : ClassKey) → IsSeat t os path s → IsClassSeat t s.kind c → option_map (λ (d : ClassDecl). d.key) (slice_get t.classes c.0) ≡ Some k → is_union_key k ≡ false → IsClassAt t os (path s.place)
  class-there s c k h w e n =
      is-of (λ r. is_class_kind t r.kind ≡ true) (row_of t os (path s.place)) h.row h.is_row
      (ap (is_class_kind t) (seat-told t os path s (kind.Class c) h w.is_class) ∙ (kind-by_key t c k e).0 ∙ ap not n)

  pub union-there : (s : Seat P) (c : ClassId) (k : ClassKey) → IsSeat t os path s → IsClassSeat t s.kind c → option_map (λ (d : ClassDecl). d.key) (slice_get t.classes c.0) ≡ Some k → is_union_key k ≡ true → IsUnionAt t os (path s.place)
  union-there s c k h w e n =
      is-of (λ r. is_union_kind t r.kind ≡ true) (row_of t os (path s.place)) h.row h.is_row
      (ap (is_union_kind t) (seat-told t os path s (kind.Class c) h w.is_class) ∙ (kind-by_key t c k e).1 ∙ n)

  -- where a class is found, there is a place of it
  class-seat_at : (new : Seat P) (c : ClassId) → on.class_at t os (path new.place) ≡ Some c → new.kind ≡ Some (kind.Class c) → IsSeat t os path new
  class-seat_at new c e n =
      let r = option_and_then-some (λ (r : TypeRow). on.class_of r.kind) (row_of t os (path new.place)) c e in
      record { row = r.0; is_row = r.1; is_told = subst (λ o. IsTold o r.0.kind) (sym n) (class-kind r.0.kind c r.2) }
    where
      class-kind : (k : TypeKind) (c : ClassId) → on.class_of k ≡ Some c → k ≡ kind.Class c
      class-kind (kind.Class d) c e = ap kind.Class (some_inj d c e)
      class-kind kind.Void c e = absurd (cc)
      class-kind kind.Nullptr c e = absurd (cc)
      class-kind (kind.Int _) c e = absurd (cc)
      class-kind (kind.Enum _) c e = absurd (cc)
      class-kind (kind.Pointer _) c e = absurd (cc)
      class-kind (kind.Reference _) c e = absurd (cc)
      class-kind (kind.Array _ _) c e = absurd (cc)

  pub outer-seat : (s new : Seat P) (c : ClassId) → IsSeat t os path s → outer t os (path s.place) c ≡ Ok (path new.place) → new.kind ≡ Some (kind.Class c) → IsSeat t os path new
  outer-seat s new c h e n = class-seat_at new c (outer-class_at t os (path s.place) (path new.place) c (seat-known t os path s h) e) n

  pub moved-seat : (s new : Seat P) (by : ℤ) → IsSeat t os path s → add t os (path s.place) by ≡ Ok (path new.place) → new.kind ≡ s.kind → IsSeat t os path new
  moved-seat s new by h e n = record {
    row = h.row;
    is_row = add-types t os (path s.place) (path new.place) by (seat-known t os path s h) e ∙ h.is_row;
    is_told = subst (λ o. IsTold o h.row.kind) (sym n) h.is_told;
  }

  -- what a pointer leads to is one of the tables
  row-within : (to : TypeId) (n : ℕ) (x : _) → option_and_then (λ (r : TypeRow). address_answer extent_of (looked extent_of t n (OfType to)) r.kind) (slice_get t.rows to.0) ≡ Some x → to.0 < length t.rows
  row-within to n x e =
      let r = option_and_then-some (λ (r : TypeRow). address_answer extent_of (looked extent_of t n (OfType to)) r.kind) (slice_get t.rows to.0) x e in
      slice_get_within t.rows to.0 r.0 r.1

  pub pointee-known : Fit t os → (s : Seat P) (to : TypeId) → IsSeat t os path s → s.kind ≡ Some (kind.Pointer to) → to.0 < length t.rows
  pointee-known fit s to h e =
      let a = subst (Answered extent_of t) (seat-told t os path s (kind.Pointer to) h e) (place-answered t os (path s.place) h.row fit h.is_row) in
      row-within to a.level a.answer a.is_answer

  pub referee-known : Fit t os → (s : Seat P) (to : TypeId) → IsSeat t os path s → s.kind ≡ Some (kind.Reference to) → to.0 < length t.rows
  referee-known fit s to h e =
      let a = subst (Answered extent_of t) (seat-told t os path s (kind.Reference to) h e) (place-answered t os (path s.place) h.row fit h.is_row) in
      row-within to a.level a.answer a.is_answer

  -- what it designates, where it leads to a form of its own
  own-alike : (k l : TypeKind) → IsOwn k → IsPointee t k l → l ≡ k
  own-alike (kind.Int i) l w (inl e) = absurd (cc)
  own-alike (kind.Int i) l w (inr a) = alike-simple t (kind.Int i) l tt a
  own-alike (kind.Class c) l w (inl e) = absurd (cc)
  own-alike (kind.Class c) l w (inr a) = alike-simple t (kind.Class c) l tt a
  own-alike kind.Void l w e = absurd w
  own-alike kind.Nullptr l w e = absurd w
  own-alike (kind.Enum _) l w e = absurd w
  own-alike (kind.Pointer _) l w e = absurd w
  own-alike (kind.Reference _) l w e = absurd w
  own-alike (kind.Array _ _) l w e = absurd w

  exact-told : (o : Option TypeKind) (k l : TypeKind) → IsExact k o → IsPointee t k l → IsTold o l
  exact-told None k l x e = tt
  exact-told (Some m) k l x e = own-alike k l x.1 e ∙ sym x.0

  of-is : (Q : TypeRow → Type 0) (o : Option TypeRow) (r : TypeRow) → o ≡ Some r → IsOf Q o → Q r
  of-is Q o r e q = subst (IsOf Q) e q

  designated : (new : Seat P) (to : TypeId) (r : TypeRow) → slice_get t.rows to.0 ≡ Some r → IsExact r.kind new.kind → Designates t os to (path new.place) → IsSeat t os path new
  designated new to r e x d = record {
    row = d.found;
    is_row = d.is_found;
    is_told = exact-told new.kind r.kind d.found.kind x (subst (λ (w : TypeRow). IsPointee t w.kind d.found.kind) (some_inj d.asked r (sym d.is_asked ∙ e)) d.alike);
  }

  pub led-seat : (s new : Seat P) (k : TypeKind) → IsSeat t os path s → IsLed t s.kind k → IsExact k new.kind → MayTake t os (path s.place) (scalar.Place (path new.place)) → IsSeat t os path new
  led-seat s new k h l x m =
      let holds : MayHold t os h.row.kind (scalar.Place (path new.place)) = of-is (λ r. MayHold t os r.kind (scalar.Place (path new.place))) (row_of t os (path s.place)) h.row h.is_row m in
      elim l.leads as (λ _. IsSeat t os path new) [
        | inl e ↦ designated new l.to l.row l.is_row (subst (λ w. IsExact w new.kind) (sym l.is_kind) x) (subst (λ w. MayHold t os w (scalar.Place (path new.place))) (seat-told t os path s (kind.Pointer l.to) h e) holds)
        | inr e ↦ designated new l.to l.row l.is_row (subst (λ w. IsExact w new.kind) (sym l.is_kind) x) (subst (λ w. MayHold t os w (scalar.Place (path new.place))) (seat-told t os path s (kind.Reference l.to) h e) holds)
      ]

  pub led-seat_of : (s new : Seat P) (k : TypeKind) (v : Scalar P) → v ≡ scalar.Place new.place → IsSeat t os path s → IsLed t s.kind k → IsExact k new.kind → MayTake t os (path s.place) (seen path v) → IsSeat t os path new
  led-seat_of s new k v e h l x m = led-seat s new k h l x (subst (λ w. MayTake t os (path s.place) (seen path w)) e m)
