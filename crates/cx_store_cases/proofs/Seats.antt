-- What follows for places with their types.
use Rattle.std.proofs.Common.{◌≡◌, ℕ, ◌<◌, ◌≤◌, false, [], length, Option, None, Some, Ok, Err, Result, refl, sym, ap, subst, ◌∙◌, slice_get}
use Rattle.std.specs.Prelude.{option_map, option_and_then, IfOk}
use Rattle.cx_base.specs.declared.rule.Rule.{Rule}
use Rattle.cx_type_defs.specs.declared.ids.Step.{Step}
use Rattle.cx_type_defs.specs.declared.ids.Step.TheVariants as step
use Rattle.cx_type_defs.specs.declared.ids.TypeId.{TypeId}
use Rattle.cx_type_defs.specs.declared.ids.ClassId.{ClassId}
use Rattle.cx_type_defs.specs.declared.kind.TypeRow.{TypeRow}
use Rattle.cx_type_defs.specs.declared.kind.TypeKind.{TypeKind}
use Rattle.cx_type_defs.specs.declared.kind.TypeKind.TheVariants as kind
use Rattle.cx_type_defs.specs.declared.decl.Field.{Field}
use Rattle.cx_type_defs.specs.declared.decl.ClassDecl.{ClassDecl}
use Rattle.cx_type_defs.specs.Tables.{Tables, base_of, field_of}
use Rattle.cx_type_defs.specs.Questions.{body_answer, looked, extent_of}
use Rattle.cx_type_defs.proofs.Lists.{some_inj, option_and_then-some, option_map-some}
use Rattle.cx_state.specs.Objects.{Path, Objects}
use Rattle.cx_state.specs.Places.{row_part, row_of, base_row, element}
use Rattle.cx_state.specs.Conditions as on
use Rattle.cx_state.specs.Steps.{unless, deeper, to_field, to_base, to_elem}
use Rattle.cx_state.specs.Forms.{Fit, Knows}
use Rattle.cx_state.proofs.Known.{unless-ok, known-row, Second, unbroken-not_past, part-row, to_elem-row}
use Rattle.cx_state.proofs.PartsComplete.{Answered, place-answered, member-complete, element-complete, complete-known}
use Rattle.cx_store_cases.specs.declared.seat.Seat.{Seat}
use Rattle.cx_store_cases.specs.declared.stop.Stop.{Stop}
use Rattle.cx_store_cases.specs.Seats.{IsTold, IsSeat, IsClassSeat, HasPart, HasElems}

-- a form that is told is that form
pub told-as : (o : Option TypeKind) (k l : TypeKind) → o ≡ Some k → k ≡ l → o ≡ Some l
told-as o k l e f = e ∙ ap Some f

module _ {P : Type 0} (t : Tables) (os : Objects) (path : P → Path) where
  -- a place of a known type is known, and its type is so
  pub seat-known : (s : Seat P) → IsSeat t os path s → Knows t os (path s.place)
  seat-known s h = known-row t os (path s.place) h.row h.is_row

  told : (o : Option TypeKind) (k l : TypeKind) → o ≡ Some l → IsTold o k → k ≡ l
  told None k l e h = absurd (cc)
  told (Some m) k l e h = h ∙ some_inj m l e

  pub seat-told : (s : Seat P) (k : TypeKind) (h : IsSeat t os path s) → s.kind ≡ Some k → h.row.kind ≡ k
  seat-told s k h e = told s.kind h.row.kind k e h.is_told

  -- a class that is there is complete
  pub class-seat : Fit t os → (s : Seat P) (c : ClassId) → IsSeat t os path s → s.kind ≡ Some (kind.Class c) → IsClassSeat t s.kind c
  class-seat fit s c h e =
      let a = subst (Answered extent_of t) (seat-told s (kind.Class c) h e) (place-answered t os (path s.place) h.row fit h.is_row) in
      let d = option_and_then-some (λ (d : ClassDecl). option_and_then (body_answer extent_of (looked extent_of t a.level) d.key) d.body) (slice_get t.classes c.0) a.answer a.is_answer in
      let b = option_and_then-some (body_answer extent_of (looked extent_of t a.level) d.0.key) d.0.body a.answer d.2 in
      record { is_class = e; body = b.0; is_body = ap (option_and_then (λ (d : ClassDecl). d.body)) d.1 ∙ b.1 }

  -- a member's type is one of the tables
  pub member-known : Fit t os → (s : Seat P) (c : ClassId) (i : ℕ) (ty : TypeId) → IsSeat t os path s → s.kind ≡ Some (kind.Class c) → option_map (λ (f : Field). f.ty) (field_of t c i) ≡ Some ty → ty.0 < length t.rows
  member-known fit s c i ty h e g =
      let f = option_map-some (λ (f : Field). f.ty) (field_of t c i) ty g in
      subst (λ (id : TypeId). id.0 < length t.rows) f.2 (complete-known t f.0.ty (member-complete t os (path s.place) h.row c i f.0 fit h.is_row (seat-told s (kind.Class c) h e) f.1))

  pub element-known : Fit t os → (s : Seat P) (of : TypeId) (n : ℕ) → IsSeat t os path s → s.kind ≡ Some (kind.Array of n) → of.0 < length t.rows
  element-known fit s of n h e = complete-known t of (element-complete t os (path s.place) h.row of n fit h.is_row (seat-told s (kind.Array of n) h e))

  -- the parts of a class, by its members and bases
  class-part : (s : Seat P) (c : ClassId) (at : Step) (r : TypeRow) (k : TypeKind) (h : IsSeat t os path s) → s.kind ≡ Some (kind.Class c) → row_part t (record { kind = kind.Class c; konst = h.row.konst }) at ≡ Some r → r.kind ≡ k → HasPart t os path s at k
  class-part s c at r k h e p q = record { row = h.row; is_row = h.is_row; part = r; is_part = subst (λ w. row_part t (record { kind = w; konst = h.row.konst }) at ≡ Some r) (sym (seat-told s (kind.Class c) h e)) p; is_kind = q }

  pub field-part : (s : Seat P) (c : ClassId) (i : ℕ) (ty : TypeId) (r : TypeRow) → IsSeat t os path s → s.kind ≡ Some (kind.Class c) → option_map (λ (f : Field). f.ty) (field_of t c i) ≡ Some ty → slice_get t.rows ty.0 ≡ Some r → HasPart t os path s (step.Field i) r.kind
  field-part s c i ty r h e g l =
      let f = option_map-some (λ (f : Field). f.ty) (field_of t c i) ty g in
      class-part s c (step.Field i) r r.kind h e (ap (option_and_then (λ (f : Field). slice_get t.rows f.ty.0)) f.1 ∙ ap (λ (id : TypeId). slice_get t.rows id.0) f.2 ∙ l) refl

  pub base-part : (s : Seat P) (c b : ClassId) (i : ℕ) → IsSeat t os path s → s.kind ≡ Some (kind.Class c) → base_of t c i ≡ Some b → HasPart t os path s (step.Base i) (kind.Class b)
  base-part s c b i h e g = class-part s c (step.Base i) (base_row b) (kind.Class b) h e (ap (option_map base_row) g) refl

  pub elems : (s : Seat P) (of : TypeId) (n i : ℕ) (r : TypeRow) → IsSeat t os path s → s.kind ≡ Some (kind.Array of n) → i ≤ n → slice_get t.rows of.0 ≡ Some r → HasElems t os path s i r.kind
  elems s of n i r h e l g = record { row = h.row; is_row = h.is_row; of = of; number = n; is_array = seat-told s (kind.Array of n) h e; few = l; element = r; is_element = g; is_kind = refl }

  pub part-known : (s : Seat P) (at : Step) (k : TypeKind) → HasPart t os path s at k → Knows t os (path s.place)
  part-known s at k h = known-row t os (path s.place) h.row h.is_row

  -- the place of a part
  part-seat : (s new : Seat P) (at : Step) (k : TypeKind) → HasPart t os path s at k → unless (on.broken t os (path s.place) on.Part) (deeper (path s.place) at false) ≡ Ok (path new.place) → new.kind ≡ Some k → IsSeat t os path new
  part-seat s new at k h e n =
      let p = path s.place in
      let u = unless-ok (on.broken t os p on.Part) (deeper p at false) (path new.place) e in
      let past = unbroken-not_past t os p on.Part (Second [] refl) (part-known s at k h) u.0 in
      record {
        row = h.part;
        is_row = ap (row_of t os) (sym u.1) ∙ part-row t os p at h.row past h.is_row ∙ h.is_part;
        is_told = subst (λ o. IsTold o h.part.kind) (sym n) h.is_kind;
      }

  -- what a call gives is such a place where each that it may give is one
  pub placed-seat : (answer : Result P Rule) (r : Result (Seat P) Stop) (k : Option TypeKind) → IfOk r (λ s. answer ≡ Ok s.place) → IfOk r (λ (s : Seat P). s.kind ≡ k) → ((s : Seat P) → answer ≡ Ok s.place → s.kind ≡ k → IsSeat t os path s) → IfOk r (IsSeat t os path)
  placed-seat answer (Ok s) k a b f = f s a b
  placed-seat answer (Err e) k a b f = tt

  pub field-seat : (s new : Seat P) (i : ℕ) (k : TypeKind) → HasPart t os path s (step.Field i) k → to_field t os (path s.place) i ≡ Ok (path new.place) → new.kind ≡ Some k → IsSeat t os path new
  field-seat s new i k h e n = part-seat s new (step.Field i) k h e n

  pub base-seat : (s new : Seat P) (i : ℕ) (k : TypeKind) → HasPart t os path s (step.Base i) k → to_base t os (path s.place) i ≡ Ok (path new.place) → new.kind ≡ Some k → IsSeat t os path new
  base-seat s new i k h e n = part-seat s new (step.Base i) k h e n

  pub elem-seat : (s new : Seat P) (i : ℕ) (k : TypeKind) → HasElems t os path s i k → to_elem t os (path s.place) i ≡ Ok (path new.place) → new.kind ≡ Some k → IsSeat t os path new
  elem-seat s new i k h e n = record {
    row = element h.row.konst h.element;
    is_row = to_elem-row t os (path s.place) (path new.place) i h.row h.of h.number h.element h.is_row h.is_array h.is_element h.few e;
    is_told = subst (λ o. IsTold o h.element.kind) (sym n) h.is_kind;
  }
