-- That what a case has at hand still stands.
use Rattle.std.proofs.Common.{◌≡◌, ℕ, ◌+◌, inl, inr, Bool, List, [], ◌∷◌, ◌++◌, Option, Some, refl, sym, ap, subst, ◌∙◌, slice_get}
use Rattle.std.specs.Prelude.{option_map}
use Rattle.std.proofs.lemmas.Option.{slice_get_within}
use Rattle.cx_type_defs.specs.declared.ids.Step.TheVariants as step
use Rattle.cx_type_defs.specs.declared.ids.ClassId.{ClassId}
use Rattle.cx_type_defs.specs.declared.kind.TypeRow.{TypeRow}
use Rattle.cx_type_defs.specs.declared.kind.TypeKind.{TypeKind}
use Rattle.cx_type_defs.specs.declared.kind.TypeKind.TheVariants as kind
use Rattle.cx_type_defs.specs.declared.decl.Field.{Field}
use Rattle.cx_type_defs.specs.Tables.{Tables, field_of}
use Rattle.cx_type_defs.proofs.Lists.{option_and_then-some, slice_get-push}
use Rattle.cx_state.specs.declared.kind.Birth.TheVariants as birth
use Rattle.cx_state.specs.Objects.{Path, Object, Objects}
use Rattle.cx_state.specs.Places.{row_of, kind_part}
use Rattle.cx_state.specs.Forms.{Knows}
use Rattle.cx_state.proofs.Known.{known-object}
use Rattle.cx_store.specs.declared.store.RootView.{RootView}
use Rattle.cx_store.specs.Stores.{IsOf, IsPresent, IsHereAt, Tells, StillKnows}
use Rattle.cx_store_cases.specs.declared.seat.Seat.{Seat}
use Rattle.cx_store_cases.specs.declared.seat.Desk.{Desk}
use Rattle.cx_store_cases.specs.Seats.{IsSeat, AreSeats, HeldBelow, HasPart, Stands}
use Rattle.cx_store_cases.proofs.Seats.{seat-known}

module _ {P : Type 0} (t : Tables) (os : Objects) (path : P → Path) where
  pub put-seats : (ss now : List (Seat P)) (s : Seat P) → AreSeats t os path ss → IsSeat t os path s → now ≡ ss ++ s ∷ [] → AreSeats t os path now
  put-seats ss now s h w e = subst (AreSeats t os path) (sym e) (record {
    each = λ i m a. elim (slice_get-push ss s i m a) as (λ _. IsSeat t os path m) [ inl b ↦ h.each i m b | inr b ↦ subst (IsSeat t os path) (sym b.1) w ];
  })

  pub seat-kept : (now : Objects) (after : P → Path) (s : Seat P) → StillKnows os now → after ≡ path → IsSeat t os path s → IsSeat t now after s
  seat-kept now after s k e h = record { row = h.row; is_row = k.types t (after s.place) h.row (subst (λ f. row_of t os (f s.place) ≡ Some h.row) (sym e) h.is_row); is_told = h.is_told }

  pub stands-kept : (old new : Type 0) (now : Objects) (after : P → Path) (d : Desk P) (safe : ℕ) → Stands old t os path d → new → StillKnows os now → after ≡ path → HeldBelow now safe → Stands new t now after (record d { safe = safe })
  stands-kept old new now after d safe h f k e w = record { fits = f; seats = record { each = λ i s a. seat-kept now after s k e (h.seats.each i s a) }; held = w }

  pub seat-object : (s : Seat P) → IsSeat t os path s → (o : Object) × (slice_get os (path s.place).object ≡ Some o)
  seat-object s h = known-object t os (path s.place) (seat-known t os path s h)

  pub known-present : (p : Path) → Knows t os p → IsPresent os p
  known-present p h = let o = known-object t os p h in slice_get_within os p.object o.0 o.1

  pub seat-present : (s : Seat P) → IsSeat t os path s → IsPresent os (path s.place)
  seat-present s h = known-present (path s.place) (seat-known t os path s h)

  pub here : (s : Seat P) (v : RootView P) → IsSeat t os path s → Tells os path s.place v → v.birth ≡ birth.Here → IsHereAt os (path s.place)
  here s v h w e =
      let o = seat-object s h in
      ap (option_map (λ (x : Object). x.birth)) o.1 ∙ ap Some (sym (w o.0 o.1).birth ∙ e)

  -- a place that is written is known
  of-is : (Q : TypeRow → Type 0) (o : Option TypeRow) (r : TypeRow) → o ≡ Some r → IsOf Q o → Q r
  of-is Q o r e q = subst (IsOf Q) e q

  -- the member that a part is
  pub record Member (s : Seat P) (i : ℕ) : Type 0 where
    pub row : TypeRow
    pub is_row : row_of t os (path s.place) ≡ Some row
    pub class : ClassId
    pub is_class : row.kind ≡ kind.Class class
    pub field : Field
    pub is_field : field_of t class i ≡ Some field

  member-of : (s : Seat P) (i : ℕ) (k : TypeKind) (konst : Bool) (r part : TypeRow) → row_of t os (path s.place) ≡ Some r → r.kind ≡ k → kind_part t konst k (step.Field i) ≡ Some part → Member s i
  member-of s i (kind.Class c) konst r part e f g =
      let w = option_and_then-some (λ (v : Field). slice_get t.rows v.ty.0) (field_of t c i) part g in
      record { row = r; is_row = e; class = c; is_class = f; field = w.0; is_field = w.1 }
  member-of s i kind.Void konst r part e f g = absurd (cc)
  member-of s i kind.Nullptr konst r part e f g = absurd (cc)
  member-of s i (kind.Int _) konst r part e f g = absurd (cc)
  member-of s i (kind.Enum _) konst r part e f g = absurd (cc)
  member-of s i (kind.Pointer _) konst r part e f g = absurd (cc)
  member-of s i (kind.Reference _) konst r part e f g = absurd (cc)
  member-of s i (kind.Array _ _) konst r part e f g = absurd (cc)

  pub member : (s : Seat P) (i : ℕ) (k : TypeKind) → HasPart t os path s (step.Field i) k → Member s i
  member s i k h = member-of s i h.row.kind h.row.konst h.row h.part h.is_row refl h.is_part
