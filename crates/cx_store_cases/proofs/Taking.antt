-- That a scalar or reference may take a value.
use Rattle.std.proofs.Common.{◌≡◌, Some, refl, sym, subst, inl, inr, slice_get}
use Rattle.cx_ints.specs.declared.int.Int.{Int}
use Rattle.cx_type_defs.specs.declared.ids.TypeId.{TypeId}
use Rattle.cx_type_defs.specs.declared.kind.TypeRow.{TypeRow}
use Rattle.cx_type_defs.specs.declared.kind.TypeKind.{TypeKind}
use Rattle.cx_type_defs.specs.declared.kind.TypeKind.TheVariants as kind
use Rattle.cx_type_defs.specs.Tables.{Tables}
use Rattle.cx_state.specs.declared.kind.Scalar.{Scalar}
use Rattle.cx_state.specs.declared.kind.Scalar.TheVariants as scalar
use Rattle.cx_state.specs.Objects.{Path, Objects}
use Rattle.cx_state.proofs.SameTypes.{simple-alike}
use Rattle.cx_state.specs.Forms.{IsPointee, Designates, MayHold}
use Rattle.cx_store.specs.Stores.{IsOf, MayTake}
use Rattle.cx_store_cases.specs.declared.seat.Seat.{Seat}
use Rattle.cx_store_cases.specs.Seats.{IsSeat, IsLed, MayLead}
use Rattle.cx_store_cases.proofs.Seats.{seat-told}

leads-like : (t : Tables) (k l : TypeKind) → MayLead k l → IsPointee t k l
leads-like t kind.Void l h = inl refl
leads-like t (kind.Int ty) l h = subst (IsPointee t (kind.Int ty)) (sym h) (inr (simple-alike t (kind.Int ty) tt))
leads-like t (kind.Class c) l h = subst (IsPointee t (kind.Class c)) (sym h) (inr (simple-alike t (kind.Class c) tt))
leads-like t kind.Nullptr l h = absurd h
leads-like t (kind.Enum _) l h = absurd h
leads-like t (kind.Pointer _) l h = absurd h
leads-like t (kind.Reference _) l h = absurd h
leads-like t (kind.Array _ _) l h = absurd h

module _ {P : Type 0} (t : Tables) (os : Objects) (path : P → Path) where
  takes : (s : Seat P) (k : TypeKind) (v : Scalar Path) → IsSeat t os path s → s.kind ≡ Some k → MayHold t os k v → MayTake t os (path s.place) v
  takes s k v h e m = subst (IsOf (λ (r : TypeRow). MayHold t os r.kind v)) (sym h.is_row) (subst (λ w. MayHold t os w v) (sym (seat-told t os path s k h e)) m)

  designates : (v : Seat P) (l : TypeKind) (to : TypeId) (r : TypeRow) → IsSeat t os path v → v.kind ≡ Some l → slice_get t.rows to.0 ≡ Some r → MayLead r.kind l → Designates t os to (path v.place)
  designates v l to r w e at m = record {
    asked = r;
    is_asked = at;
    found = w.row;
    is_found = w.is_row;
    alike = subst (IsPointee t r.kind) (sym (seat-told t os path v l w e)) (leads-like t r.kind l m);
  }

  pub takes-place : (s v : Seat P) (k l : TypeKind) → IsSeat t os path s → IsSeat t os path v → IsLed t s.kind k → v.kind ≡ Some l → MayLead k l → MayTake t os (path s.place) (scalar.Place (path v.place))
  takes-place s v k l h w led e m =
      let d = designates v l led.to led.row w e led.is_row (subst (λ q. MayLead q l) (sym led.is_kind) m) in
      elim led.leads as (λ _. MayTake t os (path s.place) (scalar.Place (path v.place))) [
        | inl a ↦ takes s (kind.Pointer led.to) (scalar.Place (path v.place)) h a d
        | inr b ↦ takes s (kind.Reference led.to) (scalar.Place (path v.place)) h b d
      ]
