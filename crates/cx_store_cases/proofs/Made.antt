-- What a case has at hand where objects are made and cut off.
use Rattle.std.proofs.Common.{◌≡◌, ℕ, ◌<◌, ◌≤◌, ◌*◌, true, false, List, [], ◌∷◌, ◌++◌, length, Option, None, Some, Ok, Err, Result, refl, sym, ap, subst, ◌∙◌, slice_get, arith, inl, inr}
use Rattle.std.specs.Prelude.{option_map, option_and_then, unwrap_or, ◌||◌}
use Rattle.cx_base.specs.declared.rule.Rule.{Rule}
use Rattle.cx_base.specs.declared.limits.Limits.{Limits}
use Rattle.cx_type_defs.specs.declared.ids.TypeId.{TypeId}
use Rattle.cx_type_defs.specs.declared.kind.TypeRow.{TypeRow}
use Rattle.cx_type_defs.specs.declared.kind.TypeKind.TheVariants as kind
use Rattle.cx_type_defs.specs.Tables.{Tables}
use Rattle.cx_type_defs.specs.Questions.{OfType, asked, cells_of, is_complete, cells_answer}
use Rattle.cx_type_defs.proofs.Asked.{cells-told}
use Rattle.cx_type_defs.proofs.Lists.{slice_get-push, slice_get-last}
use Rattle.cx_state.specs.Objects.{Path, Object, Objects}
use Rattle.cx_state.specs.Places.{whole_kind, root_row, spot, spot_row, row_of}
use Rattle.cx_state.specs.Steps.{cut}
use Rattle.cx_state.specs.Counts.{Request, new_object, make, next_place}
use Rattle.cx_state.specs.Forms.{HoldsBelow}
use Rattle.cx_state.proofs.Known.{make-ok}
use Rattle.cx_state.proofs.Making.{at-within}
use Rattle.cx_store.specs.declared.store.StoreAnswer.{StoreAnswer}
use Rattle.cx_store.specs.declared.store.StoreAnswer.TheVariants as answer
use Rattle.cx_store.specs.declared.store.RootView.{RootView}
use Rattle.cx_store.specs.Stores.{IsWhole, KeepsPaths, Made, StillKnows, PathsBelow, StillKnowsBelow, Tells}
use Rattle.cx_store_cases.specs.declared.seat.Seat.{Seat}
use Rattle.cx_store_cases.specs.declared.seat.Desk.{Desk}
use Rattle.cx_store_cases.specs.Seats.{IsTold, IsSeat, HeldBelow, Stands, IsWholeKind, AreKept}
use Rattle.cx_store_cases.proofs.Desks.{put-seats, seat-object, seat-present}
use Rattle.cx_store_cases.proofs.Held.{held-made, held-cut}

-- a type with cells is complete
pub whole : (t : Tables) (ty : TypeId) (count : Option ℕ) (n many : ℕ) → cells_answer t ty ≡ Ok n → many ≡ unwrap_or count 1 → many * n ≤ 1073741824 → IsWhole t ty count
whole t ty count n many e m few =
    let c = cells-told t ty n e in
    record { complete = c.0; few = subst (λ x. x * unwrap_or (asked cells_of t (OfType ty)) 0 ≤ 1073741824) m (subst (λ x. many * x ≤ 1073741824) (sym (ap (λ (o : Option ℕ). unwrap_or o 0) c.1)) few) }

module _ {P : Type 0} (t : Tables) (os : Objects) (path : P → Path) where
  held-make : (limits : Limits) (q : Request) (now : Objects) (after : P → Path) (r : Result P StoreAnswer) (safe : ℕ) → is_complete t q.ty ≡ true → HeldBelow os safe → Made t limits q os now after r → HeldBelow now safe
  held-make limits q now after (Ok p) safe c h m = held-made t limits os now q safe c h m.0
  held-make limits q now after (Err (answer.Rule r)) safe c h m = subst (λ w. HeldBelow w safe) (sym m.1) h
  held-make limits q now after (Err answer.Memory) safe c h m = subst (λ w. HeldBelow w safe) (sym m.1) h

  -- places stay where an object is made
  pub stands-made : (old new : Type 0) (limits : Limits) (q : Request) (now : Objects) (after : P → Path) (r : Result P StoreAnswer) (d : Desk P) → IsWhole t q.ty q.count → Stands old t os path d → new → StillKnows os now → KeepsPaths os path after → Made t limits q os now after r → Stands new t now after d
  stands-made old new limits q now after r d w h f k e m = record {
    fits = f;
    seats = record {
      each = λ i n a.
          let s = h.seats.each i n a in
          let same : after n.place ≡ path n.place = e n.place (seat-present t os path n s) in
          record { row = s.row; is_row = k.types t (after n.place) s.row (subst (λ p. row_of t os p ≡ Some s.row) (sym same) s.is_row); is_told = s.is_told };
    };
    held = held-make limits q now after r d.safe w.complete h.held m;
  }

  -- the place of a new object
  new-row : (limits : Limits) (q : Request) (now : Objects) (r : TypeRow) → slice_get t.rows q.ty.0 ≡ Some r → make t limits os q ≡ Ok now → row_of t now (next_place os) ≡ Some (record { kind = whole_kind q.count q.ty r.kind; konst = q.konst || r.konst })
  new-row limits q now r e m =
      let o = new_object t q in
      let made = make-ok t limits os now q m in
      let at : slice_get now (length os) ≡ Some o = ap (λ xs. slice_get xs (length os)) (sym made) ∙ slice_get-last os o in
      let root : root_row t o ≡ Some (record { kind = whole_kind q.count q.ty r.kind; konst = q.konst || r.konst }) = ap (option_map (λ (w : TypeRow). record { kind = whole_kind q.count q.ty w.kind; konst = q.konst || w.konst })) e in
      ap (option_and_then (λ (x : Object). option_and_then (spot_row t false (spot (next_place os))) (root_row t x))) at ∙ ap (option_and_then (spot_row t false (spot (next_place os)))) root

  pub seat-made : (limits : Limits) (q : Request) (now : Objects) (after : P → Path) (new : Seat P) (k : _) → IsWholeKind t q.ty q.count k → new.kind ≡ Some k → Made t limits q os now after (Ok new.place) → IsSeat t now after new
  seat-made limits q now after new k w n m = record {
    row = record { kind = whole_kind q.count q.ty w.row.kind; konst = q.konst || w.row.konst };
    is_row = ap (row_of t now) m.1 ∙ new-row limits q now w.row w.is_row m.0;
    is_told = subst (λ o. IsTold o (whole_kind q.count q.ty w.row.kind)) (sym n) (sym w.is_kind);
  }

  -- the places that are kept
  pub below-mark : (s : Seat P) (v : RootView P) (mark : ℕ) → IsSeat t os path s → Tells os path s.place v → v.number < mark → (path s.place).object < mark
  below-mark s v mark h w l =
      let o = seat-object t os path s h in
      let e = (w o.0 o.1).number in
      omega arith

  pub kept-none : (mark : ℕ) (ss : List (Seat P)) → ss ≡ [] → AreKept t os path mark ss
  kept-none mark ss e = subst (AreKept t os path mark) (sym e) (record { seats = record { each = λ i n e. absurd (cc) }; low = λ i n e. absurd (cc) })

  pub kept-more : (mark : ℕ) (ss now : List (Seat P)) (s : Seat P) → AreKept t os path mark ss → IsSeat t os path s → (path s.place).object < mark → now ≡ ss ++ s ∷ [] → AreKept t os path mark now
  kept-more mark ss now s h w l e = record {
    seats = put-seats t os path ss now s h.seats w e;
    low = subst (λ (xs : List (Seat P)). (i : ℕ) (m : Seat P) → slice_get xs i ≡ Some m → (path m.place).object < mark) (sym e)
        (λ i m a. elim (slice_get-push ss s i m a) as (λ _. (path m.place).object < mark) [ inl b ↦ h.low i m b | inr b ↦ subst (λ (x : Seat P). (path x.place).object < mark) (sym b.1) l ]);
  }

  pub stands-cut : (old new : Type 0) (now : Objects) (after : P → Path) (d e : Desk P) (mark : ℕ) → Stands old t os path d → new → AreKept t os path mark e.seats.items → now ≡ cut os mark → PathsBelow mark path after → StillKnowsBelow mark os now → e.safe ≡ d.safe → Stands new t now after e
  stands-cut old new now after d e mark h f k c p w same = record {
    fits = f;
    seats = record {
      each = λ i n a.
          let s = k.seats.each i n a in
          let l = k.low i n a in
          let same : after n.place ≡ path n.place = p n.place l in
          record { row = s.row; is_row = subst (λ q. row_of t now q ≡ Some s.row) (sym same) (w.types t (path n.place) s.row l s.is_row); is_told = s.is_told };
    };
    held = subst (HeldBelow now) (sym same) (held-cut os now mark d.safe h.held c);
  }

-- nothing is held where nothing is left
pub holds-none : (os : Objects) → HoldsBelow os 0
holds-none os = record { holds_below = λ n o ss p l a e. absurd (omega arith) }

-- the form of the whole object, with a count and without
pub whole_kind-none : (t : Tables) (ty : TypeId) (count : Option ℕ) (r : TypeRow) → count ≡ None → slice_get t.rows ty.0 ≡ Some r → IsWholeKind t ty count r.kind
whole_kind-none t ty count r e a = record { row = r; is_row = a; is_kind = subst (λ o. r.kind ≡ whole_kind o ty r.kind) (sym e) refl }

pub whole_kind-some : (t : Tables) (ty : TypeId) (count : Option ℕ) (n : ℕ) → count ≡ Some n → ty.0 < length t.rows → IsWholeKind t ty count (kind.Array ty n)
whole_kind-some t ty count n e l =
    let r = at-within t.rows ty.0 l in
    record { row = r.0; is_row = r.1; is_kind = subst (λ o. kind.Array ty n ≡ whole_kind o ty r.0.kind) (sym e) refl }
