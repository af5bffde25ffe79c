-- All that the tables keep stays kept: beside what is found of types, the slots of bases and the pure functions.
use Rattle.std.proofs.Common.{◌≡◌, ℕ, zero, suc, ◌<◌, ◌≤◌, ◌^◌, Bool, true, false, ◌||◌, List, [], ◌∷◌, ◌++◌, length, set, Option, None, Some, ◌⊎◌, inl, inr, refl, sym, ap, subst, ◌∙◌, slice_get, arith, ℤ}
use Rattle.std.specs.List.{list_any}
use Rattle.std.proofs.lemmas.List.Folds.{list_any-append}
use Rattle.cx_type_defs.specs.declared.ids.ClassId.{ClassId}
use Rattle.cx_type_defs.specs.declared.ids.EnumId.{EnumId}
use Rattle.cx_type_defs.specs.declared.ids.FuncId.{FuncId}
use Rattle.cx_type_defs.specs.declared.kind.TypeRow.{TypeRow}
use Rattle.cx_type_defs.specs.declared.decl.ClassDecl.{ClassDecl}
use Rattle.cx_type_defs.specs.declared.decl.ClassBody.{ClassBody}
use Rattle.cx_type_defs.specs.declared.decl.ClassKey.{ClassKey}
use Rattle.cx_type_defs.specs.declared.decl.EnumDecl.{EnumDecl}
use Rattle.cx_type_defs.specs.declared.decl.EnumEnd.{EnumEnd}
use Rattle.cx_types.specs.declared.facts.RowFacts.{RowFacts}
use Rattle.cx_types.specs.declared.facts.Measure.{Measure}
use Rattle.cx_type_defs.specs.Tables.{Tables, Grows, IsKnown, changed_at, with_row, with_class, with_enum, with_end, with_body, lists_function, body_declares, declared_pure}
use Rattle.cx_type_defs.specs.Slots.{base_slots}
use Rattle.cx_type_defs.specs.Same.{is_normal}
use Rattle.cx_type_defs.specs.Bodies.{IsFit}
use Rattle.cx_type_defs.specs.Enums.{IsFixedIfScoped, IsUnder}
use Rattle.cx_types.specs.Kept.{KeptSlots, SlotsFit, StaysFit, IsFitEnum, AllKept, MayCome}
use Rattle.cx_types.specs.Parts.{BodyTold, IsOpenClass}
use Rattle.cx_type_defs.proofs.Lists.{some_inj, slice_get-push}
use Rattle.cx_type_defs.proofs.Looking.{Grows-then}
use Rattle.cx_type_defs.proofs.Growing.{Grows-row, Grows-class, Grows-enum, Grows-body, Grows-end}
use Rattle.cx_types.proofs.Keeping.{Kept-enum, Kept-end, Kept-class}
use Rattle.cx_types.proofs.Coming.{Kept-row}
use Rattle.cx_types.proofs.Closing.{slice_get-changed, Kept-open}
use Rattle.cx_types.proofs.Slots.{SlotsFit-grows, base_slots-stay, fit-stays, StaysFit-grows}

pub All-row : (t : Tables) (row : TypeRow) (f : RowFacts) (rf : List RowFacts) (ms : List (Option Measure)) (ps : List FuncId) → IsKnown t row.kind → is_normal t row ≡ true → ((i : ℕ) → slice_get t.rows i ≡ Some row → ⊥) → MayCome t (record { 0 = length t.rows }) row.kind f → AllKept t rf ms ps → AllKept (with_row t row) (rf ++ f ∷ []) ms ps
All-row t row f rf ms ps known normal absent may h = record {
  measures_kept = Kept-row t row f rf ms known normal absent may h.measures_kept;
  slots_kept = λ c d e. SlotsFit-grows t (with_row t row) (Grows-row t row) d.body (h.slots_kept c d e);
  bodies_fit = λ c d e. StaysFit-grows t (with_row t row) (Grows-row t row) d.key d.body (h.bodies_fit c d e);
  enums_fit = h.enums_fit;
  pures_kept = h.pures_kept;
}

pub All-enum : (t : Tables) (d : EnumDecl) (rf : List RowFacts) (ms : List (Option Measure)) (ps : List FuncId) → IsFixedIfScoped d.scoped d.fixed → d.end ≡ None → AllKept t rf ms ps → AllKept (with_enum t d) rf ms ps
All-enum t d rf ms ps fixed none h = record {
  measures_kept = Kept-enum t d rf ms h.measures_kept;
  slots_kept = λ c w e. SlotsFit-grows t (with_enum t d) (Grows-enum t d) w.body (h.slots_kept c w e);
  bodies_fit = λ c w e. StaysFit-grows t (with_enum t d) (Grows-enum t d) w.key w.body (h.bodies_fit c w e);
  enums_fit = λ e w at. of e w (slice_get-push t.enums d e.0 w at);
  pures_kept = h.pures_kept;
}
  where
    of : (e : EnumId) (w : EnumDecl) → (slice_get t.enums e.0 ≡ Some w) ⊎ ((e.0 ≡ length t.enums) × (w ≡ d)) → IsFitEnum w
    of e w (inl a) = h.enums_fit e w a
    of e w (inr a) = subst IsFitEnum (sym a.1) (record { scoped_fixed = fixed; end_fits = λ x is. let z : None ≡ Some x = sym none ∙ is in absurd (cc) })

pub All-end : (t : Tables) (id : EnumId) (e : EnumEnd) (rf : List RowFacts) (ms : List (Option Measure)) (ps : List FuncId) → ((d : EnumDecl) → slice_get t.enums id.0 ≡ Some d → d.end ≡ None) → (low high : ℤ) → e.low ≡ low → e.high ≡ high → ((d : EnumDecl) → slice_get t.enums id.0 ≡ Some d → IsUnder d.fixed e.under low high) → AllKept t rf ms ps → AllKept (with_end t id e) rf ms ps
All-end t id e rf ms ps none low high same_low same_high under h = record {
  measures_kept = Kept-end t id e rf ms none h.measures_kept;
  slots_kept = λ c w at. SlotsFit-grows t (with_end t id e) (Grows-end t id e none) w.body (h.slots_kept c w at);
  bodies_fit = λ c w at. StaysFit-grows t (with_end t id e) (Grows-end t id e none) w.key w.body (h.bodies_fit c w at);
  enums_fit = λ i w at. of i w (slice_get-changed (λ (v : EnumDecl). record v { end = Some e }) t.enums id.0 i.0 w at);
  pures_kept = h.pures_kept;
}
  where
    ended : (x : EnumDecl) → slice_get t.enums id.0 ≡ Some x → IsFitEnum x → IsFitEnum (record x { end = Some e })
    ended x at fit = record { scoped_fixed = fit.scoped_fixed; end_fits = λ y is. subst (λ (z : EnumEnd). IsUnder x.fixed z.under z.low z.high) (some_inj e y is) (subst (λ (z : ℤ). IsUnder x.fixed e.under e.low z) (sym same_high) (subst (λ (z : ℤ). IsUnder x.fixed e.under z high) (sym same_low) (under x at))) }

    of : (i : EnumId) (w : EnumDecl) → ((i.0 ≡ id.0) × (x : EnumDecl) × (slice_get t.enums i.0 ≡ Some x) × (w ≡ record x { end = Some e })) ⊎ ((i.0 ≡ id.0 → ⊥) × (slice_get t.enums i.0 ≡ Some w)) → IsFitEnum w
    of i w (inl p) = subst IsFitEnum (sym p.3) (ended p.1 (subst (λ (n : ℕ). slice_get t.enums n ≡ Some p.1) p.0 p.2) (h.enums_fit i p.1 p.2))
    of i w (inr p) = h.enums_fit i w p.1

or-none : (a b : Bool) → b ≡ false → (a || (b || false)) ≡ a
or-none true b h = refl
or-none false b h = ap (λ x. x || false) h

pub All-class : (t : Tables) (d : ClassDecl) (rf : List RowFacts) (ms : List (Option Measure)) (ps : List FuncId) → d.body ≡ None → AllKept t rf ms ps → AllKept (with_class t d) rf (ms ++ None ∷ []) ps
All-class t d rf ms ps none h = record {
  measures_kept = Kept-class t d rf ms none h.measures_kept;
  slots_kept = λ c w e. fit c w (slice_get-push t.classes d c.0 w e);
  bodies_fit = λ c w e. fit_body c w (slice_get-push t.classes d c.0 w e);
  enums_fit = h.enums_fit;
  pures_kept = λ f.
      h.pures_kept f
      ∙ sym (or-none (declared_pure t f) (body_declares f d.body) (ap (body_declares f) none))
      ∙ sym (list_any-append (λ (w : ClassDecl). body_declares f w.body) t.classes (d ∷ []));
}
  where
    fit : (c : ClassId) (w : ClassDecl) → (slice_get t.classes c.0 ≡ Some w) ⊎ ((c.0 ≡ length t.classes) × (w ≡ d)) → SlotsFit (with_class t d) w.body
    fit c w (inl a) = SlotsFit-grows t (with_class t d) (Grows-class t d) w.body (h.slots_kept c w a)
    fit c w (inr a) = subst (SlotsFit (with_class t d)) (sym (ap (λ (v : ClassDecl). v.body) a.1 ∙ none)) tt

    fit_body : (c : ClassId) (w : ClassDecl) → (slice_get t.classes c.0 ≡ Some w) ⊎ ((c.0 ≡ length t.classes) × (w ≡ d)) → StaysFit (with_class t d) w.key w.body
    fit_body c w (inl a) = StaysFit-grows t (with_class t d) (Grows-class t d) w.key w.body (h.bodies_fit c w a)
    fit_body c w (inr a) = subst (StaysFit (with_class t d) w.key) (sym (ap (λ (v : ClassDecl). v.body) a.1 ∙ none)) tt

-- a class is completed

or-comm : (b l : Bool) → (l || b) ≡ (b || l)
or-comm true true = refl
or-comm true false = refl
or-comm false true = refl
or-comm false false = refl

or-swap : (a b l : Bool) → a ≡ false → (l || b) ≡ ((a || b) || l)
or-swap a b l h = or-comm b l ∙ ap (λ x. (x || b) || l) (sym h)

or-assoc : (a b l : Bool) → (a || (b || l)) ≡ ((a || b) || l)
or-assoc true b l = refl
or-assoc false b l = refl

declared-changed : (f : FuncId) (b : ClassBody) (ds : List ClassDecl) (i : ℕ) (d : ClassDecl) → slice_get ds i ≡ Some d → d.body ≡ None
    → list_any (λ (w : ClassDecl). body_declares f w.body) (changed_at (λ (w : ClassDecl). record w { body = Some b }) ds i) ≡ (list_any (λ (w : ClassDecl). body_declares f w.body) ds || lists_function f b.pures)
declared-changed f b [] i d e none = absurd (cc)
declared-changed f b (x ∷ xs) zero d e none =
    or-swap (body_declares f x.body) (list_any (λ (w : ClassDecl). body_declares f w.body) xs) (lists_function f b.pures)
    (ap (λ (w : ClassDecl). body_declares f w.body) (some_inj x d e) ∙ ap (body_declares f) none)
declared-changed f b (x ∷ xs) (suc i) d e none =
    ap (λ v. body_declares f x.body || v) (declared-changed f b xs i d e none)
    ∙ or-assoc (body_declares f x.body) (list_any (λ (w : ClassDecl). body_declares f w.body) xs) (lists_function f b.pures)

module _ (t : Tables) (c : ClassId) (k : ClassKey) (b : ClassBody) (m : Measure) (told : BodyTold t k b m) (slots : base_slots t b ≤ length b.slots) (few : length b.slots < 2 ^ 32) (fits : IsFit t k b) where
  new-fit : Grows t (with_body t c b) → StaysFit (with_body t c b) k (Some b)
  new-fit g = λ v w. fit-stays t v (Grows-then t (with_body t c b) v g w) k b m.facts.depth told.depth_told fits

  new-slots : Grows t (with_body t c b) → KeptSlots (with_body t c b) b
  new-slots g = record {
    few_slots = few;
    bases_fit = λ v w. let e = base_slots-stay t v (Grows-then t (with_body t c b) v g w) k b m.facts.depth told.depth_told in omega arith;
  }

  pub All-open : (rf : List RowFacts) (ms : List (Option Measure)) (ps new : List FuncId) → IsOpenClass (slice_get t.classes c.0) k
      → ((f : FuncId) → lists_function f new ≡ (lists_function f ps || lists_function f b.pures)) → AllKept t rf ms ps → AllKept (with_body t c b) rf (set ms c.0 (Some m)) new
  All-open rf ms ps new open_ added h = of (slice_get t.classes c.0) refl open_
    where
      fit : Grows t (with_body t c b) → (i : ClassId) (w : ClassDecl) → ((i.0 ≡ c.0) × (x : ClassDecl) × (slice_get t.classes i.0 ≡ Some x) × (w ≡ record x { body = Some b })) ⊎ ((i.0 ≡ c.0 → ⊥) × (slice_get t.classes i.0 ≡ Some w)) → SlotsFit (with_body t c b) w.body
      fit g i w (inl p) = subst (SlotsFit (with_body t c b)) (sym (ap (λ (v : ClassDecl). v.body) p.3)) (new-slots g)
      fit g i w (inr p) = SlotsFit-grows t (with_body t c b) g w.body (h.slots_kept i w p.1)

      fit_body : Grows t (with_body t c b) → ((x : ClassDecl) → slice_get t.classes c.0 ≡ Some x → x.key ≡ k) → (i : ClassId) (w : ClassDecl) → ((i.0 ≡ c.0) × (x : ClassDecl) × (slice_get t.classes i.0 ≡ Some x) × (w ≡ record x { body = Some b })) ⊎ ((i.0 ≡ c.0 → ⊥) × (slice_get t.classes i.0 ≡ Some w)) → StaysFit (with_body t c b) w.key w.body
      fit_body g key i w (inl p) =
          let same : p.1.key ≡ k = key p.1 (subst (λ (n : ℕ). slice_get t.classes n ≡ Some p.1) p.0 p.2) in
          subst (λ (v : ClassDecl). StaysFit (with_body t c b) v.key v.body) (sym p.3) (subst (λ (z : ClassKey). StaysFit (with_body t c b) z (Some b)) (sym same) (new-fit g))
      fit_body g key i w (inr p) = StaysFit-grows t (with_body t c b) g w.key w.body (h.bodies_fit i w p.1)

      of : (o : Option ClassDecl) → slice_get t.classes c.0 ≡ o → IsOpenClass o k → AllKept (with_body t c b) rf (set ms c.0 (Some m)) new
      of None e x = absurd x
      of (Some d) e x =
          let g = Grows-body t c b d e x.0 in
          let key : (y : ClassDecl) → slice_get t.classes c.0 ≡ Some y → y.key ≡ k = λ y at. ap (λ (v : ClassDecl). v.key) (some_inj y d (sym at ∙ e)) ∙ x.1 in
          record {
            measures_kept = Kept-open t c k b m rf ms open_ told h.measures_kept;
            slots_kept = λ i w at. fit g i w (slice_get-changed (λ (v : ClassDecl). record v { body = Some b }) t.classes c.0 i.0 w at);
            bodies_fit = λ i w at. fit_body g key i w (slice_get-changed (λ (v : ClassDecl). record v { body = Some b }) t.classes c.0 i.0 w at);
            enums_fit = h.enums_fit;
            pures_kept = λ f. added f ∙ ap (λ v. v || lists_function f b.pures) (h.pures_kept f) ∙ sym (declared-changed f b t.classes c.0 d e x.0);
          }
