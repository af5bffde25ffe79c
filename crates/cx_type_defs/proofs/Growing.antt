-- What each call does to the tables makes them grow, and what is known of types, classes and enumerations stays known.
use Rattle.std.proofs.Common.{◌≡◌, ℕ, zero, suc, ◌+◌, Bool, true, false, ◌||◌, List, [], ◌∷◌, length, Option, None, Some, refl, sym, ap, subst, ◌∙◌, slice_get, ℤ}
use Rattle.std.specs.Prelude.{IsSome, option_map, option_and_then, unwrap_or, nat_lt, if◌then◌else◌}
use Rattle.std.specs.List.{list_any}
use Rattle.cx_base.specs.declared.int_type.IntType.{IntType}
use Rattle.cx_type_defs.specs.declared.ids.TypeId.{TypeId}
use Rattle.cx_type_defs.specs.declared.ids.ClassId.{ClassId}
use Rattle.cx_type_defs.specs.declared.ids.EnumId.{EnumId}
use Rattle.cx_type_defs.specs.declared.ids.FuncId.{FuncId}
use Rattle.cx_type_defs.specs.declared.kind.TypeRow.{TypeRow}
use Rattle.cx_type_defs.specs.declared.decl.ClassDecl.{ClassDecl}
use Rattle.cx_type_defs.specs.declared.decl.ClassBody.{ClassBody}
use Rattle.cx_type_defs.specs.declared.decl.ClassKey.{ClassKey}
use Rattle.cx_type_defs.specs.declared.decl.EnumDecl.{EnumDecl}
use Rattle.cx_type_defs.specs.declared.decl.EnumEnd.{EnumEnd}
use Rattle.cx_type_defs.specs.declared.decl.Field.{Field}
use Rattle.cx_type_defs.specs.Tables.{Tables, Along, Stays, ClassGrows, EnumGrows, Grows, with_row, with_class, with_enum, with_body, with_end, changed_at, body_at, base_of, field_of, overrider, body_declares, declared_pure}
use Rattle.cx_type_defs.specs.Questions.{OfType, asked, extent_of, is_complete}
use Rattle.cx_type_defs.specs.Enums.{MayEnd, IsUnder, enum_values, values_at}
use Rattle.cx_type_defs.specs.Refusals.{IsIncomplete}
use Rattle.cx_type_defs.specs.Slots.{slot_count, slot_among, base_slot}
use Rattle.cx_type_defs.specs.Sound.{Sound}
use Rattle.cx_type_defs.proofs.Lists.{some_inj, some-is, option_value, option_and_then-some, option_map-some, Along-at, Along-same, Along-more}
use Rattle.cx_type_defs.proofs.Looking.{Stays-some, ClassGrows-same, EnumGrows-same, asked-keeps}

-- the calls

pub Along-changed : {A : Type 0} (R : A → A → Type 0) → ((x : A) → R x x) → (f : A → A) (xs : List A) (i : ℕ) → ((x : A) → slice_get xs i ≡ Some x → R x (f x)) → Along R xs (changed_at f xs i)
Along-changed R same f [] i h = tt
Along-changed R same f (x ∷ xs) zero h = (h x refl, Along-same R same xs)
Along-changed R same f (x ∷ xs) (suc i) h = (same x, Along-changed R same f xs i h)

pub Grows-row : (t : Tables) (row : TypeRow) → Grows t (with_row t row)
Grows-row t row = record {
  row_list = Along-more (λ (a b : TypeRow). b ≡ a) (λ x. refl) t.rows (row ∷ []);
  class_list = Along-same ClassGrows ClassGrows-same t.classes;
  enum_list = Along-same EnumGrows EnumGrows-same t.enums;
}

pub Grows-class : (t : Tables) (d : ClassDecl) → Grows t (with_class t d)
Grows-class t d = record {
  row_list = Along-same (λ (a b : TypeRow). b ≡ a) (λ x. refl) t.rows;
  class_list = Along-more ClassGrows ClassGrows-same t.classes (d ∷ []);
  enum_list = Along-same EnumGrows EnumGrows-same t.enums;
}

pub Grows-enum : (t : Tables) (d : EnumDecl) → Grows t (with_enum t d)
Grows-enum t d = record {
  row_list = Along-same (λ (a b : TypeRow). b ≡ a) (λ x. refl) t.rows;
  class_list = Along-same ClassGrows ClassGrows-same t.classes;
  enum_list = Along-more EnumGrows EnumGrows-same t.enums (d ∷ []);
}

ClassGrows-body : (d : ClassDecl) (b : ClassBody) → d.body ≡ None → ClassGrows d (record d { body = Some b })
ClassGrows-body d b none = record { same_name = refl; same_key = refl; body_stays = subst (λ o. Stays o (Some b)) (sym none) tt }

pub Grows-body : (t : Tables) (c : ClassId) (b : ClassBody) (d : ClassDecl) → slice_get t.classes c.0 ≡ Some d → d.body ≡ None → Grows t (with_body t c b)
Grows-body t c b d at none = record {
  row_list = Along-same (λ (x y : TypeRow). y ≡ x) (λ x. refl) t.rows;
  class_list = Along-changed ClassGrows ClassGrows-same (λ (w : ClassDecl). record w { body = Some b }) t.classes c.0
      (λ w e. ClassGrows-body w b (subst (λ (v : ClassDecl). v.body ≡ None) (some_inj d w (sym at ∙ e)) none));
  enum_list = Along-same EnumGrows EnumGrows-same t.enums;
}

EnumGrows-end : (d : EnumDecl) (e : EnumEnd) → d.end ≡ None → EnumGrows d (record d { end = Some e })
EnumGrows-end d e none = record { same_name = refl; same_scope = refl; same_fixed = refl; end_stays = subst (λ o. Stays o (Some e)) (sym none) tt }

pub Grows-end : (t : Tables) (id : EnumId) (e : EnumEnd) → ((d : EnumDecl) → slice_get t.enums id.0 ≡ Some d → d.end ≡ None) → Grows t (with_end t id e)
Grows-end t id e none = record {
  row_list = Along-same (λ (a b : TypeRow). b ≡ a) (λ x. refl) t.rows;
  class_list = Along-same ClassGrows ClassGrows-same t.classes;
  enum_list = Along-changed EnumGrows EnumGrows-same (λ (d : EnumDecl). record d { end = Some e }) t.enums id.0 (λ d at. EnumGrows-end d e (none d at));
}

pub body-call : (t : Tables) (c : ClassId) (b : ClassBody) → IsIncomplete (slice_get t.classes c.0) → Grows t (with_body t c b)
body-call t c b h = of (slice_get t.classes c.0) refl h
  where
    of : (o : Option ClassDecl) → slice_get t.classes c.0 ≡ o → IsIncomplete o → Grows t (with_body t c b)
    of None at none = absurd none
    of (Some d) at none = Grows-body t c b d at none

pub MayEnd-none : (o : Option EnumDecl) (under : IntType) (low high : ℤ) → MayEnd o under low high → (d : EnumDecl) → o ≡ Some d → d.end ≡ None
MayEnd-none None under low high m d e = absurd m
MayEnd-none (Some w) under low high m d e = ap (λ (v : EnumDecl). v.end) (sym (some_inj w d e)) ∙ m.0

pub MayEnd-under : (o : Option EnumDecl) (under : IntType) (low high : ℤ) → MayEnd o under low high → (d : EnumDecl) → o ≡ Some d → IsUnder d.fixed under low high
MayEnd-under None under low high m d e = absurd m
MayEnd-under (Some w) under low high m d e = subst (λ (v : EnumDecl). IsUnder v.fixed under low high) (some_inj w d e) m.2

pub end-call : (t : Tables) (id : EnumId) (e : EnumEnd) → MayEnd (slice_get t.enums id.0) e.under e.low e.high → Grows t (with_end t id e)
end-call t id e h = Grows-end t id e (λ d at. MayEnd-none (slice_get t.enums id.0) e.under e.low e.high h d at)

-- what stays

module _ (t u : Tables) (g : Grows t u) where
  pub key-stays : (c : ClassId) (k : ClassKey) → option_map (λ (d : ClassDecl). d.key) (slice_get t.classes c.0) ≡ Some k → option_map (λ (d : ClassDecl). d.key) (slice_get u.classes c.0) ≡ Some k
  key-stays c k e =
      let i = option_map-some (λ (d : ClassDecl). d.key) (slice_get t.classes c.0) k e in
      let a = Along-at ClassGrows t.classes u.classes g.class_list c.0 i.0 i.1 in
      ap (option_map (λ (d : ClassDecl). d.key)) a.1 ∙ ap Some (a.2.same_key ∙ i.2)

  pub body-stays : (c : ClassId) (b : ClassBody) → body_at t c ≡ Some b → body_at u c ≡ Some b
  body-stays c b e =
      let i = option_and_then-some (λ (d : ClassDecl). d.body) (slice_get t.classes c.0) b e in
      let a = Along-at ClassGrows t.classes u.classes g.class_list c.0 i.0 i.1 in
      ap (option_and_then (λ (d : ClassDecl). d.body)) a.1 ∙ Stays-some i.0.body a.0.body b a.2.body_stays i.2

  of-body : {A : Type 0} (f : ClassBody → Option A) (c : ClassId) (x : A) → option_and_then f (body_at t c) ≡ Some x → option_and_then f (body_at u c) ≡ Some x
  of-body f c x e =
      let i = option_and_then-some f (body_at t c) x e in
      ap (option_and_then f) (body-stays c i.0 i.1) ∙ i.2

  pub base-stays : (c : ClassId) (i : ℕ) (base : ClassId) → base_of t c i ≡ Some base → base_of u c i ≡ Some base
  base-stays c i base e = of-body (λ (b : ClassBody). slice_get b.bases i) c base e

  pub field-stays : (c : ClassId) (i : ℕ) (f : Field) → field_of t c i ≡ Some f → field_of u c i ≡ Some f
  field-stays c i f e = of-body (λ (b : ClassBody). slice_get b.fields i) c f e

  pub overrider-stays : (c : ClassId) (k : ℕ) (f : FuncId) → overrider t c k ≡ Some f → overrider u c k ≡ Some f
  overrider-stays c k f e = of-body (λ (b : ClassBody). slice_get b.slots k) c f e

  values-stay' : (f h : Option IntType) (a b : Option EnumEnd) (v : ℤ × ℤ) → h ≡ f → Stays a b → enum_values f a ≡ Some v → enum_values h b ≡ Some v
  values-stay' f h a b v same stays e = ap (λ o. enum_values o b) same ∙ of f a b stays e
    where
      of : (f : Option IntType) (a b : Option EnumEnd) → Stays a b → enum_values f a ≡ Some v → enum_values f b ≡ Some v
      of (Some y) a b stays e = e
      of None None b stays e = absurd (cc)
      of None (Some z) b stays e = ap (enum_values None) stays ∙ e

  pub values-stay : (id : EnumId) (v : ℤ × ℤ) → values_at t id ≡ Some v → values_at u id ≡ Some v
  values-stay id v e =
      let i = option_and_then-some (λ (d : EnumDecl). enum_values d.fixed d.end) (slice_get t.enums id.0) v e in
      let a = Along-at EnumGrows t.enums u.enums g.enum_list id.0 i.0 i.1 in
      ap (option_and_then (λ (d : EnumDecl). enum_values d.fixed d.end)) a.1 ∙ values-stay' i.0.fixed a.0.fixed i.0.end a.0.end v a.2.same_fixed a.2.end_stays i.2

  pub complete-stays : (id : TypeId) → is_complete t id ≡ true → is_complete u id ≡ true
  complete-stays id e =
      let x = option_value (asked extent_of t (OfType id)) e in
      some-is (asked extent_of u (OfType id)) x.0 (asked-keeps extent_of t u g (OfType id) x.0 x.1)

  body_declares-stays : (f : FuncId) (a b : Option ClassBody) → Stays a b → body_declares f a ≡ true → body_declares f b ≡ true
  body_declares-stays f None b s e = absurd (cc)
  body_declares-stays f (Some x) b s e = ap (body_declares f) s ∙ e

  any-stays : (f : FuncId) (ds es : List ClassDecl) → Along ClassGrows ds es → list_any (λ (d : ClassDecl). body_declares f d.body) ds ≡ true → list_any (λ (d : ClassDecl). body_declares f d.body) es ≡ true
  any-stays f [] es a e = absurd (cc)
  any-stays f (d ∷ ds) [] a e = absurd a
  any-stays f (d ∷ ds) (w ∷ es) a e = of (body_declares f d.body) refl e (λ z. any-stays f ds es a.1 z)
    where
      or-right : (x y : Bool) → y ≡ true → (x || y) ≡ true
      or-right true y h = refl
      or-right false y h = h

      of : (x : Bool) → body_declares f d.body ≡ x → (x || list_any (λ (v : ClassDecl). body_declares f v.body) ds) ≡ true → (list_any (λ (v : ClassDecl). body_declares f v.body) ds ≡ true → list_any (λ (v : ClassDecl). body_declares f v.body) es ≡ true)
          → (body_declares f w.body || list_any (λ (v : ClassDecl). body_declares f v.body) es) ≡ true
      of true is h go = ap (λ x. x || list_any (λ (v : ClassDecl). body_declares f v.body) es) (body_declares-stays f d.body w.body a.0.body_stays is)
      of false is h go = or-right (body_declares f w.body) (list_any (λ (v : ClassDecl). body_declares f v.body) es) (go h)

  pub pure-stays : (f : FuncId) → declared_pure t f ≡ true → declared_pure u f ≡ true
  pure-stays f e = any-stays f t.classes u.classes g.class_list e

  count-stays : (c : ClassId) → IsSome (body_at t c) → slot_count u c ≡ slot_count t c
  count-stays c h =
      let b = option_value (body_at t c) h in
      let slots : Option ClassBody → ℕ = λ o. length (unwrap_or (option_map (λ (w : ClassBody). w.slots) o) []) in
      ap slots (body-stays c b.0 b.1) ∙ sym (ap slots b.1)

  among-stays : (cs : List ClassId) → ((j : ℕ) (c : ClassId) → slice_get cs j ≡ Some c → slot_count u c ≡ slot_count t c) → (i k : ℕ) → slot_among (slot_count u) cs i k ≡ slot_among (slot_count t) cs i k
  among-stays [] h i k = refl
  among-stays (c ∷ cs) h zero k = ap (λ n. if nat_lt k n then Some k else None) (h 0 c refl)
  among-stays (c ∷ cs) h (suc i) k =
      ap (λ n. option_map (λ m. n + m) (slot_among (slot_count u) cs i k)) (h 0 c refl) ∙ ap (option_map (λ m. slot_count t c + m)) (among-stays cs (λ j x e. h (suc j) x e) i k)

  pub base_slot-stays : Sound t → (c : ClassId) (i k n : ℕ) → base_slot t c i k ≡ Some n → base_slot u c i k ≡ Some n
  base_slot-stays s c i k n e =
      let w = option_and_then-some (λ (b : ClassBody). slot_among (slot_count t) b.bases i k) (body_at t c) n e in
      let same = among-stays w.0.bases (λ j x at. count-stays x (s.bases_complete c w.0 j x w.1 at)) i k in
      ap (option_and_then (λ (b : ClassBody). slot_among (slot_count u) b.bases i k)) (body-stays c w.0 w.1) ∙ same ∙ w.2
