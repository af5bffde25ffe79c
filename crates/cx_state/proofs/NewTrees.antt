-- A new tree of a type has the form of the type.
use Rattle.std.proofs.Common.{◌≡◌, ℕ, zero, suc, ◌<◌, Bool, true, false, List, [], ◌∷◌, length, Option, None, Some, refl, sym, ap, subst, ◌∙◌, slice_get, if◌then◌else◌}
use Rattle.std.specs.Prelude.{option_map, option_and_then, nat_lt}
use Rattle.std.proofs.lemmas.Option.{slice_get_within}
use Rattle.cx_type_defs.specs.declared.ids.Step.{Step}
use Rattle.cx_type_defs.specs.declared.ids.Step.TheVariants as step
use Rattle.cx_type_defs.specs.declared.ids.TypeId.{TypeId}
use Rattle.cx_type_defs.specs.declared.ids.ClassId.{ClassId}
use Rattle.cx_type_defs.specs.declared.kind.TypeRow.{TypeRow}
use Rattle.cx_type_defs.specs.declared.kind.TypeKind.{TypeKind}
use Rattle.cx_type_defs.specs.declared.kind.TypeKind.TheVariants as kind
use Rattle.cx_type_defs.specs.declared.decl.Field.{Field}
use Rattle.cx_type_defs.specs.declared.decl.ClassBody.{ClassBody}
use Rattle.cx_type_defs.specs.declared.decl.ClassDecl.{ClassDecl}
use Rattle.cx_type_defs.specs.declared.decl.ClassKey.{ClassKey}
use Rattle.cx_type_defs.specs.declared.decl.ClassKey.TheVariants as key
use Rattle.cx_type_defs.specs.Tables.{Tables, body_at, base_of, field_of}
use Rattle.cx_type_defs.specs.Questions.{Part, OfType, OfClass, each, by_key, body_answer, class_answer, address_answer, kind_answer, looked, most_levels, asked}
use Rattle.cx_type_defs.proofs.Lists.{some_inj, option_and_then-some, option_map-some, both-some, joined-some}
use Rattle.cx_state.specs.declared.kind.Phase.{Phase}
use Rattle.cx_state.specs.Objects.{Tree, Trees, Row, Class, Union, trees, copies, size, tree_at, part, Objects}
use Rattle.cx_state.specs.Places.{element, base_row, row_part, whole_kind}
use Rattle.cx_state.specs.Steps.{blank, new_in}
use Rattle.cx_state.specs.Counts.{whole_tree}
use Rattle.cx_state.specs.Forms.{AllKnown, ClassForm, DeclForm, Form, TreeFits}
use Rattle.cx_state.proofs.Fitting.{TreeFits-made}

-- lists of answers and of trees

pub each-at : {A R : Type 0} (f : A → Option R) (xs : List A) (rs : List R) → each f xs ≡ Some rs → (i : ℕ) (r : R) → slice_get rs i ≡ Some r → (x : A) × (slice_get xs i ≡ Some x) × (f x ≡ Some r)
each-at f [] rs e i r a = let n : slice_get [] i ≡ Some r = subst (λ l. slice_get l i ≡ Some r) (sym (some_inj [] rs e)) a in absurd (cc)
each-at f (x ∷ xs) rs e zero r a =
    let w = both-some (f x) (each f xs) rs e in
    (x, refl, w.2 ∙ subst (λ l. slice_get l 0 ≡ Some r) (sym w.4) a)
each-at f (x ∷ xs) rs e (suc i) r a =
    let w = both-some (f x) (each f xs) rs e in
    each-at f xs w.1 w.3 i r (subst (λ l. slice_get l (suc i) ≡ Some r) (sym w.4) a)

pub each-length : {A R : Type 0} (f : A → Option R) (xs : List A) (rs : List R) → each f xs ≡ Some rs → length rs ≡ length xs
each-length f [] rs e = ap length (sym (some_inj [] rs e))
each-length f (x ∷ xs) rs e =
    let w = both-some (f x) (each f xs) rs e in
    ap length (sym w.4) ∙ ap suc (each-length f xs w.1 w.3)

pub size-trees : (xs : List Tree) → size (trees xs) ≡ length xs
size-trees [] = refl
size-trees (x ∷ xs) = ap suc (size-trees xs)

pub trees-at : (xs : List Tree) (i : ℕ) → tree_at (trees xs) i ≡ slice_get xs i
trees-at [] i = refl
trees-at (x ∷ xs) zero = refl
trees-at (x ∷ xs) (suc i) = trees-at xs i

pub size-copies : (n : ℕ) (x : Tree) → size (copies n x) ≡ n
size-copies zero x = refl
size-copies (suc n) x = ap suc (size-copies n x)

pub copies-at : (n : ℕ) (x : Tree) (i : ℕ) (y : Tree) → tree_at (copies n x) i ≡ Some y → x ≡ y
copies-at zero x i y e = absurd (cc)
copies-at (suc n) x zero y e = some_inj x y e
copies-at (suc n) x (suc i) y e = copies-at n x i y e

-- the types of the parts of an array and of a class

pub where-true : {A : Type 0} (b : Bool) (o : Option A) (x : A) → (if b then o else None) ≡ Some x → (b ≡ true) × (o ≡ Some x)
where-true true o x e = (refl, e)
where-true false o x e = absurd (cc)

pub element-row : (t : Tables) (c : Bool) (to : TypeId) (n i : ℕ) (q : TypeRow) → row_part t (record { kind = kind.Array to n; konst = c }) (step.Elem i) ≡ Some q → (r : TypeRow) × (slice_get t.rows to.0 ≡ Some r) × (element c r ≡ q)
element-row t c to n i q e = option_map-some (element c) (slice_get t.rows to.0) q (where-true (nat_lt i n) (option_map (element c) (slice_get t.rows to.0)) q e).1

pub body-known : (t : Tables) (c : ClassId) (d : ClassDecl) (b : ClassBody) → slice_get t.classes c.0 ≡ Some d → d.body ≡ Some b → body_at t c ≡ Some b
body-known t c d b e f = ap (option_and_then (λ (w : ClassDecl). w.body)) e ∙ f

pub base-row : (t : Tables) (k : Bool) (c : ClassId) (b : ClassBody) → body_at t c ≡ Some b → (i : ℕ) (q : TypeRow) → row_part t (record { kind = kind.Class c; konst = k }) (step.Base i) ≡ Some q → (a : ClassId) × (slice_get b.bases i ≡ Some a) × (base_row a ≡ q)
base-row t k c b e i q h =
    let w = option_map-some base_row (base_of t c i) q h in
    (w.0, sym (ap (option_and_then (λ (x : ClassBody). slice_get x.bases i)) e) ∙ w.1, w.2)

pub field-row : (t : Tables) (k : Bool) (c : ClassId) (b : ClassBody) → body_at t c ≡ Some b → (i : ℕ) (q : TypeRow) → row_part t (record { kind = kind.Class c; konst = k }) (step.Field i) ≡ Some q → (f : Field) × (slice_get b.fields i ≡ Some f) × (slice_get t.rows f.ty.0 ≡ Some q)
field-row t k c b e i q h =
    let w = option_and_then-some (λ (f : Field). slice_get t.rows f.ty.0) (field_of t c i) q h in
    (w.0, sym (ap (option_and_then (λ (x : ClassBody). slice_get x.fields i)) e) ∙ w.1, w.2)

-- a class of this key, or a union
abbrev pub made_class : ClassKey → Phase → Trees → Trees → Tree
made_class k p bs ms = by_key k Union (Class p bs ms)

pub made_class-part : (k : ClassKey) (p : Phase) (bs ms : Trees) (s : Step) (y : Tree) → part (made_class k p bs ms) s ≡ Some y → part (Class p bs ms) s ≡ Some y
made_class-part key.Union p bs ms s y e = absurd (cc)
made_class-part key.Struct p bs ms s y e = e
made_class-part key.Class p bs ms s y e = e

pub made_class-form : (k : ClassKey) (b : ClassBody) (p : Phase) (bs ms : Trees) → size bs ≡ length b.bases → size ms ≡ length b.fields → ClassForm k b (made_class k p bs ms)
made_class-form key.Union b p bs ms e f = tt
made_class-form key.Struct b p bs ms e f = (e, f)
made_class-form key.Class b p bs ms e f = (e, f)

module _ (t : Tables) (os : Objects) (p : Phase) where
  -- what is answered fits
  pub record Fits (f : Part → Option Tree) : Type 0 where
    pub known : (id : TypeId) (x : Tree) → f (OfType id) ≡ Some x → id.0 < length t.rows
    pub type_fits : (id : TypeId) (x : Tree) → f (OfType id) ≡ Some x → (r : TypeRow) → slice_get t.rows id.0 ≡ Some r → (k : Bool) → TreeFits t os (record { kind = r.kind; konst = k }) x
    pub class_fits : (c : ClassId) (x : Tree) → f (OfClass c) ≡ Some x → (k : Bool) → TreeFits t os (record { kind = kind.Class c; konst = k }) x

  leaf-fits : (r : TypeRow) (x : Tree) → Form t os r.kind blank → blank ≡ x → TreeFits t os r x
  leaf-fits r x h e = subst (TreeFits t os r) e (TreeFits-made t os r blank h (λ s q y a b. absurd (cc)))

  fields-known : (f : Part → Option Tree) → Fits f → (fs : List Field) (xs : List Tree) → each (λ (x : Field). f (OfType x.ty)) fs ≡ Some xs → AllKnown t fs
  fields-known f h [] xs e = tt
  fields-known f h (x ∷ fs) xs e =
      let w = both-some (f (OfType x.ty)) (each (λ (x : Field). f (OfType x.ty)) fs) xs e in
      (h.known x.ty w.0 w.2, fields-known f h fs w.1 w.3)

  row-part-fits : (f : Part → Option Tree) → Fits f → (to : TypeId) (n : ℕ) (y : Tree) → f (OfType to) ≡ Some y → (k : Bool) (s : Step) (q : TypeRow) (z : Tree)
      → row_part t (record { kind = kind.Array to n; konst = k }) s ≡ Some q → part (Row (copies n y)) s ≡ Some z → TreeFits t os q z
  row-part-fits f h to n y e k (step.Elem i) q z a b =
      let w = element-row t k to n i q a in
      subst (λ v. TreeFits t os v z) w.2 (subst (TreeFits t os (element k w.0)) (copies-at n y i z b) (h.type_fits to y e w.0 w.1 (element k w.0).konst))
  row-part-fits f h to n y e k (step.Base i) q z a b = absurd (cc)
  row-part-fits f h to n y e k (step.Field i) q z a b = absurd (cc)

  pub row-fits : (f : Part → Option Tree) → Fits f → (to : TypeId) (n : ℕ) (y : Tree) → f (OfType to) ≡ Some y → (k : Bool) → TreeFits t os (record { kind = kind.Array to n; konst = k }) (Row (copies n y))
  row-fits f h to n y e k =
      TreeFits-made t os (record { kind = kind.Array to n; konst = k }) (Row (copies n y)) (size-copies n y, h.known to y e) (row-part-fits f h to n y e k)

  class-part-fits : (f : Part → Option Tree) → Fits f → (c : ClassId) (b : ClassBody) → body_at t c ≡ Some b → (bs ms : List Tree)
      → each (λ c. f (OfClass c)) b.bases ≡ Some bs → each (λ (x : Field). f (OfType x.ty)) b.fields ≡ Some ms → (k : Bool) (s : Step) (q : TypeRow) (z : Tree)
      → row_part t (record { kind = kind.Class c; konst = k }) s ≡ Some q → part (Class p (trees bs) (trees ms)) s ≡ Some z → TreeFits t os q z
  class-part-fits f h c b e bs ms eb em k (step.Base i) q z a g =
      let w = base-row t k c b e i q a in
      let v = each-at (λ c. f (OfClass c)) b.bases bs eb i z (sym (trees-at bs i) ∙ g) in
      let same : v.0 ≡ w.0 = some_inj v.0 w.0 (sym v.1 ∙ w.1) in
      subst (λ r. TreeFits t os r z) (ap base_row same ∙ w.2) (h.class_fits v.0 z v.2 false)
  class-part-fits f h c b e bs ms eb em k (step.Field i) q z a g =
      let w = field-row t k c b e i q a in
      let v = each-at (λ (x : Field). f (OfType x.ty)) b.fields ms em i z (sym (trees-at ms i) ∙ g) in
      let same : w.0 ≡ v.0 = some_inj w.0 v.0 (sym w.1 ∙ v.1) in
      h.type_fits v.0.ty z v.2 q (subst (λ (x : Field). slice_get t.rows x.ty.0 ≡ Some q) same w.2) q.konst
  class-part-fits f h c b e bs ms eb em k (step.Elem i) q z a g = absurd (cc)

  pub class-fits : (f : Part → Option Tree) → Fits f → (c : ClassId) (x : Tree) → class_answer (new_in p) f (slice_get t.classes c.0) ≡ Some x → (k : Bool) → TreeFits t os (record { kind = kind.Class c; konst = k }) x
  class-fits f h c x e k =
      let d = option_and_then-some (λ (d : ClassDecl). option_and_then (body_answer (new_in p) f d.key) d.body) (slice_get t.classes c.0) x e in
      let b = option_and_then-some (body_answer (new_in p) f d.0.key) d.0.body x d.2 in
      let j = joined-some (λ bs ms. made_class d.0.key p (trees bs) (trees ms)) (each (λ c. f (OfClass c)) b.0.bases) (each (λ (x : Field). f (OfType x.ty)) b.0.fields) x b.2 in
      let form : DeclForm t (Some d.0) (made_class d.0.key p (trees j.0) (trees j.1)) = record {
        body = b.0;
        is_body = b.1;
        known = fields-known f h b.0.fields j.1 j.3;
        form = made_class-form d.0.key b.0 p (trees j.0) (trees j.1) (size-trees j.0 ∙ each-length (λ c. f (OfClass c)) b.0.bases j.0 j.2) (size-trees j.1 ∙ each-length (λ (x : Field). f (OfType x.ty)) b.0.fields j.1 j.3);
      } in
      subst (TreeFits t os (record { kind = kind.Class c; konst = k })) {x = made_class d.0.key p (trees j.0) (trees j.1)} j.4
      (TreeFits-made t os (record { kind = kind.Class c; konst = k }) (made_class d.0.key p (trees j.0) (trees j.1)) (subst (λ o. DeclForm t o (made_class d.0.key p (trees j.0) (trees j.1))) (sym d.1) form) (λ s q z a g.
      class-part-fits f h c b.0 (body-known t c d.0 b.0 d.1 b.1) j.0 j.1 j.2 j.3 k s q z a (made_class-part d.0.key p (trees j.0) (trees j.1) s z g)))

  address-blank : (o : Option Tree) (k : TypeKind) (x : Tree) → address_answer (new_in p) o k ≡ Some x → blank ≡ x
  address-blank o (kind.Class c) x e = some_inj blank x e
  address-blank o kind.Void x e = some_inj blank x e
  address-blank o kind.Nullptr x e = some_inj blank x e
  address-blank o (kind.Int i) x e = some_inj blank x e
  address-blank o (kind.Enum i) x e = some_inj blank x e
  address-blank o (kind.Pointer to) x e = some_inj blank x e
  address-blank o (kind.Reference to) x e = some_inj blank x e
  address-blank o (kind.Array to n) x e = some_inj blank x e

  pub to-blank : (f : Part → Option Tree) (to : TypeId) (x : Tree) → option_and_then (λ (r : TypeRow). address_answer (new_in p) (f (OfType to)) r.kind) (slice_get t.rows to.0) ≡ Some x → blank ≡ x
  to-blank f to x e =
      let i = option_and_then-some (λ (r : TypeRow). address_answer (new_in p) (f (OfType to)) r.kind) (slice_get t.rows to.0) x e in
      address-blank (f (OfType to)) i.0.kind x i.2

  pub kind-fits : (f : Part → Option Tree) → Fits f → (k : TypeKind) (x : Tree) → kind_answer (new_in p) t f k ≡ Some x → (c : Bool) → TreeFits t os (record { kind = k; konst = c }) x
  kind-fits f h kind.Void x e c = absurd (cc)
  kind-fits f h kind.Nullptr x e c = leaf-fits (record { kind = kind.Nullptr; konst = c }) x tt (some_inj blank x e)
  kind-fits f h (kind.Int i) x e c = leaf-fits (record { kind = kind.Int i; konst = c }) x tt (some_inj blank x e)
  kind-fits f h (kind.Enum i) x e c = leaf-fits (record { kind = kind.Enum i; konst = c }) x tt (some_inj blank x e)
  kind-fits f h (kind.Pointer to) x e c = leaf-fits (record { kind = kind.Pointer to; konst = c }) x tt (to-blank f to x e)
  kind-fits f h (kind.Reference to) x e c = leaf-fits (record { kind = kind.Reference to; konst = c }) x tt (to-blank f to x e)
  kind-fits f h (kind.Array to n) x e c =
      let i = option_map-some (λ y. Row (copies n y)) (f (OfType to)) x e in
      subst (TreeFits t os (record { kind = kind.Array to n; konst = c })) i.2 (row-fits f h to n i.0 i.1 c)
  kind-fits f h (kind.Class d) x e c = class-fits f h d x e c

  looked-fits : (n : ℕ) → Fits (looked (new_in p) t n)
  unfolding looked
  looked-fits zero = record { known = λ id x e. absurd (cc); type_fits = λ id x e. absurd (cc); class_fits = λ c x e. absurd (cc) }
  looked-fits (suc n) = record {
    known = λ id x e. let i = option_and_then-some (λ (r : TypeRow). kind_answer (new_in p) t (looked (new_in p) t n) r.kind) (slice_get t.rows id.0) x e in slice_get_within t.rows id.0 i.0 i.1;
    type_fits = λ id x e r at k. kind-fits (looked (new_in p) t n) (looked-fits n) r.kind x (sym (ap (option_and_then (λ (w : TypeRow). kind_answer (new_in p) t (looked (new_in p) t n) w.kind)) at) ∙ e) k;
    class_fits = λ c x e k. class-fits (looked (new_in p) t n) (looked-fits n) c x e k;
  }

  pub asked-fits : Fits (asked (new_in p) t)
  unfolding asked
  asked-fits = looked-fits most_levels

  -- a new tree, or an array of copies of it, has the form of its type
  pub whole-fits : (count : Option ℕ) (ty : TypeId) (r : TypeRow) (x : Tree) → slice_get t.rows ty.0 ≡ Some r → asked (new_in p) t (OfType ty) ≡ Some x → (k : Bool) → TreeFits t os (record { kind = whole_kind count ty r.kind; konst = k }) (whole_tree count x)
  whole-fits None ty r x at e k = asked-fits.type_fits ty x e r at k
  whole-fits (Some n) ty r x at e k = row-fits (asked (new_in p) t) asked-fits ty n x e k
