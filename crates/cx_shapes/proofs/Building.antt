-- What is told of a type is told of its parts, and forms are gathered one by one.
use Rattle.std.proofs.Common.{◌≡◌, ℕ, zero, suc, ◌+◌, ◌-◌, ◌<◌, ◌≤◌, true, List, [], ◌∷◌, ◌++◌, length, map, take, Option, None, Some, refl, sym, ap, subst, ◌∙◌, slice_get, arith}
use Rattle.std.proofs.lemmas.List.{take_all}
use Rattle.std.specs.Prelude.{option_map, option_and_then, is_some, IsSome}
use Rattle.cx_type_defs.proofs.Lists.{some_inj, option_map-some, option_and_then-some, both-some, joined-some}
use Rattle.cx_type_defs.specs.declared.ids.TypeId.{TypeId}
use Rattle.cx_type_defs.specs.declared.ids.ClassId.{ClassId}
use Rattle.cx_type_defs.specs.declared.kind.TypeRow.{TypeRow}
use Rattle.cx_type_defs.specs.declared.kind.TypeKind.{TypeKind}
use Rattle.cx_type_defs.specs.declared.kind.TypeKind.TheVariants as kind
use Rattle.cx_type_defs.specs.declared.decl.Field.{Field}
use Rattle.cx_type_defs.specs.declared.decl.ClassBody.{ClassBody}
use Rattle.cx_type_defs.specs.declared.decl.ClassDecl.{ClassDecl}
use Rattle.cx_type_defs.specs.declared.decl.ClassKey.{ClassKey}
use Rattle.cx_type_defs.specs.declared.decl.ClassKey.TheVariants as key
use Rattle.cx_type_defs.specs.Bodies.{IsFit}
use Rattle.cx_type_defs.specs.Tables.{Tables, body_at, base_of, field_of}
use Rattle.cx_type_defs.specs.Questions.{OfType, OfClass, each, body_answer, class_answer, kind_answer, looked, cells_of}
use Rattle.cx_state.specs.Pointers.{is_union_key}
use Rattle.cx_shapes.specs.declared.shape.Shape.{Shape}
use Rattle.cx_shapes.specs.Forms.{Forms, form_of, forms_of, told, AreListed}
use Rattle.cx_shapes.proofs.Ends.{told_forms}
use Rattle.cx_shapes.specs.Kinds.{OfKind, OfRow, OfBody, base_kinds, field_kind, field_kinds, IsForm, AreForms, IsTold}
use Rattle.cx_shapes.specs.Kinds as kinds

pub some_of : {A : Type 0} (o : Option A) → is_some o ≡ true → (a : A) × (o ≡ Some a)
some_of None e = absurd (cc)
some_of (Some a) e = (a, refl)

pub some_is : {A : Type 0} (o : Option A) (a : A) → o ≡ Some a → is_some o ≡ true
some_is o a e = ap is_some e

each_told : {A R : Type 0} (f : A → Option R) (xs : List A) (ys : List R) → each f xs ≡ Some ys → (i : ℕ) (x : A) → slice_get xs i ≡ Some x → is_some (f x) ≡ true
each_told f [] ys e i x g = absurd (cc)
each_told f (a ∷ xs) ys e zero x g = let m = both-some (f a) (each f xs) ys e in ap (λ z. is_some (f z)) (sym (some_inj a x g)) ∙ some_is (f a) m.0 m.2
each_told f (a ∷ xs) ys e (suc i) x g = let m = both-some (f a) (each f xs) ys e in each_told f xs m.1 m.3 i x g

pub told_row : (t : Tables) (l : ℕ) (id : TypeId) → 1 ≤ l → IsTold t l (OfType id) → (r : TypeRow) × (slice_get t.rows id.0 ≡ Some r) × (is_some (kind_answer cells_of t (looked cells_of t (l - 1)) r.kind) ≡ true)
unfolding looked
told_row t zero id h e = absurd (omega arith)
told_row t (suc l) id h e =
    let m = some_of (looked cells_of t (suc l) (OfType id)) e in
    let x = option_and_then-some (λ (r : TypeRow). kind_answer cells_of t (looked cells_of t l) r.kind) (slice_get t.rows id.0) m.0 m.1 in
    let z : suc l - 1 ≡ l = omega arith in
    (x.0, x.1, ap (λ n. is_some (kind_answer cells_of t (looked cells_of t n) x.0.kind)) z ∙ some_is (kind_answer cells_of t (looked cells_of t l) x.0.kind) m.0 x.2)

pub told_class : (t : Tables) (l : ℕ) (c : ClassId) → 1 ≤ l → IsTold t l (OfClass c) → is_some (class_answer cells_of (looked cells_of t (l - 1)) (slice_get t.classes c.0)) ≡ true
unfolding looked
told_class t zero c h e = absurd (omega arith)
told_class t (suc l) c h e = let z : suc l - 1 ≡ l = omega arith in ap (λ n. is_some (class_answer cells_of (looked cells_of t n) (slice_get t.classes c.0))) z ∙ e

pub record Body (t : Tables) (l : ℕ) (c : ClassId) : Type 0 where
  pub decl : ClassDecl
  pub body : ClassBody
  pub is_decl : slice_get t.classes c.0 ≡ Some decl
  pub is_body : body_at t c ≡ Some body
  pub full : decl.body ≡ Some body
  pub bases : (i : ℕ) (b : ClassId) → base_of t c i ≡ Some b → IsTold t l (OfClass b)
  pub fields : (i : ℕ) (f : Field) → field_of t c i ≡ Some f → IsTold t l (OfType f.ty)

pub told_body : (t : Tables) (l : ℕ) (c : ClassId) → is_some (class_answer cells_of (looked cells_of t l) (slice_get t.classes c.0)) ≡ true → Body t l c
told_body t l c h =
    let m = some_of (class_answer cells_of (looked cells_of t l) (slice_get t.classes c.0)) h in
    let x = option_and_then-some (λ (d : ClassDecl). option_and_then (body_answer cells_of (looked cells_of t l) d.key) d.body) (slice_get t.classes c.0) m.0 m.1 in
    let y = option_and_then-some (body_answer cells_of (looked cells_of t l) x.0.key) x.0.body m.0 x.2 in
    let z = joined-some (cells_of.of_class x.0.key y.0.flags) (each (λ b. looked cells_of t l (OfClass b)) y.0.bases) (each (λ (f : Field). looked cells_of t l (OfType f.ty)) y.0.fields) m.0 y.2 in
    let b : body_at t c ≡ Some y.0 = ap (option_and_then (λ (d : ClassDecl). d.body)) x.1 ∙ y.1 in
    record {
      decl = x.0;
      body = y.0;
      is_decl = x.1;
      is_body = b;
      full = y.1;
      bases = λ i k e. each_told (λ b. looked cells_of t l (OfClass b)) y.0.bases z.0 z.2 i k (sym (ap (option_and_then (λ (b : ClassBody). slice_get b.bases i)) b) ∙ e);
      fields = λ i k e. each_told (λ (f : Field). looked cells_of t l (OfType f.ty)) y.0.fields z.1 z.3 i k (sym (ap (option_and_then (λ (b : ClassBody). slice_get b.fields i)) b) ∙ e);
    }

pub body_is_some : (t : Tables) (l : ℕ) (c : ClassId) → Body t l c → IsSome (body_at t c)
body_is_some t l c b = ap is_some b.is_body

-- one more form

forms_push : (t : Tables) (xs : List Shape) (ks : List (Option TypeKind)) (x : Shape) (k : Option TypeKind) → AreForms t (forms_of (map form_of xs)) ks → OfKind (IsForm t (form_of x)) k → AreForms t (forms_of (map form_of (xs ++ x ∷ []))) (ks ++ k ∷ [])
forms_push t [] [] x k h g = (g, tt)
forms_push t [] (y ∷ ks) x k h g = absurd h
forms_push t (a ∷ xs) [] x k h g = absurd h
forms_push t (a ∷ xs) (y ∷ ks) x k h g = (h.0, forms_push t xs ks x k h.1 g)

take_next : {A : Type 0} (xs : List A) (i : ℕ) (x : A) → slice_get xs i ≡ Some x → take (i + 1) xs ≡ take i xs ++ x ∷ []
take_next [] i x e = absurd (cc)
take_next (a ∷ xs) zero x e = let z : zero + 1 ≡ suc zero = omega arith in ap (λ n. take n (a ∷ xs)) z ∙ ap (λ y. y ∷ []) (some_inj a x e)
take_next (a ∷ xs) (suc i) x e = let z : suc i + 1 ≡ suc (i + 1) = omega arith in ap (λ n. take n (a ∷ xs)) z ∙ ap (λ l. a ∷ l) (take_next xs i x e)

get_map : {A B : Type 0} (f : A → B) (xs : List A) (i : ℕ) → slice_get (map f xs) i ≡ option_map f (slice_get xs i)
get_map f [] i = refl
get_map f (x ∷ xs) zero = refl
get_map f (x ∷ xs) (suc i) = get_map f xs i

pub bases_push : (t : Tables) (o : Option ClassBody) (xs : List Shape) (i : ℕ) (x : Shape) (c : ClassId) → OfBody (λ b. AreForms t (forms_of (map form_of xs)) (take i (base_kinds b))) o
    → option_and_then (λ (b : ClassBody). slice_get b.bases i) o ≡ Some c → IsForm t (form_of x) (kind.Class c) → OfBody (λ b. AreForms t (forms_of (map form_of (xs ++ x ∷ []))) (take (i + 1) (base_kinds b))) o
bases_push t None xs i x c h e g = absurd h
bases_push t (Some b) xs i x c h e g =
    let k : slice_get (base_kinds b) i ≡ Some (Some (kind.Class c)) = get_map (λ (c : ClassId). Some (kind.Class c)) b.bases i ∙ ap (option_map (λ (c : ClassId). Some (kind.Class c))) e in
    subst (AreForms t (forms_of (map form_of (xs ++ x ∷ [])))) (sym (take_next (base_kinds b) i (Some (kind.Class c)) k)) (forms_push t xs (take i (base_kinds b)) x (Some (kind.Class c)) h g)

pub fields_push : (t : Tables) (o : Option ClassBody) (xs : List Shape) (i : ℕ) (x : Shape) (ty : TypeId) → OfBody (λ b. AreForms t (forms_of (map form_of xs)) (take i (field_kinds t b))) o
    → option_map (λ (f : Field). f.ty) (option_and_then (λ (b : ClassBody). slice_get b.fields i) o) ≡ Some ty → OfRow (IsForm t (form_of x)) (slice_get t.rows ty.0) → OfBody (λ b. AreForms t (forms_of (map form_of (xs ++ x ∷ []))) (take (i + 1) (field_kinds t b))) o
fields_push t None xs i x ty h e g = absurd h
fields_push t (Some b) xs i x ty h e g =
    let m = option_map-some (λ (f : Field). f.ty) (slice_get b.fields i) ty e in
    let k : slice_get (field_kinds t b) i ≡ Some (field_kind t m.0) = get_map (field_kind t) b.fields i ∙ ap (option_map (field_kind t)) m.1 in
    subst (AreForms t (forms_of (map form_of (xs ++ x ∷ [])))) (sym (take_next (field_kinds t b) i (field_kind t m.0) k)) (forms_push t xs (take i (field_kinds t b)) x (field_kind t m.0) h
    (row_kind (slice_get t.rows m.0.ty.0) (subst (λ (y : TypeId). OfRow (IsForm t (form_of x)) (slice_get t.rows y.0)) (sym m.2) g)))
  where
    row_kind : (o : Option TypeRow) → OfRow (IsForm t (form_of x)) o → OfKind (IsForm t (form_of x)) (option_map (λ (r : TypeRow). r.kind) o)
    row_kind None h = absurd h
    row_kind (Some r) h = h

-- all forms, where the ends are told

count_kinds : {A B : Type 0} (f : A → B) (xs : List A) → length (map f xs) ≡ length xs
count_kinds f [] = refl
count_kinds f (x ∷ xs) = omega (arith, count_kinds f xs)

taken : (P : List (Option TypeKind) → Type 0) (ks : ClassBody → List (Option TypeKind)) (len : ClassBody → ℕ) (n i : ℕ) (o : Option ClassBody) → ((b : ClassBody) → length (ks b) ≡ len b) → option_map len o ≡ Some n → n ≤ i
    → OfBody (λ b. P (take i (ks b))) o → OfBody (λ b. P (ks b)) o
taken P ks len n i None k e l h = absurd h
taken P ks len n i (Some b) k e l h =
    let z = some_inj (len b) n e in
    let y = k b in
    subst P (take_all i (ks b) (omega arith)) h

pub bases_told : (t : Tables) (o : Option ClassBody) (xs : List Shape) (es : List ℕ) (p n i : ℕ) → AreListed xs es p → option_map (λ (b : ClassBody). length b.bases) o ≡ Some n → n ≤ i
    → OfBody (λ b. AreForms t (forms_of (map form_of xs)) (take i (base_kinds b))) o → OfBody (λ b. AreForms t (told es (map form_of xs)) (base_kinds b)) o
bases_told t o xs es p n i a e l h = subst (λ fs. OfBody (λ b. AreForms t fs (base_kinds b)) o) (sym (told_forms es (map form_of xs) a.told_ends))
    (taken (AreForms t (forms_of (map form_of xs))) base_kinds (λ (b : ClassBody). length b.bases) n i o (λ b. count_kinds (λ (c : ClassId). Some (kind.Class c)) b.bases) e l h)

pub fields_told : (t : Tables) (o : Option ClassBody) (xs : List Shape) (es : List ℕ) (p n i : ℕ) → AreListed xs es p → option_map (λ (b : ClassBody). length b.fields) o ≡ Some n → n ≤ i
    → OfBody (λ b. AreForms t (forms_of (map form_of xs)) (take i (field_kinds t b))) o → OfBody (λ b. AreForms t (told es (map form_of xs)) (field_kinds t b)) o
fields_told t o xs es p n i a e l h = subst (λ fs. OfBody (λ b. AreForms t fs (field_kinds t b)) o) (sym (told_forms es (map form_of xs) a.told_ends))
    (taken (AreForms t (forms_of (map form_of xs))) (field_kinds t) (λ (b : ClassBody). length b.fields) n i o (λ b. count_kinds (field_kind t) b.fields) e l h)

-- a union has no bases

pub union_form : (t : Tables) (c : ClassId) (ms : Forms) (k : ClassKey) (o : Option ClassDecl) → slice_get t.classes c.0 ≡ o → k ≡ key.Union → option_map (λ (d : ClassDecl). d.key) o ≡ Some k
    → ((d : ClassDecl) (b : ClassBody) → o ≡ Some d → d.body ≡ Some b → IsFit t d.key b) → OfBody (λ b. AreForms t ms (field_kinds t b)) (option_and_then (λ (d : ClassDecl). d.body) o)
    → kinds.OfClass (λ k b. (is_union_key k ≡ true) × (b.bases ≡ []) × AreForms t ms (field_kinds t b)) o
union_form t c ms k None i u e f h = absurd h
union_form t c ms k (Some d) i u e f h = body d.body refl h
  where
    is_key : d.key ≡ key.Union
    is_key = some_inj d.key k e ∙ u

    body : (x : Option ClassBody) → d.body ≡ x → OfBody (λ b. AreForms t ms (field_kinds t b)) x → OfBody (λ b. (is_union_key d.key ≡ true) × (b.bases ≡ []) × AreForms t ms (field_kinds t b)) x
    body None v h = absurd h
    body (Some b) v h = (ap is_union_key is_key, (f d b refl v).alone is_key, h)

pub get_within : {A : Type 0} (xs : List A) (i : ℕ) (x : A) → slice_get xs i ≡ Some x → i < length xs
get_within [] i x e = absurd (cc)
get_within (a ∷ xs) zero x e = omega arith
get_within (a ∷ xs) (suc i) x e = omega (arith, get_within xs i x e)
