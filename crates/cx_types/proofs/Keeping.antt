-- What is kept stays kept where the tables grow.
use Rattle.std.proofs.Common.{◌≡◌, ℕ, zero, suc, ◌+◌, ◌<◌, ◌≤◌, List, [], ◌∷◌, ◌++◌, length, Option, None, Some, ◌⊎◌, inl, inr, refl, sym, ap, subst, ◌∙◌, slice_get, arith, length-append}
use Rattle.std.specs.Prelude.{option_and_then}
use Rattle.std.proofs.lemmas.Option.{slice_get_within, slice_get_cases}
use Rattle.cx_type_defs.specs.declared.ids.TypeId.{TypeId}
use Rattle.cx_type_defs.specs.declared.ids.ClassId.{ClassId}
use Rattle.cx_type_defs.specs.declared.ids.EnumId.{EnumId}
use Rattle.cx_type_defs.specs.declared.kind.TypeRow.{TypeRow}
use Rattle.cx_type_defs.specs.declared.kind.TypeKind.{TypeKind}
use Rattle.cx_type_defs.specs.declared.kind.TypeKind.TheVariants as kind
use Rattle.cx_type_defs.specs.declared.decl.ClassDecl.{ClassDecl}
use Rattle.cx_type_defs.specs.declared.decl.ClassBody.{ClassBody}
use Rattle.cx_type_defs.specs.declared.decl.EnumDecl.{EnumDecl}
use Rattle.cx_type_defs.specs.declared.decl.EnumEnd.{EnumEnd}
use Rattle.cx_types.specs.declared.facts.RowFacts.{RowFacts}
use Rattle.cx_types.specs.declared.facts.Measure.{Measure}
use Rattle.cx_type_defs.specs.Tables.{Tables, Grows, IsKnown, with_class, with_enum, with_end, body_at, changed_at}
use Rattle.cx_type_defs.specs.Same.{is_normal_kind}
use Rattle.cx_types.specs.Kept.{Kept, KeptRow, KeptClass}
use Rattle.cx_type_defs.proofs.Lists.{some_inj, slice_get-push}
use Rattle.cx_type_defs.proofs.Looking.{Grows-then}
use Rattle.cx_type_defs.proofs.Growing.{Grows-enum, Grows-end, Grows-class}

pub some_at : {A : Type 0} (xs : List A) (i : ℕ) → i < length xs → (x : A) × (slice_get xs i ≡ Some x)
some_at xs i h = elim (slice_get_cases xs i).1 as (λ _. (x : _) × (slice_get xs i ≡ Some x)) [ inl w ↦ (w.0, w.2) | inr w ↦ (let n = w.0 in absurd (omega arith)) ]

pub IsKnown-grows : (t u : Tables) → length t.rows ≤ length u.rows → length t.classes ≤ length u.classes → length t.enums ≤ length u.enums → (k : TypeKind) → IsKnown t k → IsKnown u k
IsKnown-grows t u r c e kind.Void h = tt
IsKnown-grows t u r c e kind.Nullptr h = tt
IsKnown-grows t u r c e (kind.Int ty) h = tt
IsKnown-grows t u r c e (kind.Enum id) h = omega arith
IsKnown-grows t u r c e (kind.Pointer to) h = omega arith
IsKnown-grows t u r c e (kind.Reference to) h = omega arith
IsKnown-grows t u r c e (kind.Array of n) h = let a = h.0 in (omega arith, h.1)
IsKnown-grows t u r c e (kind.Class id) h = omega arith

pub KeptRow-grows : (t u : Tables) → Grows t u → (id : TypeId) (f : RowFacts) → KeptRow t id f → KeptRow u id f
KeptRow-grows t u g id f h = record { small = h.small; few_leaves = h.few_leaves; later = λ v w. h.later v (Grows-then t u v g w) }

pub KeptClass-grows : (t u : Tables) → Grows t u → (c : ClassId) (b : Option ClassBody) (m : Option Measure) → KeptClass t c b m → KeptClass u c b m
KeptClass-grows t u g c (Some b) (Some m) h = record { small = h.small; fits = h.fits; some_cells = h.some_cells; few_parts = h.few_parts; later = λ v w. h.later v (Grows-then t u v g w) }
KeptClass-grows t u g c None None h = tt
KeptClass-grows t u g c (Some b) None h = absurd h
KeptClass-grows t u g c None (Some m) h = absurd h

-- the tables of a changed list of enumerations keep what was kept
pub Kept-enums : (t u : Tables) (rf : List RowFacts) (ms : List (Option Measure)) → Grows t u → u.rows ≡ t.rows → u.classes ≡ t.classes → length t.enums ≤ length u.enums → Kept t rf ms → Kept u rf ms
Kept-enums t u rf ms g er ec le h = record {
  each_row = h.each_row ∙ ap length (sym er);
  each_class = h.each_class ∙ ap length (sym ec);
  known = λ i r e. IsKnown-grows t u (let z = ap length er in omega arith) (let z = ap length ec in omega arith) le r.kind (h.known i r (ap (λ (l : List TypeRow). slice_get l i) (sym er) ∙ e));
  older = λ i r part e x. h.older i r part (ap (λ (l : List TypeRow). slice_get l i) (sym er) ∙ e) x;
  normal = λ i r e. ap (λ (l : List TypeRow). is_normal_kind l r.konst r.kind) er ∙ h.normal i r (ap (λ (l : List TypeRow). slice_get l i) (sym er) ∙ e);
  once = λ i j r e x. h.once i j r (ap (λ (l : List TypeRow). slice_get l i) (sym er) ∙ e) (ap (λ (l : List TypeRow). slice_get l j) (sym er) ∙ x);
  rows_kept = λ id r f e x n. KeptRow-grows t u g id f (h.rows_kept id r f (ap (λ (l : List TypeRow). slice_get l id.0) (sym er) ∙ e) x n);
  classes_kept = λ c d m e x. KeptClass-grows t u g c d.body m (h.classes_kept c d m (ap (λ (l : List ClassDecl). slice_get l c.0) (sym ec) ∙ e) x);
}

pub Kept-enum : (t : Tables) (d : EnumDecl) (rf : List RowFacts) (ms : List (Option Measure)) → Kept t rf ms → Kept (with_enum t d) rf ms
Kept-enum t d rf ms h = Kept-enums t (with_enum t d) rf ms (Grows-enum t d) refl refl (omega (arith, length-append t.enums (d ∷ []))) h

pub changed-length : {A : Type 0} (f : A → A) (xs : List A) (i : ℕ) → length (changed_at f xs i) ≡ length xs
changed-length f [] i = refl
changed-length f (x ∷ xs) zero = refl
changed-length f (x ∷ xs) (suc i) = ap suc (changed-length f xs i)

pub Kept-end : (t : Tables) (id : EnumId) (e : EnumEnd) (rf : List RowFacts) (ms : List (Option Measure)) → ((d : EnumDecl) → slice_get t.enums id.0 ≡ Some d → d.end ≡ None) → Kept t rf ms → Kept (with_end t id e) rf ms
Kept-end t id e rf ms none h = Kept-enums t (with_end t id e) rf ms (Grows-end t id e none) refl refl (let z = changed-length (λ (d : EnumDecl). record d { end = Some e }) t.enums id.0 in omega arith) h

pub Kept-class : (t : Tables) (d : ClassDecl) (rf : List RowFacts) (ms : List (Option Measure)) → d.body ≡ None → Kept t rf ms → Kept (with_class t d) rf (ms ++ None ∷ [])
Kept-class t d rf ms none h = record {
  each_row = h.each_row;
  each_class = (let a = h.each_class in omega (arith, length-append ms (None ∷ []), length-append t.classes (d ∷ [])));
  known = λ i r e. IsKnown-grows t (with_class t d) (omega arith) (omega (arith, length-append t.classes (d ∷ []))) (omega arith) r.kind (h.known i r e);
  older = h.older;
  normal = h.normal;
  once = h.once;
  rows_kept = λ id r f e x n. KeptRow-grows t (with_class t d) (Grows-class t d) id f (h.rows_kept id r f e x n);
  classes_kept = λ c w m e x. of c w m (slice_get-push t.classes d c.0 w e) (slice_get-push ms None c.0 m x);
}
  where
    of : (c : ClassId) (w : ClassDecl) (m : Option Measure) → (slice_get t.classes c.0 ≡ Some w) ⊎ ((c.0 ≡ length t.classes) × (w ≡ d)) → (slice_get ms c.0 ≡ Some m) ⊎ ((c.0 ≡ length ms) × (m ≡ None)) → KeptClass (with_class t d) c w.body m
    of c w m (inl a) (inl b) = KeptClass-grows t (with_class t d) (Grows-class t d) c w.body m (h.classes_kept c w m a b)
    of c w m (inl a) (inr b) = let l = slice_get_within t.classes c.0 w a in let z = b.0 in let y = h.each_class in absurd (omega arith)
    of c w m (inr a) (inl b) = let l = slice_get_within ms c.0 m b in let z = a.0 in let y = h.each_class in absurd (omega arith)
    of c w m (inr a) (inr b) = subst (λ o. KeptClass (with_class t d) c o m) (sym (ap (λ (v : ClassDecl). v.body) a.1 ∙ none)) (subst (λ o. KeptClass (with_class t d) c None o) (sym b.1) tt)

-- what is kept of a class

pub measure-kept : (t : Tables) (rf : List RowFacts) (ms : List (Option Measure)) → Kept t rf ms → (c : ClassId) (m : Option Measure) → slice_get ms c.0 ≡ Some m → KeptClass t c (body_at t c) m
measure-kept t rf ms h c m e =
    let l : c.0 < length t.classes = (let z = slice_get_within ms c.0 m e in let y = h.each_class in omega arith) in
    let d = some_at t.classes c.0 l in
    subst (λ o. KeptClass t c o m) (sym (ap (option_and_then (λ (w : ClassDecl). w.body)) d.1)) (h.classes_kept c d.0 m d.1 e)

pub few-parts : (t : Tables) (c : ClassId) (o : Option ClassBody) (m : Option Measure) → KeptClass t c o m → (b : ClassBody) → o ≡ Some b → length b.bases + length b.fields + 1 ≤ 1048576
few-parts t c (Some a) (Some m) h b e =
    let x = h.few_parts in let y = h.small.few_nodes in
    subst (λ (z : ClassBody). length z.bases + length z.fields + 1 ≤ 1048576) (some_inj a b e) (omega arith)
few-parts t c (Some a) None h b e = absurd h
few-parts t c None m h b e = absurd (cc)
