-- Sets of namespaces that are put together.
use Rattle.std.proofs.Common.{◌≡◌, ℕ, zero, suc, ◌+◌, ◌-◌, ◌<◌, ◌≤◌, Bool, true, false, List, [], ◌∷◌, ◌++◌, length, take, drop, get_or, Some, refl, sym, ap, ◌∙◌, arith, if◌then◌else◌, ◌≢◌}
use Rattle.std.specs.List.{flat_map}
use Rattle.std.specs.Prelude.{slice_get}
use Rattle.std.specs.Option.{option_map_or}
use Rattle.std.proofs.lemmas.List.{take_all, take_more, append-nil}
use Rattle.std.proofs.lemmas.Grind.{flat_map-append}
use Rattle.cx_type_defs.specs.declared.ids.TypeId.{TypeId}
use Rattle.cx_type_defs.specs.declared.ids.ClassId.{ClassId}
use Rattle.cx_type_defs.specs.declared.ids.EnumId.{EnumId}
use Rattle.cx_type_defs.specs.declared.kind.TypeRow.{TypeRow}
use Rattle.cx_type_defs.specs.declared.kind.TypeKind.{TypeKind}
use Rattle.cx_type_defs.specs.declared.kind.TypeKind.TheVariants as type
use Rattle.cx_type_defs.specs.Tables.{Tables}
use Rattle.cx_scopes.specs.declared.kinds.ScopeId.{ScopeId}
use Rattle.cx_scopes.specs.Scopes.{ScopeTables, bases_of}
use Rattle.cx_scopes.specs.Arguments.{with_space_once, with_spaces, class_space, class_spaces, type_spaces, kind_spaces, listed, named_space, is_of_scope}

pub with_spaces-append : (ns xs ys : List ℕ) → with_spaces ns (xs ++ ys) ≡ with_spaces (with_spaces ns xs) ys
with_spaces-append ns [] ys = refl
with_spaces-append ns (x ∷ xs) ys = with_spaces-append (with_space_once ns x) xs ys

module _ {A B : Type 0} (f : A → List B) where
  pub flat_map-more : (xs : List A) (i : ℕ) (d : A) → i < length xs → flat_map f (take (i + 1) xs) ≡ flat_map f (take i xs) ++ f (get_or xs i d)
  flat_map-more xs i d h =
      ap (flat_map f) (take_more xs i d h)
      ∙ flat_map-append f (take i xs) (get_or xs i d ∷ [])
      ∙ ap (λ l. flat_map f (take i xs) ++ l) (append-nil (f (get_or xs i d)))

module _ {A : Type 0} (f : A → List ℕ) where
  -- the namespaces of one more
  pub spaces-next : (ns now : List ℕ) (xs : List A) (i : ℕ) (d : A) → i < length xs → now ≡ with_spaces ns (flat_map f (take i xs)) → with_spaces now (f (get_or xs i d)) ≡ with_spaces ns (flat_map f (take (i + 1) xs))
  spaces-next ns now xs i d h e =
      ap (λ l. with_spaces l (f (get_or xs i d))) e
      ∙ sym (with_spaces-append ns (flat_map f (take i xs)) (f (get_or xs i d)))
      ∙ ap (with_spaces ns) (sym (flat_map-more f xs i d h))

pub class_spaces-none : (s : ScopeTables) (t : Tables) (levels : ℕ) (c : ClassId) → levels ≡ 0 → class_spaces s t levels c ≡ listed (class_space s t c)
unfolding class_spaces
class_spaces-none s t zero c h = refl
class_spaces-none s t (suc n) c h = absurd (omega arith)

pub class_spaces-bases : (s : ScopeTables) (t : Tables) (levels : ℕ) (c : ClassId) → levels ≢ 0 → class_spaces s t levels c ≡ listed (class_space s t c) ++ flat_map (class_spaces s t (levels - 1)) (bases_of s c)
unfolding class_spaces
class_spaces-bases s t zero c h = absurd (h refl)
class_spaces-bases s t (suc n) c h = ap (λ m. listed (class_space s t c) ++ flat_map (class_spaces s t m) (bases_of s c)) (let e : n ≡ suc n - 1 = omega arith in e)

pub type_spaces-none : (s : ScopeTables) (t : Tables) (levels : ℕ) (id : TypeId) → levels ≡ 0 → type_spaces s t levels id ≡ []
unfolding type_spaces
type_spaces-none s t zero id h = refl
type_spaces-none s t (suc n) id h = absurd (omega arith)

pub type_spaces-row : (s : ScopeTables) (t : Tables) (levels : ℕ) (id : TypeId) (r : TypeRow) → levels ≢ 0 → slice_get t.rows id.0 ≡ Some r → type_spaces s t levels id ≡ kind_spaces s t (type_spaces s t (levels - 1)) r.kind
unfolding type_spaces
type_spaces-row s t zero id r h at = absurd (h refl)
type_spaces-row s t (suc n) id r h at =
    ap (λ o. option_map_or (λ (q : TypeRow). kind_spaces s t (type_spaces s t n) q.kind) o []) at
    ∙ ap (λ m. kind_spaces s t (type_spaces s t m) r.kind) (let e : n ≡ suc n - 1 = omega arith in e)

-- the namespaces of a class and its bases are put in
pub class-added : (s : ScopeTables) (t : Tables) (levels : ℕ) (c : ClassId) (old first now : List ℕ) (bases : List ClassId) (i : ℕ) → levels ≢ 0
    → first ≡ with_spaces old (listed (class_space s t c)) → bases ≡ bases_of s c → length bases ≤ i
    → now ≡ with_spaces first (flat_map (class_spaces s t (levels - 1)) (take i bases)) → now ≡ with_spaces old (class_spaces s t levels c)
class-added s t levels c old first now bases i some own of all e =
    e
    ∙ ap (λ l. with_spaces first (flat_map (class_spaces s t (levels - 1)) l)) (take_all i bases all ∙ of)
    ∙ ap (λ l. with_spaces l (flat_map (class_spaces s t (levels - 1)) (bases_of s c))) own
    ∙ sym (with_spaces-append old (listed (class_space s t c)) (flat_map (class_spaces s t (levels - 1)) (bases_of s c)))
    ∙ ap (with_spaces old) (sym (class_spaces-bases s t levels c some))

-- a type of another form has no namespaces
pub kind_spaces-none : (s : ScopeTables) (t : Tables) (below : TypeId → List ℕ) (k : TypeKind) → ((e : EnumId) → k ≡ type.Enum e → ⊥) → ((to : TypeId) → k ≡ type.Pointer to → ⊥)
    → ((of : TypeId) (n : ℕ) → k ≡ type.Array of n → ⊥) → ((c : ClassId) → k ≡ type.Class c → ⊥) → kind_spaces s t below k ≡ []
kind_spaces-none s t below (type.Enum e) a b c d = absurd (a e refl)
kind_spaces-none s t below (type.Pointer to) a b c d = absurd (b to refl)
kind_spaces-none s t below (type.Array of n) a b c d = absurd (c of n refl)
kind_spaces-none s t below (type.Class c') a b c d = absurd (d c' refl)
kind_spaces-none s t below type.Void a b c d = refl
kind_spaces-none s t below type.Nullptr a b c d = refl
kind_spaces-none s t below (type.Int ty) a b c d = refl
kind_spaces-none s t below (type.Reference to) a b c d = refl

-- the types from one on, where that one isn't the class or enumeration, or is it
abbrev pub is_at : ScopeId → Tables → TypeId → Bool
is_at p t id = option_map_or (λ (r : TypeRow). is_of_scope p r.kind) (slice_get t.rows id.0) false

named-from : (p : ScopeId) (t : Tables) (xs : List (TypeId × ℕ)) (i : ℕ) (x : TypeId × ℕ) → slice_get xs i ≡ Some x → named_space p t (drop i xs) ≡ (if is_at p t x.0 then Some x.1 else named_space p t (drop (suc i) xs))
named-from p t [] i x h = cc
named-from p t (y ∷ ys) zero x h = let e : y ≡ x = cc in ap (λ (z : TypeId × ℕ). if is_at p t z.0 then Some z.1 else named_space p t ys) e
named-from p t (y ∷ ys) (suc i) x h = named-from p t ys i x h

module _ (p : ScopeId) (t : Tables) (xs : List (TypeId × ℕ)) (i : ℕ) (x : TypeId × ℕ) (r : TypeRow) (at : slice_get xs i ≡ Some x) (row : slice_get t.rows x.0.0 ≡ Some r) where
  pub named-found : is_of_scope p r.kind ≡ true → named_space p t (drop i xs) ≡ Some x.1
  named-found h =
      named-from p t xs i x at
      ∙ ap (λ o. if option_map_or (λ (q : TypeRow). is_of_scope p q.kind) o false then Some x.1 else named_space p t (drop (suc i) xs)) row
      ∙ ap (λ b. if b then Some x.1 else named_space p t (drop (suc i) xs)) h

  pub named-passed : is_of_scope p r.kind ≡ false → named_space p t (drop i xs) ≡ named_space p t (drop (i + 1) xs)
  named-passed h =
      named-from p t xs i x at
      ∙ ap (λ o. if option_map_or (λ (q : TypeRow). is_of_scope p q.kind) o false then Some x.1 else named_space p t (drop (suc i) xs)) row
      ∙ ap (λ b. if b then Some x.1 else named_space p t (drop (suc i) xs)) h
      ∙ ap (λ n. named_space p t (drop n xs)) (let e : suc i ≡ i + 1 = omega arith in e)
