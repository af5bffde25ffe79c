-- The array that a place is in, and the types along the way to it.
use Rattle.std.proofs.Common.{◌≡◌, ℕ, ◌==◌, Bool, true, false, List, [], ◌∷◌, ◌++◌, Option, None, Some, refl, sym, ap, ◌∙◌, slice_get, if◌then◌else◌}
use Rattle.std.specs.Prelude.{nat_lt, is_some, option_map, option_and_then}
use Rattle.cx_type_defs.specs.declared.ids.Step.{Step}
use Rattle.cx_type_defs.specs.declared.ids.Step.TheVariants as step
use Rattle.cx_type_defs.specs.declared.ids.TypeId.{TypeId}
use Rattle.cx_type_defs.specs.declared.kind.TypeRow.{TypeRow}
use Rattle.cx_type_defs.specs.declared.kind.TypeKind.{TypeKind}
use Rattle.cx_type_defs.specs.declared.kind.TypeKind.TheVariants as kind
use Rattle.cx_type_defs.specs.Tables.{Tables}
use Rattle.cx_type_defs.proofs.Lists.{option_and_then-some, option_map-some}
use Rattle.cx_state.specs.Objects.{Path, Objects}
use Rattle.cx_state.specs.Places.{element, kind_part, row_part, row_below, root_row, Spot, under, spot_of, spot, elements, index_row, spot_row, row_of}
use Rattle.cx_state.specs.Pointers.{first_row}
use Rattle.cx_state.specs.Forms.{Knows}

-- options

pub is_some-some : {A : Type 0} (o : Option A) → is_some o ≡ true → (a : A) × (o ≡ Some a)
is_some-some None e = absurd (cc)
is_some-some (Some a) e = (a, refl)

pub and_then-and_then : {A B C : Type 0} (f : B → Option C) (g : A → Option B) (o : Option A) → option_and_then (λ x. option_and_then f (g x)) o ≡ option_and_then f (option_and_then g o)
and_then-and_then f g None = refl
and_then-and_then f g (Some x) = refl

pub and_then-same : {A B : Type 0} (f g : A → Option B) → ((x : A) → f x ≡ g x) → (o : Option A) → option_and_then f o ≡ option_and_then g o
and_then-same f g h None = refl
and_then-same f g h (Some x) = h x

pub and_then-Some : {A : Type 0} (o : Option A) → option_and_then (λ x. Some x) o ≡ o
and_then-Some None = refl
and_then-Some (Some x) = refl

pub if-true : (b : Bool) {A : Type 0} (o : Option A) (a : A) → (if b then o else None) ≡ Some a → (b ≡ true) × (o ≡ Some a)
if-true true o a e = (refl, e)
if-true false o a e = absurd (cc)

-- types along steps

pub row_below-append : (t : Tables) (r : TypeRow) (ss us : List Step) → row_below t r (ss ++ us) ≡ option_and_then (λ (q : TypeRow). row_below t q us) (row_below t r ss)
row_below-append t r [] us = refl
row_below-append t r (s ∷ ss) us =
    and_then-same (λ (q : TypeRow). row_below t q (ss ++ us)) (λ (q : TypeRow). option_and_then (λ (w : TypeRow). row_below t w us) (row_below t q ss)) (λ q. row_below-append t q ss us) (row_part t r s)
    ∙ and_then-and_then (λ (w : TypeRow). row_below t w us) (λ (q : TypeRow). row_below t q ss) (row_part t r s)

pub row_below-one : (t : Tables) (r : TypeRow) (ss : List Step) (s : Step) → row_below t r (ss ++ s ∷ []) ≡ option_and_then (λ (q : TypeRow). row_part t q s) (row_below t r ss)
row_below-one t r ss s = row_below-append t r ss (s ∷ []) ∙ and_then-same (λ (q : TypeRow). row_below t q (s ∷ [])) (λ (q : TypeRow). row_part t q s) (λ q. and_then-Some (row_part t q s)) (row_below t r ss)

-- how steps end: at an element of an array, or elsewhere; the mark is no matter

abbrev pub at_element : List Step → ℕ → Spot
at_element us i = record { array = us; many = true; index = i }

abbrev pub at_single : List Step → Bool → Spot
at_single ss past = record { array = ss; many = false; index = if past then 1 else 0 }

pub data End (ss : List Step) : Type 0 where
  AtElement : (us : List Step) (i : ℕ) → ss ≡ us ++ step.Elem i ∷ [] → ((past : Bool) → spot_of past ss ≡ at_element us i) → End ss
  AtSingle : ((past : Bool) → spot_of past ss ≡ at_single ss past) → End ss

end_under : (s : Step) (ss : List Step) → ((past : Bool) → spot_of past (s ∷ ss) ≡ under s (spot_of past ss)) → End ss → End (s ∷ ss)
end_under s ss h (AtElement us i e g) = AtElement (s ∷ us) i (ap (λ l. s ∷ l) e) (λ past. h past ∙ ap (under s) (g past))
end_under s ss h (AtSingle g) = AtSingle (λ past. h past ∙ ap (under s) (g past))

pub end : (ss : List Step) → End ss
end [] = AtSingle (λ past. refl)
end (step.Elem i ∷ []) = AtElement [] i refl (λ past. refl)
end (s ∷ ss) = end_under s ss (λ past. refl) (end ss)

pub spot_of-element : (past : Bool) (us : List Step) (i : ℕ) → spot_of past (us ++ step.Elem i ∷ []) ≡ at_element us i
spot_of-element past [] i = refl
spot_of-element past (step.Elem k ∷ []) i = refl
spot_of-element past (s ∷ us) i = ap (under s) (spot_of-element past us i)

-- the type at a place

pub row_of-first : (t : Tables) (os : Objects) (p : Path) → row_of t os p ≡ option_and_then (spot_row t p.past (spot p)) (first_row t os p)
row_of-first t os p = and_then-and_then (spot_row t p.past (spot p)) (root_row t) (slice_get os p.object)

-- a known place: an element of an array, or the place past its last, or another part, or the place past it
pub data Seat (t : Tables) (os : Objects) (p : Path) : Type 0 where
  InArray : (us : List Step) (i : ℕ) → p.steps ≡ us ++ step.Elem i ∷ [] → spot p ≡ at_element us i → (r : TypeRow) → first_row t os p ≡ Some r → (a : TypeRow) → row_below t r us ≡ Some a
      → (n : ℕ) (of : TypeId) → elements a.kind ≡ Some (n, of) → (e : TypeRow) → slice_get t.rows of.0 ≡ Some e → (if p.past then i == n else nat_lt i n) ≡ true → Seat t os p
  Single : ((past : Bool) → spot_of past p.steps ≡ at_single p.steps past) → (r : TypeRow) → first_row t os p ≡ Some r → (a : TypeRow) → row_below t r p.steps ≡ Some a → Seat t os p

pub seat : (t : Tables) (os : Objects) (p : Path) → Knows t os p → Seat t os p
seat t os p k =
    let found = is_some-some (row_of t os p) k in
    let first = option_and_then-some (spot_row t p.past (spot p)) (first_row t os p) found.0 (sym (row_of-first t os p) ∙ found.1) in
    seated first.0 first.1 found.0 first.2 (end p.steps)
  where
    seated : (r : TypeRow) → first_row t os p ≡ Some r → (f : TypeRow) → spot_row t p.past (spot p) r ≡ Some f → End p.steps → Seat t os p
    seated r er f ef (AtElement us i e g) =
        let x : option_and_then (λ (q : TypeRow). index_row t p.past i q) (row_below t r us) ≡ Some f = sym (ap (λ w. spot_row t p.past w r) (g p.past)) ∙ ef in
        let a = option_and_then-some (λ (q : TypeRow). index_row t p.past i q) (row_below t r us) f x in
        let n = option_and_then-some (λ (e : ℕ × TypeId). if (if p.past then i == e.0 else nat_lt i e.0) then option_map (element a.0.konst) (slice_get t.rows e.1.0) else None) (elements a.0.kind) f a.2 in
        let b = if-true (if p.past then i == n.0.0 else nat_lt i n.0.0) (option_map (element a.0.konst) (slice_get t.rows n.0.1.0)) f n.2 in
        let l = option_map-some (element a.0.konst) (slice_get t.rows n.0.1.0) f b.1 in
        InArray us i e (g p.past) r er a.0 a.1 n.0.0 n.0.1 n.1 l.0 l.1 b.0
    seated r er f ef (AtSingle g) =
        let x : option_and_then (λ (q : TypeRow). Some q) (row_below t r p.steps) ≡ Some f = sym (ap (λ w. spot_row t p.past w r) (g p.past)) ∙ ef in
        Single g r er f (sym (and_then-Some (row_below t r p.steps)) ∙ x)

abbrev pub place_at : ℕ → List Step → Bool → Path
place_at n ss past = record { object = n; steps = ss; past = past }

pub row_of-element : (t : Tables) (os : Objects) (o : ℕ) (us : List Step) (i : ℕ) (past : Bool) (r a : TypeRow) (n : ℕ) (of : TypeId) (e : TypeRow)
    → option_and_then (root_row t) (slice_get os o) ≡ Some r → row_below t r us ≡ Some a → elements a.kind ≡ Some (n, of) → slice_get t.rows of.0 ≡ Some e
    → (if past then i == n else nat_lt i n) ≡ true → row_of t os (place_at o (us ++ step.Elem i ∷ []) past) ≡ Some (element a.konst e)
row_of-element t os o us i past r a n of e er ea en ee b =
    row_of-first t os (place_at o (us ++ step.Elem i ∷ []) past)
    ∙ ap (option_and_then (spot_row t past (spot_of past (us ++ step.Elem i ∷ [])))) er
    ∙ ap (λ x. spot_row t past x r) (spot_of-element past us i)
    ∙ ap (option_and_then (λ (q : TypeRow). index_row t past i q)) ea
    ∙ ap (option_and_then (λ (c : ℕ × TypeId). if (if past then i == c.0 else nat_lt i c.0) then option_map (element a.konst) (slice_get t.rows c.1.0) else None)) en
    ∙ ap (λ (c : Bool). if c then option_map (element a.konst) (slice_get t.rows of.0) else None) b
    ∙ ap (option_map (element a.konst)) ee

pub row_of-single : (t : Tables) (os : Objects) (o : ℕ) (ss : List Step) (past : Bool) (r a : TypeRow)
    → option_and_then (root_row t) (slice_get os o) ≡ Some r → ((past : Bool) → spot_of past ss ≡ at_single ss past) → row_below t r ss ≡ Some a → row_of t os (place_at o ss past) ≡ Some a
row_of-single t os o ss past r a er g ea =
    row_of-first t os (place_at o ss past)
    ∙ ap (option_and_then (spot_row t past (spot_of past ss))) er
    ∙ ap (λ x. spot_row t past x r) (g past)
    ∙ ap (option_and_then (λ (q : TypeRow). Some q)) ea

-- without the mark, the type at a place is the one that its steps lead to

index-part : (t : Tables) (konst : Bool) (i : ℕ) (k : TypeKind) → option_and_then (λ (e : ℕ × TypeId). if nat_lt i e.0 then option_map (element konst) (slice_get t.rows e.1.0) else None) (elements k) ≡ kind_part t konst k (step.Elem i)
index-part t konst i (kind.Array of n) = refl
index-part t konst i kind.Void = refl
index-part t konst i kind.Nullptr = refl
index-part t konst i (kind.Int ty) = refl
index-part t konst i (kind.Enum e) = refl
index-part t konst i (kind.Pointer to) = refl
index-part t konst i (kind.Reference to) = refl
index-part t konst i (kind.Class c) = refl

pub row_of-plain : (t : Tables) (os : Objects) (o : ℕ) (ss : List Step) → row_of t os (place_at o ss false) ≡ option_and_then (λ (r : TypeRow). row_below t r ss) (option_and_then (root_row t) (slice_get os o))
row_of-plain t os o ss =
    row_of-first t os (place_at o ss false)
    ∙ and_then-same (spot_row t false (spot_of false ss)) (λ (r : TypeRow). row_below t r ss) (λ r. by_end r (end ss)) (option_and_then (root_row t) (slice_get os o))
  where
    by_end : (r : TypeRow) → End ss → spot_row t false (spot_of false ss) r ≡ row_below t r ss
    by_end r (AtElement us i e g) =
        ap (λ x. spot_row t false x r) (g false)
        ∙ and_then-same (λ (q : TypeRow). index_row t false i q) (λ (q : TypeRow). row_part t q (step.Elem i)) (λ q. index-part t q.konst i q.kind) (row_below t r us)
        ∙ sym (row_below-one t r us (step.Elem i))
        ∙ ap (row_below t r) (sym e)
    by_end r (AtSingle g) = ap (λ x. spot_row t false x r) (g false) ∙ and_then-Some (row_below t r ss)
