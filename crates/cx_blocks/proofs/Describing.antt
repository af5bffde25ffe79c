-- A descriptor that is added, or stands already, is that of the type.
use Rattle.std.proofs.Common.{◌≡◌, ℕ, zero, suc, ◌+◌, ◌<◌, ◌==◌, Bool, true, false, ◌&&◌, List, [], ◌∷◌, ◌++◌, length, Option, None, Some, Ok, Err, refl, sym, ap, subst, ◌∙◌, slice_get, arith, length-append, eqb-true, if◌then◌else◌}
use Rattle.std.specs.Prelude.{option_map, Result, IfOk}
use Rattle.cx_base.specs.declared.Memory.{Memory}
use Rattle.cx_type_defs.specs.declared.ids.TypeId.{TypeId}
use Rattle.cx_type_defs.specs.Tables.{Tables}
use Rattle.cx_type_defs.proofs.Lists.{slice_get-last}
use Rattle.cx_layout.specs.declared.columns.Descriptor.{Descriptor}
use Rattle.cx_layout.specs.TypeForms.{object_form}
use Rattle.cx_layout.specs.Described.{IsAdded, IsOf, AreOf, Numbered, descriptor_form, form_at, is_for, number_in, same_length}
use Rattle.cx_layout.proofs.Options.{some_inj, map_some}
use Rattle.cx_layout.proofs.Wholes.{form_is}
use Rattle.cx_blocks.proofs.Lists.{get_within}

pub of_at : (t : Tables) (ds : List Descriptor) (n : ℕ) (d : Descriptor) → AreOf t ds → slice_get ds n ≡ Some d → IsOf t d
of_at t [] n d h e = absurd (cc)
of_at t (x ∷ ds) zero d h e = subst (IsOf t) (some_inj x d e) h.0
of_at t (x ∷ ds) (suc n) d h e = of_at t ds n d h.1 e

found_at : (ty : TypeId) (c : Option ℕ) (ds : List Descriptor) (k : ℕ) → number_in ds ty c ≡ Some k → (d : Descriptor) × (slice_get ds k ≡ Some d) × (is_for ty c d ≡ true)
found_at ty c [] k e = absurd (cc)
found_at ty c (d ∷ ds) k e = go (is_for ty c d) refl (λ j h. found_at ty c ds j h) e
  where
    go : (b : Bool) → is_for ty c d ≡ b → ((j : ℕ) → number_in ds ty c ≡ Some j → (x : Descriptor) × (slice_get ds j ≡ Some x) × (is_for ty c x ≡ true)) → (if b then Some 0 else option_map suc (number_in ds ty c)) ≡ Some k → (x : Descriptor) × (slice_get (d ∷ ds) k ≡ Some x) × (is_for ty c x ≡ true)
    go true h later e = let z : 0 ≡ k = some_inj 0 k e in (d, ap (slice_get (d ∷ ds)) (sym z), h)
    go false h later e =
        let m = map_some suc (number_in ds ty c) k e in
        let r = later m.0 m.1 in
        (r.0, ap (slice_get (d ∷ ds)) (sym m.2) ∙ r.1, r.2)

same_count : (a b : Option ℕ) → same_length a b ≡ true → a ≡ b
same_count None None e = refl
same_count (Some n) (Some m) e = ap Some (eqb-true n m e)
same_count None (Some m) e = absurd (cc)
same_count (Some n) None e = absurd (cc)

both_true : (a b : Bool) → (a && b) ≡ true → (a ≡ true) × (b ≡ true)
both_true true b e = (refl, e)
both_true false b e = absurd (cc)

abbrev type_id : ℕ → TypeId
type_id n = record { 0 = n }

same_id : (a b : TypeId) → a.0 ≡ b.0 → a ≡ b
same_id a b e = ap type_id e

-- the number that is given is that of a descriptor of the type
pub numbered : (t : Tables) (ty : TypeId) (c : Option ℕ) (old new : List Descriptor) (n : ℕ) (o : Option ℕ) → number_in old ty c ≡ o → AreOf t old → Numbered t ty c old new n o → (n < length new) × (object_form t ty c ≡ Some (form_at new n))
numbered t ty c old new n None e a h =
    let l = length-append old (h.added ∷ []) in
    let w = ap length h.behind in
    let v = h.number_is in
    let at : slice_get new n ≡ Some h.added = ap (λ k. slice_get k n) h.behind ∙ ap (slice_get (old ++ h.added ∷ [])) h.number_is ∙ slice_get-last old h.added in
    (omega arith, ap (λ (x : TypeId). object_form t x c) (sym h.ty) ∙ ap (object_form t h.added.ty) (sym h.length) ∙ h.is_of ∙ ap Some (sym (form_is new n h.added at)))
numbered t ty c old new n (Some k) e a h =
    let d = found_at ty c old k e in
    let b = both_true (d.0.ty.0 == ty.0) (same_length d.0.length c) d.2 in
    let at : slice_get new n ≡ Some d.0 = ap (λ l. slice_get l n) h.1 ∙ ap (slice_get old) h.0 ∙ d.1 in (
      get_within new n d.0 at,
      ap (λ (x : TypeId). object_form t x c) (sym (same_id d.0.ty ty (eqb-true d.0.ty.0 ty.0 b.0))) ∙ ap (object_form t d.0.ty) (sym (same_count d.0.length c b.1)) ∙ of_at t old k d.0 a d.1 ∙ ap Some (sym (form_is new n d.0 at)),
    )

pub described_known : (t : Tables) (ty : TypeId) (c : Option ℕ) (old new : List Descriptor) → AreOf t old → (r : Result ℕ Memory) → IfOk r (λ n. Numbered t ty c old new n (number_in old ty c)) → IfOk r (λ n. n < length new)
described_known t ty c old new a (Ok n) h = (numbered t ty c old new n (number_in old ty c) refl a h).0
described_known t ty c old new a (Err e) h = tt

pub described_form : (t : Tables) (ty : TypeId) (c : Option ℕ) (old new : List Descriptor) → AreOf t old → (r : Result ℕ Memory) → IfOk r (λ n. Numbered t ty c old new n (number_in old ty c)) → IfOk r (λ n. object_form t ty c ≡ Some (form_at new n))
described_form t ty c old new a (Ok n) h = (numbered t ty c old new n (number_in old ty c) refl a h).1
described_form t ty c old new a (Err e) h = tt
