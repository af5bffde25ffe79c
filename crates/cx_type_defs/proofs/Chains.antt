-- A chain of pointers, references and arrays is no longer than the type that it begins at is deep, save for one class
-- at its end.
use Rattle.std.proofs.Common.{◌≡◌, ℕ, zero, suc, ◌+◌, ◌<◌, ◌≤◌, Option, None, Some, ◌⊎◌, inl, inr, refl, sym, ap, subst, ◌∙◌, slice_get, length, arith}
use Rattle.std.specs.Prelude.{option_and_then}
use Rattle.cx_type_defs.specs.declared.ids.TypeId.{TypeId}
use Rattle.cx_type_defs.specs.declared.kind.TypeRow.{TypeRow}
use Rattle.cx_type_defs.specs.declared.kind.TypeKind.{TypeKind}
use Rattle.cx_type_defs.specs.declared.kind.TypeKind.TheVariants as kind
use Rattle.cx_type_defs.specs.Tables.{Tables, IsKnown}
use Rattle.cx_type_defs.specs.Questions.{OfType, address_answer, kind_answer, most_levels, asked, depth_of}
use Rattle.cx_type_defs.specs.Levels.{most_steps, part_of, part_at, led_to}
use Rattle.cx_type_defs.specs.Sound.{Sound, HasBody}
use Rattle.cx_type_defs.proofs.Lists.{some_inj, option_and_then-some, option_map-some, option_value, slice_get-within}
use Rattle.cx_type_defs.proofs.Asked.{asked-opens}

-- what a known type leads to or consists of is known
pub known-part : (t : Tables) (k : TypeKind) (part : TypeId) → IsKnown t k → part_of k ≡ Some part → part.0 < length t.rows
known-part t (kind.Pointer to) part h e = subst (λ (p : TypeId). p.0 < length t.rows) (some_inj to part e) h
known-part t (kind.Reference to) part h e = subst (λ (p : TypeId). p.0 < length t.rows) (some_inj to part e) h
known-part t (kind.Array el n) part h e = subst (λ (p : TypeId). p.0 < length t.rows) (some_inj el part e) h.0
known-part t kind.Void part h e = absurd (cc)
known-part t kind.Nullptr part h e = absurd (cc)
known-part t (kind.Int _) part h e = absurd (cc)
known-part t (kind.Enum _) part h e = absurd (cc)
known-part t (kind.Class _) part h e = absurd (cc)

pub most_steps-is : most_steps ≡ 513
unfolding most_steps most_levels
most_steps-is = refl

-- what a pointer to a type of this kind is deep: one more than the type, or one, if that is a class
deeper : (o : Option ℕ) (k : TypeKind) (d : ℕ) → address_answer depth_of o k ≡ Some d → ((e : ℕ) × (o ≡ Some e) × (e + 1 ≡ d)) ⊎ ((d ≡ 1) × (part_of k ≡ None))
deeper o (kind.Class c) d e = inr (sym (some_inj 1 d e), refl)
deeper o kind.Void d e = inl (option_map-some (λ d. d + 1) o d e)
deeper o kind.Nullptr d e = inl (option_map-some (λ d. d + 1) o d e)
deeper o (kind.Int _) d e = inl (option_map-some (λ d. d + 1) o d e)
deeper o (kind.Enum _) d e = inl (option_map-some (λ d. d + 1) o d e)
deeper o (kind.Pointer _) d e = inl (option_map-some (λ d. d + 1) o d e)
deeper o (kind.Reference _) d e = inl (option_map-some (λ d. d + 1) o d e)
deeper o (kind.Array _ _) d e = inl (option_map-some (λ d. d + 1) o d e)

-- where a type has no part, the chain is at its end
ends : (t : Tables) (n : ℕ) (id last : TypeId) (r : TypeRow) → slice_get t.rows id.0 ≡ Some r → part_of r.kind ≡ None → led_to t n id ≡ Some last → n ≡ 0
unfolding led_to
ends t zero id last r at none e = refl
ends t (suc n) id last r at none e =
    let z : led_to t (suc n) id ≡ None = ap (option_and_then (led_to t n)) (ap (option_and_then (λ (w : TypeRow). part_of w.kind)) at ∙ none) in
    absurd (cc)

module _ (t : Tables) (s : Sound t) where
  -- the part of a type is known, and one less deep, save that a class at the end counts nothing
  part-depth : (id part : TypeId) (r : TypeRow) (d : ℕ) → slice_get t.rows id.0 ≡ Some r → part_of r.kind ≡ Some part → asked depth_of t (OfType id) ≡ Some d
      → (w : TypeRow) × (slice_get t.rows part.0 ≡ Some w) × (((e : ℕ) × (asked depth_of t (OfType part) ≡ Some e) × (e + 1 ≡ d)) ⊎ ((d ≡ 1) × (part_of w.kind ≡ None)))
  part-depth id part r d at is e = of r.kind is (s.rows_known id.0 r at) (sym (asked-opens depth_of t (OfType id) d e ∙ ap (option_and_then (λ (w : TypeRow). kind_answer depth_of t (asked depth_of t) w.kind)) at) ∙ e)
    where
      address : (to : TypeId) → to ≡ part → to.0 < length t.rows → option_and_then (λ (w : TypeRow). address_answer depth_of (asked depth_of t (OfType to)) w.kind) (slice_get t.rows to.0) ≡ Some d
          → (w : TypeRow) × (slice_get t.rows part.0 ≡ Some w) × (((e : ℕ) × (asked depth_of t (OfType part) ≡ Some e) × (e + 1 ≡ d)) ⊎ ((d ≡ 1) × (part_of w.kind ≡ None)))
      address to same less x =
          let i = option_and_then-some (λ (w : TypeRow). address_answer depth_of (asked depth_of t (OfType to)) w.kind) (slice_get t.rows to.0) d x in
          subst (λ (p : TypeId). (w : TypeRow) × (slice_get t.rows p.0 ≡ Some w) × (((e : ℕ) × (asked depth_of t (OfType p) ≡ Some e) × (e + 1 ≡ d)) ⊎ ((d ≡ 1) × (part_of w.kind ≡ None)))) same
          (i.0, i.1, deeper (asked depth_of t (OfType to)) i.0.kind d i.2)

      of : (k : TypeKind) → part_of k ≡ Some part → IsKnown t k → kind_answer depth_of t (asked depth_of t) k ≡ Some d
          → (w : TypeRow) × (slice_get t.rows part.0 ≡ Some w) × (((e : ℕ) × (asked depth_of t (OfType part) ≡ Some e) × (e + 1 ≡ d)) ⊎ ((d ≡ 1) × (part_of w.kind ≡ None)))
      of (kind.Pointer to) is known x = address to (some_inj to part is) known x
      of (kind.Reference to) is known x = address to (some_inj to part is) known x
      of (kind.Array el n) is known x =
          let same : el ≡ part = some_inj el part is in
          let w = slice_get-within t.rows el.0 known.0 in
          let i = option_map-some (λ d. d + 1) (asked depth_of t (OfType el)) d x in
          subst (λ (p : TypeId). (w : TypeRow) × (slice_get t.rows p.0 ≡ Some w) × (((e : ℕ) × (asked depth_of t (OfType p) ≡ Some e) × (e + 1 ≡ d)) ⊎ ((d ≡ 1) × (part_of w.kind ≡ None)))) same
          (w.0, w.1, inl i)
      of kind.Void is known x = absurd (cc)
      of kind.Nullptr is known x = absurd (cc)
      of (kind.Int _) is known x = absurd (cc)
      of (kind.Enum _) is known x = absurd (cc)
      of (kind.Class _) is known x = absurd (cc)

  -- no more steps than levels
  chain-depth : (n : ℕ) (id last : TypeId) (r : TypeRow) (d : ℕ) → slice_get t.rows id.0 ≡ Some r → asked depth_of t (OfType id) ≡ Some d → led_to t n id ≡ Some last → n ≤ d
  unfolding led_to
  chain-depth zero id last r d at e l = omega arith
  chain-depth (suc n) id last r d at e l =
      let i = option_and_then-some (led_to t n) (part_at t id) last l in
      let is : part_of r.kind ≡ Some i.0 = sym (ap (option_and_then (λ (w : TypeRow). part_of w.kind)) at) ∙ i.1 in
      let p = part-depth id i.0 r d at is e in
      of i.0 p.0 p.1 i.2 (λ e x. chain-depth n i.0 last p.0 e p.1 x i.2) p.2
    where
      of : (part : TypeId) (w : TypeRow) → slice_get t.rows part.0 ≡ Some w → led_to t n part ≡ Some last → ((e : ℕ) → asked depth_of t (OfType part) ≡ Some e → n ≤ e) → ((e : ℕ) × (asked depth_of t (OfType part) ≡ Some e) × (e + 1 ≡ d)) ⊎ ((d ≡ 1) × (part_of w.kind ≡ None)) → suc n ≤ d
      of part w at' l' less (inl p) = let b = less p.0 p.1 in let z = p.2 in omega arith
      of part w at' l' less (inr p) = let b = ends t n part last w at' p.1 l' in let z = p.0 in omega arith

  -- a walk from a known type meets at most so many
  pub chain-short : (n : ℕ) (id last : TypeId) → id.0 < length t.rows → led_to t n id ≡ Some last → n < most_steps
  chain-short n id last less l =
      let r = slice_get-within t.rows id.0 less in
      subst (λ m. n < m) (sym most_steps-is) (of r.0 r.1 r.0.kind refl)
    where
      measured : (r : TypeRow) → slice_get t.rows id.0 ≡ Some r → HasBody t r.kind → n < 513
      measured r at h =
          let d = option_value (asked depth_of t (OfType id)) (s.types_measured id r at h).levels_known in
          let a = chain-depth n id last r d.0 at d.1 l in
          let b = s.few_levels (OfType id) d.0 d.1 in
          omega arith

      of : (r : TypeRow) → slice_get t.rows id.0 ≡ Some r → (k : TypeKind) → r.kind ≡ k → n < 513
      of r at (kind.Class c) is = let z = ends t n id last r at (ap part_of is) l in omega arith
      of r at kind.Void is = measured r at (subst (HasBody t) (sym is) tt)
      of r at kind.Nullptr is = measured r at (subst (HasBody t) (sym is) tt)
      of r at (kind.Int _) is = measured r at (subst (HasBody t) (sym is) tt)
      of r at (kind.Enum _) is = measured r at (subst (HasBody t) (sym is) tt)
      of r at (kind.Pointer _) is = measured r at (subst (HasBody t) (sym is) tt)
      of r at (kind.Reference _) is = measured r at (subst (HasBody t) (sym is) tt)
      of r at (kind.Array _ _) is = measured r at (subst (HasBody t) (sym is) tt)
