-- What is said of a type without const, written out.
use Rattle.std.proofs.Common.{◌≡◌, ℕ, zero, suc, ◌<◌, false, Some, refl, sym, ap, subst, ◌∙◌, slice_get, length, arith}
use Rattle.cx_type_defs.specs.declared.ids.TypeId.{TypeId}
use Rattle.cx_type_defs.specs.declared.kind.TypeRow.{TypeRow}
use Rattle.cx_type_defs.specs.declared.kind.TypeKind.{TypeKind}
use Rattle.cx_type_defs.specs.declared.kind.TypeKind.TheVariants as kind
use Rattle.cx_type_defs.specs.Tables.{Tables, IsKnown}
use Rattle.cx_type_defs.specs.Levels.{part_of}
use Rattle.cx_type_defs.specs.Sound.{Sound}
use Rattle.cx_type_defs.specs.Same.{Form, Void, Nullptr, Int, Enum, Pointer, Reference, Array, Class, Const, Unknown, kind_form, form_of, SameAside}
use Rattle.cx_type_defs.proofs.Lists.{slice_get-within}
use Rattle.cx_type_defs.proofs.Chains.{known-part}
use Rattle.cx_type_defs.proofs.Forms.{aside-form}
use Rattle.cx_state.specs.Alike.{Plain, Itself, PointerTo, ReferenceTo, ArrayOf, Is, Alike}

-- what is said of a type as it is written out
abbrev plain_of : Form → Plain
plain_of Void = Itself kind.Void
plain_of Nullptr = Itself kind.Nullptr
plain_of (Int ty) = Itself (kind.Int ty)
plain_of (Enum e) = Itself (kind.Enum e)
plain_of (Pointer f) = PointerTo (plain_of f)
plain_of (Reference f) = ReferenceTo (plain_of f)
plain_of (Array f n) = ArrayOf (plain_of f) n
plain_of (Class c) = Itself (kind.Class c)
plain_of (Const f) = plain_of f
plain_of Unknown = Itself kind.Void

module _ (t : Tables) (s : Sound t) where
  IsPlainAt : TypeId → Type 0
  IsPlainAt id = (r : TypeRow) × (slice_get t.rows id.0 ≡ Some r) × Is t r.kind (plain_of (form_of false t id))

  plain-kind : (k : TypeKind) → ((part : TypeId) → part_of k ≡ Some part → IsPlainAt part) → Is t k (plain_of (kind_form (form_of false t) k))
  unfolding IsPlainAt
  plain-kind kind.Void below = (tt, refl)
  plain-kind kind.Nullptr below = (tt, refl)
  plain-kind (kind.Int ty) below = (tt, refl)
  plain-kind (kind.Enum e) below = (tt, refl)
  plain-kind (kind.Pointer to) below = let b = below to refl in record { part = to; is_made = refl; row = b.0; is_row = b.1; part_is = b.2 }
  plain-kind (kind.Reference to) below = let b = below to refl in record { part = to; is_made = refl; row = b.0; is_row = b.1; part_is = b.2 }
  plain-kind (kind.Array of n) below = let b = below of refl in record { part = of; is_made = refl; row = b.0; is_row = b.1; part_is = b.2 }
  plain-kind (kind.Class c) below = (tt, refl)

  -- what a type consists of stands before it
  plain-at : (n : ℕ) (id : TypeId) → id.0 < n → id.0 < length t.rows → IsPlainAt id
  unfolding IsPlainAt
  plain-at zero id less known = absurd (omega arith)
  plain-at (suc n) id less known =
      let r = slice_get-within t.rows id.0 known in
      let is = plain-kind r.0.kind (λ part e. let older = s.parts_older id.0 r.0 part r.1 e in plain-at n part (omega arith) (omega arith)) in
      (r.0, r.1, subst (λ f. Is t r.0.kind (plain_of f)) (sym (aside-form t s id r.0 r.1)) is)

  written : (k : TypeKind) → IsKnown t k → Is t k (plain_of (kind_form (form_of false t) k))
  written k known = plain-kind k (λ part e. plain-at (length t.rows) part (known-part t k part known e) (known-part t k part known e))

  same-plain : (p : Plain) (a b : TypeKind) → Is t a p → Is t b p → SameAside t a b
  same-plain (Itself l) a b x y = ap (kind_form (form_of false t)) (x.1 ∙ sym y.1)
  same-plain (PointerTo p) a b x y =
      let f = kind_form (form_of false t) in
      let below = aside-form t s x.part x.row x.is_row ∙ same-plain p x.row.kind y.row.kind x.part_is y.part_is ∙ sym (aside-form t s y.part y.row y.is_row) in
      ap f x.is_made ∙ ap Pointer below ∙ sym (ap f y.is_made)
  same-plain (ReferenceTo p) a b x y =
      let f = kind_form (form_of false t) in
      let below = aside-form t s x.part x.row x.is_row ∙ same-plain p x.row.kind y.row.kind x.part_is y.part_is ∙ sym (aside-form t s y.part y.row y.is_row) in
      ap f x.is_made ∙ ap Reference below ∙ sym (ap f y.is_made)
  same-plain (ArrayOf p n) a b x y =
      let f = kind_form (form_of false t) in
      let below = aside-form t s x.part x.row x.is_row ∙ same-plain p x.row.kind y.row.kind x.part_is y.part_is ∙ sym (aside-form t s y.part y.row y.is_row) in
      ap f x.is_made ∙ ap (λ g. Array g n) below ∙ sym (ap f y.is_made)

pub aside-alike : (t : Tables) → Sound t → (a b : TypeKind) → IsKnown t a → IsKnown t b → SameAside t a b → Alike t a b
aside-alike t s a b known also same = record {
  plain = plain_of (kind_form (form_of false t) a);
  left = written t s a known;
  right = subst (λ f. Is t b (plain_of f)) (sym same) (written t s b also);
}

pub alike-aside : (t : Tables) → Sound t → (a b : TypeKind) → Alike t a b → SameAside t a b
alike-aside t s a b h = same-plain t s h.plain a b h.left h.right
