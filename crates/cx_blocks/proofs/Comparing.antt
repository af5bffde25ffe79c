-- Places beside each other.
use Rattle.std.proofs.Common.{◌≡◌, ℕ, ◌==◌, Bool, true, false, ◌||◌, ◌&&◌, List, [], Some, Ok, Err, inl, inr, refl, sym, ap, ◌∙◌, slice_get, ℤ, if◌then◌else◌, eqb-true}
use Rattle.std.proofs.lemmas.Bool.{cases_Bool}
use Rattle.cx_base.specs.declared.rule.Rule.{Rule}
use Rattle.cx_base.specs.declared.rule.Rule.TheVariants as rule
use Rattle.std.specs.Prelude.{Result, option_map, unwrap_or}
use Rattle.cx_type_defs.specs.Tables.{Tables}
use Rattle.cx_state.specs.Objects.{Path, Object, Objects}
use Rattle.cx_state.specs.Pointers as pointers
use Rattle.cx_state.proofs.Known.{add-ok, moved-ok}
use Rattle.cx_layout.specs.declared.columns.Descriptor.{Descriptor}
use Rattle.cx_layout.specs.declared.place.Place.{Place}
use Rattle.cx_layout.specs.Described.{form_at}
use Rattle.cx_slot_places.specs.Pointers.{HasForm}
use Rattle.cx_blocks.specs.declared.block.Block.{Block}
use Rattle.cx_blocks.specs.Seen.{paths_in, object_in, objects_in}
use Rattle.cx_blocks.specs.Fits.{Fits}
use Rattle.cx_blocks.proofs.Objects.{the_object}

module _ (ds : List Descriptor) (bs : List Block) (at : Place) (b : Block) (is_block : slice_get bs at.block ≡ Some b) where
  pub dangles : pointers.is_dangling (objects_in ds bs) (paths_in ds bs at) ≡ b.released
  dangles = ap (λ x. unwrap_or (option_map (λ (o : Object). o.released) x) false) (the_object ds bs at.block b is_block)

  pub literal : pointers.in_literal (objects_in ds bs) (paths_in ds bs at) ≡ pointers.is_literal_kind b.kind
  literal = ap (λ x. unwrap_or (option_map (λ (o : Object). pointers.is_literal_kind o.kind) x) false) (the_object ds bs at.block b is_block)

pub has_form : (t : Tables) (ds : List Descriptor) (bs : List Block) (at : Place) (b : Block) → slice_get bs at.block ≡ Some b → (live : ℕ) → Fits t ds bs live → HasForm t (objects_in ds bs) at.block (form_at ds b.desc)
has_form t ds bs at b e live f = record { object = object_in (paths_in ds bs) ds b; is_there = the_object ds bs at.block b e; form_is = (f.each at.block b e).form }

pub add_object : (t : Tables) (os : Objects) (p q : Path) (by : ℤ) → pointers.add t os p by ≡ Ok q → q.object ≡ p.object
add_object t os p q by e =
    let a = add-ok t os p q by e in
    let m = moved-ok p q (pointers.count_at t os p) by a.1 in
    ap (λ (x : Path). x.object) (sym m.2)

pub not_same : (a b : ℕ) → (a ≡ b → ⊥) → (a == b) ≡ false
not_same a b h = elim (cases_Bool (a == b)) as (λ _. (a == b) ≡ false) [ inl e ↦ absurd (h (eqb-true a b e)) | inr e ↦ e ]

-- what is answered of places of two objects
abbrev pub apart : Bool → Bool → Bool → Bool → Result Bool Rule
apart past other_past one other = if past || other_past || (one && other) then Err rule.UnspecifiedCompare else Ok false
