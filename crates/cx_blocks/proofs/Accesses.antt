-- Reading: what bars it, and what the slots of a block that may be read show.
use Rattle.std.proofs.Common.{◌≡◌, ℕ, suc, Bool, true, false, ◌||◌, not, List, [], ◌∷◌, length, Option, None, Some, Ok, Err, refl, sym, ap, subst, ◌∙◌, slice_get, if◌then◌else◌}
use Rattle.std.specs.Prelude.{option_map, option_and_then, is_some}
use Rattle.std.specs.List.{find}
use Rattle.cx_base.specs.declared.rule.Rule.{Rule}
use Rattle.cx_base.specs.declared.rule.Rule.TheVariants as rule
use Rattle.cx_type_defs.specs.declared.ids.Step.{Step}
use Rattle.cx_type_defs.specs.Tables.{Tables}
use Rattle.cx_type_defs.specs.Sound.{Sound}
use Rattle.cx_state.specs.declared.kind.Birth.{Birth}
use Rattle.cx_state.specs.declared.kind.Birth.TheVariants as birth
use Rattle.cx_state.specs.Objects.{Path, Object, Objects}
use Rattle.cx_state.specs.Conditions as on
use Rattle.cx_state.specs.Steps.{unless, call_on, dynamic_class, with_place}
use Rattle.cx_store.specs.Stores.{IsScalarAt, IsClassAt, IsUnionAt, HasField, IsOf, is_class_kind}
use Rattle.cx_state.specs.Pointers.{is_union_kind}
use Rattle.cx_type_defs.specs.declared.ids.ClassId.{ClassId}
use Rattle.cx_type_defs.specs.declared.kind.TypeRow.{TypeRow}
use Rattle.cx_type_defs.specs.declared.kind.TypeKind.TheVariants as kind
use Rattle.cx_type_defs.specs.declared.ids.Step.TheVariants as step
use Rattle.cx_state.specs.Forms.{HoldsValue}
use Rattle.cx_state.specs.Places.{row_of, row_below, row_part, kind_part}
use Rattle.cx_layout.specs.declared.columns.Descriptor.{Descriptor}
use Rattle.cx_layout.specs.declared.place.Place.{Place}
use Rattle.cx_layout.specs.Forms.{Form, Forms, Leaf, Class, End, Part, further, item, nodes_in, cells, cells_in, below_of}
use Rattle.cx_layout.proofs.Agreeing.{Has, Both, below_both}
use Rattle.cx_layout.specs.Described.{form_at}
use Rattle.cx_slots.specs.declared.slot.SlotView.{SlotView}
use Rattle.cx_slots.specs.Slots.{slots_seen}
use Rattle.cx_slots.specs.Flat.{Stands, picture}
use Rattle.cx_slots.specs.Fresh.{fresh}
use Rattle.cx_slots.proofs.Lengths.{flat_length}
use Rattle.cx_slots.proofs.Seen.{seen_length}
use Rattle.cx_slot_calls.specs.Rules.{Show, IsAt}
use Rattle.cx_slot_calls.specs.Rules.{IsClassAt as IsPlainAt}
use Rattle.cx_blocks.specs.declared.block.Block.{Block}
use Rattle.cx_blocks.specs.Bars.{barred}
use Rattle.cx_blocks.specs.Seen.{paths_in, phase_of, object_in, objects_in}
use Rattle.cx_blocks.specs.Fits.{AllKnown, BlockFits, Fits}
use Rattle.cx_blocks.proofs.Objects.{the_object}
use Rattle.cx_blocks.proofs.Reaching.{Reached, reached}
use Rattle.cx_blocks.proofs.KindForms.{leaf_form, plain_class, union_class}
use Rattle.cx_blocks.proofs.Members.{MemberOf, member_of}
use Rattle.cx_state.specs.Forms.{Knows}

-- the rules of the object come first
abbrev pub front : Bool → Bool → Bool → Rule → Option Rule → Option Rule
front released past third name rest = if released then Some rule.Dangling else if past then Some rule.PastEnd else if third then Some name else rest

pub barred_some : (a b c : Bool) (n : Rule) (rest : Option Rule) (r : Rule) → barred a b c n ≡ Some r → front a b c n rest ≡ Some r
barred_some true b c n rest r e = e
barred_some false true c n rest r e = e
barred_some false false true n rest r e = e
barred_some false false false n rest r e = absurd (cc)

pub barred_none : (a b c : Bool) (n : Rule) → barred a b c n ≡ None → (a ≡ false) × (b ≡ false) × (c ≡ false)
barred_none true b c n e = absurd (cc)
barred_none false true c n e = absurd (cc)
barred_none false false true n e = absurd (cc)
barred_none false false false n e = (refl, refl, refl)

pub is_local : (b : Birth) → not (on.is_here b) ≡ false → b ≡ birth.Here
is_local birth.Here e = refl
is_local birth.Usable e = absurd (cc)
is_local birth.Opaque e = absurd (cc)

module _ (t : Tables) (ds : List Descriptor) (bs : List Block) (at : Place) (b : Block) (is_block : slice_get bs at.block ≡ Some b) where
  abbrev os : Objects
  os = objects_in ds bs

  abbrev p : Path
  p = paths_in ds bs at

  abbrev o : Object
  o = object_in (paths_in ds bs) ds b

  broken_is : (a : on.Access) → on.broken t os p a ≡ find (on.holds t o p a) (on.order a)
  broken_is a = ap (option_and_then (λ (o : Object). find (on.holds t o p a) (on.order a))) (the_object ds bs at.block b is_block)

  pub reading_barred : (a : on.Access) (rest : List Rule) (r : Rule) → on.order a ≡ rule.Dangling ∷ rule.PastEnd ∷ rule.NotUsable ∷ rest → barred b.released at.past (on.is_opaque b.birth) rule.NotUsable ≡ Some r → on.broken t os p a ≡ Some r
  reading_barred a rest r e h = broken_is a ∙ ap (find (on.holds t o p a)) e ∙ barred_some b.released at.past (on.is_opaque b.birth) rule.NotUsable (find (on.holds t o p a) rest) r h

  pub writing_barred : (a : on.Access) (rest : List Rule) (r : Rule) → on.order a ≡ rule.Dangling ∷ rule.PastEnd ∷ rule.OutsideWrite ∷ rest → barred b.released at.past (not (on.is_here b.birth)) rule.OutsideWrite ≡ Some r → on.broken t os p a ≡ Some r
  writing_barred a rest r e h = broken_is a ∙ ap (find (on.holds t o p a)) e ∙ barred_some b.released at.past (not (on.is_here b.birth)) rule.OutsideWrite (find (on.holds t o p a) rest) r h

  -- a call on what is there, and the class that decides
  abbrev barred_first : Bool → Bool → Option Rule → Option Rule
  barred_first released past rest = if released then Some rule.Dangling else if past then Some rule.PastEnd else rest

  pub called_dangling : b.released ≡ true → call_on t os p ≡ Err rule.Dangling
  called_dangling e = ap (λ r. unless r tt) (broken_is on.Call ∙ ap (λ x. barred_first x at.past (find (on.holds t o p on.Call) (rule.InactiveMember ∷ rule.OutOfLifetime ∷ []))) e)

  pub called_past : b.released ≡ false → at.past ≡ true → call_on t os p ≡ Err rule.PastEnd
  called_past e h =
      ap (λ r. unless r tt)
      (broken_is on.Call ∙ ap (λ x. barred_first x at.past (find (on.holds t o p on.Call) (rule.InactiveMember ∷ rule.OutOfLifetime ∷ []))) e
      ∙ ap (λ x. barred_first false x (find (on.holds t o p on.Call) (rule.InactiveMember ∷ rule.OutOfLifetime ∷ []))) h)

  abbrev decider : Option (ClassId × Path)
  decider = option_map (with_place p) (option_and_then (λ (o : Object). on.dynamic_in t o p.steps) (slice_get os p.object))

  pub decided_dangling : b.released ≡ true → dynamic_class t os p ≡ Err rule.Dangling
  decided_dangling e = ap (λ r. unless r decider) (broken_is on.Dynamic ∙ ap (λ x. barred_first x at.past (find (on.holds t o p on.Dynamic) (rule.InactiveMember ∷ rule.OutOfLifetime ∷ []))) e)

  pub decided_past : b.released ≡ false → at.past ≡ true → dynamic_class t os p ≡ Err rule.PastEnd
  decided_past e h =
      ap (λ r. unless r decider)
      (broken_is on.Dynamic ∙ ap (λ x. barred_first x at.past (find (on.holds t o p on.Dynamic) (rule.InactiveMember ∷ rule.OutOfLifetime ∷ []))) e
      ∙ ap (λ x. barred_first false x (find (on.holds t o p on.Dynamic) (rule.InactiveMember ∷ rule.OutOfLifetime ∷ []))) h)

  module _ (live : ℕ) (fits : Fits t ds bs live) (alive : b.released ≡ false) (told : on.is_opaque b.birth ≡ false) where
    pub is_kept : b.kept ≡ true
    is_kept = (fits.each at.block b is_block).told (ap (λ x. not (x || b.released)) told ∙ ap not alive)

    shown : (k : Bool) → k ≡ true → (k ≡ true → Stands (form_at ds b.desc) (slots_seen (paths_in ds bs) b.slots.items)) → Show (paths_in ds bs) b.slots.items (form_at ds b.desc) (if k then picture (form_at ds b.desc) (slots_seen (paths_in ds bs) b.slots.items) else fresh (phase_of b) (form_at ds b.desc))
    shown true e h = let s = h refl in record { fits = s.fits; seen = sym s.all }
    shown false e h = absurd (cc)

    -- the slots are those of the object's tree
    pub shows : (g : Form) (l : List SlotView) → g ≡ form_at ds b.desc → l ≡ b.slots.items → Show (paths_in ds bs) l g o.tree
    shows g l e z = subst (λ m. Show (paths_in ds bs) m g o.tree) (sym z) (subst (λ f. Show (paths_in ds bs) b.slots.items f o.tree) (sym e) (shown b.kept is_kept (fits.each at.block b is_block).stands))

    pub many : (g : Form) (l : List SlotView) → g ≡ form_at ds b.desc → l ≡ b.slots.items → length l ≡ cells g
    many g l e z = let s = shows g l e z in sym (seen_length (paths_in ds bs) l) ∙ ap length s.seen ∙ flat_length g o.tree s.fits

  module _ (known : AllKnown ds bs) (k : Knows t os p) (sound : Sound t) (live : ℕ) (fits : Fits t ds bs live) (here : at.past ≡ false) where
    abbrev pub there : Reached t ds bs known at b is_block k sound live fits here
    there = reached t ds bs known at b is_block k sound live fits here

    -- the steps lead to a part of that form
    pub leads_at : (g u : Form) → g ≡ form_at ds b.desc → there.part.form ≡ u → IsAt g p.steps at u
    leads_at g u e h =
        ap (λ f. below_of f p.steps) e ∙ there.leads
        ∙ ap (λ n. Some (record { node = n; slot = there.part.slot; form = there.part.form })) there.node
        ∙ ap (λ n. Some (record { node = at.node; slot = n; form = there.part.form })) there.slot
        ∙ ap (λ f. Some (record { node = at.node; slot = at.slot; form = f })) h

    pub of_row : (P : TypeRow → Type 0) → IsOf P (row_of t os p) → P there.row
    of_row P h = subst (IsOf P) there.is_row h

    pub scalar_at : (g : Form) → g ≡ form_at ds b.desc → IsScalarAt t os p → IsAt g p.steps at Leaf
    scalar_at g e s = leads_at g Leaf e (leaf_form t sound there.row.kind there.part.form (of_row (λ r. HoldsValue r.kind) s) there.has)

    pub class_at : (g : Form) → g ≡ form_at ds b.desc → IsClassAt t os p → (c : ClassId) × (ks : Forms) × (ms : Forms) × IsPlainAt g p.steps at c ks ms
    class_at g e s =
        let w = plain_class t sound there.row.kind there.part.form (of_row (λ r. is_class_kind t r.kind ≡ true) s) there.has in
        (w.0, w.1, w.2, leads_at g (Class w.0 false w.1 w.2) e w.3)

    pub union_at : (g : Form) → g ≡ form_at ds b.desc → IsUnionAt t os p → (c : ClassId) × (ms : Forms) × IsAt g p.steps at (Class c true End ms)
    union_at g e s =
        let w = union_class t sound there.row.kind there.part.form (of_row (λ r. is_union_kind t r.kind ≡ true) s) there.has in
        (w.0, w.1, leads_at g (Class w.0 true End w.1) e w.3)

    pub record UnionMember (g : Form) (m : ℕ) : Type 0 where
      pub class : ClassId
      pub members : Forms
      pub is_at : IsAt g p.steps at (Class class true End members)
      pub part : Part
      pub is_part : item true members m ≡ Some part
      pub is_class : there.row.kind ≡ kind.Class class
      pub of : MemberOf t class m part.form

    some_part : (c : ClassId) (ms : Forms) (m : ℕ) (konst : Bool) → (h : Has t sound (kind.Class c) (Class c true End ms)) → is_some (kind_part t konst (kind.Class c) (step.Field m)) ≡ true → (a : Part) × (item true ms m ≡ Some a)
    some_part c ms m konst h e = go (kind_part t konst (kind.Class c) (step.Field m)) (item true ms m) (below_both t sound (step.Field m ∷ []) (record { kind = kind.Class c; konst = konst }) (Class c true End ms) h) e
      where
        go : (x : Option TypeRow) (y : Option Part) → Both t sound (option_and_then (λ (q : TypeRow). row_below t q []) x) (option_and_then (λ (p : Part). option_map (further p.node p.slot) (below_of p.form [])) (option_map (further (suc (nodes_in End)) (suc (cells_in false End))) y)) → is_some x ≡ true → (a : Part) × (y ≡ Some a)
        go (Some r) (Some a) b e = (a, refl)
        go (Some r) None b e = absurd b
        go None y b e = absurd (cc)

    pub member_at : (g : Form) → g ≡ form_at ds b.desc → IsUnionAt t os p → (m : ℕ) → HasField t os p m → UnionMember g m
    member_at g e s m f =
        let w = union_class t sound there.row.kind there.part.form (of_row (λ r. is_union_kind t r.kind ≡ true) s) there.has in
        let h : Has t sound (kind.Class w.0) (Class w.0 true End w.1) = subst (λ k. Has t sound k (Class w.0 true End w.1)) w.2 (subst (Has t sound there.row.kind) w.3 there.has) in
        let field : is_some (kind_part t there.row.konst (kind.Class w.0) (step.Field m)) ≡ true = ap (λ k. is_some (kind_part t there.row.konst k (step.Field m))) (sym w.2) ∙ of_row (λ r. is_some (row_part t r (step.Field m)) ≡ true) f in
        let a = some_part w.0 w.1 m there.row.konst h field in
        record {
          class = w.0;
          members = w.1;
          is_at = leads_at g (Class w.0 true End w.1) e w.3;
          part = a.0;
          is_part = a.1;
          is_class = w.2;
          of = member_of t sound w.0 w.1 m a.0 h a.1;
        }
