-- How two parts lie to each other, by their steps and by the types along them.
use Rattle.std.proofs.Common.{◌≡◌, ℕ, zero, suc, ◌-◌, ◌≤◌, ◌==◌, Bool, true, false, ◌&&◌, ◌||◌, List, [], ◌∷◌, Option, Some, inl, inr, slice_get, refl, sym, ap, ◌∙◌, arith, eqb-true, eq-eqb, ne_eqb, if◌then◌else◌}
use Rattle.std.proofs.lemmas.Bool.{cases_Bool, eqb-false}
use Rattle.std.specs.Prelude.{option_map, option_and_then, unwrap_or}
use Rattle.cx_type_defs.proofs.Lists.{some_inj, option_map-some, option_and_then-some}
use Rattle.cx_type_defs.specs.declared.ids.Step.{Step}
use Rattle.cx_type_defs.specs.declared.ids.Step.TheVariants as step
use Rattle.cx_type_defs.specs.declared.kind.TypeRow.{TypeRow}
use Rattle.cx_type_defs.specs.declared.kind.TypeKind.{TypeKind}
use Rattle.cx_type_defs.specs.declared.kind.TypeKind.TheVariants as kind
use Rattle.cx_type_defs.specs.declared.decl.ClassDecl.{ClassDecl}
use Rattle.cx_type_defs.specs.Tables.{Tables}
use Rattle.cx_state.specs.Objects.{same_step}
use Rattle.cx_state.specs.Places.{row_part}
use Rattle.cx_state.specs.Pointers.{Parting, parting, is_union_key, is_union_kind, part_before, goes_on, are_members}
use Rattle.cx_state.proofs.Paths.{same_step-true}
use Rattle.cx_shapes.specs.Forms.{Form, Leaf, Row, Class, Union, Part, further, part_of, below_of, Way, way, Leads, steps_at}
use Rattle.cx_shapes.specs.Kinds.{IsForm, AreForms, base_kinds, field_kinds}
use Rattle.cx_shapes.proofs.Numbering.{way_leads, steps_way}
use Rattle.cx_shapes.proofs.Typing.{part_has, body_known}
use Rattle.cx_record_pointers.specs.declared.meet.Meeting.{Meeting}
use Rattle.cx_record_pointers.specs.declared.meet.Meeting.TheVariants as meeting
use Rattle.cx_record_pointers.specs.Meetings.{is_union, meeting_of, before_of, in_members, is_within}

-- the first step to a part behind the first, and the rest of them
pub record Onward (f : Form) (a : ℕ) (w : Way) (ss : List Step) : Type 0 where
  pub rest : List Step
  pub are_rest : steps_at w.2 (a - w.1) ≡ Some rest
  pub in_order : w.0 ∷ rest ≡ ss
  pub is_part : part_of f w.0 ≡ Some (w.1, w.2)
  pub behind : 1 ≤ w.1
  pub from : w.1 ≤ a

pub onward : (f : Form) (a : ℕ) (w : Way) (ss : List Step) → 1 ≤ a → way f (a - 1) ≡ Some w → steps_at f a ≡ Some ss → Onward f a w ss
onward f zero w ss l e s = absurd (omega arith)
onward f (suc j) w ss l e s =
    let z : suc j - 1 ≡ j = omega arith in
    let here : way f j ≡ Some w = ap (way f) (sym z) ∙ e in
    let leads : Leads f j w = way_leads f j w here in
    let m = option_map-some (λ us. w.0 ∷ us) (steps_at w.2 (suc j - w.1)) ss (sym (steps_way f j w here) ∙ s) in
    record { rest = m.0; are_rest = m.1; in_order = m.2; is_part = leads.is_part; behind = leads.behind; from = leads.from }

pub same_part : (f : Form) (s u : Step) (p q : Part) → same_step s u ≡ true → part_of f s ≡ Some p → part_of f u ≡ Some q → p ≡ q
same_part f s u p q e a b = some_inj p q (sym a ∙ ap (part_of f) (same_step-true s u e) ∙ b)

pub meet_more : (f : Form) (a b : ℕ) (v w : Way) (r : Meeting) → 1 ≤ a → 1 ≤ b → way f (a - 1) ≡ Some v → way f (b - 1) ≡ Some w → same_step v.0 w.0 ≡ true
    → ((xs ys : List Step) → steps_at v.2 (a - v.1) ≡ Some xs → steps_at v.2 (b - w.1) ≡ Some ys → r ≡ meeting_of v.2 xs ys)
    → (ss us : List Step) → steps_at f a ≡ Some ss → steps_at f b ≡ Some us → r ≡ meeting_of f ss us
meet_more f a b v w r la lb ev ew same h ss us es eu =
    let x = onward f a v ss la ev es in
    let y = onward f b w us lb ew eu in
    let p : (v.1, v.2) ≡ (w.1, w.2) = same_part f v.0 w.0 (v.1, v.2) (w.1, w.2) same x.is_part y.is_part in
    h x.rest y.rest x.are_rest (ap (λ (q : Part). steps_at q.1 (b - w.1)) p ∙ y.are_rest)
    ∙ ap (λ o. unwrap_or (option_map (λ (q : Part). meeting_of q.1 x.rest y.rest) o) meeting.Same) (sym x.is_part)
    ∙ ap (λ c. if c then unwrap_or (option_map (λ (q : Part). meeting_of q.1 x.rest y.rest) (part_of f v.0)) meeting.Same else meeting.Apart (is_union f) v.0 w.0) (sym same)
    ∙ ap (λ l. meeting_of f l (w.0 ∷ y.rest)) x.in_order
    ∙ ap (meeting_of f ss) y.in_order

pub meet_apart : (f : Form) (a b : ℕ) (v w : Way) (in_union : Bool) → 1 ≤ a → 1 ≤ b → way f (a - 1) ≡ Some v → way f (b - 1) ≡ Some w → same_step v.0 w.0 ≡ false → in_union ≡ is_union f
    → (ss us : List Step) → steps_at f a ≡ Some ss → steps_at f b ≡ Some us → meeting.Apart in_union v.0 w.0 ≡ meeting_of f ss us
meet_apart f a b v w in_union la lb ev ew differ is ss us es eu =
    let x = onward f a v ss la ev es in
    let y = onward f b w us lb ew eu in
    ap (λ c. meeting.Apart c v.0 w.0) is
    ∙ ap (λ c. if c then unwrap_or (option_map (λ (q : Part). meeting_of q.1 x.rest y.rest) (part_of f v.0)) meeting.Same else meeting.Apart (is_union f) v.0 w.0) (sym differ)
    ∙ ap (λ l. meeting_of f l (w.0 ∷ y.rest)) x.in_order
    ∙ ap (meeting_of f ss) y.in_order

-- a union's form is that of a union's type

pub union_is : (t : Tables) (f : Form) (k : TypeKind) → IsForm t f k → is_union f ≡ is_union_kind t k
union_is t (Union ms) (kind.Class c) h =
    let w = body_known (λ k b. (is_union_key k ≡ true) × (b.bases ≡ []) × AreForms t ms (field_kinds t b)) (slice_get t.classes c.0) h in
    sym (ap (λ o. unwrap_or (option_map (λ (d : ClassDecl). is_union_key d.key) o) false) w.2 ∙ w.4.0)
union_is t (Class bs ms) (kind.Class c) h =
    let w = body_known (λ k b. (is_union_key k ≡ false) × AreForms t bs (base_kinds b) × AreForms t ms (field_kinds t b)) (slice_get t.classes c.0) h in
    sym (ap (λ o. unwrap_or (option_map (λ (d : ClassDecl). is_union_key d.key) o) false) w.2 ∙ w.4.0)
union_is t Leaf (kind.Class c) h = absurd h
union_is t Leaf kind.Void h = refl
union_is t Leaf kind.Nullptr h = refl
union_is t Leaf (kind.Int i) h = refl
union_is t Leaf (kind.Enum i) h = refl
union_is t Leaf (kind.Pointer i) h = refl
union_is t Leaf (kind.Reference i) h = refl
union_is t Leaf (kind.Array i n) h = refl
union_is t (Row n f) (kind.Array i m) h = refl
union_is t f k h = absurd (first_of (assumption, cc))

-- what the types along the steps say of two parts

abbrev pub members_at : Tables → Option Parting → Bool
members_at t o = unwrap_or (option_map (λ (x : Parting). is_union_kind t x.row.kind && are_members x.left x.right) o) false

pub record Partings (t : Tables) (o : Option Parting) (m : Meeting) : Type 0 where
  pub is_before : option_and_then (part_before t) o ≡ before_of m
  pub are_members : members_at t o ≡ in_members m

pub parts : (t : Tables) (f : Form) (r : TypeRow) → IsForm t f r.kind → (ss us : List Step) (p q : Part) → below_of f ss ≡ Some p → below_of f us ≡ Some q → Partings t (parting t r ss us) (meeting_of f ss us)
parts t f r h [] [] p q a b = record { is_before = refl; are_members = refl }
parts t f r h [] (u ∷ us) p q a b = record { is_before = refl; are_members = refl }
parts t f r h (s ∷ ss) [] p q a b = record { is_before = refl; are_members = refl }
parts t f r h (s ∷ ss) (u ∷ us) p q a b =
    let m = option_and_then-some (λ (p : Part). option_map (further p.0) (below_of p.1 ss)) (part_of f s) p a in
    let n = option_and_then-some (λ (p : Part). option_map (further p.0) (below_of p.1 us)) (part_of f u) q b in
    go (same_step s u) refl m.0 m.1 n.0 n.1
    (λ c. let x = option_map-some (further m.0.0) (below_of m.0.1 ss) p m.2 in
    let y = option_map-some (further n.0.0) (below_of n.0.1 us) q n.2 in
    let w = part_has t f r.konst r.kind h s m.0 m.1 in
    (w.0, w.1, parts t m.0.1 w.0 w.2 ss us x.0 y.0 x.1 (ap (λ (z : Part). below_of z.1 us) (same_part f s u m.0 n.0 c m.1 n.1) ∙ y.1)))
  where
    go : (c : Bool) → same_step s u ≡ c → (x : Part) → part_of f s ≡ Some x → (y : Part) → part_of f u ≡ Some y
        → (same_step s u ≡ true → (w : TypeRow) × (row_part t r s ≡ Some w) × Partings t (parting t w ss us) (meeting_of x.1 ss us))
        → Partings t (if c then option_and_then (λ (q : TypeRow). parting t q ss us) (row_part t r s) else Some (record { row = r; left = s; right = u }))
        (if c then unwrap_or (option_map (λ (p : Part). meeting_of p.1 ss us) (part_of f s)) meeting.Same else meeting.Apart (is_union f) s u)
    go true c x ex y ey ih =
        let i = ih c in
        let row = ap (option_and_then (λ (q : TypeRow). parting t q ss us)) i.1 in
        let part = ap (λ o. unwrap_or (option_map (λ (p : Part). meeting_of p.1 ss us) o) meeting.Same) ex in
        record {
          is_before = ap (option_and_then (part_before t)) row ∙ i.2.is_before ∙ ap before_of (sym part);
          are_members = ap (members_at t) row ∙ i.2.are_members ∙ ap in_members (sym part);
        }
    go false c x ex y ey ih = record {
      is_before = ap (λ b. before_of (meeting.Apart b s u)) (sym (union_is t f r.kind h));
      are_members = ap (λ b. b && are_members s u) (sym (union_is t f r.kind h));
    }

-- one part within another: its steps go on where the other's end

eqb-swap : (a b : ℕ) → (a == b) ≡ (b == a)
eqb-swap a b = elim (cases_Bool (a == b)) as (λ _. (a == b) ≡ (b == a)) [
  | inl e ↦ e ∙ sym (eq-eqb b a (sym (eqb-true a b e)))
  | inr e ↦ e ∙ sym (ne_eqb b a (λ d. eqb-false a b e (sym d)))
]

pub same_step-swap : (s u : Step) → same_step s u ≡ same_step u s
same_step-swap (step.Base i) (step.Base j) = eqb-swap i j
same_step-swap (step.Field i) (step.Field j) = eqb-swap i j
same_step-swap (step.Elem i) (step.Elem j) = eqb-swap i j
same_step-swap (step.Base i) (step.Field j) = refl
same_step-swap (step.Base i) (step.Elem j) = refl
same_step-swap (step.Field i) (step.Base j) = refl
same_step-swap (step.Field i) (step.Elem j) = refl
same_step-swap (step.Elem i) (step.Base j) = refl
same_step-swap (step.Elem i) (step.Field j) = refl

pub within_is : (f : Form) (ss us : List Step) (p q : Part) → below_of f ss ≡ Some p → below_of f us ≡ Some q → is_within (meeting_of f ss us) ≡ (goes_on ss us || goes_on us ss)
within_is f [] [] p q a b = refl
within_is f [] (u ∷ us) p q a b = refl
within_is f (s ∷ ss) [] p q a b = refl
within_is f (s ∷ ss) (u ∷ us) p q a b =
    let m = option_and_then-some (λ (p : Part). option_map (further p.0) (below_of p.1 ss)) (part_of f s) p a in
    let n = option_and_then-some (λ (p : Part). option_map (further p.0) (below_of p.1 us)) (part_of f u) q b in
    go (same_step s u) refl m.0 m.1
    (λ c. let x = option_map-some (further m.0.0) (below_of m.0.1 ss) p m.2 in
    let y = option_map-some (further n.0.0) (below_of n.0.1 us) q n.2 in
    within_is m.0.1 ss us x.0 y.0 x.1 (ap (λ (z : Part). below_of z.1 us) (same_part f s u m.0 n.0 c m.1 n.1) ∙ y.1))
    ∙ ap (λ c. same_step s u && goes_on ss us || c && goes_on us ss) (same_step-swap s u)
  where
    go : (c : Bool) → same_step s u ≡ c → (x : Part) → part_of f s ≡ Some x → (same_step s u ≡ true → is_within (meeting_of x.1 ss us) ≡ (goes_on ss us || goes_on us ss))
        → is_within (if c then unwrap_or (option_map (λ (p : Part). meeting_of p.1 ss us) (part_of f s)) meeting.Same else meeting.Apart (is_union f) s u) ≡ (c && goes_on ss us || c && goes_on us ss)
    go true c x ex ih = ap (λ o. is_within (unwrap_or (option_map (λ (p : Part). meeting_of p.1 ss us) o) meeting.Same)) ex ∙ ih c
    go false c x ex ih = refl
