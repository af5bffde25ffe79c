-- Each step answers as before where the types grow.
use Rattle.std.proofs.Common.{◌≡◌, ℕ, Bool, true, false, List, [], ◌∷◌, Option, None, Some, Ok, Err, refl, sym, ap, subst, ◌∙◌, slice_get, if◌then◌else◌}
use Rattle.std.specs.Prelude.{option_map, option_and_then, unwrap_or, is_some, nat_lt, ◌==◌, ◌||◌, ◌&&◌, ℤ}
use Rattle.cx_base.specs.declared.rule.Rule.TheVariants as rule
use Rattle.cx_type_defs.specs.declared.ids.Step.{Step}
use Rattle.cx_type_defs.specs.declared.ids.Step.TheVariants as step
use Rattle.cx_type_defs.specs.declared.ids.TypeId.{TypeId}
use Rattle.cx_type_defs.specs.declared.ids.ClassId.{ClassId}
use Rattle.cx_type_defs.specs.declared.kind.TypeRow.{TypeRow}
use Rattle.cx_type_defs.specs.declared.kind.TypeKind.TheVariants as kind
use Rattle.cx_type_defs.specs.declared.decl.Field.{Field}
use Rattle.cx_type_defs.specs.declared.decl.ClassBody.{ClassBody}
use Rattle.cx_type_defs.specs.Tables.{Tables, Grows, body_at, field_of}
use Rattle.cx_type_defs.specs.Questions.{OfType, is_complete}
use Rattle.cx_type_defs.proofs.Lists.{some_inj, option_and_then-some}
use Rattle.cx_type_defs.proofs.Looking.{asked-keeps}
use Rattle.cx_state.specs.Objects.{Path, Leaf, put, same_step, same_path, Object, Objects}
use Rattle.cx_state.specs.Places.{elements, row_part, row_below, root_row, spot, index_row, row_of}
use Rattle.cx_state.specs.Conditions as on
use Rattle.cx_state.specs.Steps as steps
use Rattle.cx_state.specs.Pointers as pointers
use Rattle.cx_state.specs.Forms.{Fit, Knows}
use Rattle.cx_state.specs.Asked.{NamesMember}
use Rattle.cx_state.proofs.PartsComplete.{member-complete}
use Rattle.cx_state.proofs.Stepped.{member_tree-is}
use Rattle.cx_state.proofs.Complete.{is_some-true, complete-new}
use Rattle.cx_state.proofs.Growing.{body-grows, row_below-grows, row_of-grows}
use Rattle.cx_state.proofs.Passing.{then-same}
use Rattle.cx_state.proofs.Agreeing.{Agree, Known, known, broken-same, outer-same, dynamic-same}

module _ (t u : Tables) (g : Grows t u) where
  -- where two paths part

  abbrev SameUnion : pointers.Parting → Type 0
  SameUnion x = pointers.is_union_kind t x.row.kind ≡ pointers.is_union_kind u x.row.kind

  parting-same : (ss vs : List Step) (r : TypeRow) → Agree t u g r ss → pointers.parting t r ss vs ≡ pointers.parting u r ss vs
  parting-same [] vs r h = refl
  parting-same (s ∷ ss) [] r h = refl
  parting-same (s ∷ ss) (v ∷ vs) r h =
      ap (λ z. if same_step s v then z else Some (record { row = r; left = s; right = v }))
      (then-same (row_part t r s) (λ q. pointers.parting t q ss vs) (λ q. pointers.parting u q ss vs) (λ q e. parting-same ss vs q (h.2 q e)) ∙ ap (option_and_then (λ (q : TypeRow). pointers.parting u q ss vs)) h.0)

  parted : (b : Bool) (o : Option pointers.Parting) (y : pointers.Parting) → SameUnion y → ((x : pointers.Parting) → o ≡ Some x → SameUnion x) → (x : pointers.Parting) → (if b then o else Some y) ≡ Some x → SameUnion x
  parted true o y h k x e = k x e
  parted false o y h k x e = subst SameUnion (some_inj y x e) h

  parting-union : (ss vs : List Step) (r : TypeRow) → Agree t u g r ss → (x : pointers.Parting) → pointers.parting t r ss vs ≡ Some x → SameUnion x
  parting-union [] vs r h x e = absurd (cc)
  parting-union (s ∷ ss) [] r h x e = absurd (cc)
  parting-union (s ∷ ss) (v ∷ vs) r h x e =
      parted (same_step s v) (option_and_then (λ (q : TypeRow). pointers.parting t q ss vs) (row_part t r s)) (record { row = r; left = s; right = v }) h.1
      (λ y d. let i = option_and_then-some (λ (q : TypeRow). pointers.parting t q ss vs) (row_part t r s) y d in parting-union ss vs i.0 (h.2 i.0 i.1) y i.2) x e

  module _ (os : Objects) (p : Path) (k : Known t u g os p) where
    first-then : pointers.first_row t os p ≡ Some k.root
    first-then = ap (option_and_then (root_row t)) k.is_object ∙ k.is_root

    first-now : pointers.first_row u os p ≡ Some k.root
    first-now = ap (option_and_then (root_row u)) k.is_object ∙ k.is_root_now

    parts-same : (q : Path) → pointers.parts_at t os p q ≡ pointers.parts_at u os p q
    parts-same q =
        ap (λ z. if p.object == q.object then z else None)
        (ap (option_and_then (λ (r : TypeRow). pointers.parting t r p.steps q.steps)) first-then ∙ parting-same p.steps q.steps k.root k.agree
        ∙ sym (ap (option_and_then (λ (r : TypeRow). pointers.parting u r p.steps q.steps)) first-now))

    where-parted : (b : Bool) (o : Option pointers.Parting) (x : pointers.Parting) → ((y : pointers.Parting) → o ≡ Some y → SameUnion y) → (if b then o else None) ≡ Some x → SameUnion x
    where-parted true o x h e = h x e
    where-parted false o x h e = absurd (cc)

    parts-union : (q : Path) (x : pointers.Parting) → pointers.parts_at t os p q ≡ Some x → SameUnion x
    parts-union q x e =
        where-parted (p.object == q.object) (option_and_then (λ (r : TypeRow). pointers.parting t r p.steps q.steps) (pointers.first_row t os p)) x
        (λ y d. parting-union p.steps q.steps k.root k.agree y (sym (ap (option_and_then (λ (r : TypeRow). pointers.parting t r p.steps q.steps)) first-then) ∙ d)) e

    before-same : (q : Path) → option_and_then (pointers.part_before t) (pointers.parts_at t os p q) ≡ option_and_then (pointers.part_before u) (pointers.parts_at u os p q)
    before-same q =
        then-same (pointers.parts_at t os p q) (pointers.part_before t) (pointers.part_before u) (λ x e. ap (λ b. pointers.step_before b x.left x.right) (parts-union q x e))
        ∙ ap (option_and_then (pointers.part_before u)) (parts-same q)

    map-same : (o : Option pointers.Parting) (f h : pointers.Parting → Bool) → ((x : pointers.Parting) → o ≡ Some x → f x ≡ h x) → option_map f o ≡ option_map h o
    map-same None f h e = refl
    map-same (Some x) f h e = ap Some (e x refl)

    members-same : (q : Path) → pointers.in_two_members t os p q ≡ pointers.in_two_members u os p q
    members-same q =
        ap (λ o. unwrap_or o false)
        (map-same (pointers.parts_at t os p q) (λ x. pointers.is_union_kind t x.row.kind && pointers.are_members x.left x.right) (λ x. pointers.is_union_kind u x.row.kind && pointers.are_members x.left x.right)
        (λ x e. ap (λ b. b && pointers.are_members x.left x.right) (parts-union q x e))
        ∙ ap (option_map (λ (x : pointers.Parting). pointers.is_union_kind u x.row.kind && pointers.are_members x.left x.right)) (parts-same q))

    pub less-stays : (q : Path) → pointers.less u os p q ≡ pointers.less t os p q
    less-stays q =
        ap (λ o. if pointers.is_dangling os p || pointers.is_dangling os q then Err rule.Dangling
        else if pointers.same_array p q then Ok (nat_lt (spot p).index (spot q).index)
        else if p.past || q.past then Err rule.UnspecifiedCompare
        else pointers.or_unspecified o) (sym (before-same q))

    pub equal-stays : (q : Path) → pointers.equal u os p q ≡ pointers.equal t os p q
    equal-stays q =
        ap (λ b. if same_path p q then Ok true
        else if pointers.apart_from_end p q || pointers.apart_from_end q p || pointers.in_two_literals os p q || pointers.is_within p q || b then Err rule.UnspecifiedCompare
        else Ok false) (sym (members-same q))

    array-known : (v : TypeRow) → row_below t k.root (spot p).array ≡ Some v → option_and_then (λ (r : TypeRow). row_below t r (spot p).array) (pointers.first_row t os p) ≡ option_and_then (λ (r : TypeRow). row_below u r (spot p).array) (pointers.first_row u os p)
    array-known v e =
        ap (option_and_then (λ (r : TypeRow). row_below t r (spot p).array)) first-then ∙ e
        ∙ sym (ap (option_and_then (λ (r : TypeRow). row_below u r (spot p).array)) first-now ∙ row_below-grows t u g (spot p).array k.root v e)

    count-stays : pointers.count_at t os p ≡ pointers.count_at u os p
    count-stays =
        let i = option_and_then-some (λ (v : TypeRow). if (spot p).many then index_row t p.past (spot p).index v else Some v) (row_below t k.root (spot p).array) k.row k.is_row in
        ap (λ o. if (spot p).many then unwrap_or (option_map (λ (e : ℕ × TypeId). e.0) (option_and_then (λ (r : TypeRow). elements r.kind) o)) 0 else 1) (array-known i.0 i.1)

    pub add-stays : (by : ℤ) → pointers.add u os p by ≡ pointers.add t os p by
    add-stays by = ap (λ n. if pointers.is_dangling os p then Err rule.Dangling else pointers.moved p n by) (sym count-stays)

    module _ (h : Fit t os) where
      pub stays : {A : Type 0} (a : on.Access) (x : A) → steps.unless (on.broken u os p a) x ≡ steps.unless (on.broken t os p a) x
      stays a x = ap (λ r. steps.unless r x) (sym (broken-same t u g os p h k a))

      outer-found : (c : ClassId) → option_and_then (λ (o : Object). on.outer_in u o c p.steps) (slice_get os p.object) ≡ option_and_then (λ (o : Object). on.outer_in t o c p.steps) (slice_get os p.object)
      outer-found c =
          ap (option_and_then (λ (o : Object). on.outer_in u o c p.steps)) k.is_object ∙ sym (outer-same t u g os p k c)
          ∙ sym (ap (option_and_then (λ (o : Object). on.outer_in t o c p.steps)) k.is_object)

      pub outer-stays : (c : ClassId) → steps.outer u os p c ≡ steps.outer t os p c
      outer-stays c =
          stays (on.Outer c) (steps.whole_path p (unwrap_or (option_and_then (λ (o : Object). on.outer_in u o c p.steps) (slice_get os p.object)) p.steps))
          ∙ ap (λ o. steps.unless (on.broken t os p (on.Outer c)) (steps.whole_path p (unwrap_or o p.steps))) (outer-found c)

      dynamic-found : option_and_then (λ (o : Object). on.dynamic_in u o p.steps) (slice_get os p.object) ≡ option_and_then (λ (o : Object). on.dynamic_in t o p.steps) (slice_get os p.object)
      dynamic-found =
          ap (option_and_then (λ (o : Object). on.dynamic_in u o p.steps)) k.is_object ∙ sym (dynamic-same t u g os p k)
          ∙ sym (ap (option_and_then (λ (o : Object). on.dynamic_in t o p.steps)) k.is_object)

      pub dynamic-stays : steps.dynamic_class u os p ≡ steps.dynamic_class t os p
      dynamic-stays =
          stays on.Dynamic (option_map (steps.with_place p) (option_and_then (λ (o : Object). on.dynamic_in u o p.steps) (slice_get os p.object)))
          ∙ ap (λ o. steps.unless (on.broken t os p on.Dynamic) (option_map (steps.with_place p) o)) dynamic-found

      pub elem-stays : (r : TypeRow) (i : ℕ) → row_of t os p ≡ Some r → steps.to_elem u os p i ≡ steps.to_elem t os p i
      elem-stays r i e =
          stays on.Part (steps.deeper p (step.Elem i) (steps.ends_at i (row_of u os p)))
          ∙ ap (λ o. steps.unless (on.broken t os p on.Part) (steps.deeper p (step.Elem i) (steps.ends_at i o))) (row_of-grows t u g os p r e ∙ sym e)

      tree-stays : (m : ℕ) (alive : Bool) (r : TypeRow) (c : ClassId) (f : Field) → row_of t os p ≡ Some r → r.kind ≡ kind.Class c → field_of t c m ≡ Some f → is_complete t f.ty ≡ true
          → steps.member_tree u (steps.begun alive) m (row_of u os p) ≡ steps.member_tree t (steps.begun alive) m (row_of t os p)
      tree-stays m alive r c f e ek ef is =
          let x = complete-new t (steps.begun alive) f.ty is in
          let b = option_and_then-some (λ (w : ClassBody). slice_get w.fields m) (body_at t c) f ef in
          let field : field_of u c m ≡ Some f = ap (option_and_then (λ (w : ClassBody). slice_get w.fields m)) (body-grows t u g c b.0 b.1) ∙ b.2 in
          let before = member_tree-is t (steps.begun alive) m (row_of t os p) r c f x.0 e ek ef x.1 in
          let now = member_tree-is u (steps.begun alive) m (row_of u os p) r c f x.0 (row_of-grows t u g os p r e) ek field (asked-keeps (steps.new_in (steps.begun alive)) t u g (OfType f.ty) x.0 x.1) in
          sym now ∙ before

      pub activate-stays : (m : ℕ) (alive : Bool) (r : TypeRow) (c : ClassId) (f : Field) → row_of t os p ≡ Some r → r.kind ≡ kind.Class c → field_of t c m ≡ Some f → steps.activate u os p m alive ≡ steps.activate t os p m alive
      activate-stays m alive r c f e ek ef =
          stays on.Activate (put (steps.activated m (steps.member_tree u (steps.begun alive) m (row_of u os p))) os p)
          ∙ ap (λ y. steps.unless (on.broken t os p on.Activate) (put (steps.activated m y) os p)) (tree-stays m alive r c f e ek ef (member-complete t os p r c m f h e ek ef))

-- a place that is known
pub is-known : (t u : Tables) (g : Grows t u) (os : Objects) (p : Path) → Knows t os p → Known t u g os p
is-known t u g os p e = let r = is_some-true (row_of t os p) e in known t u g os p r.0 r.1

-- what depends on the tables by its rule alone
pub rule-stays : (t u : Tables) → Grows t u → (os : Objects) → Fit t os → (p : Path) → Knows t os p → {A : Type 0} (a : on.Access) (x : A) → steps.unless (on.broken u os p a) x ≡ steps.unless (on.broken t os p a) x
rule-stays t u g os h p e a x = stays t u g os p (is-known t u g os p e) h a x

pub write-stays : (t u : Tables) → Grows t u → (os : Objects) → Fit t os → (p : Path) → Knows t os p → (w : steps.Write) → NamesMember t os p w → steps.write u os p w ≡ steps.write t os p w
write-stays t u g os h p e (steps.Init v) m = rule-stays t u g os h p e on.Init (put (λ _. Leaf v) os p)
write-stays t u g os h p e (steps.Store v) m = rule-stays t u g os h p e on.Store (put (λ _. Leaf v) os p)
write-stays t u g os h p e (steps.Advance to) m = rule-stays t u g os h p e (on.Advance to) (put (steps.with_phase to) os p)
write-stays t u g os h p e (steps.Activate k alive) m = activate-stays t u g os p (known t u g os p m.row m.is_row) h k alive m.row m.class m.field m.is_row m.is_class m.is_field
write-stays t u g os h p e steps.Deactivate m = rule-stays t u g os h p e on.Activate (put steps.deactivated os p)

pub Knows-grows : (t u : Tables) → Grows t u → (os : Objects) (p : Path) → Knows t os p → Knows u os p
Knows-grows t u g os p e = let r = is_some-true (row_of t os p) e in ap is_some (row_of-grows t u g os p r.0 r.1)
