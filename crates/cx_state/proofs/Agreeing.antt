-- Where the types grow, what is asked of known places among objects that fit is answered as before.
use Rattle.std.proofs.Common.{◌≡◌, ℕ, Bool, false, List, [], ◌∷◌, map, reverse, Option, None, Some, refl, sym, ap, subst, ◌∙◌, slice_get, if◌then◌else◌}
use Rattle.std.specs.Prelude.{option_map, option_and_then, unwrap_or, is_some, nat_lt, ◌==◌, ◌||◌, ◌&&◌, not}
use Rattle.std.specs.List.{list_any, find, AllByRecursion}
use Rattle.cx_base.specs.declared.rule.Rule.{Rule}
use Rattle.cx_base.specs.declared.rule.Rule.TheVariants as rule
use Rattle.cx_type_defs.specs.declared.ids.Step.{Step}
use Rattle.cx_type_defs.specs.declared.ids.Step.TheVariants as step
use Rattle.cx_type_defs.specs.declared.ids.ClassId.{ClassId}
use Rattle.cx_type_defs.specs.declared.kind.TypeRow.{TypeRow}
use Rattle.cx_type_defs.specs.declared.kind.TypeKind.{TypeKind}
use Rattle.cx_type_defs.specs.declared.kind.TypeKind.TheVariants as kind
use Rattle.cx_type_defs.specs.declared.decl.ClassBody.{ClassBody}
use Rattle.cx_type_defs.specs.declared.decl.ClassDecl.{ClassDecl}
use Rattle.cx_type_defs.specs.Tables.{Tables, Grows, ClassGrows, body_at, base_of, field_of}
use Rattle.cx_type_defs.proofs.Lists.{some_inj, option_and_then-some, option_map-some, Along-at}
use Rattle.cx_type_defs.proofs.Looking.{row-grows}
use Rattle.cx_state.specs.Objects.{Path, Tree, part, below, Object, Objects}
use Rattle.cx_state.specs.Places.{element, base_row, row_part, row_below, root_row, Spot, under, spot, spot_of, spot_row, index_row, row_of}
use Rattle.cx_state.specs.Conditions as on
use Rattle.cx_state.specs.Pointers.{is_union_kind, is_union_key}
use Rattle.cx_state.specs.Forms.{TreeFits, Fit}
use Rattle.cx_state.proofs.Fitting.{TreeFits-here, TreeFits-part}
use Rattle.cx_state.proofs.NewTrees.{where-true}
use Rattle.cx_state.proofs.Passing.{AllByRecursion-append, AllByRecursion-map, AllByRecursion-with, AllByRecursion-reverse, AllByRecursion-always, AllByRecursion-if, find-same, find-in, then-same}
use Rattle.cx_state.proofs.Growing.{part-typed, row_part-grows, root_row-grows}

module _ (t u : Tables) (g : Grows t u) where
  -- along these steps both tables tell the same types, and where a union is
  abbrev pub Agree : TypeRow → List Step → Type 0
  Agree r [] = Unit {0}
  Agree r (s ∷ ss) = (row_part t r s ≡ row_part u r s) × (is_union_kind t r.kind ≡ is_union_kind u r.kind) × ((q : TypeRow) → row_part t r s ≡ Some q → Agree q ss)

  union-same : (c : ClassId) (b : ClassBody) → body_at t c ≡ Some b → is_union_kind t (kind.Class c) ≡ is_union_kind u (kind.Class c)
  union-same c b e =
      let i = option_and_then-some (λ (d : ClassDecl). d.body) (slice_get t.classes c.0) b e in
      let a = Along-at ClassGrows t.classes u.classes g.class_list c.0 i.0 i.1 in
      ap (λ o. unwrap_or (option_map (λ (d : ClassDecl). is_union_key d.key) o) false) i.1 ∙ ap is_union_key (sym a.2.same_key) ∙ sym (ap (λ o. unwrap_or (option_map (λ (d : ClassDecl). is_union_key d.key) o) false) a.1)

  base-body : (c : ClassId) (i : ℕ) (q : TypeRow) → option_map base_row (base_of t c i) ≡ Some q → (b : ClassBody) × (body_at t c ≡ Some b)
  base-body c i q e = let a = option_map-some base_row (base_of t c i) q e in let b = option_and_then-some (λ (w : ClassBody). slice_get w.bases i) (body_at t c) a.0 a.1 in (b.0, b.1)

  field-body : (c : ClassId) (i : ℕ) (k : Bool) (q : TypeRow) → row_part t (record { kind = kind.Class c; konst = k }) (step.Field i) ≡ Some q → (b : ClassBody) × (body_at t c ≡ Some b)
  field-body c i k q e = let a = option_and_then-some (λ f. slice_get t.rows f.ty.0) (field_of t c i) q e in let b = option_and_then-some (λ (w : ClassBody). slice_get w.fields i) (body_at t c) a.0 a.1 in (b.0, b.1)

  kind-union : (k : Bool) (w : TypeKind) (s : Step) (q : TypeRow) → row_part t (record { kind = w; konst = k }) s ≡ Some q → is_union_kind t w ≡ is_union_kind u w
  kind-union k (kind.Class c) (step.Base i) q e = let b = base-body c i q e in union-same c b.0 b.1
  kind-union k (kind.Class c) (step.Field i) q e = let b = field-body c i k q e in union-same c b.0 b.1
  kind-union k (kind.Class c) (step.Elem i) q e = absurd (cc)
  kind-union k kind.Void s q e = refl
  kind-union k kind.Nullptr s q e = refl
  kind-union k (kind.Int _) s q e = refl
  kind-union k (kind.Enum _) s q e = refl
  kind-union k (kind.Pointer _) s q e = refl
  kind-union k (kind.Reference _) s q e = refl
  kind-union k (kind.Array _ _) s q e = refl

  -- a step to a part that has a type, and the steps from there
  agree-step : (r : TypeRow) (s : Step) (ss : List Step) (q : TypeRow) → row_part t r s ≡ Some q → Agree q ss → Agree r (s ∷ ss)
  agree-step r s ss q e h = (e ∙ sym (row_part-grows t u g r s q e), kind-union r.konst r.kind s q e, λ w d. subst (λ z. Agree z ss) (some_inj q w (sym e ∙ d)) h)

  -- the last step to a place in an array, or past its end
  agree-last : (past : Bool) (i : ℕ) (k : Bool) (w : TypeKind) (q : TypeRow) → index_row t past i (record { kind = w; konst = k }) ≡ Some q → Agree (record { kind = w; konst = k }) (step.Elem i ∷ [])
  agree-last past i k (kind.Array to n) q e =
      let a = where-true (if past then i == n else nat_lt i n) (option_map (element k) (slice_get t.rows to.0)) q e in
      let v = option_map-some (element k) (slice_get t.rows to.0) q a.1 in
      let same : slice_get t.rows to.0 ≡ slice_get u.rows to.0 = v.1 ∙ sym (row-grows t u g to.0 v.0 v.1) in
      (ap (λ o. if nat_lt i n then option_map (element k) o else None) same, refl, λ z d. tt)
  agree-last past i k kind.Void q e = absurd (cc)
  agree-last past i k kind.Nullptr q e = absurd (cc)
  agree-last past i k (kind.Int _) q e = absurd (cc)
  agree-last past i k (kind.Enum _) q e = absurd (cc)
  agree-last past i k (kind.Pointer _) q e = absurd (cc)
  agree-last past i k (kind.Reference _) q e = absurd (cc)
  agree-last past i k (kind.Class _) q e = absurd (cc)

  under-known : (past : Bool) (s : Step) (x : Spot) (r q : TypeRow) → spot_row t past (under s x) r ≡ Some q → (w : TypeRow) × (row_part t r s ≡ Some w) × (spot_row t past x w ≡ Some q)
  under-known past s x r q e =
      let i = option_and_then-some (λ (v : TypeRow). if x.many then index_row t past x.index v else Some v) (row_below t r (s ∷ x.array)) q e in
      let j = option_and_then-some (λ (v : TypeRow). row_below t v x.array) (row_part t r s) i.0 i.1 in
      (j.0, j.1, ap (option_and_then (λ (v : TypeRow). if x.many then index_row t past x.index v else Some v)) j.2 ∙ i.2)

  pub spot-agrees : (past : Bool) (ss : List Step) (r q : TypeRow) → spot_row t past (spot_of past ss) r ≡ Some q → Agree r ss
  spot-agrees past [] r q e = tt
  spot-agrees past (step.Elem i ∷ []) r q e = agree-last past i r.konst r.kind q e
  spot-agrees past (step.Elem i ∷ v ∷ vs) r q e = let w = under-known past (step.Elem i) (spot_of past (v ∷ vs)) r q e in agree-step r (step.Elem i) (v ∷ vs) w.0 w.1 (spot-agrees past (v ∷ vs) w.0 q w.2)
  spot-agrees past (step.Base i ∷ ss) r q e = let w = under-known past (step.Base i) (spot_of past ss) r q e in agree-step r (step.Base i) ss w.0 w.1 (spot-agrees past ss w.0 q w.2)
  spot-agrees past (step.Field i ∷ ss) r q e = let w = under-known past (step.Field i) (spot_of past ss) r q e in agree-step r (step.Field i) ss w.0 w.1 (spot-agrees past ss w.0 q w.2)

  -- a known place's object, the type of the whole, and that the steps agree
  pub record Known (os : Objects) (p : Path) : Type 0 where
    pub object : Object
    pub is_object : slice_get os p.object ≡ Some object
    pub root : TypeRow
    pub is_root : root_row t object ≡ Some root
    pub is_root_now : root_row u object ≡ Some root
    pub agree : Agree root p.steps
    pub row : TypeRow
    pub is_row : spot_row t p.past (spot p) root ≡ Some row

  pub known : (os : Objects) (p : Path) (r : TypeRow) → row_of t os p ≡ Some r → Known os p
  known os p r e =
      let i = option_and_then-some (λ (o : Object). option_and_then (spot_row t p.past (spot p)) (root_row t o)) (slice_get os p.object) r e in
      let j = option_and_then-some (spot_row t p.past (spot p)) (root_row t i.0) r i.2 in
      record { object = i.0; is_object = i.1; root = j.0; is_root = j.1; is_root_now = root_row-grows t u g i.0 j.0 j.1; agree = spot-agrees p.past p.steps j.0 r j.2; row = r; is_row = j.2 }

  -- the types on the way

  abbrev pub SameBelow : TypeRow → List Step → Type 0
  SameBelow r ss = row_below t r ss ≡ row_below u r ss

  below-step : (r : TypeRow) (s : Step) (ss : List Step) → row_part t r s ≡ row_part u r s → ((q : TypeRow) → row_part t r s ≡ Some q → SameBelow q ss) → SameBelow r (s ∷ ss)
  below-step r s ss e h = then-same (row_part t r s) (λ q. row_below t q ss) (λ q. row_below u q ss) h ∙ ap (option_and_then (λ (q : TypeRow). row_below u q ss)) e

  pub agree-below : (ss : List Step) (r : TypeRow) → Agree r ss → SameBelow r ss
  agree-below [] r h = refl
  agree-below (s ∷ ss) r h = below-step r s ss h.0 (λ q e. agree-below ss q (h.2 q e))

  where-known : (o : Option TypeRow) (xs : List (List Step)) → ((q : TypeRow) → o ≡ Some q → AllByRecursion (SameBelow q) xs) → AllByRecursion (λ us. (q : TypeRow) → o ≡ Some q → SameBelow q us) xs
  where-known None xs h = AllByRecursion-always (λ us. (q : TypeRow) → None ≡ Some q → SameBelow q us) (λ us q e. absurd (cc)) xs
  where-known (Some w) xs h = AllByRecursion-with (SameBelow w) (λ us. (q : TypeRow) → Some w ≡ Some q → SameBelow q us) (λ us k q e. subst (λ z. SameBelow z us) (some_inj w q e) k) xs (h w refl)

  pub agree-enclosing : (ss : List Step) (r : TypeRow) → Agree r ss → AllByRecursion (SameBelow r) (on.enclosing ss)
  agree-enclosing [] r h = (refl, tt)
  agree-enclosing (s ∷ ss) r h =
      AllByRecursion-append (SameBelow r) (if on.all_bases (s ∷ ss) then [] ∷ [] else []) (map (λ us. s ∷ us) (on.enclosing ss)) (AllByRecursion-if (SameBelow r) (on.all_bases (s ∷ ss)) ([] ∷ []) (refl, tt))
      (AllByRecursion-map (SameBelow r) (λ us. s ∷ us) (on.enclosing ss)
      (AllByRecursion-with (λ us. (q : TypeRow) → row_part t r s ≡ Some q → SameBelow q us) (λ us. SameBelow r (s ∷ us)) (λ us k. below-step r s us h.0 k) (on.enclosing ss)
      (where-known (row_part t r s) (on.enclosing ss) (λ q e. agree-enclosing ss q (h.2 q e)))))

  -- the classes on the way

  abbrev pub SameClass : Object → List Step → Type 0
  SameClass o us = on.class_below t o us ≡ on.class_below u o us

  class-same : (o : Object) (r : TypeRow) → root_row t o ≡ Some r → root_row u o ≡ Some r → (us : List Step) → SameBelow r us → SameClass o us
  class-same o r e f us h =
      ap (option_and_then (λ (z : TypeRow). option_and_then (λ (q : TypeRow). on.class_of q.kind) (row_below t z us))) e
      ∙ ap (option_and_then (λ (q : TypeRow). on.class_of q.kind)) h
      ∙ sym (ap (option_and_then (λ (z : TypeRow). option_and_then (λ (q : TypeRow). on.class_of q.kind) (row_below u z us))) f)

  pub classes-same : (os : Objects) (p : Path) (k : Known os p) → AllByRecursion (SameClass k.object) (on.enclosing p.steps)
  classes-same os p k = AllByRecursion-with (SameBelow k.root) (SameClass k.object) (class-same k.object k.root k.is_root k.is_root_now) (on.enclosing p.steps) (agree-enclosing p.steps k.root k.agree)

  pub outer-same : (os : Objects) (p : Path) (k : Known os p) (c : ClassId) → on.outer_in t k.object c p.steps ≡ on.outer_in u k.object c p.steps
  outer-same os p k c =
      find-same (λ us. list_any (λ (d : ClassId). d.0 == c.0) (on.listed (on.class_below t k.object us))) (λ us. list_any (λ (d : ClassId). d.0 == c.0) (on.listed (on.class_below u k.object us))) (reverse (on.enclosing p.steps))
      (AllByRecursion-reverse (λ us. list_any (λ (d : ClassId). d.0 == c.0) (on.listed (on.class_below t k.object us)) ≡ list_any (λ (d : ClassId). d.0 == c.0) (on.listed (on.class_below u k.object us))) (on.enclosing p.steps)
      (AllByRecursion-with (SameClass k.object) (λ us. list_any (λ (d : ClassId). d.0 == c.0) (on.listed (on.class_below t k.object us)) ≡ list_any (λ (d : ClassId). d.0 == c.0) (on.listed (on.class_below u k.object us)))
      (λ us e. ap (λ o. list_any (λ (d : ClassId). d.0 == c.0) (on.listed o)) e) (on.enclosing p.steps) (classes-same os p k)))

  pub dynamic-same : (os : Objects) (p : Path) (k : Known os p) → on.dynamic_in t k.object p.steps ≡ on.dynamic_in u k.object p.steps
  dynamic-same os p k =
      then-same (find (on.decides k.object) (on.enclosing p.steps)) (λ us. option_map (λ c. (c, us)) (on.class_below t k.object us)) (λ us. option_map (λ c. (c, us)) (on.class_below u k.object us))
      (λ us e. ap (option_map (λ c. (c, us))) (find-in (SameClass k.object) (on.decides k.object) (on.enclosing p.steps) (classes-same os p k) us e))

  -- what is sealed

  sealed-none : (f : TypeRow → Option Bool) → ((q : TypeRow) → f q ≡ None) → (o : Option TypeRow) → unwrap_or (option_and_then f o) false ≡ false
  sealed-none f h None = refl
  sealed-none f h (Some q) = ap (λ z. unwrap_or z false) (h q)

  sealed-part : (os : Objects) (r : TypeRow) (x : Tree) (s : Step) (ss : List Step) (o : Option Tree) → part x s ≡ o → TreeFits t os r x → ((q : TypeRow) (y : Tree) → row_part t r s ≡ Some q → part x s ≡ Some y → on.sealed t q y ss ≡ on.sealed u q y ss)
      → unwrap_or (option_and_then (λ (q : TypeRow). option_map (λ y. on.sealed t q y ss) o) (row_part t r s)) false ≡ unwrap_or (option_and_then (λ (q : TypeRow). option_map (λ y. on.sealed u q y ss) o) (row_part u r s)) false
  sealed-part os r x s ss None e h g = sealed-none (λ q. None) (λ q. refl) (row_part t r s) ∙ sym (sealed-none (λ q. None) (λ q. refl) (row_part u r s))
  sealed-part os r x s ss (Some y) e h k =
      let w = part-typed t os r x (TreeFits-here t os r x h) s y e in
      ap (λ o. unwrap_or (option_and_then (λ (q : TypeRow). option_map (λ y. on.sealed t q y ss) (Some y)) o) false) w.1
      ∙ k w.0 y w.1 e
      ∙ sym (ap (λ o. unwrap_or (option_and_then (λ (q : TypeRow). option_map (λ y. on.sealed u q y ss) (Some y)) o) false) (row_part-grows t u g r s w.0 w.1))

  pub sealed-same : (os : Objects) (ss : List Step) (r : TypeRow) (x : Tree) → TreeFits t os r x → on.sealed t r x ss ≡ on.sealed u r x ss
  sealed-same os [] r x h = refl
  sealed-same os (s ∷ ss) r x h = ap (λ b. on.is_sealed r x || b) (sealed-part os r x s ss (part x s) refl h (λ q y a b. sealed-same os ss q y (TreeFits-part t os r x h s q y a b)))

  -- the conditions, and so which rule is broken

  const-same : (o : Object) (p : Path) (r : TypeRow) → root_row t o ≡ Some r → root_row u o ≡ Some r → on.sealed t r o.tree p.steps ≡ on.sealed u r o.tree p.steps
      → list_any (λ (r : TypeRow). on.sealed t r o.tree p.steps) (on.listed (root_row t o)) ≡ list_any (λ (r : TypeRow). on.sealed u r o.tree p.steps) (on.listed (root_row u o))
  const-same o p r e f h =
      ap (λ z. list_any (λ (r : TypeRow). on.sealed t r o.tree p.steps) (on.listed z)) e
      ∙ ap (λ b. b || false) h
      ∙ sym (ap (λ z. list_any (λ (r : TypeRow). on.sealed u r o.tree p.steps) (on.listed z)) f)

  lifetime-same : (o : Object) (ss : List Step) → on.dynamic_in t o ss ≡ on.dynamic_in u o ss → (a : on.Access) → on.is_out_of_lifetime t o a ss ≡ on.is_out_of_lifetime u o a ss
  lifetime-same o ss e on.Dynamic = ap (λ d. on.passes on.is_dead (below o.tree ss) || not (is_some d)) e
  lifetime-same o ss e a = refl

  lacks-same : (o : Object) (ss : List Step) → ((c : ClassId) → on.outer_in t o c ss ≡ on.outer_in u o c ss) → (a : on.Access) → on.lacks_outer t o a ss ≡ on.lacks_outer u o a ss
  lacks-same o ss e (on.Outer c) = ap (λ d. not (is_some d)) (e c)
  lacks-same o ss e a = refl

  module _ (os : Objects) (p : Path) (h : Fit t os) (k : Known os p) where
    fitting : TreeFits t os k.root k.object.tree
    fitting = let w = h p.object k.object k.is_object in subst (λ (r : TypeRow). TreeFits t os r k.object.tree) (some_inj w.row k.root (sym w.is_row ∙ k.is_root)) w.parts

    holds-same : (a : on.Access) (r : Rule) → on.holds t k.object p a r ≡ on.holds u k.object p a r
    holds-same a rule.ConstWrite = const-same k.object p k.root k.is_root k.is_root_now (sealed-same os p.steps k.root k.object.tree fitting)
    holds-same a rule.OutOfLifetime = ap (λ b. not (on.is_opaque k.object.birth) && (list_any (λ w. on.is_dead w.0) (on.on_way k.object.tree p.steps) || b)) (lifetime-same k.object p.steps (dynamic-same os p k) a)
    holds-same a rule.DownCast = lacks-same k.object p.steps (outer-same os p k) a
    holds-same a r = refl

    pub broken-same : (a : on.Access) → on.broken t os p a ≡ on.broken u os p a
    broken-same a =
        ap (option_and_then (λ (o : Object). find (on.holds t o p a) (on.order a))) k.is_object
        ∙ find-same (on.holds t k.object p a) (on.holds u k.object p a) (on.order a) (AllByRecursion-always (λ r. on.holds t k.object p a r ≡ on.holds u k.object p a r) (holds-same a) (on.order a))
        ∙ sym (ap (option_and_then (λ (o : Object). find (on.holds u o p a) (on.order a))) k.is_object)
