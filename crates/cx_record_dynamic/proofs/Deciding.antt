-- The class that decides at a place.
use Rattle.std.proofs.Common.{◌≡◌, ℕ, Bool, true, false, true≢false, ◌&&◌, ◌||◌, not, List, [], ◌∷◌, Option, None, Some, Ok, Err, refl, sym, ap, subst, ◌∙◌, slice_get}
use Rattle.std.specs.Prelude.{option_map, option_and_then, is_some}
use Rattle.std.specs.List.{list_any, find}
use Rattle.cx_base.specs.declared.rule.Rule.{Rule}
use Rattle.cx_base.specs.declared.rule.Rule.TheVariants as rule
use Rattle.cx_type_defs.proofs.Lists.{some_inj}
use Rattle.cx_type_defs.specs.declared.ids.Step.{Step}
use Rattle.cx_type_defs.specs.declared.ids.ClassId.{ClassId}
use Rattle.cx_type_defs.specs.declared.kind.TypeRow.{TypeRow}
use Rattle.cx_type_defs.specs.declared.kind.TypeKind.{TypeKind}
use Rattle.cx_type_defs.specs.declared.kind.TypeKind.TheVariants as kind
use Rattle.cx_type_defs.specs.Tables.{Tables}
use Rattle.cx_state.specs.Objects.{Path, Object, Objects, below}
use Rattle.cx_state.specs.Places.{row_below, root_row, row_of}
use Rattle.cx_state.specs.Conditions as on
use Rattle.cx_state.specs.Steps as steps
use Rattle.cx_state.specs.Forms.{Knows}
use Rattle.cx_state.proofs.Known.{dynamic_class-knows}
use Rattle.cx_state.proofs.KnownTypes.{dynamic_class-some}
use Rattle.cx_store.specs.Stores.{IsOf, IsClassAt, Decides, is_class_kind}
use Rattle.cx_shapes.specs.Forms.{Form, steps_at}
use Rattle.cx_shapes.specs.Contents.{tree_of}
use Rattle.cx_records.specs.declared.place.Place.{Place}
use Rattle.cx_records.specs.declared.place.End.TheVariants as end
use Rattle.cx_records.specs.declared.record.Record.{Record}
use Rattle.cx_records.specs.declared.check.Condition.{Condition}
use Rattle.cx_records.specs.Records.{path_in, cells_of, record_form, forms_in, object_in, objects_of}
use Rattle.cx_records.specs.Fits.{Fits}
use Rattle.cx_records.specs.Checks.{first, IsCondition}
use Rattle.cx_records.proofs.Rules.{the_object, path_is, rules_are, Test, NoTest, lifeless_is, inactive_is, opaque_or}
use Rattle.cx_records.proofs.Checking.{numbered}
use Rattle.cx_records.proofs.Reading.{not_past}
use Rattle.cx_record_dynamic.specs.declared.chain.Found.{Found}
use Rattle.cx_record_dynamic.specs.declared.chain.Chain.{Chain}
use Rattle.cx_record_dynamic.specs.declared.decide.Decider.{Decider}
use Rattle.cx_record_dynamic.specs.Chains.{decider, IsFound, IsChain, class_at, class_found, IsDecider, IsDeciderAt}

-- the class of what decides

kind_decides : (f : Form) (us : List Step) (n : ℕ) (k : TypeKind) → steps_at f n ≡ Some us → IsDecider f (option_map (λ c. (c, us)) (on.class_of k)) (class_at n k)
kind_decides f us n (kind.Class c) e = (refl, e)
kind_decides f us n kind.Void e = tt
kind_decides f us n kind.Nullptr e = tt
kind_decides f us n (kind.Int _) e = tt
kind_decides f us n (kind.Enum _) e = tt
kind_decides f us n (kind.Pointer _) e = tt
kind_decides f us n (kind.Reference _) e = tt
kind_decides f us n (kind.Array _ _) e = tt

pub found_decides : (t : Tables) (o : Object) (root : TypeRow) (f : Form) (m : Option (List Step)) (x : Option Found) → root_row t o ≡ Some root → IsFound t f root m x
    → IsDecider f (option_and_then (λ us. option_map (λ c. (c, us)) (on.class_below t o us)) m) (class_found x)
found_decides t o root f None None e h = tt
found_decides t o root f (Some us) (Some x) e h =
    let c : on.class_below t o us ≡ on.class_of x.row.kind =
    ap (option_and_then (λ (r : TypeRow). option_and_then (λ (q : TypeRow). on.class_of q.kind) (row_below t r us))) e ∙ ap (option_and_then (λ (q : TypeRow). on.class_of q.kind)) h.1 in
    subst (λ z. IsDecider f (option_map (λ c. (c, us)) z) (class_found (Some x))) (sym c) (kind_decides f us x.number x.row.kind h.0)
found_decides t o root f None (Some x) e h = absurd h
found_decides t o root f (Some us) None e h = absurd h

same_some : (f : Form) (m : Option (ClassId × List Step)) (d : Option Decider) → IsDecider f m d → is_some d ≡ is_some m
same_some f None None h = refl
same_some f (Some x) (Some d) h = refl
same_some f None (Some d) h = absurd h
same_some f (Some x) None h = absurd h

pub decider_here_is : (t : Tables) (rs : List Record) (live : ℕ) (p : Place) → Fits t rs live → Knows t (objects_of rs) (path_in (forms_in rs) p) → (r : Record) → slice_get rs p.object ≡ Some r → (row : TypeRow) → root_row t (object_in (forms_in rs) r) ≡ Some row
    → (opaque : Bool) → opaque ≡ on.is_opaque r.birth → (k : Chain) → ((ss : List Step) → steps_at (record_form r) p.part ≡ Some ss → IsChain t (record_form r) row (Some (tree_of (record_form r) (cells_of (forms_in rs) r.contents) 0)) opaque ss k)
    → (d : Option Decider) → d ≡ class_found k.found → IsDeciderAt t rs p d
decider_here_is t rs live p f n r is row root opaque o k h d e = λ at s g.
    let w = numbered t rs live p f n in
    let one : w.rec ≡ r = some_inj w.rec r (sym w.is_rec ∙ is) in
    let are : steps_at (record_form r) p.part ≡ Some w.steps = ap (λ (z : Record). steps_at (record_form z) p.part) (sym one) ∙ w.are_steps in
    let c = h w.steps are in
    let b = object_in (forms_in rs) r in
    let i : IsFound t (record_form r) row (find (on.decides b) (on.enclosing w.steps)) k.found = subst (λ z. IsFound t (record_form r) row (decider z (Some b.tree) w.steps) k.found) o c.is_found in
    let x : IsDecider (record_form r) (on.dynamic_in t b w.steps) d = subst (IsDecider (record_form r) (on.dynamic_in t b w.steps)) (sym e) (found_decides t b row (record_form r) (find (on.decides b) (on.enclosing w.steps)) k.found root i) in
    let y : IsDecider (record_form r) (on.dynamic_in t b (path_in (forms_in rs) p).steps) d = subst (λ (q : Path). IsDecider (record_form r) (on.dynamic_in t b q.steps) d) (sym (path_is rs p r w.steps is at are)) x in
    subst (λ (z : Record). IsDecider (record_form z) (on.dynamic_in t (object_in (forms_in rs) z) (path_in (forms_in rs) p).steps) d) (some_inj r s (sym is ∙ g)) y

-- the rules

or_more : (a b c : Bool) → (a || (b || c)) ≡ ((a || b) || c)
or_more true b c = refl
or_more false b c = refl

pub dynamic_rules : (t : Tables) (rs : List Record) (p : Place) (c : Condition) (d : Option Decider) (missing undecided late : Bool) → (k : IsCondition rs p c) → IsDeciderAt t rs p d → missing ≡ not (is_some d) → undecided ≡ (not c.opaque && missing) → late ≡ (c.lifeless || undecided)
    → first ((c.released, rule.Dangling) ∷ (c.past, rule.PastEnd) ∷ (c.inactive, rule.InactiveMember) ∷ (late, rule.OutOfLifetime) ∷ []) ≡ on.broken t (objects_of rs) (path_in (forms_in rs) p) on.Dynamic
dynamic_rules t rs p c d missing undecided late k i m u l = rules_are t rs p c on.Dynamic ((c.inactive, rule.InactiveMember) ∷ (late, rule.OutOfLifetime) ∷ []) (rule.InactiveMember ∷ rule.OutOfLifetime ∷ []) k refl
    (λ at. Test (inactive_is rs p c k at) (Test (is_late at) NoTest))
  where
    is_late : p.end ≡ end.At → late ≡ on.holds t (object_in (forms_in rs) k.stands.rec) (path_in (forms_in rs) p) on.Dynamic rule.OutOfLifetime
    is_late at =
        let o = object_in (forms_in rs) k.stands.rec in
        let ss = (path_in (forms_in rs) p).steps in
        let found : missing ≡ not (is_some (on.dynamic_in t o ss)) = m ∙ ap not (same_some (record_form k.stands.rec) (on.dynamic_in t o ss) d (i at k.stands.rec k.stands.is_rec)) in
        let dead = list_any (λ w. on.is_dead w.0) (on.on_way o.tree ss) in
        let here = on.passes on.is_dead (below o.tree ss) in
        let none = not (is_some (on.dynamic_in t o ss)) in
        l ∙ ap (λ b. b || undecided) (lifeless_is rs p c k at) ∙ ap (λ b. not (on.is_opaque o.birth) && (dead || here) || b) (u ∙ ap (λ b. not b && missing) k.is_opaque ∙ ap (λ b. not (on.is_opaque o.birth) && b) found)
        ∙ opaque_or (not (on.is_opaque o.birth)) (dead || here) none ∙ ap (λ b. not (on.is_opaque o.birth) && b) (sym (or_more dead here none))

-- what is answered

pub dynamic_refused : (t : Tables) (rs : List Record) (p : Place) (r : Rule) → on.broken t (objects_of rs) (path_in (forms_in rs) p) on.Dynamic ≡ Some r → Decides t (objects_of rs) (path_in (forms_in rs)) p (Err r)
dynamic_refused t rs p r b = let os = objects_of rs in let q = path_in (forms_in rs) p in sym (ap (λ o. steps.unless o (option_map (steps.with_place q) (option_and_then (λ (o : Object). on.dynamic_in t o q.steps) (slice_get os q.object)))) b)

module _ (t : Tables) (rs : List Record) (p : Place) (r : Record) (is : slice_get rs p.object ≡ Some r) (d : Option Decider) (i : IsDeciderAt t rs p d) (b : on.broken t (objects_of rs) (path_in (forms_in rs) p) on.Dynamic ≡ None) where
  abbrev os : Objects
  os = objects_of rs

  abbrev q : Path
  q = path_in (forms_in rs) p

  abbrev o : Object
  o = object_in (forms_in rs) r

  at : p.end ≡ end.At
  at = not_past t rs p on.Dynamic (rule.InactiveMember ∷ rule.OutOfLifetime ∷ []) r is refl b

  answer_is : steps.dynamic_class t os q ≡ Ok (option_map (steps.with_place q) (on.dynamic_in t o q.steps))
  answer_is =
      ap (λ x. steps.unless x (option_map (steps.with_place q) (option_and_then (λ (o : Object). on.dynamic_in t o q.steps) (slice_get os q.object)))) b
      ∙ ap (λ x. Ok (option_map (steps.with_place q) (option_and_then (λ (o : Object). on.dynamic_in t o q.steps) x))) (the_object rs p r is)

  pub decides_found : (x : Decider) (z : Place) → d ≡ Some x → z.object ≡ p.object → z.part ≡ x.number → z.end ≡ end.At → Decides t os (path_in (forms_in rs)) p (Ok (x.class, z))
  decides_found x z e same part end = go (on.dynamic_in t o q.steps) (subst (IsDecider (record_form r) (on.dynamic_in t o q.steps)) e (i at r is)) answer_is
    where
      go : (m : Option (ClassId × List Step)) → IsDecider (record_form r) m (Some x) → steps.dynamic_class t os q ≡ Ok (option_map (steps.with_place q) m) → Decides t os (path_in (forms_in rs)) p (Ok (x.class, z))
      go None h a = absurd h
      go (Some y) h a =
          let path : path_in (forms_in rs) z ≡ record { object = z.object; steps = y.1; past = false } = path_is rs z r y.1 (ap (slice_get rs) same ∙ is) end (ap (steps_at (record_form r)) part ∙ h.1) in
          ap (λ w. Ok (Some (x.class, w))) (path ∙ ap (λ n. record { object = n; steps = y.1; past = false }) same) ∙ ap (λ c. Ok (Some (c, steps.whole_path q y.1))) (sym h.0) ∙ sym a

  pub decides_never_none : IsClassAt t os q → d ≡ None → ⊥
  decides_never_none k e = go (on.dynamic_in t o q.steps) (subst (IsDecider (record_form r) (on.dynamic_in t o q.steps)) e (i at r is)) answer_is
    where
      class_kind : (k : TypeKind) → is_class_kind t k ≡ true → (c : ClassId) × (on.class_of k ≡ Some c)
      class_kind (kind.Class c) e = (c, refl)
      class_kind kind.Void e = absurd (cc)
      class_kind kind.Nullptr e = absurd (cc)
      class_kind (kind.Int _) e = absurd (cc)
      class_kind (kind.Enum _) e = absurd (cc)
      class_kind (kind.Pointer _) e = absurd (cc)
      class_kind (kind.Reference _) e = absurd (cc)
      class_kind (kind.Array _ _) e = absurd (cc)

      of_row : (w : Option TypeRow) → IsOf (λ r. is_class_kind t r.kind ≡ true) w → (c : ClassId) × (option_and_then (λ (r : TypeRow). on.class_of r.kind) w ≡ Some c)
      of_row None h = absurd h
      of_row (Some r) h = class_kind r.kind h

      go : (m : Option (ClassId × List Step)) → IsDecider (record_form r) m None → steps.dynamic_class t os q ≡ Ok (option_map (steps.with_place q) m) → ⊥
      go None h a = let c = of_row (row_of t os q) k in true≢false (sym (dynamic_class-some t os q c.0 None c.1 a))
      go (Some y) h a = h

  pub decides_known : (x : Decider) (z : Place) → Decides t os (path_in (forms_in rs)) p (Ok (x.class, z)) → Knows t os (path_in (forms_in rs) z)
  decides_known x z e = dynamic_class-knows t os q (path_in (forms_in rs) z) x.class (sym e)
