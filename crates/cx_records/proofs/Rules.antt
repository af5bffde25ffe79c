-- The rule that is found is the one that an access breaks.
use Rattle.std.proofs.Common.{◌≡◌, ◌+◌, Bool, true, false, ◌&&◌, ◌||◌, not, List, [], ◌∷◌, Option, None, Some, ◌⊎◌, inl, inr, refl, sym, ap, subst, ◌∙◌, slice_get, arith, if◌then◌else◌}
use Rattle.std.specs.Prelude.{option_map, option_and_then, unwrap_or}
use Rattle.std.specs.List.{list_any, find}
use Rattle.cx_base.specs.declared.rule.Rule.{Rule}
use Rattle.cx_base.specs.declared.rule.Rule.TheVariants as rule
use Rattle.cx_type_defs.specs.declared.ids.Step.{Step}
use Rattle.cx_type_defs.specs.Tables.{Tables}
use Rattle.cx_state.specs.declared.kind.Phase.{Phase}
use Rattle.cx_state.specs.Objects.{Path, Tree, Object, Objects, below}
use Rattle.cx_state.specs.Conditions as on
use Rattle.cx_shapes.specs.Forms.{Form, steps_at}
use Rattle.cx_shapes.specs.Contents.{tree_of, is_dead_class}
use Rattle.cx_shapes.proofs.Walking.{below_tree, way_stops, way_dies, dead_is}
use Rattle.cx_records.specs.declared.place.Place.{Place}
use Rattle.cx_records.specs.declared.place.End.{End}
use Rattle.cx_records.specs.declared.place.End.TheVariants as end
use Rattle.cx_records.specs.declared.record.Record.{Record}
use Rattle.cx_records.specs.declared.check.Condition.{Condition}
use Rattle.cx_records.specs.Records.{steps_of, is_past, nowhere, marked, path_in, record_form, forms_in, object_in, objects_of}
use Rattle.cx_records.specs.Checks.{first, cells_in, StandsAt, IsCondition}
use Rattle.cx_records.proofs.Placed.{get_map}

-- what stands at a place that isn't past an end
pub record Here (os : Objects) (p : Path) (o : Object) (g : Form) (x : Tree) (there dead : Bool) : Type 0 where
  pub is_object : slice_get os p.object ≡ Some o
  pub not_past : p.past ≡ false
  pub stands : below o.tree p.steps ≡ (if there then Some x else None)
  pub stops : list_any on.stops (on.on_way o.tree p.steps) ≡ not there
  pub dies : list_any (λ w. on.is_dead w.0) (on.on_way o.tree p.steps) ≡ dead

pub the_object : (rs : List Record) (p : Place) (r : Record) → slice_get rs p.object ≡ Some r → slice_get (objects_of rs) p.object ≡ Some (object_in (forms_in rs) r)
the_object rs p r e = get_map (object_in (forms_in rs)) rs p.object ∙ ap (option_map (object_in (forms_in rs))) e

pub path_is : (rs : List Record) (p : Place) (r : Record) (ss : List Step) → slice_get rs p.object ≡ Some r → p.end ≡ end.At → steps_at (record_form r) p.part ≡ Some ss → path_in (forms_in rs) p ≡ record { object = p.object; steps = ss; past = false }
path_is rs p r ss e a s =
    let f : slice_get (forms_in rs) p.object ≡ Some (record_form r) = get_map record_form rs p.object ∙ ap (option_map record_form) e in
    let q : option_and_then (steps_of p) (slice_get (forms_in rs) p.object) ≡ Some ss = ap (option_and_then (steps_of p)) f ∙ ap (λ n. option_and_then (marked (record_form r) n) (steps_at (record_form r) p.part)) a ∙ ap (option_and_then (marked (record_form r) end.At)) s in
    ap (λ (o : Option (List Step)). record { object = p.object; steps = unwrap_or o nowhere; past = is_past p.end }) q ∙ ap (λ n. record { object = p.object; steps = ss; past = is_past n }) a

pub here : (rs : List Record) (p : Place) (g : Form) (there dead : Bool) → p.end ≡ end.At → (s : StandsAt rs p g there dead)
    → Here (objects_of rs) (path_in (forms_in rs) p) (object_in (forms_in rs) s.rec) g (tree_of g (cells_in rs s.rec) p.part) there dead
here rs p g there dead a s =
    let w = s.walked in
    let f = record_form s.rec in
    let c = cells_in rs s.rec in
    let z : 0 + p.part ≡ p.part = omega arith in
    subst (λ (q : Path). Here (objects_of rs) q (object_in (forms_in rs) s.rec) g (tree_of g (cells_in rs s.rec) p.part) there dead) (sym (path_is rs p s.rec w.steps s.is_rec a w.are_steps)) (record {
      is_object = the_object rs p s.rec s.is_rec;
      not_past = refl;
      stands = below_tree f c 0 w.steps (p.part, g) w.leads ∙ ap (λ b. if b then Some (tree_of g c (0 + p.part)) else None) (sym w.is_open) ∙ ap (λ k. if there then Some (tree_of g c k) else None) z;
      stops = way_stops f c 0 w.steps (p.part, g) w.leads ∙ ap not (sym w.is_open);
      dies = way_dies f c 0 w.steps (p.part, g) w.leads ∙ sym w.is_dead;
    })

-- a list of tests of which each is as it should be

pub data Tests (t : Tables) (o : Object) (p : Path) (a : on.Access) : List (Bool × Rule) → List Rule → Type 0 where
  NoTest : Tests t o p a [] []
  Test : {b : Bool} {r : Rule} {xs : List (Bool × Rule)} {rs : List Rule} → b ≡ on.holds t o p a r → Tests t o p a xs rs → Tests t o p a ((b, r) ∷ xs) (r ∷ rs)

pub tests_find : (t : Tables) (o : Object) (p : Path) (a : on.Access) (xs : List (Bool × Rule)) (rs : List Rule) → Tests t o p a xs rs → first xs ≡ find (on.holds t o p a) rs
tests_find t o p a _ _ NoTest = refl
tests_find t o p a _ _ (Test {b = b} {r = r} {xs = xs} {rs = rs} e h) = ap (λ z. if z then Some r else first xs) e ∙ ap (λ z. if on.holds t o p a r then Some r else z) (tests_find t o p a xs rs h)

pub past_first : (t : Tables) (o : Object) (p : Path) (a : on.Access) (d b : Bool) (xs : List (Bool × Rule)) (rs : List Rule) → d ≡ o.released → b ≡ true → p.past ≡ true
    → first ((d, rule.Dangling) ∷ (b, rule.PastEnd) ∷ xs) ≡ find (on.holds t o p a) (rule.Dangling ∷ rule.PastEnd ∷ rs)
past_first t o p a d b xs rs e f g =
    ap (λ z. if z then Some rule.Dangling else if b then Some rule.PastEnd else first xs) e
    ∙ ap (λ z. if o.released then Some rule.Dangling else if z then Some rule.PastEnd else first xs) f
    ∙ sym (ap (λ z. if o.released then Some rule.Dangling else if z then Some rule.PastEnd else find (on.holds t o p a) rs) g)

pub end_cases : (e : End) → (e ≡ end.At) ⊎ (is_past e ≡ true)
end_cases end.At = inl refl
end_cases end.Past = inr refl
end_cases end.Last = inr refl

-- each list of tests begins alike
pub rules_are : (t : Tables) (rs : List Record) (p : Place) (c : Condition) (a : on.Access) (xs : List (Bool × Rule)) (rest : List Rule) → (k : IsCondition rs p c) → on.order a ≡ rule.Dangling ∷ rule.PastEnd ∷ rest
    → (p.end ≡ end.At → Tests t (object_in (forms_in rs) k.stands.rec) (path_in (forms_in rs) p) a xs rest)
    → first ((c.released, rule.Dangling) ∷ (c.past, rule.PastEnd) ∷ xs) ≡ on.broken t (objects_of rs) (path_in (forms_in rs) p) a
rules_are t rs p c a xs rest k e h =
    let o = object_in (forms_in rs) k.stands.rec in
    let q = path_in (forms_in rs) p in
    let here : on.broken t (objects_of rs) q a ≡ find (on.holds t o q a) (rule.Dangling ∷ rule.PastEnd ∷ rest) =
    ap (option_and_then (λ (o : Object). find (on.holds t o q a) (on.order a))) (the_object rs p k.stands.rec k.stands.is_rec) ∙ ap (find (on.holds t o q a)) e in
    (elim (end_cases p.end) as (λ _. first ((c.released, rule.Dangling) ∷ (c.past, rule.PastEnd) ∷ xs) ≡ find (on.holds t o q a) (rule.Dangling ∷ rule.PastEnd ∷ rest)) [
      | inl at ↦ tests_find t o q a ((c.released, rule.Dangling) ∷ (c.past, rule.PastEnd) ∷ xs) (rule.Dangling ∷ rule.PastEnd ∷ rest) (Test k.is_released (Test k.is_past (h at)))
      | inr past ↦ past_first t o q a c.released c.past xs rest k.is_released (k.is_past ∙ past) past
    ]) ∙ sym here

-- the conditions at a place that isn't past an end

abbrev pub tree_here : List Record → Place → Record → Form → Tree
tree_here rs p r g = tree_of g (cells_in rs r) p.part

pub passes_if : (test : Tree → Bool) (b : Bool) (x : Tree) → on.passes test (if b then Some x else None) ≡ (b && test x)
passes_if test true x = refl
passes_if test false x = refl

module _ (rs : List Record) (p : Place) (c : Condition) (k : IsCondition rs p c) (at : p.end ≡ end.At) where
  abbrev o : Object
  o = object_in (forms_in rs) k.stands.rec

  abbrev q : Path
  q = path_in (forms_in rs) p

  pub found_here : Here (objects_of rs) q o k.form (tree_here rs p k.stands.rec k.form) c.there k.dead
  found_here = here rs p k.form c.there k.dead at k.stands

  pub passes_here : (test : Tree → Bool) → on.passes test (below o.tree q.steps) ≡ (c.there && test (tree_here rs p k.stands.rec k.form))
  passes_here test = ap (on.passes test) found_here.stands ∙ passes_if test c.there (tree_here rs p k.stands.rec k.form)

  pub inactive_is : c.inactive ≡ (not (on.is_opaque o.birth) && list_any on.stops (on.on_way o.tree q.steps))
  inactive_is = k.is_inactive ∙ ap (λ b. not (on.is_opaque o.birth) && b) (sym found_here.stops)

  pub lifeless_is : c.lifeless ≡ (not (on.is_opaque o.birth) && (list_any (λ w. on.is_dead w.0) (on.on_way o.tree q.steps) || on.passes on.is_dead (below o.tree q.steps)))
  lifeless_is =
      k.is_lifeless
      ∙ ap (λ b. not (on.is_opaque o.birth) && (b || c.there && is_dead_class k.form (cells_in rs k.stands.rec p.part))) (sym found_here.dies)
      ∙ ap (λ b. not (on.is_opaque o.birth) && (list_any (λ w. on.is_dead w.0) (on.on_way o.tree q.steps) || b))
      (ap (λ b. c.there && b) (sym (dead_is k.form (cells_in rs k.stands.rec) p.part)) ∙ sym (passes_here on.is_dead))

-- the rules of each access

pub load_rules : (t : Tables) (rs : List Record) (p : Place) (c : Condition) (x : Bool) → (k : IsCondition rs p c) → (p.end ≡ end.At → x ≡ (c.there && on.is_indeterminate (tree_here rs p k.stands.rec k.form)))
    → first ((c.released, rule.Dangling) ∷ (c.past, rule.PastEnd) ∷ (c.opaque, rule.NotUsable) ∷ (c.inactive, rule.InactiveMember) ∷ (c.lifeless, rule.OutOfLifetime) ∷ (x, rule.Indeterminate) ∷ []) ≡ on.broken t (objects_of rs) (path_in (forms_in rs) p) on.Load
load_rules t rs p c x k h = rules_are t rs p c on.Load ((c.opaque, rule.NotUsable) ∷ (c.inactive, rule.InactiveMember) ∷ (c.lifeless, rule.OutOfLifetime) ∷ (x, rule.Indeterminate) ∷ []) (rule.NotUsable ∷ rule.InactiveMember ∷ rule.OutOfLifetime ∷ rule.Indeterminate ∷ []) k refl
    (λ at. Test k.is_opaque (Test (inactive_is rs p c k at) (Test (lifeless_is rs p c k at) (Test (h at ∙ sym (passes_here rs p c k at on.is_indeterminate)) NoTest))))

pub which_rules : (t : Tables) (rs : List Record) (p : Place) (c : Condition) → (k : IsCondition rs p c)
    → first ((c.released, rule.Dangling) ∷ (c.past, rule.PastEnd) ∷ (c.opaque, rule.NotUsable) ∷ (c.inactive, rule.InactiveMember) ∷ (c.lifeless, rule.OutOfLifetime) ∷ []) ≡ on.broken t (objects_of rs) (path_in (forms_in rs) p) on.Which
which_rules t rs p c k = rules_are t rs p c on.Which ((c.opaque, rule.NotUsable) ∷ (c.inactive, rule.InactiveMember) ∷ (c.lifeless, rule.OutOfLifetime) ∷ []) (rule.NotUsable ∷ rule.InactiveMember ∷ rule.OutOfLifetime ∷ []) k refl
    (λ at. Test k.is_opaque (Test (inactive_is rs p c k at) (Test (lifeless_is rs p c k at) NoTest)))

pub call_rules : (t : Tables) (rs : List Record) (p : Place) (c : Condition) → (k : IsCondition rs p c)
    → first ((c.released, rule.Dangling) ∷ (c.past, rule.PastEnd) ∷ (c.inactive, rule.InactiveMember) ∷ (c.lifeless, rule.OutOfLifetime) ∷ []) ≡ on.broken t (objects_of rs) (path_in (forms_in rs) p) on.Call
call_rules t rs p c k = rules_are t rs p c on.Call ((c.inactive, rule.InactiveMember) ∷ (c.lifeless, rule.OutOfLifetime) ∷ []) (rule.InactiveMember ∷ rule.OutOfLifetime ∷ []) k refl
    (λ at. Test (inactive_is rs p c k at) (Test (lifeless_is rs p c k at) NoTest))

pub init_rules : (t : Tables) (rs : List Record) (p : Place) (c : Condition) → (k : IsCondition rs p c)
    → first ((c.released, rule.Dangling) ∷ (c.past, rule.PastEnd) ∷ (c.outside, rule.OutsideWrite) ∷ (c.inactive, rule.InactiveMember) ∷ []) ≡ on.broken t (objects_of rs) (path_in (forms_in rs) p) on.Init
init_rules t rs p c k = rules_are t rs p c on.Init ((c.outside, rule.OutsideWrite) ∷ (c.inactive, rule.InactiveMember) ∷ []) (rule.OutsideWrite ∷ rule.InactiveMember ∷ []) k refl
    (λ at. Test k.is_outside (Test (inactive_is rs p c k at) NoTest))

pub activate_rules : (t : Tables) (rs : List Record) (p : Place) (c : Condition) → (k : IsCondition rs p c)
    → first ((c.released, rule.Dangling) ∷ (c.past, rule.PastEnd) ∷ (c.outside, rule.OutsideWrite) ∷ (c.inactive, rule.InactiveMember) ∷ []) ≡ on.broken t (objects_of rs) (path_in (forms_in rs) p) on.Activate
activate_rules t rs p c k = rules_are t rs p c on.Activate ((c.outside, rule.OutsideWrite) ∷ (c.inactive, rule.InactiveMember) ∷ []) (rule.OutsideWrite ∷ rule.InactiveMember ∷ []) k refl
    (λ at. Test k.is_outside (Test (inactive_is rs p c k at) NoTest))

pub store_rules : (t : Tables) (rs : List Record) (p : Place) (c : Condition) (x : Bool) → (k : IsCondition rs p c)
    → (p.end ≡ end.At → x ≡ on.holds t (object_in (forms_in rs) k.stands.rec) (path_in (forms_in rs) p) on.Store rule.ConstWrite)
    → first ((c.released, rule.Dangling) ∷ (c.past, rule.PastEnd) ∷ (c.outside, rule.OutsideWrite) ∷ (c.inactive, rule.InactiveMember) ∷ (c.lifeless, rule.OutOfLifetime) ∷ (x, rule.ConstWrite) ∷ []) ≡ on.broken t (objects_of rs) (path_in (forms_in rs) p) on.Store
store_rules t rs p c x k h = rules_are t rs p c on.Store ((c.outside, rule.OutsideWrite) ∷ (c.inactive, rule.InactiveMember) ∷ (c.lifeless, rule.OutOfLifetime) ∷ (x, rule.ConstWrite) ∷ []) (rule.OutsideWrite ∷ rule.InactiveMember ∷ rule.OutOfLifetime ∷ rule.ConstWrite ∷ []) k refl
    (λ at. Test k.is_outside (Test (inactive_is rs p c k at) (Test (lifeless_is rs p c k at) (Test (h at) NoTest))))

pub opaque_or : (n a b : Bool) → (n && a || n && b) ≡ (n && (a || b))
opaque_or true a b = refl
opaque_or false a b = refl

pub advance_rules : (t : Tables) (rs : List Record) (p : Place) (c : Condition) (to : Phase) (x y : Bool) → (k : IsCondition rs p c)
    → (p.end ≡ end.At → x ≡ (c.there && on.is_before to (tree_here rs p k.stands.rec k.form))) → y ≡ (c.dead || not c.opaque && not x)
    → first ((c.released, rule.Dangling) ∷ (c.past, rule.PastEnd) ∷ (c.outside, rule.OutsideWrite) ∷ (c.inactive, rule.InactiveMember) ∷ (y, rule.OutOfLifetime) ∷ []) ≡ on.broken t (objects_of rs) (path_in (forms_in rs) p) (on.Advance to)
advance_rules t rs p c to x y k h e = rules_are t rs p c (on.Advance to) ((c.outside, rule.OutsideWrite) ∷ (c.inactive, rule.InactiveMember) ∷ (y, rule.OutOfLifetime) ∷ []) (rule.OutsideWrite ∷ rule.InactiveMember ∷ rule.OutOfLifetime ∷ []) k refl
    (λ at. Test k.is_outside (Test (inactive_is rs p c k at) (Test (late at) NoTest)))
  where
    late : (at : p.end ≡ end.At) → y ≡ on.holds t (object_in (forms_in rs) k.stands.rec) (path_in (forms_in rs) p) (on.Advance to) rule.OutOfLifetime
    late at =
        let b = object_in (forms_in rs) k.stands.rec in
        e ∙ ap (λ z. z || not c.opaque && not x) (k.is_dead ∙ ap (λ z. not (on.is_opaque b.birth) && z) (sym (found_here rs p c k at).dies))
        ∙ ap (λ z. not (on.is_opaque b.birth) && list_any (λ w. on.is_dead w.0) (on.on_way b.tree (path_in (forms_in rs) p).steps) || not z && not x) k.is_opaque
        ∙ ap (λ z. not (on.is_opaque b.birth) && list_any (λ w. on.is_dead w.0) (on.on_way b.tree (path_in (forms_in rs) p).steps) || not (on.is_opaque b.birth) && not z) (h at ∙ sym (passes_here rs p c k at (on.is_before to)))
        ∙ opaque_or (not (on.is_opaque b.birth)) (list_any (λ w. on.is_dead w.0) (on.on_way b.tree (path_in (forms_in rs) p).steps)) (not (on.passes (on.is_before to) (below b.tree (path_in (forms_in rs) p).steps)))
