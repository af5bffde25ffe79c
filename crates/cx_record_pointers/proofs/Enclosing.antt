-- What encloses the end of a walk, step by step.
use Rattle.std.proofs.Common.{◌≡◌, ℕ, ◌+◌, ◌-◌, ◌≤◌, ◌==◌, Bool, true, false, ◌&&◌, not, is_some, List, [], ◌∷◌, ◌++◌, map, reverse, Option, None, Some, Ok, Err, refl, sym, ap, subst, ◌∙◌, slice_get, arith, if◌then◌else◌}
use Rattle.std.proofs.lemmas.List.{reverse-append}
use Rattle.std.proofs.lemmas.List.Folds.{find-append}
use Rattle.std.specs.List.{list_any, find}
use Rattle.std.specs.Option.{option_or}
use Rattle.std.specs.Prelude.{option_map, option_and_then, unwrap_or}
use Rattle.cx_base.specs.declared.rule.Rule.{Rule}
use Rattle.cx_base.specs.declared.rule.Rule.TheVariants as rule
use Rattle.cx_type_defs.proofs.Lists.{some_inj, option_map-some}
use Rattle.cx_type_defs.specs.declared.ids.Step.{Step}
use Rattle.cx_type_defs.specs.declared.ids.ClassId.{ClassId}
use Rattle.cx_type_defs.specs.declared.kind.TypeRow.{TypeRow}
use Rattle.cx_type_defs.specs.Tables.{Tables}
use Rattle.cx_state.specs.Objects.{Path, Object, Objects}
use Rattle.cx_state.specs.Places.{row_part, row_below, root_row}
use Rattle.cx_state.specs.Conditions as on
use Rattle.cx_state.specs.Steps.{unless, whole_path, outer}
use Rattle.cx_state.specs.Forms.{Knows}
use Rattle.cx_shapes.specs.Forms.{Form, Part, further, part_of, below_of, Way, way, steps_at}
use Rattle.cx_shapes.proofs.Numbering.{lead_steps}
use Rattle.cx_records.specs.declared.place.Place.{Place}
use Rattle.cx_records.specs.declared.place.End.TheVariants as end
use Rattle.cx_records.specs.declared.record.Record.{Record}
use Rattle.cx_records.specs.declared.check.Condition.{Condition}
use Rattle.cx_records.specs.Fits.{Fits}
use Rattle.cx_records.specs.Checks.{first, IsCondition}
use Rattle.cx_records.specs.Records.{record_form, forms_in, path_in, object_in, objects_of}
use Rattle.cx_records.proofs.Checking.{numbered}
use Rattle.cx_records.proofs.Reading.{not_past}
use Rattle.cx_records.proofs.Rules.{path_is, the_object, rules_are, Test, NoTest}
use Rattle.cx_record_pointers.specs.declared.enclose.Enclosing.{Enclosing}
use Rattle.cx_record_pointers.specs.Enclosing.{is_class, is_class_below, nearest_in, IsPart, Encloses, or_here, outer_of, IsNearest}
use Rattle.cx_record_pointers.proofs.Meetings.{onward}

-- lists

find_map : {A B : Type 0} (p : B → Bool) (g : A → B) (xs : List A) → find p (map g xs) ≡ option_map g (find (λ x. p (g x)) xs)
find_map p g [] = refl
find_map p g (x ∷ xs) = go (p (g x)) (find_map p g xs)
  where
    go : (b : Bool) → find p (map g xs) ≡ option_map g (find (λ x. p (g x)) xs) → (if b then Some (g x) else find p (map g xs)) ≡ option_map g (if b then Some x else find (λ x. p (g x)) xs)
    go true h = refl
    go false h = h

find_same : {A : Type 0} (p q : A → Bool) → ((x : A) → p x ≡ q x) → (xs : List A) → find p xs ≡ find q xs
find_same p q h [] = refl
find_same p q h (x ∷ xs) = ap (λ b. if b then Some x else find p xs) (h x) ∙ ap (λ o. if q x then Some x else o) (find_same p q h xs)

map_append : {A B : Type 0} (g : A → B) (xs ys : List A) → map g (xs ++ ys) ≡ map g xs ++ map g ys
map_append g [] ys = refl
map_append g (x ∷ xs) ys = ap (λ l. g x ∷ l) (map_append g xs ys)

reverse_map : {A B : Type 0} (g : A → B) (xs : List A) → reverse (map g xs) ≡ map g (reverse xs)
reverse_map g [] = refl
reverse_map g (x ∷ xs) =
    reverse-append (g x ∷ []) (map g xs)
    ∙ ap (λ l. l ++ g x ∷ []) (reverse_map g xs)
    ∙ sym (map_append g (reverse xs) (x ∷ []))
    ∙ ap (map g) (sym (reverse-append (x ∷ []) xs))

-- one step more

here_or : (t : Tables) (r : TypeRow) (c : ClassId) (b : Bool) → find (is_class_below t r c) (reverse (if b then [] ∷ [] else [])) ≡ (if b && is_class c r.kind then Some [] else None)
here_or t r c true = refl
here_or t r c false = refl

pub nearest_more : (t : Tables) (r q : TypeRow) (c : ClassId) (s : Step) (ss : List Step) → row_part t r s ≡ Some q
    → nearest_in t r c (s ∷ ss) ≡ option_or (option_map (λ us. s ∷ us) (nearest_in t q c ss)) (if on.all_bases (s ∷ ss) && is_class c r.kind then Some [] else None)
nearest_more t r q c s ss e =
    let first = if on.all_bases (s ∷ ss) then [] ∷ [] else [] in
    let inner = map (λ us. s ∷ us) (on.enclosing ss) in
    let below : (us : List Step) → is_class_below t r c (s ∷ us) ≡ is_class_below t q c us = λ us. ap (λ o. list_any (λ (d : ClassId). d.0 == c.0) (on.listed (option_and_then (λ (q : TypeRow). on.class_of q.kind) (option_and_then (λ (q : TypeRow). row_below t q us) o)))) e in
    ap (find (is_class_below t r c)) (reverse-append first inner)
    ∙ find-append (is_class_below t r c) (reverse inner) (reverse first)
    ∙ ap (λ l. option_or (find (is_class_below t r c) l) (find (is_class_below t r c) (reverse first))) (reverse_map (λ us. s ∷ us) (on.enclosing ss))
    ∙ ap (λ o. option_or o (find (is_class_below t r c) (reverse first))) (find_map (is_class_below t r c) (λ us. s ∷ us) (reverse (on.enclosing ss)) ∙ ap (option_map (λ us. s ∷ us)) (find_same (λ us. is_class_below t r c (s ∷ us)) (is_class_below t q c) below (reverse (on.enclosing ss))))
    ∙ ap (option_or (option_map (λ us. s ∷ us) (nearest_in t q c ss))) (here_or t r c (on.all_bases (s ∷ ss)))

part_more : (f : Form) (b : ℕ) (s : Step) (p : Part) (here : Bool) (n : Option ℕ) (o : Option (List Step)) → part_of f s ≡ Some p → IsPart p.1 (b + p.0) n o
    → IsPart f b (or_here n here b) (option_or (option_map (λ us. s ∷ us) o) (if here then Some [] else None))
part_more f b s p here (Some n) (Some us) e h =
    let z : n ≡ b + p.0 + h.0.0 = h.2 in
    (further p.0 h.0, ap (option_and_then (λ (q : Part). option_map (further q.0) (below_of q.1 us))) e ∙ ap (option_map (further p.0)) h.1, omega arith)
part_more f b s p true None None e h = ((0, f), refl, omega arith)
part_more f b s p false None None e h = tt
part_more f b s p here (Some n) None e h = absurd h
part_more f b s p here None (Some us) e h = absurd h

pub encloses_here : (t : Tables) (f : Form) (r : TypeRow) (b : ℕ) (c : ClassId) (here : Bool) (n : Option ℕ) → here ≡ is_class c r.kind → n ≡ or_here None here b
    → (ss : List Step) → Some [] ≡ Some ss → Encloses t f r b c ss (record { bases = true; nearest = n })
encloses_here t f r b c here n e is ss h = subst (λ us. Encloses t f r b c us (record { bases = true; nearest = n })) (some_inj [] ss h) (record {
  is_bases = refl;
  is_nearest = subst (λ m. IsPart f b m (nearest_in t r c [])) (sym (is ∙ ap (λ d. or_here None d b) e)) (go (is_class c r.kind));
})
  where
    go : (d : Bool) → IsPart f b (or_here None d b) (if d then Some [] else None)
    go true = ((0, f), refl, omega arith)
    go false = tt

pub encloses_more : (t : Tables) (f : Form) (r q : TypeRow) (b rest : ℕ) (c : ClassId) (w : Way) (here base bases all : Bool) (inner e : Enclosing) → 1 ≤ rest → way f (rest - 1) ≡ Some w → row_part t r w.0 ≡ Some q
    → here ≡ is_class c r.kind → base ≡ on.is_base w.0 → bases ≡ (base && inner.bases) → all ≡ (bases && here) → e ≡ record { bases = bases; nearest = or_here inner.nearest all b }
    → ((us : List Step) → steps_at w.2 (rest - w.1) ≡ Some us → Encloses t w.2 q (b + w.1) c us inner)
    → (ss : List Step) → steps_at f rest ≡ Some ss → Encloses t f r b c ss e
encloses_more t f r q b rest c w here base bases all inner e l ew eq is_here is_base is_bases is_all is h ss es =
    let x = onward f rest w ss l ew es in
    let i = h x.rest x.are_rest in
    let bs : bases ≡ on.all_bases (w.0 ∷ x.rest) = is_bases ∙ ap (λ d. d && inner.bases) is_base ∙ ap (λ d. on.is_base w.0 && d) i.is_bases in
    let al : all ≡ (on.all_bases (w.0 ∷ x.rest) && is_class c r.kind) = is_all ∙ ap (λ d. d && here) bs ∙ ap (λ d. on.all_bases (w.0 ∷ x.rest) && d) is_here in
    subst (λ us. Encloses t f r b c us e) x.in_order (subst (Encloses t f r b c (w.0 ∷ x.rest)) (sym is) (record {
      is_bases = bs;
      is_nearest = subst (λ d. IsPart f b (or_here inner.nearest d b) (nearest_in t r c (w.0 ∷ x.rest))) (sym al)
          (subst (IsPart f b (or_here inner.nearest (on.all_bases (w.0 ∷ x.rest) && is_class c r.kind) b)) (sym (nearest_more t r q c w.0 x.rest eq))
          (part_more f b w.0 (w.1, w.2) (on.all_bases (w.0 ∷ x.rest) && is_class c r.kind) inner.nearest (nearest_in t q c x.rest) x.is_part i.is_nearest));
    }))

-- at a known place

abbrev part_place : ℕ → ℕ → Place
part_place o j = record { object = o; part = j; end = end.At }

map_through : {A B C : Type 0} (g : B → C) (h : A → Option B) (o : Option A) → option_and_then (λ x. option_map g (h x)) o ≡ option_map g (option_and_then h o)
map_through g h None = refl
map_through g h (Some x) = refl

is_some_map : {A B : Type 0} (g : A → B) (o : Option A) → is_some (option_map g o) ≡ is_some o
is_some_map g None = refl
is_some_map g (Some x) = refl

pub nearest_place : (t : Tables) (rs : List Record) (live : ℕ) (p : Place) (c : ClassId) (r : Record) (row : TypeRow) (e : Enclosing) → Fits t rs live → Knows t (objects_of rs) (path_in (forms_in rs) p) → slice_get rs p.object ≡ Some r → root_row t (object_in (forms_in rs) r) ≡ Some row
    → ((ss : List Step) → steps_at (record_form r) p.part ≡ Some ss → Encloses t (record_form r) row 0 c ss e)
    → (found : Option ℕ) → e.nearest ≡ found → IsNearest t rs p c (option_map (part_place p.object) found)
nearest_place t rs live p c r row e f k is_rec is_row h found is at =
    let n = numbered t rs live p f k in
    let same : n.rec ≡ r = some_inj n.rec r (sym n.is_rec ∙ is_rec) in
    let w = h n.steps (ap (λ (z : Record). steps_at (record_form z) p.part) (sym same) ∙ n.are_steps) in
    let part : IsPart (record_form r) 0 found (nearest_in t row c n.steps) = subst (λ m. IsPart (record_form r) 0 m (nearest_in t row c n.steps)) is w.is_nearest in
    let q : Path = record { object = p.object; steps = n.steps; past = false } in
    go found (nearest_in t row c n.steps) part
    ∙ sym (
    ap (λ x. outer_of t rs x c) (path_is rs p n.rec n.steps n.is_rec at n.are_steps)
    ∙ ap (option_and_then (λ (o : Object). option_map (whole_path q) (on.outer_in t o c n.steps))) (the_object rs p r is_rec)
    ∙ ap (λ o. option_map (whole_path q) (find (λ us. list_any (λ (d : ClassId). d.0 == c.0) (on.listed (option_and_then (λ (r : TypeRow). option_and_then (λ (q : TypeRow). on.class_of q.kind) (row_below t r us)) o))) (reverse (on.enclosing n.steps)))) is_row
    )
  where
    go : (found : Option ℕ) (o : Option (List Step)) → IsPart (record_form r) 0 found o → option_map (path_in (forms_in rs)) (option_map (part_place p.object) found) ≡ option_map (λ us. record { object = p.object; steps = us; past = false }) o
    go None None h = refl
    go (Some j) (Some us) h =
        let z : h.0.0 ≡ j = (let y = h.2 in omega arith) in
        ap Some (path_is rs (part_place p.object j) r us is_rec refl (ap (steps_at (record_form r)) (sym z) ∙ lead_steps h.0.0 (record_form r) us h.0 h.1 (omega arith)))
    go (Some j) None h = absurd h
    go None (Some us) h = absurd h

nearest_steps : (t : Tables) (rs : List Record) (p : Place) (c : ClassId) (r : Record) (found : Option Place) → slice_get rs p.object ≡ Some r → IsNearest t rs p c found → p.end ≡ end.At
    → option_map (path_in (forms_in rs)) found ≡ option_map (whole_path (path_in (forms_in rs) p)) (on.outer_in t (object_in (forms_in rs) r) c (path_in (forms_in rs) p).steps)
nearest_steps t rs p c r found is_rec h at =
    let q = path_in (forms_in rs) p in
    h at ∙ ap (option_and_then (λ (o : Object). option_map (whole_path q) (on.outer_in t o c q.steps))) (the_object rs p r is_rec)

pub outer_rules : (t : Tables) (rs : List Record) (p : Place) (c : ClassId) (x : Condition) (found : Option Place) (none : Bool) → (k : IsCondition rs p x) → IsNearest t rs p c found → none ≡ not (is_some found)
    → first ((x.released, rule.Dangling) ∷ (x.past, rule.PastEnd) ∷ (none, rule.DownCast) ∷ []) ≡ on.broken t (objects_of rs) (path_in (forms_in rs) p) (on.Outer c)
outer_rules t rs p c x found none k h e = rules_are t rs p x (on.Outer c) ((none, rule.DownCast) ∷ []) (rule.DownCast ∷ []) k refl (λ at. Test (lacks at) NoTest)
  where
    q : Path
    q = path_in (forms_in rs) p

    lacks : p.end ≡ end.At → none ≡ not (is_some (on.outer_in t (object_in (forms_in rs) k.stands.rec) c q.steps))
    lacks at =
        e ∙ ap not (
        sym (is_some_map (path_in (forms_in rs)) found)
        ∙ ap (λ (o : Option Path). is_some o) (nearest_steps t rs p c k.stands.rec found k.stands.is_rec h at)
        ∙ is_some_map (whole_path q) (on.outer_in t (object_in (forms_in rs) k.stands.rec) c q.steps)
        )

pub outer_broken : (t : Tables) (os : Objects) (q : Path) (c : ClassId) (r : Rule) → on.broken t os q (on.Outer c) ≡ Some r → Err r ≡ outer t os q c
outer_broken t os q c r b = sym (ap (λ o. unless o (whole_path q (unwrap_or (option_and_then (λ (o : Object). on.outer_in t o c q.steps) (slice_get os q.object)) q.steps))) b)

-- what is found where no rule is broken
pub outer_is : (t : Tables) (rs : List Record) (p : Place) (c : ClassId) (x : Condition) (place : Place) → (k : IsCondition rs p x) → IsNearest t rs p c (Some place) → on.broken t (objects_of rs) (path_in (forms_in rs) p) (on.Outer c) ≡ None
    → Ok (path_in (forms_in rs) place) ≡ outer t (objects_of rs) (path_in (forms_in rs) p) c
outer_is t rs p c x place k h b =
    let q = path_in (forms_in rs) p in
    let os = objects_of rs in
    let at = not_past t rs p (on.Outer c) (rule.DownCast ∷ []) k.stands.rec k.stands.is_rec refl b in
    let m = option_map-some (whole_path q) (option_and_then (λ (o : Object). on.outer_in t o c q.steps) (slice_get os q.object)) (path_in (forms_in rs) place) (sym (h at ∙ map_through (whole_path q) (λ (o : Object). on.outer_in t o c q.steps) (slice_get os q.object))) in
    ap Ok (sym m.2 ∙ ap (λ o. whole_path q (unwrap_or o q.steps)) (sym m.1))
    ∙ sym (ap (λ o. unless o (whole_path q (unwrap_or (option_and_then (λ (o : Object). on.outer_in t o c q.steps) (slice_get os q.object)) q.steps))) b)
