-- Changes of whole objects.
use Rattle.std.proofs.Common.{◌≡◌, ℕ, zero, suc, ◌+◌, ◌-◌, ◌<◌, ◌==◌, Bool, true, false, ◌&&◌, not, List, [], ◌∷◌, length, map, sum, Option, None, Some, Ok, Err, refl, sym, ap, subst, ◌∙◌, slice_get, get_or, slice_set, arith, if◌then◌else◌}
use Rattle.std.specs.Prelude.{option_map, option_and_then}
use Rattle.cx_base.specs.declared.rule.Rule.{Rule}
use Rattle.cx_base.specs.declared.rule.Rule.TheVariants as rule
use Rattle.cx_type_defs.proofs.Lists.{some_inj}
use Rattle.cx_types.proofs.Totals.{sum-cons}
use Rattle.cx_type_defs.specs.Tables.{Tables, no_types, changed_at}
use Rattle.cx_state.specs.declared.kind.Birth.{Birth}
use Rattle.cx_state.specs.declared.kind.Birth.TheVariants as birth
use Rattle.cx_state.specs.declared.kind.Phase.{Phase}
use Rattle.cx_state.specs.declared.kind.Phase.TheVariants as phase
use Rattle.cx_state.specs.Objects as tree
use Rattle.cx_state.specs.Objects.{Path, Tree, Trees, Object, Objects, put}
use Rattle.std.specs.List.{find}
use Rattle.cx_state.specs.Places.{row_of}
use Rattle.cx_state.specs.Conditions as on
use Rattle.cx_state.specs.Steps as steps
use Rattle.cx_state.specs.Counts.{cells_in, is_live, live_cells}
use Rattle.cx_state.specs.Forms.{Knows, Fit}
use Rattle.cx_state.proofs.EndedTrees.{Fit-release, Fit-settle}
use Rattle.cx_state.proofs.Stepped.{Fit-advance}
use Rattle.cx_store.specs.Stores.{Changed, IsPresent, IsHereAt, IsClassAt, is_class_kind}
use Rattle.cx_shapes.specs.Forms.{Form, Forms, Leaf, Row, Class, Union, End, More, size, sizes}
use Rattle.cx_shapes.specs.Contents.{Cell, Cells, fresh, tree_of, trees_of, row_trees, union_tree, active_tree}
use Rattle.cx_shapes.proofs.Parting.{trees_same}
use Rattle.cx_shapes.proofs.Numbering.{size_pos}
use Rattle.cx_records.specs.declared.place.Place.{Place}
use Rattle.cx_records.specs.declared.place.End.TheVariants as end
use Rattle.cx_records.specs.declared.record.Content.TheVariants as content
use Rattle.cx_records.specs.declared.record.Contents.TheVariants as contents
use Rattle.cx_records.specs.declared.record.Record.{Record}
use Rattle.cx_records.specs.declared.check.Condition.{Condition}
use Rattle.cx_records.specs.Records.{path_in, cells_of, record_form, forms_in, object_in, objects_of}
use Rattle.cx_records.specs.Fits.{Fits, live_in, live_of}
use Rattle.cx_records.specs.Checks.{cells_in as cells_at, IsCondition}
use Rattle.cx_records.specs.Writes.{Puts, Written, IsGivenUp, cells_counted}
use Rattle.cx_records.proofs.Placed.{get_map, get_at, length_map, lent}
use Rattle.cx_records.proofs.Checking.{numbered, standing}
use Rattle.cx_records.proofs.Rules.{the_object, tree_here}
use Rattle.cx_records.proofs.Reading.{not_past, typed, of_row, class_form}
use Rattle.cx_records.proofs.Writing.{forms_set, objects_set, live_set, fits_set, map_set, rewrite, fits_rewritten, objects_put, with_same, one_cell, cell_here, Gives, changed_ok, changed_err}

-- the end of a tree's life

pub ended_row : (n : ℕ) (t u : ℕ → Tree) (k b : ℕ) → ((a : ℕ) → steps.ended (t a) ≡ u a) → steps.all_ended (row_trees n t k b) ≡ row_trees n u k b
ended_row zero t u k b h = refl
ended_row (suc n) t u k b h = ap (λ x. tree.More x (steps.all_ended (row_trees n t k (b + k)))) (h b) ∙ ap (tree.More (u b)) (ended_row n t u k (b + k) h)

pub ended_union : (o : Option ℕ) (xs : Trees) → steps.ended (union_tree o xs) ≡ tree.Union
ended_union None xs = refl
ended_union (Some m) xs = go (tree.tree_at xs m)
  where
    go : (x : Option Tree) → steps.ended (active_tree m x) ≡ tree.Union
    go None = refl
    go (Some x) = refl

abbrev pub all_fresh : Phase → Cells
all_fresh p k = fresh p

mutual
  pub ended_is : (f : Form) (c : Cells) (b : ℕ) → steps.ended (tree_of f c b) ≡ tree_of f (all_fresh phase.Ended) b
  ended_is Leaf c b = refl
  ended_is (Row n f) c b = ap tree.Row (ended_row n (tree_of f c) (tree_of f (all_fresh phase.Ended)) (size f) (b + 1) (λ a. ended_is f c a))
  ended_is (Class bs ms) c b =
      ap (λ x. tree.Class phase.Ended x (steps.all_ended (trees_of ms c (b + suc (sizes bs))))) (all_ended_is bs c (b + 1))
      ∙ ap (tree.Class phase.Ended (trees_of bs (all_fresh phase.Ended) (b + 1))) (all_ended_is ms c (b + suc (sizes bs)))
  ended_is (Union ms) c b = ended_union (c b).member (trees_of ms c (b + 1))

  all_ended_is : (fs : Forms) (c : Cells) (b : ℕ) → steps.all_ended (trees_of fs c b) ≡ trees_of fs (all_fresh phase.Ended) b
  all_ended_is End c b = refl
  all_ended_is (More f fs) c b =
      ap (λ x. tree.More x (steps.all_ended (trees_of fs c (b + size f)))) (ended_is f c b) ∙ ap (tree.More (tree_of f (all_fresh phase.Ended) b)) (all_ended_is fs c (b + size f))

-- release

abbrev pub give_up : Record → Record
give_up r = record r { released = true; contents = contents.Same phase.Ended }

pub given_up_is : (fs : List Form) (r : Record) → object_in fs (give_up r) ≡ steps.given_up (object_in fs r)
given_up_is fs r = ap (λ x. record (object_in fs r) { released = true; tree = x }) (sym (ended_is (record_form r) (cells_of fs r.contents) 0))

pub sum_less : (xs : List ℕ) (n x : ℕ) → slice_get xs n ≡ Some x → sum (slice_set xs n 0) ≡ sum xs - x
sum_less xs n x e = let w = go xs n x e in omega arith
  where
    go : (xs : List ℕ) (n x : ℕ) → slice_get xs n ≡ Some x → sum (slice_set xs n 0) + x ≡ sum xs
    go [] n x e = absurd (cc)
    go (a ∷ xs) zero x e = let w : a ≡ x = some_inj a x e in let u = sum-cons a xs in let v = sum-cons 0 xs in omega arith
    go (a ∷ xs) (suc n) x e = let w = go xs n x e in let u = sum-cons a xs in let v = sum-cons a (slice_set xs n 0) in omega arith

pub counted_live : (r : Record) → r.released ≡ false → live_in r ≡ cells_counted r
counted_live r e = ap (λ b. if r.counted && not b then r.cells else 0) e ∙ go r.counted
  where
    go : (b : Bool) → (if b && true then r.cells else 0) ≡ (if b then r.cells else 0)
    go true = refl
    go false = refl

pub none_live : (r : Record) → live_in (give_up r) ≡ 0
none_live r = go r.counted
  where
    go : (b : Bool) → (if b && false then r.cells else 0) ≡ 0
    go true = refl
    go false = refl

pub released_rule : (rs : List Record) (p : Place) (r : Record) → slice_get rs p.object ≡ Some r → on.broken no_types (objects_of rs) (path_in (forms_in rs) p) on.Release ≡ (if r.released then Some rule.Dangling else None)
released_rule rs p r e = ap (option_and_then (λ (o : Object). find (on.holds no_types o (path_in (forms_in rs) p) on.Release) (on.order on.Release))) (the_object rs p r e)

pub release_refused : (rs : List Record) (p : Place) (r : Record) → slice_get rs p.object ≡ Some r → r.released ≡ true → Changed (steps.release (objects_of rs) (path_in (forms_in rs) p)) (objects_of rs) (objects_of rs) (Err rule.Dangling)
release_refused rs p r e d =
    changed_err (on.broken no_types (objects_of rs) (path_in (forms_in rs) p) on.Release) rule.Dangling (changed_at steps.given_up (objects_of rs) p.object) (objects_of rs)
    (released_rule rs p r e ∙ ap (λ b. if b then Some rule.Dangling else None) d)

pub record Released (rs new : List Record) (p : Place) : Type 0 where
  pub objects : objects_of new ≡ changed_at steps.given_up (objects_of rs) p.object
  pub forms : forms_in new ≡ forms_in rs

pub released_is : (rs : List Record) (before : ℕ) (new : List Record) (after : ℕ) (p : Place) → IsGivenUp rs before new after p.object → Released rs new p
released_is rs before new after p g = record {
  objects = ap objects_of g.is_new ∙ objects_set rs p.object g.rec (give_up g.rec) steps.given_up g.is_rec refl (given_up_is (forms_in rs) g.rec);
  forms = ap forms_in g.is_new ∙ forms_set rs p.object g.rec (give_up g.rec) g.is_rec refl;
}

pub release_done : (rs : List Record) (before : ℕ) (new : List Record) (after : ℕ) (p : Place) (r : Record) → slice_get rs p.object ≡ Some r → r.released ≡ false → IsGivenUp rs before new after p.object
    → Changed (steps.release (objects_of rs) (path_in (forms_in rs) p)) (objects_of rs) (objects_of new) (Ok tt)
release_done rs before new after p r e d g =
    changed_ok (on.broken no_types (objects_of rs) (path_in (forms_in rs) p) on.Release) (changed_at steps.given_up (objects_of rs) p.object) (objects_of rs) (objects_of new)
    (released_rule rs p r e ∙ ap (λ b. if b then Some rule.Dangling else None) d) (released_is rs before new after p g).objects

pub release_fits : (t : Tables) (rs : List Record) (before : ℕ) (new : List Record) (after : ℕ) (p : Place) (r : Record) → slice_get rs p.object ≡ Some r → r.released ≡ false → IsGivenUp rs before new after p.object → Fits t rs before → Fits t new after
release_fits t rs before new after p r e d g f =
    let q = path_in (forms_in rs) p in
    let same : r ≡ g.rec = some_inj r g.rec (sym e ∙ g.is_rec) in
    let alive : g.rec.released ≡ false = ap (λ (x : Record). x.released) (sym same) ∙ d in
    let h = f.kept p.object g.rec g.is_rec in
    let w = released_is rs before new after p g in
    let ok : steps.release (objects_of rs) q ≡ Ok (objects_of new) = ap (λ o. steps.unless o (changed_at steps.given_up (objects_of rs) p.object)) (released_rule rs p r e ∙ ap (λ b. if b then Some rule.Dangling else None) d) ∙ ap Ok (sym w.objects) in
    let live : after ≡ live_of (slice_set rs p.object (give_up g.rec)) =
    g.is_live ∙ ap (λ n. n - cells_counted g.rec) f.count ∙ ap (λ n. live_of rs - n) (sym (counted_live g.rec alive))
    ∙ sym (ap sum (map_set live_in rs p.object (give_up g.rec) ∙ ap (slice_set (map live_in rs) p.object) (none_live g.rec)) ∙ sum_less (map live_in rs) p.object (live_in g.rec) (get_map live_in rs p.object ∙ ap (option_map live_in) g.is_rec)) in
    subst (λ (z : List Record). Fits t z after) (sym g.is_new) (fits_set t rs before p.object (give_up g.rec) f
    (record { row = h.row; is_row = h.is_row; form = h.form; small = h.small; full = tt; held = λ m. absurd (never (on.is_here g.rec.birth) m); cells = h.cells })
    (subst (λ (z : List Record). Fit t (objects_of z)) g.is_new (Fit-release t (objects_of rs) (objects_of new) q f.fit ok)) after live)
  where
    never : (b : Bool) → (b && false) ≡ true → ⊥
    never true m = cc
    never false m = cc

-- birth

abbrev pub born : Birth → Record → Record
born b r = record r { birth = b }

pub settled_is : (rs : List Record) (n : ℕ) (r : Record) (b : Birth) → slice_get rs n ≡ Some r → objects_of (slice_set rs n (born b r)) ≡ changed_at (λ (o : Object). record o { birth = b }) (objects_of rs) n
settled_is rs n r b e = objects_set rs n r (born b r) (λ (o : Object). record o { birth = b }) e refl refl

pub settled_forms : (rs : List Record) (n : ℕ) (r : Record) (b : Birth) → slice_get rs n ≡ Some r → forms_in (slice_set rs n (born b r)) ≡ forms_in rs
settled_forms rs n r b e = forms_set rs n r (born b r) e refl

pub here_birth : (rs : List Record) (p : Place) (r : Record) → slice_get rs p.object ≡ Some r → IsHereAt (objects_of rs) (path_in (forms_in rs) p) → on.is_here r.birth ≡ true
here_birth rs p r e h =
    let x : Some r.birth ≡ Some birth.Here = sym (ap (option_map (λ (o : Object). o.birth)) (the_object rs p r e)) ∙ h in
    ap on.is_here (some_inj r.birth birth.Here x)

pub settled_fits : (t : Tables) (rs : List Record) (live : ℕ) (p : Place) (r : Record) (b : Birth) → slice_get rs p.object ≡ Some r → IsHereAt (objects_of rs) (path_in (forms_in rs) p) → Fits t rs live → Fits t (slice_set rs p.object (born b r)) live
settled_fits t rs live p r b e i f =
    let h = f.kept p.object r e in
    fits_set t rs live p.object (born b r) f
    (record { row = h.row; is_row = h.is_row; form = h.form; small = h.small; full = h.full; held = λ m. h.held (ap (λ v. v && not r.released) (here_birth rs p r e i) ∙ second (on.is_here b) (not r.released) m); cells = h.cells })
    (subst (Fit t) (sym (settled_is rs p.object r b e)) (Fit-settle t (objects_of rs) (path_in (forms_in rs) p) b f.fit)) live
    (f.count ∙ sym (live_set rs p.object r (born b r) e refl))
  where
    second : (a b : Bool) → (a && b) ≡ true → b ≡ true
    second true b e = e
    second false b e = absurd (cc)

-- the cells that are live

pub live_is : (t : Tables) (fs : List Form) (r : Record) → cells_in t (object_in fs r) ≡ r.cells → live_in r ≡ (if is_live (object_in fs r) then cells_in t (object_in fs r) else 0)
live_is t fs r e = ap (λ n. if r.counted && not r.released then n else 0) (sym e)

pub live_sum : (t : Tables) (fs : List Form) (rs : List Record) → ((n : ℕ) (r : Record) → slice_get rs n ≡ Some r → cells_in t (object_in fs r) ≡ r.cells) → live_of rs ≡ live_cells t (map (object_in fs) rs)
live_sum t fs [] h = refl
live_sum t fs (r ∷ rs) h =
    sum-cons (live_in r) (map live_in rs) ∙
    ap (λ n. n + live_of rs) (live_is t fs r (h 0 r refl))
    ∙ ap (λ n. (if is_live (object_in fs r) then cells_in t (object_in fs r) else 0) + n) (live_sum t fs rs (λ n x e. h (suc n) x e))
    ∙ sym (sum-cons (if is_live (object_in fs r) then cells_in t (object_in fs r) else 0) (map (λ (o : Object). if is_live o then cells_in t o else 0) (map (object_in fs) rs)))

pub live_cells_are : (t : Tables) (rs : List Record) (live : ℕ) → Fits t rs live → live ≡ live_cells t (objects_of rs)
live_cells_are t rs live f = f.count ∙ live_sum t (forms_in rs) rs (λ n r e. (f.kept n r e).cells)

-- another phase

pub phase_here : (g : Form) (bs ms : Forms) (c d : Cells) (b : ℕ) (to : Phase) → g ≡ Class bs ms → d b ≡ fresh to → ((k : ℕ) → b < k → k < b + size g → c k ≡ d k) → steps.with_phase to (tree_of g c b) ≡ tree_of g d b
phase_here g bs ms c d b to e h s =
    subst (λ x. ((k : ℕ) → b < k → k < b + size x → c k ≡ d k) → steps.with_phase to (tree_of x c b) ≡ tree_of x d b) (sym e)
    (λ s. ap (λ (y : Cell). tree.Class y.phase (trees_of bs c (b + 1)) (trees_of ms c (b + suc (sizes bs)))) (sym h)
    ∙ ap (λ x. tree.Class (d b).phase x (trees_of ms c (b + suc (sizes bs)))) (trees_same bs c d (b + 1) (record { same = λ k l r. s k (omega arith) (omega arith) }))
    ∙ ap (tree.Class (d b).phase (trees_of bs d (b + 1))) (trees_same ms c d (b + suc (sizes bs)) (record { same = λ k l r. s k (omega arith) (omega arith) }))) s

pub given_phase : (t : Tables) (rs new : List Record) (live : ℕ) (p : Place) (to : Phase) (rest : List Rule) → Fits t rs live → Knows t (objects_of rs) (path_in (forms_in rs) p) → IsClassAt t (objects_of rs) (path_in (forms_in rs) p)
    → on.broken t (objects_of rs) (path_in (forms_in rs) p) (on.Advance to) ≡ None → Written rs new p (content.Phase to) → Gives t rs new live p (steps.with_phase to)
given_phase t rs new live p to rest f n s b w =
    let m = numbered t rs live p f n in
    let a : p.end ≡ end.At = not_past t rs p (on.Advance to) (rule.OutsideWrite ∷ rule.InactiveMember ∷ rule.OutOfLifetime ∷ []) m.rec m.is_rec refl b in
    let k = standing t rs live p f n in
    let st = k.stands in
    let y = typed t rs live p k.form k.there k.dead f n a k.stands in
    let q = class_form t k.form y.row.kind y.form (of_row (λ r. is_class_kind t r.kind ≡ true) (row_of t (objects_of rs) (path_in (forms_in rs) p)) y.row s y.is_row) in
    let r : w.rec ≡ st.rec = some_inj w.rec st.rec (sym w.is_rec ∙ st.is_rec) in
    let e : new ≡ slice_set rs p.object (rewrite st.rec w.now) = w.is_new ∙ ap (λ x. slice_set rs p.object (rewrite x w.now)) r in
    let u : Puts p.part (content.Phase to) st.rec.contents w.now = subst (λ (x : Record). Puts p.part (content.Phase to) x.contents w.now) r w.put in
    let fs = forms_in rs in
    let c = cells_at rs st.rec in
    let d = cells_of fs w.now in
    let h = f.kept p.object st.rec st.is_rec in
    let but = one_cell c d p.part (fresh to) (size (record_form st.rec)) (size k.form) (u.cells fs) (size_pos k.form) in
    record {
      objects = ap objects_of e ∙ objects_put rs p k.form k.there k.dead st w.now (steps.with_phase to) a but
          (phase_here k.form q.0 q.1 c d p.part to q.2 (cell_here c d p.part (fresh to) (u.cells fs)) (λ j l o. sym (u.cells fs j ∙ with_same p.part (fresh to) c j (λ z. absurd (omega arith)))));
      forms = ap forms_in e ∙ forms_set rs p.object st.rec (rewrite st.rec w.now) st.is_rec refl;
      fits = λ x. subst (λ (z : List Record). Fits t z live) (sym e) (fits_rewritten t rs live p.object st.rec w.now f st.is_rec (u.full (record_form st.rec) h.full) u.each (subst (λ (z : List Record). Fit t (objects_of z)) e x));
    }

pub advance_fits : (t : Tables) (rs new : List Record) (live : ℕ) (p : Place) (to : Phase) → Fits t rs live → on.broken t (objects_of rs) (path_in (forms_in rs) p) (on.Advance to) ≡ None → objects_of new ≡ put (steps.with_phase to) (objects_of rs) (path_in (forms_in rs) p) → Fit t (objects_of new)
advance_fits t rs new live p to f b e =
    let q = path_in (forms_in rs) p in
    let os = objects_of rs in
    let ok : steps.advance t os q to ≡ Ok (put (steps.with_phase to) os q) = ap (λ o. steps.unless o (put (steps.with_phase to) os q)) b in
    subst (Fit t) (sym e) (Fit-advance t os (put (steps.with_phase to) os q) q to f.fit ok)

-- the phase before it

pub before_is : (g : Form) (bs ms : Forms) (c : Cells) (b : ℕ) (to : Phase) → g ≡ Class bs ms → on.is_before to (tree_of g c b) ≡ (suc (on.phase_number (c b).phase) == on.phase_number to)
before_is g bs ms c b to e = ap (λ x. on.is_before to (tree_of x c b)) e

pub advance_before : (t : Tables) (rs : List Record) (live : ℕ) (p : Place) (c : Condition) (to : Phase) → Fits t rs live → Knows t (objects_of rs) (path_in (forms_in rs) p) → IsClassAt t (objects_of rs) (path_in (forms_in rs) p) → (k : IsCondition rs p c)
    → (r : Record) → slice_get rs p.object ≡ Some r → (ph : Phase) → ((fs : List Form) → ph ≡ (cells_of fs r.contents p.part).phase) → (b x : Bool) → b ≡ (suc (on.phase_number ph) == on.phase_number to) → x ≡ (c.there && b)
    → p.end ≡ end.At → x ≡ (c.there && on.is_before to (tree_here rs p k.stands.rec k.form))
advance_before t rs live p c to f n s k r e ph h b x u v a =
    let y = typed t rs live p k.form c.there k.dead f n a k.stands in
    let q = class_form t k.form y.row.kind y.form (of_row (λ r. is_class_kind t r.kind ≡ true) (row_of t (objects_of rs) (path_in (forms_in rs) p)) y.row s y.is_row) in
    let z : ph ≡ (cells_at rs k.stands.rec p.part).phase = h (forms_in rs) ∙ ap (λ (r : Record). (cells_at rs r p.part).phase) (some_inj r k.stands.rec (sym e ∙ k.stands.is_rec)) in
    v ∙ ap (λ w. c.there && w) (u ∙ ap (λ w. suc (on.phase_number w) == on.phase_number to) z ∙ sym (before_is k.form q.0 q.1 (cells_at rs k.stands.rec) p.part to q.2))

-- the record of a place whose object is there
pub present_record : (rs : List Record) (p : Place) → IsPresent (objects_of rs) (path_in (forms_in rs) p) → (r : Record) → r ≡ get_or rs p.object r → slice_get rs p.object ≡ Some r
present_record rs p h r e =
    let l : length (objects_of rs) ≡ length rs = length_map (object_in (forms_in rs)) rs in
    let w : p.object < length rs = subst (λ n. p.object < n) l h in
    let x = get_at rs p.object w in
    lent rs p.object x.0 r x.1 e
